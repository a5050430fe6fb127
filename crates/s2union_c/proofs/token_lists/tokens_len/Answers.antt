use Rattle.std.proofs.Common.{◌+◌, ◌<◌, length, length-append, take, get_or, ap, arith}
use Rattle.s2cell.specs.Token.{token_of}
use Rattle.s2union_c.specs.Working.Texts.{piece}
use Rattle.s2union_c.specs.Texts.{tokens_of}
use Rattle.s2union_c.proofs.Joining.{tokens_more, tokens_within}
use Rattle.s2union_c.proofs.token_lists.tokens_len.Goals as goal

pub returns-in-None : goal.returns-in-None
returns-in-None c =
    let u = c.args.ids.now in
    let k = c.loop-k.k in
    let h : k < length u = omega (arith, c.loop-k-test.true) in
    let front = tokens_of (take k u) in
    let more = ap length (tokens_more u k h) in
    let len = length-append front (piece k (token_of (get_or u k 0))) in
    let within = tokens_within u (k + 1) in
    let p = c.piece_len.ensures in
    let v = c.loop-k.invariant in
    let e = c.in-None.ensures in
    omega arith

pub loop-k-preserved : goal.loop-k-preserved
loop-k-preserved c =
    let u = c.args.ids.now in
    let k = c.loop-k.k in
    let h : k < length u = omega (arith, c.loop-k-test.true) in
    let front = tokens_of (take k u) in
    let more = ap length (tokens_more u k h) in
    let len = length-append front (piece k (token_of (get_or u k 0))) in
    let p = c.piece_len.ensures in
    let v = c.loop-k.invariant in
    let e = c.in-Some.ensures in
    omega arith

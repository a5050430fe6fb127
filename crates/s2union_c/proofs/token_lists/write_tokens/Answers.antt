use Rattle.std.proofs.Common.{◌≡◌, ◌+◌, ◌<◌, ◌++◌, length, length-append, take, get_or, ap, sym, ◌∙◌, arith}
use Rattle.std.proofs.lemmas.List.{take_all}
use Rattle.s2cell.specs.Token.{token_of}
use Rattle.s2union_c.specs.Working.Texts.{piece}
use Rattle.s2union_c.specs.Texts.{tokens_of}
use Rattle.s2union_c.proofs.Joining.{tokens_more, tokens_within}
use Rattle.s2union_c.proofs.token_lists.write_tokens.Goals as goal

pub append_piece-at-requires : goal.append_piece-at-requires
append_piece-at-requires c =
    let u = c.args.ids.now in
    let k = c.loop-k.k in
    let h : k < length u = omega (arith, c.loop-k-test.true) in
    let same : length (piece k (token_of c.cell_of.result)) ≡ length (piece k (token_of (get_or u k 0))) =
    ap (λ n. length (piece k (token_of n))) c.cell_of.ensures in
    let more = ap length (tokens_more u k h) in
    let len = length-append (tokens_of (take k u)) (piece k (token_of (get_or u k 0))) in
    let within = tokens_within u (k + 1) in
    let all = c.requires.room in
    let at = c.loop-k.invariant.at_is in
    let room = c.loop-k.invariant.room in
    omega arith

pub loop-k-preserved : goal.loop-k-preserved
loop-k-preserved c =
    let u = c.args.ids.now in
    let k = c.loop-k.k in
    let h : k < length u = omega (arith, c.loop-k-test.true) in
    let front = tokens_of (take k u) in
    let is : front ++ piece k (token_of c.cell_of.result) ≡ tokens_of (take (k + 1) u) =
    ap (λ n. front ++ piece k (token_of n)) c.cell_of.ensures ∙ sym (tokens_more u k h) in
    let same = ap length is in
    let len = length-append front (piece k (token_of c.cell_of.result)) in
    let end = c.append_piece-at.ensures.end in
    let at = c.loop-k.invariant.at_is in
    record {
      at_is = omega arith;
      front = c.append_piece-at.ensures.front
          ∙ ap (λ t. t ++ piece k (token_of c.cell_of.result)) c.loop-k.invariant.front ∙ is;
      room = c.append_piece-at.ensures.len ∙ c.loop-k.invariant.room;
    }

pub returns : goal.returns
returns c =
    let u = c.args.ids.now in
    let k = c.loop-k.k in
    let text = c.loop-k.text in
    let done : take k u ≡ u = take_all k u (omega (arith, c.loop-k-test.false)) in
    let same = ap (λ t. length (tokens_of t)) done in
    let at = c.loop-k.invariant.at_is in
    let room = c.loop-k.invariant.room in
    let need = c.requires.room in
    sym (take_all c.loop-k.at text (omega arith)) ∙ c.loop-k.invariant.front ∙ ap tokens_of done

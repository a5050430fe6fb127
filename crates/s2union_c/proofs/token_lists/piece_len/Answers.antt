use Rattle.std.proofs.Common.{◌≡◌, ◌∷◌, length, ap, arith}
use Rattle.s2cell.specs.Token.{token_of}
use Rattle.s2cell.proofs.Tokens.{length-token_of}
use Rattle.s2union_c.specs.Working.Texts.{piece}
use Rattle.s2union_c.proofs.Joining.{piece_first, piece_later}
use Rattle.s2union_c.proofs.token_lists.piece_len.Goals as goal

pub returns-then-k-eq0 : goal.returns-then-k-eq0
returns-then-k-eq0 c =
    let token = token_of c.args.id in
    let same : length (token_of c.cell_of.result) ≡ length token = ap (λ n. length (token_of n)) c.cell_of.ensures in
    let first : length (piece c.args.k token) ≡ length token = ap length (piece_first c.args.k token c.if-k-eq0.true) in
    let l = c.token_len-len.ensures in
    omega arith

pub returns-else-k-eq0 : goal.returns-else-k-eq0
returns-else-k-eq0 c =
    let token = token_of c.args.id in
    let same : length (token_of c.cell_of.result) ≡ length token = ap (λ n. length (token_of n)) c.cell_of.ensures in
    let later : length (piece c.args.k token) ≡ length (32 ∷ token) =
    ap length (piece_later c.args.k token (omega arith)) in
    let l = c.token_len-len.ensures in
    omega arith

pub overflow_add-result : goal.overflow_add-result
overflow_add-result c =
    let most = length-token_of c.cell_of.result in
    let l = c.token_len-len.ensures in
    omega arith

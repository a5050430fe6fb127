use Rattle.std.proofs.Common.{◌≡◌, ◌∷◌, length, ap, arith}
use Rattle.std.proofs.lemmas.List.{length-set}
use Rattle.s2cell.specs.Token.{token_of}
use Rattle.s2union_c.specs.Working.Texts.{piece}
use Rattle.s2union_c.proofs.Joining.{piece_first, piece_later}
use Rattle.s2union_c.proofs.Pieces.{blank_written}
use Rattle.s2union_c.proofs.token_lists.append_piece.Goals as goal

pub append_token-requires : goal.append_token-requires
append_token-requires c = rw (piece_first c.args.k (token_of c.args.cell) c.if-k-eq0.true) at c.requires

pub returns-then-k-eq0-clause-end : goal.returns-then-k-eq0-clause-end
returns-then-k-eq0-clause-end c =
    rw (piece_first c.args.k (token_of c.args.cell) c.if-k-eq0.true) c.append_token.ensures.end

pub returns-then-k-eq0-clause-front : goal.returns-then-k-eq0-clause-front
returns-then-k-eq0-clause-front c =
    rw (piece_first c.args.k (token_of c.args.cell) c.if-k-eq0.true) c.append_token.ensures.front

pub bounds-text-at : goal.bounds-text-at
bounds-text-at c =
    let r = rw (piece_later c.args.k (token_of c.args.cell) (omega arith)) at c.requires in
    omega arith

pub append_token-requires-2 : goal.append_token-requires-2
append_token-requires-2 c =
    let r = rw (piece_later c.args.k (token_of c.args.cell) (omega arith)) at c.requires in
    let len = length-set c.args.text.now c.args.at 32 in
    omega arith

pub returns-clause-end : goal.returns-clause-end
returns-clause-end c =
    let token = token_of c.args.cell in
    let is : length (piece c.args.k token) ≡ length (32 ∷ token) = ap length
    (piece_later c.args.k token (omega arith)) in
    let e = c.append_token-2.ensures.end in
    omega arith

pub returns-clause-front : goal.returns-clause-front
returns-clause-front c =
    let token = token_of c.args.cell in
    let r = rw (piece_later c.args.k token (omega arith)) at c.requires in
    rw (piece_later c.args.k token (omega arith)) (blank_written c.args.at c.append_token-2.result c.args.text.now
    c.append_token-2.new.text token (omega arith) c.append_token-2.ensures.front)

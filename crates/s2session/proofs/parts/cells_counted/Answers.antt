use Rattle.std.proofs.Common.{◌≡◌, ◌+◌, ◌*◌, ◌≤◌, ℕ, List, ◌++◌, length, take, drop, ap, ◌∙◌, sym, arith}
use Rattle.std.proofs.lemmas.Bool.{MatchBool-at_false}
use Rattle.std.proofs.lemmas.List.{take-append-drop, length-take-le}
use Rattle.std.proofs.lemmas.Result.{err_from_is_err_and}
use Rattle.s2shelf.proofs.Given.{none_left}
use Rattle.s2session.proofs.Taking.{joined, failed}
use Rattle.s2session.proofs.TakingCells.{cells_more, cells_end, cells_refused, length_more}
use Rattle.s2session.proofs.parts.cells_counted.Goals as goal

pub returns-in_err-has : goal.returns-in_err-has
returns-in_err-has g c =
    let p = err_from_is_err_and c.from_residual.result c.from_residual.ensures.1 in
    rw (p.1, p.2) (failed c.in_err-has.field-0.0 _ c.in_err-has.ensures.has
    (joined c.pieces.invariant.taken.is c.in_err-has.ensures.kept))

pub returns-then-not-branch : goal.returns-then-not-branch
returns-then-not-branch g c =
    let few = MatchBool-at_false _ _ c.if-not-branch.true c.in_ok-has.ensures.has in
    cells_end c.pieces.invariant.taken c.has.new.self c.in_ok-has.ensures.kept c.args.count
    (none_left g.F.Read.remaining c.has.new.file few.1) few.0
    (omega (arith, c.pieces-test.true, c.len.ensures, c.pieces.cells.ok.0))

pub returns-in_err-push_cells : goal.returns-in_err-push_cells
returns-in_err-push_cells g c =
    let p = err_from_is_err_and c.from_residual-in_err-push_cells.result c.from_residual-in_err-push_cells.ensures.1 in
    let xs : List ℕ = c.pieces.cells.items in
    let size : ℕ = 8 * c.min-here.result in
    let slice : List ℕ = c.as_slice-bytes.result.now in
    let front : List ℕ = take size slice in
    let fits : size ≤ length slice = omega (arith, c.min-here.ensures) in
    let len : length front ≡ 8 * c.min-here.result = length-take-le size slice fits in
    let most : c.min-here.result + length xs ≤ c.args.count = omega (
      arith,
      c.min-here.ensures,
      c.len-in-pieces.ensures,
      c.pieces.cells.ok.0,
      c.pieces.invariant.few,
    ) in
    rw (p.1, p.2) (cells_refused c.pieces.invariant.taken c.has.new.self c.in_ok-has.ensures.kept c.args.count
    c.in_err-push_cells.field-0.0 front (drop size slice)
    (sym c.as_slice-bytes.ensures ∙ sym (take-append-drop size slice)) (omega (arith, len, most))
    c.in_err-push_cells.ensures)

pub pieces-preserved : goal.pieces-preserved
pieces-preserved g c =
    let xs : List ℕ = c.pieces.cells.items in
    let ys : List ℕ = c.push_cells.new.cells.items in
    let size : ℕ = 8 * c.min-here.result in
    let slice : List ℕ = c.as_slice-bytes.result.now in
    let front : List ℕ = take size slice in
    let fits : size ≤ length slice = omega (arith, c.min-here.ensures) in
    let len : length front ≡ 8 * c.min-here.result = length-take-le size slice fits in
    let most : c.min-here.result + length xs ≤ c.args.count = omega (
      arith,
      c.min-here.ensures,
      c.len-in-pieces.ensures,
      c.pieces.cells.ok.0,
      c.pieces.invariant.few,
    ) in
    record {
      taken = cells_more c.pieces.invariant.taken c.has.new.self c.consume.new.self c.in_ok-has.ensures.kept
          (sym c.as_slice-bytes.ensures ∙ sym (take-append-drop size slice) ∙ ap (λ (l : List ℕ). front ++ l)
          (ap (drop size) c.as_slice-bytes.ensures ∙ sym c.consume.ensures)) c.in_ok-push_cells.ensures;
      few = omega (arith, most, length_more c.min-here.result len c.in_ok-push_cells.ensures);
    }

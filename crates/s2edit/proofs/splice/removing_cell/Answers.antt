use Rattle.std.proofs.Common.{◌≡◌, ◌+◌, ◌-◌, ◌<◌, ◌∷◌, ◌&&◌, not, [], ℕ, Bool, List, length}
use Rattle.std.proofs.Common.{take, drop, get_or, refl, sym, subst}
use Rattle.s2cell.specs.Cell.{IsInside}
use Rattle.s2list.specs.Union.{has_leaf, IsLocal}
use Rattle.s2list.specs.Sets.{difference_of}
use Rattle.s2edit.specs.Diff.{IsDiff}
use Rattle.s2edit.specs.Working.Named.{Gives}
use Rattle.s2edit.proofs.Replacing.{cut_place, removed_place, found_gives, found_place}
use Rattle.s2edit.proofs.Splicing.{cut_out, cut_lists, removed, removed_lists, run_order, ok_then, ok_both, leaves_at}
use Rattle.s2edit.proofs.splice.removing_cell.Goals.{In_ok-put, After-new-none}
use Rattle.s2edit.proofs.splice.removing_cell.Goals as goal

-- the leaves of a list without those of a cell
abbrev rest : ℕ → List ℕ → ℕ → Bool
rest k u = difference_of (has_leaf u) (has_leaf (k ∷ []))

-- what is left of the cell that holds the other
module _ (c : In_ok-put) where
  local : IsLocal c.cells-list.result.now
  local = subst IsLocal (sym c.cells-list.ensures.value) c.cells-list.ensures.local

  held : (c.place_of-from.result < length c.cells-list.result.now)
      × IsInside c.args.cell (get_or c.cells-list.result.now c.place_of-from.result 0)
  held = c.holds_at.ensures.0 c.if-holds_at.true

  left : (x : ℕ) → has_leaf c.in_ok-put.put.items x
      ≡ (has_leaf (get_or c.cells-list.result.now c.place_of-from.result 0 ∷ []) x
      && not (has_leaf (c.args.cell ∷ []) x))
  left = leaves_at c.cells-list.result.now c.place_of-from.result c.index-list-from.result c.args.cell
      c.in_ok-put.put.items held.0 c.index-list-from.is c.in_ok-put.ensures.leaves

  own : Gives (rest c.args.cell c.cells-list.result.now) c.args.register c.cells-list.result.now (record {
    register = c.args.register;
    out = take (c.place_of-from.result + 1 - c.place_of-from.result)
        (drop c.place_of-from.result c.cells-list.result.now);
    put = c.in_ok-put.put.items;
  })
  own = cut_out c.cells-list.result.now c.args.cell c.place_of-from.result local c.place_of-from.ensures.cell
      held.0 held.1 c.in_ok-put.put.items c.in_ok-put.ensures.local left c.args.register

pub replacing-requires-clause-lists : goal.replacing-requires-clause-lists
replacing-requires-clause-lists c =
    let w = (goal.at.replacing-requires-clause-lists c).In_ok-put in
    cut_lists c.cells-list.result.now c.args.cell c.place_of-from.result (local w) c.place_of-from.ensures.cell
    (held w).0 (held w).1 c.in_ok-put.put.items c.in_ok-put.ensures.local (left w)

pub returns-then-holds_at-clause-gives : goal.returns-then-holds_at-clause-gives
returns-then-holds_at-clause-gives c = ok_then c.replacing.result c.replacing.ensures.change
    (λ f e. found_gives (rest c.args.cell) c.args.register _ _ f.0 _ _ _ c.cells-list.ensures.value refl
    e (own (goal.at.returns-then-holds_at-clause-gives c).In_ok-put))

pub returns-then-holds_at-clause-place : goal.returns-then-holds_at-clause-place
returns-then-holds_at-clause-place c =
    let w = (goal.at.returns-then-holds_at-clause-place c).In_ok-put in
    ok_both c.replacing.result c.replacing.ensures.change c.replacing.ensures.from
    (λ f e g. found_place c.args.register _ _ f.0 _ _ _ _ f.1 c.cells-list.ensures.value refl
    e g (cut_place c.cells-list.result.now c.place_of-from.result c.args.register
    (local w) (held w).0 (rest c.args.cell c.cells-list.result.now) c.in_ok-put.put.items c.args.cell
    c.in_ok-put.ensures.local (left w) (own w)))

-- the run in the cell
module _ (c : After-new-none) where
  list_local : IsLocal c.cells-list.result.now
  list_local = subst IsLocal (sym c.cells-list.ensures.value) c.cells-list.ensures.local

  run_own : Gives (rest c.args.cell c.cells-list.result.now) c.args.register c.cells-list.result.now (record {
    register = c.args.register;
    out = take (c.run_in-run.result.to - c.run_in-run.result.from)
        (drop c.run_in-run.result.from c.cells-list.result.now);
    put = [];
  })
  run_own = let r = c.run_in-run.ensures.run in
      subst (λ (k : ℕ). Gives (rest k c.cells-list.result.now) c.args.register c.cells-list.result.now (record {
        register = c.args.register;
        out = take (c.run_in-run.result.to - c.run_in-run.result.from)
            (drop c.run_in-run.result.from c.cells-list.result.now);
        put = [];
      })) c.run_in-run.ensures.cell (removed c.cells-list.result.now c.run_in-run.result.cell
      c.run_in-run.result.from c.run_in-run.result.to list_local r.is_cell r.first r.last r.unheld c.args.register)

pub replacing-requires-2-clause-order : goal.replacing-requires-2-clause-order
replacing-requires-2-clause-order c =
    let r = c.run_in-run.ensures.run in (
      run_order c.cells-list.result.now c.run_in-run.result.cell c.run_in-run.result.from c.run_in-run.result.to
          (list_local (goal.at.replacing-requires-2-clause-order c).After-new-none) r.is_cell r.first r.last r.unheld,
      r.last.within,
    )

pub replacing-requires-2-clause-lists : goal.replacing-requires-2-clause-lists
replacing-requires-2-clause-lists c =
    let r = c.run_in-run.ensures.run in
    subst (IsDiff (take (c.run_in-run.result.to - c.run_in-run.result.from)
    (drop c.run_in-run.result.from c.cells-list.result.now))) (sym c.new-none.ensures.items)
    (removed_lists c.cells-list.result.now c.run_in-run.result.cell c.run_in-run.result.from c.run_in-run.result.to
    (list_local (goal.at.replacing-requires-2-clause-lists c).After-new-none) r.is_cell r.first r.last r.unheld)

pub returns-clause-gives : goal.returns-clause-gives
returns-clause-gives c = ok_then c.replacing-2.result c.replacing-2.ensures.change
    (λ f e. found_gives (rest c.args.cell) c.args.register _ _ f.0 _ _ _ c.cells-list.ensures.value
    c.new-none.ensures.items e (run_own (goal.at.returns-clause-gives c).After-new-none))

pub returns-clause-place : goal.returns-clause-place
returns-clause-place c =
    let w = (goal.at.returns-clause-place c).After-new-none in
    let r = c.run_in-run.ensures.run in
    ok_both c.replacing-2.result c.replacing-2.ensures.change c.replacing-2.ensures.from
    (λ f e g. found_place c.args.register _ _ f.0 _ _ _ _ f.1 c.cells-list.ensures.value c.new-none.ensures.items
    e g (removed_place c.cells-list.result.now c.run_in-run.result.cell c.run_in-run.result.from
    c.run_in-run.result.to c.args.register (list_local w) r.is_cell r.first r.last r.unheld
    (rest c.args.cell c.cells-list.result.now) (run_own w)))

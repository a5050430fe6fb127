use Rattle.std.proofs.Common.{◌≡◌, ◌-◌, ◌<◌, ◌∷◌, ◌++◌, [], ℕ, Bool, List, length, take, drop}
use Rattle.std.proofs.Common.{get_or, ap, sym, subst, ◌∙◌}
use Rattle.s2cell.specs.Cell.{IsInside}
use Rattle.s2list.specs.Union.{has_leaf, IsLocal}
use Rattle.s2list.specs.Sets.{union_of}
use Rattle.s2edit.specs.Diff.{IsDiff}
use Rattle.s2edit.specs.Working.Named.{Gives}
use Rattle.s2edit.specs.Working.Splice.{Completes}
use Rattle.s2edit.proofs.Replacing.{kept_place, added_place, found_gives, found_place}
use Rattle.s2edit.proofs.Splicing.{kept, kept_lists, added, added_lists, run_order, ok_then, ok_both}
use Rattle.s2edit.proofs.splice.adding_cell.Goals.{After-new-none, In_ok-push}
use Rattle.s2edit.proofs.splice.adding_cell.Goals as goal

-- the leaves of a list and of a cell
abbrev sum : ℕ → List ℕ → ℕ → Bool
sum k u = union_of (has_leaf u) (has_leaf (k ∷ []))

-- if a cell of the list holds the cell
module _ (c : After-new-none) where
  local : IsLocal c.cells-list.result.now
  local = subst IsLocal (sym c.cells-list.ensures.value) c.cells-list.ensures.local

  held : (c.place_of-from.result < length c.cells-list.result.now)
      × IsInside c.args.cell (get_or c.cells-list.result.now c.place_of-from.result 0)
  held = c.holds_at.ensures.0 c.if-holds_at.true

  own : Gives (sum c.args.cell c.cells-list.result.now) c.args.register c.cells-list.result.now (record {
    register = c.args.register;
    out = take (c.place_of-from.result - c.place_of-from.result)
        (drop c.place_of-from.result c.cells-list.result.now);
    put = [];
  })
  own = kept c.cells-list.result.now c.args.cell c.place_of-from.result local c.place_of-from.ensures.cell
      held.0 held.1 c.args.register

pub replacing-requires-clause-lists : goal.replacing-requires-clause-lists
replacing-requires-clause-lists c =
    let w = (goal.at.replacing-requires-clause-lists c).After-new-none in
    subst (IsDiff (take (c.place_of-from.result - c.place_of-from.result)
    (drop c.place_of-from.result c.cells-list.result.now))) (sym c.new-none.ensures.items)
    (kept_lists c.cells-list.result.now c.args.cell c.place_of-from.result (local w) c.place_of-from.ensures.cell
    (held w).0 (held w).1)

pub returns-then-holds_at-clause-gives : goal.returns-then-holds_at-clause-gives
returns-then-holds_at-clause-gives c = ok_then c.replacing.result c.replacing.ensures.change
    (λ f e. found_gives (sum c.args.cell) c.args.register _ _ f.0 _ _ _ c.cells-list.ensures.value
    c.new-none.ensures.items e (own (goal.at.returns-then-holds_at-clause-gives c).After-new-none))

pub returns-then-holds_at-clause-place : goal.returns-then-holds_at-clause-place
returns-then-holds_at-clause-place c =
    let w = (goal.at.returns-then-holds_at-clause-place c).After-new-none in
    ok_both c.replacing.result c.replacing.ensures.change c.replacing.ensures.from
    (λ f e g. found_place c.args.register _ _ f.0 _ _ _ _ f.1 c.cells-list.ensures.value c.new-none.ensures.items
    e g (kept_place c.cells-list.result.now c.place_of-from.result c.args.register (local w) (held w).0
    (sum c.args.cell c.cells-list.result.now) (own w)))

-- if the cell, or a greater one, takes the place of a run
module _ (c : In_ok-push) where
  run_local : IsLocal c.cells-list.result.now
  run_local = subst IsLocal (sym c.cells-list.ensures.value) c.cells-list.ensures.local

  put_is : c.push.new.self.items ≡ c.completed-run.result.cell ∷ []
  put_is = c.in_ok-push.ensures.items
      ∙ ap (λ (l : List ℕ). l ++ c.completed-run.result.cell ∷ []) c.in_ok-put.ensures.items

  run_own : Gives (sum c.args.cell c.cells-list.result.now) c.args.register c.cells-list.result.now (record {
    register = c.args.register;
    out = take (c.completed-run.result.to - c.completed-run.result.from)
        (drop c.completed-run.result.from c.cells-list.result.now);
    put = c.completed-run.result.cell ∷ [];
  })
  run_own = let r = c.completed-run.ensures.run in
      added c.cells-list.result.now c.completed-run.result.cell c.completed-run.result.from
      c.completed-run.result.to run_local r.is_cell r.first r.last r.unheld c.completed-run.ensures.greatest
      c.args.cell c.args.register
      (subst (λ (a : ℕ). Completes c.cells-list.result.now a c.completed-run.result.cell) c.run_in-own.ensures.cell
      c.completed-run.ensures.completes)

pub replacing-requires-2-clause-order : goal.replacing-requires-2-clause-order
replacing-requires-2-clause-order c =
    let r = c.completed-run.ensures.run in (
      run_order c.cells-list.result.now c.completed-run.result.cell c.completed-run.result.from
          c.completed-run.result.to (run_local (goal.at.replacing-requires-2-clause-order c).In_ok-push) r.is_cell
          r.first r.last r.unheld,
      r.last.within,
    )

pub replacing-requires-2-clause-lists : goal.replacing-requires-2-clause-lists
replacing-requires-2-clause-lists c =
    let w = (goal.at.replacing-requires-2-clause-lists c).In_ok-push in
    let r = c.completed-run.ensures.run in
    subst (IsDiff (take (c.completed-run.result.to - c.completed-run.result.from)
    (drop c.completed-run.result.from c.cells-list.result.now))) (sym (put_is w))
    (added_lists c.cells-list.result.now c.completed-run.result.cell c.completed-run.result.from
    c.completed-run.result.to (run_local w) r.is_cell r.first r.last r.unheld c.completed-run.ensures.greatest)

pub returns-clause-gives : goal.returns-clause-gives
returns-clause-gives c =
    let w = (goal.at.returns-clause-gives c).In_ok-push in
    ok_then c.replacing-2.result c.replacing-2.ensures.change
    (λ f e. found_gives (sum c.args.cell) c.args.register _ _ f.0 _ _ _ c.cells-list.ensures.value (put_is w) e
    (run_own w))

pub returns-clause-place : goal.returns-clause-place
returns-clause-place c =
    let w = (goal.at.returns-clause-place c).In_ok-push in
    let r = c.completed-run.ensures.run in
    ok_both c.replacing-2.result c.replacing-2.ensures.change c.replacing-2.ensures.from
    (λ f e g. found_place c.args.register _ _ f.0 _ _ _ _ f.1 c.cells-list.ensures.value (put_is w) e g
    (added_place c.cells-list.result.now c.completed-run.result.cell c.completed-run.result.from
    c.completed-run.result.to c.args.register (run_local w) r.is_cell r.first r.last r.unheld
    (sum c.args.cell c.cells-list.result.now) (run_own w)))

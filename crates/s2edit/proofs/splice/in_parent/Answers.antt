use Rattle.std.proofs.Common.{◌≡◌, ◌+◌, ◌-◌, ◌<◌, ℕ, refl, sym, ap, ◌∙◌, subst, arith}
use Rattle.s2cell.specs.Cell.{IsCell, level_of, first_leaf, size_of, parent_of}
use Rattle.s2list.specs.Packed.{IsPlace}
use Rattle.s2edit.specs.Working.Splice.{above}
use Rattle.s2edit.proofs.Completing.{above_cell, above_shallow, child_begins, child_ends, run_up, sibling_had}
use Rattle.s2edit.proofs.Completing.{siblings_from}
use Rattle.s2edit.proofs.splice.in_parent.Goals.{After-place_among-place}
use Rattle.s2edit.proofs.splice.in_parent.Goals as goal

deep : (c : After-place_among-place) → 0 < level_of c.args.run.now.cell
deep c = omega (arith, c.level-level.ensures.value, c.if-level-eq0.false)

-- the parent
parent_is : (c : After-place_among-place) → c.parent-parent.result ≡ above c.args.run.now.cell
parent_is c = c.parent-parent.ensures.value
    ∙ ap (λ (k : ℕ). parent_of c.args.run.now.cell (k - 1)) c.level-level.ensures.value

parent_cell : (c : After-place_among-place) → IsCell c.parent-parent.result
parent_cell c = subst IsCell (sym (parent_is c)) (above_cell c.args.run.now.cell c.requires.run.is_cell (deep c))

parent_inner : (c : After-place_among-place) → level_of c.parent-parent.result < 30
parent_inner c =
    omega (arith, ap level_of (parent_is c), above_shallow c.args.run.now.cell c.requires.run.is_cell (deep c))

pub place_among-place-requires-clause-parent : goal.place_among-place-requires-clause-parent
place_among-place-requires-clause-parent c = c.parent-parent.ensures.value
    ∙ ap (λ (k : ℕ). parent_of c.args.run.now.cell (k - 1)) c.level-level.ensures.value

pub before_all-requires-clause-at : goal.before_all-requires-clause-at
before_all-requires-clause-at c =
    let w = (goal.at.before_all-requires-clause-at c).After-place_among-place in
    subst (λ (x : ℕ). IsPlace c.args.list.now x c.args.run.now.from)
    (ap first_leaf (sym c.place_among-place.ensures.child)
    ∙ child_begins c.parent-parent.result c.place_among-place.result (parent_cell w) (parent_inner w)
    c.place_among-place.ensures.few) c.requires.run.first

pub after_all-requires-clause-at : goal.after_all-requires-clause-at
after_all-requires-clause-at c =
    let w = (goal.at.after_all-requires-clause-at c).After-place_among-place in
    subst (λ (x : ℕ). IsPlace c.args.list.now x c.args.run.now.to)
    (ap (λ (k : ℕ). first_leaf k + size_of k) (sym c.place_among-place.ensures.child)
    ∙ child_ends c.parent-parent.result c.place_among-place.result (parent_cell w) (parent_inner w)
    c.place_among-place.ensures.few) c.requires.run.last

pub returns-in_err-from-clause-none : goal.returns-in_err-from-clause-none
returns-in_err-from-clause-none c e s =
    let w = (goal.at.returns-in_err-from-clause-none c).After-place_among-place in
    c.in_err-from.ensures.none refl (λ j l. sibling_had c.args.list.now c.args.run.now.cell c.parent-parent.result
    c.place_among-place.result j c.requires.run.is_cell s (parent_is w) c.place_among-place.ensures.few
    c.place_among-place.ensures.child (omega (arith, l, c.place_among-place.ensures.few)) (λ f. omega (arith, l, f)))

pub returns-in_err-to-clause-none : goal.returns-in_err-to-clause-none
returns-in_err-to-clause-none c e s =
    let w = (goal.at.returns-in_err-to-clause-none c).After-place_among-place in
    c.in_err-to.ensures.none refl (λ j l m. sibling_had c.args.list.now c.args.run.now.cell c.parent-parent.result
    c.place_among-place.result j c.requires.run.is_cell s (parent_is w) c.place_among-place.ensures.few
    c.place_among-place.ensures.child m (λ f. omega (arith, l, f)))

pub returns-clause-run : goal.returns-clause-run
returns-clause-run c =
    let w = (goal.at.returns-clause-run c).After-place_among-place in
    run_up c.args.list.now c.args.run.now _ c.requires.run (deep w) (parent_is w)
    (subst (λ (p : ℕ). IsPlace c.args.list.now (first_leaf p) c.in_ok-from.from) (parent_is w)
    c.in_ok-from.ensures.first)
    (subst (λ (p : ℕ). IsPlace c.args.list.now (first_leaf p + size_of p) c.in_ok-to.to) (parent_is w)
    c.in_ok-to.ensures.last)

pub returns-clause-siblings : goal.returns-clause-siblings
returns-clause-siblings c =
    let w = (goal.at.returns-clause-siblings c).After-place_among-place in
    siblings_from c.args.list.now c.args.run.now.cell c.parent-parent.result c.place_among-place.result (deep w)
    (parent_is w) c.place_among-place.ensures.child c.in_ok-from.ensures.held c.in_ok-to.ensures.held

use Rattle.std.proofs.Common.{arith, ◌≡◌, ◌+◌, true, ◌∙◌, ap, sym, length, subst}
use Rattle.s2cell.specs.Cell.{IsCell, child_of, covers, level_of, place_of}
use Rattle.s2cell.proofs.Family.{level_of_child}
use Rattle.s2cover.specs.Rough.{AreCrossing}
use Rattle.s2cover.proofs.Splittings.{around_child, child_apart, sorting_none, sorting_next, family_done}
use Rattle.s2cover.proofs.family.family_of.Goals as goal

pub loop-digit-init : goal.loop-digit-init
loop-digit-init g c =
    let r = c.args.region.now in
    let q = c.args.quadrant.now in
    let e = c.new-inside.ensures.items in
    let f = c.new-across.ensures.items in
    let a = ap length e in
    let b = ap length f in (
      omega arith,
      λ k at. sorting_none g.R.RoughRegion.id (g.R.RoughRegion.sound r) g.R.RoughRegion.work
          (g.R.RoughRegion.outside r) (g.R.RoughRegion.inside r) (g.R.RoughRegion.crosses r)
          (λ m x. covers (child_of (g.R.RoughRegion.id q) m) x ≡ true) (level_of (g.R.RoughRegion.id q) + 1) e f,
    )

pub loop-digit-preserved : goal.loop-digit-preserved
loop-digit-preserved g c =
    let r = c.args.region.now in
    let q = c.args.quadrant.now in
    let id = g.R.RoughRegion.id in
    let cr = g.R.RoughRegion.crosses r in
    let child = c.in_ok-child in
    let i : IsCell c.cell_at-cell.result =
    (level_of c.cell_at-cell.result, place_of c.cell_at-cell.result, c.id.ensures.cell) in
    let cell = rw c.cell_at-cell.ensures at i in
    let digit = c.loop-digit-test.true in
    let lv = ap level_of child.ensures.cell ∙ level_of_child (id q) c.loop-digit.digit cell c.requires.deep digit in
    let s = c.in_ok-sort_in.ensures in
    let few = s.few in
    let before = c.loop-digit.invariant.0 in (
      omega arith,
      λ k at. sorting_next g.R.RoughRegion.id (g.R.RoughRegion.sound r) g.R.RoughRegion.work
          (g.R.RoughRegion.outside r) (g.R.RoughRegion.inside r) (g.R.RoughRegion.crosses r)
          c.sort_in.new.inside.items c.sort_in.new.across.items child.child
          (λ x v. ap (λ z. covers z x) child.ensures.cell ∙ v)
          (λ x v. ap (λ z. covers z x) (sym child.ensures.cell) ∙ v)
          (λ m x b v t. child_apart (id q) m c.loop-digit.digit x cell c.requires.deep b digit v t) lv
          (subst (AreCrossing cr) (sym child.ensures.cell) (around_child cr (id q) c.loop-digit.digit cell
          c.requires.deep digit (at.cell, g.R.RoughRegion.work q, at.crosses) at.around))
          s.leaves s.others s.times s.inside
          s.across s.few (c.loop-digit.invariant.1 k at),
    )

pub returns-clause-few : goal.returns-clause-few
returns-clause-few g c =
    let a = c.loop-digit.invariant.0 in
    let b = c.loop-digit.auto.digit-end in
    omega arith

pub returns-clause-family : goal.returns-clause-family
returns-clause-family g c k a =
    let r = c.args.region.now in
    let j : IsCell c.cell_at-cell.result =
    (level_of c.cell_at-cell.result, place_of c.cell_at-cell.result, c.id.ensures.cell) in
    let four : c.loop-digit.digit ≡ 4 = (let x = c.loop-digit-test.false in let b = c.loop-digit.auto.digit-end in
    omega arith) in
    family_done g.R.RoughRegion.id (g.R.RoughRegion.sound r) g.R.RoughRegion.work
    (g.R.RoughRegion.outside r) (g.R.RoughRegion.inside r) (g.R.RoughRegion.crosses r)
    c.args.quadrant.now c.cell_at-cell.ensures j c.requires.deep four c.loop-digit.invariant.1 a

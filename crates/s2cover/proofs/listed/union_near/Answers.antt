use Rattle.std.proofs.Common.{◌<◌, ◌≡◌, ◌∙◌, ◌&&◌, length, ap, arith, refl, subst, take}
use Rattle.std.proofs.lemmas.List.{take_all}
use Rattle.s2cell.specs.Rectangles.{rect_set}
use Rattle.s2cover.proofs.Near.{HasNear, near_all, near_more, near_same}
use Rattle.s2cover.proofs.listed.union_near.Goals as goal
use Rattle.s2cover.proofs.listed.union_near.Goals.{then-is_new+in_ok-add_met, else-is_new}

pub loop-k-preserved : goal.loop-k-preserved
loop-k-preserved g c local =
    let u = g.C.Listed.ids c.args.cells.now in
    let S = rect_set c.args.rect.now in
    let around = c.cells_around-around.result in
    let k = c.loop-k.k in
    let four = c.cells_around-around.type_inv in
    let h : k < length around = omega (arith, c.loop-k-test.true) in
    elim c.if-is_new.branch [
      | then-is_new+in_ok-add_met w ↦
          rw (w.list-is, w.in_ok-add_met.ensures.list local.cells)
          (near_more S c.args.level u around k w.index-around-k.result h refl (w.cells_at-first.ensures.run local)
          (c.loop-k.invariant local))
      | else-is_new w ↦
          let same = c.is_new.ensures w.if-is_new.false in
          rw w.list-is
          (near_same S c.args.level u around c.loop-k.list.items k h same.0 same.1 (c.loop-k.invariant local))
    ]

pub returns : goal.returns
returns g c = record {
  leaves = λ local x.
      let u = g.C.Listed.ids c.args.cells.now in
      let S = rect_set c.args.rect.now in
      let around = c.cells_around-around.result in
      let four = c.cells_around-around.type_inv in
      let all : take c.loop-k.k around ≡ around = take_all c.loop-k.k around (omega (arith, c.loop-k-test.false)) in
      let done = subst (λ v. HasNear S c.args.level u v c.loop-k.list.items) all (c.loop-k.invariant local) in
      ap (λ b. b && S x) (c.normalise.ensures.leaves x) ∙ near_all S u done c.cells_around-around.ensures x;
}

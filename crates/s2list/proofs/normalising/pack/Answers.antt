use Rattle.std.proofs.Common.{◌≡◌, ◌<◌, ◌∙◌, refl, arith, length}
use Rattle.s2list.proofs.Placing.{compacting_front, compacting_step}
use Rattle.s2list.proofs.Packing.{is_at}
use Rattle.s2list.proofs.normalising.pack.Goals as goal

pub loop-i-init : goal.loop-i-init
loop-i-init g c =
    let front = c.union_at_front-front.ensures in
    record {
      within = front.within;
      packed = compacting_front (g.C.Listed.ids c.args.list.now) c.union_at_front-front.result c.requires.order
          front.within front.packed;
      readable = c.requires.readable;
      place = refl;
    }

pub loop-i-preserved : goal.loop-i-preserved
loop-i-preserved g c =
    let p = c.place_after-n.ensures in
    let old = g.C.Listed.ids c.args.list.now in
    let list = g.C.Listed.ids c.loop-i.list in
    let before = c.loop-i.invariant.packed in
    let same : length list ≡ length old = before.same_length in
    let e = c.len-i-end.ensures in
    let below : c.loop-i.i < length old = omega (arith, e, c.loop-i-test.true) in
    let read = is_at list c.loop-i.i c.cell-cell.result (omega arith) c.cell-cell.ensures in
    record {
      within = omega arith;
      packed = compacting_step old list (g.C.Listed.ids c.place_after-n.new.list) c.loop-i.n c.loop-i.i
          c.place_after-n.result _ c.requires.order before below read p.within p.packed p.starts p.leaves p.rest p.len;
      readable = p.readable c.loop-i.invariant.readable;
      place = p.place ∙ c.loop-i.invariant.place;
    }

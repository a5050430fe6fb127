use Rattle.std.proofs.Common.{◌∙◌, refl, sym, arith}
use Rattle.s2union_c.specs.Reading.{rings_from}
use Rattle.s2union_c.proofs.Shown.{rings_next}
use Rattle.s2union_c.proofs.reading.put_rings.Goals as goal

pub loop-k-init : goal.loop-k-init
unfolding rings_from
loop-k-init c = record { front = refl; room = c.requires; within = omega arith; same = λ later le. refl }

pub loop-k-preserved : goal.loop-k-preserved
loop-k-preserved c =
    let v = c.loop-k.invariant in
    let k = c.loop-k.k in
    let here = v.same k (omega arith) ∙ c.part_of-part.ensures.same k (omega arith) in
    record {
      front = rings_next c.args.ends.now c.args.parts.now c.args.out.now c.loop-k.out k c.polygon_in.result
          c.loop-k-test.true v.room v.front (c.polygon_in.ensures k c.part_of-part.ensures.ends ∙ sym here);
      room = v.room;
      within = c.part_of-part.ensures.within;
      same = λ later le. v.same later (omega arith) ∙ c.part_of-part.ensures.same later (omega arith);
    }

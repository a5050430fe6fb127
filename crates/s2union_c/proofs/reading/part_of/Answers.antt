use Rattle.std.proofs.Common.{◌∙◌, arith}
use Rattle.std.proofs.Math.Nat.{le_trans}
use Rattle.s2union_c.proofs.Shown.{passed_over}
use Rattle.s2union_c.proofs.reading.part_of.Goals as goal

pub loop-part-preserved : goal.loop-part-preserved
loop-part-preserved c = record {
  within = omega (arith, c.loop-part-test.true);
  same = λ later le. c.loop-part.invariant.same later le
      ∙ passed_over later c.loop-part.part c.args.parts.now _ c.loop-part-test.true
      (le_trans c.if-parts-part.false le);
}

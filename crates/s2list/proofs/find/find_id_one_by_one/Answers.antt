use Rattle.std.proofs.Common.{◌≡◌, ◌+◌, arith}
use Rattle.s2list.proofs.Finding.{ascends}
use Rattle.s2list.proofs.Galloping.{seeking_one, small}
use Rattle.s2list.proofs.find.find_id_one_by_one.Goals as goal

pub loop-left-preserved : goal.loop-left-preserved
loop-left-preserved g c =
    let v = c.loop-left.invariant in
    let within = v.within in
    let few = small _ _ _ c.is_below-base.ensures.below in
    record {
      within = omega arith;
      brackets = λ p b.
          seeking_one (g.C.Listed.ids c.args.cells.now) c.args.mark c.loop-left.base c.loop-left.left
          c.is_below-base.result (ascends _ p) (v.brackets p b) (omega arith)
          (rw c.id.ensures at c.is_below-base.ensures.below);
    }

pub overflow_add-base : goal.overflow_add-base
overflow_add-base g c =
    let few = small _ _ _ c.is_below-base.ensures.below in
    let within = c.loop-left.invariant.within in
    omega arith

pub returns-clause-place : goal.returns-clause-place
returns-clause-place g c p b =
    let none : c.loop-left.base + c.loop-left.left ≡ c.loop-left.base = omega arith in
    rw none at (c.loop-left.invariant.brackets p b)

use Rattle.std.proofs.Common.{◌+◌, ◌-◌, ◌/◌, arith}
use Rattle.s2list.proofs.Finding.{ascends}
use Rattle.s2list.proofs.Galloping.{all_places, seeking_quarter, small}
use Rattle.s2list.proofs.Narrowing.{quarter_within}
use Rattle.s2list.proofs.find.find_id_among_few.Goals as goal

pub loop-size-init : goal.loop-size-init
loop-size-init g c =
    let n = c.len-size.ensures in
    record {
      within = omega arith;
      brackets = λ p. rw n (all_places (g.C.Listed.ids c.args.cells.now) c.args.mark);
    }

pub loop-size-preserved : goal.loop-size-preserved
loop-size-preserved g c =
    let size = c.loop-size.size in
    let base = c.loop-size.base in
    let within = c.loop-size.invariant.within in
    let most = quarter_within base size ((size - 3) / 4 + 1) c.is_below-first.result c.is_below-second.result
    c.is_below-third.result (small _ _ _ c.is_below-first.ensures.below) (small _ _ _ c.is_below-second.ensures.below)
    (small _ _ _ c.is_below-third.ensures.below) (omega arith) in
    record {
      within = omega arith;
      brackets = λ p.
          seeking_quarter (g.C.Listed.ids c.args.cells.now) c.args.mark base size ((size - 3) / 4 + 1)
          c.is_below-first.result c.is_below-second.result c.is_below-third.result (ascends _ p)
          (c.loop-size.invariant.brackets p) (omega arith) (omega arith)
          (rw c.id.ensures at c.is_below-first.ensures.below)
          (rw c.id-in-loop-size.ensures at c.is_below-second.ensures.below)
          (rw c.id-in-loop-size-2.ensures at c.is_below-third.ensures.below);
    }

pub returns-clause-place : goal.returns-clause-place
returns-clause-place g c p = c.find_id_one_by_one.ensures.place p (c.loop-size.invariant.brackets p)

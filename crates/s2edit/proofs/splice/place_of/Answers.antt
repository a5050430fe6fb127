use Rattle.std.proofs.Common.{ℕ, subst}
use Rattle.s2list.specs.Packed.{IsPlace}
use Rattle.s2list.proofs.Checking.{packed_from_local}
use Rattle.s2edit.proofs.splice.place_of.Goals as goal

pub returns-clause-place : goal.returns-clause-place
returns-clause-place c =
    let packed = packed_from_local c.args.list.now c.requires in
    subst (λ (x : ℕ). IsPlace c.args.list.now x c.find_counted.result) c.first_leaf.ensures.value (record {
      within = c.find_counted.ensures.within;
      ended = c.find_counted.ensures.ended packed;
      next = c.find_counted.ensures.next packed;
    })

use Rattle.std.proofs.Common.{◌≡◌, ◌+◌, ◌-◌, arith, length, take}
use Rattle.std.proofs.lemmas.List.{length-take-le}
use Rattle.s2list.proofs.Packing.{front_at, merging_done, merging_step}
use Rattle.s2list.proofs.appending.merge_families.Goals as goal
use Rattle.s2list.proofs.appending.merge_families.Goals.{else-loop-kept-test, then-loop-kept-test+in-None}

pub loop-kept-preserved : goal.loop-kept-preserved
loop-kept-preserved g c =
    let u = g.C.Listed.ids c.args.list.now in
    let n = c.args.from in
    let k = c.loop-kept.kept in
    let w = c.loop-kept.invariant.within in
    let len : length (take n u) ≡ n = length-take-le n u c.requires.within in
    let less = k - 3 in
    let three = front_at u n (k - 3) less _ (omega arith) (omega arith) c.id.ensures in
    let two = front_at u n (k - 2) (less + 1) _ (omega arith) (omega arith) c.id-in-loop-kept.ensures in
    let one = front_at u n (k - 1) (less + 2) _ (omega arith) (omega arith) c.id-in-loop-kept-2.ensures in
    merging_step less c.requires.packed c.loop-kept.invariant (omega arith)
    (rw (three, two, one) at c.in-Some.ensures)

pub returns : goal.returns
returns g c =
    let u = g.C.Listed.ids c.args.list.now in
    let n = c.args.from in
    let k = c.loop-kept.kept in
    let w = c.loop-kept.invariant.within in
    let len : length (take n u) ≡ n = length-take-le n u c.requires.within in
    merging_done (take n u) c.args.cell k c.loop-kept.last c.requires.packed
    c.loop-kept.invariant (elim c.loop-kept-test.branch [
      | else-loop-kept-test w ↦ λ less p e f. absurd (omega arith)
      | then-loop-kept-test+in-None w ↦ λ less p e f.
          let three = front_at u n (k - 3) less _ (omega arith) (omega arith) w.id.ensures in
          let two = front_at u n (k - 2) (less + 1) _ (omega arith) (omega arith) w.id-in-loop-kept.ensures in
          let one = front_at u n (k - 1) (less + 2) _ (omega arith) (omega arith) w.id-in-loop-kept-2.ensures in
          w.in-None.ensures p (rw (three, two, one) f)
    ])

use Rattle.std.proofs.Common.{◌≡◌, ◌+◌, arith, rules}
use Rattle.s2list.proofs.Packing.{packed_take}
use Rattle.s2list.proofs.whole.union_at_front.Goals as goal

pub loop-k-init : goal.loop-k-init
loop-k-init g c = record {
  within = omega arith;
  packed = search rules;
}

pub loop-k-preserved : goal.loop-k-preserved
loop-k-preserved g c =
    let n = c.len-len.ensures in
    let to = c.continued_to-next.ensures.to in
    let same : c.continued_to-next.result ≡ c.loop-k.k + c.min.result = omega arith in
    record {
      within = omega arith;
      packed = rw same at (c.continued_to-next.ensures.packed c.loop-k.invariant.packed);
    }

pub returns-then-next-stop-clause-packed : goal.returns-then-next-stop-clause-packed
returns-then-next-stop-clause-packed g c = c.continued_to-next.ensures.packed c.loop-k.invariant.packed

pub returns-then-next-stop-clause-whole : goal.returns-then-next-stop-clause-whole
returns-then-next-stop-clause-whole g c p =
    let u = g.C.Listed.ids c.args.cells.now in
    let n = c.len-len.ensures in
    let all = c.continued_to-next.ensures.whole c.loop-k.invariant.packed (packed_take _ u (omega arith) p) in
    absurd (omega arith)

use Rattle.std.proofs.Common.{◌≡◌, ◌+◌, ◌-◌, ◌<◌, ◌≤◌, get_or, length, nat_le, ◌&&◌, arith}
use Rattle.std.proofs.lemmas.Bool.{and_parts}
use Rattle.std.proofs.lemmas.Bool.Decides.{nat_tests}
use Rattle.s2cell.specs.Cell.{IsCell, first_leaf, size_of}
use Rattle.s2list.specs.Packed.{EndsBefore}
use Rattle.s2list.proofs.Families.{cell_from, packed_more}
use Rattle.s2list.proofs.whole.surely_continues.Goals as goal

pub loop-k-preserved : goal.loop-k-preserved
loop-k-preserved g c =
    let u = g.C.Listed.ids c.args.cells.now in
    let k = c.loop-k.k in
    let v = c.loop-k.invariant in
    let from = v.from in
    record {
      from = omega arith;
      within = λ o. omega arith;
      packed = λ e before.
          let is_next = nat_le c.end_of.result c.first_of.result in
          let last = and_parts ((c.loop-k.all && c.is_cell.result) && is_next) c.is_no_family.result e in
          let next = and_parts (c.loop-k.all && c.is_cell.result) is_next last.0 in
          let cell = and_parts c.loop-k.all c.is_cell.result next.0 in
          let h : k < length u = omega arith in
          let packed = v.packed cell.0 before in
          let own : IsCell (get_or u k 0) = rw c.id-d.ensures at (c.is_cell.ensures.0 cell.1) in
          let one : (k - 1) + 1 ≡ k = omega arith in
          let own_before : IsCell (get_or u (k - 1) 0) = cell_from u (k - 1) (omega arith) (rw one packed) in
          let end : c.end_of.result ≡ first_leaf (get_or u (k - 1) 0) + size_of (get_or u (k - 1) 0) =
          rw c.id-c.ensures at (c.end_of.ensures (rw c.id-c.ensures own_before)) in
          let first : c.first_of.result ≡ first_leaf (get_or u k 0) =
          rw c.id-d.ensures at (c.first_of.ensures (rw c.id-d.ensures own)) in
          let in_order = next.1 in
          let test : c.end_of.result ≤ c.first_of.result = grind (arith, nat_tests) in
          let follows : EndsBefore (get_or u (k - 1) 0) (get_or u k 0) = omega arith in
          packed_more u k h packed own (λ _. follows)
          (λ f. c.is_no_family.ensures last.1 (rw c.id-d.ensures own) f.1
          (rw (c.id.ensures, c.id-in-loop-k.ensures, c.id-c.ensures, c.id-d.ensures) f.2));
    }

pub returns : goal.returns
returns g c e o before =
    let v = c.loop-k.invariant in
    let within = v.within o in
    let same : c.loop-k.k ≡ c.args.stop = omega arith in
    rw same at (v.packed e before)

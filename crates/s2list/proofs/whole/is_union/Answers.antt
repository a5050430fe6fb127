use Rattle.std.proofs.Common.{◌≡◌, ◌≤◌, take, arith}
use Rattle.std.proofs.lemmas.Bool.Decides.{nat_tests}
use Rattle.std.proofs.lemmas.List.{take_all}
use Rattle.s2list.proofs.Checking.{packed_from_local}
use Rattle.s2list.proofs.PackedLocal.{local_from_packed}
use Rattle.s2list.proofs.whole.is_union.Goals as goal

pub returns : goal.returns
returns g c =
    let u = g.C.Listed.ids c.args.cells.now in
    let n = c.len.ensures in
    let front = c.union_at_front.ensures in
    let within = front.within in (
      λ e.
          let enough : c.len.result ≤ c.union_at_front.result = grind (arith, nat_tests) in
          let all : take c.union_at_front.result u ≡ u = take_all c.union_at_front.result u (omega arith) in
          local_from_packed u (rw all at front.packed),
      λ l.
          let all = front.whole (packed_from_local u l) in
          let enough : c.len.result ≤ c.union_at_front.result = omega arith in
          grind (arith, nat_tests),
    )

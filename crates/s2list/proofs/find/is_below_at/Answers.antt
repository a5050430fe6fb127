use Rattle.std.proofs.Common.{◌≡◌, ◌<◌, length, arith, nat_lt, true}
use Rattle.std.proofs.lemmas.Bool.{false≢true}
use Rattle.std.proofs.lemmas.Bool.Decides.{nat_tests}
use Rattle.s2list.proofs.find.is_below_at.Goals as goal

pub returns-then-at-len-clause-answer : goal.returns-then-at-len-clause-answer
returns-then-at-len-clause-answer g c = (
  λ e. absurd (false≢true e),
  λ h. let l = h.0 in absurd (omega arith),
)

pub returns-clause-answer : goal.returns-clause-answer
returns-clause-answer g c =
    let u = g.C.Listed.ids c.args.cells.now in
    let e = c.id.ensures in
    let h : c.args.at < length u = omega arith in (
      λ t.
          let l : c.id.result < c.args.mark = grind (arith, nat_tests) in
          (h, rw e at l),
      λ p.
          let l = p.1 in
          let m : c.id.result < c.args.mark = omega arith in
          let b : nat_lt c.id.result c.args.mark ≡ true = grind (arith, nat_tests) in
          b,
    )

use Rattle.std.proofs.Common.{◌≡◌, ◌<◌, length, get_or, arith, nat_lt, true}
use Rattle.std.proofs.lemmas.Bool.{false≢true}
use Rattle.std.proofs.lemmas.Bool.Decides.{nat_tests}
use Rattle.s2cell.specs.Cell.{first_leaf}
use Rattle.s2list.proofs.ask.begins_at.Goals as goal

pub returns-then-at-len-clause-answer : goal.returns-then-at-len-clause-answer
returns-then-at-len-clause-answer g c all = (
  λ e. absurd (false≢true e),
  λ h. let l = h.0 in absurd (omega arith),
)

pub returns-clause-answer : goal.returns-clause-answer
returns-clause-answer g c all =
    let u = g.C.Listed.ids c.args.cells.now in
    let h : c.args.at < length u = omega arith in
    let first : c.first_of.result ≡ first_leaf (get_or u c.args.at 0) =
    rw c.look.ensures.id at (c.first_of.ensures (rw c.look.ensures.id (all c.args.at 0 h))) in (
      λ t. let l : c.first_of.result < c.args.end = grind (arith, nat_tests) in (h, rw first at l),
      λ p.
          let l = p.1 in
          let m : c.first_of.result < c.args.end = omega arith in
          let b : nat_lt c.first_of.result c.args.end ≡ true = grind (arith, nat_tests) in
          b,
    )

use Rattle.std.proofs.Common.{◌<◌, length, arith}
use Rattle.std.proofs.lemmas.Bool.{false≢true}
use Rattle.s2list.proofs.find.ends_at.Goals as goal

pub returns-then-at-len-clause-answer : goal.returns-then-at-len-clause-answer
returns-then-at-len-clause-answer g c all = (
  λ e. absurd (false≢true e),
  λ h. let l = h.0 in absurd (omega arith),
)

pub returns-clause-answer : goal.returns-clause-answer
returns-clause-answer g c all =
    let u = g.C.Listed.ids c.args.cells.now in
    let h : c.args.at < length u = omega arith in
    let test = rw c.look.ensures.id at (c.ends_by.ensures (rw c.look.ensures.id (all c.args.at 0 h))) in
    (λ e. (h, test.0 e), λ p. test.1 p.1)

use Rattle.std.proofs.Common.{◌≡◌, ◌+◌, ◌<◌, ◌≤◌, true, arith, nat_lt, refl, inl, inr}
use Rattle.std.proofs.Math.Logic.{⊎_elim}
use Rattle.std.proofs.lemmas.Bool.{cases_lt}
use Rattle.std.proofs.lemmas.Bool.Decides.{nat_tests}
use Rattle.s2cell.specs.Cell.{first_leaf, size_of}
use Rattle.s2cell.proofs.CellLemmas.{cell_leaves}
use Rattle.s2list.proofs.Narrowing.{not_by}
use Rattle.s2list.proofs.find.ends_after.Goals as goal

pub returns-clause-after : goal.returns-clause-after
returns-clause-after c cell =
    let end = first_leaf c.args.id + size_of c.args.id in
    let l = cell_leaves c.args.id cell in
    let middle = l.middle in
    let size = l.some in
    let p : 0 < c.args.id = omega arith in
    let some : nat_lt 0 c.args.id ≡ true = grind (arith, nat_tests) in
    let test = c.ends_by.ensures cell in
    ⊎_elim
    (λ (h : c.args.lo < end). inl (rw (some, not_by c.ends_by.result end c.args.lo test h) refl, h))
    (λ (h : end ≤ c.args.lo). inr (rw (some, test.1 h) refl, h))
    (cases_lt c.args.lo end)

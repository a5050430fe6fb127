use Rattle.std.proofs.Common.{◌-◌, length, subst, take, drop, arith}
use Rattle.s2union.specs.Working.Merge.{Left, Keeps}
use Rattle.s2union.proofs.Following.{part_packed}
use Rattle.s2union.proofs.MergeSteps.{keep_found, rest_after}
use Rattle.s2union.proofs.apply.Merge.run.Goals as goal

pub returns-clause-keeps : goal.returns-clause-keeps
returns-clause-keeps c =
    let s = c.self.inside in
    let at = c.find_id-at.result in
    rw (rest_after s.cells.now at) (subst (λ (o : Left). Keeps
    (take at s.cells.now) o (record { out = s.out.now; put = s.put.now; cells = drop at s.cells.now }))
    c.self.view_is (keep_found c.first_id.result c.first_id-2.result s.out.now s.put.now c.self.invariant
    c.first_id.ensures c.first_id-2.ensures (omega arith) (c.find_id-at.ensures.place c.self.invariant.cells)))

pub returns-clause-packed : goal.returns-clause-packed
returns-clause-packed c = part_packed 0 c.find_id-at.result c.self.invariant.cells
    (let w = c.find_id-at.ensures.within in omega arith)

pub invariant_of-self : goal.invariant_of-self
invariant_of-self c =
    let i = c.self.invariant in
    let u = c.self.inside.cells.now in
    let at = c.find_id-at.result in
    let within = c.find_id-at.ensures.within in
    record { out = i.out; put = i.put; cells = part_packed at (length u - at) i.cells (omega arith) }

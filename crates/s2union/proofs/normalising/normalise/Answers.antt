use Rattle.std.proofs.Common.{◌∙◌, sym, take}
use Rattle.std.proofs.lemmas.List.Sorted.{IsNonDecreasingBy-from_sort, list_any-IsPermutation}
use Rattle.s2cell.specs.Cell.{covers}
use Rattle.s2list.specs.Union.{has_leaf}
use Rattle.s2list.proofs.Normal.{normal_from_local, normal_form_same}
use Rattle.s2list.proofs.Shortest.{shortest}
use Rattle.s2list.proofs.PackedLocal.{local_from_packed}
use Rattle.s2union.proofs.normalising.normalise.Goals as goal

pub pack-n-requires-clause-order : goal.pack-n-requires-clause-order
pack-n-requires-clause-order c =
    IsNonDecreasingBy-from_sort (λ x. x) c.sort_unstable.new.self.items c.sort_unstable.ensures.sorted

pub invariant_of-result : goal.invariant_of-result
invariant_of-result c =
    let front = take c.pack-n.result c.pack-n.new.list.items in
    let local = local_from_packed front c.pack-n.ensures.packed in
    rw (← c.truncate.ensures.items) at local

pub returns-clause-leaves : goal.returns-clause-leaves
returns-clause-leaves c x =
    rw c.truncate.ensures.items
    (c.pack-n.ensures.leaves x ∙ sym (list_any-IsPermutation (λ n. covers n x) c.args.cells.items
    c.sort_unstable.new.self.items c.sort_unstable.ensures.permutation))

pub returns-clause-local : goal.returns-clause-local
returns-clause-local c = invariant_of-result c

pub returns-clause-normal : goal.returns-clause-normal
returns-clause-normal c =
    let u = c.truncate.new.self.items in
    normal_form_same (has_leaf u) (has_leaf c.args.cells.items) u (returns-clause-leaves c)
    (normal_from_local u (invariant_of-result c))

pub returns-clause-shortest : goal.returns-clause-shortest
returns-clause-shortest c = shortest (has_leaf c.args.cells.items) c.truncate.new.self.items
    (returns-clause-local c) (returns-clause-leaves c)

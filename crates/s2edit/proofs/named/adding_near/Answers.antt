use Rattle.s2list.specs.Union.{has_leaf}
use Rattle.s2list.specs.Sets.{union_of}
use Rattle.s2edit.proofs.PartChange.{leaf_inside, adds}
use Rattle.s2edit.proofs.named.adding_near.Goals as goal

pub returns : goal.returns
returns c =
    let u = c.args.union.now.cells in
    let p = c.in_ok-part.part.cells in
    c.change_of_part.ensures (union_of (has_leaf u) (has_leaf c.args.named.now.cells))
    (λ x. adds (has_leaf u x) (has_leaf p x) (has_leaf c.in_ok-united.united.cells x)
    (has_leaf c.args.named.now.cells x) (c.in_ok-united.ensures.leaves x)
    (leaf_inside u p x c.in_ok-part.ensures.is_part.inside))

pub change_of_part-requires : goal.change_of_part-requires
change_of_part-requires c k h n = c.in_ok-part.ensures.is_part.inside k h

use Rattle.s2list.specs.Union.{has_leaf}
use Rattle.s2list.specs.Sets.{difference_of}
use Rattle.s2edit.proofs.PartChange.{leaf_inside, leaf_near, takes, taken_alone}
use Rattle.s2edit.proofs.named.removing.Goals as goal

pub returns-in-Some : goal.returns-in-Some
returns-in-Some c =
    let u = c.args.union.now.cells in
    let w = c.args.named.now.cells in
    rw c.in-Some.is at c.in_ok-change.ensures (difference_of (has_leaf u) (has_leaf w))
    (λ x. taken_alone u c.empty-nothing.result.cells w x c.empty-nothing.ensures.cells)

pub returns : goal.returns
returns c =
    let u = c.args.union.now.cells in
    let w = c.args.named.now.cells in
    let p = c.in_ok-part.part.cells in
    c.change_of_part-2.ensures (difference_of (has_leaf u) (has_leaf w))
    (λ x. takes (has_leaf u x) (has_leaf p x) (has_leaf c.in_ok-rest.rest.cells x) (has_leaf w x)
    (c.in_ok-rest.ensures.leaves x) (leaf_inside u p x c.in_ok-part.ensures.is_part.inside)
    (leaf_near u p w x (rw c.cells.ensures.value at c.in_ok-part.ensures)))

pub change_of_part-requires-2 : goal.change_of_part-requires-2
change_of_part-requires-2 c k h n = c.in_ok-part.ensures.is_part.inside k h

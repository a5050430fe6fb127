use Rattle.std.proofs.Common.{refl}
use Rattle.s2list.specs.Union.{has_leaf}
use Rattle.s2list.specs.Sets.{union_of}
use Rattle.s2edit.proofs.PartChange.{put_alone, put_already}
use Rattle.s2edit.proofs.named.adding.Goals as goal

pub returns-in-Some : goal.returns-in-Some
returns-in-Some c =
    let u = c.args.union.now.cells in
    let w = c.args.named.now.cells in
    rw c.in-Some.is at c.in_ok-change.ensures (union_of (has_leaf u) (has_leaf w))
    (λ x. put_alone u c.empty-nothing.result.cells w x c.empty-nothing.ensures.cells)

pub returns-then-contains : goal.returns-then-contains
returns-then-contains c =
    let u = c.args.union.now.cells in
    let w = c.args.named.now.cells in
    let held = c.if-contains.ensures.0 refl in
    c.change_of_part-then-contains.ensures (union_of (has_leaf u) (has_leaf w))
    (λ x. put_already u c.empty-nothing.result.cells w x c.empty-nothing.ensures.cells (held x))

use Rattle.std.proofs.Common.{◌-◌, refl}
use Rattle.std.proofs.lemmas.Bool.{false≢true}
use Rattle.std.specs.Int.Count.{count_leading_zeros}
use Rattle.s2cell.specs.Cell.{IsCell}
use Rattle.s2cell.proofs.Ancestors.{IsHighest, highest, other_faces, same_face, ancestor_level, common_ancestor_is}
use Rattle.s2cell.proofs.cell.CellId.common_ancestor.Goals as goal
use Rattle.s2cell.proofs.cell.CellId.common_ancestor.Goals.{After-max-covering}

first : (c : After-max-covering) → IsCell c.args.self
first c = rw (← c.self.view_is) c.self.invariant

second : (c : After-max-covering) → IsCell c.args.other
second c = rw (← c.other.view_is) c.other.invariant

top : (c : After-max-covering) → IsHighest c.args.self c.args.other (63 - count_leading_zeros 64 c.max-covering.result)
top c =
    highest c.args.other c.leaf_count.result c.leaf_count-2.result c.max.result c.max-covering.result (first c)
    c.leaf_count.ensures.value c.leaf_count-2.ensures.value (rw (c.self.view_is, c.other.view_is) at c.max.ensures)
    c.max-covering.ensures c.max-covering.type_inv

pub returns-then-highest-gt-TOP_BIT-clause-faces : goal.returns-then-highest-gt-TOP_BIT-clause-faces
returns-then-highest-gt-TOP_BIT-clause-faces c =
    let d = (goal.at.returns-then-highest-gt-TOP_BIT-clause-faces c).After-max-covering in (
      λ h. absurd (false≢true h),
      λ e. absurd (other_faces (first d) (second d) (top d) c.if-highest-gt-TOP_BIT.true e),
    )

pub parent-requires : goal.parent-requires
parent-requires c =
    let d = (goal.at.parent-requires c).After-max-covering in
    ancestor_level (first d) (top d) c.if-highest-gt-TOP_BIT.false

pub returns-clause-ancestor : goal.returns-clause-ancestor
returns-clause-ancestor c =
    let d = (goal.at.returns-clause-ancestor c).After-max-covering in
    rw c.parent.ensures.value (common_ancestor_is (first d) (second d) (top d) c.if-highest-gt-TOP_BIT.false)

pub returns-clause-faces : goal.returns-clause-faces
returns-clause-faces c =
    let d = (goal.at.returns-clause-faces c).After-max-covering in
    (λ _. same_face (first d) (second d) (top d) c.if-highest-gt-TOP_BIT.false, λ _. refl)

use Rattle.std.proofs.Common.{inl, inr}
use Rattle.std.proofs.Math.Logic.{⊎_elim}
use Rattle.s2cell.specs.Cell.{IsInside}
use Rattle.s2cell.proofs.Calls.{true_and_false}
use Rattle.s2cell.proofs.Leaves.{shared_from_nested, nested_from_shared}
use Rattle.s2cell.proofs.cell.CellId.intersects.Goals as goal

pub returns-then-contains-clause-nested : goal.returns-then-contains-clause-nested
returns-then-contains-clause-nested c = (
  λ _. inl (c.contains.ensures.value.0 c.if-contains.true),
  λ _. c.if-contains.true,
)

pub returns-then-contains-clause-shared : goal.returns-then-contains-clause-shared
returns-then-contains-clause-shared c =
    let holds = c.contains.ensures in (
      λ _. shared_from_nested holds.own holds.others (inl (holds.value.0 c.if-contains.true)),
      λ _. c.if-contains.true,
    )

pub returns-else-contains-clause-nested : goal.returns-else-contains-clause-nested
returns-else-contains-clause-nested c =
    let back = c.contains-else-contains.ensures.value in (
      λ h. inr (back.0 h),
      λ nested. ⊎_elim
          (λ (i : IsInside c.args.other c.args.self).
          absurd (true_and_false (c.contains.ensures.value.1 i) c.if-contains.false))
          (λ (i : IsInside c.args.self c.args.other). back.1 i) nested,
    )

pub returns-else-contains-clause-shared : goal.returns-else-contains-clause-shared
returns-else-contains-clause-shared c =
    let holds = c.contains.ensures in
    let nested = returns-else-contains-clause-nested c in (
      λ h. shared_from_nested holds.own holds.others (nested.0 h),
      λ shared. nested.1 (nested_from_shared c.args.self c.args.other holds.own holds.others shared),
    )

use Rattle.std.proofs.Common.{◌≡◌, ◌≤◌, ℕ, length, take, true}
use Rattle.std.specs.List.{sum_by}
use Rattle.s2cover.proofs.NormalForms.{inner_has_normal_form}
use Rattle.s2list.specs.Union.{has_leaf}
use Rattle.s2polygon.specs.Leaves.{inner_leaf}
use Rattle.s2written.specs.Geodesics.{any_inner, any_inner_set}
use Rattle.s2written.proofs.geodesic.inner_of.Given as goal

abbrev pub invariant-loop-i : goal.invariant-loop-i
invariant-loop-i l = record {
  leaves : (x : ℕ) → has_leaf l.cells.items x ≡ any_inner_set (take l.i l.polygons) l.level x;
  proper : (x : ℕ) → has_leaf l.cells.items x ≡ true → any_inner (take l.i l.polygons) x ≡ true;
  count : length l.cells.items
      ≡ sum_by (λ r. length (inner_has_normal_form (inner_leaf r) l.level).0) (take l.i l.polygons);
  few : length l.cells.items ≤ l.max;
}

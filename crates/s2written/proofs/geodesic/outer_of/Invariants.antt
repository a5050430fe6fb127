use Rattle.std.proofs.Common.{◌≡◌, ◌<◌, ◌≤◌, ℕ, length, take, true}
use Rattle.std.specs.List.{sum_by}
use Rattle.s2cell.specs.declared.TheConstants.{LEAVES}
use Rattle.s2cover.proofs.NormalForms.{outer_has_normal_form}
use Rattle.s2list.specs.Union.{has_leaf}
use Rattle.s2polygon.specs.Leaves.{outer_leaf}
use Rattle.s2written.specs.Geodesics.{any_outer, any_outer_set}
use Rattle.s2written.proofs.geodesic.outer_of.Given as goal

abbrev pub invariant-loop-i : goal.invariant-loop-i
invariant-loop-i l = record {
  leaves : (x : ℕ) → has_leaf l.cells.items x ≡ any_outer_set (take l.i l.polygons) l.level x;
  missed : (x : ℕ) → x < LEAVES → any_outer (take l.i l.polygons) x ≡ true → has_leaf l.cells.items x ≡ true;
  count : length l.cells.items
      ≡ sum_by (λ r. length (outer_has_normal_form (outer_leaf r) l.level).0) (take l.i l.polygons);
  few : length l.cells.items ≤ l.max;
}

-- The covering of a union, if it has no more cells than are allowed.
use Rattle.std.proofs.Common.{ℕ, ◌<◌, ◌≤◌, inl, inr, ap, arith, Bool, List, length}
use Rattle.s2list.specs.Union.{IsLocal, IsNormalForm, has_leaf}
use Rattle.s2list.proofs.Normal.{one_normal_form}
use Rattle.s2list.specs.Room.{PutsOne, PutsUpTo}
use Rattle.s2cover.proofs.NormalForms.{inner_few, outer_few}
use Rattle.s2union_c.specs.declared.coverings.Side.{Side}
use Rattle.s2union_c.specs.declared.coverings.Side.TheVariants.{Outer, Inner}
use Rattle.s2union_c.specs.Working.Coverings.{covering_of}

pub covering_few : (side : Side) (k : ℕ) (u : List ℕ) → k ≤ 30 → IsLocal u →
    (v : List ℕ) × IsNormalForm (covering_of side k (has_leaf u)) v × (length v ≤ length u)
covering_few Outer k u h l = outer_few k u h l
covering_few Inner k u h l = inner_few k u h l

-- more cells than are allowed were counted
pub many_put : (S : ℕ → Bool) (most n : ℕ) (old new : List ℕ) → PutsUpTo most (IsNormalForm S) old new n → most < n →
    (u : List ℕ) → IsNormalForm S u → most < length u
many_put S most n old new (inl p) more u normal =
    let e = ap length (one_normal_form S u p.list normal p.is) in
    let l = p.len_is in
    omega arith
many_put S most n old new (inr (m, long)) more u normal = long u normal

-- no more were counted
pub few_put : (S : ℕ → Bool) (most n : ℕ) (old new : List ℕ) → PutsUpTo most (IsNormalForm S) old new n → n ≤ most →
    PutsOne (IsNormalForm S) old new n
few_put S most n old new (inl p) few = p
few_put S most n old new (inr (more, long)) few = absurd (omega arith)

-- A leaf is inside by the parity of the way to it from the middle of its face.
use Rattle.std.proofs.Common.{◌≡◌, refl, sym, ap, ◌∙◌, ℕ, zero, suc, ◌/◌, ◌^◌, Bool, true, false, List}
use Rattle.std.proofs.Math.Bool.{xor}
use Rattle.s2cell.specs.Curve.{i_of, j_of}
use Rattle.s2polygon.specs.Cells.{odd_of, step_to}
use Rattle.s2polygon.specs.Faces.{edges_on, top_of}
use Rattle.s2polygon.specs.Leaves.{Region, odd_at, inside}
use Rattle.s2polygon.specs.Parity.{is_odd_along}
use Rattle.s2polygon.specs.Descents.{top_in}
use Rattle.s2polygon.specs.declared.frames.FramedEdge.{FramedEdge}

-- ---- parities that are exchanged
xor_past : (a o s : Bool) → xor (xor a o) s ≡ xor (xor a s) o
unfolding xor
xor_past true true true = refl
xor_past true true false = refl
xor_past true false true = refl
xor_past true false false = refl
xor_past false true true = refl
xor_past false true false = refl
xor_past false false true = refl
xor_past false false false = refl

pub odd_exchanged : (top o : Bool) (edges : List FramedEdge) (n k i j : ℕ)
    → odd_of (xor top o) edges n k i j ≡ xor (odd_of top edges n k i j) o
odd_exchanged top o edges zero k i j = refl
odd_exchanged top o edges (suc n) k i j =
    ap (λ (b : Bool). xor b (is_odd_along (step_to k i j) edges)) (odd_exchanged top o edges n (suc k) (i / 2) (j / 2))
    ∙ xor_past (odd_of top edges n (suc k) (i / 2) (j / 2)) o (is_odd_along (step_to k i j) edges)

-- a leaf is inside by the parity of the cells around it
pub inside_is : (r : Region) (x : ℕ)
    → inside r x ≡ odd_of (top_in r (x / 4 ^ 30)) (edges_on (x / 4 ^ 30) r.edges) 30 0 (i_of x) (j_of x)
unfolding odd_at
inside_is r x =
    sym (odd_exchanged (top_of r.edges (x / 4 ^ 30)) (odd_at r.edges r.outside) (edges_on (x / 4 ^ 30) r.edges) 30 0
    (i_of x) (j_of x))

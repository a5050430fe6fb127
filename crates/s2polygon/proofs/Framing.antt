-- Edges in the frame of a face.
use Rattle.std.proofs.Common.{◌≡◌, refl, ◌∙◌, ℕ, List, [], ◌∷◌}
use Rattle.std.proofs.Common.{All, ℤ, FitsSigned, to_z, of_z, w64}
use Rattle.std.proofs.lemmas.Int.{to_z-of_z}
use Rattle.std.proofs.lemmas.List.Elements.{All-nil, All-cons}
use Rattle.s2polygon.specs.Faces.{edges_on}
use Rattle.s2polygon.specs.Frames.{framed, normal_of, normal_w_of, normal_u_of, normal_v_of}
use Rattle.s2polygon.specs.Working.Sizes.{IsFramed}
use Rattle.s2polygon.specs.declared.directions.Edge.{Edge}
use Rattle.s2polygon.specs.declared.frames.Framed.{Framed}
use Rattle.s2polygon.specs.declared.frames.FramedEdge.{FramedEdge}

-- a normal whose coordinates went to bits
pub normal_is : (a b : Framed) (w u v : ℤ) → FitsSigned w64 w → FitsSigned w64 u → FitsSigned w64 v
    → w ≡ normal_w_of a b → u ≡ normal_u_of a b → v ≡ normal_v_of a b
    → ◌≡◌ {A = Framed} (record { w = to_z w64 (of_z w64 w); u = to_z w64 (of_z w64 u); v = to_z w64 (of_z w64 v) })
    (normal_of a b)
normal_is a b w u v f g h p q r =
    let p1 = to_z-of_z w64 w f ∙ p in
    let q1 = to_z-of_z w64 u g ∙ q in
    let r1 = to_z-of_z w64 v h ∙ r in
    rw (p1, q1, r1) refl

pub edge_is : (a b : Framed) (w u v : ℤ) (a_is b_is : Framed) → a ≡ a_is → b ≡ b_is
    → ◌≡◌ {A = Framed} (record { w = w; u = u; v = v }) (normal_of a b)
    → ◌≡◌ {A = FramedEdge} (record { a = a; b = b; n = record { w = w; u = u; v = v } })
    (record { a = a_is; b = b_is; n = normal_of a_is b_is })
edge_is a b w u v a_is b_is e f g = rw (g, e, f) refl

-- the edges in the frame of a face carry their normals
pub all_framed : (f : ℕ) (es : List Edge) → All IsFramed (edges_on f es)
all_framed f [] = All-nil IsFramed
all_framed f (e ∷ es) = All-cons IsFramed (framed f e) (edges_on f es) (record { normal = refl }) (all_framed f es)

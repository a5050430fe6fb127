-- Two results of calls as a pair.
use Rattle.std.proofs.Common.{◌≡◌, ℤ, FitsSigned, to_z, of_z, w64, ap, ap₂, ◌∙◌}
use Rattle.std.proofs.lemmas.Int.{to_z-of_z}
use mir.Syntax.{w128}
use Rattle.s2polygon.specs.declared.meeting.Pair.{Pair}

make : ℤ → ℤ → Pair
make x y = record { at_a = x; at_b = y }

pub pair_is : (f g : ℤ → ℤ) (line x y : ℤ) → FitsSigned w64 line → FitsSigned w128 x → FitsSigned w128 y
    → x ≡ f (to_z w64 (of_z w64 line)) → y ≡ g (to_z w64 (of_z w64 line))
    → ◌≡◌ {A = Pair} (record { at_a = to_z w128 (of_z w128 x); at_b = to_z w128 (of_z w128 y) })
    (record { at_a = f line; at_b = g line })
unfolding make
pair_is f g line x y h hx hy p q =
    ap₂ make (to_z-of_z w128 x hx ∙ p ∙ ap f (to_z-of_z w64 line h))
    (to_z-of_z w128 y hy ∙ q ∙ ap g (to_z-of_z w64 line h))

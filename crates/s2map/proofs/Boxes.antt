-- Where no edge of a part meets a box, all its places lie inside the part, or none does.
use Rattle.std.proofs.Common.{◌≡◌, refl, sym, ap, ◌∙◌, Bool, false, List, [], ◌∷◌}
use Rattle.std.proofs.Math.Bool.{xor}
use Rattle.s2map.proofs.Answers.{odd_pairs}
use Rattle.s2polygon.proofs.Steps.{xor_pairs}
use Rattle.s2polygon.proofs.Turned.{same_of}
use Rattle.s2map.proofs.Passing.{step}
use Rattle.s2map.specs.Boxes.{InBox, meets, meets_on_turns, met_by}
use Rattle.s2map.specs.Map.{inside_part, passes_north, passes_on_turns, place_turned, turned, turns}
use Rattle.s2polygon.specs.Parity.{is_odd_by}
use Rattle.s2map.specs.Working.Even.{IsPart, has_one, passes_over, passes_over_turns}
use Rattle.s2map.specs.declared.place.MapBox.{MapBox}
use Rattle.s2map.specs.declared.place.MapEdge.{MapEdge}
use Rattle.s2map.specs.declared.place.Place.{Place}

odd_of_both : {A : Type 0} (f g : A → Bool) (xs : List A) → xor (is_odd_by f xs) (is_odd_by g xs)
    ≡ is_odd_by (λ x. xor (f x) (g x)) xs
unfolding xor
odd_of_both f g [] = refl
odd_of_both f g (x ∷ xs) =
    xor_pairs (f x) (is_odd_by f xs) (g x) (is_odd_by g xs) ∙ ap (xor (xor (f x) (g x))) (odd_of_both f g xs)

module _ (box : MapBox) (p q : Place) (in_p : InBox box p) (in_q : InBox box q) where
  on_turns : (e : MapEdge) → meets_on_turns box e ≡ false → xor (passes_on_turns p e) (passes_on_turns q e)
      ≡ has_one (passes_over_turns p q) e
  on_turns e h =
      odd_pairs (λ k. passes_north p (turned k e)) (λ k. passes_north q (turned k e))
      (λ k. xor (passes_over p q (place_turned k e.a)) (passes_over p q (place_turned k e.b)))
      (λ k. meets box (turned k e)) (λ k none. step p q (turned k e) box in_p in_q none) turns h
      ∙ sym (odd_of_both (λ k. passes_over p q (place_turned k e.a)) (λ k. passes_over p q (place_turned k e.b)) turns)

  -- the heart: a step within the box changes no parity
  pub same_inside : (es : List MapEdge) → IsPart es → met_by box es ≡ false → inside_part p es ≡ inside_part q es
  same_inside es part h = same_of (inside_part p es) (inside_part q es)
      (odd_pairs (passes_on_turns p) (passes_on_turns q) (has_one (passes_over_turns p q)) (meets_on_turns box)
      on_turns es h ∙ part.even (passes_over_turns p q))

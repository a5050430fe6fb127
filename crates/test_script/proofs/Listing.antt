-- Lemmas on lists of calls.
use Rattle.std.proofs.Common.{◌≡◌, List, [], ◌∷◌, Option, None, Some, map, option_map, refl, ap, ◌∙◌}
use Rattle.std.proofs.lemmas.List.{map-append}
use Rattle.s2calc.specs.Calls.{Call, Gains}
use Rattle.s2calc.specs.Moments.{Moment, Adds}
use Rattle.test_script.specs.declared.known.Made.{Made}
use Rattle.test_script.specs.declared.known.Made.TheVariants.{Write, Flush, Failure}
use Rattle.test_script.specs.Working.Known.{call_of, HasMade}

-- what the entries stand for is gained as they are
pub gains_map : {A B : Type 0} (f : A → B) (a b : Option (List A)) (x : A) → Gains a b (x ∷ []) →
    Gains (option_map (map f) a) (option_map (map f) b) (f x ∷ [])
gains_map f a None x p = tt
gains_map f a (Some xs) x p =
    (map f p.0, ap (option_map (map f)) p.1, ap (map f) p.2 ∙ map-append f p.0 (x ∷ []))

pub has_made : (call : Made) (a b : Option (List Call)) → Gains a b (call_of call ∷ []) → HasMade call a b
has_made Write a b p = record { more = call_of Write ∷ []; gained = p; holds = tt }
has_made Flush a b p = record { more = _; gained = p; holds = record { before = []; is = refl; well = tt } }
has_made Failure a b p = record { more = _; gained = p; holds = record { before = []; is = refl; well = tt } }

-- an observer's list has gained one moment
pub adds_one : {W S : Type 0} (a b : Option (List (Moment W S))) (m : Moment W S) → Gains a b (m ∷ []) →
    Adds a b (λ moments. moments ≡ m ∷ [])
adds_one a None m p = tt
adds_one a (Some ms) m p = (p.0, m ∷ [], p.1, p.2, refl)

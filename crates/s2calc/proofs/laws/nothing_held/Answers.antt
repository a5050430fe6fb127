use Rattle.std.proofs.Common.{◌≡◌, ◌∙◌, ℕ, List, [], ◌++◌, Option, None, Some, refl, ap, append-nil}
use Rattle.std.specs.Io.KnownBytes.{append_known}
use Rattle.s2calc.proofs.laws.nothing_held.Goals as goal

held_none : (contents : Option (List ℕ)) (waiting : List ℕ) → waiting ≡ [] → append_known contents waiting ≡ contents
held_none None waiting e = refl
held_none (Some xs) waiting e = ap (λ w. Some (xs ++ w)) e ∙ ap Some (append-nil xs)

pub returns : goal.returns
returns c = held_none

-- Lemmas on the steps of a run.
use Rattle.std.proofs.Common.{◌≡◌, ℕ, List, [], ◌∷◌, ◌++◌, length, refl, subst, arith}
use Rattle.s2calc.specs.World.{World}
use Rattle.s2calc.specs.Replies.{Reply}
use Rattle.s2calc.specs.Step.{Step}
use Rattle.s2calc.specs.Run.{Steps}

-- one more line
pub Steps-push : (old mid new : World) (ls : List (List ℕ)) (replies : List Reply) (line : List ℕ)
    (reply : Reply) → Steps old ls replies mid → Step mid line reply new
    → Steps old (ls ++ line ∷ []) (replies ++ reply ∷ []) new
Steps-push old mid new [] [] line reply s t = let goes : Step old line reply new =
    subst (λ e. Step e line reply new) s t in (new, goes, refl)
Steps-push old mid new [] (r ∷ rs) line reply s t = absurd s
Steps-push old mid new (l ∷ ls) [] line reply s t = absurd s
Steps-push old mid new (l ∷ ls) (r ∷ rs) line reply s t = (s.0, s.1, Steps-push s.0 mid new ls rs line reply s.2 t)

-- each line has one reply
pub Steps-lengths : (old new : World) (ls : List (List ℕ)) (replies : List Reply) → Steps old ls replies new →
    length ls ≡ length replies
Steps-lengths old new [] [] s = refl
Steps-lengths old new [] (r ∷ rs) s = absurd s
Steps-lengths old new (l ∷ ls) [] s = absurd s
Steps-lengths old new (l ∷ ls) (r ∷ rs) s = let rest = Steps-lengths s.0 new ls rs s.2 in omega arith

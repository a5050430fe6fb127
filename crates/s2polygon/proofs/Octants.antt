-- An edge comes over the two rays from a place, and over the quarter circle between their ends, an odd number of times
-- if just one of its ends lies between them.
use Rattle.std.proofs.Common.{◌≡◌, refl, sym}
use Rattle.std.proofs.Common.{Bool, true, false, not, ◌&&◌, ◌||◌}
use Rattle.std.proofs.Math.Bool.{true≢false, xor, beq}

-- ---- signs as answers
every : (Bool → Bool) → Bool
every f = f true && f false

every_at : (f : Bool → Bool) (b : Bool) → every f ≡ true → f b ≡ true
unfolding every
every_at f true e = first (f true) (f false) e
  where
    first : (p q : Bool) → p && q ≡ true → p ≡ true
    first true q k = refl
    first false q k = absurd (true≢false (sym k))
every_at f false e = last (f true) (f false) e
  where
    last : (p q : Bool) → p && q ≡ true → q ≡ true
    last true q k = k
    last false q k = absurd (true≢false (sym k))

-- of three products, by the answers for their factors, not all are at least 0, nor all at most
abbrev pub balanced : Bool → Bool → Bool → Bool → Bool → Bool → Bool
balanced x y w p q s = not (beq p x && (beq q y && beq s w)) && (beq p x || (beq q y || beq s w))

-- a difference of two products, the first of which is at least 0, or not, and the second
abbrev pub differs : Bool → Bool → Bool → Bool
differs one other n = (not (one && not other) || n) && (not (other && not one) || not n)

abbrev pub over_row : Bool → Bool → Bool → Bool → Bool
over_row y Y p s = xor y Y && (not (beq p Y) && beq s Y)

abbrev pub over_column : Bool → Bool → Bool → Bool → Bool
over_column x X q s = xor x X && (beq q X && not (beq s X))

abbrev pub over_end : Bool → Bool → Bool → Bool → Bool
over_end w W p q = xor w W && (beq p W && not (beq q W))

abbrev pub quarter : Bool → Bool → Bool → Bool
quarter x y w = x && (y && w)

abbrev claim : Bool → Bool → Bool → Bool → Bool → Bool → Bool → Bool → Bool → Bool
claim x y w X Y W s p q =
    not (balanced x y w p q s && (balanced X Y W p q s && (differs (beq x Y) (beq X y) s
    && (differs (beq y W) (beq w Y) p && differs (beq w X) (beq x W) q))))
    || beq (xor (over_row y Y p s) (xor (over_column x X q s) (over_end w W p q))) (xor (quarter x y w) (quarter X Y W))

all_claims : every (λ x. every (λ y. every (λ w. every (λ X. every (λ Y. every (λ W. every (λ s. every (λ p. every (λ q.
    claim x y w X Y W s p q))))))))) ≡ true
unfolding every xor
all_claims = refl

claimed : (x y w X Y W s p q : Bool) → claim x y w X Y W s p q ≡ true
unfolding every
claimed x y w X Y W s p q =
    every_at (claim x y w X Y W s p) q
    (every_at (λ p. every (claim x y w X Y W s p)) p
    (every_at (λ s. every (λ p. every (claim x y w X Y W s p))) s
    (every_at (λ W. every (λ s. every (λ p. every (claim x y w X Y W s p)))) W
    (every_at (λ Y. every (λ W. every (λ s. every (λ p. every (claim x y w X Y W s p))))) Y
    (every_at (λ X. every (λ Y. every (λ W. every (λ s. every (λ p. every (claim x y w X Y W s p)))))) X
    (every_at (λ w. every (λ X. every (λ Y. every (λ W. every (λ s. every (λ p. every (claim x y w X Y W s p))))))) w
    (every_at (λ y. every (λ w. every (λ X. every (λ Y. every
    (λ W. every (λ s. every (λ p. every (claim x y w X Y W s p)))))))) y
    (every_at (λ x. every (λ y. every (λ w. every (λ X. every
    (λ Y. every (λ W. every (λ s. every (λ p. every (claim x y w X Y W s p)))))))))
    x all_claims))))))))

from_claim : (a b c d e l r : Bool) → not (a && (b && (c && (d && e)))) || beq l r ≡ true → a ≡ true → b ≡ true → c
    ≡ true
    → d ≡ true → e ≡ true → l ≡ r
from_claim a b c d e l r k ha hb hc hd he = same l r (rw (ha, hb, hc, hd, he) at k)
  where
    same : (l r : Bool) → beq l r ≡ true → l ≡ r
    same true true k = refl
    same false false k = refl
    same true false k = absurd (true≢false (sym k))
    same false true k = absurd (true≢false (sym k))

pub by_answers : (x y w X Y W s p q : Bool) → balanced x y w p q s ≡ true → balanced X Y W p q s ≡ true
    → differs (beq x Y) (beq X y) s ≡ true → differs (beq y W) (beq w Y) p ≡ true → differs (beq w X) (beq x W) q ≡ true
    → xor (over_row y Y p s) (xor (over_column x X q s) (over_end w W p q)) ≡ xor (quarter x y w) (quarter X Y W)
by_answers x y w X Y W s p q a b c d e =
    from_claim (balanced x y w p q s) (balanced X Y W p q s) (differs (beq x Y) (beq X y) s)
    (differs (beq y W) (beq w Y) p)
    (differs (beq w X) (beq x W) q) (xor (over_row y Y p s) (xor (over_column x X q s) (over_end w W p q)))
    (xor (quarter x y w) (quarter X Y W)) (claimed x y w X Y W s p q) a b c d e

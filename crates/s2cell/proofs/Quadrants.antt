-- One digit of the curve: the quadrant that it picks, and how it turns the orientation.
use Rattle.std.proofs.Common.{◌≡◌, ℕ, suc, zero, ◌+◌, ◌*◌, ◌<◌, refl, arith, bit_xor, List, [], ◌∷◌, slice_index}
use Rattle.std.proofs.lemmas.Nat.{xor_lt}
use Rattle.s2cell.specs.Curve.{quadrant, quadrants, turn}

-- a fact of each number below 4
pub four_cases : (P : ℕ → Type 0) → P 0 → P 1 → P 2 → P 3 → (n : ℕ) → n < 4 → P n
four_cases P a b c d zero h = a
four_cases P a b c d (suc zero) h = b
four_cases P a b c d (suc (suc zero)) h = c
four_cases P a b c d (suc (suc (suc zero))) h = d
four_cases P a b c d (suc (suc (suc (suc n)))) h = absurd (omega arith)

-- a fact of each two numbers below 4
pub sixteen_cases : (P : ℕ → ℕ → Type 0) → ((p : ℕ) → p < 4 → P 0 p) → ((p : ℕ) → p < 4 → P 1 p) →
    ((p : ℕ) → p < 4 → P 2 p) → ((p : ℕ) → p < 4 → P 3 p) → (o p : ℕ) → o < 4 → p < 4 → P o p
sixteen_cases P a b c d o p ho hp = four_cases (λ z. P z p) (a p hp) (b p hp) (c p hp) (d p hp) o ho

pub quadrant_below : (o p : ℕ) → o < 4 → p < 4 → quadrant o p < 4
unfolding quadrant quadrants
quadrant_below = sixteen_cases (λ o p. quadrant o p < 4)
    (four_cases (λ p. quadrant 0 p < 4) (omega arith) (omega arith) (omega arith) (omega arith))
    (four_cases (λ p. quadrant 1 p < 4) (omega arith) (omega arith) (omega arith) (omega arith))
    (four_cases (λ p. quadrant 2 p < 4) (omega arith) (omega arith) (omega arith) (omega arith))
    (four_cases (λ p. quadrant 3 p < 4) (omega arith) (omega arith) (omega arith) (omega arith))

turn_below : (p : ℕ) → p < 4 → turn p < 4
unfolding turn
turn_below = four_cases (λ p. turn p < 4) (omega arith) (omega arith) (omega arith) (omega arith)

pub turn_keeps : (o p : ℕ) → o < 4 → p < 4 → bit_xor o (turn p) < 4
turn_keeps o p ho hp = xor_lt 2 o (turn p) ho (turn_below p hp)

-- the digits that pick the quadrants 0 to 3, for the orientations 0 to 3 in turn
unfoldable pub digits : List ℕ
digits = 0 ∷ 1 ∷ 3 ∷ 2 ∷ 0 ∷ 3 ∷ 1 ∷ 2 ∷ 2 ∷ 3 ∷ 1 ∷ 0 ∷ 2 ∷ 1 ∷ 3 ∷ 0 ∷ []

-- the digit that picks the quadrant `q` at the orientation `o`
unfoldable pub digit_of : ℕ → ℕ → ℕ
unfolding digits
digit_of o q = slice_index digits (4 * o + q)

pub digit_of_quadrant : (o p : ℕ) → o < 4 → p < 4 → digit_of o (quadrant o p) ≡ p
unfolding digit_of digits quadrant quadrants
digit_of_quadrant = sixteen_cases (λ o p. digit_of o (quadrant o p) ≡ p)
    (four_cases (λ p. digit_of 0 (quadrant 0 p) ≡ p) refl refl refl refl)
    (four_cases (λ p. digit_of 1 (quadrant 1 p) ≡ p) refl refl refl refl)
    (four_cases (λ p. digit_of 2 (quadrant 2 p) ≡ p) refl refl refl refl)
    (four_cases (λ p. digit_of 3 (quadrant 3 p) ≡ p) refl refl refl refl)

pub quadrant_of_digit : (o q : ℕ) → o < 4 → q < 4 → quadrant o (digit_of o q) ≡ q
unfolding digit_of digits quadrant quadrants
quadrant_of_digit = sixteen_cases (λ o q. quadrant o (digit_of o q) ≡ q)
    (four_cases (λ q. quadrant 0 (digit_of 0 q) ≡ q) refl refl refl refl)
    (four_cases (λ q. quadrant 1 (digit_of 1 q) ≡ q) refl refl refl refl)
    (four_cases (λ q. quadrant 2 (digit_of 2 q) ≡ q) refl refl refl refl)
    (four_cases (λ q. quadrant 3 (digit_of 3 q) ≡ q) refl refl refl refl)

pub digit_of_below : (o q : ℕ) → o < 4 → q < 4 → digit_of o q < 4
unfolding digit_of digits
digit_of_below = sixteen_cases (λ o q. digit_of o q < 4)
    (four_cases (λ q. digit_of 0 q < 4) (omega arith) (omega arith) (omega arith) (omega arith))
    (four_cases (λ q. digit_of 1 q < 4) (omega arith) (omega arith) (omega arith) (omega arith))
    (four_cases (λ q. digit_of 2 q < 4) (omega arith) (omega arith) (omega arith) (omega arith))
    (four_cases (λ q. digit_of 3 q < 4) (omega arith) (omega arith) (omega arith) (omega arith))

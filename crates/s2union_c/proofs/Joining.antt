-- Tokens in a row, one more at a time.
use Rattle.std.proofs.Common.{◌≡◌, ℕ, zero, suc, ◌+◌, ◌*◌, ◌<◌, ◌≤◌, List, [], ◌∷◌, ◌++◌, length, take}
use Rattle.std.proofs.Common.{All, get_or, refl, sym}
use Rattle.std.proofs.Common.{ap, ◌∙◌, arith, add-one}
use Rattle.std.proofs.Common.{append_assoc, length-append}
use Rattle.s2cell.specs.Cell.{IsCell}
use Rattle.s2cell.specs.Token.{token_of}
use Rattle.s2cell.proofs.Tokens.{IsToken-token_of}
use Rattle.s2union_c.specs.Working.Texts.{piece}
use Rattle.s2union_c.specs.Texts.{tokens_of}

next : (u : List ℕ) (k : ℕ) → k < length u
    → tokens_of (take (suc k) u) ≡ tokens_of (take k u) ++ piece k (token_of (get_or u k 0))
next [] k h = absurd (omega arith)
next (x ∷ u) zero h = refl
next (x ∷ []) (suc k) h = absurd (omega arith)
next (x ∷ y ∷ u) (suc zero) h = refl
next (x ∷ y ∷ u) (suc (suc k)) h =
    let more = next (y ∷ u) (suc k) (omega arith) in
    let front = tokens_of (take (suc k) (y ∷ u)) in
    ap (λ t. token_of x ++ 32 ∷ t) more
    ∙ sym (append_assoc (token_of x) (32 ∷ front) (piece (suc k) (token_of (get_or (y ∷ u) (suc k) 0))))

-- one more token
pub tokens_more : (u : List ℕ) (k : ℕ) → k < length u
    → tokens_of (take (k + 1) u) ≡ tokens_of (take k u) ++ piece k (token_of (get_or u k 0))
tokens_more u k h = rw add-one (next u k h)

-- the first tokens take no more bytes than all
pub tokens_within : (u : List ℕ) (k : ℕ) → length (tokens_of (take k u)) ≤ length (tokens_of u)
tokens_within [] zero = omega arith
tokens_within [] (suc k) = omega arith
tokens_within (x ∷ u) zero = omega arith
tokens_within (x ∷ []) (suc zero) = omega arith
tokens_within (x ∷ []) (suc (suc k)) = omega arith
tokens_within (x ∷ y ∷ u) (suc zero) =
    let len = length-append (token_of x) (32 ∷ tokens_of (y ∷ u)) in
    omega arith
tokens_within (x ∷ y ∷ u) (suc (suc k)) =
    let more = tokens_within (y ∷ u) (suc k) in
    let one = length-append (token_of x) (32 ∷ tokens_of (y ∷ u)) in
    let two = length-append (token_of x) (32 ∷ tokens_of (take (suc k) (y ∷ u))) in
    omega arith

pub piece_first : (k : ℕ) (token : List ℕ) → k ≡ 0 → piece k token ≡ token
piece_first zero token e = refl
piece_first (suc k) token e = absurd (omega arith)

pub piece_later : (k : ℕ) (token : List ℕ) → 0 < k → piece k token ≡ 32 ∷ token
piece_later zero token h = absurd (omega arith)
piece_later (suc k) token h = refl

-- a token and a blank take at most 17 bytes
pub tokens_few : (u : List ℕ) → All IsCell u → length (tokens_of u) ≤ 17 * length u
tokens_few [] all = omega arith
tokens_few (x ∷ []) all =
    let one = (IsToken-token_of (all zero 0 (omega arith))).reading.most in
    omega arith
tokens_few (x ∷ y ∷ u) all =
    let one = (IsToken-token_of (all zero 0 (omega arith))).reading.most in
    let rest = tokens_few (y ∷ u) (λ k d h. all (suc k) d (omega arith)) in
    let both = length-append (token_of x) (32 ∷ tokens_of (y ∷ u)) in
    omega arith

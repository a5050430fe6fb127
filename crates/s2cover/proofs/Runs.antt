-- Sets of leaves on runs of leaves, and the blocks of a covering.
use Rattle.std.proofs.Common.{◌≡◌, ℕ, suc, zero, ◌+◌, ◌-◌, ◌*◌, ◌/◌, ◌^◌, ◌<◌, ◌≤◌, Bool, true}
use Rattle.std.proofs.Common.{false, ◌&&◌, refl, sym, ◌∙◌, ap, arith, subst, ⊎_elim}
use Rattle.std.proofs.lemmas.Bool.{and_parts, cases_lt, and_from, or_parts, or_from, both_ways, false_from_ne_true}
use Rattle.std.proofs.lemmas.Bool.{true_from_ne_false}
use Rattle.std.proofs.lemmas.Nat.{div-add-mod', mod_below, pow-add}
use Rattle.std.proofs.Math.Nat.{mul-le-mul_right, div-eq_of_lt-le, add-suc}
use Rattle.s2cell.proofs.CellLemmas.{four_pos}
use Rattle.s2cover.specs.Coverings.{filled, touched}
use Rattle.s2cover.specs.Working.Descent.{blocks}

pub filled_each : (S : ℕ → Bool) (lo n : ℕ) → filled S lo n ≡ true → (x : ℕ) → lo ≤ x → x < lo + n → S x ≡ true
unfolding filled
filled_each S lo zero h x a b = absurd (omega arith)
filled_each S lo (suc n) h x a b =
    let both = and_parts (filled S lo n) (S (lo + n)) h in
    ⊎_elim (λ below. filled_each S lo n both.0 x a below) (λ last. let e : lo + n ≡ x = omega arith in
    subst (λ (z : ℕ). S z ≡ true) e both.1) (cases_lt x (lo + n))

pub filled_from : (S : ℕ → Bool) (lo n : ℕ) → ((x : ℕ) → lo ≤ x → x < lo + n → S x ≡ true) → filled S lo n ≡ true
unfolding filled
filled_from S lo zero h = refl
filled_from S lo (suc n) h = and_from (filled S lo n) (S (lo + n))
    (filled_from S lo n (λ x a b. h x a (omega arith))) (h (lo + n) (omega arith) (omega arith))

pub touched_none : (S : ℕ → Bool) (lo n : ℕ) → touched S lo n ≡ false → (x : ℕ) → lo ≤ x → x < lo + n → S x ≡ false
unfolding touched
touched_none S lo zero h x a b = absurd (omega arith)
touched_none S lo (suc n) h x a b =
    let both = or_parts (touched S lo n) (S (lo + n)) h in
    ⊎_elim (λ below. touched_none S lo n both.0 x a below) (λ last. let e : lo + n ≡ x = omega arith in
    subst (λ (z : ℕ). S z ≡ false) e both.1) (cases_lt x (lo + n))

pub touched_from_none : (S : ℕ → Bool) (lo n : ℕ) → ((x : ℕ) → lo ≤ x → x < lo + n → S x ≡ false) →
    touched S lo n ≡ false
unfolding touched
touched_from_none S lo zero h = refl
touched_from_none S lo (suc n) h = or_from (touched S lo n) (S (lo + n))
    (touched_from_none S lo n (λ x a b. h x a (omega arith))) (h (lo + n) (omega arith) (omega arith))

-- a set that is all false on a run that is not empty
pub not_filled : (S : ℕ → Bool) (lo n : ℕ) → 0 < n → ((x : ℕ) → lo ≤ x → x < lo + n → S x ≡ false) →
    filled S lo n ≡ false
not_filled S lo n hn h = false_from_ne_true (filled S lo n)
    (λ t. both_ways (S lo) (h lo (omega arith) (omega arith)) (filled_each S lo n t lo (omega arith) (omega arith)))

pub is_touched : (S : ℕ → Bool) (lo n : ℕ) → 0 < n → ((x : ℕ) → lo ≤ x → x < lo + n → S x ≡ true) →
    touched S lo n ≡ true
is_touched S lo n hn h = true_from_ne_false (touched S lo n)
    (λ f. both_ways (S lo) (touched_none S lo n f lo (omega arith) (omega arith)) (h lo (omega arith) (omega arith)))

and_true : (a : Bool) → (a && true) ≡ a
and_true true = refl
and_true false = refl

and_assoc : (a b c : Bool) → ((a && b) && c) ≡ (a && (b && c))
and_assoc true b c = refl
and_assoc false b c = refl

-- two runs, one after the other
pub filled_add : (S : ℕ → Bool) (lo a b : ℕ) → filled S lo (a + b) ≡ (filled S lo a && filled S (lo + a) b)
unfolding filled
filled_add S lo a zero = let e : a + 0 ≡ a = omega arith in ap (filled S lo) e ∙ sym (and_true (filled S lo a))
filled_add S lo a (suc b) =
    let e : lo + (a + b) ≡ lo + a + b = omega arith in
    rw (add-suc a b, filled, filled_add S lo a b, e) (and_assoc (filled S lo a) (filled S (lo + a) b) (S (lo + a + b)))

-- the block of a leaf lies in the cell of the leaf
pub record BlockIn (x m g d : ℕ) : Type 0 where
  pub after : m * 4 ^ d ≤ x / 4 ^ g * 4 ^ g
  pub before : x / 4 ^ g * 4 ^ g + 4 ^ g ≤ m * 4 ^ d + 4 ^ d

pub block_in : (x m g d : ℕ) → g ≤ d → m * 4 ^ d ≤ x → x < m * 4 ^ d + 4 ^ d → BlockIn x m g d
block_in x m g d hg a b =
    let G = 4 ^ g in
    let hG = four_pos g in
    let q = x / G in
    let E = 4 ^ (d - g) in
    let ed : 4 ^ d ≡ E * G = ap (λ z. 4 ^ z) (omega arith) ∙ pow-add 4 (d - g) g in
    let em : m * 4 ^ d ≡ m * E * G = ap (λ z. m * z) ed ∙ omega arith in
    let s = div-add-mod' x G in
    let r = mod_below x G hG in
    let low : m * E ≤ q = ⊎_elim (λ (w : q < m * E).
    absurd (let k = mul-le-mul_right {m = suc q} {n = m * E} G w in omega arith)) (λ (w : m * E ≤ q). w)
    (cases_lt q (m * E)) in
    let high : q < m * E + E = ⊎_elim (λ (w : q < m * E + E). w)
    (λ (w : m * E + E ≤ q). absurd (let k = mul-le-mul_right {m = m * E + E} {n = q} G w in omega arith))
    (cases_lt q (m * E + E)) in
    let l2 = mul-le-mul_right {m = m * E} {n = q} G low in
    let h2 = mul-le-mul_right {m = suc q} {n = m * E + E} G high in
    record { after = omega arith; before = omega arith }

-- a region that holds a whole cell, or none of it
pub cover_all : (whole : Bool) (R : ℕ → Bool) (g d m : ℕ) → g ≤ d → ((x : ℕ) → m * 4 ^ d ≤ x →
    x < m * 4 ^ d + 4 ^ d → R x ≡ true) → (x : ℕ) → m * 4 ^ d ≤ x → x < m * 4 ^ d + 4 ^ d → blocks whole R g x ≡ true
cover_all true R g d m hg h x a b =
    let w = block_in x m g d hg a b in
    is_touched R (x / 4 ^ g * 4 ^ g) (4 ^ g) (four_pos g) (λ y c e. let u = w.after in let v = w.before in
    h y (omega arith) (omega arith))
cover_all false R g d m hg h x a b =
    let w = block_in x m g d hg a b in
    filled_from R (x / 4 ^ g * 4 ^ g) (4 ^ g) (λ y c e. let u = w.after in let v = w.before in
    h y (omega arith) (omega arith))

pub cover_none : (whole : Bool) (R : ℕ → Bool) (g d m : ℕ) → g ≤ d → ((x : ℕ) → m * 4 ^ d ≤ x →
    x < m * 4 ^ d + 4 ^ d → R x ≡ false) → (x : ℕ) → m * 4 ^ d ≤ x → x < m * 4 ^ d + 4 ^ d → blocks whole R g x ≡ false
cover_none true R g d m hg h x a b =
    let w = block_in x m g d hg a b in
    touched_from_none R (x / 4 ^ g * 4 ^ g) (4 ^ g) (λ y c e. let u = w.after in let v = w.before in
    h y (omega arith) (omega arith))
cover_none false R g d m hg h x a b =
    let w = block_in x m g d hg a b in
    not_filled R (x / 4 ^ g * 4 ^ g) (4 ^ g) (four_pos g) (λ y c e. let u = w.after in let v = w.before in
    h y (omega arith) (omega arith))

-- a cell of the grain's own depth
pub block_here : (x m g : ℕ) → m * 4 ^ g ≤ x → x < m * 4 ^ g + 4 ^ g → x / 4 ^ g ≡ m
block_here x m g a b = let c : x < (m + 1) * 4 ^ g = omega arith in div-eq_of_lt-le {k = m} (4 ^ g) a c

pub outer_here : (R : ℕ → Bool) (g m : ℕ) → (touched R (m * 4 ^ g) (4 ^ g) ≡ true) → (x : ℕ) → m * 4 ^ g ≤ x →
    x < m * 4 ^ g + 4 ^ g → blocks true R g x ≡ true
outer_here R g m t x a b = ap (λ z. touched R (z * 4 ^ g) (4 ^ g)) (block_here x m g a b) ∙ t

pub inner_here : (R : ℕ → Bool) (g m : ℕ) → (filled R (m * 4 ^ g) (4 ^ g) ≡ false) → (x : ℕ) → m * 4 ^ g ≤ x →
    x < m * 4 ^ g + 4 ^ g → blocks false R g x ≡ false
inner_here R g m t x a b = ap (λ z. filled R (z * 4 ^ g) (4 ^ g)) (block_here x m g a b) ∙ t

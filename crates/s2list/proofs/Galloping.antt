-- The place of an identifier in an ascending list of cells.
use Rattle.std.proofs.Common.{◌≡◌, ℕ, ◌+◌, ◌-◌, ◌*◌, ◌<◌, ◌≤◌, refl, arith, List, length, get_or, ◌⊎◌, inl, inr}
use Rattle.std.proofs.Math.Logic.{⊎_elim}
use Rattle.std.proofs.lemmas.Bool.{cases_lt}
use Rattle.std.proofs.lemmas.List.Kept.{AllPairs-from_increasing}
use Rattle.std.specs.List.Sorted.{IsStrictlyIncreasing}
use Rattle.s2list.specs.Search.{Brackets}

-- cells are above those before them
pub rises : (u : List ℕ) (i j : ℕ) → IsStrictlyIncreasing u → i ≤ j → j < length u → get_or u i 0 ≤ get_or u j 0
rises u i j up h l =
    ⊎_elim
    (λ (a : i < j). let e = AllPairs-from_increasing u up i j 0 a l in omega arith)
    (λ (a : j ≤ i). let e : i ≡ j = omega arith in rw e (omega arith))
    (cases_lt i j)

-- all cells up to one that is below are below
seeking_up : {u : List ℕ} {mark base size : ℕ} (m less : ℕ) → IsStrictlyIncreasing u →
    Brackets u mark base (base + size) → 0 < m → m ≤ size → less ≡ size - m → get_or u (base + (m - 1)) 0 < mark →
    Brackets u mark (base + m) (base + m + less)
seeking_up {u} {base} {size} m less up b z h el e =
    let w = b.within in
    record {
      order = omega arith;
      within = omega arith;
      below = λ k l. let a = rises u k (base + (m - 1)) up (omega arith) (omega arith) in omega arith;
      rest = λ k a c. b.rest k (omega arith) c;
    }

-- all cells from one on that is not are not
seeking_down : {u : List ℕ} {mark base size : ℕ} (m : ℕ) → IsStrictlyIncreasing u → Brackets u mark base (base + size) →
    m < size → mark ≤ get_or u (base + m) 0 → (n : ℕ) → m ≤ n → n ≤ size → Brackets u mark base (base + n)
seeking_down {u} {base} m up b h e n a c =
    let w = b.within in
    record {
      order = omega arith;
      within = omega arith;
      below = b.below;
      rest = λ k l g. let d = rises u (base + m) k up (omega arith) g in omega arith;
    }

-- what one look at a cell says
abbrev pub Look : ℕ → ℕ → ℕ → Type 0
Look x mark s = ((s ≡ 1) × (x < mark)) ⊎ ((s ≡ 0) × (mark ≤ x))

looks_order : (u : List ℕ) (mark i j s t : ℕ) →
    IsStrictlyIncreasing u → i ≤ j → j < length u → Look (get_or u i 0) mark s → Look (get_or u j 0) mark t → t ≤ s
looks_order u mark i j s t p h l (inl a) (inl b) = let x = a.0 in let y = b.0 in omega arith
looks_order u mark i j s t p h l (inl a) (inr b) = let x = a.0 in let y = b.0 in omega arith
looks_order u mark i j s t p h l (inr a) (inl b) = let x = a.1 in let y = b.1 in let e = rises u i j p h l in
    absurd (omega arith)
looks_order u mark i j s t p h l (inr a) (inr b) = let x = a.0 in let y = b.0 in omega arith

pub is_below : (x mark s : ℕ) → Look x mark s → s ≡ 1 → x < mark
is_below x mark s (inl a) e = a.1
is_below x mark s (inr a) e = let z = a.0 in absurd (omega arith)

pub not_below : (x mark s : ℕ) → Look x mark s → s ≡ 0 → mark ≤ x
not_below x mark s (inl a) e = let z = a.0 in absurd (omega arith)
not_below x mark s (inr a) e = a.1

pub small : (x mark s : ℕ) → Look x mark s → s < 2
small x mark s (inl a) = let z = a.0 in omega arith
small x mark s (inr a) = let z = a.0 in omega arith

-- a look at the first place leaves the others
pub seeking_one : (u : List ℕ) (mark base size s : ℕ) → IsStrictlyIncreasing u → Brackets u mark base (base + size) →
    0 < size → Look (get_or u base 0) mark s → Brackets u mark (base + s) (base + s + (size - 1))
seeking_one u mark base size s up b some look =
    elim look [
      | inl a ↦
          let e : base + s ≡ base + 1 = rw a.0 (omega arith) in
          let here : base + (1 - 1) ≡ base = omega arith in
          rw e (seeking_up 1 (size - 1) up b (omega arith) (omega arith) refl (rw here a.1))
      | inr a ↦
          let e : base + s ≡ base = rw a.0 (omega arith) in
          let here : base + 0 ≡ base = omega arith in
          rw e (seeking_down 0 up b (omega arith) (rw here a.1) (size - 1) (omega arith) (omega arith))
    ]

-- three looks leave a quarter
pub seeking_quarter : (u : List ℕ) (mark base size q s t r : ℕ) →
    IsStrictlyIncreasing u → Brackets u mark base (base + size) →
    0 < q → 4 * q ≤ size + 1 → Look (get_or u (base + (q - 1)) 0) mark s →
    Look (get_or u (base + (2 * q - 1)) 0) mark t → Look (get_or u (base + (3 * q - 1)) 0) mark r →
    Brackets u mark (base + q * ((s + t) + r)) (base + q * ((s + t) + r) + (size - 3 * q))
seeking_quarter u mark base size q s t r p f z h a b c =
    let w = f.within in
    let st = looks_order u mark (base + (q - 1)) (base + (2 * q - 1)) s t p (omega arith) (omega arith) a b in
    let tr = looks_order u mark (base + (2 * q - 1)) (base + (3 * q - 1)) t r p (omega arith) (omega arith) b c in
    let ms = small _ mark s a in
    ⊎_elim
    (λ (k : s < 1).
    let d = seeking_down (q - 1) p f (omega arith) (not_below _ mark s a (omega arith)) (size - 3 * q) (omega arith)
    (omega arith) in
    let e : (s + t) + r ≡ 0 = omega arith in
    let g : base ≡ base + q * ((s + t) + r) = rw e (omega arith) in
    rw (← g) d)
    (λ (k : 1 ≤ s). ⊎_elim
    (λ (l : t < 1).
    let up = seeking_up q (size - q) p f z (omega arith) refl (is_below _ mark s a (omega arith)) in
    let i : base + (2 * q - 1) ≡ (base + q) + (q - 1) = omega arith in
    let no : mark ≤ get_or u ((base + q) + (q - 1)) 0 = rw i at (not_below _ mark t b (omega arith)) in
    let d = seeking_down (q - 1) p up (omega arith) no (size - 3 * q) (omega arith) (omega arith) in
    let e : (s + t) + r ≡ 1 = omega arith in
    let g : base + q ≡ base + q * ((s + t) + r) = rw e (omega arith) in
    rw (← g) d)
    (λ (l : 1 ≤ t). ⊎_elim
    (λ (m : r < 1).
    let up = seeking_up (2 * q) (size - 2 * q) p f (omega arith) (omega arith) refl
    (is_below _ mark t b (omega arith)) in
    let i : base + (3 * q - 1) ≡ (base + 2 * q) + (q - 1) = omega arith in
    let no : mark ≤ get_or u ((base + 2 * q) + (q - 1)) 0 = rw i at (not_below _ mark r c (omega arith)) in
    let d = seeking_down (q - 1) p up (omega arith) no (size - 3 * q) (omega arith) (omega arith) in
    let e : (s + t) + r ≡ 2 = omega arith in
    let g : base + 2 * q ≡ base + q * ((s + t) + r) = rw e (omega arith) in
    rw (← g) d)
    (λ (m : 1 ≤ r).
    let up = seeking_up (3 * q) (size - 3 * q) p f (omega arith) (omega arith) refl
    (is_below _ mark r c (omega arith)) in
    let e : (s + t) + r ≡ 3 = omega arith in
    let g : base + 3 * q ≡ base + q * ((s + t) + r) = rw e (omega arith) in
    rw (← g) up)
    (cases_lt r 1))
    (cases_lt t 1))
    (cases_lt s 1)

-- a whole list
pub all_places : (u : List ℕ) (mark : ℕ) → Brackets u mark 0 (0 + length u)
all_places u mark = record {
  order = omega arith;
  within = omega arith;
  below = λ k h. absurd (omega arith);
  rest = λ k a b. absurd (omega arith);
}

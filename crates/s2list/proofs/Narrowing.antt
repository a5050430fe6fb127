-- How the places narrow where a leaf may stand.
use Rattle.std.proofs.Common.{◌≡◌, ℕ, ◌+◌, ◌-◌, ◌*◌, ◌^◌, ◌<◌, ◌≤◌, ◌↔◌, IsTrue, Bool, true, false, sym, min}
use Rattle.std.proofs.Common.{List, length, get_or, ◌⊎◌, inl, inr, refl, ◌/◌, ◌∙◌, arith}
use Rattle.std.proofs.Math.Logic.{⊎_elim}
use Rattle.std.proofs.Math.Nat.{mul-le-mul_right}
use Rattle.std.proofs.lemmas.Bool.{cases_lt, false≢true}
use Rattle.s2cell.specs.Cell.{IsCell, first_leaf, size_of}
use Rattle.s2cell.proofs.CellLemmas.{cell_leaves}
use Rattle.s2list.specs.Packed.{FirstEndBy, EndsAfter, IsPacked}
use Rattle.s2list.specs.Search.{Brackets}
use Rattle.s2list.proofs.Finding.{ended_to, ends_later}
use Rattle.s2list.specs.Working.Search.{IsFrom}

-- a test that fails says the opposite
pub later : (b : Bool) (a lo : ℕ) → (IsTrue b ↔ (a ≤ lo)) → b ≡ false → lo < a
later b a lo test e = ⊎_elim (λ (h : lo < a). h) (λ (h : a ≤ lo). absurd (false≢true (sym e ∙ test.1 h)))
    (cases_lt lo a)

pub not_by : (b : Bool) (a lo : ℕ) → (IsTrue b ↔ (a ≤ lo)) → lo < a → b ≡ false
not_by true a lo e h = let l = e.0 refl in absurd (omega arith)
not_by false a lo e h = refl

pub from_up : {u : List ℕ} {lo start end : ℕ} (k : ℕ) → IsPacked u → IsFrom u lo start end →
    k < length u → first_leaf (get_or u k 0) + size_of (get_or u k 0) ≤ lo → IsFrom u lo (k + 1) end
from_up {u} {lo} k p f h e = record { ended = ended_to u k lo p h e; next = f.next }

pub from_down : {u : List ℕ} {lo start end : ℕ} (k : ℕ) →
    IsFrom u lo start end → lo < first_leaf (get_or u k 0) + size_of (get_or u k 0) → IsFrom u lo start k
from_down k f e = record { ended = f.ended; next = λ _. e }

-- a cell whose middle comes before a leaf begins before it, so those before it end by the leaf
pub from_brackets : {u : List ℕ} (lo : ℕ) {base high : ℕ} (start : ℕ) →
    IsPacked u → Brackets u (2 * lo) base high → start ≡ base - 1 → IsFrom u lo start high
from_brackets {u} lo {base} {high} start p b e =
    let w = b.within in
    let o = b.order in
    record {
      ended = λ k h.
          let c : first_leaf (get_or u k 0) + size_of (get_or u k 0) ≤ first_leaf (get_or u (base - 1) 0) =
          p.chain k (base - 1) 0 (omega arith) (omega arith) in
          let m = (cell_leaves (get_or u (base - 1) 0) (p.cells (base - 1) 0 (omega arith))).middle in
          let l = b.below (base - 1) (omega arith) in
          omega arith;
      next = λ h.
          let c = cell_leaves (get_or u high 0) (p.cells high 0 h) in
          let m = c.middle in
          let s = c.some in
          let r = b.rest high (omega arith) h in
          omega arith;
    }

-- a number from twice a leaf on is of a cell that ends after the leaf
pub later_from_mark : {u : List ℕ} (lo k : ℕ) {mark : ℕ} → IsPacked u → mark ≡ min (2 * lo) (2 ^ 64 - 1) →
    k < length u → mark ≤ get_or u k 0 → lo < first_leaf (get_or u k 0) + size_of (get_or u k 0)
later_from_mark {u} lo k p e h m =
    let c = cell_leaves (get_or u k 0) (p.cells k 0 h) in
    let middle = c.middle in
    let some = c.some in
    let within = c.within in
    omega arith

-- the cells before one whose number is below twice a leaf end by the leaf
pub ended_below : {u : List ℕ} (lo k : ℕ) {mark : ℕ} → IsPacked u → mark ≡ min (2 * lo) (2 ^ 64 - 1) →
    k < length u → get_or u k 0 < mark → FirstEndBy u k lo
ended_below {u} lo k p e h l j g =
    let apart : first_leaf (get_or u j 0) + size_of (get_or u j 0) ≤ first_leaf (get_or u k 0) = p.chain j k 0 g h in
    let middle = (cell_leaves (get_or u k 0) (p.cells k 0 h)).middle in
    omega arith

-- three looks leave a quarter of the list
pub quarter_within : (base size q s t r : ℕ) → s < 2 → t < 2 → r < 2 → 3 * q ≤ size
    → base + q * ((s + t) + r) + (size - 3 * q) ≤ base + size
quarter_within base size q s t r a b c h =
    let m : ((s + t) + r) * q ≤ 3 * q = mul-le-mul_right q (omega arith) in
    omega arith

-- what is left of a search without branches: `size` places from `base` on, and the last number below the mark
pub record Left (u : List ℕ) (lo mark start end base size below : ℕ) : Type 0 where
  pub from : start ≤ base
  pub to : base + size ≤ end
  pub held : ((base ≡ start) × (below ≡ 0))
      ⊎ ((start < base) × (below ≡ get_or u (base - 1) 0) × (below < mark))
  pub next : IsPacked u → IsFrom u lo start end → EndsAfter u (base + size) lo

pub left_all : {u : List ℕ} (lo mark start end : ℕ) → start ≤ end → Left u lo mark start end start (end - start) 0
left_all {u} lo mark start end o =
    let e : start + (end - start) ≡ end = omega arith in
    record {
      from = omega arith;
      to = omega arith;
      held = inl (refl, refl);
      next = λ p f. rw e f.next;
    }

-- a look leaves half of the places
pub left_half : {u : List ℕ} {lo mark start end base size below : ℕ} (id is more : ℕ) →
    Left u lo mark start end base size below → 0 < size → mark ≡ min (2 * lo) (2 ^ 64 - 1) → end ≤ length u →
    id ≡ get_or u (base + (size - size / 2 - 1)) 0 → ((is ≡ 1) × (id < mark)) ⊎ ((is ≡ 0) × (mark ≤ id)) →
    (0 < is → more ≡ id) → (is ≡ 0 → more ≡ below) →
    Left u lo mark start end (base + (size - size / 2) * is) (size / 2) more
left_half {u} {lo} {mark} {start} {end} {base} {size} {below} id is more l some m w at test on off =
    let from = l.from in
    let to = l.to in
    let k : ℕ = base + (size - size / 2 - 1) in
    elim test [
      | inl t ↦
          let b : base + (size - size / 2) * is ≡ base + (size - size / 2) = rw t.0 (omega arith) in
          let e : more ≡ id = on (omega (arith, t.0)) in
          let low = t.1 in
          let i : base + (size - size / 2) - 1 ≡ k = omega arith in
          let all : base + (size - size / 2) + size / 2 ≡ base + size = omega arith in
          rw b (record {
            from = omega arith;
            to = omega arith;
            held = inr (omega arith, rw i (e ∙ at), rw e low);
            next = λ p f. rw all (l.next p f);
          })
      | inr t ↦
          let b : base + (size - size / 2) * is ≡ base = rw t.0 (omega arith) in
          let e : more ≡ below = off t.0 in
          rw (b, e) (record {
            from = l.from;
            to = omega arith;
            held = l.held;
            next = λ p f h.
                let g : k < length u = omega arith in
                let first = later_from_mark lo k p m g (rw (← at) t.1) in
                let after = ends_later u k (base + size / 2) p (omega arith) h in
                omega arith;
          })
    ]

-- a cell that the search goes back to is one that it went past
pub left_from : {u : List ℕ} {lo mark start end base size below : ℕ} (is : ℕ) →
    Left u lo mark start end base size below → is ≤ 1 → (below ≡ 0 → is ≡ 0) → start + is ≤ base
left_from is l few none =
    elim l.held [
      | inl t ↦ let z = none t.1 in let e = t.0 in omega arith
      | inr t ↦ let s = t.0 in omega arith
    ]

-- where no place is left, the last number below the mark tells whether the leaf comes before its cell ends
pub left_none : {u : List ℕ} {lo mark start end base size below : ℕ} (is : ℕ) →
    Left u lo mark start end base size below → size ≡ 0 → mark ≡ min (2 * lo) (2 ^ 64 - 1) → end ≤ length u →
    (IsCell below → ((is ≡ 1) × (lo < first_leaf below + size_of below))
    ⊎ ((is ≡ 0) × (first_leaf below + size_of below ≤ lo))) → (below ≡ 0 → is ≡ 0) → IsPacked u →
    IsFrom u lo start end → FirstEndBy u (base - is) lo × EndsAfter u (base - is) lo
left_none {u} {lo} {mark} {start} {end} {base} {size} {below} is l all m w test none p f =
    let from = l.from in
    let to = l.to in
    let here : base + size ≡ base = omega arith in
    let last : EndsAfter u base lo = rw here at (l.next p f) in
    elim l.held [
      | inl t ↦
          let b : base - is ≡ base = rw (none t.1) (omega arith) in
          rw b (rw t.0 f.ended, last)
      | inr t ↦
          let some = t.0 in
          let k : ℕ = base - 1 in
          let g : k < length u = omega arith in
          let up : k + 1 ≡ base = omega arith in
          let low : get_or u k 0 < mark = rw (← t.1) t.2 in
          let cell : IsCell below = rw t.1 (p.cells k 0 g) in
          elim (test cell) [
            | inl a ↦
                let b : base - is ≡ k = rw a.0 (omega arith) in
                rw b (ended_below lo k p m g low, λ _. rw (← t.1) a.1)
            | inr a ↦
                let b : base - is ≡ base = rw a.0 (omega arith) in
                let e : first_leaf (get_or u k 0) + size_of (get_or u k 0) ≤ lo = rw (← t.1) a.1 in
                rw b (rw (← up) (ended_to u k lo p g e), last)
          ]
    ]

-- Squares of cells and rectangles of leaves.
use Rattle.std.proofs.Common.{◌≡◌, ℕ, ◌+◌, ◌-◌, ◌<◌, ◌≤◌, true, false, arith, ◌⊎◌, inl, inr, ⊎_elim}
use Rattle.std.proofs.lemmas.Bool.{cases_lt, both_ways}
use Rattle.std.proofs.lemmas.Bool.{false_from_ne_true}
use Rattle.std.proofs.lemmas.Nat.{pow_pos}
use Rattle.s2cell.specs.Cell.{level_of, covers}
use Rattle.s2cell.specs.Rectangles.{Rect, IsRect, rect_set}
use Rattle.s2cell.specs.Square.{IsSquareOf}
use Rattle.s2cell.proofs.Rectangles.{in_rect}

-- ---- one side

-- no place from `at` on, for `size` places, lies from `lo` to `hi`
abbrev pub Apart : ℕ → ℕ → ℕ → ℕ → Type 0
Apart lo hi at size = (hi < at) ⊎ (at + size ≤ lo)

-- all of them do
abbrev pub Inside : ℕ → ℕ → ℕ → ℕ → Type 0
Inside lo hi at size = (lo ≤ at) × (at + size ≤ hi + 1)

pub apart_or : (lo hi at size : ℕ) → Apart lo hi at size ⊎ ((hi < at → ⊥) × (at + size ≤ lo → ⊥))
apart_or lo hi at size =
    ⊎_elim (λ (h : hi < at). inl (inl h))
    (λ (h : at ≤ hi). ⊎_elim (λ (l : lo < at + size). inr (λ x. absurd (omega arith), λ x. absurd (omega arith)))
    (λ (l : at + size ≤ lo). inl (inr l)) (cases_lt lo (at + size)))
    (cases_lt hi at)

record Shared (lo hi at size : ℕ) : Type 0 where
  pub at_place : ℕ
  pub low : lo ≤ at_place
  pub high : at_place ≤ hi
  pub after : at ≤ at_place
  pub before : at_place < at + size

shared : (lo hi at size : ℕ) → lo ≤ hi → 0 < size → (hi < at → ⊥) × (at + size ≤ lo → ⊥) → Shared lo hi at size
shared lo hi at size h s n =
    let a : at ≤ hi = ⊎_elim (λ (w : hi < at). absurd (n.0 w)) (λ (w : at ≤ hi). w) (cases_lt hi at) in
    let b : lo < at + size = ⊎_elim (λ (w : lo < at + size). w) (λ (w : at + size ≤ lo). absurd (n.1 w))
    (cases_lt lo (at + size)) in
    ⊎_elim
    (λ (w : at < lo). record { at_place = lo; low = omega arith; high = h; after = omega arith; before = b })
    (λ (w : lo ≤ at). record { at_place = at; low = w; high = a; after = omega arith; before = omega arith })
    (cases_lt at lo)

-- ---- both sides

pub side_pos : {c f i j s : ℕ} → IsSquareOf c f i j s → 0 < s
side_pos {c} q = let p = pow_pos (30 - level_of c) in let e = q.size_is in omega arith

pub out_from : (r : Rect) {c f i j s : ℕ} → IsSquareOf c f i j s → (f ≡ r.face → ⊥)
    ⊎ (Apart r.i0 r.i1 i s ⊎ Apart r.j0 r.j1 j s) → (x : ℕ) → covers c x ≡ true → rect_set r x ≡ false
out_from r {f} {i} {j} {s} q a x h =
    false_from_ne_true (rect_set r x) (λ t.
    let there = q.leaves x h in
    let w = (in_rect r x f there.0 there.1 there.2).0 t in
    let u = there.3.first in
    let v = there.3.second in
    let wi = w.along in
    let wj = w.across in
    let u0 = u.0 in let u1 = u.1 in let v0 = v.0 in let v1 = v.1 in
    let i0 = wi.0 in let i1 = wi.1 in let j0 = wj.0 in let j1 = wj.1 in
    ⊎_elim (λ (n : f ≡ r.face → ⊥). n w.on)
    (⊎_elim (⊎_elim (λ (l : r.i1 < i). absurd (omega arith)) (λ (l : i + s ≤ r.i0). absurd (omega arith)))
    (⊎_elim (λ (l : r.j1 < j). absurd (omega arith)) (λ (l : j + s ≤ r.j0). absurd (omega arith)))) a)

pub out_to : {r : Rect} {c f i j s : ℕ} → IsRect r → IsSquareOf c f i j s → f ≡ r.face → (r.i1 < i → ⊥)
    × (i + s ≤ r.i0 → ⊥) → (r.j1 < j → ⊥) × (j + s ≤ r.j0 → ⊥)
    → ((x : ℕ) → covers c x ≡ true → rect_set r x ≡ false) → ⊥
out_to {r} {c} {f} {i} {j} {s} ok q e a b h =
    let p = side_pos q in
    let u = shared r.i0 r.i1 i s ok.i.0 p a in
    let v = shared r.j0 r.j1 j s ok.j.0 p b in
    let leaf = q.places u.at_place v.at_place (record { first = (u.after, u.before); second = (v.after, v.before) }) in
    both_ways (rect_set r leaf.0) (h leaf.0 leaf.1) ((in_rect r leaf.0 f u.at_place v.at_place leaf.2).1
    (record { on = e; along = (u.low, u.high); across = (v.low, v.high) }))

pub in_from : (r : Rect) {c f i j s : ℕ} → IsSquareOf c f i j s →
    f ≡ r.face → Inside r.i0 r.i1 i s → Inside r.j0 r.j1 j s → (x : ℕ) → covers c x ≡ true → rect_set r x ≡ true
in_from r {f} q e a b x h =
    let there = q.leaves x h in
    let u = there.3.first in
    let v = there.3.second in
    let u0 = u.0 in let u1 = u.1 in let v0 = v.0 in let v1 = v.1 in
    let a0 = a.0 in let a1 = a.1 in let b0 = b.0 in let b1 = b.1 in
    (in_rect r x f there.0 there.1 there.2).1
    (record { on = e; along = (omega arith, omega arith); across = (omega arith, omega arith) })

-- what a square inside a rectangle says of its sides
pub record Within (r : Rect) (f i j s : ℕ) : Type 0 where
  pub on : f ≡ r.face
  pub along : Inside r.i0 r.i1 i s
  pub across : Inside r.j0 r.j1 j s

pub in_to : (r : Rect) {c f i j s : ℕ} →
    IsSquareOf c f i j s → ((x : ℕ) → covers c x ≡ true → rect_set r x ≡ true) → Within r f i j s
in_to r {c} {f} {i} {j} {s} q h =
    let p = side_pos q in
    let low = q.places i j (record { first = (omega arith, omega arith); second = (omega arith, omega arith) }) in
    let high = q.places (i + (s - 1)) (j + (s - 1))
    (record { first = (omega arith, omega arith); second = (omega arith, omega arith) }) in
    let a = (in_rect r low.0 f i j low.2).0 (h low.0 low.1) in
    let b = (in_rect r high.0 f (i + (s - 1)) (j + (s - 1)) high.2).0 (h high.0 high.1) in
    let a0 = a.along.0 in let a1 = a.across.0 in
    let b0 = b.along.1 in let b1 = b.across.1 in
    record { on = a.on; along = (omega arith, omega arith); across = (omega arith, omega arith) }

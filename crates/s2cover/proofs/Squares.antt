-- Blocks of leaves and squares of the grid, and the sides of a rectangle rounded to it.
use Rattle.std.proofs.Common.{◌≡◌, ℕ, ◌+◌, ◌-◌, ◌*◌, ◌/◌, ◌%◌, ◌^◌, ◌<◌, ◌≤◌, Bool, true}
use Rattle.std.proofs.Common.{false, refl, sym, ◌∙◌, ap, arith, subst, ◌⊎◌, inl, inr, ⊎_elim}
use Rattle.std.proofs.lemmas.Bool.{cases_lt}
use Rattle.std.proofs.lemmas.Nat.{div-add-mod', mod_below, pow-add}
use Rattle.std.proofs.Math.Nat.{mul-le-mul_right, lt_of_mul-lt-mul_right}
use Rattle.s2cell.specs.Curve.{At, IsPlaceOf, i_of, j_of}
use Rattle.s2cell.proofs.CellLemmas.{four_pos}
use Rattle.s2cell.proofs.Levels.{at_above, parts}
use Rattle.s2cell.proofs.Places.{place_is, same_place, same_leaf, leaf_exists, same_parts}
use Rattle.s2cell.proofs.Squares.{place_of_leaf, block_of}

pub same_bool : (a b : Bool) → (a ≡ true → b ≡ true) → (b ≡ true → a ≡ true) → a ≡ b
same_bool true b f g = sym (f refl)
same_bool false true f g = g refl
same_bool false false f g = refl

-- ---- quotients

quotient_mono : (a b s : ℕ) → 0 < s → a ≤ b → a / s ≤ b / s
quotient_mono a b s hs h =
    let ea = div-add-mod' a s in
    let eb = div-add-mod' b s in
    let rb = mod_below b s hs in
    let l : a / s < b / s + 1 = lt_of_mul-lt-mul_right s (omega arith) in
    omega arith

quotient_ge : (a b s : ℕ) → 0 < s → a * s ≤ b → a ≤ b / s
quotient_ge a b s hs h =
    let eb = div-add-mod' b s in
    let rb = mod_below b s hs in
    let l : a < b / s + 1 = lt_of_mul-lt-mul_right s (omega arith) in
    omega arith

pub quotient_below : (a b s : ℕ) → 0 < s → b < a * s → b / s < a
quotient_below a b s hs h =
    let eb = div-add-mod' b s in
    lt_of_mul-lt-mul_right s (omega arith)

pub times : (a b s : ℕ) → a ≤ b → a * s ≤ b * s
times a b s h = mul-le-mul_right {m = a} {n = b} s h

-- a place between two that are less than a square apart is in the square of one of them
pub one_end : (lo hi v s : ℕ) → 0 < s → lo ≤ v → v ≤ hi → hi - lo < s → (v / s ≡ lo / s) ⊎ (v / s ≡ hi / s)
one_end lo hi v s hs a b near =
    let low = quotient_mono lo v s hs a in
    let high = quotient_mono v hi s hs b in
    let elo = div-add-mod' lo s in
    let rlo = mod_below lo s hs in
    let top : hi / s < lo / s + 2 = quotient_below (lo / s + 2) hi s hs (omega arith) in
    ⊎_elim (λ (h : v / s < hi / s). inl (omega arith)) (λ (h : hi / s ≤ v / s). inr (omega arith))
    (cases_lt (v / s) (hi / s))

-- ---- blocks of leaves and squares of places

-- two leaves of a block are in one square of the grid
pub record SameSquare (g x y : ℕ) : Type 0 where
  pub face : y / 4 ^ 30 ≡ x / 4 ^ 30
  pub first : i_of y / 2 ^ g ≡ i_of x / 2 ^ g
  pub second : j_of y / 2 ^ g ≡ j_of x / 2 ^ g

-- a leaf by its block: the face and the number of the block there
pub record InFace (g x : ℕ) : Type 0 where
  face : x / 4 ^ 30 ≡ x / 4 ^ g / 4 ^ (30 - g)
  block : x % 4 ^ 30 / 4 ^ g ≡ x / 4 ^ g % 4 ^ (30 - g)

in_face : (g x : ℕ) → g ≤ 30 → InFace g x
in_face g x h =
    let e : 30 ≡ (30 - g) + g = omega arith in
    let p : 4 ^ 30 ≡ 4 ^ (30 - g) * 4 ^ g = ap (λ z. 4 ^ z) e ∙ pow-add 4 (30 - g) g in
    let w = parts x (4 ^ (30 - g)) (4 ^ g) (four_pos (30 - g)) (four_pos g) in
    record { face = ap (λ z. x / z) p ∙ w.whole; block = ap (λ z. x % z / 4 ^ g) p ∙ w.middle }

-- the square of the grid in which a leaf stands
square_at : (g : ℕ) {x f i j : ℕ} →
    g ≤ 30 → IsPlaceOf x f i j → At (30 - g) (f % 2) (x % 4 ^ 30 / 4 ^ g) (i / 2 ^ g) (j / 2 ^ g)
square_at g {x} {f} {i} {j} h p =
    let e : 30 ≡ (30 - g) + g = omega arith in
    at_above (30 - g) g (f % 2) (x % 4 ^ 30) i j (subst (λ (z : ℕ). At z (f % 2) (x % 4 ^ 30) i j) e p.at)

pub same_square : (g x y : ℕ) → g ≤ 30 → y / 4 ^ g ≡ x / 4 ^ g → SameSquare g x y
same_square g x y h e =
    let fx = in_face g x h in
    let fy = in_face g y h in
    let face : y / 4 ^ 30 ≡ x / 4 ^ 30 = fy.face ∙ ap (λ z. z / 4 ^ (30 - g)) e ∙ sym fx.face in
    let block : y % 4 ^ 30 / 4 ^ g ≡ x % 4 ^ 30 / 4 ^ g = fy.block ∙ ap (λ z. z % 4 ^ (30 - g)) e ∙ sym fx.block in
    let ax = square_at g h (place_is x) in
    let ay = square_at g h (place_is y) in
    let s = same_place (30 - g) (x / 4 ^ 30 % 2) (x % 4 ^ 30 / 4 ^ g) (i_of y / 2 ^ g) (j_of y / 2 ^ g)
    (i_of x / 2 ^ g) (j_of x / 2 ^ g) (rw (face, block) at ay) ax in
    record { face = face; first = s.0; second = s.1 }

-- each place of the square has a leaf in the block
pub record BlockLeaf (g x i j : ℕ) : Type 0 where
  pub leaf : ℕ
  pub block : leaf / 4 ^ g ≡ x / 4 ^ g
  pub place : IsPlaceOf leaf (x / 4 ^ 30) i j

pub block_leaf : (g x i j : ℕ) → g ≤ 30 → i < 2 ^ 30 → j < 2 ^ 30 → i / 2 ^ g ≡ i_of x / 2 ^ g →
    j / 2 ^ g ≡ j_of x / 2 ^ g → BlockLeaf g x i j
block_leaf g x i j h hi hj ei ej =
    let f = x / 4 ^ 30 in
    let n = leaf_exists 30 (f % 2) i j (omega arith) hi hj in
    let y = 4 ^ 30 * f + n.0 in
    let p : IsPlaceOf y f i j = place_of_leaf f n.0 i j n.1 in
    let ax = square_at g h (place_is x) in
    let ay = square_at g h p in
    let block : y % 4 ^ 30 / 4 ^ g ≡ x % 4 ^ 30 / 4 ^ g =
    same_leaf (30 - g) (f % 2) (y % 4 ^ 30 / 4 ^ g) (x % 4 ^ 30 / 4 ^ g) (i_of x / 2 ^ g) (j_of x / 2 ^ g)
    (omega arith) (rw (ei, ej) at ay) ax in
    let fx = in_face g x h in
    let fy = in_face g y h in
    let face : y / 4 ^ 30 ≡ x / 4 ^ 30 = sym p.face_is in
    record {
      leaf = y;
      block = same_parts (y / 4 ^ g) (x / 4 ^ g) (4 ^ (30 - g)) (sym fy.face ∙ face ∙ fx.face)
          (sym fy.block ∙ block ∙ fx.block);
      place = p;
    }

-- ---- one side, rounded outwards

pub record Rounded (lo hi lo2 hi2 s : ℕ) : Type 0 where
  pub low : lo2 ≡ lo / s * s
  pub high : hi2 ≡ hi / s * s + (s - 1)

pub rounded : {lo hi low high side s : ℕ} → side ≡ s → low ≡ lo / side * side → high ≡ hi / side * side →
    Rounded lo hi low (high + (side - 1)) s
rounded e low high = record { low = rw e at low; high = rw (high, e) refl }

pub out_to : {lo hi lo2 hi2 s : ℕ} (u v : ℕ) →
    0 < s → Rounded lo hi lo2 hi2 s → lo ≤ u → u ≤ hi → u / s ≡ v / s → (lo2 ≤ v) × (v ≤ hi2)
out_to {lo} {hi} {s} u v hs r a b e =
    let x = quotient_mono lo u s hs a in
    let y = quotient_mono u hi s hs b in
    let xs = times (lo / s) (v / s) s (omega arith) in
    let ys = times (v / s) (hi / s) s (omega arith) in
    let ev = div-add-mod' v s in
    let rv = mod_below v s hs in
    let l = r.low in
    let h = r.high in
    (omega arith, omega arith)

pub record Near (lo hi v s : ℕ) : Type 0 where
  pub at_place : ℕ
  pub low : lo ≤ at_place
  pub high : at_place ≤ hi
  pub block : at_place / s ≡ v / s

pub out_from : {lo hi lo2 hi2 s : ℕ} (v : ℕ) →
    0 < s → lo ≤ hi → Rounded lo hi lo2 hi2 s → lo2 ≤ v → v ≤ hi2 → Near lo hi v s
out_from {lo} {hi} {s} v hs h r a b =
    let l = r.low in
    let g = r.high in
    let q = v / s in
    let x : lo / s ≤ q = quotient_ge (lo / s) v s hs (omega arith) in
    let y : q < hi / s + 1 = quotient_below (hi / s + 1) v s hs (omega arith) in
    let xs = times (lo / s) q s x in
    let ys = times q (hi / s) s (omega arith) in
    let elo = div-add-mod' lo s in
    let rlo = mod_below lo s hs in
    let ehi = div-add-mod' hi s in
    ⊎_elim
    (λ (w : lo < q * s). record {
      at_place = q * s;
      low = omega arith;
      high = omega arith;
      block = block_of (q * s) q s (omega arith) (omega arith);
    })
    (λ (w : q * s ≤ lo). record { at_place = lo; low = omega arith; high = h; block = block_of lo q s w (omega arith) })
    (cases_lt lo (q * s))

-- ---- one side, rounded inwards

pub record Narrowed (lo hi lo2 end s : ℕ) : Type 0 where
  pub low : lo2 ≡ (lo + (s - 1)) / s * s
  pub end_is : end ≡ (hi + 1) / s * s

pub narrowed : {lo hi low end side s : ℕ} → side ≡ s → low ≡ (lo + (side - 1)) / side * side →
    end ≡ (hi + 1) / side * side → Narrowed lo hi low end s
narrowed e low end = record { low = rw e at low; end_is = rw e at end }

pub in_to : {lo hi lo2 end s : ℕ} (v : ℕ) →
    0 < s → Narrowed lo hi lo2 end s → lo ≤ v / s * s → v / s * s + (s - 1) ≤ hi → (lo2 ≤ v) × (v < end)
in_to {lo} {hi} {s} v hs r a b =
    let l = r.low in
    let e = r.end_is in
    let q = v / s in
    let ev = div-add-mod' v s in
    let rv = mod_below v s hs in
    let x : (lo + (s - 1)) / s < q + 1 = quotient_below (q + 1) (lo + (s - 1)) s hs (omega arith) in
    let y : q + 1 ≤ (hi + 1) / s = quotient_ge (q + 1) (hi + 1) s hs (omega arith) in
    let xs = times ((lo + (s - 1)) / s) q s (omega arith) in
    let ys = times (q + 1) ((hi + 1) / s) s y in
    (omega arith, omega arith)

pub in_from : {lo hi lo2 end s : ℕ} (u v : ℕ) →
    0 < s → Narrowed lo hi lo2 end s → lo2 ≤ v → v < end → u / s ≡ v / s → (lo ≤ u) × (u ≤ hi)
in_from {lo} {hi} {s} u v hs r a b e =
    let l = r.low in
    let n = r.end_is in
    let q = v / s in
    let x : (lo + (s - 1)) / s ≤ q = quotient_ge ((lo + (s - 1)) / s) v s hs (omega arith) in
    let y : q < (hi + 1) / s = quotient_below ((hi + 1) / s) v s hs (omega arith) in
    let xs = times ((lo + (s - 1)) / s) q s x in
    let ys = times (q + 1) ((hi + 1) / s) s (omega arith) in
    let elo = div-add-mod' (lo + (s - 1)) s in
    let rlo = mod_below (lo + (s - 1)) s hs in
    let ehi = div-add-mod' (hi + 1) s in
    let eu = div-add-mod' u s in
    let ru = mod_below u s hs in
    let same : u / s * s ≡ q * s = ap (λ z. z * s) e in
    (omega arith, omega arith)

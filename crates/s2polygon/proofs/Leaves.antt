-- All the way down.
use Rattle.std.proofs.Common.{◌≡◌, sym, ap, ◌∙◌, ℕ, suc, ◌+◌, ◌-◌, ◌*◌, ◌/◌, ◌^◌, ◌≤◌, ◌<◌, Bool, List, arith}
use Rattle.std.proofs.Common.{pow-add, pow-suc, div-one, div-mul-le_self, lt_of_mul-lt-mul_right}
use Rattle.std.proofs.Math.Nat.{div-div-eq-div-mul, div-eq_of_lt}
use Rattle.s2polygon.specs.Descents.{IsRight, Near}
use Rattle.s2polygon.specs.declared.frames.FramedEdge.{FramedEdge}

pub in_range : (k x : ℕ) → k ≤ 30 → x < 2 ^ 30 → x / 2 ^ k < 2 ^ (30 - k)
in_range k x h l =
    let f : 30 - k + k ≡ 30 = omega arith in
    let g : 2 ^ (30 - k) * 2 ^ k ≡ 2 ^ 30 = sym (pow-add 2 (30 - k) k) ∙ ap (λ (t : ℕ). 2 ^ t) f in
    let m = div-mul-le_self x (2 ^ k) in
    lt_of_mul-lt-mul_right (2 ^ k) (omega (arith, g, m, l))

halved : (k x : ℕ) → x / 2 ^ k / 2 ≡ x / 2 ^ suc k
halved k x = div-div-eq-div-mul x (2 ^ k) 2 ∙ ap (λ (t : ℕ). x / t) (sym (pow-suc 2 k))

module _ (margin : ℕ) (face : Near) (x y : ℕ) where
  abbrev pub Reaches : ℕ → Near → Type 0
  Reaches k known = (top : Bool) (edges : List FramedEdge) → IsRight margin top edges 0 30 0 0 face
      → IsRight margin top edges (30 - k) k (x / 2 ^ k) (y / 2 ^ k) known

  pub start : x < 2 ^ 30 → y < 2 ^ 30 → Reaches 30 face
  start h l top edges r = let e = div-eq_of_lt h in let f = div-eq_of_lt l in rw (e, f) r

  pub one_down : (k : ℕ) (known child : Near) → 0 < k → k ≤ 30 → Reaches k known
      → ((top : Bool) (edges : List FramedEdge) (n : ℕ) → IsRight margin top edges n (suc (k - 1))
      (x / 2 ^ (k - 1) / 2) (y / 2 ^ (k - 1) / 2) known
      → IsRight margin top edges (suc n) (k - 1) (x / 2 ^ (k - 1)) (y / 2 ^ (k - 1)) child)
      → Reaches (k - 1) child
  one_down k known child above most reached descends top edges r =
      let one : suc (k - 1) ≡ k = omega arith in
      let level : suc (30 - k) ≡ 30 - (k - 1) = omega arith in
      let parent : IsRight margin top edges (30 - k) (suc (k - 1)) (x / 2 ^ (k - 1) / 2) (y / 2 ^ (k - 1) / 2) known =
      rw (halved (k - 1) x, halved (k - 1) y, one) (reached top edges r) in
      rw level at (descends top edges (30 - k) parent)

  pub arrived : (bottom k : ℕ) (known : Near) → k ≡ bottom → Reaches k known → (top : Bool)
      (edges : List FramedEdge) → IsRight margin top edges 0 30 0 0 face
      → IsRight margin top edges (30 - bottom) bottom (x / 2 ^ bottom) (y / 2 ^ bottom) known
  arrived bottom k known e reached top edges r = rw e at (reached top edges r)

pub at_leaf : (margin : ℕ) (top : Bool) (edges : List FramedEdge) (x y : ℕ) (known : Near)
    → IsRight margin top edges 30 0 (x / 1) (y / 1) known → IsRight margin top edges 30 0 x y known
at_leaf margin top edges x y known there = rw (div-one x, div-one y) at there

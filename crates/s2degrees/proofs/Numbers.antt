-- The numbers that the code makes of an angle of at most 45 degrees are near to each sum of its sine and its cosine.
use Rattle.std.proofs.Common.{ℕ, suc, ◌+◌, ◌-◌, ◌*◌, ◌/◌, ◌^◌, ◌≤◌, ◌<◌, ◌≡◌, arith, lit≤, refl}
use Rattle.std.proofs.Math.Nat.{mul-le-mul_right}
use Rattle.std.proofs.lemmas.Nat.{mul-le}
use Rattle.s2degrees.specs.Degrees.{IsCosineSum, IsRadians, IsSineSum, eighth}
use Rattle.s2degrees.specs.Series.{over, under}
use Rattle.s2degrees.specs.Working.Near.{IsNear}
use Rattle.s2degrees.specs.Working.Numbers.{cosine_number, cosine_steps, product_number, radians_number}
use Rattle.s2degrees.specs.Working.Numbers.{sine_number, sine_steps, square_number, step_number}
use Rattle.s2degrees.proofs.Steps.{one_below, one_near, over-under, product_near, quotient, rest_of, step_near, weaken}

pub product_small : (a b : ℕ) → a ≤ 2 ^ 62 → b ≤ 2 ^ 62 → product_number a b ≤ 2 ^ 62
product_small a b h k =
    let q = quotient (a * b) (2 ^ 62) (omega arith) in
    let l = mul-le a b (2 ^ 62) (2 ^ 62) h k in
    let least = q.0 in
    omega (arith, least, l)

step_small : (q y k : ℕ) → step_number q y k ≤ 2 ^ 62
step_small q y k = omega arith

radians_small : (angle : ℕ) → angle ≤ eighth → radians_number angle ≤ 2 ^ 62
radians_small angle h =
    let q = quotient (angle * 92797620144528363529) (2 ^ 60) (omega arith) in
    let least = q.0 in
    omega (arith, least, h)

radians_near : (angle s t : ℕ) → angle ≤ eighth → IsRadians angle s t → IsNear 2 (radians_number angle) s t
radians_near angle s t small h =
    let q = quotient (angle * 92797620144528363529) (2 ^ 60) (omega arith) in
    let h1 = mul-le-mul_right t q.0 in
    let h2 = mul-le-mul_right t q.1 in
    let h3 = mul-le-mul_right t small in
    record {
      least = omega (arith, h1, h2, h3, h.least, h.most);
      most = omega (arith, h1, h2, h3, h.least, h.most);
    }

times_near : (c e x y p d u v : ℕ) → y ≤ 2 ^ 62 → p ≤ d → IsNear c x p d → IsNear e y u v
    → IsNear (c + e + 1) (product_number x y) (p * u) (d * v)
times_near c e x y p d u v hy hp h k =
    let r = product_near (2 ^ 62) x y p d u v c e (omega arith) hy hp h.least h.most k.least k.most
    (x * y / 2 ^ 62) refl in
    record { least = r.0; most = r.1 }

stepped : (q y k c p d e g m : ℕ) → q ≤ 2 ^ 62 → y ≤ 2 ^ 62 → 0 < k → p ≤ d → IsNear c q p d
    → IsNear e y (over p d (k + 2) m) (under d (k + 2) m) → c + e + k * (k + 1) ≤ g * (k * (k + 1))
    → IsNear g (step_number q y k) (over p d k (suc m)) (under d k (suc m))
unfolding over under
stepped q y k c p d e g m hq hy hk hp h i hg =
    let n = k * (k + 1) in
    let hn : 0 < n = omega (arith, one_below k hk) in
    let f = q * y / 2 ^ 62 / n in
    let er : (2 ^ 62 - f) + f ≡ 2 ^ 62 = rest_of (2 ^ 62) (q * y / 2 ^ 62) n hn (product_small q y hq hy) in
    let r = step_near (2 ^ 62) q y p d (over p d (k + 2) m) (under d (k + 2) m) c e (omega arith) hy hp h.least h.most
    i.least i.most n f (2 ^ 62 - f) g (d * n * under d (k + 2) m) (p * over p d (k + 2) m) hn refl er refl refl hg in
    record { least = r.0; most = r.1 }

module _ (q p d : ℕ) (small : q ≤ 2 ^ 62) (sq : p ≤ d) (near-q : IsNear 5 q p d) where
  sine_steps_near : (m : ℕ) → IsNear 12968 (sine_steps q) (over p d 2 (suc (suc (suc (suc (suc (suc (suc m))))))))
      (under d 2 (suc (suc (suc (suc (suc (suc (suc m))))))))
  unfolding sine_steps
  sine_steps_near m =
      let a = step_number q (2 ^ 62) 14 in
      let b = step_number q a 12 in
      let c = step_number q b 10 in
      let e = step_number q c 8 in
      let f = step_number q e 6 in
      let g = step_number q f 4 in
      let near-a = stepped q (2 ^ 62) 14 5 p d 16954728008924221 80736800042498 m small (omega arith) (omega arith) sq
      near-q (one_near p d 16 m 16954728008924221 sq (lit≤ tt)) (lit≤ tt) in
      let near-b = stepped q a 12 5 p d 80736800042498 517543590018 (suc m) small (step_small q (2 ^ 62) 14)
      (omega arith) sq near-q near-a (lit≤ tt) in
      let near-c = stepped q b 10 5 p d 517543590018 4704941729 (suc (suc m)) small (step_small q a 12) (omega arith)
      sq near-q near-b (lit≤ tt) in
      let near-d = stepped q c 8 5 p d 4704941729 65346414 (suc (suc (suc m))) small (step_small q b 10) (omega arith)
      sq near-q near-c (lit≤ tt) in
      let near-e = stepped q e 6 5 p d 65346414 1555869 (suc (suc (suc (suc m)))) small (step_small q c 8)
      (omega arith) sq near-q near-d (lit≤ tt) in
      let near-f = stepped q f 4 5 p d 1555869 77795 (suc (suc (suc (suc (suc m))))) small (step_small q e 6)
      (omega arith) sq near-q near-e (lit≤ tt) in
      stepped q g 2 5 p d 77795 12968 (suc (suc (suc (suc (suc (suc m)))))) small (step_small q f 4) (omega arith) sq
      near-q near-f (lit≤ tt)

  cosine_steps_near : (m : ℕ) → IsNear 725 (cosine_steps q)
      (over p d 1 (suc (suc (suc (suc (suc (suc (suc (suc m)))))))))
      (under d 1 (suc (suc (suc (suc (suc (suc (suc (suc m)))))))))
  unfolding cosine_steps
  cosine_steps_near m =
      let a = step_number q (2 ^ 62) 15 in
      let b = step_number q a 13 in
      let c = step_number q b 11 in
      let e = step_number q c 9 in
      let f = step_number q e 7 in
      let g = step_number q f 5 in
      let i = step_number q g 3 in
      let near-a = stepped q (2 ^ 62) 15 5 p d 15070869341265974 62795288921943 m small (omega arith) (omega arith) sq
      near-q (one_near p d 17 m 15070869341265974 sq (lit≤ tt)) (lit≤ tt) in
      let near-b = stepped q a 13 5 p d 62795288921943 345029060012 (suc m) small (step_small q (2 ^ 62) 15)
      (omega arith) sq near-q near-a (lit≤ tt) in
      let near-c = stepped q b 11 5 p d 345029060012 2613856517 (suc (suc m)) small (step_small q a 13) (omega arith)
      sq near-q near-b (lit≤ tt) in
      let near-d = stepped q c 9 5 p d 2613856517 29042852 (suc (suc (suc m))) small (step_small q b 11) (omega arith)
      sq near-q near-c (lit≤ tt) in
      let near-e = stepped q e 7 5 p d 29042852 518624 (suc (suc (suc (suc m)))) small (step_small q c 9)
      (omega arith) sq near-q near-d (lit≤ tt) in
      let near-f = stepped q f 5 5 p d 518624 17289 (suc (suc (suc (suc (suc m))))) small (step_small q e 7)
      (omega arith) sq near-q near-e (lit≤ tt) in
      let near-g = stepped q g 3 5 p d 17289 1443 (suc (suc (suc (suc (suc (suc m)))))) small (step_small q f 5)
      (omega arith) sq near-q near-f (lit≤ tt) in
      stepped q i 1 5 p d 1443 725 (suc (suc (suc (suc (suc (suc (suc m))))))) small (step_small q g 3) (omega arith) sq
      near-q near-g (lit≤ tt)

square_near : (angle s t : ℕ) → angle ≤ eighth → IsRadians angle s t → IsNear 5 (square_number angle) (s * s) (t * t)
square_near angle s t l h =
    let near-x = radians_near angle s t l h in
    times_near 2 2 (radians_number angle) (radians_number angle) s t s t (radians_small angle l) h.small near-x near-x

square_small : (angle : ℕ) → angle ≤ eighth → square_number angle ≤ 2 ^ 62
square_small angle l =
    product_small (radians_number angle) (radians_number angle) (radians_small angle l) (radians_small angle l)

sine_steps_small : (q : ℕ) → sine_steps q ≤ 2 ^ 62
unfolding sine_steps
sine_steps_small q = omega arith

pub sine_near : (angle p d : ℕ) → angle ≤ eighth → IsSineSum angle p d
    → (p ≤ d) × IsNear 13000 (sine_number angle) p d
sine_near angle p d l i =
    let s = i.s in
    let t = i.t in
    let n = i.n in
    let h = i.radians in
    let hn = i.long in
    let en : suc (suc (suc (suc (suc (suc (suc (n - 7))))))) ≡ n = omega (arith, hn) in
    let sq = mul-le s s t t h.small h.small in
    let near-y = rw en at (sine_steps_near (square_number angle) (s * s) (t * t) (square_small angle l) sq
    (square_near angle s t l h) (n - 7)) in
    let ou = over-under (s * s) (t * t) 2 n in
    let near-p = times_near 2 12968 (radians_number angle) (sine_steps (square_number angle)) s t
    (over (s * s) (t * t) 2 n) (under (t * t) 2 n) (sine_steps_small (square_number angle)) h.small
    (radians_near angle s t l h) near-y in
    rw (i.over_is, i.under_is) (
      mul-le s (over (s * s) (t * t) 2 n) t (under (t * t) 2 n) h.small ou,
      weaken 12971 13000 _ _ _ (lit≤ tt) near-p,
    )

pub cosine_near : (angle p d : ℕ) → angle ≤ eighth → IsCosineSum angle p d
    → (p ≤ d) × IsNear 13000 (cosine_number angle) p d
cosine_near angle p d l i =
    let s = i.s in
    let t = i.t in
    let n = i.n in
    let h = i.radians in
    let hn = i.long in
    let en : suc (suc (suc (suc (suc (suc (suc (suc (n - 8)))))))) ≡ n = omega (arith, hn) in
    let sq = mul-le s s t t h.small h.small in
    let near-y = rw en at (cosine_steps_near (square_number angle) (s * s) (t * t) (square_small angle l) sq
    (square_near angle s t l h) (n - 8)) in
    rw (i.over_is, i.under_is) (over-under (s * s) (t * t) 1 n, weaken 725 13000 _ _ _ (lit≤ tt) near-y)

-- ---- what the code makes, step by step
pub sine_made : (angle x q a b c d e f g r : ℕ) → x ≡ radians_number angle → q ≡ product_number x x
    → a ≡ step_number q (2 ^ 62) 14 → b ≡ step_number q a 12 → c ≡ step_number q b 10 → d ≡ step_number q c 8
    → e ≡ step_number q d 6 → f ≡ step_number q e 4 → g ≡ step_number q f 2 → r ≡ product_number x g
    → r ≡ sine_number angle
unfolding sine_steps
sine_made angle x q a b c d e f g r ex eq ea eb ec ed ee ef eg er = rw (er, eg, ef, ee, ed, ec, eb, ea, eq, ex) refl

pub cosine_made : (angle x q a b c d e f g h r : ℕ) → x ≡ radians_number angle → q ≡ product_number x x
    → a ≡ step_number q (2 ^ 62) 15 → b ≡ step_number q a 13 → c ≡ step_number q b 11 → d ≡ step_number q c 9
    → e ≡ step_number q d 7 → f ≡ step_number q e 5 → g ≡ step_number q f 3 → h ≡ step_number q g 1 → r ≡ h
    → r ≡ cosine_number angle
unfolding cosine_steps
cosine_made angle x q a b c d e f g h r ex eq ea eb ec ed ee ef eg eh er =
    rw (er, eh, eg, ef, ee, ed, ec, eb, ea, eq, ex) refl

-- The deepest level of a part, and its unit.
use Rattle.std.proofs.Common.{◌≡◌, ℕ, zero, suc, ◌+◌, ◌-◌, ◌*◌, ◌/◌, ◌^◌, ◌<◌, ◌≤◌, refl, ◌∙◌, ap, sym, arith}
use Rattle.std.proofs.lemmas.Nat.{pow-add}
use Rattle.s2draw.specs.Zoom.{depth_from, unit_at}

-- a level less
pub deeper : (d side : ℕ) → 0 < d → 2048 ≤ side → depth_from d side ≡ depth_from (d - 1) (side / 2)
deeper zero side h1 h2 = absurd (omega (arith, h1))
deeper (suc d) side h1 h2 = let e : suc d - 1 ≡ d = omega arith in rw e (search (arith, h2))

-- the level that is found
pub enough : (d side : ℕ) → side < 2048 → depth_from d side ≡ d
enough zero side h = refl
enough (suc d) side h = search (arith, h)

-- its unit has twice as many leaves
pub doubled : (d : ℕ) → 0 < d → d ≤ 30 → unit_at d * 2 ≡ unit_at (d - 1)
doubled d h1 h2 = let e : (30 - d) + 1 ≡ 30 - (d - 1) = omega arith in sym (pow-add 2 (30 - d) 1) ∙ ap (λ z. 2 ^ z) e

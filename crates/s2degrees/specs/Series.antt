-- Sums of the series of sine and cosine, as fractions.
use Rattle.std.specs.Prelude.{ℕ, zero, suc, ◌+◌, ◌-◌, ◌*◌}

-- the denominator of such a sum of `n + 1` terms, where q is the square of the denominator of the angle
unfoldable pub under : ℕ → ℕ → ℕ → ℕ
under q k zero = 1
under q k (suc n) = q * (k * (k + 1)) * under q (k + 2) n

-- its numerator: with r = p / q, the square of the angle, the fraction is
-- 1 - r / (k (k + 1)) + r^2 / (k (k + 1) (k + 2) (k + 3)) - .., written from the outside in:
-- 1 - r / (k (k + 1)) * (1 - r / ((k + 2) (k + 3)) * ..)
unfoldable pub over : ℕ → ℕ → ℕ → ℕ → ℕ
over p q k zero = 1
over p q k (suc n) = under q k (suc n) - p * over p q (k + 2) n

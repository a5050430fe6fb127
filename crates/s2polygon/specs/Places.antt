-- Where the borders and the middles of leaves lie along a side of a face.
use Rattle.std.specs.Prelude.{ℕ, ℤ, pos, ◌-◌, ◌*◌, ◌^◌, ◌-ℤ◌, cond, nat_lt}

-- the scale: what the coordinates of a direction along the rows and the columns of a face are multiplied by
abbrev pub whole : ℤ
whole = pos (3 * 2 ^ 60)

-- the place of a border or a middle: `2 * k` is the border before leaf `k` of the 2 ^ 30, `2 * k + 1` that leaf's
-- middle. It is 3 * 2 ^ 60 times S2's quadratic projection, a whole number
abbrev pub along : ℕ → ℤ
along t = cond (nat_lt t (2 ^ 30))
    (pos (2 ^ 60) -ℤ pos ((2 ^ 31 - t) * (2 ^ 31 - t)))
    (pos (t * t) -ℤ pos (2 ^ 60))

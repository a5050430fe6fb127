-- The numbers of 62 places that the code makes of an angle.
use Rattle.std.specs.Prelude.{ℕ, ◌+◌, ◌-◌, ◌*◌, ◌/◌, ◌^◌}

-- radians of an angle
abbrev pub radians_number : ℕ → ℕ
radians_number angle = angle * 92797620144528363529 / 2 ^ 60

-- a product
abbrev pub product_number : ℕ → ℕ → ℕ
product_number a b = a * b / 2 ^ 62

-- a step of a series
abbrev pub step_number : ℕ → ℕ → ℕ → ℕ
step_number q y k = 2 ^ 62 - product_number q y / (k * (k + 1))

-- the steps of the sine's series, over the square of the angle
unfoldable pub sine_steps : ℕ → ℕ
sine_steps q =
    let a = step_number q (2 ^ 62) 14 in
    let b = step_number q a 12 in
    let c = step_number q b 10 in
    let d = step_number q c 8 in
    let e = step_number q d 6 in
    let f = step_number q e 4 in
    step_number q f 2

-- those of the cosine's
unfoldable pub cosine_steps : ℕ → ℕ
cosine_steps q =
    let a = step_number q (2 ^ 62) 15 in
    let b = step_number q a 13 in
    let c = step_number q b 11 in
    let d = step_number q c 9 in
    let e = step_number q d 7 in
    let f = step_number q e 5 in
    let g = step_number q f 3 in
    step_number q g 1

-- the square of an angle
abbrev pub square_number : ℕ → ℕ
square_number angle = product_number (radians_number angle) (radians_number angle)

-- the sine of an angle of at most 45 degrees
abbrev pub sine_number : ℕ → ℕ
sine_number angle = product_number (radians_number angle) (sine_steps (square_number angle))

-- its cosine
abbrev pub cosine_number : ℕ → ℕ
cosine_number angle = cosine_steps (square_number angle)

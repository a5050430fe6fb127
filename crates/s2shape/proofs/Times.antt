-- A step that is taken some times, as a loop takes it.
use Rattle.std.proofs.Common.{◌≡◌, ℕ, suc, ◌+◌, ◌-◌, ◌<◌, ◌≤◌, Result, Ok, Err, refl, sym, ◌∙◌, arith}
use Rattle.s2shape.specs.Reading.{Fails, times}
use Rattle.s2shape.specs.declared.fault.Fault.{Fault}
use Rattle.s2shape.specs.declared.fault.ShapeError.{ShapeError}
use Rattle.s2shape.specs.declared.fault.ShapeError.TheVariants as errors

-- a step of the loop leaves the result of all of them
pub goes_on : {A : Type 0} (step : A → Result A Fault) (n i : ℕ) (x y : A) (all : Result A Fault) → i < n
    → step x ≡ Ok y → times (n - i) step x ≡ all → times (n - (i + 1)) step y ≡ all
unfolding times
goes_on step n i x y all lt h so_far =
    let k : n - i ≡ suc (n - (i + 1)) = omega arith in
    let one : times (n - i) step x ≡ times (n - (i + 1)) step y = rw (k, h) refl in
    sym one ∙ so_far

-- a step that fails ends all of them
pub ends : {A : Type 0} (step : A → Result A Fault) (e : ShapeError) (n i : ℕ) (x : A) (all : Result A Fault) → i < n
    → Fails e (step x) → times (n - i) step x ≡ all → Fails e all
unfolding times
ends step errors.Memory n i x all lt h so_far = tt
ends step (errors.Fault f) n i x all lt h so_far =
    let k : n - i ≡ suc (n - (i + 1)) = omega arith in
    let one : times (n - i) step x ≡ Err f = rw (k, h) refl in
    sym so_far ∙ one

-- after the last step
pub is_done : {A : Type 0} (step : A → Result A Fault) (n i : ℕ) (x : A) (all : Result A Fault) → n ≤ i
    → times (n - i) step x ≡ all → all ≡ Ok x
unfolding times
is_done step n i x all le so_far =
    let k : n - i ≡ 0 = omega arith in
    let one : times (n - i) step x ≡ Ok x = rw k refl in
    sym so_far ∙ one

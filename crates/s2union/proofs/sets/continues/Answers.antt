use Rattle.std.proofs.Common.{◌≡◌, ◌≢◌, ◌-◌, Bool, true, false, List, ℕ, take, drop, length, arith, refl}
use Rattle.std.specs.Bool.{MatchBool}
use Rattle.std.specs.Cmp.Lexicographic.{told_text}
use Rattle.std.proofs.lemmas.Bool.{false≢true}
use Rattle.std.proofs.lemmas.Bool.Decides.{nat_tests}
use Rattle.s2union.proofs.Following.{continues_from, continues_to, continues_not}
use Rattle.s2union.proofs.sets.continues.Goals as goal

decided : (r : Bool) (us vs : List ℕ) → MatchBool r (us ≡ vs) (us ≢ vs) → (r ≡ true → us ≡ vs) × (us ≡ vs → r ≡ true)
decided true us vs e = (λ _. e, λ _. refl)
decided false us vs n = (λ f. absurd (false≢true f), λ e. absurd (n e))

pub returns-then-n-i : goal.returns-then-n-i
returns-then-n-i c =
    let n = c.min-n.result in
    let us = c.args.list.now in
    let vs = c.args.cells.now in
    let left : List ℕ = take (length us - (length us - n)) (drop (length us - n) us) in
    let right : List ℕ = take (c.args.i - (c.args.i - n)) (drop (c.args.i - n) vs) in
    let told = decided c.eq.result left right (told_text left right c.eq.result c.eq.ensures) in (
      λ h. continues_from us vs c.args.i n (omega arith) (omega arith) c.requires (told.0 h),
      λ h. told.1 (continues_to n (omega arith) (omega arith) c.requires h),
    )

pub returns-else-n-i : goal.returns-else-n-i
returns-else-n-i c = (
  λ h. absurd (grind (arith, nat_tests)),
  λ h. absurd (continues_not c.min-n.result (omega arith) (omega arith) h),
)

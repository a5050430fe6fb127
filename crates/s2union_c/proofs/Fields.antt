-- Fields of 16 bytes that are written one after another.
use Rattle.std.proofs.Common.{◌≡◌, ◌∙◌, ℕ, ◌+◌, ◌-◌, ◌*◌, ◌<◌, ◌≤◌, List, length, drop, ap, sym, subst, arith}
use Rattle.std.proofs.Math.Logic.{⊎_elim}
use Rattle.std.proofs.Math.Nat.{eq-or-lt_of_le}
use Rattle.std.specs.List.{between}
use Rattle.std.proofs.lemmas.Slice.{between-put_mid, between_is, take-put_mid_below}
use borrow.Rule.Slice.PartMut.{put_mid}

-- a field before the one that is written stays as it is
field_before : (text field : List ℕ) (k i w : ℕ) → i < k → 16 * k ≤ length text
    → between (16 * i) (16 * i + 16) (put_mid (16 * k) w text field) ≡ between (16 * i) (16 * i + 16) text
field_before text field k i w before room =
    between_is (put_mid (16 * k) w text field) (16 * i) (16 * i + 16)
    ∙ ap (drop (16 * i)) (take-put_mid_below (16 * k) w text field (16 * i + 16) (omega arith) room)
    ∙ sym (between_is text (16 * i) (16 * i + 16))

-- what holds of each of `k` fields holds of the one that is written after them too
pub fields_more : (P : ℕ → List ℕ → Type 0) (text : List ℕ) (k : ℕ) (field : List ℕ)
    → 16 * k + 16 ≤ length text
    → length field ≡ 16
    → ((i : ℕ) → i < k → P i (between (16 * i) (16 * i + 16) text))
    → P k field
    → (i : ℕ) → i < k + 1
    → P i (between (16 * i) (16 * i + 16) (put_mid (16 * k) (16 * k + 16 - 16 * k) text field))
fields_more P text k field room width so_far last i within =
    let w = 16 * k + 16 - 16 * k in
    let up_to : i ≤ k = omega arith in
    let here : between (16 * k) (16 * k + 16) (put_mid (16 * k) w text field) ≡ field =
    between-put_mid (16 * k) w text field (16 * k + 16) (omega arith) (omega arith) in
    ⊎_elim
    (λ e. subst (λ n. P n (between (16 * n) (16 * n + 16) (put_mid (16 * k) w text field))) (sym e)
    (subst (λ f. P k f) (sym here) last))
    (λ before. subst (λ f. P i f) (sym (field_before text field k i w before (omega arith))) (so_far i before))
    (eq-or-lt_of_le up_to)

-- Two lists, merged from both ends.
use Rattle.std.proofs.Common.{◌≡◌, ℕ, ◌+◌, ◌<◌, ◌≤◌, sym, ◌∙◌, ap, subst, arith}
use Rattle.std.proofs.Common.{List, [], ◌∷◌, ◌++◌, length, get_or, take, drop}
use Rattle.std.proofs.Math.ListN.{set}
use Rattle.std.proofs.Math.Numerals.{add-one}
use Rattle.std.proofs.Math.Seq.{drop-cons, take-add}
use Rattle.std.proofs.lemmas.List.{append_assoc, drop-set, drop-set-lt, take-append-drop, take-set-le}
use Rattle.std.proofs.lemmas.List.{take_more_set}
use Rattle.std.proofs.lemmas.List.Sorted.{IsPermutation-append_comm, IsPermutation-append_left}
use Rattle.std.proofs.lemmas.List.Sorted.{IsPermutation-append_right, IsPermutation-sym, IsPermutation-trans}
use Rattle.std.proofs.lemmas.Slice.{drop-put_mid, take-put_mid}
use Rattle.std.specs.List.Sorted.{IsPermutation}
use borrow.Rule.Slice.PartMut.{put_mid}
use Rattle.s2room.specs.Working.Merging.{IsMerging, around}
use Rattle.s2room.specs.declared.merge.Left.{Left}

-- numbers that stand in between can as well stand before
moved : (run us vs : List ℕ) → IsPermutation (us ++ (run ++ vs)) (run ++ (us ++ vs))
moved run us vs =
    rw (← append_assoc us run vs, ← append_assoc run us vs)
    (IsPermutation-append_left vs (us ++ run) (run ++ us) (IsPermutation-append_comm us run))

-- the same numbers are put into two lists of the same numbers
put_in_both : (run us vs ws zs : List ℕ) → IsPermutation (us ++ vs) (ws ++ zs) →
    IsPermutation (us ++ (run ++ vs)) (ws ++ (run ++ zs))
put_in_both run us vs ws zs same = IsPermutation-trans _ _ _ (moved run us vs)
    (IsPermutation-trans _ _ _ (IsPermutation-append_right run _ _ same) (IsPermutation-sym _ _ (moved run ws zs)))

put_in_x : (run xs ys front back : List ℕ) (from to : ℕ) → IsPermutation (around from to xs ++ ys) (front ++ back)
    → IsPermutation ((take from xs ++ (run ++ drop to xs)) ++ ys) (front ++ (run ++ back))
put_in_x run xs ys front back from to same =
    subst (λ l. IsPermutation l (front ++ (run ++ back)))
    (sym (append_assoc (take from xs) (run ++ drop to xs) ys
    ∙ ap (λ l. take from xs ++ l) (append_assoc run (drop to xs) ys)))
    (put_in_both run (take from xs) (drop to xs ++ ys) front back
    (subst (λ l. IsPermutation l (front ++ back)) (append_assoc (take from xs) (drop to xs) ys) same))

put_in_y : (run xs ys front back : List ℕ) (from to : ℕ) → IsPermutation (xs ++ around from to ys) (front ++ back) →
    IsPermutation (xs ++ (take from ys ++ (run ++ drop to ys))) (front ++ (run ++ back))
put_in_y run xs ys front back from to same =
    subst (λ l. IsPermutation l (front ++ (run ++ back))) (append_assoc xs (take from ys) (run ++ drop to ys))
    (put_in_both run (xs ++ take from ys) (drop to ys) front back
    (subst (λ l. IsPermutation l (front ++ back)) (sym (append_assoc xs (take from ys) (drop to ys))) same))

-- what isn't left of a list once its next `n` numbers are put
pub around_next : (u : List ℕ) (from to n : ℕ) →
    around (from + n) to u ≡ take from u ++ (take n (drop from u) ++ drop to u)
around_next u from to n = ap (λ l. l ++ drop to u) (take-add from n u)
    ∙ append_assoc (take from u) (take n (drop from u)) (drop to u)

-- once its next number is
pub around_first : (u : List ℕ) (from to : ℕ) → from < length u →
    around (from + 1) to u ≡ take from u ++ ((get_or u from 0 ∷ []) ++ drop to u)
around_first u from to within = around_next u from to 1
    ∙ ap (λ l. take from u ++ (take 1 l ++ drop to u)) (drop-cons u from 0 within)

-- once its last number is
pub around_last : (u : List ℕ) (from to : ℕ) → to < length u →
    around from to u ≡ take from u ++ ((get_or u to 0 ∷ []) ++ drop (to + 1) u)
around_last u from to within = rw (add-one to) (ap (λ l. take from u ++ l) (drop-cons u to 0 within))

-- a room in which a run was put at the front of what is free
pub around_run : (out run : List ℕ) (from to n k : ℕ) → k ≡ n → length run ≡ n → from + n ≤ to → to ≤ length out →
    around (from + n) to (put_mid from k out run) ≡ take from out ++ (run ++ drop to out)
around_run out run from to n k same len order within =
    ap (λ l. l ++ drop to (put_mid from k out run)) (take-put_mid from k out run (from + n) (omega arith) (omega arith))
    ∙ ap (λ l. (take from out ++ run) ++ l) (drop-put_mid from k out run to (omega arith) (omega arith) (omega arith))
    ∙ append_assoc (take from out) run (drop to out)

-- a number at the front of what is free
pub around_set : (out : List ℕ) (from to c : ℕ) → from < to → from < length out →
    around (from + 1) to (set out from c) ≡ take from out ++ ((c ∷ []) ++ drop to out)
around_set out from to c order within = ap (λ l. l ++ drop to (set out from c)) (take_more_set out from c within)
    ∙ ap (λ l. (take from out ++ c ∷ []) ++ l) (drop-set-lt to out from c order)
    ∙ append_assoc (take from out) (c ∷ []) (drop to out)

-- a number at its back
pub around_set_last : (out : List ℕ) (from to c : ℕ) → from ≤ to → to < length out →
    around from to (set out to c) ≡ take from out ++ ((c ∷ []) ++ drop (to + 1) out)
around_set_last out from to c order within = ap (λ l. l ++ drop to (set out to c)) (take-set-le from out to c order)
    ∙ ap (λ l. take from out ++ l) (drop-set out to c within)

-- a run of `xs` is put into the room
pub merging_x : {xs ys out room : List ℕ} {left : Left} (run : List ℕ) (x x_end at at_end : ℕ) →
    IsMerging xs ys out left → x ≤ x_end → x_end ≤ length xs → length room ≡ length out →
    around x x_end xs ≡ take left.x xs ++ (run ++ drop left.x_end xs) → at ≡ x + left.y → at_end ≡ x_end + left.y_end →
    around at at_end room ≡ take (left.x + left.y) out ++ (run ++ drop (left.x_end + left.y_end) out) →
    IsMerging xs ys room (record { x = x; x_end = x_end; y = left.y; y_end = left.y_end })
merging_x {xs} {ys} {out} {room} {left} run x x_end at at_end merging order within len taken is end_is put = record {
  x_order = order;
  x_within = within;
  y_order = merging.y_order;
  y_within = merging.y_within;
  room = len ∙ merging.room;
  all = rw (← is, ← end_is, put, taken) (put_in_x run xs (around left.y left.y_end ys) (take (left.x + left.y) out)
      (drop (left.x_end + left.y_end) out) left.x left.x_end merging.all);
}

-- a run of `ys`
pub merging_y : {xs ys out room : List ℕ} {left : Left} (run : List ℕ) (y y_end at at_end : ℕ) →
    IsMerging xs ys out left → y ≤ y_end → y_end ≤ length ys → length room ≡ length out →
    around y y_end ys ≡ take left.y ys ++ (run ++ drop left.y_end ys) → at ≡ left.x + y → at_end ≡ left.x_end + y_end →
    around at at_end room ≡ take (left.x + left.y) out ++ (run ++ drop (left.x_end + left.y_end) out) →
    IsMerging xs ys room (record { x = left.x; x_end = left.x_end; y = y; y_end = y_end })
merging_y {xs} {ys} {out} {room} {left} run y y_end at at_end merging order within len taken is end_is put = record {
  x_order = merging.x_order;
  x_within = merging.x_within;
  y_order = order;
  y_within = within;
  room = len ∙ merging.room;
  all = rw (← is, ← end_is, put, taken) (put_in_y run (around left.x left.x_end xs) ys (take (left.x + left.y) out)
      (drop (left.x_end + left.y_end) out) left.y left.y_end merging.all);
}

-- nothing is left
pub merged : {xs ys out : List ℕ} {left : Left} → IsMerging xs ys out left → left.x ≡ left.x_end →
    left.y ≡ left.y_end → IsPermutation (xs ++ ys) out
merged {xs} {ys} {out} {left} merging no_x no_y =
    let all = merging.all in
    rw (
      no_x,
      no_y,
      take-append-drop left.x_end xs,
      take-append-drop left.y_end ys,
      take-append-drop (left.x_end + left.y_end) out,
    ) at all

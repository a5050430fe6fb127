-- A list that is put into a room, one number after another or a run at a time.
use Rattle.std.proofs.Common.{◌≡◌, ℕ, ◌+◌, ◌-◌, ◌^◌, ◌<◌, ◌≤◌}
use Rattle.std.proofs.Common.{refl, sym, ap, ◌∙◌, arith, List, [], ◌∷◌, ◌++◌}
use Rattle.std.proofs.Common.{length, get_or, take, drop, add-one, append_assoc, drop-cons, drop-drop}
use Rattle.std.proofs.Math.ListN.{set}
use Rattle.std.proofs.Math.Seq.{set-append_seam, take-append_seam, drop-append-add}
use Rattle.std.proofs.lemmas.List.{take_more, drop-set-lt, get_or-drop, length-take-le, length-drop, length-append}
use Rattle.std.proofs.lemmas.Slice.{drop-append-drop}
use Rattle.s2list.specs.Room.{IsPut}

pub put_none : (room : List ℕ) → IsPut [] room room 0
put_none room = record { same_length = refl; len_is = λ h. refl; front = λ h. refl }

-- the next number of those that are put is written
pub item_put : (items more room out : List ℕ) (n k x : ℕ) → n + k < length room → length items ≡ k →
    more ≡ items ++ x ∷ [] → out ≡ (take n room ++ items) ++ drop (n + k) room →
    set out (n + k) x ≡ (take n room ++ more) ++ drop (n + (k + 1)) room
item_put items more room out n k x h len_k em e =
    let front = take n room ++ items in
    let len_n : length (take n room) ≡ n = length-take-le n room (omega arith) in
    let len_a : length front ≡ length (take n room) + length items = length-append (take n room) items in
    let len : length front ≡ n + k = omega arith in
    let d : drop (n + k) room ≡ get_or room (n + k) 0 ∷ drop (n + k + 1) room =
    rw (add-one, drop-cons room (n + k) 0) in
    let seam : set (front ++ get_or room (n + k) 0 ∷ drop (n + k + 1) room) (length front) x
    ≡ front ++ x ∷ drop (n + k + 1) room = set-append_seam front (get_or room (n + k) 0) (drop (n + k + 1) room) x in
    let outer : (front ++ x ∷ []) ++ drop (n + k + 1) room ≡ front ++ (x ∷ [] ++ drop (n + k + 1) room) =
    append_assoc front (x ∷ []) (drop (n + k + 1) room) in
    let inner : front ++ x ∷ [] ≡ take n room ++ (items ++ x ∷ []) = append_assoc (take n room) items (x ∷ []) in
    let at : n + (k + 1) ≡ n + k + 1 = omega arith in
    cc

-- all are written
pub items_put : (list items room before out : List ℕ) (n count : ℕ) → IsPut list room before n →
    n + count ≤ length before → length before < 2 ^ 64 → length out ≡ length before → length items ≡ count
    → out ≡ (take n before ++ items) ++ drop (n + count) before → IsPut (list ++ items) room out (n + count)
items_put list items room before out n count p h fits same len_i e =
    let len : length (list ++ items) ≡ length list + length items = length-append list items in
    let s = p.same_length in
    record {
      same_length = same ∙ p.same_length;
      len_is = λ l. let a : n ≡ length list = p.len_is (omega arith) in omega arith;
      front = λ l.
          let k = length list in
          let a : n ≡ k = p.len_is (omega arith) in
          let f : before ≡ list ++ drop k room = p.front (omega arith) in
          let t : take k (list ++ drop k room) ≡ list = take-append_seam list (drop k room) in
          let d : drop (k + count) (list ++ drop k room) ≡ drop count (drop k room) =
          drop-append-add list (drop k room) count in
          let b : drop count (drop k room) ≡ drop (k + count) room = drop-drop count k room in
          let at : length (list ++ items) ≡ k + count = omega arith in
          let rest : drop (length (list ++ items)) room ≡ drop (k + count) room = ap (λ m. drop m room) at in
          cc;
    }

-- the numbers of a run, from a place of a list on
pub run_more : (ids room out : List ℕ) (n k from x : ℕ) → n + k < length room → from + k < length ids →
    out ≡ (take n room ++ take k (drop from ids)) ++ drop (n + k) room → x ≡ get_or ids (from + k) 0
    → set out (n + k) x ≡ (take n room ++ take (k + 1) (drop from ids)) ++ drop (n + (k + 1)) room
run_more ids room out n k from x h g e r =
    let left = length-drop from ids in
    item_put (take k (drop from ids)) (take (k + 1) (drop from ids)) room out n k x h
    (length-take-le k (drop from ids) (omega arith))
    (take_more (drop from ids) k 0 (omega arith)
    ∙ ap (λ v. take k (drop from ids) ++ v ∷ []) (get_or-drop from ids k 0 ∙ sym r)) e

pub run_put : (list ids room before out : List ℕ) (n count from : ℕ) → IsPut list room before n →
    n + count ≤ length before → length before < 2 ^ 64 → length out ≡ length before → from + count ≤ length ids
    → out ≡ (take n before ++ take count (drop from ids)) ++ drop (n + count) before
    → IsPut (list ++ take count (drop from ids)) room out (n + count)
run_put list ids room before out n count from p h fits same g e =
    let left = length-drop from ids in
    items_put list (take count (drop from ids)) room before out n count p h fits same
    (length-take-le count (drop from ids) (omega arith)) e

-- what is as it was from a place on is so from a later one
pub rest_later : (out room : List ℕ) (n m : ℕ) → n ≤ m → drop n out ≡ drop n room → drop m out ≡ drop m room
rest_later out room n m more e =
    let at : n + (m - n) ≡ m = omega arith in
    rw (sym at) (sym (drop-drop (m - n) n out) ∙ ap (drop (m - n)) e ∙ drop-drop (m - n) n room)

pub rest_put : (out room : List ℕ) (n x : ℕ) → n < length out → drop n out ≡ drop n room
    → drop (n + 1) (set out n x) ≡ drop (n + 1) room
rest_put out room n x h e = drop-set-lt (n + 1) out n x (omega arith) ∙ rest_later out room n (n + 1) (omega arith) e

pub rest_run : (before room out run : List ℕ) (n count : ℕ) → n + count ≤ length before
    → length run ≡ count → out ≡ (take n before ++ run) ++ drop (n + count) before → drop n before ≡ drop n room
    → drop (n + count) out ≡ drop (n + count) room
rest_run before room out run n count fits len is e =
    let front = length-take-le n before (omega arith) in
    let both = length-append (take n before) run in
    ap (drop (n + count)) is
    ∙ drop-append-drop (n + count) before (take n before ++ run) (n + count) (omega arith) (omega arith)
    ∙ rest_later before room n (n + count) (omega arith) e

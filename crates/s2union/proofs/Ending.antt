-- What the last three cells tell of a list whose cells go by one after another.
use Rattle.std.proofs.Common.{◌≡◌, ℕ, suc, ◌+◌, ◌-◌, ◌<◌, ◌↔◌, refl, sym, ap, ◌∙◌, subst, arith, List, [], ◌∷◌, ◌++◌}
use Rattle.std.proofs.Common.{length, take, reverse, get_or, slice_get, Some, None, append_assoc, length-append}
use Rattle.std.proofs.lemmas.List.{get_or-reverse, length-reverse, reverse-append, append-nil}
use Rattle.std.proofs.lemmas.Option.{slice_get-get_or, get_or_from_slice_get, slice_get_within}
use Rattle.std.specs.List.Sorted.{IsStrictlyIncreasing}
use Rattle.s2cell.specs.Cell.{IsCell}
use Rattle.s2list.specs.Packed.{IsPacked}
use Rattle.s2union.specs.Working.Tail.{Follows, IsTail}
use Rattle.s2union.specs.declared.apply.Tail.{Tail}
use Rattle.s2union.specs.Apply.{applied, Fits}
use Rattle.s2union.specs.Working.Merge.{Left, CanApply, Goes, made_list}
use Rattle.s2list.proofs.Packing.{packed_take}
use Rattle.s2list.proofs.PackedLocal.{local_from_packed}
use Rattle.s2list.proofs.Checking.{fits, pushed_after, pushed_unmerged, packed_from_local}

-- a cell of the list by its place from the end
pub from_end : (back : List ℕ) (k j : ℕ) → j + k + 1 ≡ length back → slice_get back k ≡ Some (get_or (reverse back) j 0)
from_end back k j e =
    let at : length back - 1 - j ≡ k = omega arith in
    slice_get-get_or back k 0 (omega arith) ∙ ap (λ (x : ℕ). Some x)
    (sym (get_or-reverse back j 0 (omega arith) ∙ ap (λ (i : ℕ). get_or back i 0) at))

read_end : (back : List ℕ) (k j x : ℕ) → j + k + 1 ≡ length back → slice_get back k ≡ Some x →
    x ≡ get_or (reverse back) j x
read_end back k j x e h =
    let at : length back - 1 - j ≡ k = omega arith in
    sym (get_or-reverse back j x (omega arith) ∙ ap (λ (i : ℕ). get_or back i x) at
    ∙ get_or_from_slice_get back k x x h)

pub packed_with : {t : Tail} {back : List ℕ} {cell : ℕ} →
    IsTail t back → IsPacked (reverse back) → IsCell cell → Follows t cell → IsPacked (reverse back ++ cell ∷ [])
packed_with {back} {cell} i p c f =
    let n : length (reverse back) ≡ length back = length-reverse back in
    fits (reverse back) cell p c
    (λ h. f.after (get_or (reverse back) (length (reverse back) - 1) 0)
    (i.last ∙ from_end back 0 (length (reverse back) - 1) (omega arith)))
    (λ less q e. f.unmerged (get_or (reverse back) less 0) (get_or (reverse back) (less + 1) 0)
    (get_or (reverse back) (less + 2) 0) q (i.third ∙ from_end back 2 less (omega arith))
    (i.second ∙ from_end back 1 (less + 1) (omega arith)) (i.last ∙ from_end back 0 (less + 2) (omega arith)))

pub follows_packed : {t : Tail} {back : List ℕ} (cell : ℕ) →
    IsTail t back → IsPacked (reverse back ++ cell ∷ []) → Follows t cell
follows_packed {back} cell i p =
    let n : length (reverse back) ≡ length back = length-reverse back in
    record {
      after = λ c e.
          let g : slice_get back 0 ≡ Some c = sym i.last ∙ e in
          let l : 0 < length back = slice_get_within back 0 c g in
          pushed_after (reverse back) cell c p (omega arith)
          (read_end back 0 (length (reverse back) - 1) c (omega arith) g);
      unmerged = λ a b c q ea eb ec.
          let ga : slice_get back 2 ≡ Some a = sym i.third ∙ ea in
          let gb : slice_get back 1 ≡ Some b = sym i.second ∙ eb in
          let gc : slice_get back 0 ≡ Some c = sym i.last ∙ ec in
          let l : 2 < length back = slice_get_within back 2 a ga in
          pushed_unmerged (reverse back) cell a b c q p (omega arith)
          (read_end back 2 (length (reverse back) - 3) a (omega arith) ga)
          (read_end back 1 (length (reverse back) - 2) b (omega arith) gb)
          (read_end back 0 (length (reverse back) - 1) c (omega arith) gc);
    }

-- a list goes on by one cell
reverse_first : (x : ℕ) (xs ys : List ℕ) → reverse (x ∷ xs) ++ ys ≡ reverse xs ++ x ∷ ys
reverse_first x xs ys = ap (λ zs. zs ++ ys) (reverse-append (x ∷ []) xs) ∙ append_assoc (reverse xs) (x ∷ []) ys

pub tail_with : {t : Tail} {back : List ℕ} (cell : ℕ) →
    IsTail t back → IsTail (record { last = Some cell; second = t.last; third = t.second }) (cell ∷ back)
tail_with cell i = record { last = refl; second = i.last; third = i.second }

pub packed_front : (xs ys : List ℕ) (y : ℕ) → IsPacked (xs ++ y ∷ ys) → IsPacked (xs ++ y ∷ [])
packed_front xs ys y p =
    let n : length (xs ++ y ∷ ys) ≡ length xs + (length ys + 1) = length-append xs (y ∷ ys) ∙ omega arith in
    subst IsPacked (front xs) (packed_take (length xs + 1) (xs ++ y ∷ ys) (omega arith) p)
  where
    front : (xs : List ℕ) → take (length xs + 1) (xs ++ y ∷ ys) ≡ xs ++ y ∷ []
    front [] = refl
    front (x ∷ xs) = let e : length (x ∷ xs) + 1 ≡ suc (length xs + 1) = omega arith in
        ap (λ n. take n (x ∷ xs ++ y ∷ ys)) e ∙ ap (λ zs. x ∷ zs) (front xs)

-- the cells that the walk gave so far, from the last to the first
pub record Seen (start now : Left) (tail : Tail) : Type 0 where
  pub back : List ℕ
  pub ends : IsTail tail back
  pub packed : IsPacked (reverse back)
  pub same : CanApply start ↔ CanApply now
  pub gives : CanApply start → reverse back ++ made_list now ≡ made_list start

pub seen_none : (start : Left) → Seen start start (record { last = None; second = None; third = None })
seen_none start = record {
  back = [];
  ends = record { last = refl; second = refl; third = refl };
  packed = record {
    cells = λ k d h. absurd (omega arith);
    chain = λ i j d h l. absurd (omega arith);
    unmerged = λ k p h. absurd (omega arith);
  };
  same = (λ h. h, λ h. h);
  gives = λ h. refl;
}

pub seen_write : {start now next : Left} {tail : Tail} {cell : ℕ} →
    Seen start now tail → Goes (cell ∷ []) now next → IsCell cell →
    Follows tail cell → Seen start next (record { last = Some cell; second = tail.last; third = tail.second })
seen_write {next} {tail} {cell} s g c f = record {
  back = cell ∷ s.back;
  ends = tail_with cell s.ends;
  packed = subst IsPacked (sym (reverse-append (cell ∷ []) s.back)) (packed_with s.ends s.packed c f);
  same = (λ h. g.same.0 (s.same.0 h), λ h. s.same.1 (g.same.1 h));
  gives = λ h. reverse_first cell s.back (made_list next) ∙ ap (λ zs. reverse s.back ++ zs) (sym (g.gives (s.same.0 h)))
      ∙ s.gives h;
}

-- what the walk's answers say of the whole
pub can_from : {out put u : List ℕ} → Fits out put u → CanApply (record { out = out; put = put; cells = u })
can_from f = record { out_is_there = f.out_is_there; put_is_new = f.put_is_new }

pub unfit_cell : {out put u : List ℕ} {now next : Left} {tail : Tail} (cell : ℕ) → Seen (record {
  out = out;
  put = put;
  cells = u;
}) now tail → Goes (cell ∷ []) now next → (Follows tail cell → ⊥) → Fits out put u → ⊥
unfit_cell {out} {put} {u} {next} {tail} cell s g n f =
    let can : CanApply (record { out = out; put = put; cells = u }) = can_from f in
    let whole : reverse s.back ++ cell ∷ made_list next ≡ applied out put u =
    ap (λ zs. reverse s.back ++ zs) (sym (g.gives (s.same.0 can))) ∙ s.gives can in
    n (follows_packed cell s.ends (packed_front (reverse s.back)
    (made_list next) cell (subst IsPacked (sym whole) (packed_from_local (applied out put u) f.local))))

pub fits_all : (out put u : List ℕ) {now : Left} {tail : Tail} → IsStrictlyIncreasing out → IsStrictlyIncreasing put →
    Seen (record { out = out; put = put; cells = u }) now tail → CanApply now → made_list now ≡ [] → Fits out put u
fits_all out put u a b s c e =
    let can : CanApply (record { out = out; put = put; cells = u }) = s.same.1 c in
    let whole : reverse s.back ≡ applied out put u = sym (append-nil (reverse s.back))
    ∙ ap (λ zs. reverse s.back ++ zs) (sym e) ∙ s.gives can in
    record {
      out_ascends = a;
      put_ascends = b;
      out_is_there = can.out_is_there;
      put_is_new = can.put_is_new;
      local = local_from_packed (applied out put u) (subst IsPacked whole s.packed);
    }

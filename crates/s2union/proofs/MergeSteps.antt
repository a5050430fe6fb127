-- One step of the walk along a list and the two lists of a change.
use Rattle.std.proofs.Common.{◌≡◌, ℕ, ◌<◌, ◌≢◌, true, false, ◌||◌, eqb, ltb, List, [], ◌∷◌, ◌++◌, length, refl}
use Rattle.std.proofs.Common.{sym, ap, ◌∙◌, subst, ⊎_elim, arith, eqb-true, eq-eqb, ne_eqb, lt-ltb, le-ltb, drop, take}
use Rattle.std.proofs.Common.{get_or, ◌-◌, ◌+◌, ◌≤◌, min, zero, suc}
use Rattle.std.proofs.lemmas.Grind.{common_steps}
use Rattle.std.proofs.lemmas.List.{append_assoc, take_all, length-drop}
use Rattle.std.proofs.lemmas.Bool.{cond-true, cond-false, false≢true, true≢false, or_cases, or_left, or_right, or_parts}
use Rattle.std.specs.List.Sorted.{IsStrictlyIncreasing}
use Rattle.s2union.specs.Apply.{has, cells_without, insert_cell, insert_cells, applied}
use Rattle.std.specs.declared.cmp.Ordering.TheVariants.{Less, Equal, Greater}
use Rattle.s2union.specs.Working.Merge.{Left, CanApply, Goes, Keeps, made_list, Ascend}
use Rattle.s2union.specs.Working.Merge.{IsHead, IsFrontOf}
use Rattle.s2list.specs.Search.{Brackets}
use Rattle.s2list.specs.Packed.{IsPacked}
use Rattle.s2list.proofs.Finding.{ascends}
use Rattle.s2union.proofs.Following.{part_packed}
use Rattle.s2union.proofs.CellLists.{AllAbove, IsAscending, ascends_from, increasing_from, has-below, AllAbove-trans}
use Rattle.s2union.proofs.CellLists.{AllAbove-cells_without}

insert_cell-below : (p : ℕ) (us : List ℕ) → AllAbove p us → insert_cell p us ≡ p ∷ us
insert_cell-below p [] a = refl
insert_cell-below p (u ∷ us) a = cond-true (ltb p u) (p ∷ u ∷ us) (u ∷ insert_cell p us) (lt-ltb p u a.0)

insert_cells-above : (p : ℕ) (ps us : List ℕ) → AllAbove p ps → insert_cells ps (p ∷ us) ≡ p ∷ insert_cells ps us
insert_cells-above p [] us a = refl
insert_cells-above p (q ∷ ps) us a =
    ap (insert_cells ps) (cond-false (ltb q p) (q ∷ p ∷ us) (p ∷ insert_cell q us) (le-ltb q p (omega arith)))
    ∙ insert_cells-above p ps (insert_cell q us) a.1

applied-put : (out ps us : List ℕ) (p : ℕ) → AllAbove p ps → AllAbove p us →
    applied out (p ∷ ps) us ≡ p ∷ applied out ps us
applied-put out ps us p a b =
    ap (insert_cells ps) (insert_cell-below p (cells_without us out) (AllAbove-cells_without p us out b))
    ∙ insert_cells-above p ps (cells_without us out) a

applied-keep : (out ps us : List ℕ) (u : ℕ) → AllAbove u ps → has out u ≡ false →
    applied out ps (u ∷ us) ≡ u ∷ applied out ps us
applied-keep out ps us u a n =
    ap (insert_cells ps) (cond-false (has out u) (cells_without us out) (u ∷ cells_without us out) n)
    ∙ insert_cells-above u ps (cells_without us out) a

pub cells_without-above : (o : ℕ) (us out : List ℕ) → AllAbove o us → cells_without us (o ∷ out) ≡ cells_without us out
cells_without-above o [] out a = refl
cells_without-above o (u ∷ us) out a = grind (arith, common_steps, cells_without-above o us out a.1)

applied-take : (out ps us : List ℕ) (u : ℕ) → AllAbove u us → applied (u ∷ out) ps (u ∷ us) ≡ applied out ps us
applied-take out ps us u a =
    ap (insert_cells ps) (cond-true (eqb u u || has out u) (cells_without us (u ∷ out))
    (u ∷ cells_without us (u ∷ out)) (grind (arith, common_steps)) ∙ cells_without-above u us out a)

-- the first cell, if there is one
abbrev pub IfHead : (ℕ → Type 0) → List ℕ → Type 0
IfHead P [] = Unit {0}
IfHead P (x ∷ xs) = P x

pub all_above : (x : ℕ) (ys : List ℕ) → IsAscending ys → IfHead (λ y. x < y) ys → AllAbove x ys
all_above x [] a h = tt
all_above x (y ∷ ys) a h = (h, AllAbove-trans x y ys h a.0)

not_below : (x : ℕ) (ys : List ℕ) → AllAbove x ys → has ys x ≡ true → ⊥
not_below x ys a h = false≢true (sym (has-below x ys a) ∙ h)

-- a cell to be put in that is below all that are left
pub put_step : (out ps us : List ℕ) (p : ℕ) → Ascend (record { out = out; put = p ∷ ps; cells = us }) → IfHead (λ u. p <
    u) us → Goes (p ∷ []) (record { out = out; put = p ∷ ps; cells = us }) (record { out = out; put = ps; cells = us })
put_step out ps us p a h =
    let above : AllAbove p us = all_above p us (ascends_from us (ascends us a.cells)) h in
    record {
      same = (
        λ f. record {
          out_is_there = f.out_is_there;
          put_is_new = λ x e. f.put_is_new x (or_right (eqb p x) (has ps x) e);
        },
        λ f. record {
          out_is_there = f.out_is_there;
          put_is_new = λ x e. ⊎_elim (λ q. subst (λ (n : ℕ). has us n ≡ false) (eqb-true p x q)
              (has-below p us above)) (λ q. f.put_is_new x q) (or_cases (eqb p x) (has ps x) e);
        },
      );
      gives = λ _. applied-put out ps us p (ascends_from (p ∷ ps) a.put).0 above;
      less = omega arith;
    }

-- a cell that stays
pub keep_step : (out ps us : List ℕ) (u : ℕ) → Ascend (record { out = out; put = ps; cells = u ∷ us }) →
    IfHead (λ p. u < p) ps → IfHead (λ o. u < o) out →
    Goes (u ∷ []) (record { out = out; put = ps; cells = u ∷ us }) (record { out = out; put = ps; cells = us })
keep_step out ps us u a hp ho =
    let not_out : has out u ≡ false = has-below u out (all_above u out (ascends_from out a.out) ho) in
    let put_above : AllAbove u ps = all_above u ps (ascends_from ps a.put) hp in
    record {
      same = (
        λ f. record {
          out_is_there = λ x e. ⊎_elim (λ q. absurd (false≢true (sym not_out ∙ ap (has out) (eqb-true u x q) ∙ e)))
              (λ q. q) (or_cases (eqb u x) (has us x) (f.out_is_there x e));
          put_is_new = λ x e. (or_parts (eqb u x) (has us x) (f.put_is_new x e)).1;
        },
        λ f. record {
          out_is_there = λ x e. or_right (eqb u x) (has us x) (f.out_is_there x e);
          put_is_new = λ x e. new_one u x us (λ q. not_below u ps put_above
              (subst (λ (n : ℕ). has ps n ≡ true) (sym q) e)) (f.put_is_new x e);
        },
      );
      gives = λ _. applied-keep out ps us u put_above not_out;
      less = omega arith;
    }
  where
    new_one : (u x : ℕ) (us : List ℕ) → (u ≡ x → ⊥) → has us x ≡ false → (eqb u x || has us x) ≡ false
    new_one u x us n h = ap (λ b. b || has us x) (ne_eqb u x n) ∙ h

-- a cell that is taken out
pub take_step : (out ps us : List ℕ) (u : ℕ) → Ascend (record { out = u ∷ out; put = ps; cells = u ∷ us }) →
    IfHead (λ p. u < p) ps →
    Goes [] (record { out = u ∷ out; put = ps; cells = u ∷ us }) (record { out = out; put = ps; cells = us })
take_step out ps us u a hp =
    let put_above : AllAbove u ps = all_above u ps (ascends_from ps a.put) hp in
    record {
      same = (
        λ f. record {
          out_is_there = λ x e. ⊎_elim (λ q. absurd (not_below u out
              (ascends_from (u ∷ out) a.out).0 (subst (λ (n : ℕ). has out n ≡ true) (sym (eqb-true u x q)) e))) (λ q. q)
              (or_cases (eqb u x) (has us x) (f.out_is_there x (or_right (eqb u x) (has out x) e)));
          put_is_new = λ x e. (or_parts (eqb u x) (has us x) (f.put_is_new x e)).1;
        },
        λ f. record {
          out_is_there = λ x e. ⊎_elim (λ q. or_left (eqb u x) (has us x) q)
              (λ q. or_right (eqb u x) (has us x) (f.out_is_there x q)) (or_cases (eqb u x) (has out x) e);
          put_is_new = λ x e. new_one u x us (λ q. not_below u ps put_above
              (subst (λ (n : ℕ). has ps n ≡ true) (sym q) e)) (f.put_is_new x e);
        },
      );
      gives = λ _. applied-take out ps us u (ascends_from (u ∷ us) (ascends (u ∷ us) a.cells)).0;
      less = omega arith;
    }
  where
    new_one : (u x : ℕ) (us : List ℕ) → (u ≡ x → ⊥) → has us x ≡ false → (eqb u x || has us x) ≡ false
    new_one u x us n h = ap (λ b. b || has us x) (ne_eqb u x n) ∙ h

-- a cell to be put in that is there
pub put_is_there : (out ps us : List ℕ) (u : ℕ) → CanApply (record { out = out; put = u ∷ ps; cells = u ∷ us }) → ⊥
put_is_there out ps us u f = true≢false (sym (or_left (eqb u u) (has us u) (eq-eqb u u refl))
    ∙ f.put_is_new u (or_left (eqb u u) (has ps u) (eq-eqb u u refl)))

-- a cell to be taken out that is below all that are left
pub out_is_missing : (out ps us : List ℕ) (o : ℕ) → AllAbove o us →
    CanApply (record { out = o ∷ out; put = ps; cells = us }) → ⊥
out_is_missing out ps us o a f = not_below o us a (f.out_is_there o (or_left (eqb o o) (has out o) (eq-eqb o o refl)))

-- the same for lists of which the heads are known
head_above : (xs : List ℕ) (u : ℕ) → IsHead Greater xs u → IfHead (λ x. u < x) xs
head_above [] u h = tt
head_above (x ∷ xs) u h = h

first_above : (xs ys : List ℕ) (x p : ℕ) → xs ≡ x ∷ ys → p < x → IfHead (λ u. p < u) xs
first_above xs ys x p e l = subst (IfHead (λ u. p < u)) (sym e) l

pub put_turn : (out put us vs : List ℕ) (u d : ℕ) → us ≡ u ∷ vs → Ascend (record { out = out; put = put; cells = us }) →
    IsHead Less put u → Goes (get_or put 0 d ∷ []) (record { out = out; put = put; cells = us })
    (record { out = out; put = drop 1 put; cells = us })
put_turn out [] us vs u d e a h = absurd (cc)
put_turn out (p ∷ ps) us vs u d e a h = put_step out ps us p a (first_above us vs u p e h)

pub last_turn : (out put ps us : List ℕ) (p : ℕ) → put ≡ p ∷ ps → us ≡ [] → Ascend (record {
  out = out;
  put = put;
  cells
      = us;
}) → Goes (p ∷ []) (record { out = out; put = put; cells = us }) (record { out = out; put = ps; cells = us })
last_turn out put ps us p e f a =
    subst (λ (xs : List ℕ). Goes (p ∷ []) (record { out = out; put = xs; cells = us })
    (record { out = out; put = ps; cells = us })) (sym e)
    (put_step out ps us p (subst (λ (xs : List ℕ). Ascend (record { out = out; put = xs; cells = us })) e a)
    (subst (IfHead (λ u. p < u)) (sym f) tt))

pub keep_turn : (out put us vs : List ℕ) (u : ℕ) → us ≡ u ∷ vs →
    Ascend (record { out = out; put = put; cells = us }) → IsHead Greater put u → IsHead Greater out u →
    Goes (u ∷ []) (record { out = out; put = put; cells = us }) (record { out = out; put = put; cells = vs })
keep_turn out put us vs u e a hp ho =
    subst (λ (xs : List ℕ). Goes (u ∷ []) (record { out = out; put = put; cells = xs })
    (record { out = out; put = put; cells = vs })) (sym e)
    (keep_step out put vs u (subst (λ (xs : List ℕ). Ascend (record { out = out; put = put; cells = xs })) e a)
    (head_above put u hp) (head_above out u ho))

pub take_turn : (out put us vs : List ℕ) (u : ℕ) → us ≡ u ∷ vs →
    Ascend (record { out = out; put = put; cells = us }) → IsHead Greater put u → IsHead Equal out u →
    Goes [] (record { out = out; put = put; cells = us }) (record { out = drop 1 out; put = put; cells = vs })
take_turn [] put us vs u e a hp ho = absurd (cc)
take_turn (o ∷ os) put us vs u e a hp ho =
    let both : us ≡ o ∷ vs = e ∙ ap (λ x. x ∷ vs) (sym ho) in
    subst (λ (xs : List ℕ). Goes [] (record { out = o ∷ os; put = put; cells = xs })
    (record { out = os; put = put; cells = vs })) (sym both)
    (take_step os put vs o (subst (λ (xs : List ℕ). Ascend (record { out = o ∷ os; put = put; cells = xs })) both a)
    (subst (λ (x : ℕ). IfHead (λ p. x < p) put) (sym ho) (head_above put u hp)))

pub put_misfit : (out put us vs : List ℕ) (u : ℕ) → us ≡ u ∷ vs → IsHead Equal put u →
    CanApply (record { out = out; put = put; cells = us }) → ⊥
put_misfit out [] us vs u e h f = absurd (cc)
put_misfit out (p ∷ ps) us vs u e h f =
    put_is_there out ps vs p (subst (λ (xs : List ℕ). CanApply (record { out = out; put = p ∷ ps; cells = xs }))
    (e ∙ ap (λ x. x ∷ vs) (sym h)) f)

pub out_misfit : (out put us vs : List ℕ) (u : ℕ) → us ≡ u ∷ vs → Ascend (record { out = out; put = put; cells = us }) →
    IsHead Less out u → CanApply (record { out = out; put = put; cells = us }) → ⊥
out_misfit [] put us vs u e a h f = absurd (cc)
out_misfit (o ∷ os) put us vs u e a h f = out_is_missing os put us o
    (all_above o us (ascends_from us (ascends us a.cells)) (first_above us vs u o e h)) f

pub end_misfit : (out put us : List ℕ) → us ≡ [] → length out ≢ 0 →
    CanApply (record { out = out; put = put; cells = us }) → ⊥
end_misfit [] put us e n f = n refl
end_misfit (o ∷ os) put us e n f = out_is_missing os put us o (subst (AllAbove o) (sym e) tt) f

-- the list after its first cell, as a slice of it
pub after_first : (xs : List ℕ) → take (length xs - 1) (drop 1 xs) ≡ drop 1 xs
after_first [] = refl
after_first (x ∷ xs) = take_all (length (x ∷ xs) - 1) xs (omega arith)

-- and it ascends too
pub rest_ascends : (xs ys : List ℕ) (x : ℕ) → xs ≡ x ∷ ys → IsStrictlyIncreasing xs → IsStrictlyIncreasing ys
rest_ascends xs ys x e a = let whole : IsAscending (x ∷ ys) = subst IsAscending e (ascends_from xs a) in
    increasing_from ys whole.1

pub after_first_ascends : (xs : List ℕ) → IsStrictlyIncreasing xs →
    IsStrictlyIncreasing (take (length xs - 1) (drop 1 xs))
after_first_ascends [] a = a
after_first_ascends (x ∷ xs) a = rw after_first (rest_ascends (x ∷ xs) xs x refl a)

-- packed cells without the first
rest_packed : {xs : List ℕ} (ys : List ℕ) (x : ℕ) → xs ≡ x ∷ ys → IsPacked xs → IsPacked ys
rest_packed ys x e p =
    let whole : IsPacked (x ∷ ys) = subst IsPacked e p in
    subst IsPacked (take_all (length ys) ys (omega arith)) (part_packed 1 (length ys) whole (omega arith))

-- a run of cells that stay, each below what is put in and taken out
pub keep_run : (n : ℕ) (out put us : List ℕ) → Ascend (record { out = out; put = put; cells = us }) → n ≤ length us
    → ((k : ℕ) → k < n → IfHead (λ p. get_or us k 0 < p) put) → ((k : ℕ) → k < n → IfHead (λ o. get_or us k 0 < o) out)
    → Keeps (take n us) (record { out = out; put = put; cells = us })
    (record { out = out; put = put; cells = drop n us })
keep_run zero out put us a h hp ho = record { same = (λ f. f, λ f. f); gives = λ _. refl; less = omega arith }
keep_run (suc n) out put [] a h hp ho = absurd (omega arith)
keep_run (suc n) out put (u ∷ us) a h hp ho =
    let step = keep_step out put us u a (hp 0 (omega arith)) (ho 0 (omega arith)) in
    let rest : Ascend (record { out = out; put = put; cells = us }) =
    record { out = a.out; put = a.put; cells = rest_packed us u refl a.cells } in
    let more = keep_run n out put us rest (omega arith) (λ k l. hp (suc k) (omega arith))
    (λ k l. ho (suc k) (omega arith)) in
    let less = step.less in
    let fewer = more.less in
    record {
      same = (λ f. more.same.0 (step.same.0 f), λ f. step.same.1 (more.same.1 f));
      gives = λ f. step.gives f ∙ ap (λ l. u ∷ l) (more.gives (step.same.0 f));
      less = omega arith;
    }

below_first : (x n : ℕ) (ys : List ℕ) → IsFrontOf n ys → x < n → IfHead (λ y. x < y) ys
below_first x n [] f h = tt
below_first x n (y ∷ ys) f h = omega arith

-- the same of the cells that a search finds below the first of both
pub keep_found : {len next : ℕ} (a b : ℕ) (out put : List ℕ) {us : List ℕ} → Ascend (record {
  out = out;
  put = put;
  cells = us;
}) → IsFrontOf a out → IsFrontOf b put → next ≡ min a b → Brackets us next len len → Keeps
    (take len us) (record { out = out; put = put; cells = us }) (record { out = out; put = put; cells = drop len us })
keep_found {len} a b out put {us} s fa fb e found =
    keep_run len out put us s found.within
    (λ k h. below_first (get_or us k 0) b put fb (let l = found.below k h in omega arith))
    (λ k h. below_first (get_or us k 0) a out fa (let l = found.below k h in omega arith))

-- what is left of a list after a place, as a slice of it
pub rest_after : (xs : List ℕ) (i : ℕ) → take (length xs - i) (drop i xs) ≡ drop i xs
rest_after xs i = take_all (length xs - i) (drop i xs) (let l = length-drop i xs in omega arith)

-- what is written with a run and a turn, and what is left to write, are the same list
pub whole_on : (list : List ℕ) {copied written whole run front : List ℕ} {old ran new : Left} →
    list ++ made_list old ≡ whole → copied ≡ list ++ run → written ≡ copied ++ front →
    Keeps run old ran → Goes front ran new → CanApply old → written ++ made_list new ≡ whole
whole_on list {run} {front} {new} w c e k t can =
    ap (λ l. l ++ made_list new) (e ∙ ap (λ l. l ++ front) c) ∙ append_assoc (list ++ run) front (made_list new)
    ∙ append_assoc list run (front ++ made_list new)
    ∙ ap (λ l. list ++ (run ++ l)) (sym (t.gives (k.same.0 can))) ∙ ap (λ l. list ++ l) (sym (k.gives can)) ∙ w

-- the first cell of a list, and the others
pub first_and_rest : (us : List ℕ) (d : ℕ) → 0 < length us → us ≡ get_or us 0 d ∷ drop 1 us
first_and_rest [] d h = absurd (omega arith)
first_and_rest (x ∷ us) d h = refl

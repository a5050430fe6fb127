-- Changes can be made in turn in a list exactly when they can in the part of it that they can concern.
use Rattle.std.proofs.Common.{◌≡◌, ℕ, zero, suc, ◌+◌, ◌<◌, ◌≤◌, Bool, not, ◌&&◌, eqb, List, [], ◌∷◌, ◌++◌, length, map}
use Rattle.std.proofs.Common.{take, drop, get_or, refl, sym, ap, ◌∙◌, subst, arith}
use Rattle.std.proofs.lemmas.List.{map-append, take-append-drop, drop-drop, drop_all, at_drop_all}
use Rattle.std.specs.List.{AllByRecursion}
use Rattle.s2union.specs.Apply.{has, cells_without, applied, Fits}
use Rattle.s2edit.specs.Diff.{Diff, apply}
use Rattle.s2edit.specs.Content.{IsMove, diff_of}
use Rattle.s2edit.specs.declared.content.Move.{Move}
use Rattle.s2edit.specs.Working.InTurn.{FitInTurn, list_after_all, of_register}
use Rattle.s2edit.specs.Working.Part.{AllWatched, IsDiffWatched, IsPart, IsPartFor}
use Rattle.s2edit.proofs.Following.{drop_next}
use Rattle.s2edit.proofs.PartLemmas.{by_bool, fits_part, fits_whole, part_after, watched_after, rest_after}
use Rattle.s2edit.proofs.PartLemmas.{change_of_part, change_fits}

-- changes in turn, and then more of them
fit_parts : (u : List ℕ) (ds fs : List Diff) → FitInTurn u (ds ++ fs) →
    FitInTurn u ds × FitInTurn (list_after_all u ds) fs
fit_parts u [] fs f = (tt, f)
fit_parts u (d ∷ ds) fs f = let rest = fit_parts (apply d u) ds fs f.1 in ((f.0, rest.0), rest.1)

fit_both : (u : List ℕ) (ds fs : List Diff) → FitInTurn u ds → FitInTurn (list_after_all u ds) fs →
    FitInTurn u (ds ++ fs)
fit_both u [] fs f g = g
fit_both u (d ∷ ds) fs f g = (f.0, fit_both (apply d u) ds fs f.1 g)

after_both : (u : List ℕ) (ds fs : List Diff) →
    list_after_all u (ds ++ fs) ≡ list_after_all (list_after_all u ds) fs
after_both u [] fs = refl
after_both u (d ∷ ds) fs = after_both (apply d u) ds fs

-- what later changes name is watched in the list that the first one makes
watched_on : (S : ℕ → Bool) (u s : List ℕ) (d : Diff) (ds : List Diff) → IsPart S u s → IsDiffWatched S u d →
    AllWatched S u ds → AllWatched S (apply d u) ds
watched_on S u s d [] p w a = tt
watched_on S u s d (e ∷ ds) p w a = (
  record {
    out = λ c h. watched_after S u s d.out d.put p w.out w.put c (a.0.out c h);
    put = λ c h. watched_after S u s d.out d.put p w.out w.put c (a.0.put c h);
  },
  watched_on S u s d ds p w a.1,
)

turn_part : (S : ℕ → Bool) (u s : List ℕ) (ds : List Diff) → IsPart S u s → AllWatched S u ds → FitInTurn u ds →
    FitInTurn s ds
turn_part S u s [] p a f = tt
turn_part S u s (d ∷ ds) p a f =
    let inner = fits_part S u s d.out d.put p a.0.out a.0.put f.0 in (
      inner,
      turn_part S (apply d u) (apply d s) ds (part_after S u s d.out d.put p a.0.out a.0.put inner)
          (watched_on S u s d ds p a.0 a.1) f.1,
    )

turn_whole : (S : ℕ → Bool) (u s : List ℕ) (ds : List Diff) → IsPart S u s → AllWatched S u ds → FitInTurn s ds →
    FitInTurn u ds
turn_whole S u s [] p a f = tt
turn_whole S u s (d ∷ ds) p a f = (
  fits_whole S u s d.out d.put p a.0.out a.0.put f.0,
  turn_whole S (apply d u) (apply d s) ds (part_after S u s d.out d.put p a.0.out a.0.put f.0)
      (watched_on S u s d ds p a.0 a.1) f.1,
)

part_turned : (S : ℕ → Bool) (u s : List ℕ) (ds : List Diff) → IsPart S u s → AllWatched S u ds → FitInTurn s ds →
    IsPart S (list_after_all u ds) (list_after_all s ds)
part_turned S u s [] p a f = p
part_turned S u s (d ∷ ds) p a f =
    part_turned S (apply d u) (apply d s) ds (part_after S u s d.out d.put p a.0.out a.0.put f.0)
    (watched_on S u s d ds p a.0 a.1) f.1

rest_turned : (S : ℕ → Bool) (u s : List ℕ) (ds : List Diff) → IsPart S u s → AllWatched S u ds → FitInTurn s ds →
    (c : ℕ) → (has (list_after_all u ds) c && not (has (list_after_all s ds) c)) ≡ (has u c && not (has s c))
rest_turned S u s [] p a f c = refl
rest_turned S u s (d ∷ ds) p a f c =
    rest_turned S (apply d u) (apply d s) ds (part_after S u s d.out d.put p a.0.out a.0.put f.0)
    (watched_on S u s d ds p a.0 a.1) f.1 c
    ∙ rest_after S u s d.out d.put p a.0.out a.0.put f.0 c

module _ (ds : List Diff) (u s : List ℕ) (p : IsPartFor ds u s) where
  pub part_needs : FitInTurn u ds → FitInTurn s ds
  part_needs = turn_part p.set u s ds p.is_part p.watched

  pub part_gives : FitInTurn s ds → FitInTurn u ds
  part_gives = turn_whole p.set u s ds p.is_part p.watched

  -- what the changes do to the part is a change of the list, and does there what they do
  module _ (f : FitInTurn s ds) (after : List ℕ) (is : after ≡ list_after_all s ds) where
    pub part_fits : Fits (cells_without s after) (cells_without after s) u
    part_fits = subst (λ (v : List ℕ). Fits (cells_without s v) (cells_without v s) u) (sym is)
        (change_fits p.set u s (list_after_all u ds) (list_after_all s ds) p.is_part
        (part_turned p.set u s ds p.is_part p.watched f) (rest_turned p.set u s ds p.is_part p.watched f))

    pub part_makes : applied (cells_without s after) (cells_without after s) u ≡ list_after_all u ds
    part_makes = subst (λ (v : List ℕ). applied (cells_without s v) (cells_without v s) u ≡ list_after_all u ds)
        (sym is)
        (change_of_part p.set u s (list_after_all u ds) (list_after_all s ds) p.is_part
        (part_turned p.set u s ds p.is_part p.watched f) (rest_turned p.set u s ds p.is_part p.watched f))

-- the changes that are left can be made from here exactly if all can from the start, and they lead to the same list
pub record GoesOn (u : List ℕ) (ds : List Diff) (here : List ℕ) (left : List Diff) : Type 0 where
  pub fit : FitInTurn here left → FitInTurn u ds
  pub back : FitInTurn u ds → FitInTurn here left
  pub same : list_after_all here left ≡ list_after_all u ds

-- the first of the changes that are left were made
pub goes_over : (u : List ℕ) (ds : List Diff) (here there : List ℕ) (firsts rest : List Diff) →
    GoesOn u ds here (firsts ++ rest) → FitInTurn here firsts → there ≡ list_after_all here firsts →
    GoesOn u ds there rest
goes_over u ds here there firsts rest g f e = record {
  fit = λ h. g.fit (fit_both here firsts rest f (subst (λ (v : List ℕ). FitInTurn v rest) e h));
  back = λ h. subst (λ (v : List ℕ). FitInTurn v rest) (sym e) (fit_parts here firsts rest (g.back h)).1;
  same = ap (λ (v : List ℕ). list_after_all v rest) e ∙ sym (after_both here firsts rest) ∙ g.same;
}

-- the changes of a register, of changes in two parts
of_register-append : (r : ℕ) (ms ns : List Diff) → of_register r (ms ++ ns) ≡ of_register r ms ++ of_register r ns
of_register-append r [] ns = refl
of_register-append r (m ∷ ms) ns = by_bool (eqb m.register r)
    (λ e. rw e (ap (λ (l : List Diff). m ∷ l) (of_register-append r ms ns)))
    (λ n. rw n (of_register-append r ms ns))

-- some of the changes of a session
each_after : (ms : List Move) (i : ℕ) → AllByRecursion IsMove (map diff_of ms) →
    AllByRecursion IsMove (map diff_of (drop i ms))
each_after [] zero a = a
each_after [] (suc i) a = a
each_after (m ∷ ms) zero a = a
each_after (m ∷ ms) (suc i) a = each_after ms i a.1

each_before : (ms : List Move) (i : ℕ) → AllByRecursion IsMove (map diff_of ms) →
    AllByRecursion IsMove (map diff_of (take i ms))
each_before [] zero a = a
each_before [] (suc i) a = a
each_before (m ∷ ms) zero a = tt
each_before (m ∷ ms) (suc i) a = (a.0, each_before ms i a.1)

pub each_between : (ms : List Move) (i n : ℕ) → AllByRecursion IsMove (map diff_of ms) →
    AllByRecursion IsMove (map diff_of (take n (drop i ms)))
each_between ms i n a = each_before (drop i ms) n (each_after ms i a)

-- a batch of the changes of a session: those from the place `i` to the place `i + k`, which are `n`
module _ (u : List ℕ) (r : ℕ) (ms : List Move) (here : List ℕ) (i k n : ℕ) (count : n ≡ k)
    (g : GoesOn u (of_register r (map diff_of ms)) here
    (of_register r (map diff_of (drop i ms)))) where
  parts : drop i ms ≡ take n (drop i ms) ++ drop (i + k) ms
  parts = sym (take-append-drop n (drop i ms)) ∙ ap (λ (l : List Move). take n (drop i ms) ++ l)
      (drop-drop n i ms ∙ ap (λ (j : ℕ). drop j ms) (omega (arith, count)))

  in_parts : of_register r (map diff_of (drop i ms))
      ≡ of_register r (map diff_of (take n (drop i ms)))
      ++ of_register r (map diff_of (drop (i + k) ms))
  in_parts = ap (λ (l : List Move). of_register r (map diff_of l)) parts
      ∙ ap (λ (l : List Diff). of_register r l)
      (map-append diff_of (take n (drop i ms)) (drop (i + k) ms))
      ∙ of_register-append r (map diff_of (take n (drop i ms))) (map diff_of (drop (i + k) ms))

  goes_parts : GoesOn u (of_register r (map diff_of ms)) here
      (of_register r (map diff_of (take n (drop i ms)))
      ++ of_register r (map diff_of (drop (i + k) ms)))
  goes_parts = subst (GoesOn u (of_register r (map diff_of ms)) here) in_parts g

  pub batch_goes : (there : List ℕ) → FitInTurn here (of_register r (map diff_of (take n (drop i ms)))) →
      there ≡ list_after_all here (of_register r (map diff_of (take n (drop i ms)))) →
      GoesOn u (of_register r (map diff_of ms)) there
      (of_register r (map diff_of (drop (i + k) ms)))
  batch_goes there f e = goes_over u (of_register r (map diff_of ms)) here there
      (of_register r (map diff_of (take n (drop i ms))))
      (of_register r (map diff_of (drop (i + k) ms))) goes_parts f e

  pub batch_needs : FitInTurn u (of_register r (map diff_of ms)) →
      FitInTurn here (of_register r (map diff_of (take n (drop i ms))))
  batch_needs f = (fit_parts here (of_register r (map diff_of (take n (drop i ms))))
      (of_register r (map diff_of (drop (i + k) ms))) (goes_parts.back f)).0

-- one of the changes of a session, that at the place `i`
module _ (u : List ℕ) (r : ℕ) (ms : List Move) (here : List ℕ) (i : ℕ) (m : Move) (low : i < length ms)
    (is : m ≡ get_or ms i m)
    (g : GoesOn u (of_register r (map diff_of ms)) here (of_register r (map diff_of (drop i ms)))) where
  one_taken : of_register r (map diff_of (take 1 (drop i ms))) ≡ of_register r (diff_of m ∷ [])
  one_taken = ap (λ (l : List Move). of_register r (map diff_of (take 1 l))) (drop_next ms i m low is)

  pub one_goes : (there : List ℕ) → FitInTurn here (of_register r (diff_of m ∷ [])) →
      there ≡ list_after_all here (of_register r (diff_of m ∷ [])) →
      GoesOn u (of_register r (map diff_of ms)) there (of_register r (map diff_of (drop (i + 1) ms)))
  one_goes there f t = batch_goes u r ms here i 1 1 refl g there
      (subst (FitInTurn here) (sym one_taken) f) (t ∙ ap (list_after_all here) (sym one_taken))

  pub one_needs : FitInTurn u (of_register r (map diff_of ms)) → FitInTurn here (of_register r (diff_of m ∷ []))
  one_needs f = subst (FitInTurn here) one_taken (batch_needs u r ms here i 1 1 refl g f)

pub one_move : (ms : List Move) (i : ℕ) (m : Move) → i < length ms → m ≡ get_or ms i m →
    AllByRecursion IsMove (map diff_of ms) → IsMove (diff_of m)
one_move ms i m low is a = (subst (λ (l : List Move). AllByRecursion IsMove (map diff_of (take 1 l)))
    (drop_next ms i m low is) (each_between ms i 1 a)).0

-- no change is left
module _ (u : List ℕ) (r : ℕ) (ms : List Move) (here : List ℕ) (i : ℕ) (all : length ms ≤ i)
    (g : GoesOn u (of_register r (map diff_of ms)) here (of_register r (map diff_of (drop i ms)))) where
  pub all_gone : here ≡ list_after_all u (of_register r (map diff_of ms))
  all_gone = sym (at_drop_all (λ (l : List Move). list_after_all here (of_register r (map diff_of l))) ms i all)
      ∙ g.same

  pub all_fit : FitInTurn u (of_register r (map diff_of ms))
  all_fit = g.fit (subst (λ (l : List Move). FitInTurn here (of_register r (map diff_of l)))
      (sym (drop_all i ms all)) tt)

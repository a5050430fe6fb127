-- Edges by their numbers in a list.
use Rattle.std.proofs.Common.{◌≡◌, refl, ap, sym, ◌∙◌, ℕ, ◌+◌, ◌<◌, arith, List, [], ◌∷◌, ◌++◌, length, take, get_or}
use Rattle.std.proofs.Common.{All, Bool, true, false, not, cond, filter, subst}
use Rattle.std.proofs.Math.Bool.{beq}
use Rattle.std.proofs.lemmas.List.{append-nil, take_more}
use Rattle.std.proofs.lemmas.List.Elements.{All-append, All-cons, All-get_or, All-nil, filter-append}
use Rattle.s2polygon.proofs.Steps.{either_answer, odd_more}
use Rattle.s2polygon.specs.Parity.{is_odd_by}
use Rattle.s2polygon.specs.Tests.{meets_square}
use Rattle.s2polygon.specs.Descents.{no_edge, picked}
use Rattle.s2polygon.specs.Working.Descent.{crosses_step_at}
use Rattle.s2polygon.specs.declared.frames.FramedEdge.{FramedEdge}
use Rattle.s2polygon.specs.declared.places.Square.{Square}
use Rattle.s2polygon.specs.declared.places.Step.{Step}

pub none_picked : (all : List FramedEdge) (numbers : List ℕ) → numbers ≡ [] → picked all numbers ≡ []
none_picked all numbers e = ap (picked all) e

pub picked_none : (all : List FramedEdge) (numbers : List ℕ) → picked all numbers ≡ [] → numbers ≡ []
picked_none all [] e = refl
picked_none all (n ∷ ns) e = let l = ap length e in absurd (omega arith)

-- ---- one more number
picked_more : (all : List FramedEdge) (numbers : List ℕ) (n : ℕ)
    → picked all (numbers ++ (n ∷ [])) ≡ picked all numbers ++ (get_or all n no_edge ∷ [])
picked_more all [] n = refl
picked_more all (m ∷ ms) n = ap (λ (l : List FramedEdge). get_or all m no_edge ∷ l) (picked_more all ms n)

picked_take : (all : List FramedEdge) (numbers : List ℕ) (i d : ℕ) (e : FramedEdge) → i < length numbers
    → e ≡ get_or all (get_or numbers i d) no_edge
    → picked all (take (i + 1) numbers) ≡ picked all (take i numbers) ++ (e ∷ [])
picked_take all numbers i d e h is =
    ap (picked all) (take_more numbers i d h) ∙ picked_more all (take i numbers) (get_or numbers i d)
    ∙ ap (λ (f : FramedEdge). picked all (take i numbers) ++ (f ∷ [])) (sym is)

module _ (test : FramedEdge → Bool) (es : List FramedEdge) (e : FramedEdge) where
  kept_more : (k : Bool) → k ≡ test e → filter test (es ++ (e ∷ []))
      ≡ cond k (filter test es ++ (e ∷ [])) (filter test es)
  kept_more true is =
      filter-append test es (e ∷ [])
      ∙ ap (λ (b : Bool). filter test es ++ cond b (e ∷ []) []) (sym is)
  kept_more false is =
      filter-append test es (e ∷ [])
      ∙ ap (λ (b : Bool). filter test es ++ cond b (e ∷ []) []) (sym is)
      ∙ append-nil (filter test es)

-- what is known after the first `i` of the edges with these numbers
pub record Sifted (all : List FramedEdge) (numbers : List ℕ) (s : Step) (q : Square) (i : ℕ) (odd : Bool)
    (met : List ℕ) : Type 0 where
  pub odd_is : odd ≡ is_odd_by (crosses_step_at s) (picked all (take i numbers))
  pub met_is : picked all met ≡ filter (meets_square q) (picked all (take i numbers))
  pub within : All (λ n. n < length all) met

module _ (all : List FramedEdge) (numbers : List ℕ) (s : Step) (q : Square) (i d : ℕ) (e : FramedEdge)
    (odd crossed kept : Bool) (met more : List ℕ) where
  abbrev n : ℕ
  n = get_or numbers i d

  met_more : (k : Bool) → picked all (cond k (met ++ (n ∷ [])) met)
      ≡ cond k (picked all met ++ (get_or all n no_edge ∷ [])) (picked all met)
  met_more true = picked_more all met n
  met_more false = refl

  within_more : (k : Bool) → n < length all → All (λ m. m < length all) met
      → All (λ m. m < length all) (cond k (met ++ (n ∷ [])) met)
  within_more true h a =
      All-append (λ m. m < length all) met (n ∷ []) a
      (All-cons (λ m. m < length all) n [] h (All-nil (λ m. m < length all)))
  within_more false h a = a

  pub sifted_next : i < length numbers → e ≡ get_or all n no_edge → crossed ≡ crosses_step_at s e
      → kept ≡ meets_square q e → more ≡ cond kept (met ++ (n ∷ [])) met → All (λ m. m < length all) numbers
      → Sifted all numbers s q i odd met → Sifted all numbers s q (i + 1) (not (beq odd crossed)) more
  sifted_next h is c k m w f =
      let one = picked_take all numbers i d e h is in
      let before = picked all (take i numbers) in
      let own = sym is in
      record {
        odd_is =
            either_answer odd crossed (is_odd_by (crosses_step_at s) before) (crosses_step_at s e) f.odd_is c
            ∙ sym (ap (is_odd_by (crosses_step_at s)) one ∙ odd_more (crosses_step_at s) before e);
        met_is =
            ap (picked all) m ∙ met_more kept
            ∙ ap (λ (x : FramedEdge). cond kept (picked all met ++ (x ∷ [])) (picked all met)) own
            ∙ ap (λ (l : List FramedEdge). cond kept (l ++ (e ∷ [])) l) f.met_is
            ∙ sym (ap (filter (meets_square q)) one ∙ kept_more (meets_square q) before e kept k);
        within =
            subst (λ (l : List ℕ). All (λ m. m < length all) l) (sym m)
            (within_more kept (All-get_or (λ m. m < length all) numbers i d h w) f.within);
      }

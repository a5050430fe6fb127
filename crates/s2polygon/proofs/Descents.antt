-- One step down.
use Rattle.std.proofs.Common.{ap, refl, [], ◌∷◌, All, cond, length, true, false, arith, ◌≡◌, sym, ap₂}
use Rattle.std.proofs.Common.{◌∙◌, ℕ, suc, ◌/◌, Bool, not, List, filter}
use Rattle.std.proofs.Math.Bool.{beq}
use Rattle.std.proofs.lemmas.List.Elements.{All-nil, All-cons}
use Rattle.s2polygon.proofs.Cells.{step_with_kept}
use Rattle.s2polygon.proofs.Steps.{either_answer, odd_as_pieces}
use Rattle.s2polygon.proofs.Tests.{leaves_out_near, child_list}
use Rattle.s2polygon.specs.Cells.{odd_of, square_of, step_to, widened}
use Rattle.s2polygon.specs.Parity.{is_odd_by, is_odd_along}
use Rattle.s2polygon.specs.Tests.{meets_square}
use Rattle.s2polygon.specs.Descents.{Near, IsRight}
use Rattle.s2polygon.specs.Working.Descent.{crosses_step_at, places_of}
use Rattle.s2polygon.specs.Working.Holding.{Misses, LeavesOutWhatMisses}
use Rattle.s2polygon.specs.declared.frames.FramedEdge.{FramedEdge}
use Rattle.s2polygon.specs.declared.places.Square.{Square}
use Rattle.s2polygon.specs.declared.places.Step.{Step}

module _ (m : ℕ) (top : Bool) (edges : List FramedEdge) (n k i j : ℕ) (parent : Near)
    (right : IsRight m top edges n (suc k) (i / 2) (j / 2) parent) (xs : List FramedEdge)
    (same : xs ≡ parent.edges) where
  abbrev above : FramedEdge → Bool
  above = meets_square (widened m (square_of (suc k) (i / 2) (j / 2)))

  pub odd_below : (s : Step) (r : Bool) → s ≡ places_of k i j → r ≡ is_odd_by (crosses_step_at s) xs
      → not (beq parent.odd r) ≡ odd_of top edges (suc n) k i j
  odd_below s r is e =
      let f = e ∙ ap₂ (λ (t : Step) (l : List FramedEdge). is_odd_by (crosses_step_at t) l) is (same ∙ right.met)
      ∙ odd_as_pieces k i j (filter above edges) in
      either_answer parent.odd r (odd_of top edges n (suc k) (i / 2) (j / 2))
      (is_odd_along (step_to k i j) (filter above edges)) right.odd f
      ∙ sym (step_with_kept top edges above n k i j (leaves_out_near m (suc k) (i / 2) (j / 2)))

  pub met_below : (q : Square) (met : List FramedEdge) → q ≡ widened m (square_of k i j) → met ≡ filter
      (meets_square q) xs
      → met ≡ filter (meets_square (widened m (square_of k i j))) edges
  met_below q met is e =
      e ∙ ap₂ (λ (p : Square) (l : List FramedEdge). filter (meets_square p) l) is (same ∙ right.met)
      ∙ child_list m k i j edges

-- ---- a cell that no edge is left for
module _ (q : Square) (keeps : FramedEdge → Bool) (leaves : LeavesOutWhatMisses keeps q) where
  first_missed : (e : FramedEdge) (es kept : List FramedEdge) (t : Bool) → keeps e ≡ t → cond t (e ∷ kept) kept ≡ []
      → Misses e q
  first_missed e es kept true is none = let l = ap length none in absurd (omega arith)
  first_missed e es kept false is none = leaves e is

  rest_none : (e : FramedEdge) (kept : List FramedEdge) (t : Bool) → cond t (e ∷ kept) kept ≡ [] → kept ≡ []
  rest_none e kept true none = let l = ap length none in absurd (omega arith)
  rest_none e kept false none = none

  pub none_left : (es : List FramedEdge) → filter keeps es ≡ [] → All (λ e. Misses e q) es
  none_left [] none = All-nil (λ e. Misses e q)
  none_left (e ∷ es) none =
      All-cons (λ e. Misses e q) e es (first_missed e es (filter keeps es) (keeps e) refl none)
      (none_left es (rest_none e (filter keeps es) (keeps e) none))

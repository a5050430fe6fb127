-- Lemmas on what is settled between two lines.
use Rattle.std.proofs.Common.{◌≡◌, ℕ, Bool, true, List, ◌∷◌, ◌++◌, Option, Result, Ok, Err, OnOk, IfErr}
use Rattle.std.proofs.Common.{MatchResult, refl, sym, subst, ap, ◌∙◌}
use Rattle.std.specs.Io.KnownBytes.{Keeps}
use Rattle.s2shelf.specs.Shelf.{Files}
use Rattle.s2calc.specs.declared.fault.RunFault.{RunFault}
use Rattle.s2calc.specs.declared.fault.RunFault.TheVariants.{Output}
use Rattle.s2calc.specs.Calls.{Call, NoneFailed}
use Rattle.s2calc.specs.Flushing.{FlushedIfOk, Settled, Unsettled, Settles}
use Rattle.s2calc.specs.Working.Calls.{FailedIfErr}
use Rattle.s2calc.specs.Moments.{LineBegins, LineEnds, Moment, moment, Adds, AddsOne}
use Rattle.s2calc.specs.Working.Seen.{LineSeen, LineCut}
use Rattle.s2calc.proofs.CallLemmas.{none_failed_more, none_failed_flushed, last_flushed_after}
use Rattle.s2calc.proofs.CallLemmas.{last_flushed_may, last_failed_may}
use Rattle.s2calc.proofs.OrderLemmas.{Adds-trans, Adds-weaker}

module _ {W : Type 0} (contents : W → Option (List ℕ)) (calls : W → Option (List Call)) (is_sent : W → Type 0)
    (may_flush : Type 0) where
  -- a flush
  pub settles_flush : (old new : W) (result : Result (Unit {0}) RunFault) → may_flush →
      Keeps (contents old) (contents new) → FlushedIfOk ⊥ (calls old) (calls new) result → OnOk result (is_sent new) →
      IfErr result (λ fault. fault ≡ Output) → Settles contents calls is_sent may_flush true old new result
  settles_flush old new (Ok t) m k f s e =
      let flushed = last_flushed_may may_flush (calls old) (calls new) f in
      record {
        kept = k;
        none_failed = none_failed_flushed may_flush (calls old) (calls new) m flushed;
        flushed = λ h n. flushed;
        sent = λ h. s;
      }
  settles_flush old new (Err fault) m k f s e = record {
    is_output = e;
    may = m;
    asked = refl;
    kept = k;
    failed = last_failed_may may_flush (calls old) (calls new) f;
  }

  -- whatever becomes of the flush, nothing is written
  pub keeps_beside : (has_file : Bool) (old new : W) (P Q : Type 0) (result : Result (Unit {0}) RunFault) →
      MatchResult result (λ _. Settled contents calls is_sent may_flush has_file old new × P)
      (λ fault. Unsettled contents calls may_flush has_file old new fault × Q) → Keeps (contents old) (contents new)
  keeps_beside has_file old new P Q (Ok t) s = s.0.kept
  keeps_beside has_file old new P Q (Err fault) s = s.0.kept

  pub calls_beside : (has_file : Bool) (old new : W) (P Q : Type 0) (result : Result (Unit {0}) RunFault) →
      MatchResult result (λ _. Settled contents calls is_sent may_flush has_file old new × P)
      (λ fault. Unsettled contents calls may_flush has_file old new fault × Q)
      → FailedIfErr may_flush (calls old) (calls new) result
  calls_beside has_file old new P Q (Ok t) s = s.0.none_failed
  calls_beside has_file old new P Q (Err fault) s = s.0.failed

module _ {W S : Type 0} (contents : W → Option (List ℕ)) (calls : W → Option (List Call)) (is_sent : W → Type 0)
    (files : S → Files) (may_flush : Type 0) where
  -- the line began, and was not seen to end
  pub LineCut-after : (asks has_file : Bool) (old mid : W) (shelf : S) (a b : Option (List (Moment W S))) →
      asks ≡ has_file → Settled contents calls is_sent may_flush has_file old mid × AddsOne a b LineBegins mid shelf
      → Adds a b (LineCut contents calls is_sent files may_flush asks old shelf)
  LineCut-after asks has_file old mid shelf a b same p =
      Adds-weaker a b _ _ (λ ms e. record {
        mid = mid;
        is = e;
        settled = subst (λ h. Settled contents calls is_sent may_flush h old mid) (sym same) p.0;
      }) p.1

  -- the line was carried out between the two
  pub LineSeen-between : (asks has_file : Bool) (old mid done new : W) (old_shelf new_shelf : S)
      (a b c : Option (List (Moment W S))) → asks ≡ has_file →
      Settled contents calls is_sent may_flush has_file old mid
      × AddsOne a b LineBegins mid old_shelf → NoneFailed may_flush (calls mid) (calls done) →
      Settled contents calls is_sent may_flush has_file done new × AddsOne b c LineEnds new new_shelf
      → Adds a c (LineSeen contents calls is_sent files may_flush asks old new old_shelf new_shelf)
  LineSeen-between asks has_file old mid done new old_shelf new_shelf a b c same p n q =
      Adds-trans a b c _ _ _ (λ ms ns e f. record {
        mid = mid;
        is = ap (λ k. k ++ ns) e ∙ ap (λ k. moment LineBegins mid old_shelf ∷ k) f;
        settled = subst (λ h. Settled contents calls is_sent may_flush h old mid) (sym same) p.0;
        flushed = λ h m. last_flushed_after may_flush (calls old) (calls done) (calls new)
            (none_failed_more may_flush (calls old) (calls mid) (calls done) p.0.none_failed n)
            (q.0.flushed (sym same ∙ h) m);
        sent = λ h. q.0.sent (sym same ∙ h);
      }) p.1 q.1

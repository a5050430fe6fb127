-- Lemmas on the calls of a reader and of a writer.
use Rattle.std.proofs.Common.{◌≡◌, ◌∙◌, ◌<◌, ℕ, ◌+◌, List, [], ◌∷◌, ◌++◌, Option, None, Some, refl, sym, ap}
use Rattle.std.proofs.Common.{append_assoc, append-nil, subst, arith, length, length-append, Result, Ok, Err, inl}
use Rattle.s2calc.specs.Calls.{Call, Gains, Gained, NoneFailed, LastFlushed, LastFailed, AllWell, EndsWith, Wrote}
use Rattle.s2calc.specs.Calls.{Flushed, Failed}
use Rattle.s2calc.specs.Reads.{AllGave, ReadsLast, ReadsWell}
use Rattle.s2calc.specs.Flushing.{FlushedIfOk}
use Rattle.s2calc.specs.Working.Calls.{FailedIfErr, ReadsOn}

pub gains_nil : {A : Type 0} (a : Option (List A)) → Gains a a []
gains_nil None = tt
gains_nil (Some xs) = (xs, refl, sym (append-nil xs))

pub gains_more : {A : Type 0} (a b c : Option (List A)) (front back : List A) → Gains a b front → Gains b c back →
    Gains a c (front ++ back)
gains_more a b None front back p q = tt
gains_more {A} a b (Some xs) front back p q =
    let first : Gains a (Some q.0) front = subst (λ (k : Option (List A)). Gains a k front) q.1 p in (
      first.0,
      first.1,
      q.2 ∙ ap (λ (s : List A). s ++ back) first.2 ∙ append_assoc first.0 front back,
    )

pub all_well_more : (may : Type 0) (front back : List Call) → AllWell may front → AllWell may back →
    AllWell may (front ++ back)
all_well_more may [] back p q = q
all_well_more may (Wrote ∷ cs) back p q = all_well_more may cs back p q
all_well_more may (Flushed ∷ cs) back p q = (p.0, all_well_more may cs back p.1 q)
all_well_more may (Failed ∷ cs) back p q = absurd p

-- if no flush is there, there may be one
pub all_well_may : (may : Type 0) (calls : List Call) → AllWell ⊥ calls → AllWell may calls
all_well_may may [] p = p
all_well_may may (Wrote ∷ cs) p = all_well_may may cs p
all_well_may may (Flushed ∷ cs) p = absurd p.0
all_well_may may (Failed ∷ cs) p = absurd p

-- what was gained may be said otherwise
pub gained_so : {A : Type 0} {a b : Option (List A)} {P Q : List A → Type 0} → ((more : List A) → P more → Q more) →
    Gained a b P → Gained a b Q
gained_so f g = record { more = g.more; gained = g.gained; holds = f g.more g.holds }

-- what was gained first, and then more
gained_after : {A : Type 0} {a b c : Option (List A)} {P Q R : List A → Type 0} →
    ((front back : List A) → P front → Q back → R (front ++ back)) → Gained a b P → Gained b c Q → Gained a c R
gained_after {a = a} {b = b} {c = c} f p q = record {
  more = p.more ++ q.more;
  gained = gains_more a b c p.more q.more p.gained q.gained;
  holds = f p.more q.more p.holds q.holds;
}

pub ends_may : {last : Call} (may : Type 0) (calls : List Call) → EndsWith last ⊥ calls → EndsWith last may calls
ends_may may calls e = record { before = e.before; is = e.is; well = all_well_may may e.before e.well }

pub ends_after : {last : Call} (may : Type 0) (front back : List Call) → AllWell may front → EndsWith last may back →
    EndsWith last may (front ++ back)
ends_after {last = last} may front back well e = record {
  before = front ++ e.before;
  is = ap (λ cs. front ++ cs) e.is ∙ sym (append_assoc front e.before (last ∷ []));
  well = all_well_more may front e.before well e.well;
}

pub none_failed_none : (may : Type 0) (a : Option (List Call)) → NoneFailed may a a
none_failed_none may a = record { more = []; gained = gains_nil a; holds = tt }

pub none_failed_more : (may : Type 0) (a b c : Option (List Call)) → NoneFailed may a b → NoneFailed may b c →
    NoneFailed may a c
none_failed_more may a b c p q = gained_after (all_well_more may) p q

pub none_failed_may : (may : Type 0) (a b : Option (List Call)) → NoneFailed ⊥ a b → NoneFailed may a b
none_failed_may may a b p = gained_so (all_well_may may) p

pub last_failed_may : (may : Type 0) (a b : Option (List Call)) → LastFailed ⊥ a b → LastFailed may a b
last_failed_may may a b p = gained_so (ends_may may) p

pub last_flushed_may : (may : Type 0) (a b : Option (List Call)) → LastFlushed ⊥ a b → LastFlushed may a b
last_flushed_may may a b p = gained_so (ends_may may) p

pub last_failed_after : (may : Type 0) (a b c : Option (List Call)) → NoneFailed may a b → LastFailed may b c →
    LastFailed may a c
last_failed_after may a b c p q = gained_after (ends_after may) p q

pub last_flushed_after : (may : Type 0) (a b c : Option (List Call)) → NoneFailed may a b → LastFlushed may b c →
    LastFlushed may a c
last_flushed_after may a b c p q = gained_after (ends_after may) p q

-- of a list that isn't known nothing is left to say
pub unknown_last : (last : Call) (may : Type 0) (a : Option (List Call)) → Gained a None (EndsWith last may)
unknown_last last may a =
    record { more = last ∷ []; gained = tt; holds = record { before = []; is = refl; well = tt } }

-- a flush is a call like others, if there may be one
pub none_failed_flushed : (may : Type 0) (a b : Option (List Call)) → may → LastFlushed may a b → NoneFailed may a b
none_failed_flushed may a b m p = gained_so (λ calls e. subst (AllWell may) (sym e.is)
    (all_well_more may e.before (Flushed ∷ []) e.well (m, tt))) p

-- ---- the calls of a run

pub failed_if_err_after : {T E : Type 0} (may : Type 0) (a b c : Option (List Call)) (result : Result T E) →
    NoneFailed may a b → FailedIfErr may b c result → FailedIfErr may a c result
failed_if_err_after may a b c (Ok t) p q = none_failed_more may a b c p q
failed_if_err_after may a b c (Err e) p q = last_failed_after may a b c p q

pub flushed_if_ok_after : {T E : Type 0} (may : Type 0) (a b c : Option (List Call)) (result : Result T E) →
    NoneFailed may a b → FlushedIfOk may b c result → FlushedIfOk may a c result
flushed_if_ok_after may a b c (Ok t) p q = last_flushed_after may a b c p q
flushed_if_ok_after may a b c (Err e) p q = last_failed_after may a b c p q

pub flushed_if_ok_may : {T E : Type 0} (may : Type 0) (a b : Option (List Call)) (result : Result T E) →
    FlushedIfOk ⊥ a b result → FlushedIfOk may a b result
flushed_if_ok_may may a b (Ok t) p = last_flushed_may may a b p
flushed_if_ok_may may a b (Err e) p = last_failed_may may a b p

pub reads_on_none : (a : Option (List (Option ℕ))) → ReadsOn a a 0
reads_on_none a = record { more = []; gained = gains_nil a; holds = (tt, refl) }

all_gave_more : (reads : List (Option ℕ)) (n : ℕ) → AllGave reads → 0 < n → AllGave (reads ++ Some n ∷ [])
all_gave_more [] n p h = (h, tt)
all_gave_more (None ∷ rs) n p h = absurd p
all_gave_more (Some m ∷ rs) n p h = (p.0, all_gave_more rs n p.1 h)

pub reads_on_more : (a b c : Option (List (Option ℕ))) (times later n : ℕ) → ReadsOn a b times →
    Gains b c (Some n ∷ []) → 0 < n → later ≡ times + 1 → ReadsOn a c later
reads_on_more a b c times later n p g h e =
    let count = p.holds.1 in
    record {
      more = p.more ++ Some n ∷ [];
      gained = gains_more a b c p.more (Some n ∷ []) p.gained g;
      holds = (
        all_gave_more p.more n p.holds.0 h,
        omega (arith, length-append p.more (Some n ∷ []), count, e),
      );
    }

-- the same, and what the last of these reads gave
pub reads_gave : (a b c : Option (List (Option ℕ))) (times n : ℕ) → ReadsOn a b times → Gains b c (Some n ∷ []) → 0 < n
    → Gained a c (λ reads. AllGave reads × ReadsLast (Some n) reads)
reads_gave a b c times n p g h = record {
  more = p.more ++ Some n ∷ [];
  gained = gains_more a b c p.more (Some n ∷ []) p.gained g;
  holds = (all_gave_more p.more n p.holds.0 h, record { before = p.more; is = refl; gave = p.holds.0 });
}

not_at_end : (reads : List (Option ℕ)) → AllGave (reads ++ Some 0 ∷ []) → ⊥
not_at_end [] gave = absurd (omega (arith, gave.0))
not_at_end (None ∷ reads) gave = absurd gave
not_at_end (Some n ∷ reads) gave = not_at_end reads gave.1

-- where each read gave some bytes, none found the end
pub gave_no_end : (reads : List (Option ℕ)) → AllGave reads → ReadsLast (Some 0) reads → ⊥
gave_no_end reads gave last = not_at_end last.before (subst AllGave last.is gave)

pub gave_well : {a b : Option (List (Option ℕ))} {times : ℕ} → ReadsOn a b times → Gained a b ReadsWell
gave_well p = gained_so (λ rs r. inl r.0) p

-- what a read gave is as long as it says
pub read_is : (a b : Option (List (Option ℕ))) (n : ℕ) (bytes : List ℕ) → n ≡ length bytes →
    Gains a b (Some n ∷ []) → Gains a b (Some (length bytes) ∷ [])
read_is a b n bytes e g = subst (λ (k : ℕ). Gains a b (Some k ∷ [])) e g

pub reads_last : (a b c : Option (List (Option ℕ))) (times : ℕ) (last : Option ℕ) → ReadsOn a b times →
    Gains b c (last ∷ []) → Gained a c (ReadsLast last)
reads_last a b c times last p g = record {
  more = p.more ++ last ∷ [];
  gained = gains_more a b c p.more (last ∷ []) p.gained g;
  holds = record { before = p.more; is = refl; gave = p.holds.0 };
}

pub reads_end : (a b c : Option (List (Option ℕ))) (times n : ℕ) → ReadsOn a b times → Gains b c (Some n ∷ []) →
    n ≡ 0 → Gained a c (ReadsLast (Some 0))
reads_end a b c times n p g e = reads_last a b c times (Some 0) p
    (subst (λ (k : ℕ). Gains b c (Some k ∷ [])) e g)

-- What is taken from the bytes that are left, and what these lack.
use Rattle.std.proofs.Common.{◌≡◌, ◌≢◌, ℕ, List, [], ◌++◌, refl, sym, ap, ◌∙◌, subst, append_assoc}
use Rattle.std.proofs.lemmas.List.{append-nil}
use Rattle.s2shelf.specs.OpenedFile.{Claim}
use Rattle.s2session.specs.Reading.{WasLeft}
use Rattle.s2session.specs.Working.Source.{Ahead, Passes, held}
use Rattle.s2session.specs.Working.Taking.{Refuses}
use Rattle.s2session.specs.declared.source.Buffer.{Buffer}
use Rattle.s2session.specs.declared.fault.ReadFault.{ReadFault}
use Rattle.s2session.specs.declared.fault.ReadFault.TheVariants.{Form, Device, Memory}
use Rattle.s2session.proofs.SessionReading.{refuses}

module _ {old mid new : Claim → List ℕ → Type 0} where
  pub joined : {front more : List ℕ} → Passes old mid front → Passes mid new more → Passes old new (front ++ more)
  joined {front} {more} p q = record {
    back = λ claim rest left. subst (old claim) (sym (append_assoc front more rest)) (p.back claim (more ++ rest)
        (q.back claim rest left));
  }

  -- what holds of the bytes that were left, from what holds of those that are
  pub later : {front : List ℕ} {P Q : List ℕ → Type 0} → Passes old mid front →
      ((rest : List ℕ) → P rest → Q (front ++ rest)) → WasLeft mid new P → WasLeft old new Q
  later {front} p f h = record {
    back = λ claim rest left.
        let was = h.back claim rest left in (front ++ was.0, p.back claim was.0 was.1, f was.0 was.2);
  }

  pub refuses_later : (fault : ReadFault) {front : List ℕ} (P Q : List ℕ → Type 0) → Passes old mid front →
      ((rest : List ℕ) → P rest → Q (front ++ rest)) → WasLeft mid new (λ bytes. Refuses fault (P bytes))
      → WasLeft old new (λ bytes. Refuses fault (Q bytes))
  refuses_later fault {front} P Q p f = later p (λ rest. refuses fault (P rest) (Q (front ++ rest)) (f rest))

module _ {old new : Claim → List ℕ → Type 0} where
  -- what holds of all bytes with this front
  pub of_front : {bytes : List ℕ} {Q : List ℕ → Type 0} → Passes old new bytes → ((rest : List ℕ) → Q (bytes ++ rest)) →
      WasLeft old new Q
  of_front {bytes} p f = record { back = λ claim rest left. (bytes ++ rest, p.back claim rest left, f rest) }

  pub weaker : {P Q : List ℕ → Type 0} → ((bytes : List ℕ) → P bytes → Q bytes) → WasLeft old new P → WasLeft old new Q
  weaker f h = record {
    back = λ claim rest left. let was = h.back claim rest left in (was.0, was.1, f was.0 was.2);
  }

  pub refuses_weaker : (fault : ReadFault) (P Q : List ℕ → Type 0) → ((bytes : List ℕ) → P bytes → Q bytes) →
      WasLeft old new (λ bytes. Refuses fault (P bytes)) → WasLeft old new (λ bytes. Refuses fault (Q bytes))
  refuses_weaker fault P Q f = weaker (λ bytes. refuses fault (P bytes) (Q bytes) (f bytes))

  -- a fault that says nothing of the bytes
  pub failed : (fault : ReadFault) {bytes : List ℕ} (Q : List ℕ → Type 0) → fault ≢ Form → Passes old new bytes →
      WasLeft old new (λ bytes. Refuses fault (Q bytes))
  failed Form Q other p = absurd (other refl)
  failed Device Q other p = of_front p (λ rest. tt)
  failed Memory Q other p = of_front p (λ rest. tt)

-- ---- the bytes that are held, and those that come

module _ {coming : Claim → List ℕ → Type 0} where
  -- the front of those that are held is taken
  pub front_taken : (old new : Buffer) (bytes : List ℕ) → held old ≡ bytes ++ held new →
      Passes (Ahead old coming) (Ahead new coming) bytes
  front_taken old new bytes e = record {
    back = λ claim rest left. record {
      rest = left.rest;
      is = ap (λ (l : List ℕ). bytes ++ l) left.is ∙ sym (append_assoc bytes (held new) left.rest)
          ∙ ap (λ (l : List ℕ). l ++ left.rest) (sym e);
      comes = left.comes;
    };
  }

  -- those that are held are left behind
  pub left_behind : (b : Buffer) → Passes (Ahead b coming) coming (held b)
  left_behind b = record { back = λ claim rest left. record { rest = rest; is = refl; comes = left } }

  -- an empty buffer adds nothing
  pub fresh : (b : Buffer) → held b ≡ [] → Passes coming (Ahead b coming) []
  fresh b e = record {
    back = λ claim bytes left.
        subst (coming claim) (sym (left.is ∙ ap (λ (l : List ℕ). l ++ left.rest) e)) left.comes;
  }

module _ {old coming : Claim → List ℕ → Type 0} where
  -- those that are held are the front
  pub held_front : (b : Buffer) {Q : List ℕ → Type 0} → Passes old (Ahead b coming) [] →
      ((rest : List ℕ) → Q (held b ++ rest)) → WasLeft old (Ahead b coming) Q
  held_front b {Q} p f = record {
    back = λ claim bytes left. (bytes, p.back claim bytes left, subst Q (sym left.is) (f left.rest));
  }

  -- they are all, if nothing comes
  pub held_all : (b : Buffer) {Q : List ℕ → Type 0} → Passes old (Ahead b coming) [] →
      ((claim : Claim) (rest : List ℕ) → coming claim rest → rest ≡ []) → Q (held b) → WasLeft old (Ahead b coming) Q
  held_all b {Q} p none q = record {
    back = λ claim bytes left. (
      bytes,
      p.back claim bytes left,
      subst Q (sym (left.is ∙ ap (λ (l : List ℕ). held b ++ l) (none claim left.rest left.comes)
          ∙ append-nil (held b))) q,
    );
  }

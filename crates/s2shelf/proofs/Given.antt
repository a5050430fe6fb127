-- What may be left of an opened file after a read of it.
use Rattle.std.proofs.Common.{◌≡◌, ◌↔◌, ℕ, ◌<◌, Bool, true, false, List, [], ◌++◌, length, take, Option, None, Some}
use Rattle.std.proofs.Common.{Result, Ok, inl, inr, refl, sym, ap, ◌∙◌, subst, append_assoc}
use Rattle.std.proofs.lemmas.Bool.{cases_Bool, false_from_ne_true, true≢false, false≢true}
use Rattle.std.specs.Io.KnownBytes.{Consumes, IsAtEnd, Keeps}
use Rattle.s2shelf.specs.OpenedFile.{Claim, known_left, MayCome, Left, name_of, given, has_ended, below}
use Rattle.s2shelf.specs.declared.opened_file.OpenedFile.{OpenedFile}

-- nothing is left of a file whose end was reached
none_comes : (ended : Bool) (ahead : Option (List ℕ)) (rest : List ℕ) → ended ≡ true → MayCome ended ahead rest →
    rest ≡ []
none_comes true ahead rest e comes = comes
none_comes false ahead rest e comes = absurd (false≢true e)

pub none_left : {F : Type 0} (remaining : F → Option (List ℕ)) (file : OpenedFile F) → has_ended file ≡ true →
    (claim : Claim) (rest : List ℕ) → Left remaining file claim rest → rest ≡ []
none_left remaining file e claim rest left = none_comes (has_ended file) _ rest e left.comes

-- what may come after a read may have come before it, after the bytes that it gave
come_before : (old new : Bool) (before after : Option (List ℕ)) (more rest : List ℕ) → Consumes before after more →
    (new ≡ true → IsAtEnd after) → old ≡ false → MayCome new after rest → MayCome old before (more ++ rest)
come_before true new before after more rest c end more_left comes = absurd (true≢false more_left)
come_before false new None after more rest c end more_left comes = tt
come_before false new (Some xs) None more rest c end more_left comes = absurd c
come_before false true (Some xs) (Some ys) more rest c end more_left comes =
    ap (λ (l : List ℕ). more ++ l) (comes ∙ sym (end refl)) ∙ sym c
come_before false false (Some xs) (Some ys) more rest c end more_left comes =
    ap (λ (l : List ℕ). more ++ l) comes ∙ sym c

known_consumed : (knows : Bool) (before after : Option (List ℕ)) (more : List ℕ) → Consumes before after more →
    Consumes (known_left knows before) (known_left knows after) more
known_consumed true before after more c = c
known_consumed false before after more c = tt

known_ended : (knows : Bool) (ahead : Option (List ℕ)) → IsAtEnd ahead → IsAtEnd (known_left knows ahead)
known_ended true ahead end = end
known_ended false ahead end = tt

known_kept : (knows : Bool) (before after : Option (List ℕ)) → Keeps before after →
    Keeps (known_left knows before) (known_left knows after)
known_kept true before after k = k
known_kept false before after k = tt

kept_comes : (ended : Bool) (before after : Option (List ℕ)) (rest : List ℕ) → Keeps before after →
    MayCome ended after rest → MayCome ended before rest
kept_comes true before after rest k comes = comes
kept_comes false None after rest k comes = tt
kept_comes false (Some xs) None rest k comes = absurd k
kept_comes false (Some xs) (Some ys) rest k comes = comes ∙ k

-- a file before and after a read
module _ {F : Type 0} (remaining : F → Option (List ℕ)) (old new : OpenedFile F)
    (named : name_of new ≡ name_of old) where
  gave_more : (more : List ℕ) → given new ≡ given old ++ more → has_ended old ≡ false →
      Consumes (remaining (below old)) (remaining (below new)) more →
      (has_ended new ≡ true → IsAtEnd (remaining (below new))) → (claim : Claim) (rest : List ℕ) →
      Left remaining new claim rest → Left remaining old claim (more ++ rest)
  gave_more more gives begun c end claim rest left = record {
    named = sym named ∙ left.named;
    whole = left.whole ∙ ap (λ (l : List ℕ). l ++ rest) gives ∙ append_assoc (given old) more rest;
    comes = come_before (has_ended old) (has_ended new) _ _ more rest
        (known_consumed claim.knows (remaining (below old)) (remaining (below new)) more c)
        (λ e. known_ended claim.knows (remaining (below new)) (end e)) begun left.comes;
  }

  -- it gave the first bytes of a buffer
  pub gave : {E : Type 0} (result : Result ℕ E) (count : ℕ) (buffer : List ℕ) → result ≡ Ok count →
      given new ≡ given old ++ take count buffer →
      (has_ended old ≡ false → Consumes (remaining (below old)) (remaining (below new)) (take count buffer)
      × (count ≡ 0 → 0 < length buffer → IsAtEnd (remaining (below new)))) →
      (has_ended old ≡ false → (has_ended new ≡ true) ↔ ((count ≡ 0) × (0 < length buffer))) →
      (has_ended old ≡ true → (result ≡ Ok 0) × (new ≡ old)) → (claim : Claim) (rest : List ℕ) →
      Left remaining new claim rest → Left remaining old claim (take count buffer ++ rest)
  gave result count buffer is gives begun end ended claim rest left = elim (cases_Bool (has_ended old)) [
    | inl e ↦
        subst (λ (n : ℕ). Left remaining old claim (take n buffer ++ rest)) (sym (same_Ok result count 0 is (ended
        e).0))
        (subst (λ (f : OpenedFile F). Left remaining f claim rest) (ended e).1 left)
    | inr e ↦
        gave_more (take count buffer) gives e (begun e).0
        (λ h. (begun e).1 ((end e).0 h).0 ((end e).0 h).1) claim rest left
  ]
    where
      same_Ok : {E : Type 0} (result : Result ℕ E) (n m : ℕ) → result ≡ Ok n → result ≡ Ok m → n ≡ m
      same_Ok result n m p q = cc

  -- it failed
  pub gave_none : given new ≡ given old → has_ended new ≡ has_ended old →
      (has_ended old ≡ false → Keeps (remaining (below old)) (remaining (below new))) → (has_ended old ≡ true → ⊥)
      → (claim : Claim) (rest : List ℕ) → Left remaining new claim rest → Left remaining old claim rest
  gave_none gives same kept open_still claim rest left = record {
    named = sym named ∙ left.named;
    whole = left.whole ∙ ap (λ (l : List ℕ). l ++ rest) gives;
    comes = kept_comes (has_ended old) _ _ rest (known_kept claim.knows (remaining (below old)) (remaining (below new))
        (kept (false_from_ne_true (has_ended old) open_still)))
        (subst (λ ended. MayCome ended (known_left claim.knows (remaining (below new))) rest) same left.comes);
  }

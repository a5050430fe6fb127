-- Lemmas on a write that fails half way.
use Rattle.std.proofs.Common.{◌≡◌, ℕ, List, ◌++◌, Option, sym, ap, ◌∙◌, append_assoc, subst, length-append, arith}
use Rattle.std.specs.Io.KnownBytes.{Appends}
use Rattle.std.proofs.KnownBytes.{Appends-trans}
use Rattle.s2calc.specs.Output.{AppendsPart}

-- bytes were written whole, and then a beginning of others; more were to follow
pub AppendsPart-after : (a b c : Option (List ℕ)) (whole front bytes back : List ℕ) → Appends a b front →
    AppendsPart b c bytes → whole ≡ front ++ (bytes ++ back) → AppendsPart a c whole
AppendsPart-after a b c whole front bytes back p q e =
    record {
      part = front ++ q.part;
      rest = q.rest ++ back;
      lacking = omega (arith, length-append q.rest back, q.lacking);
      bytes_are = e ∙ ap (λ s. front ++ (s ++ back)) q.bytes_are
          ∙ ap (λ s. front ++ s) (append_assoc q.part q.rest back)
          ∙ sym (append_assoc front q.part (q.rest ++ back));
      written = Appends-trans a b c front q.part p q.written;
    }

-- bytes were written, and then the rest of them
pub Appends-whole : (a b c : Option (List ℕ)) (whole front back : List ℕ) → Appends a b front → Appends b c back →
    whole ≡ front ++ back → Appends a c whole
Appends-whole a b c whole front back p q e = subst (Appends a c) (sym e) (Appends-trans a b c front back p q)

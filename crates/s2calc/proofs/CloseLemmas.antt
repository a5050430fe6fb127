-- Lemmas on the end of a script.
use Rattle.std.proofs.Common.{◌≡◌, ℕ, ◌+◌, ◌-◌, ◌<◌, ◌⊎◌, inl, inr, List, [], ◌∷◌, ◌++◌, Option, length}
use Rattle.std.proofs.Common.{take, refl, sym, ap, ◌∙◌, subst, append_assoc, append-nil, arith, length-append}
use Rattle.std.proofs.lemmas.List.Concat.{flat_map-append}
use Rattle.std.proofs.Math.Seq.{take-append-add}
use Rattle.std.specs.Io.KnownBytes.{Appends, Keeps}
use Rattle.std.proofs.KnownBytes.{Appends-nil, Appends-kept, Keeps-refl}
use Rattle.s2script.specs.declared.limits.TheConstants.{LONGEST_LINE}
use Rattle.s2calc.specs.declared.limits.TheConstants.{KEPT}
use Rattle.s2calc.specs.declared.engine.Tally.{Tally}
use Rattle.s2calc.specs.declared.progress.Progress.{Progress}
use Rattle.s2script.specs.Lines.{but_last, last_line, lines}
use Rattle.s2calc.specs.Replies.{Reply, text_of, texts, tally_of}
use Rattle.s2calc.specs.Working.Stands.{IsCutOff}
use Rattle.s2calc.specs.Step.{Step}
use Rattle.s2calc.specs.Run.{Steps}
use Rattle.s2calc.specs.Working.Stands.{Point, Explains}
use Rattle.s2calc.specs.Working.Stands.{Stands, Answered, AnsweredInPart, AnsweredUnflushed, Ended, EndsInPart}
use Rattle.s2calc.specs.Working.Stands.{EndsUnflushed, EndsBefore}
use Rattle.s2calc.proofs.LineLemmas.{lines_begun, but_last-append}
use Rattle.s2calc.proofs.TakeInLemmas.{IsCutOff-part, Explains-line, Explains-cut, Steps-line, has_file-kept}

pub but_last-more : {X : Type 0} (replies : List X) (m : X) (ms : List X) →
    but_last (replies ++ m ∷ ms) ≡ replies ++ but_last (m ∷ ms)
but_last-more replies m ms =
    let count : length (replies ++ m ∷ ms) - 1 ≡ length replies + (length (m ∷ ms) - 1) =
    omega (arith, length-append replies (m ∷ ms)) in
    ap (λ n. take n (replies ++ m ∷ ms)) count ∙ take-append-add replies (m ∷ ms) (length (m ∷ ms) - 1)

-- the answers to earlier lines came out whole
pub IsCutOff-after : (before more : List Reply) (bytes : List ℕ) → IsCutOff bytes more →
    IsCutOff (texts before ++ bytes) (before ++ more)
IsCutOff-after before [] bytes b = let none = length-append bytes b.rest in let same = ap length b.beginning in
    absurd (omega (arith, none, same, b.lacking))
IsCutOff-after before (m ∷ ms) bytes b =
    record {
      rest = b.rest;
      lacking = b.lacking;
      beginning = flat_map-append text_of before (m ∷ ms) ∙ ap (λ s. texts before ++ s) b.beginning
          ∙ sym (append_assoc (texts before) bytes b.rest);
      all_but_last = (
        b.all_but_last.0,
        ap (λ s. texts before ++ s) b.all_but_last.1
            ∙ sym (append_assoc (texts before) (texts (but_last (m ∷ ms))) b.all_but_last.0)
            ∙ ap (λ s. s ++ b.all_but_last.0) (sym (flat_map-append text_of before (but_last (m ∷ ms)))
            ∙ ap texts (sym (but_last-more before m ms))),
      );
    }

last_line-none : (rest : List ℕ) → take KEPT rest ≡ [] → last_line rest ≡ []
last_line-none [] e = refl
last_line-none (b ∷ bs) e = let bad : b ∷ take LONGEST_LINE bs ≡ [] = e in absurd cc

last_line-one : (rest : List ℕ) → 0 < length (take KEPT rest) → last_line rest ≡ rest ∷ []
last_line-one [] h = absurd (omega arith)
last_line-one (b ∷ bs) h = refl

module _ (start : Point) (script : List ℕ) (replies : List Reply) (now : Point) (progress : Progress)
    (s : Stands start script replies now progress) where
  -- no line is left
  pub lines_none : progress.kept ≡ [] → lines script ≡ s.done
  lines_none e = lines_begun script s.done s.rest s.begins s.unbroken
      ∙ ap (λ ls. s.done ++ ls) (last_line-none s.rest (sym s.kept_is ∙ e)) ∙ append-nil s.done

  pub lines_one : 0 < length progress.kept → lines script ≡ s.done ++ s.rest ∷ []
  lines_one h =
      let kept_is = s.kept_is in
      let more : 0 < length (take KEPT s.rest) = subst (λ k. 0 < length k) s.kept_is h in
      lines_begun script s.done s.rest s.begins s.unbroken ∙ ap (λ ls. s.done ++ ls) (last_line-one s.rest more)

  run_none : progress.kept ≡ [] → Steps start.world (lines script) (replies ++ []) now.world
  run_none e = subst (λ ls. Steps start.world ls (replies ++ []) now.world) (sym (lines_none e))
      (subst (λ rs. Steps start.world s.done rs now.world) (sym (append-nil replies)) s.run)

  noted_none : progress.kept ≡ [] → Explains start now (lines script) (replies ++ [])
  noted_none e = subst (λ ls. Explains start now ls (replies ++ [])) (sym (lines_none e))
      (subst (λ rs. Explains start now s.done rs) (sym (append-nil replies)) s.noted)

  pub Ended-none : (Seen : List Reply → ℕ → ℕ → Type 0) (told : Tally) (output_old output_new : Option (List ℕ)) →
      progress.kept ≡ [] → Keeps output_old output_new → told ≡ progress.tally →
      Seen [] (length (lines script)) (length (lines script))
      → Ended Seen start script replies now output_old output_new told
  Ended-none Seen told output_old output_new e k t seen =
      record {
        more = [];
        run = run_none e;
        written = Appends-kept output_old output_old output_new [] (Appends-nil output_old) k;
        tally_is = t ∙ s.tally_is ∙ ap tally_of (sym (append-nil replies));
        noted = noted_none e;
        seen = seen;
      }

  pub EndsUnflushed-none : (Seen : List Reply → ℕ → ℕ → Type 0) (output_old output_new : Option (List ℕ)) →
      progress.kept ≡ [] → Keeps output_old output_new → Seen [] (length (lines script)) (length (lines script))
      → EndsUnflushed Seen start script replies now output_old output_new
  EndsUnflushed-none Seen output_old output_new e k seen =
      record {
        more = [];
        run = run_none e;
        written = Appends-kept output_old output_old output_new [] (Appends-nil output_old) k;
        noted = noted_none e;
        ended = length (lines script);
        ended_are = inl refl;
        seen = seen;
      }

  texts-one : (reply : Reply) → texts (reply ∷ []) ≡ text_of reply
  texts-one reply = append-nil (text_of reply)

  module _ (new : Point) (h : 0 < length progress.kept) where
    run_one : (reply : Reply) → Step now.world progress.kept reply new.world →
        Steps start.world (lines script) (replies ++ reply ∷ []) new.world
    run_one reply t = subst (λ ls. Steps start.world ls (replies ++ reply ∷ []) new.world) (sym (lines_one h))
        (Steps-line start script replies now progress s reply new t)

    one_line_more : length s.done + 1 ≡ length (lines script)
    one_line_more =
        let long = ap length (lines_one h) in let one = length-append s.done (s.rest ∷ []) in omega (arith, long, one)

    pub EndsInPart-part : (Begun : Type 0) (Seen : List Reply → ℕ → ℕ → Type 0)
        (output_old output_new : Option (List ℕ)) →
        AnsweredInPart Begun now progress new output_old output_new
        → ((reply : Reply) → Begun → Seen (reply ∷ []) (length (lines script)) (length s.done))
        → EndsInPart Seen start script replies new output_old output_new
    EndsInPart-part Begun Seen output_old output_new p count =
        let reply = p.reply in
        let w = p.part in
        let said : Explains start new (s.done ++ s.rest ∷ []) (but_last (replies ++ reply ∷ [])) =
        subst (λ rs. Explains start new (s.done ++ s.rest ∷ []) rs) (sym (but_last-append replies reply))
        (Explains-cut start script replies now progress s reply new p.quiet) in
        record {
          more = reply ∷ [];
          bytes = w.part;
          run = run_one reply p.step;
          written = w.written;
          cut_off = IsCutOff-part [] reply w.part w.rest w.bytes_are w.lacking;
          noted = subst (λ ls. Explains start new ls (but_last (replies ++ reply ∷ []))) (sym (lines_one h)) said;
          ended = length s.done;
          one_more = one_line_more;
          seen = count reply p.begun;
        }

    module _ (after : Progress) (output_old output_mid output_new : Option (List ℕ))
        (a : Answered now progress new after output_old output_mid) (k : Keeps output_mid output_new) where
      noted_one : Explains start new (lines script) (replies ++ a.reply ∷ [])
      noted_one = subst (λ ls. Explains start new ls (replies ++ a.reply ∷ [])) (sym (lines_one h))
          (Explains-line start script replies now progress s a.reply new a.noted)

      written_one : Appends output_old output_new (texts (a.reply ∷ []))
      written_one = subst (Appends output_old output_new) (sym (texts-one a.reply))
          (Appends-kept output_old output_mid output_new (text_of a.reply) a.written k)

      pub Ended-line : (Seen : List Reply → ℕ → ℕ → Type 0) (told : Tally) → told ≡ after.tally →
          Seen (a.reply ∷ []) (length (lines script)) (length (lines script))
          → Ended Seen start script replies new output_old output_new told
      Ended-line Seen told e seen =
          record {
            more = a.reply ∷ [];
            run = run_one a.reply a.step;
            written = written_one;
            tally_is = e ∙ a.tally_is replies s.tally_is;
            noted = noted_one;
            seen = seen;
          }

      pub EndsUnflushed-line : (Seen : List Reply → ℕ → ℕ → Type 0) (ended : ℕ) →
          (ended ≡ length (lines script)) ⊎ (ended + 1 ≡ length (lines script)) →
          Seen (a.reply ∷ []) (length (lines script)) ended
          → EndsUnflushed Seen start script replies new output_old output_new
      EndsUnflushed-line Seen ended ended_are seen =
          record {
            more = a.reply ∷ [];
            run = run_one a.reply a.step;
            written = written_one;
            noted = noted_one;
            ended = ended;
            ended_are = ended_are;
            seen = seen;
          }

    -- a flush failed before the last line, or after it
    pub Ends-unflushed : (Unseen Begun : Type 0) (Seen : List Reply → ℕ → ℕ → Type 0) (may_fail : Type 0)
        (after : Progress) (output_old output_new : Option (List ℕ)) →
        may_fail → AnsweredUnflushed Unseen Begun now progress new after output_old output_new
        → (Unseen → Seen [] (length s.done) (length s.done))
        → ((reply : Reply) → Begun → Seen (reply ∷ []) (length (lines script)) (length s.done))
        → EndsUnflushed Seen start script replies new output_old output_new
        ⊎ (may_fail × EndsBefore Seen start script replies new output_old output_new)
    Ends-unflushed Unseen Begun Seen may_fail after output_old output_new m f none count =
        elim f.flush [
          | inl p ↦ inr (
            m,
            record {
              before = s.done;
              line = s.rest;
              lines_are = sym (lines_one h);
              has_file = has_file-kept start script replies now progress s f.has_file;
              run = subst (λ to. Steps start.world s.done replies to.world) (sym p.0) s.run;
              kept = p.1;
              noted = subst (λ to. Explains start to s.done replies) (sym p.0) s.noted;
              seen = none p.2;
            },
          )
          | inr a ↦ inl (EndsUnflushed-line after output_old output_new output_new a.0 (Keeps-refl output_new) Seen
              (length s.done) (inr one_line_more) (count a.0.reply a.1))
        ]

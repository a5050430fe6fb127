-- Lemmas on the lines that a run refuses, and on a run that stops at the first of these.
use Rattle.std.proofs.Common.{◌≡◌, ◌∙◌, ℕ, ◌+◌, ◌-◌, ◌^◌, ◌<◌, ◌≤◌, Bool, true, false, cond, min, List, [], ◌∷◌, ◌++◌}
use Rattle.std.proofs.Common.{Option, Some, length, count_by, refl, sym, ap, subst, append_assoc, append-nil}
use Rattle.std.proofs.Common.{length-append, arith, inl, inr, drop, take-append-drop}
use Rattle.std.proofs.lemmas.List.Sums.{sum_by-append, sum_by-cons}
use Rattle.s2script.specs.Lines.{whole_lines, but_last}
use Rattle.s2calc.specs.declared.engine.Tally.{Tally}
use Rattle.s2calc.specs.declared.progress.Progress.{Progress}
use Rattle.s2calc.specs.Reads.{ReadsLast}
use Rattle.s2calc.specs.Replies.{Reply, is_refusal, NoneRefused, tally_of}
use Rattle.s2calc.specs.Run.{LastIsFirstRefused, NoneAfterRefused}
use Rattle.s2calc.specs.Working.Stands.{Point, Stands}
use Rattle.s2calc.proofs.LineLemmas.{but_last-append, whole_lines_begun}
use Rattle.s2calc.proofs.RunLemmas.{Steps-lengths}

count_append : (xs ys : List Reply) →
    count_by is_refusal (xs ++ ys) ≡ count_by is_refusal xs + count_by is_refusal ys
count_append xs ys = sum_by-append (λ x. cond (is_refusal x) 1 0) xs ys

-- a tally that counts no refused line
pub none_by_tally : (replies : List Reply) (tally : Tally) → tally ≡ tally_of replies → tally.refused ≡ 0 →
    NoneRefused replies
none_by_tally replies tally is none =
    let refused : min (count_by is_refusal replies) (2 ^ 64 - 1) ≡ 0 = sym (ap (λ (t : Tally). t.refused) is) ∙ none in
    grind (arith, refused)

-- the last reply is the one that the tally counts
refused_last : (before : List Reply) (reply : Reply) (b : Bool) → is_refusal reply ≡ b → NoneRefused before →
    0 < min (count_by is_refusal (before ++ reply ∷ [])) (2 ^ 64 - 1) → is_refusal reply ≡ true
refused_last before reply true e none some = e
refused_last before reply false e none some =
    let last : count_by is_refusal (reply ∷ []) ≡ 0 = sum_by-cons (λ x. cond (is_refusal x) 1 0) reply []
    ∙ ap (λ (b : Bool). cond b 1 0 + count_by is_refusal []) e in
    let both = count_append before (reply ∷ []) in
    let all : count_by is_refusal (before ++ reply ∷ []) ≡ 0 = omega (arith, both, none, last) in
    let no : 0 < min 0 (2 ^ 64 - 1) = subst (λ (n : ℕ). 0 < min n (2 ^ 64 - 1)) all some in
    absurd (omega (arith, no))

pub first_refused : (replies more : List Reply) (reply : Reply) (tally : Tally) →
    tally ≡ tally_of (replies ++ (more ++ reply ∷ [])) → 0 < tally.refused → NoneRefused (replies ++ more) →
    LastIsFirstRefused (replies ++ (more ++ reply ∷ []))
first_refused replies more reply tally is some none =
    let same : replies ++ (more ++ reply ∷ []) ≡ (replies ++ more) ++ reply ∷ [] =
    sym (append_assoc replies more (reply ∷ [])) in
    let counted : tally.refused ≡ min (count_by is_refusal ((replies ++ more) ++ reply ∷ [])) (2 ^ 64 - 1) =
    ap (λ (t : Tally). t.refused) is ∙ ap (λ (rs : List Reply). min (count_by is_refusal rs) (2 ^ 64 - 1)) same in
    record {
      before = replies ++ more;
      last = reply;
      replies_are = same;
      refused = refused_last (replies ++ more) reply (is_refusal reply) refl none
          (subst (λ (n : ℕ). 0 < n) counted some);
      none_before = none;
    }

-- a last reply that refuses is counted
pub not_none : (replies : List Reply) → LastIsFirstRefused replies → NoneRefused replies → ⊥
not_none replies f none =
    let last : count_by is_refusal (f.last ∷ []) ≡ 1 = sum_by-cons (λ x. cond (is_refusal x) 1 0) f.last []
    ∙ ap (λ (b : Bool). cond b 1 0 + count_by is_refusal []) f.refused in
    let all = count_append f.before (f.last ∷ []) in
    let same = ap (λ (rs : List Reply). count_by is_refusal rs) f.replies_are in
    absurd (omega (arith, none, last, all, same))

pub none_before_last : (replies : List Reply) → LastIsFirstRefused replies → NoneRefused (but_last replies)
none_before_last replies f = subst NoneRefused
    (sym (ap but_last f.replies_are ∙ but_last-append f.before f.last)) f.none_before

-- each line that was read whole has its reply
pub whole_replied : (start : Point) (script : List ℕ) (replies : List Reply) (now : Point) (progress : Progress) →
    Stands start script replies now progress → length (whole_lines script) ≡ length replies
whole_replied start script replies now progress s =
    ap length (whole_lines_begun script s.done s.rest s.begins s.unbroken)
    ∙ Steps-lengths start.world now.world s.done replies s.run

-- a run that was cut off inside the bytes of its last read, with none refused before them
pub none_after_chunk : (script chunk : List ℕ) (replies more : List Reply) (reads : List (Option ℕ)) →
    ReadsLast (Some (length chunk)) reads → length (whole_lines script) ≡ length replies → NoneRefused replies →
    NoneRefused (but_last (replies ++ more)) → NoneAfterRefused (script ++ chunk) reads (replies ++ more)
none_after_chunk script chunk replies [] reads last whole none before =
    inl (subst NoneRefused (sym (append-nil replies)) none)
none_after_chunk script chunk replies (m ∷ ms) reads last whole none before =
    let long = length-append replies (m ∷ ms) in
    inr (record {
      earlier = script;
      bytes = chunk;
      script_is = refl;
      read_last = last;
      read_then = omega (arith, whole, long);
      none_before = before;
    })

-- a run that came to the end of its script, with none refused of the lines that end in a newline
pub none_after_end : (script : List ℕ) (replies more : List Reply) (reads : List (Option ℕ)) →
    ReadsLast (Some 0) reads → length (whole_lines script) ≡ length replies → NoneRefused replies →
    length more ≤ 1 → NoneAfterRefused script reads (replies ++ more)
none_after_end script replies [] reads last whole none few =
    inl (subst NoneRefused (sym (append-nil replies)) none)
none_after_end script replies (m ∷ []) reads last whole none few =
    let long = length-append replies (m ∷ []) in
    inr (record {
      earlier = script;
      bytes = [];
      script_is = sym (append-nil script);
      read_last = last;
      read_then = omega (arith, whole, long);
      none_before = subst NoneRefused (sym (but_last-append replies m)) none;
    })
none_after_end script replies (m ∷ n ∷ ms) reads last whole none few = absurd (omega (arith, few))

-- where no reply refuses, none but the last does
pub none_but_last : (replies : List Reply) → NoneRefused replies → NoneRefused (but_last replies)
none_but_last replies none =
    let all = ap (λ (rs : List Reply). count_by is_refusal rs) (take-append-drop (length replies - 1) replies) in
    let parts = count_append (but_last replies) (drop (length replies - 1) replies) in
    omega (arith, none, all, parts)

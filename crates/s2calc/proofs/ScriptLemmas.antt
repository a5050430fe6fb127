-- Two runs of one script have one end.
use Rattle.std.proofs.Common.{◌≡◌, ℕ, List, [], ◌++◌, Option, None, Some, IfSome, sym, ap, ◌∙◌, refl, subst}
use Rattle.std.specs.Io.KnownBytes.{Appends, IsAtEnd}
use Rattle.std.proofs.KnownBytes.{Consumes-whole}
use Rattle.s2script.specs.Lines.{lines}
use Rattle.s2calc.specs.declared.engine.Tally.{Tally}
use Rattle.s2calc.specs.Replies.{Reply, texts, tally_of}
use Rattle.s2calc.specs.Run.{Known, Ran, AllLines, Steps}
use Rattle.s2calc.specs.Laws.{AllPlain}
use Rattle.s2calc.specs.LawsScripts.{SameStart, SameEnd}
use Rattle.s2calc.proofs.OneRun.{one_run_of}
use Rattle.s2calc.proofs.ReadLemmas.{all_out}

-- a script that was read to its end is all that the reader gave
pub whole_steps : (old new : Known) (ran : Ran old new) (script : List ℕ) →
    AllLines ran.script (IsAtEnd new.input.ahead) ran.did
    → old.input.ahead ≡ Some script → Steps old.world (lines script) ran.did.replies new.world
whole_steps old new ran script all e =
    let known = Consumes-whole old.input.ahead new.input.ahead ran.script (λ b. ran.script ≡ b) ran.read.0 all.1 refl in
    let same : ran.script ≡ script = subst (λ o. IfSome o (λ b. ran.script ≡ b)) e known in
    subst (λ ls. Steps old.world ls ran.did.replies new.world) (all.0 ∙ ap lines same) ran.did.steps

-- what a writer that exposes its bytes holds in the end
pub written_is : (old new : Option (List ℕ)) (out bytes : List ℕ) → old ≡ Some out → Appends old new bytes →
    new ≡ Some (out ++ bytes)
written_is None new out bytes e a = cc
written_is (Some xs) None out bytes e a = absurd a
written_is (Some xs) (Some ys) out bytes e a = let same : xs ≡ out = cc in
    ap (λ (x : List ℕ). Some x) (a ∙ ap (λ (x : List ℕ). x ++ bytes) same)

-- runs that began alike, had the same replies and left nothing wrote the same
pub same_written : (old old' new new' : Known) (script out : List ℕ) → SameStart old old' script out →
    (run : Ran old new) (other : Ran old' new') → run.did.left ≡ [] → other.did.left ≡ [] →
    run.did.replies ≡ other.did.replies
    → new.output ≡ new'.output
same_written old old' new new' script out start run other e e' same =
    written_is old.output new.output out (texts run.did.replies) start.output (all_out old new run e)
    ∙ ap (λ (rs : List Reply). Some (out ++ texts rs)) same
    ∙ sym (written_is old'.output new'.output out (texts other.did.replies) start.output' (all_out old' new' other e'))

pub one_end : (old old' new new' : Known) (tally tally' : Tally) (script out : List ℕ) →
    SameStart old old' script out → (run : Ran old new) (other : Ran old' new') →
    AllLines run.script (IsAtEnd new.input.ahead) run.did →
    AllLines other.script (IsAtEnd new'.input.ahead) other.did → tally ≡ tally_of run.did.replies →
    tally' ≡ tally_of other.did.replies → AllPlain run.did.replies → AllPlain other.did.replies
    → SameEnd new new' run.did.replies other.did.replies × (tally ≡ tally')
one_end old old' new new' tally tally' script out start run other all all' t t' p p' =
    let one = one_run_of old.world old'.world new.world new'.world (lines script) run.did.replies other.did.replies
    start.world
    start.tells (whole_steps old new run script all start.input) (whole_steps old' new' other script all'
    start.input') p
    p' in (
      record {
        written = same_written old old' new new' script out start run other all.2 all'.2 one.0;
        replies_are = one.0;
        world = one.1;
      },
      t ∙ ap tally_of one.0 ∙ sym t',
    )

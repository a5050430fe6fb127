-- What an exit status says of a run.
use Rattle.std.proofs.Common.{◌≡◌, ℕ, zero, suc, Bool, List, [], ◌++◌, Option, Result, Ok, Err, refl, sym}
use Rattle.std.proofs.Common.{ap, ◌∙◌, subst, append-nil, replicate, inl, inr}
use Rattle.s2shelf.specs.Shelf.{Files}
use Rattle.s2edit.specs.History.{untouched}
use Rattle.s2script.specs.declared.register.TheConstants.{REGISTERS}
use Rattle.s2calc.specs.declared.engine.Tally.{Tally}
use Rattle.s2calc.specs.declared.fault.RunFault.{RunFault}
use Rattle.s2calc.specs.declared.fault.RunFault.TheVariants.{Input, Output, Memory}
use Rattle.s2calc.specs.Buffered.{Buffered}
use Rattle.s2calc.specs.Calls.{Call}
use Rattle.s2calc.specs.Moments.{Moment}
use Rattle.s2calc.specs.Program.{status_of, status_of_refused}
use Rattle.s2calc.specs.Replies.{texts}
use Rattle.s2calc.specs.Run.{Steps, Did}
use Rattle.s2calc.specs.World.{World, world}
use Rattle.s2calc.proofs.RefusedLemmas.{none_by_tally, not_none}
use Rattle.s2process.specs.Laws.{AnswersAll, AllAnswered}
use Rattle.s2process.specs.Listed.{given, reads, taken, called}
use Rattle.s2process.specs.Process.{RunsListed}

none_of : (n : ℕ) → status_of_refused n ≡ 0 → n ≡ 0
none_of zero e = refl
none_of (suc n) e = absurd cc

-- what was written, if nothing waits and nothing is left
pub all_out : {start now : World} (written waiting : List ℕ) (did : Did start now (written ++ waiting)) →
    waiting ≡ [] → did.left ≡ [] → written ≡ texts did.replies
all_out written waiting did w l =
    sym (did.texts_are ∙ ap (λ left. (written ++ waiting) ++ left) l
    ∙ ap (λ waits. (written ++ waits) ++ []) w ∙ append-nil (written ++ []) ∙ append-nil written)

-- a run that has status 0 came to the end, and nothing was refused
answers_all : {V S : Type 0} (taken : V → List ℕ) (called : V → List Call) (files : S → Files) (stops : Bool)
    (script : List ℕ) (reads : List (Option ℕ)) (start now : World) (moments : List (Moment (Buffered V) S)) (below : V)
    (waiting : List ℕ) (result : Result Tally RunFault)
    → RunsListed taken called files stops script reads start now moments below waiting result → status_of result ≡ 0
    → AnswersAll start now script reads (taken below) (called below)
answers_all taken called files stops script reads start now moments below waiting (Ok tally) runs e =
    let d = runs.did in
    elim runs.ends [
      | inl all ↦ record {
        replies = d.replies;
        steps = subst (λ ls. Steps start ls d.replies now) all.0.0 d.steps;
        none_refused = none_by_tally d.replies tally all.1 (none_of tally.refused e);
        to_the_end = all.0.1;
        all_taken = all_out (taken below) waiting d runs.none_wait all.0.2;
        flushed = all.3;
      }
      | inr h ↦
          let none = none_by_tally d.replies tally h.1.1 (none_of tally.refused e) in
          absurd (not_none d.replies h.1.0.refused none)
    ]
answers_all taken called files stops script reads start now moments below waiting (Err Input) runs e = absurd cc
answers_all taken called files stops script reads start now moments below waiting (Err Output) runs e = absurd cc
answers_all taken called files stops script reads start now moments below waiting (Err Memory) runs e = absurd cc

-- the same of the program
pub all_answered : (R W E F : Type 0) {S : Type 0} (files : S → Files) (opened : S → List ℕ → Type 0) →
    AllAnswered R W E F files opened
all_answered R W E F files opened limit depth path explains stops moments ended (inl (none, unseen)) e =
    let three = none.0.status_is in absurd cc
all_answered R W E F files opened limit depth path explains stops moments ended (inr runs) e = (
  runs.first,
  runs.last,
  runs.now,
  runs.at_path,
  runs.folder_is,
  answers_all taken called files stops (given ended.streams.input) (reads ended.streams.input)
      (world (untouched limit depth (replicate REGISTERS [])) (files runs.first)) (world runs.now (files runs.last))
      moments ended.streams.output runs.waiting runs.result runs.runs (sym runs.status_is ∙ e),
)

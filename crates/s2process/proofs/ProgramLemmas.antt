-- What the program did, put together from what its calls did.
use Rattle.std.specs.Prelude.{Bool, Some, Result, OnOk, OnErr}
use Rattle.std.proofs.Common.{◌≡◌, ℕ, List, sym, ap, ◌∙◌, subst}
use Rattle.s2calc.specs.declared.fault.RunFault.{RunFault}
use Rattle.s2calc.specs.Calls as calls
use Rattle.s2calc.specs.Program.{ShowsReply}
use Rattle.s2calc.specs.Replies.{Reply}
use Rattle.s2process.specs.declared.ended.Ended.{Ended}
use Rattle.s2process.specs.declared.folders.Opening.{Opening}
use Rattle.s2process.specs.declared.streams.Streams.{Streams}
use Rattle.s2process.specs.declared.writer.ListedWriter.{ListedWriter}
use Rattle.s2process.specs.Listed.{calls_of_reader, calls_of, taken, called}
use Rattle.s2process.specs.Program.{Shows, ShowsAnswer}
use Rattle.s2process.specs.Streams.{AreNew}
use Rattle.s2process.specs.Working.Answers.{EndsAnswer}
use Rattle.s2process.proofs.ErrorLemmas.{given_alone}
use Rattle.s2process.proofs.ShownLemmas.{shows}

-- an answer over streams of which nothing was called, which left these
pub answers : {R W E F S : Type 0} {ended : Ended R W E F S} {MayBe : Reply → Type 0} {said : List ℕ}
    {after : Streams R W E} {folder : Opening F S} {result : Result Bool RunFault} (before : Streams R W E) →
    AreNew before → EndsAnswer result said after folder ended → after.input ≡ before.input
    → after.errors ≡ before.errors → (reply : Reply) → MayBe reply
    → ShowsReply reply (Some (taken before.output)) (Some (taken after.output)) result
    → OnOk result (calls.LastFlushed ⊥ (Some (called before.output)) (Some (called after.output)))
    → OnErr result (calls.LastFailed ⊥ (Some (called before.output)) (Some (called after.output)))
    → ShowsAnswer ended MayBe said
answers {W = W} {ended = ended} {after = after} {result = result} before new ends input errors reply may shown flushed
    failed = record {
      reply = reply;
      may_be = may;
      result = result;
      unread = ap calls_of_reader (ends.input_is ∙ input) ∙ new.unread;
      shown = subst (λ (o : ListedWriter W). Shows reply (taken o) (called o) result) (sym ends.output_is)
          (shows reply before.output after.output result new.unwritten shown flushed failed);
      text = ends.text;
      text_is = ends.text_is;
      tells = given_alone after.errors ended.streams.errors ends.text (ap calls_of errors ∙ new.untold) ends.tells;
      status_is = ends.status_is;
    }

-- What an answer leaves, by the calls of its writer.
use Rattle.std.proofs.Common.{◌≡◌, ℕ, List, [], ◌++◌, Some, Result, Ok, Err}
use Rattle.std.specs.Prelude.{Bool, not, IfOk, IfErr, OnOk, OnErr}
use Rattle.std.proofs.Common.{sym, ap, ◌∙◌, inl, inr, append-nil}
use Rattle.std.specs.Io.KnownBytes.{Appends}
use Rattle.s2calc.specs.declared.fault.RunFault.{RunFault}
use Rattle.s2calc.specs.declared.fault.RunFault.TheVariants.{Output}
use Rattle.s2calc.specs.Output.{AppendsUnflushed}
use Rattle.s2calc.specs.Calls as calls
use Rattle.s2calc.specs.Replies.{Reply, text_of, is_refusal}
use Rattle.s2calc.specs.Program.{ShowsReply}
use Rattle.s2calc.proofs.CallLemmas.{last_flushed_may, last_failed_may}
use Rattle.s2process.specs.declared.writer.ListedWriter.{ListedWriter}
use Rattle.s2process.specs.StreamCalls.{taken_in, called_in}
use Rattle.s2process.specs.Ends.{LastFlushed, LastFailed}
use Rattle.s2process.specs.Listed.{calls_of, taken, called}
use Rattle.s2process.specs.Program.{Shows}
use Rattle.s2process.proofs.ProcessLemmas.{of_all}

-- the parts of what is known of an answer, which not every function has in one
pub reply_shown : (reply : Reply) (old new : List ℕ) (result : Result Bool RunFault) →
    OnOk result (Appends (Some old) (Some new) (text_of reply))
    → IfOk result (λ passed. passed ≡ not (is_refusal reply))
    → OnErr result (AppendsUnflushed (Some old) (Some new) (text_of reply)) → IfErr result (λ fault. fault ≡ Output)
    → ShowsReply reply (Some old) (Some new) result
reply_shown reply old new (Ok passed) all named part fault = (named, all)
reply_shown reply old new (Err f) all named part fault = (fault, part)

-- a writer that had taken nothing took a beginning of the text
lacking : (old new text : List ℕ) → old ≡ [] → AppendsUnflushed (Some old) (Some new) text →
    (rest : List ℕ) × (text ≡ new ++ rest)
lacking old new text none (inl part) = (
  part.rest,
  part.bytes_are ∙ ap (λ xs. xs ++ part.rest) (sym (part.written ∙ ap (λ xs. xs ++ part.part) none)),
)
lacking old new text none (inr all) = ([], sym (all ∙ ap (λ xs. xs ++ text) none) ∙ sym (append-nil new))

-- over a writer that was not called
pub shows : {W : Type 0} (reply : Reply) (old new : ListedWriter W) (result : Result Bool RunFault) →
    calls_of old ≡ [] → ShowsReply reply (Some (taken old)) (Some (taken new)) result
    → OnOk result (calls.LastFlushed ⊥ (Some (called old)) (Some (called new)))
    → OnErr result (calls.LastFailed ⊥ (Some (called old)) (Some (called new)))
    → Shows reply (taken new) (called new) result
shows reply old new (Ok passed) none shown flushed failed = (
  shown.0,
  shown.1 ∙ ap (λ xs. xs ++ text_of reply) (ap taken_in none),
  of_all (called old) (called new) LastFlushed (ap called_in none)
      (last_flushed_may (Unit {0}) (Some (called old)) (Some (called new)) flushed),
)
shows reply old new (Err fault) none shown flushed failed = (
  shown.0,
  lacking (taken old) (taken new) (text_of reply) (ap taken_in none) shown.1,
  of_all (called old) (called new) LastFailed (ap called_in none)
      (last_failed_may (Unit {0}) (Some (called old)) (Some (called new)) failed),
)

-- What carrying out one line does.
use Rattle.std.specs.Prelude.{◌≡◌, ℕ, List, Option, Result, MatchResult}
use Rattle.std.specs.Io.KnownBytes.{Appends}
use Rattle.s2script.specs.declared.command.Parsed.{Parsed}
use Rattle.s2calc.specs.World.{World}
use Rattle.s2calc.specs.declared.execute.Outcome.{Outcome}
use Rattle.s2calc.specs.declared.execute.Outcome.TheVariants.{Silent as NoAnswer, Answered, Refused}
use Rattle.s2calc.specs.declared.fault.RunFault.{RunFault}
use Rattle.s2calc.specs.declared.fault.RunFault.TheVariants.{Output}
use Rattle.s2calc.specs.Output.{AppendsPart}
use Rattle.s2calc.specs.Replies.{Reply, Silent, Says, Refuses, text_of}
use Rattle.s2calc.specs.Step.{StepBy}

-- how a reply counts in the tally
abbrev pub outcome_of : Reply → Outcome
outcome_of Silent = NoAnswer
outcome_of (Says text) = Answered
outcome_of (Refuses refusal) = Refused refusal

-- the outcome is that of the reply
abbrev pub IsOutcome : Outcome → Reply → Type 0
IsOutcome outcome reply = outcome ≡ outcome_of reply

-- the reply was written, or the writer failed after a part of it
abbrev pub WritesReply : Option (List ℕ) → Option (List ℕ) → Reply → Result Outcome RunFault → Type 0
WritesReply old new reply result =
    MatchResult result (λ outcome. IsOutcome outcome reply × Appends old new (text_of reply))
    (λ fault. (fault ≡ Output) × AppendsPart old new (text_of reply))

-- what a line says was carried out, and its reply was written as far as the writer took it
pub record Executes (old : World) (said : Parsed) (new : World) (output_old output_new : Option (List ℕ))
    (result : Result Outcome RunFault) : Type 0 where
  pub reply : Reply
  pub step : StepBy said old reply new
  pub writes : WritesReply output_old output_new reply result

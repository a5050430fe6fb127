use Rattle.std.proofs.KnownBytes.{Keeps-refl}
use Rattle.s2calc.proofs.CallLemmas.{none_failed_none}
use Rattle.s2calc.proofs.flushing.AtTheEndFlushing.in_between.Goals as goal

pub returns : goal.returns
returns g c = record {
  settles = record {
    kept = Keeps-refl _;
    none_failed = none_failed_none _ _;
    flushed = λ h m. absurd m;
    sent = λ h. tt;
  };
}

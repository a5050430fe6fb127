-- What only private contracts need, beside Program.antt, which has what public contracts need.
use Rattle.std.specs.Prelude.{◌≡◌, ◌≢◌, ◌⊎◌}
use Rattle.s2calc.specs.declared.task.Stop.{Stop}
use Rattle.s2calc.specs.declared.task.Stop.TheVariants.{Help, Usage, Memory as NoMemory}
use Rattle.clap.specs.declared.error.kind.ErrorKind.{ErrorKind}
use Rattle.clap.specs.declared.error.kind.ErrorKind.TheVariants.{DisplayHelp, DisplayVersion}

-- what clap's error of this kind stops the program with, where there is memory for its text
abbrev pub IsStopOf : ErrorKind → Stop → Type 0
IsStopOf kind (Help text) = (kind ≡ DisplayHelp) ⊎ (kind ≡ DisplayVersion)
IsStopOf kind (Usage text) = (kind ≢ DisplayHelp) × (kind ≢ DisplayVersion)
IsStopOf kind NoMemory = Unit {0}

use Rattle.std.proofs.Common.{[], refl, map, string_bytes}
use Rattle.s2process.specs.Errors.{misnamed_lines}
use Rattle.s2process.proofs.ErrorLemmas.{nothing_given, said_or_not}
use Rattle.s2process.proofs.errors.tell_of_refusal.Goals as goal

pub returns-then-passed : goal.returns-then-passed
returns-then-passed g c = rw c.if-passed.true ([], refl, nothing_given c.args.errors.now)

pub returns : goal.returns
returns g c = rw c.if-passed.false (said_or_not (misnamed_lines (map string_bytes c.args.words.now))
    c.args.errors.now c.tell_misnamed.new.errors c.tell_misnamed.ensures)

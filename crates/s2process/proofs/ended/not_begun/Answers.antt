use Rattle.s2calc.specs.declared.fault.RunFault.TheVariants.{Memory}
use Rattle.s2process.specs.Errors.{fault_line}
use Rattle.s2process.proofs.ErrorLemmas.{given_alone}
use Rattle.s2process.proofs.ended.not_begun.Goals as goal

pub returns-clause-begun : goal.returns-clause-begun
returns-clause-begun g c = record {
  unread = c.requires.unread;
  unwritten = c.requires.unwritten;
  tells = given_alone c.args.streams.errors c.end_run-status.new.errors (fault_line Memory) c.requires.untold
      c.end_run-status.ensures.tells;
  status_is = c.end_run-status.ensures.status;
}

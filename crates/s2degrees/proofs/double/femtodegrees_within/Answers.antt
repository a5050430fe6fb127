use Rattle.s2degrees.proofs.Doubles.{none_if_fault}
use Rattle.s2degrees.proofs.double.femtodegrees_within.Goals as goal

pub returns-in_default-clause-none : goal.returns-in_default-clause-none
returns-in_default-clause-none c =
    none_if_fault c.args.degrees c.in_default.field-0 c.args.most c.requires c.in_default.ensures.fault

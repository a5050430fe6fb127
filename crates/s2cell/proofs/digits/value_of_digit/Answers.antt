use Rattle.std.proofs.Common.{arith}
use Rattle.s2cell.proofs.DigitTable.{value_in_table}
use Rattle.s2cell.proofs.digits.value_of_digit.Goals as goal

pub returns : goal.returns
returns c = value_in_table c.args.byte (omega arith)

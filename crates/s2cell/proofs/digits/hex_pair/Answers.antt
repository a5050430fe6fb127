use Rattle.std.proofs.Common.{arith}
use Rattle.s2cell.proofs.DigitTable.{high_in_table, low_in_table}
use Rattle.s2cell.proofs.digits.hex_pair.Goals as goal

pub returns-clause-high : goal.returns-clause-high
returns-clause-high c = high_in_table c.args.byte (omega arith)

pub returns-clause-low : goal.returns-clause-low
returns-clause-low c = low_in_table c.args.byte (omega arith)

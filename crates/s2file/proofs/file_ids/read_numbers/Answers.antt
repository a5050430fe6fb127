use Rattle.std.proofs.Common.{arith}
use Rattle.s2file.proofs.Numbers.{read_all}
use Rattle.s2file.proofs.file_ids.read_numbers.Goals as goal

pub returns : goal.returns
returns c = read_all c.args.bytes.now c.read_u64_into.new.dst (omega arith) c.read_u64_into.ensures

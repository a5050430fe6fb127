use Rattle.std.proofs.Common.{sym}
use Rattle.s2file.proofs.Numbers.{length-numbers}
use Rattle.s2file.proofs.file_ids.FileIdsListed.len.Goals as goal

pub returns : goal.returns
returns c = sym (length-numbers c.args.self.now.bytes.now)

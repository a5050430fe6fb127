use Rattle.s2file.proofs.Texts.{same_bytes}
use Rattle.s2file.proofs.laws.one_text.Goals as goal

pub returns : goal.returns
returns c = same_bytes

use Rattle.s2process.proofs.StoredLemmas.{gives_back}
use Rattle.s2process.proofs.laws.files_give_back.Goals as goal

pub returns : goal.returns
returns g c = gives_back _ _ _ _ _ _

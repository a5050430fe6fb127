use Rattle.s2file.proofs.Texts.{ids_of_text, text_framed}
use Rattle.s2union_c.proofs.laws.file_of_list.Goals as goal

pub returns : goal.returns
returns c = λ ids fits fit. (text_framed ids fits, ids_of_text ids fit)

use Rattle.s2process.proofs.ErrorLemmas.{put_whole}
use Rattle.s2process.proofs.errors.misnamed_lines.Goals as goal

pub returns-else-lines : goal.returns-else-lines
returns-else-lines c = put_whole _ _ _ c.new.ensures.items c.put_misnamed_lines.ensures c.if-lines.false

use Rattle.std.proofs.Common.{sym}
use Rattle.s2cell.proofs.Tokens.{length-token_of}
use Rattle.s2cell.proofs.cell.CellId.token_len.Goals as goal

pub returns : goal.returns
returns c = rw (← c.self.view_is) (sym (length-token_of c.self.inside.id))

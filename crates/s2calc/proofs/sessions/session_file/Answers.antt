use Rattle.s2session.proofs.Spelling.{text_told}
use Rattle.s2calc.proofs.sessions.session_file.Goals as goal

pub returns : goal.returns
returns c = text_told c.encode_parts.result _ c.args.editor.now c.sides-sides.ensures c.encode_parts.ensures

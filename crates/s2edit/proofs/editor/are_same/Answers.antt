use Rattle.std.specs.Cmp.Lexicographic.{told_text}
use Rattle.s2edit.proofs.editor.are_same.Goals as goal

pub returns : goal.returns
returns c = told_text c.args.cells.now c.args.others.now c.eq.result c.eq.ensures

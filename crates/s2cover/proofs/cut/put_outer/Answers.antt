use Rattle.s2cover.proofs.OwnCells.{outer_puts}
use Rattle.s2cover.proofs.cut.put_outer.Goals as goal

pub returns-clause-made : goal.returns-clause-made
returns-clause-made g c local =
    outer_puts c.args.level c.args.most (g.C.Listed.ids c.args.cells.now) c.args.out.now c.put_cut.new.out
    c.put_cut.result c.requires.level local (c.put_cut.ensures.made local)

use Rattle.s2cover.proofs.OwnCells.{inner_puts}
use Rattle.s2cover.proofs.cut.put_inner.Goals as goal

pub returns-clause-made : goal.returns-clause-made
returns-clause-made g c local =
    inner_puts c.args.level c.args.most (g.C.Listed.ids c.args.cells.now) c.args.out.now c.put_kept.new.out
    c.put_kept.result c.requires.level local (c.put_kept.ensures.made local)

use Rattle.s2edit.proofs.Completing.{run_found}
use Rattle.s2edit.proofs.splice.run_in.Goals as goal

pub returns-clause-run : goal.returns-clause-run
returns-clause-run c =
    run_found c.args.list.now c.args.cell c.args.from c.find_from-to.result c.end_leaf.result c.requires.local
    c.end_leaf.ensures.own c.end_leaf.ensures.value c.requires.place c.find_from-to.ensures.within
    c.find_from-to.ensures.ended c.find_from-to.ensures.next c.requires.unheld

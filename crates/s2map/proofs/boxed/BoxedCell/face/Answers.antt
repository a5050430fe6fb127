use Rattle.s2map.proofs.boxed.BoxedCell.face.Goals as goal

pub returns-clause-boxed : goal.returns-clause-boxed
returns-clause-boxed c = record {
  box = c.requires.whole;
  of = λ n p covered proper holds. c.requires.all p proper;
}

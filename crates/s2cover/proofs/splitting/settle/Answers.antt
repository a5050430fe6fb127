use Rattle.s2cover.proofs.splitting.settle.Goals as goal

pub returns-in-Outer-clause-front : goal.returns-in-Outer-clause-front
returns-in-Outer-clause-front g c = rw c.in-Outer.is c.settle_outer.ensures.front

pub returns-in-Inner-clause-front : goal.returns-in-Inner-clause-front
returns-in-Inner-clause-front g c = rw c.in-Inner.is c.settle_inner.ensures.front

use Rattle.std.proofs.Common.{arith}
use Rattle.s2map.proofs.Sides.{side_down, side_up}
use Rattle.s2map.proofs.cells.side_of.Goals as goal

pub returns-then-first : goal.returns-then-first
returns-then-first c = record {
  span = record { low = c.far.ensures.small; high = c.far-then-first.ensures.small };
  all = λ x u w from to a b. side_up (record { low = c.far.result; high = c.far-then-first.result }) c.args.i
      c.args.size
      x u w from to a b (omega arith) (omega (arith, c.far.ensures.value))
      (omega (arith, c.far-then-first.ensures.value));
}

pub returns-then-last : goal.returns-then-last
returns-then-last c = record {
  span = record { low = c.far-then-last.ensures.small; high = c.far-then-last-2.ensures.small };
  all = λ x u w from to a b. side_down (record { low = c.far-then-last.result; high = c.far-then-last-2.result })
      c.args.i c.args.size x u w from to a b (omega arith) (omega (arith, c.far-then-last.ensures.value))
      (omega (arith, c.far-then-last-2.ensures.value));
}

use Rattle.std.proofs.Common.{int_lt}
use Rattle.s2map.proofs.Sifting.{over_no, over_yes}
use Rattle.s2map.specs.Map.{is_west}
use Rattle.s2map.proofs.near.passes_over.Goals as goal

pub returns-then-is_west : goal.returns-then-is_west
returns-then-is_west c =
    over_yes c.is_west.result c.is_west-2.result (is_west c.args.p c.args.c) (is_west c.args.q c.args.c)
    c.is_south.result (int_lt c.args.p.latitude c.args.c.latitude) c.is_west.ensures c.is_west-2.ensures
    c.is_south.ensures c.if-is_west.true

pub returns-else-is_west : goal.returns-else-is_west
returns-else-is_west c =
    over_no c.is_west.result c.is_west-2.result (is_west c.args.p c.args.c) (is_west c.args.q c.args.c)
    (int_lt c.args.p.latitude c.args.c.latitude) c.is_west.ensures c.is_west-2.ensures c.if-is_west.false

use Rattle.std.proofs.Common.{length, ap, arith}
use Rattle.s2edit.proofs.Sizes.{length_without, length_applied}
use Rattle.s2edit.proofs.restore.fitting.make.Goals as goal

pub overflow_sub-len : goal.overflow_sub-len
overflow_sub-len c = omega (
  arith,
  length_without c.args.out.now c.args.put.now c.args.list.now.cells c.cells.ensures.local c.requires,
  ap length c.cells.ensures.value,
)

pub apply_into-requires-clause-room : goal.apply_into-requires-clause-room
apply_into-requires-clause-room c = omega (
  arith,
  length_without c.args.out.now c.args.put.now c.args.list.now.cells c.cells.ensures.local c.requires,
  length_applied c.args.out.now c.args.put.now c.args.list.now.cells c.cells.ensures.local c.requires,
  ap length c.cells.ensures.value,
  c.in_ok-give_room.ensures,
)

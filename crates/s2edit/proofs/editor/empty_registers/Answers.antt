use Rattle.s2edit.proofs.Tables.{lists_of-push, AllRoomy-push}
use Rattle.s2edit.proofs.editor.empty_registers.Goals as goal

pub loop-i-preserved : goal.loop-i-preserved
loop-i-preserved c = rw c.in_ok-push.ensures.items (record {
  empty = lists_of-push c.loop-i.registers.items c.loop-i._i c.in_ok-with_room.field-0 c.loop-i.invariant.empty
      c.in_ok-with_room.ensures.cells;
  roomy = AllRoomy-push c.args.limit c.loop-i.registers.items c.in_ok-with_room.field-0 c.loop-i.invariant.roomy
      c.in_ok-with_room.ensures.room;
})

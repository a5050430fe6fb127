use Rattle.std.proofs.Common.{map, arith}
use Rattle.s2edit.specs.Content.{diff_of}
use Rattle.s2edit.proofs.Saving.{good_front, fill_start, fill_step, fill_end}
use Rattle.s2edit.proofs.session.fill.Goals as goal

pub loop-change-init : goal.loop-change-init
loop-change-init c = fill_start c.args.moves.items c.clear.new.self c.args.ring.now.capacity c.requires.each
    (omega (arith, c.requires.room, c.args.moves.ok)) c.clear.ensures

pub of_move-requires : goal.of_move-requires
of_move-requires c = (good_front c.loop-change.moves.items c.pop.new.self.items c.in-Some.change
    c.in-Some.ensures.items c.loop-change.invariant.each).1

pub loop-change-preserved : goal.loop-change-preserved
loop-change-preserved c =
    fill_step c.loop-change.moves.items c.pop.new.self.items c.in-Some.change c.loop-change.ring
    c.push_front.new.self c.of_move.result (map diff_of c.args.moves.items) c.args.ring.now.capacity
    c.loop-change.invariant c.in-Some.ensures.items c.of_move.ensures c.push_front.ensures.items

pub loop-change-preserved-in-Some : goal.loop-change-preserved-in-Some
loop-change-preserved-in-Some c =
    fill_step c.loop-change.moves.items c.pop.new.self.items c.in-Some.change c.loop-change.ring
    c.push_front.new.self c.of_move.result (map diff_of c.args.moves.items) c.args.ring.now.capacity
    c.loop-change.invariant c.in-Some.ensures.items c.of_move.ensures c.push_front.ensures.items

pub returns : goal.returns
returns c =
    fill_end c.loop-change.moves.items c.loop-change.ring (map diff_of c.args.moves.items)
    c.args.ring.now.capacity c.loop-change.invariant
    (omega (arith, c.in_default.ensures.cases.0, c.loop-change.moves.ok))

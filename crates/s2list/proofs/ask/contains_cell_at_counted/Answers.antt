use Rattle.std.proofs.Common.{rules, ◌<◌, length, get_or, arith}
use Rattle.std.proofs.lemmas.Bool.{false≢true}
use Rattle.s2cell.specs.Cell.{IsCell, level_of, place_of}
use Rattle.s2cell.proofs.Leaves.{inside_from_within, within_from_inside}
use Rattle.s2list.proofs.Asking.{held_there}
use Rattle.s2list.proofs.ask.contains_cell_at_counted.Goals as goal

pub returns-then-at-len-clause-answer : goal.returns-then-at-len-clause-answer
returns-then-at-len-clause-answer g c local place =
    let own : IsCell c.args.cell = search rules in
    let held = held_there (g.C.Listed.ids c.args.cells.now) c.args.at c.args.cell local own place.ended place.next in (
      λ e. absurd (false≢true e),
      λ w. let there = (held.1 w).0 in absurd (omega arith),
    )

pub returns-clause-answer : goal.returns-clause-answer
returns-clause-answer g c local place =
    let u = g.C.Listed.ids c.args.cells.now in
    let h : c.args.at < length u = omega arith in
    let x : IsCell (get_or u c.args.at 0) = local.cells c.args.at 0 h in
    let own : IsCell c.args.cell = (level_of c.args.cell, place_of c.args.cell, c.id.ensures.cell) in
    let is = rw (c.look.ensures.id, c.id.ensures.value) at c.lies_in.ensures in
    let test = is x own in
    let held = held_there u c.args.at c.args.cell local own place.ended place.next in (
      λ e. let w = test.0 e in
          held.0 (h, inside_from_within c.args.cell (get_or u c.args.at 0) (record { low = w.0; high = w.1 })),
      λ lies.
          let w = within_from_inside c.args.cell (get_or u c.args.at 0) own (held.1 lies).1 in test.1 (w.low, w.high),
    )

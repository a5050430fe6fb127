use Rattle.std.proofs.Common.{refl}
use Rattle.s2edit.proofs.PartChange.{gives, all_inside}
use Rattle.s2edit.proofs.named.change_of_part.Goals as goal

pub returns-then-fits : goal.returns-then-fits
returns-then-fits c S leaves =
    let u = c.args.union.now.cells in
    let p = c.args.part.now.cells in
    let w = c.args.new.now.cells in
    let fits = c.if-fits.ensures.answer.0 refl in
    gives u p w c.cells.ensures.local
    (all_inside u p w c.args.register c.in_ok-change.change c.requires c.in_ok-change.ensures fits)
    c.args.register c.in_ok-change.change S c.in_ok-change.ensures fits leaves

use Rattle.std.proofs.Common.{◌+◌, ◌*◌, ◌%◌, ◌^◌, arith, refl}
use Rattle.s2cell.proofs.CellLemmas.{cell_leaves}
use Rattle.s2cell.proofs.Tiles.{tile_of}
use Rattle.s2cell.proofs.LargestTile.{largest_tile}
use Rattle.s2cell.proofs.cell.CellId.tile.Goals as goal

pub overflow_add-result : goal.overflow_add-result
overflow_add-result c =
    let k = c.min-steps.result in
    let t = tile_of c.args.first c.args.end k _ c.requires.some c.requires.within (omega arith) (omega arith)
    (omega arith) refl in
    let l = cell_leaves (2 * c.args.first + 1 * 2 ^ (2 * k) % 2 ^ 64) t.cell in
    let m = l.middle in
    let w = l.within in
    let s = l.some in
    omega arith

pub invariant_of-result : goal.invariant_of-result
invariant_of-result c = (tile_of c.args.first c.args.end c.min-steps.result _ c.requires.some c.requires.within
    (omega arith) (omega arith) (omega arith) refl).cell

pub returns-clause-first : goal.returns-clause-first
returns-clause-first c = (tile_of c.args.first c.args.end c.min-steps.result _ c.requires.some c.requires.within
    (omega arith) (omega arith) (omega arith) refl).first

pub returns-clause-end : goal.returns-clause-end
returns-clause-end c = (tile_of c.args.first c.args.end c.min-steps.result _ c.requires.some c.requires.within
    (omega arith) (omega arith) (omega arith) refl).end

pub returns-clause-cell : goal.returns-clause-cell
returns-clause-cell c = (tile_of c.args.first c.args.end c.min-steps.result _ c.requires.some c.requires.within
    (omega arith) (omega arith) (omega arith) refl).cell

pub returns-clause-largest : goal.returns-clause-largest
returns-clause-largest c q cq fq eq =
    largest_tile c.args.first c.args.end c.min-steps.result _ c.requires.some c.requires.within (omega arith)
    refl cq fq eq

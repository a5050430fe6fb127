use Rattle.std.proofs.Common.{◌≡◌, ◌-◌, arith, length, take, refl, sym, ◌∙◌, get_or}
use Rattle.std.proofs.lemmas.Bool.{false≢true}
use Rattle.std.proofs.lemmas.List.{get_or-take, length-take-le, take-take}
use Rattle.s2cell.specs.Cell.{IsCell, level_of, place_of}
use Rattle.s2cell.proofs.Leaves.{within_from_inside}
use Rattle.s2list.proofs.Packing.{front_at, merges_more, packed_take}
use Rattle.s2list.proofs.Placing.{leaves_held, starts_kept}
use Rattle.s2list.proofs.appending.new_end.Goals as goal
use Rattle.s2list.proofs.appending.new_end.Goals.{else-n-gt0-via-then-n-gt0+else-lies_in}
use Rattle.s2list.proofs.appending.new_end.Goals.{else-n-gt0-via-else-n-gt0}

pub returns-then-lies_in-clause-cases : goal.returns-then-lies_in-clause-cases
returns-then-lies_in-clause-cases g c =
    let ids = g.C.Listed.ids c.args.list.now in
    let n = c.args.n in
    let u = take n ids in
    let len : length u ≡ n = length-take-le n ids c.requires.within in
    let k = n - 1 in
    let own : IsCell (get_or u k 0) = c.requires.packed.cells k 0 (omega arith) in
    let read = front_at ids n k k _ (omega arith) refl c.id.ensures in
    let is = rw (read, c.id-id.ensures.value) at c.lies_in.ensures in
    let cell : IsCell c.args.cell = (level_of c.args.cell, place_of c.args.cell, c.id-id.ensures.cell) in
    let held = (is own cell).0 c.if-lies_in.true in
    leaves_held u k (omega arith) (record { low = held.0; high = held.1 })

pub outside-kept-requires-clause-not_held : goal.outside-kept-requires-clause-not_held
outside-kept-requires-clause-not_held g c =
    let ids = g.C.Listed.ids c.args.list.now in
    let n = c.args.n in
    let u = take n ids in
    let len : length u ≡ n = length-take-le n ids c.requires.within in
    let k = n - 1 in
    let cell : IsCell c.args.cell = (level_of c.args.cell, place_of c.args.cell, c.id-id.ensures.cell) in
    elim c.else-n-gt0.branch [
      | else-n-gt0-via-then-n-gt0+else-lies_in w ↦ λ h i.
          let at : get_or u k 0 ≡ get_or ids k 0 = get_or-take n ids k 0 (omega arith) in
          let own : IsCell (get_or ids k 0) = rw at at (c.requires.packed.cells k 0 (omega arith)) in
          let is = rw (w.id.ensures, c.id-id.ensures.value) at w.lies_in.ensures in
          let held = within_from_inside c.args.cell (get_or ids k 0) cell i in
          false≢true (sym w.if-lies_in.false ∙ (is own cell).1 (held.low, held.high))
      | else-n-gt0-via-else-n-gt0 w ↦ λ h i. absurd (omega arith)
    ]

pub merge_families-kept-requires-clause-packed : goal.merge_families-kept-requires-clause-packed
merge_families-kept-requires-clause-packed g c =
    let ids = g.C.Listed.ids c.args.list.now in
    let n = c.args.n in
    let k = c.outside-kept.result in
    let w = c.outside-kept.ensures.within in
    let len : length (take n ids) ≡ n = length-take-le n ids c.requires.within in
    rw (take-take k n ids w) at (packed_take k (take n ids) (omega arith) c.requires.packed)

pub returns-clause-cases : goal.returns-clause-cases
returns-clause-cases g c =
    merges_more (g.C.Listed.ids c.args.list.now) c.args.n c.outside-kept.result c.requires.within
    c.outside-kept.ensures.within c.merge_families-kept.ensures c.outside-kept.ensures.leaves

pub returns-clause-starts : goal.returns-clause-starts
returns-clause-starts g c =
    let u = take c.args.n (g.C.Listed.ids c.args.list.now) in
    let i : IsCell c.args.cell = (level_of c.args.cell, place_of c.args.cell, c.id-id.ensures.cell) in
    starts_kept u c.merge_families-kept.result.0 c.merge_families-kept.result.1 c.args.cell
    c.requires.starts i c.merge_families-kept.ensures.start

use Rattle.std.proofs.Common.{◌≡◌, ◌∙◌, length, take, subst, sym, ap, arith, rules}
use Rattle.std.specs.Vec.{vec_len}
use Rattle.std.proofs.lemmas.List.{take_all}
use Rattle.s2list.specs.Union.{IsLocal}
use Rattle.s2cover.specs.Cut.{cells_kept, reaches}
use Rattle.s2cover.proofs.Levelling.{filter_local, kept_front}
use Rattle.s2cover.proofs.cut_to_level.union_kept.Goals as goal

pub from_normalized-requires : goal.from_normalized-requires
from_normalized-requires g c =
    let u = g.C.Listed.ids c.args.cells.now in
    let k = c.args.level in
    let n = c.len-in-loop-at.ensures in
    let all : take c.next_kept-at.result u ≡ u = take_all c.next_kept-at.result u (omega (arith, c.if-at-len.true)) in
    let is : c.loop-at.list.items ≡ cells_kept k u = c.loop-at.invariant.so_far
    ∙ sym (c.next_kept-at.ensures.passed c.requires.local) ∙ ap (cells_kept k) all in
    subst IsLocal (sym is) (filter_local (reaches k) u c.requires.local)

pub cell_of-requires : goal.cell_of-requires
cell_of-requires g c =
    let n = c.len-in-loop-at.ensures in
    let within = c.next_kept-at.ensures.within in
    rw c.id.ensures (c.requires.local.cells c.next_kept-at.result 0 (omega (arith, c.if-at-len.false)))

pub returns-clause-many : goal.returns-clause-many
returns-clause-many g c =
    let front = kept_front c.args.level c.loop-at.i (g.C.Listed.ids c.args.cells.now) in
    let e = ap length c.loop-at.invariant.so_far in
    let same : vec_len c.loop-at.list ≡ length c.loop-at.list.items = search rules in
    let n = c.len.ensures in
    omega (arith, c.loop-at-test.false)

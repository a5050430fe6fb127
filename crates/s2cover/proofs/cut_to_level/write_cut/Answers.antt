use Rattle.std.proofs.Common.{◌∙◌, inl, inr, refl, ap, arith}
use Rattle.std.proofs.lemmas.List.{get_or-map, length-map}
use Rattle.s2cell.specs.Cell.{first_leaf}
use Rattle.s2list.proofs.Checking.{packed_from_local}
use Rattle.s2cover.specs.Working.Cut.{cut_at}
use Rattle.s2cover.proofs.Levelling.{begins_cut}
use Rattle.s2cover.proofs.Rows.{row_written, rows_done, rows_none}
use Rattle.s2cover.proofs.cut_to_level.write_cut.Goals as goal

pub loop-i-init : goal.loop-i-init
loop-i-init g c = record {
  within = omega arith;
  place = refl;
  rest = λ h. h;
  so_far = λ local. rows_none _ (λ list. g.W.Output.holds list c.args.out.now c.args.out.now 0) c.requires.empty;
  first = c.first_cut-first.ensures;
}

pub loop-i-preserved : goal.loop-i-preserved
loop-i-preserved g c =
    let u = g.C.Listed.ids c.args.cells.now in
    let k = c.args.level in
    let len = length-map u (cut_at k) in
    let r = c.row_at-row.ensures in
    let n = c.row_at-row.result.next in
    record {
      within = r.within;
      place = c.put_gap.ensures.place ∙ c.loop-i.invariant.place;
      rest = λ h. c.in_ok-n.ensures.rest c.args.out.now (c.loop-i.invariant.rest h);
      so_far = λ local. row_written n c.row_at-row.result.lo c.row_at-row.result.hi
          (begins_cut k u (packed_from_local u local)) (c.loop-i.invariant.so_far local) (r.row local) (omega arith)
          (λ h. let e = ap first_leaf (get_or-map (cut_at k) u n 0 0 (omega arith)) in
          let a = r.apart local (omega arith) in omega arith)
          (λ few list. c.in_ok-n.ensures.put few list c.args.out.now);
      first = r.after;
    }

pub returns-else-n-most-clause-made : goal.returns-else-n-most-clause-made
returns-else-n-most-clause-made g c local =
    let u = g.C.Listed.ids c.args.cells.now in
    rows_done c.loop-i.n c.args.most (begins_cut c.args.level u (packed_from_local u local))
    (λ list. g.met.W.Output.counts list c.args.out.now c.loop-i.out c.loop-i.n) (c.loop-i.invariant.so_far local)
    (inr (omega (arith, c.if-n-most.false)))

pub returns-after-loop-i-clause-made : goal.returns-after-loop-i-clause-made
returns-after-loop-i-clause-made g c local =
    let u = g.C.Listed.ids c.args.cells.now in
    let len = length-map u (cut_at c.args.level) in
    let n = c.len.ensures in
    rows_done c.loop-i.n c.args.most (begins_cut c.args.level u (packed_from_local u local))
    (λ list. g.met.W.Output.counts list c.args.out.now c.loop-i.out c.loop-i.n) (c.loop-i.invariant.so_far local)
    (inl (omega (arith, c.loop-i-test.false)))

use Rattle.std.proofs.Common.{◌≡◌, ◌+◌, ◌<◌, ◌∙◌, length, get_or, sym, subst, ap, arith}
use Rattle.std.proofs.lemmas.List.{get_or-map, length-map}
use Rattle.s2cell.specs.Cell.{IsCell, first_leaf, size_of}
use Rattle.s2list.proofs.Checking.{packed_from_local}
use Rattle.s2cover.specs.Working.Cut.{cells_cut, cut_at}
use Rattle.s2cover.specs.Working.Rows.{HasRow}
use Rattle.s2cover.proofs.Levelling.{begins_cut, cut_cell, ended_cut}
use Rattle.s2cover.proofs.Rows.{row_cut, row_more, row_start}
use Rattle.s2cover.proofs.cut_to_level.row_at.Goals as goal

pub loop-next-init : goal.loop-next-init
loop-next-init g c =
    let u = g.C.Listed.ids c.args.cells.now in
    let k = c.args.level in
    let i = c.args.i in
    let v = cells_cut k u in
    let h = c.requires.there in
    let f = c.find_from-next.ensures in
    let from = f.from in
    record {
      from = omega arith;
      within = f.within;
      row = λ local.
          let p = packed_from_local u local in
          let own : IsCell (get_or u i 0) = p.cells i 0 h in
          let is = c.requires.first local in
          let whole : IsCell c.args.first = subst IsCell (sym is) (cut_cell k (get_or u i 0) own) in
          let at = get_or-map (cut_at k) u i 0 0 h in
          let len = length-map u (cut_at k) in
          let lo = c.first_of-lo.ensures whole ∙ ap first_leaf (is ∙ sym at) in
          let hi = c.end_of-hi.ensures whole ∙ ap (λ d. first_leaf d + size_of d) is in
          let b = begins_cut k u p in
          let start = row_start v i b (omega arith) in
          let row : HasRow v i (i + 1) c.first_of-lo.result c.end_of-hi.result =
          rw (lo, hi ∙ sym (ap (λ d. first_leaf d + size_of d) at)) start in
          row_cut k u i i c.find_from-next.result c.first_of-lo.result c.end_of-hi.result c.end_of-hi.result local row
          (omega arith) f.within (omega arith) hi (f.ended p (ended_cut k u i c.end_of-hi.result p h hi));
    }

pub loop-next-preserved : goal.loop-next-preserved
loop-next-preserved g c =
    let u = g.C.Listed.ids c.args.cells.now in
    let k = c.args.level in
    let i = c.args.i in
    let m = c.loop-next.next in
    let v = cells_cut k u in
    let nu = c.len-len.ensures in
    let h : m < length u = omega (arith, c.loop-next-test.true) in
    let after = c.loop-next.invariant.from in
    let f = c.find_from-next-in-loop-next.ensures in
    let from = f.from in
    record {
      from = omega arith;
      within = f.within;
      row = λ local.
          let p = packed_from_local u local in
          let own : IsCell (get_or u m 0) = p.cells m 0 h in
          let is : c.cut-id.result ≡ cut_at k (get_or u m 0) = c.cut-id.ensures (rw c.id.ensures own)
          ∙ ap (cut_at k) c.id.ensures in
          let whole : IsCell c.cut-id.result = subst IsCell (sym is) (cut_cell k (get_or u m 0) own) in
          let at = get_or-map (cut_at k) u m 0 0 h in
          let len = length-map u (cut_at k) in
          let first = c.first_of.ensures whole ∙ ap first_leaf (is ∙ sym at) in
          let end = c.end_of-end.ensures whole ∙ ap (λ d. first_leaf d + size_of d) is in
          let ends : first_leaf (get_or v m 0) + size_of (get_or v m 0) ≡ c.end_of-end.result =
          ap (λ d. first_leaf d + size_of d) at ∙ sym end in
          let b = begins_cut k u p in
          let high = c.max-hi.ensures in
          let row = c.loop-next.invariant.row local in
          let more = row_more v i m c.first_of-lo.result c.loop-next.hi c.max-hi.result b row (omega arith)
          (omega arith) (omega (arith, c.if-hi-first_of.false)) (omega arith) in
          row_cut k u i m c.find_from-next-in-loop-next.result c.first_of-lo.result c.max-hi.result c.end_of-end.result
          local more (omega arith) f.within (omega arith) end
          (f.ended p (ended_cut k u m c.end_of-end.result p h end));
    }

pub returns-then-hi-first_of-clause-apart : goal.returns-then-hi-first_of-clause-apart
returns-then-hi-first_of-clause-apart g c local h =
    let u = g.C.Listed.ids c.args.cells.now in
    let k = c.args.level in
    let m = c.loop-next.next in
    let p = packed_from_local u local in
    let own : IsCell (get_or u m 0) = p.cells m 0 h in
    let is : c.cut-id.result ≡ cut_at k (get_or u m 0) = c.cut-id.ensures (rw c.id.ensures own)
    ∙ ap (cut_at k) c.id.ensures in
    let whole : IsCell c.cut-id.result = subst IsCell (sym is) (cut_cell k (get_or u m 0) own) in
    let first = c.first_of.ensures whole ∙ ap first_leaf is in
    omega (arith, c.if-hi-first_of.true)

pub returns-then-hi-first_of-clause-after : goal.returns-then-hi-first_of-clause-after
returns-then-hi-first_of-clause-after g c local h =
    let own : IsCell (get_or (g.C.Listed.ids c.args.cells.now) c.loop-next.next 0) = local.cells c.loop-next.next 0 h in
    c.cut-id.ensures (rw c.id.ensures own) ∙ ap (cut_at c.args.level) c.id.ensures

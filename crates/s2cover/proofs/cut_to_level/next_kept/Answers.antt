use Rattle.std.proofs.Common.{◌≡◌, ◌+◌, ◌<◌, ◌∙◌, length, get_or, sym, subst, ap, arith}
use Rattle.s2cell.specs.Cell.{IsCell, first_leaf, level_of, size_of}
use Rattle.s2list.proofs.Checking.{packed_from_local}
use Rattle.s2cover.specs.Working.Cut.{cut_at}
use Rattle.s2cover.proofs.Levelling.{cut_cell, cut_reaches, ended_cut, kept_cut}
use Rattle.s2cover.proofs.cut_to_level.next_kept.Goals as goal

pub loop-i-preserved : goal.loop-i-preserved
loop-i-preserved g c =
    let u = g.C.Listed.ids c.args.cells.now in
    let k = c.args.level in
    let i = c.loop-i.i in
    let n = c.len.ensures in
    let h : i < length u = omega (arith, c.loop-i-test.true) in
    let cell = get_or u i 0 in
    let f = c.find_from-i.ensures in
    let from = f.from in
    let after = c.loop-i.invariant.from in
    record {
      from = omega arith;
      within = f.within;
      passed = λ local.
          let p = packed_from_local u local in
          let own : IsCell cell = p.cells i 0 h in
          let is : c.cut-whole.result ≡ cut_at k cell = c.cut-whole.ensures (rw c.id-id.ensures own)
          ∙ ap (cut_at k) c.id-id.ensures in
          let whole : IsCell c.cut-whole.result = subst IsCell (sym is) (cut_cell k cell own) in
          let end : c.end_of.result ≡ first_leaf (cut_at k cell) + size_of (cut_at k cell) =
          c.end_of.ensures whole ∙ ap (λ d. first_leaf d + size_of d) is in
          let ie = c.id-id.ensures in
          kept_cut k u i c.find_from-i.result c.end_of.result local
          (λ same. let e : c.cut-whole.result ≡ c.id-id.result = is ∙ same ∙ sym ie in
          absurd (omega (arith, c.if-whole-id.false)))
          (omega arith) f.within end (f.ended p (ended_cut k u i c.end_of.result p h end))
          ∙ c.loop-i.invariant.passed local;
    }

pub returns-then-whole-id-clause-kept : goal.returns-then-whole-id-clause-kept
returns-then-whole-id-clause-kept g c local below =
    let k = c.args.level in
    let own : IsCell c.id-id.result = rw c.id-id.ensures (local.cells c.loop-i.i 0 below) in
    let same : c.cut-whole.result ≡ c.id-id.result = omega (arith, c.if-whole-id.true) in
    let whole = c.cut-whole.ensures own in
    let le = cut_reaches k c.id-id.result own (omega arith) in
    let e = ap level_of c.id-id.ensures in
    omega arith

use Rattle.std.proofs.Common.{◌<◌, ◌∙◌, ◌++◌, ◌∷◌, [], inl, inr, length, take, sym, subst, ap, arith}
use Rattle.s2cell.specs.Cell.{level_of}
use Rattle.s2list.specs.Room.{IsPut}
use Rattle.s2cover.specs.Cut.{cells_kept}
use Rattle.s2cover.proofs.Levelling.{kept_more, kept_put}
use Rattle.s2cover.proofs.cut_to_level.put_kept.Goals as goal

pub loop-n-preserved : goal.loop-n-preserved
loop-n-preserved g c =
    let u = g.C.Listed.ids c.args.cells.now in
    let k = c.args.level in
    let at = c.next_kept-at.result in
    let n = c.len-len.ensures in
    let within = c.next_kept-at.ensures.within in
    let h : at < length u = omega (arith, c.if-at-len.false) in
    record {
      within = omega arith;
      len = c.put-n.ensures.len ∙ c.loop-n.invariant.len;
      rest = c.put-n.ensures.rest c.args.out.now c.loop-n.invariant.rest;
      so_far = λ local.
          let e = ap level_of c.id.ensures in
          let deep = c.next_kept-at.ensures.kept local h in
          let more = kept_more k u at c.id.result h c.id.ensures (omega arith) in
          let passed = c.next_kept-at.ensures.passed local in
          subst (λ list. IsPut list c.args.out.now c.put-n.new.out c.put-n.result)
          (sym (more ∙ ap (λ v. v ++ c.id.result ∷ []) passed))
          (c.put-n.ensures.put (cells_kept k (take c.loop-n.i u)) c.args.out.now (c.loop-n.invariant.so_far local));
    }

pub returns-then-at-len-clause-made : goal.returns-then-at-len-clause-made
returns-then-at-len-clause-made g c local =
    let u = g.C.Listed.ids c.args.cells.now in
    let k = c.args.level in
    let n = c.len-len.ensures in
    let fits = c.len-len.type_inv in
    let passed = sym (c.next_kept-at.ensures.passed local) in
    kept_put k c.args.most u c.args.out.now c.loop-n.out c.loop-n.n c.next_kept-at.result
    (subst (λ list. IsPut list c.args.out.now c.loop-n.out c.loop-n.n) passed (c.loop-n.invariant.so_far local))
    (omega arith) c.ranges.most.fits (inl (omega (arith, c.if-at-len.true)))

pub returns-clause-made : goal.returns-clause-made
returns-clause-made g c local =
    let n = c.len-len.ensures in
    let fits = c.len-len.type_inv in
    kept_put c.args.level c.args.most (g.C.Listed.ids c.args.cells.now) c.args.out.now c.loop-n.out c.loop-n.n
    c.loop-n.i (c.loop-n.invariant.so_far local) (omega arith) c.ranges.most.fits
    (inr (omega (arith, c.loop-n-test.false)))

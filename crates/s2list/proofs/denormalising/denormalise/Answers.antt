use Rattle.std.proofs.Common.{◌≡◌, ◌-◌, ◌++◌, ◌<◌, ◌≤◌, ◌∙◌, refl, arith, subst, length, take, drop}
use Rattle.std.proofs.lemmas.List.{take_all}
use Rattle.s2cell.specs.Cell.{level_of}
use Rattle.s2cell.specs.CutLevels.{cells_in, cut_level}
use Rattle.s2list.specs.Room.{IsPut}
use Rattle.s2list.proofs.Items.{put_first_none, put_first_more, put_first_all}
use Rattle.s2list.proofs.denormalising.denormalise.Goals as goal
use Rattle.s2list.proofs.denormalising.denormalise.Goals.{in-Some, in_default}

pub loop-k-init : goal.loop-k-init
loop-k-init g c = record {
  len = refl;
  rest = refl;
  put = λ local. put_first_none (g.C.Listed.ids c.args.cells.now) _ _ c.args.out.now;
}

pub loop-k-preserved : goal.loop-k-preserved
loop-k-preserved g c =
    let u = g.C.Listed.ids c.args.cells.now in
    let k = c.loop-k.k in
    let v = c.loop-k.invariant in
    let n = c.len-k-end.ensures in
    let h : k < length u = omega (arith, c.loop-k-test.true) in
    record {
      len = c.match-from_id.auto.out ∙ v.len;
      rest = elim c.match-from_id.branch [
        | in-Some w ↦ rw (w.out-is, w.n-is) (w.put_run-n.ensures.rest c.args.out.now v.rest)
        | in_default w ↦ rw (w.out-is, w.n-is) v.rest
      ];
      put = λ local. elim c.match-from_id.branch [
        | in-Some w ↦
            let items = w.cut-items.result in
            let many = w.len.ensures in
            let whole : take (w.len.result - 0) (drop 0 items)
            ≡ cells_in (cut_level (level_of w.in-Some.cell) c.new-cuts.result.least c.new-cuts.result.modulus)
            w.in-Some.cell = take_all (w.len.result - 0) (drop 0 items) (omega arith) ∙ w.cut-items.ensures in
            rw (w.out-is, w.n-is) (put_first_more w.in-Some.cell w.put_run-n.result w.put_run-n.new.out (v.put local) h
            (w.in-Some.ensures.1 ∙ c.id.ensures)
            (λ list room p. subst (λ x. IsPut (list ++ x) room w.put_run-n.new.out w.put_run-n.result) whole
            (w.put_run-n.ensures.put list room p)))
        | in_default w ↦ absurd (w.in_default.ensures (rw c.id.ensures (local.cells k 0 h)))
      ];
    }

pub returns-clause-put : goal.returns-clause-put
returns-clause-put g c local =
    let u = g.C.Listed.ids c.args.cells.now in
    let n = c.len-k-end.ensures in
    let done : length u ≤ c.loop-k.k = omega (arith, c.loop-k-test.false) in
    put_first_all local c.requires.some
    (rw (c.new-cuts.ensures.min, c.new-cuts.ensures.modulus) at (c.loop-k.invariant.put local)) done

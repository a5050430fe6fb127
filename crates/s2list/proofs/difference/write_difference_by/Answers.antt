use Rattle.std.proofs.Common.{◌≡◌, ◌+◌, ◌<◌, ◌∙◌, length, get_or, inl, inr, max, refl, ap, arith}
use Rattle.s2cell.specs.Cell.{first_leaf, size_of}
use Rattle.s2list.proofs.Leaving.{left_none, left_on, left_taken, left_jump, left_free}
use Rattle.s2list.proofs.Leaving.{left_run, left_done, not_before}
use Rattle.s2list.proofs.difference.write_difference_by.Goals as goal

pub loop-i-init : goal.loop-i-init
loop-i-init g c = record {
  in_x = omega arith;
  in_y = omega arith;
  place = refl;
  rest = λ h. h;
  so_far = λ lx ly. left_none (g.X.Listed.ids c.args.xs.now) (g.Y.Listed.ids c.args.ys.now)
      (λ list. g.W.Output.holds list c.args.out.now c.args.out.now 0) c.requires.empty;
}

pub loop-i-preserved-then-begins_at : goal.loop-i-preserved-then-begins_at
loop-i-preserved-then-begins_at g c =
    let ys = g.Y.Listed.ids c.args.ys.now in
    let nx = c.len.ensures in
    let h : c.loop-i.i < length (g.X.Listed.ids c.args.xs.now) = omega (arith, c.loop-i-test.true) in
    let es : c.max-start.result ≡ max c.first_of-first.result c.loop-i.lo = omega arith in
    let there = c.begins_at.ensures.within c.if-begins_at.true in
    let ry = c.id-y.ensures in
    let to = c.seek-j.ensures in
    let f = c.leap_if-i.ensures in
    record {
      in_x = f.within;
      in_y = omega arith;
      place = c.put_gap.ensures.place ∙ c.loop-i.invariant.place;
      rest = λ h. c.in_ok-n.ensures.rest c.args.out.now (c.loop-i.invariant.rest h);
      so_far = λ lx ly.
          let here = left_on lx ly (c.loop-i.invariant.so_far lx ly) h c.id-x.ensures c.first_of-first.ensures es
          to.within to.ended in
          let own = ly.cells c.seek-j.result 0 there in
          let begins = ((c.begins_at.ensures.answer ly.cells).0 c.if-begins_at.true).1 in
          let fy : c.first_of.result ≡ first_leaf (get_or ys c.seek-j.result 0) = c.first_of.ensures (rw ry own)
          ∙ ap first_leaf ry in
          left_jump lx
          (left_taken {next = c.max-lo.result} c.loop-i.lo
          (λ list. g.W.Output.holds list c.args.out.now c.put_gap.new.out c.in_ok-n.n) lx ly here h there
          c.id-x.ensures
          ry c.first_of-first.ensures c.end_of-end.ensures c.first_of.ensures c.end_of.ensures es (omega arith)
          (omega arith) (λ few list. c.in_ok-n.ensures.put few list c.args.out.now))
          f.from f.within f.ended;
    }

pub loop-i-preserved-then-start-first : goal.loop-i-preserved-then-start-first
loop-i-preserved-then-start-first g c =
    let xs = g.X.Listed.ids c.args.xs.now in
    let nx = c.len.ensures in
    let h : c.loop-i.i < length xs = omega (arith, c.loop-i-test.true) in
    let es : c.max-start.result ≡ max c.first_of-first.result c.loop-i.lo = omega arith in
    let to = c.seek-j.ensures in
    let f = c.free_until-next.ensures in
    record {
      in_x = f.within;
      in_y = to.within;
      place = c.put_run.ensures.place ∙ c.loop-i.invariant.place;
      rest = λ h. c.in_ok-n-2.ensures.rest c.args.out.now (c.loop-i.invariant.rest h);
      so_far = λ lx ly.
          let here = left_on lx ly (c.loop-i.invariant.so_far lx ly) h c.id-x.ensures c.first_of-first.ensures es
          to.within to.ended in
          let rx = c.id-x.ensures in
          let ex : c.end_of-end.result ≡ first_leaf (get_or xs c.loop-i.i 0) + size_of (get_or xs c.loop-i.i 0) =
          c.end_of-end.ensures (rw rx (lx.cells c.loop-i.i 0 h)) ∙ ap (λ v. first_leaf v + size_of v) rx in
          left_run (λ list. g.W.Output.holds list c.args.out.now c.put_run.new.self c.in_ok-n-2.n) lx ly here h rx
          c.first_of-first.ensures (let t = c.if-start-first.true in omega arith) f.more f.within
          (λ there.
          let own = ly.cells c.seek-j.result 0 there in
          let free = not_before _ _ _ (λ h. (c.begins_at.ensures.answer ly.cells).1 (there, h)) c.if-begins_at.false in
          f.free lx there own (omega arith))
          c.id.ensures c.end_of-lo.ensures (λ list. c.in_ok-n-2.ensures.put list c.args.out.now);
    }

pub loop-i-preserved : goal.loop-i-preserved
loop-i-preserved g c =
    let nx = c.len.ensures in
    let h : c.loop-i.i < length (g.X.Listed.ids c.args.xs.now) = omega (arith, c.loop-i-test.true) in
    let es : c.max-start.result ≡ max c.first_of-first.result c.loop-i.lo = omega arith in
    let to = c.seek-j.ensures in
    record {
      in_x = omega arith;
      in_y = to.within;
      place = c.put_gap-else-start-first.ensures.place ∙ c.loop-i.invariant.place;
      rest = λ h. c.in_ok-n-3.ensures.rest c.args.out.now (c.loop-i.invariant.rest h);
      so_far = λ lx ly.
          let here = left_on lx ly (c.loop-i.invariant.so_far lx ly) h c.id-x.ensures c.first_of-first.ensures es
          to.within to.ended in
          left_free {next = c.max-lo-else-start-first.result} c.loop-i.lo
          (λ list. g.W.Output.holds list c.args.out.now c.put_gap-else-start-first.new.out c.in_ok-n-3.n) lx ly here h
          c.id-x.ensures c.first_of-first.ensures c.end_of-end.ensures es
          (λ there. not_before _ _ _ (λ h. (c.begins_at.ensures.answer ly.cells).1 (there, h)) c.if-begins_at.false)
          (omega arith) (λ few list. c.in_ok-n-3.ensures.put few list c.args.out.now);
    }

pub returns-else-n-most-clause-made : goal.returns-else-n-most-clause-made
returns-else-n-most-clause-made g c lx ly =
    left_done (λ list. g.met.W.Output.counts list c.args.out.now c.loop-i.out c.loop-i.n)
    (c.loop-i.invariant.so_far lx ly) (inr (omega (arith, c.if-n-most.false)))

pub returns-after-loop-i-clause-made : goal.returns-after-loop-i-clause-made
returns-after-loop-i-clause-made g c lx ly =
    let nx = c.len.ensures in
    left_done (λ list. g.met.W.Output.counts list c.args.out.now c.loop-i.out c.loop-i.n)
    (c.loop-i.invariant.so_far lx ly) (inl (omega (arith, c.loop-i-test.false)))

use Rattle.std.proofs.Common.{◌<◌, ◌∙◌, length, refl, sym, arith, inl, inr}
use Rattle.std.proofs.lemmas.Bool.{false≢true}
use Rattle.s2list.proofs.Intersections.{intersection_none, intersection_swap, intersection_skip, intersection_run}
use Rattle.s2list.proofs.Intersections.{intersection_done}
use Rattle.s2list.proofs.Intersections.{inside_by, inside_else}
use Rattle.s2list.proofs.intersection.write_intersection_by.Goals as goal

pub loop-i-init : goal.loop-i-init
loop-i-init g c = record {
  in_x = omega arith;
  in_y = omega arith;
  place = refl;
  rest = λ h. h;
  so_far = λ lx ly. intersection_none (g.X.Listed.ids c.args.xs.now) (g.Y.Listed.ids c.args.ys.now)
      (λ list. g.W.Output.holds list c.args.out.now c.args.out.now 0) c.requires;
}

pub loop-i-preserved-then-x_end-y_first : goal.loop-i-preserved-then-x_end-y_first
loop-i-preserved-then-x_end-y_first g c =
    let nx = c.len-x_len.ensures in
    let ny = c.len-y_len.ensures in
    let h : c.loop-i.i < length (g.X.Listed.ids c.args.xs.now) = omega (arith, c.loop-i-test.true) in
    let t : c.loop-i.j < length (g.Y.Listed.ids c.args.ys.now) = omega (arith, c.if-j-y_len.true) in
    let f = c.seek-i.ensures in
    record {
      in_x = f.within;
      in_y = c.loop-i.invariant.in_y;
      place = c.loop-i.invariant.place;
      rest = c.loop-i.invariant.rest;
      so_far = λ lx ly. intersection_skip lx ly (c.loop-i.invariant.so_far lx ly) h t c.id-x.ensures
          c.id-y.ensures c.end_of-x_end.ensures c.first_of-y_first.ensures c.if-x_end-y_first.true f.from f.within
          f.ended f.next;
    }

pub loop-i-preserved-then-y_end-x_first : goal.loop-i-preserved-then-y_end-x_first
loop-i-preserved-then-y_end-x_first g c =
    let nx = c.len-x_len.ensures in
    let ny = c.len-y_len.ensures in
    let h : c.loop-i.i < length (g.X.Listed.ids c.args.xs.now) = omega (arith, c.loop-i-test.true) in
    let t : c.loop-i.j < length (g.Y.Listed.ids c.args.ys.now) = omega (arith, c.if-j-y_len.true) in
    let f = c.seek-j.ensures in
    record {
      in_x = c.loop-i.invariant.in_x;
      in_y = f.within;
      place = c.loop-i.invariant.place;
      rest = c.loop-i.invariant.rest;
      so_far = λ lx ly. intersection_swap (intersection_skip ly lx (intersection_swap (c.loop-i.invariant.so_far lx ly))
          t h c.id-y.ensures c.id-x.ensures c.end_of-y_end.ensures c.first_of-x_first.ensures
          c.if-y_end-x_first.true f.from f.within f.ended f.next);
    }

pub loop-i-preserved-then-is_within : goal.loop-i-preserved-then-is_within
loop-i-preserved-then-is_within g c =
    let nx = c.len-x_len.ensures in
    let ny = c.len-y_len.ensures in
    let h : c.loop-i.i < length (g.X.Listed.ids c.args.xs.now) = omega (arith, c.loop-i-test.true) in
    let t : c.loop-i.j < length (g.Y.Listed.ids c.args.ys.now) = omega (arith, c.if-j-y_len.true) in
    let f = c.find_from-next.ensures in
    let among = c.is_within.ensures.0 c.if-is_within.true in
    record {
      in_x = f.within;
      in_y = omega arith;
      place = c.put_run.ensures.place ∙ c.loop-i.invariant.place;
      rest = λ h. c.in_ok-n.ensures.rest c.args.out.now (c.loop-i.invariant.rest h);
      so_far = λ lx ly. intersection_run (λ list. g.W.Output.holds list c.args.out.now c.put_run.new.self c.in_ok-n.n)
          lx
          ly (c.loop-i.invariant.so_far lx ly) h t c.id-x.ensures c.id-y.ensures
          (inside_by lx ly h t c.id-x.ensures c.id-y.ensures c.first_of-x_first.ensures c.end_of-x_end.ensures
          c.first_of-y_first.ensures c.end_of-y_end.ensures among.0 among.1)
          c.end_of-y_end.ensures f.from f.within f.ended f.next
          (λ list. c.in_ok-n.ensures.put list c.args.out.now);
    }

pub loop-i-preserved : goal.loop-i-preserved
loop-i-preserved g c =
    let nx = c.len-x_len.ensures in
    let ny = c.len-y_len.ensures in
    let h : c.loop-i.i < length (g.X.Listed.ids c.args.xs.now) = omega (arith, c.loop-i-test.true) in
    let t : c.loop-i.j < length (g.Y.Listed.ids c.args.ys.now) = omega (arith, c.if-j-y_len.true) in
    let f = c.find_from-next-else-is_within.ensures in
    record {
      in_x = omega arith;
      in_y = f.within;
      place = c.put_run-else-is_within.ensures.place ∙ c.loop-i.invariant.place;
      rest = λ h. c.in_ok-n-2.ensures.rest c.args.out.now (c.loop-i.invariant.rest h);
      so_far = λ lx ly. intersection_swap (intersection_run
          (λ list. g.W.Output.holds list c.args.out.now c.put_run-else-is_within.new.self c.in_ok-n-2.n) ly lx
          (intersection_swap (c.loop-i.invariant.so_far lx ly)) t h c.id-y.ensures c.id-x.ensures
          (inside_else lx ly h t c.id-x.ensures c.id-y.ensures c.first_of-x_first.ensures
          c.end_of-x_end.ensures c.first_of-y_first.ensures c.end_of-y_end.ensures c.if-x_end-y_first.false
          c.if-y_end-x_first.false
          (λ among. false≢true (sym c.if-is_within.false ∙ c.is_within.ensures.1 among)))
          c.end_of-x_end.ensures f.from f.within f.ended f.next
          (λ list. c.in_ok-n-2.ensures.put list c.args.out.now));
    }

pub returns-else-j-y_len-clause-made : goal.returns-else-j-y_len-clause-made
returns-else-j-y_len-clause-made g c lx ly =
    let ny = c.len-y_len.ensures in
    intersection_done (λ list. g.met.W.Output.counts list c.args.out.now c.loop-i.out c.loop-i.n)
    (c.loop-i.invariant.so_far lx ly) (inr (omega (arith, c.if-j-y_len.false)))

pub returns-after-loop-i-clause-made : goal.returns-after-loop-i-clause-made
returns-after-loop-i-clause-made g c lx ly =
    let nx = c.len-x_len.ensures in
    intersection_done (λ list. g.met.W.Output.counts list c.args.out.now c.loop-i.out c.loop-i.n)
    (c.loop-i.invariant.so_far lx ly) (inl (omega (arith, c.loop-i-test.false)))

use Rattle.std.proofs.Common.{◌≡◌, ◌<◌, ◌∙◌, length, get_or, refl, ap, arith}
use Rattle.std.proofs.Math.Bool.{or_comm}
use Rattle.std.proofs.lemmas.Bool.{or_from}
use Rattle.s2cell.specs.Cell.{first_leaf}
use Rattle.s2list.specs.Union.{IsLocal, has_leaf}
use Rattle.s2list.proofs.Uniting.{along_done, along_none, along_swap}
use Rattle.s2list.proofs.union.write_union.Given.{Over}
use Rattle.s2list.proofs.union.write_union.Goals as goal
use Rattle.s2list.proofs.union.write_union.Goals.{After-first_of-in-loop-i}

-- where the next cells of both begin
record Firsts (g : Over) (c : After-first_of-in-loop-i g) : Type 0 where
  x : c.first_of.result ≡ first_leaf (get_or (g.X.Listed.ids c.args.xs.now) c.loop-i.i 0)
  y : c.first_of-in-loop-i.result ≡ first_leaf (get_or (g.Y.Listed.ids c.args.ys.now) c.loop-i.j 0)

firsts : (g : Over) (c : After-first_of-in-loop-i g) → IsLocal (g.X.Listed.ids c.args.xs.now) →
    IsLocal (g.Y.Listed.ids c.args.ys.now) → Firsts g c
firsts g c lx ly =
    let nx = c.len-x_len.ensures in
    let ny = c.len-y_len.ensures in
    let hx : c.loop-i.i < length (g.X.Listed.ids c.args.xs.now) = omega (arith, c.loop-i-test.true) in
    let hy : c.loop-i.j < length (g.Y.Listed.ids c.args.ys.now) = omega (arith, c.if-j-y_len.true) in
    record {
      x = c.first_of.ensures (rw c.id.ensures (lx.cells c.loop-i.i 0 hx)) ∙ ap first_leaf c.id.ensures;
      y = c.first_of-in-loop-i.ensures (rw c.id-in-loop-i.ensures (ly.cells c.loop-i.j 0 hy))
          ∙ ap first_leaf c.id-in-loop-i.ensures;
    }

pub loop-i-init : goal.loop-i-init
loop-i-init g c = record {
  in_x = omega arith;
  in_y = omega arith;
  place = refl;
  rest = λ h. h;
  so_far = λ lx ly. along_none (λ n list. g.W.Output.holds list c.args.out.now c.args.out.now n) _ refl refl refl
      c.requires.empty;
}

pub loop-i-preserved-then-first_of : goal.loop-i-preserved-then-first_of
loop-i-preserved-then-first_of g c = record {
  in_x = c.in_ok-by_x.ensures.within;
  in_y = c.loop-i.invariant.in_y;
  place = c.add_next.ensures.place ∙ c.loop-i.invariant.place;
  rest = λ h. c.in_ok-by_x.ensures.rest c.args.out.now (c.loop-i.invariant.rest h);
  so_far = λ lx ly. c.in_ok-by_x.ensures.added lx ly (λ t.
      let f = firsts g (goal.at.loop-i-preserved-then-first_of g c).After-first_of-in-loop-i lx ly in
      let fx = f.x in
      let fy = f.y in
      omega (arith, c.if-first_of.true)) _ (λ x. refl) c.args.out.now (c.loop-i.invariant.so_far lx ly);
}

pub loop-i-preserved : goal.loop-i-preserved
loop-i-preserved g c =
    let xs = g.X.Listed.ids c.args.xs.now in
    let ys = g.Y.Listed.ids c.args.ys.now in
    record {
      in_x = c.loop-i.invariant.in_x;
      in_y = c.in_ok-by_y.ensures.within;
      place = c.add_next-else-first_of.ensures.place ∙ c.loop-i.invariant.place;
      rest = λ h. c.in_ok-by_y.ensures.rest c.args.out.now (c.loop-i.invariant.rest h);
      so_far = λ lx ly. along_swap (c.in_ok-by_y.ensures.added ly lx (λ t.
          let f = firsts g (goal.at.loop-i-preserved g c).After-first_of-in-loop-i lx ly in
          let fx = f.x in
          let fy = f.y in
          omega (arith, c.if-first_of.false)) _ (λ x. or_comm (has_leaf xs x) (has_leaf ys x)) c.args.out.now
          (along_swap (c.loop-i.invariant.so_far lx ly)));
    }

pub loop-i-2-preserved : goal.loop-i-2-preserved
loop-i-2-preserved g c =
    let ended = c.loop-i-2.invariant.other (omega (arith, c.loop-i-2-test.true, c.len-x_len.ensures)) in
    record {
      in_x = c.in_ok-rest_x.ensures.within;
      in_y = c.loop-i-2.invariant.in_y;
      other = λ t. ended;
      place = c.add_next-in-loop-i-2.ensures.place ∙ c.loop-i-2.invariant.place;
      rest = λ h. c.in_ok-rest_x.ensures.rest c.args.out.now (c.loop-i-2.invariant.rest h);
      so_far = λ lx ly. c.in_ok-rest_x.ensures.added lx ly (λ t. absurd (omega arith)) _ (λ x. refl)
          c.args.out.now (c.loop-i-2.invariant.so_far lx ly);
    }

pub loop-j-preserved : goal.loop-j-preserved
loop-j-preserved g c =
    let xs = g.X.Listed.ids c.args.xs.now in
    let ys = g.Y.Listed.ids c.args.ys.now in
    let done = c.loop-j.invariant.done in
    record {
      done = done;
      in_y = c.in_ok-rest_y.ensures.within;
      place = c.add_next-in-loop-j.ensures.place ∙ c.loop-j.invariant.place;
      rest = λ h. c.in_ok-rest_y.ensures.rest c.args.out.now (c.loop-j.invariant.rest h);
      so_far = λ lx ly. along_swap (c.in_ok-rest_y.ensures.added ly lx (λ t. absurd (omega arith)) _
          (λ x. or_comm (has_leaf xs x) (has_leaf ys x)) c.args.out.now (along_swap (c.loop-j.invariant.so_far lx ly)));
    }

pub returns-clause-made : goal.returns-clause-made
returns-clause-made g c lx ly =
    along_done lx ly (c.loop-j.invariant.so_far lx ly) c.loop-j.invariant.done
    (omega (arith, c.loop-j-test.false, c.len-y_len.ensures)) (λ x. or_from _ _)
    (λ list. g.met.W.Output.counts list c.args.out.now c.finish.new.out c.in_ok-n.n)
    (λ few list. c.in_ok-n.ensures.put few list c.args.out.now)

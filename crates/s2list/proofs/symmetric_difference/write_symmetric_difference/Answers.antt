use Rattle.std.proofs.Common.{◌<◌, ◌⊎◌, ◌∙◌, inl, inr, length, refl, arith}
use Rattle.s2list.specs.Union.{has_leaf}
use Rattle.s2list.specs.Sets.{symmetric_difference_of}
use Rattle.s2list.proofs.Alone.{neither, no_first, no_second, past_within, past_ended, turn_brings, turn_smaller}
use Rattle.s2list.proofs.Uniting.{along_done, along_none, along_run, along_swap}
use Rattle.s2list.proofs.symmetric_difference.write_symmetric_difference.Goals as goal
use Rattle.s2list.proofs.symmetric_difference.write_symmetric_difference.Goals.{then-i-x_len, else-i-x_len+then-j-y_len}

pub loop-i-init : goal.loop-i-init
loop-i-init g c =
    let xs = g.X.Listed.ids c.args.xs.now in
    let ys = g.Y.Listed.ids c.args.ys.now in
    record {
      in_x = omega arith;
      in_y = omega arith;
      place = refl;
      rest = λ h. h;
      so_far = λ lx ly. along_none (λ n list. g.W.Output.holds list c.args.out.now c.args.out.now n) _ refl refl refl
          c.requires.empty;
    }

pub loop-i-smaller : goal.loop-i-smaller
loop-i-smaller g c =
    let xs = g.X.Listed.ids c.args.xs.now in
    let ys = g.Y.Listed.ids c.args.ys.now in
    let nx = c.len-x_len.ensures in
    let ny = c.len-y_len.ensures in
    let x = c.rest_of-x in
    let y = c.rest_of-y in
    let some : (c.loop-i.i < length xs) ⊎ (c.loop-i.j < length ys) = elim c.if-i-x_len.branch [
      | then-i-x_len w ↦ inl (omega (arith, w.if-i-x_len.true))
      | else-i-x_len+then-j-y_len w ↦ inr (omega (arith, w.if-j-y_len.true))
    ] in
    turn_smaller 18446744073709551615 (length xs) (length ys) c.loop-i.i c.loop-i.j x.result.end y.result.end
    c.loop-i.done c.min-end.result c.max-done.result c.past-i.result c.past-j.result some c.loop-i.invariant.in_x
    c.loop-i.invariant.in_y c.min-end.ensures c.max-done.ensures x.ensures.last y.ensures.last (omega arith)
    (omega arith)
    (rw nx at c.past-i.ensures) (rw ny at c.past-j.ensures)

pub loop-i-preserved-then-i-x_stop : goal.loop-i-preserved-then-i-x_stop
loop-i-preserved-then-i-x_stop g c =
    let v = c.loop-i.invariant in
    let r = c.run_to-x_stop.ensures in
    let some = c.if-i-x_stop.true in
    record {
      in_x = r.within some;
      in_y = v.in_y;
      place = c.lay.ensures.place ∙ v.place;
      rest = λ h. c.in_ok-pile.ensures.rest c.args.out.now (v.rest h);
      so_far = λ lx ly.
          let s = v.so_far lx ly in
          along_run c.rest_of-y.result.first c.in_ok-pile.pile lx (λ x. no_second _ _) s
          (c.rest_of-y.ensures.free ly s.ended_y) some (r.within some) (r.apart lx some) (r.cut lx some)
          (r.mark lx some) (c.in_ok-pile.ensures.end lx)
          (c.in_ok-pile.ensures.laid lx _ c.args.out.now c.loop-i.done);
    }

pub loop-i-preserved-then-j-y_stop : goal.loop-i-preserved-then-j-y_stop
loop-i-preserved-then-j-y_stop g c =
    let v = c.loop-i.invariant in
    let r = c.run_to-y_stop.ensures in
    let some = c.if-j-y_stop.true in
    record {
      in_x = v.in_x;
      in_y = r.within some;
      place = c.lay-then-j-y_stop.ensures.place ∙ v.place;
      rest = λ h. c.in_ok-pile-2.ensures.rest c.args.out.now (v.rest h);
      so_far = λ lx ly.
          let s = v.so_far lx ly in
          along_swap (along_run c.rest_of-x.result.first c.in_ok-pile-2.pile ly (λ x. no_first _ _) (along_swap s)
          (c.rest_of-x.ensures.free lx s.ended_x) some (r.within some) (r.apart ly some) (r.cut ly some)
          (r.mark ly some) (c.in_ok-pile-2.ensures.end ly)
          (c.in_ok-pile-2.ensures.laid ly _ c.args.out.now c.loop-i.done));
    }

pub loop-i-preserved : goal.loop-i-preserved
loop-i-preserved g c =
    let xs = g.X.Listed.ids c.args.xs.now in
    let ys = g.Y.Listed.ids c.args.ys.now in
    let v = c.loop-i.invariant in
    let x = c.rest_of-x in
    let y = c.rest_of-y in
    let nx = c.len-x_len.ensures in
    let ny = c.len-y_len.ensures in
    let next = c.max-done.result in
    record {
      in_x = past_within c.loop-i.i (length xs) x.result.end next c.past-i.result v.in_x (rw nx at c.past-i.ensures);
      in_y = past_within c.loop-i.j (length ys) y.result.end next c.past-j.result v.in_y (rw ny at c.past-j.ensures);
      place = c.add.ensures.place ∙ v.place;
      rest = λ h. c.in_ok-pile-3.ensures.rest c.args.out.now (v.rest h);
      so_far = λ lx ly.
          let s = v.so_far lx ly in
          record {
            ended_x = past_ended xs c.loop-i.i x.result.end c.loop-i.done next c.past-i.result s.ended_x (omega arith)
                (λ h. x.ensures.ended lx h s.ended_x) (rw nx at c.past-i.ensures);
            ended_y = past_ended ys c.loop-i.j y.result.end c.loop-i.done next c.past-j.result s.ended_y (omega arith)
                (λ h. y.ensures.ended ly h s.ended_y) (rw ny at c.past-j.ensures);
            heap = c.in_ok-pile-3.ensures.added (symmetric_difference_of (has_leaf xs) (has_leaf ys)) c.args.out.now
                c.loop-i.done next
                (turn_brings
                (record { order = x.ensures.first; free = x.ensures.free lx s.ended_x; taken = x.ensures.taken lx })
                (record { order = y.ensures.first; free = y.ensures.free ly s.ended_y; taken = y.ensures.taken ly })
                c.min-from.ensures c.min-end.ensures (omega arith) c.max-done.ensures
                (λ h. elim c.if-i-x_len.branch [
                  | then-i-x_len w ↦ let b = x.ensures.within lx (omega (arith, w.if-i-x_len.true)) in omega arith
                  | else-i-x_len+then-j-y_len w ↦ let b = y.ensures.within ly (omega (arith, w.if-j-y_len.true)) in
                      omega arith
                ]))
                s.heap;
          };
    }

pub returns-clause-made : goal.returns-clause-made
returns-clause-made g c lx ly =
    along_done lx ly (c.loop-i.invariant.so_far lx ly) (omega (arith, c.if-i-x_len.false, c.len-x_len.ensures))
    (omega (arith, c.if-j-y_len.false, c.len-y_len.ensures)) (λ x. neither _ _)
    (λ list. g.met.W.Output.counts list c.args.out.now c.finish.new.out c.in_ok-n.n)
    (λ few list. c.in_ok-n.ensures.put few list c.args.out.now)

use Rattle.std.proofs.Common.{◌≡◌, ◌<◌, ◌≤◌, ◌∙◌, length, get_or, add-zero, arith, refl}
use Rattle.s2list.proofs.Packing.{read_at}
use Rattle.s2list.proofs.PackedLocal.{local_from_packed}
use Rattle.s2union.proofs.Uniting.{lt_from_test, le_from_test, unite_x, unite_y, uniting_rest, uniting_rest_swap}
use Rattle.s2union.proofs.Following.{rest_packed}
use Rattle.s2union.proofs.sets.put_union_by_steps.Goals as goal
use Rattle.s2union.proofs.sets.put_union_by_steps.Goals.{then-is_x, else-is_x, then-loop-i-test+else-j-ys}
use Rattle.s2union.proofs.sets.put_union_by_steps.Goals.{else-loop-i-test}

pub returns-then-i-xs-clause-local : goal.returns-then-i-xs-clause-local
returns-then-i-xs-clause-local c = local_from_packed _ c.add_run.ensures.packed

pub returns-then-i-xs-clause-leaves : goal.returns-then-i-xs-clause-leaves
returns-then-i-xs-clause-leaves c =
    let ended : length c.args.ys.now ≤ c.loop-i.j =
    elim c.loop-i-test.branch [
      | then-loop-i-test+else-j-ys w ↦ omega arith
      | else-loop-i-test w ↦ absurd (omega arith)
    ] in
    uniting_rest
    c.add_run.new.list.items c.loop-i.invariant.joining c.loop-i.invariant.in_x ended c.add_run.ensures.leaves

pub returns-else-i-xs-clause-local : goal.returns-else-i-xs-clause-local
returns-else-i-xs-clause-local c = local_from_packed _ c.add_run-else-i-xs.ensures.packed

pub returns-else-i-xs-clause-leaves : goal.returns-else-i-xs-clause-leaves
returns-else-i-xs-clause-leaves c =
    uniting_rest_swap c.add_run-else-i-xs.new.list.items
    c.loop-i.invariant.joining c.loop-i.invariant.in_y (omega arith) c.add_run-else-i-xs.ensures.leaves

pub loop-i-preserved : goal.loop-i-preserved
loop-i-preserved c =
    let v = c.loop-i.invariant in
    let e = c.add_reserved.ensures in
    elim c.if-is_x.branch [
      | then-is_x w ↦
          let less : c.index-xs-i.result < c.index-ys-j.result = lt_from_test _ _ _ c.lt-is_x.ensures w.if-is_x.true in
          let ey : get_or c.args.ys.now c.loop-i.j 0 ≡ c.index-ys-j.result =
          read_at c.args.ys.now c.loop-i.j c.loop-i.j c.index-ys-j.result c.if-j-ys.true refl c.index-ys-j.is in
          let cell = w.add_reserved-is in
          rw (w.if-is_x.true, add-zero) (record {
            in_x = omega arith;
            in_y = v.in_y;
            few = omega arith;
            room = e.room ∙ v.room;
            joining = unite_x c.index-xs-i.result c.requires.x_local v.joining c.loop-i-test.true c.index-xs-i.is
                (λ _. omega arith) e.packed (rw (← cell) e.starts) (rw (← cell) e.leaves);
          })
      | else-is_x w ↦
          let most : c.index-ys-j.result ≤ c.index-xs-i.result = le_from_test _ _ _ c.lt-is_x.ensures w.if-is_x.false in
          let ex : get_or c.args.xs.now c.loop-i.i 0 ≡ c.index-xs-i.result =
          read_at c.args.xs.now c.loop-i.i c.loop-i.i c.index-xs-i.result c.loop-i-test.true refl c.index-xs-i.is in
          let cell = w.add_reserved-is in
          rw (w.if-is_x.false, add-zero) (record {
            in_x = v.in_x;
            in_y = omega arith;
            few = omega arith;
            room = e.room ∙ v.room;
            joining = unite_y c.index-ys-j.result c.requires.y_local v.joining c.if-j-ys.true c.index-ys-j.is
                (λ _. omega arith) e.packed (rw (← cell) e.starts) (rw (← cell) e.leaves);
          })
    ]

pub add_run-requires-clause-run : goal.add_run-requires-clause-run
add_run-requires-clause-run c = rest_packed c.loop-i.i c.requires.x_local (omega arith)

pub add_run-requires-else-i-xs-clause-run : goal.add_run-requires-else-i-xs-clause-run
add_run-requires-else-i-xs-clause-run c = rest_packed c.loop-i.j c.requires.y_local (omega arith)

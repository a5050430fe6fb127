use Rattle.std.proofs.Common.{◌≡◌, ◌+◌, ◌-◌, ◌*◌, ◌<◌, ◌≤◌, ◌∙◌, refl, arith}
use Rattle.s2cell.specs.Cell.{IsCell, first_leaf, level_of, parent_of, size_of}
use Rattle.s2room.proofs.Holders.{after_start, after_step, after_all, after_reached}
use Rattle.s2room.proofs.keys.put_after.Goals as goal

pub loop-level-init : goal.loop-level-init
loop-level-init c =
    let cu : IsCell c.args.cell = (_, _, c.id-middle.ensures.cell) in
    let v = c.level-level.ensures.value in
    record {
      len = refl;
      rest = λ room e. e;
      within = omega arith;
      put = λ list rises most room p. (list, rw v (after_start c.args.cell c.args.next list cu rises), p);
    }

pub loop-level-preserved : goal.loop-level-preserved
loop-level-preserved c =
    let u = c.args.cell in
    let level = c.loop-level.level - 1 in
    let v = c.loop-level.invariant in
    let cu : IsCell u = (_, _, c.id-middle.ensures.cell) in
    let top = v.within in
    let h : level < level_of u = omega (arith, c.loop-level-test.true, top) in
    let e : level + 1 ≡ c.loop-level.level = omega (arith, c.loop-level-test.true) in
    record {
      len = c.put_between-count.ensures.len ∙ v.len;
      rest = λ room e. c.put_between-count.ensures.rest room (v.rest room e);
      within = omega arith;
      put = λ list rises most room p.
          after_step u c.args.next level list room c.loop-level.out c.put_between-count.new.out c.loop-level.count
          c.put_between-count.result cu h most
          (rw (c.id-middle.ensures.value, c.parent-ancestor.ensures.value) at c.put_between-count.ensures.added)
          (rw (c.id-middle.ensures.value, c.parent-ancestor.ensures.value) at c.put_between-count.ensures.same)
          (rw e (v.put list rises most room p));
    }

pub returns-then-next-id-clause-put : goal.returns-then-next-id-clause-put
returns-then-next-id-clause-put c list rises most room p =
    let u = c.args.cell in
    let level = c.loop-level.level - 1 in
    let v = c.loop-level.invariant in
    let cu : IsCell u = (_, _, c.id-middle.ensures.cell) in
    let top = v.within in
    let h : level < level_of u = omega (arith, c.loop-level-test.true, top) in
    let e : level + 1 ≡ c.loop-level.level = omega (arith, c.loop-level-test.true) in
    let last : c.range_max.result ≡ 2 * (first_leaf (parent_of u level) + size_of (parent_of u level)) - 1 =
    rw c.parent-ancestor.ensures.value at c.range_max.ensures.value in
    let reached : c.args.next ≤ 2 * (first_leaf (parent_of u level) + size_of (parent_of u level)) - 1 =
    omega (arith, last, c.id.ensures.value, c.if-next-id.true) in
    let (longer, gains, put) = after_step u c.args.next level list room c.loop-level.out c.put_between-count.new.out
    c.loop-level.count c.put_between-count.result cu h most
    (rw (c.id-middle.ensures.value, c.parent-ancestor.ensures.value) at c.put_between-count.ensures.added)
    (rw (c.id-middle.ensures.value, c.parent-ancestor.ensures.value) at c.put_between-count.ensures.same)
    (rw e (v.put list rises most room p)) in
    (longer, after_reached u c.args.next level list longer cu h reached gains, put)

pub returns-clause-put : goal.returns-clause-put
returns-clause-put c list rises most room p =
    let e : c.loop-level.level ≡ 0 = omega (arith, c.loop-level-test.false) in
    let (longer, gains, put) = c.loop-level.invariant.put list rises most room p in
    (longer, after_all c.args.cell c.args.next list longer (rw e at gains), put)

use Rattle.std.proofs.Common.{◌≡◌, ◌+◌, ◌<◌, ◌∙◌, refl, arith}
use Rattle.s2cell.specs.Cell.{IsCell, level_of}
use Rattle.s2room.proofs.Holders.{before_start, before_step, before_all, starts_later}
use Rattle.s2room.proofs.keys.put_before.Goals as goal

pub loop-level-init : goal.loop-level-init
loop-level-init c = record {
  len = refl;
  rest = λ room e. e;
  within = c.outermost-level.ensures.within;
  start = c.outermost-level.ensures.start;
  put = λ list led room p. (
    list,
    before_start c.args.cell c.args.from c.outermost-level.result list led.ascending c.outermost-level.ensures.least,
    p,
  );
}

pub loop-level-preserved : goal.loop-level-preserved
loop-level-preserved c =
    let u = c.args.cell in
    let level = c.loop-level.level in
    let v = c.loop-level.invariant in
    let cu : IsCell u = (_, _, c.id-middle.ensures.cell) in
    let top = c.level-level-end.ensures.value in
    let h : level < level_of u = omega (arith, c.loop-level-test.true, top) in
    record {
      len = c.put_between-count.ensures.len ∙ v.len;
      rest = λ room e. c.put_between-count.ensures.rest room (v.rest room e);
      within = omega arith;
      start = λ from. starts_later u c.args.from level (level + 1) cu (omega arith) (omega arith) (v.start from);
      put = λ list led room p.
          before_step u c.args.from level list room c.loop-level.out c.put_between-count.new.out c.loop-level.count
          c.put_between-count.result cu h led (v.start led.start)
          (rw (c.parent.ensures.value, c.id-middle.ensures.value) at c.put_between-count.ensures.added)
          (rw (c.parent.ensures.value, c.id-middle.ensures.value) at c.put_between-count.ensures.same)
          (v.put list led room p);
    }

pub returns-clause-put : goal.returns-clause-put
returns-clause-put c list led room p =
    let u = c.args.cell in
    let cu : IsCell u = (_, _, c.id-middle.ensures.cell) in
    let top = c.level-level-end.ensures.value in
    let most = c.loop-level.invariant.within in
    let e : c.loop-level.level ≡ level_of u = omega (arith, c.loop-level-test.false, top, most) in
    let (longer, gains, put) = c.loop-level.invariant.put list led room p in
    (longer, before_all u c.args.from list longer cu (rw e at gains), put)

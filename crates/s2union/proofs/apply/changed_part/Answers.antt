use Rattle.std.proofs.Common.{◌∙◌, arith, length, take, refl, subst, sym, ap}
use Rattle.s2union.specs.Working.Merge.{Left, CanApply, IsRest, made_list}
use Rattle.s2list.proofs.Checking.{packed_from_local}
use Rattle.s2union.proofs.Ending.{can_from}
use Rattle.s2union.proofs.Parting.{part_begins, part_ends, part_grows, rest_on}
use Rattle.s2union.proofs.apply.changed_part.Goals as goal

pub new-merge-requires-clause-cells_packed : goal.new-merge-requires-clause-cells_packed
new-merge-requires-clause-cells_packed c = packed_from_local c.args.cells.now c.requires.local

pub loop-merge-init : goal.loop-merge-init
loop-merge-init c =
    let r = c.run-from.ensures in
    let made = c.new-merge.ensures in
    let can : CanApply c.new-merge.result = rw made (can_from c.requires.fits) in
    let cells = ap (λ (l : Left). l.cells) made in
    record {
      whole = part_begins (sym cells) c.clear.ensures.items r.front can r.keeps ∙ ap made_list made;
      left = r.keeps.same.0 can;
      rest = subst (IsRest c.run-from.new.self.cells) cells r.rest;
      order = omega (arith, r.len, ap length cells);
      room = refl;
    }

pub returns-then-is_done-clause-whole : goal.returns-then-is_done-clause-whole
returns-then-is_done-clause-whole c =
    let v = c.loop-merge.invariant in
    rw (ap (λ (l : Left). l.cells) c.merge.view_is)
    (part_ends _ c.args.cells.now _ c.loop-merge.merge (c.is_done.ensures.0 c.if-is_done.true) v.rest v.whole)

pub loop-merge-preserved-in-Write : goal.loop-merge-preserved-in-Write
loop-merge-preserved-in-Write c =
    let v = c.loop-merge.invariant in
    let r = c.run-run.ensures in
    let w = c.with_cells-list.ensures in
    let t = c.in-Write.ensures in
    let p = c.push_reserved.ensures in
    record {
      whole = part_grows (take (length c.run-from.result.now) c.args.cells.now) c.loop-merge.list.items v.whole w.items
          p.items r.keeps t.turn v.left;
      left = t.turn.same.0 (r.keeps.same.0 v.left);
      rest = rest_on _ _ _ v.rest (rest_on _ _ _ r.rest t.rest);
      order = omega (arith, v.order, r.rest.0, t.rest.0);
      room = p.capacity ∙ w.capacity ∙ v.room;
    }

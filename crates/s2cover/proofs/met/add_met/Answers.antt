use Rattle.std.proofs.Common.{◌≡◌, ◌+◌, ◌∙◌, get_or, sym, arith}
use Rattle.s2cell.specs.Rectangles.{rect_set}
use Rattle.s2cover.proofs.Near.{met_left, met_taken}
use Rattle.s2cover.proofs.met.add_met.Goals as goal
use Rattle.s2cover.proofs.met.add_met.Goals.{in-Some+then-is_met+in_ok-push, in-Some+else-is_met, in_default}

pub loop-k-preserved : goal.loop-k-preserved
loop-k-preserved g c =
    let u = g.C.Listed.ids c.args.cells.now in
    let S = rect_set c.args.rect.now in
    let k = c.loop-k.k in
    let first = c.args.first in
    let before = c.loop-k.invariant.looks in
    elim c.match-from_id.branch [
      | in-Some+then-is_met+in_ok-push w ↦ record {
        list = λ all.
            let is : w.in-Some.cell ≡ get_or u (first + k) 0 = w.in-Some.ensures.1 ∙ c.id.ensures in
            rw (w.list-is, w.in_ok-push.ensures.items)
            (met_taken S c.args.level u c.args.list.now.items first c.args.count k w.in-Some.cell c.requires.within
            (omega (arith, c.loop-k-test.true)) is (sym w.is_met.ensures.value ∙ w.if-is_met.true)
            (c.loop-k.invariant.list all));
        looks = rw w.looks-is (let m = w.is_met.ensures.most in omega arith);
      }
      | in-Some+else-is_met w ↦ record {
        list = λ all.
            let is : w.in-Some.cell ≡ get_or u (first + k) 0 = w.in-Some.ensures.1 ∙ c.id.ensures in
            rw w.list-is
            (met_left S c.args.level u c.args.list.now.items first c.args.count k w.in-Some.cell c.requires.within
            (omega (arith, c.loop-k-test.true)) is (sym w.is_met.ensures.value ∙ w.if-is_met.false)
            (c.loop-k.invariant.list all));
        looks = rw w.looks-is (let m = w.is_met.ensures.most in omega arith);
      }
      | in_default w ↦ record {
        list = λ all. absurd (w.in_default.ensures (rw c.id.ensures (all (first + k) 0 (omega (
          arith,
          c.requires.within,
          c.loop-k-test.true,
        )))));
        looks = rw w.looks-is (omega arith);
      }
    ]

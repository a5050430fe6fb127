use Rattle.std.proofs.Common.{◌≡◌, get_or, arith, sym}
use Rattle.s2cell.specs.Cell.{IsInside}
use Rattle.s2cell.proofs.Leaves.{within_from_inside}
use Rattle.s2union.proofs.AskingFew.{run_held, sought_near}
use Rattle.s2list.proofs.Finding.{ended_to}
use Rattle.s2union.proofs.few.pass_held.Goals as goal

pub returns-clause-held : goal.returns-clause-held
returns-clause-held g c k h l =
    let few = g.C.Listed.ids c.args.few.now in
    let p = c.requires.few_packed in
    let f = c.find_from_counted.ensures in
    let e : get_or few c.args.from 0 ≡ c.look_at.result = sym c.look_at.ensures.cell in
    let inside : IsInside (get_or few c.args.from 0) c.look_at-cell.result =
    rw e (c.contains.ensures.value.0 c.if-not-contains.false) in
    let high = (within_from_inside _ _ (p.cells c.args.from 0 (omega arith)) inside).high in
    let end = c.end_leaf.ensures.value in
    let first = ended_to few c.args.from c.end_leaf.result p (omega arith) (omega arith) in (
      omega arith,
      rw (← c.look_at-cell.ensures.cell) (run_held c.args.from c.find_from_counted.result
          c.look_at-cell.result p (omega arith) inside f.within (rw (← end) (f.ended p first)) k h l),
    )

pub returns-clause-looks : goal.returns-clause-looks
returns-clause-looks g c =
    let f = c.find_from_counted.ensures in
    let from = f.from in
    let l = sought_near _ _ _ f.looks in
    omega arith

use Rattle.std.proofs.Common.{get_or, arith, refl}
use Rattle.s2list.proofs.Finding.{within_from_place}
use Rattle.s2union.proofs.AskingFew.{run_missed}
use Rattle.s2union.proofs.few.pass_open.Goals as goal

pub returns-in-Contains-clause-left_open : goal.returns-in-Contains-clause-left_open
returns-in-Contains-clause-left_open g c before e place k h l =
    let cells = g.C.Listed.ids c.args.cells.now in
    let held = c.pass_held.ensures.held k h l in
    rw c.in-Contains.is
    (within_from_place cells c.args.at (get_or (g.C.Listed.ids c.args.few.now) k 0) (get_or cells c.args.at 0) held.0
    refl held.1)

pub returns-in-Intersects-clause-left_open : goal.returns-in-Intersects-clause-left_open
returns-in-Intersects-clause-left_open g c before e place k h l =
    let from = c.pass_free.ensures.from in
    rw c.in-Intersects.is
    (run_missed (g.C.Listed.ids c.args.few.now) (g.C.Listed.ids c.args.cells.now) before c.args.at c.pass_free.result
    c.requires.local c.requires.few_packed (omega arith) c.pass_free.ensures.within place.ended
    (λ n a b. c.pass_free.ensures.free n (omega arith) b) k (omega arith) l)

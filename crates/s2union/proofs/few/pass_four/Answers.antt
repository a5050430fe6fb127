use Rattle.std.proofs.Common.{◌+◌, ◌||◌, get_or, arith}
use Rattle.s2list.specs.Working.Walk.{Decides, LeavesOpen}
use Rattle.s2union.proofs.AskingFew.{FourJudged, four_judged, more_places}
use Rattle.s2union.proofs.few.pass_four.Given.{Over}
use Rattle.s2union.proofs.few.pass_four.Goals as goal
use Rattle.s2union.proofs.few.pass_four.Goals.{After-decides_at-fourth}

-- what is known of the four
four : (g : Over) (c : After-decides_at-fourth g) →
    FourJudged
    (λ k. Decides c.args.question (g.C.Listed.ids c.args.cells.now) (get_or (g.C.Listed.ids c.args.few.now) k 0))
    (λ k. LeavesOpen c.args.question (g.C.Listed.ids c.args.cells.now) (get_or (g.C.Listed.ids c.args.few.now) k 0))
    c.args.at
    (((c.decides_at-first.result || c.decides_at-second.result) || c.decides_at-third.result)
    || c.decides_at-fourth.result)
four g c =
    let local = c.requires.local in
    let places = c.places_of_four_counted-places.ensures in
    let a = c.decides_at-first.ensures in
    let b = c.decides_at-second.ensures in
    let d = c.decides_at-third.ensures in
    let e = c.decides_at-fourth.ensures in
    four_judged c.decides_at-first.result c.decides_at-second.result c.decides_at-third.result
    c.decides_at-fourth.result
    (λ k. Decides c.args.question (g.C.Listed.ids c.args.cells.now) (get_or (g.C.Listed.ids c.args.few.now) k 0))
    (λ k. LeavesOpen c.args.question (g.C.Listed.ids c.args.cells.now) (get_or (g.C.Listed.ids c.args.few.now) k 0))
    c.args.at
    (rw c.look_at-a.ensures.cell at (a.decided local (places.first local)))
    (rw c.look_at-a.ensures.cell at (a.left_open local (places.first local)))
    (rw c.look_at-b.ensures.cell at (b.decided local (places.second local)))
    (rw c.look_at-b.ensures.cell at (b.left_open local (places.second local)))
    (rw c.look_at-c.ensures.cell at (d.decided local (places.third local)))
    (rw c.look_at-c.ensures.cell at (d.left_open local (places.third local)))
    (rw c.look_at-d.ensures.cell at (e.decided local (places.fourth local)))
    (rw c.look_at-d.ensures.cell at (e.left_open local (places.fourth local)))

pub returns-then-first-second-clause-answer : goal.returns-then-first-second-clause-answer
returns-then-first-second-clause-answer g c =
    let (k, from, to, decides) =
    (four g (goal.at.returns-then-first-second-clause-answer g c).After-decides_at-fourth).0 c.if-first-second.true in
    (k, omega arith, decides)

pub returns-else-first-second-clause-answer : goal.returns-else-first-second-clause-answer
returns-else-first-second-clause-answer g c =
    let places = c.places_of_four_counted-places.ensures in
    more_places
    (λ k. LeavesOpen c.args.question (g.C.Listed.ids c.args.cells.now) (get_or (g.C.Listed.ids c.args.few.now) k 0))
    c.args.at (c.args.at + 4) c.pass_open.result
    ((four g (goal.at.returns-else-first-second-clause-answer g c).After-decides_at-fourth).1 c.if-first-second.false)
    (c.pass_open.ensures.left_open (c.args.at + 3) (omega arith)
    (rw (← c.look_at-d.ensures.cell) (places.fourth c.requires.local)))

pub returns-then-first-second-clause-most : goal.returns-then-first-second-clause-most
returns-then-first-second-clause-most g c =
    let found = c.places_of_four_counted-places.ensures.looks 64 (omega arith) in
    omega arith

pub returns-else-first-second-clause-most : goal.returns-else-first-second-clause-most
returns-else-first-second-clause-most g c =
    let found = c.places_of_four_counted-places.ensures.looks 64 (omega arith) in
    let from = c.pass_open.ensures.from in
    let in_few = c.pass_open.ensures.within in
    let passed = c.pass_open.ensures.looks in
    omega arith

pub returns-else-first-second-clause-looks : goal.returns-else-first-second-clause-looks
returns-else-first-second-clause-looks g c =
    let found = c.places_of_four_counted-places.ensures.looks 64 (omega arith) in
    let from = c.pass_open.ensures.from in
    let in_few = c.pass_open.ensures.within in
    let passed = c.pass_open.ensures.looks in
    omega arith

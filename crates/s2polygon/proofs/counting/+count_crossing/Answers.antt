use Rattle.std.proofs.Common.{rules, arith, ◌+◌, ◌<◌, ◌∙◌, ap}
use Rattle.s2cell.specs.Cell.{IsCell, level_of, place_of}
use Rattle.s2polygon.proofs.Countings.{at_first, child_above, child_added, child_counted, child_less, in_cell}
use Rattle.s2polygon.proofs.Countings.{one_crossing, passed}
use Rattle.s2polygon.proofs.counting.+count_crossing.Goals as goal

pub loop-digit-init : goal.loop-digit-init
loop-digit-init g t c =
    let q = c.args.quadrant.now in (
      c.requires.few,
      at_first (g.Q.Quadrant.outer q) (g.Q.Quadrant.inner q) c.args.level (g.Q.Quadrant.id q)
          c.args.before c.requires.counted,
    )

pub count_crossing-requires : goal.count_crossing-requires
count_crossing-requires g t c κs within =
    let q = c.args.quadrant.now in
    let child = c.in_ok-child-in-Cross-2 in
    let i : IsCell c.cell-cell.result = (level_of c.cell-cell.result, place_of c.cell-cell.result, c.id.ensures.cell) in
    let cell = rw c.cell-cell.ensures at i in
    let n = c.if-level.false in
    let v = c.level.ensures.value ∙ ap level_of c.cell-cell.ensures in
    let strict : level_of (g.Q.Quadrant.id q) < c.args.level = (let k = c.requires.above in omega arith) in
    let above = child_above c.args.level (g.Q.Quadrant.id q) (g.Q.Quadrant.id child.child) c.loop-digit.digit
    c.loop-digit.n child.ensures.outer child.ensures.inner cell strict c.requires.level c.loop-digit-test.true
    child.ensures.cell in
    let less = child_less c.args.level (g.Q.Quadrant.id q) (g.Q.Quadrant.id child.child) c.loop-digit.digit
    c.loop-digit.n child.ensures.outer child.ensures.inner cell strict c.requires.level c.loop-digit-test.true
    child.ensures.cell in
    let counted = child_counted c.args.level (g.Q.Quadrant.id q) (g.Q.Quadrant.id child.child) c.loop-digit.digit
    c.loop-digit.n child.ensures.outer child.ensures.inner cell strict c.requires.level c.loop-digit-test.true
    child.ensures.cell c.loop-digit.invariant.1 in
    let few = c.loop-digit.invariant.0 in
    search rules

pub returns-then-n-limit-clause-counted : goal.returns-then-n-limit-clause-counted
returns-then-n-limit-clause-counted g t c =
    let q = c.args.quadrant.now in
    let child = c.in_ok-child-in-Cross-2 in
    let i : IsCell c.cell-cell.result = (level_of c.cell-cell.result, place_of c.cell-cell.result, c.id.ensures.cell) in
    let cell = rw c.cell-cell.ensures at i in
    let n = c.if-level.false in
    let v = c.level.ensures.value ∙ ap level_of c.cell-cell.ensures in
    let strict : level_of (g.Q.Quadrant.id q) < c.args.level = (let k = c.requires.above in omega arith) in
    let p = c.loop-digit-test.true in
    in_cell (g.Q.Quadrant.outer q) (g.Q.Quadrant.inner q) c.args.level (g.Q.Quadrant.id q) (c.loop-digit.digit + 1)
    c.in_ok-n-in-Cross-2.n strict (omega arith)
    (child_added c.args.level (g.Q.Quadrant.id q) (g.Q.Quadrant.id child.child) c.loop-digit.digit
    c.in_ok-n-in-Cross-2.n child.ensures.outer child.ensures.inner cell strict c.requires.level c.loop-digit-test.true
    child.ensures.cell c.in_ok-n-in-Cross-2.ensures.counted)

pub loop-digit-preserved : goal.loop-digit-preserved
loop-digit-preserved g t c =
    let q = c.args.quadrant.now in
    let child = c.in_ok-child-in-Cross-2 in
    let i : IsCell c.cell-cell.result = (level_of c.cell-cell.result, place_of c.cell-cell.result, c.id.ensures.cell) in
    let cell = rw c.cell-cell.ensures at i in
    let n = c.if-level.false in
    let v = c.level.ensures.value ∙ ap level_of c.cell-cell.ensures in
    let strict : level_of (g.Q.Quadrant.id q) < c.args.level = (let k = c.requires.above in omega arith) in (
      omega (arith, c.if-n-limit.false),
      child_added c.args.level (g.Q.Quadrant.id q) (g.Q.Quadrant.id child.child) c.loop-digit.digit
          c.in_ok-n-in-Cross-2.n child.ensures.outer child.ensures.inner cell strict c.requires.level
          c.loop-digit-test.true child.ensures.cell c.in_ok-n-in-Cross-2.ensures.counted,
    )

pub returns-in-Out-clause-counted : goal.returns-in-Out-clause-counted
returns-in-Out-clause-counted g t c =
    let q = c.args.quadrant.now in
    passed (g.Q.Quadrant.outer q) (g.Q.Quadrant.inner q) c.args.level (g.Q.Quadrant.id q) c.args.before
    c.requires.counted

pub returns-in-In-clause-counted : goal.returns-in-In-clause-counted
returns-in-In-clause-counted g t c =
    let q = c.args.quadrant.now in
    passed (g.Q.Quadrant.outer q) (g.Q.Quadrant.inner q) c.args.level (g.Q.Quadrant.id q) c.args.before
    c.requires.counted

pub returns-in-Cross-clause-counted : goal.returns-in-Cross-clause-counted
returns-in-Cross-clause-counted g t c =
    let q = c.args.quadrant.now in
    let v = c.level.ensures.value ∙ ap level_of c.cell-cell.ensures in
    one_crossing (g.Q.Quadrant.outer q) (g.Q.Quadrant.inner q) c.args.level (g.Q.Quadrant.id q) c.args.before
    (omega (arith, c.if-level.true, v)) (λ h. let e = c.in-Cross.ensures.out.1 h in cc)
    (λ h. let e = c.in-Cross.ensures.inside.1 h in cc) c.requires.counted

pub returns-after-loop-digit-clause-counted : goal.returns-after-loop-digit-clause-counted
returns-after-loop-digit-clause-counted g t c =
    let q = c.args.quadrant.now in
    let n = c.if-level.false in
    let v = c.level.ensures.value ∙ ap level_of c.cell-cell.ensures in
    let strict : level_of (g.Q.Quadrant.id q) < c.args.level = (let k = c.requires.above in omega arith) in
    let d = c.loop-digit.auto.digit-end in
    in_cell (g.Q.Quadrant.outer q) (g.Q.Quadrant.inner q) c.args.level (g.Q.Quadrant.id q) c.loop-digit.digit
    c.loop-digit.n strict (omega arith) c.loop-digit.invariant.1

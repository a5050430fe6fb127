use Rattle.std.proofs.Common.{rules, arith, ◌+◌, ◌-◌, ◌*◌, ◌^◌, ◌<◌, ◌≤◌, ◌++◌, length, vec_len, refl, sym, ◌∙◌, ap}
use Rattle.std.proofs.Common.{append-nil}
use Rattle.std.proofs.lemmas.Result.{err_from_is_err_and}
use Rattle.s2cell.specs.Rectangles.{rect_set}
use Rattle.s2cell.specs.Cell.{level_of, place_of}
use Rattle.s2cover.specs.Working.Descent.{depth_of}
use Rattle.s2cover.proofs.Searches.{crossed, kid, none_in, one_in, sought_none, sought_next, sought_all, sought_stop}
use Rattle.s2cover.proofs.Searches.{sought_many, on_ok_more, on_ok_count, err_more}
use Rattle.s2cover.proofs.looks.+seek.Goals as goal

pub loop-digit-init : goal.loop-digit-init
loop-digit-init t c = sought_none (rect_set c.args.rect.now) (30 - c.args.level) (depth_of c.args.placed.now.cell)
    (place_of c.args.placed.now.cell) c.args.list.now.items (vec_len c.args.list.now) c.args.looks.now.count _
    c.args.max c.requires.room c.look.ensures.count

pub child-requires-clause-inner : goal.child-requires-clause-inner
child-requires-clause-inner t c =
    let cross = crossed (rect_set c.args.rect.now) (30 - c.args.level) c.args.placed.now.cell c.requires.aligned
    (let k = c.requires.above in omega arith) (c.in-Cross.ensures.out _ c.requires.placed.square)
    (c.in-Cross.ensures.inside _ c.requires.placed.square) in
    let h = cross.above in
    omega arith

pub seek-requires : goal.seek-requires
seek-requires t c =
    let cross = crossed (rect_set c.args.rect.now) (30 - c.args.level) c.args.placed.now.cell c.requires.aligned
    (let k = c.requires.above in omega arith) (c.in-Cross.ensures.out _ c.requires.placed.square)
    (c.in-Cross.ensures.inside _ c.requires.placed.square) in
    let child = kid c.child.result.cell c.loop-digit.digit c.requires.placed.cell
    cross c.loop-digit-test.true c.child.ensures.cell in
    let lv = c.child.ensures.level in
    let placed = c.child.ensures.placed in
    let above : level_of c.child.result.cell ≤ c.args.level = omega arith in
    let room = c.loop-digit.invariant.room in
    let most = c.loop-digit.looks.count + 1 + 4 * (depth_of c.child.result.cell - (30 - c.args.level))
    * (c.args.max - vec_len c.loop-digit.list + 1) in
    let stop = sought_stop (vec_len c.args.list.now) most (depth_of c.child.result.cell)
    c.loop-digit-test.true cross.above child.depth c.args.list.now.ok.0 c.loop-digit.list.ok.0
    c.loop-digit.invariant (omega arith) in
    let fits : most < 2 ^ 64 = omega (arith, c.requires.looks) in
    search rules

pub returns-in_err-seek-in-Cross-clause-many : goal.returns-in_err-seek-in-Cross-clause-many
returns-in_err-seek-in-Cross-clause-many t c =
    let p = err_from_is_err_and c.from_residual.result c.from_residual.ensures.1 in
    let cross = crossed (rect_set c.args.rect.now) (30 - c.args.level) c.args.placed.now.cell c.requires.aligned
    (let k = c.requires.above in omega arith) (c.in-Cross.ensures.out _ c.requires.placed.square)
    (c.in-Cross.ensures.inside _ c.requires.placed.square) in
    let child = kid c.child.result.cell c.loop-digit.digit c.requires.placed.cell
    cross c.loop-digit-test.true c.child.ensures.cell in
    rw (p.1, p.2) (λ e. sought_many (vec_len c.args.list.now) (depth_of c.child.result.cell)
    (place_of c.child.result.cell) c.loop-digit-test.true cross.above child.depth child.place c.args.list.now.ok.0
    c.loop-digit.list.ok.0 cross.part c.loop-digit.invariant (c.in_err-seek-in-Cross.ensures.many e))

pub returns-in_err-seek-in-Cross-clause-stopped : goal.returns-in_err-seek-in-Cross-clause-stopped
returns-in_err-seek-in-Cross-clause-stopped t c =
    let p = err_from_is_err_and c.from_residual.result c.from_residual.ensures.1 in
    let cross = crossed (rect_set c.args.rect.now) (30 - c.args.level) c.args.placed.now.cell c.requires.aligned
    (let k = c.requires.above in omega arith) (c.in-Cross.ensures.out _ c.requires.placed.square)
    (c.in-Cross.ensures.inside _ c.requires.placed.square) in
    let child = kid c.child.result.cell c.loop-digit.digit c.requires.placed.cell
    cross c.loop-digit-test.true c.child.ensures.cell in
    rw p.1 (sought_stop (vec_len c.args.list.now) _ (depth_of c.child.result.cell) c.loop-digit-test.true cross.above
    child.depth c.args.list.now.ok.0 c.loop-digit.list.ok.0 c.loop-digit.invariant
    c.in_err-seek-in-Cross.ensures.stopped)

pub loop-digit-preserved : goal.loop-digit-preserved
loop-digit-preserved t c =
    let cross = crossed (rect_set c.args.rect.now) (30 - c.args.level) c.args.placed.now.cell c.requires.aligned
    (let k = c.requires.above in omega arith) (c.in-Cross.ensures.out _ c.requires.placed.square)
    (c.in-Cross.ensures.inside _ c.requires.placed.square) in
    let child = kid c.child.result.cell c.loop-digit.digit c.requires.placed.cell
    cross c.loop-digit-test.true c.child.ensures.cell in
    sought_next c.seek.new.list.items (vec_len c.seek.new.list) _ (depth_of c.child.result.cell)
    (place_of c.child.result.cell) child.depth child.place c.loop-digit.invariant c.in_ok-seek-in-Cross.ensures.list
    c.in_ok-seek-in-Cross.ensures.room c.in_ok-seek-in-Cross.ensures.most c.in_ok-seek-in-Cross.ensures.least

pub returns-in-Out-clause-list : goal.returns-in-Out-clause-list
returns-in-Out-clause-list t c =
    let n = none_in (rect_set c.args.rect.now) (30 - c.args.level) c.args.placed.now.cell
    (let k = c.requires.above in omega arith) ((c.in-Out.ensures.out _ c.requires.placed.square).0 refl) in
    sym (ap (λ z. c.args.list.now.items ++ z) n ∙ append-nil c.args.list.now.items)

pub returns-in-Out-clause-least : goal.returns-in-Out-clause-least
returns-in-Out-clause-least t c =
    let n = none_in (rect_set c.args.rect.now) (30 - c.args.level) c.args.placed.now.cell
    (let k = c.requires.above in omega arith) ((c.in-Out.ensures.out _ c.requires.placed.square).0 refl) in
    omega (arith, c.look.ensures.count, ap length n)

pub returns-in-In-clause-list : goal.returns-in-In-clause-list
returns-in-In-clause-list t c =
    let n = one_in (rect_set c.args.rect.now) (30 - c.args.level) c.args.placed.now.cell
    (let k = c.requires.above in omega arith) c.requires.placed.cell
    ((c.in-In.ensures.inside _ c.requires.placed.square).0 refl) in
    on_ok_more c.take.result c.args.list.now.items c.take.new.list.items _ c.args.placed.now.cell n c.take.ensures.list

pub returns-in-In-clause-many : goal.returns-in-In-clause-many
returns-in-In-clause-many t c =
    let n = one_in (rect_set c.args.rect.now) (30 - c.args.level) c.args.placed.now.cell
    (let k = c.requires.above in omega arith) c.requires.placed.cell
    ((c.in-In.ensures.inside _ c.requires.placed.square).0 refl) in
    err_more c.take.result _ c.args.max (vec_len c.args.list.now) _ c.args.placed.now.cell n c.take.ensures.many

pub returns-in-In-clause-least : goal.returns-in-In-clause-least
returns-in-In-clause-least t c =
    let n = one_in (rect_set c.args.rect.now) (30 - c.args.level) c.args.placed.now.cell
    (let k = c.requires.above in omega arith) c.requires.placed.cell
    ((c.in-In.ensures.inside _ c.requires.placed.square).0 refl) in
    on_ok_count c.take.result _ c.args.looks.now.count _ _ c.args.placed.now.cell n c.look.ensures.count
    c.take.ensures.list

pub returns-after-loop-digit-clause-list : goal.returns-after-loop-digit-clause-list
returns-after-loop-digit-clause-list t c =
    let cross = crossed (rect_set c.args.rect.now) (30 - c.args.level) c.args.placed.now.cell c.requires.aligned
    (let k = c.requires.above in omega arith) (c.in-Cross.ensures.out _ c.requires.placed.square)
    (c.in-Cross.ensures.inside _ c.requires.placed.square) in
    (sought_all (let a = c.loop-digit-test.false in let b = c.loop-digit.auto.digit-end in omega arith) cross
    c.loop-digit.invariant).list

pub returns-after-loop-digit-clause-most : goal.returns-after-loop-digit-clause-most
returns-after-loop-digit-clause-most t c =
    let cross = crossed (rect_set c.args.rect.now) (30 - c.args.level) c.args.placed.now.cell c.requires.aligned
    (let k = c.requires.above in omega arith) (c.in-Cross.ensures.out _ c.requires.placed.square)
    (c.in-Cross.ensures.inside _ c.requires.placed.square) in
    (sought_all (let a = c.loop-digit-test.false in let b = c.loop-digit.auto.digit-end in omega arith) cross
    c.loop-digit.invariant).most

pub returns-after-loop-digit-clause-least : goal.returns-after-loop-digit-clause-least
returns-after-loop-digit-clause-least t c =
    let cross = crossed (rect_set c.args.rect.now) (30 - c.args.level) c.args.placed.now.cell c.requires.aligned
    (let k = c.requires.above in omega arith) (c.in-Cross.ensures.out _ c.requires.placed.square)
    (c.in-Cross.ensures.inside _ c.requires.placed.square) in
    (sought_all (let a = c.loop-digit-test.false in let b = c.loop-digit.auto.digit-end in omega arith) cross
    c.loop-digit.invariant).least

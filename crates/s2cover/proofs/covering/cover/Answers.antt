use Rattle.std.proofs.Common.{rules, arith, ◌≡◌, ◌+◌, ◌-◌, ◌≤◌, vec_len, ◌∙◌}
use Rattle.std.proofs.lemmas.Result.{err_from_is_err_and}
use Rattle.s2cell.specs.Cell.{level_of}
use Rattle.s2list.proofs.Normal.{local_from_normal}
use Rattle.s2cover.specs.Working.Descent.{blocks, covering_set, form_faces, is_outer, set_for}
use Rattle.s2cover.proofs.Visits.{same_set}
use Rattle.s2cover.proofs.Formed.{found_none, found_next, found_many, found_stops, found_long, covering_normal}
use Rattle.s2cover.proofs.Formed.{covering_leaves}
use Rattle.s2cover.proofs.covering.cover.Goals as goal

pub loop-face-init : goal.loop-face-init
loop-face-init g c =
    let r = c.args.region.now in
    let T = set_for (is_outer c.args.kind) (g.R.Quartered.outer r) (g.R.Quartered.inner r) in
    let S = blocks (is_outer c.args.kind) T (30 - c.args.level) in
    found_none S (30 - c.args.level) c.new-list.result.items (vec_len c.new-list.result) c.args.max
    c.new-list.ensures.items c.new-list.ensures.len

pub visit-requires : goal.visit-requires
visit-requires g c =
    let top = c.in_ok-top in
    let l = top.ensures.level in
    let above : level_of (g.R.At.Quadrant.id top.top) ≤ c.args.level = omega arith in
    search rules

pub returns-in_err-visit-clause-many : goal.returns-in_err-visit-clause-many
returns-in_err-visit-clause-many g c =
    let from = c.from_residual-in_err-visit in
    let p = err_from_is_err_and from.result from.ensures.1 in
    let r = c.args.region.now in
    let T = set_for (is_outer c.args.kind) (g.R.Quartered.outer r) (g.R.Quartered.inner r) in
    let S = blocks (is_outer c.args.kind) T (30 - c.args.level) in
    let top = c.in_ok-top in
    let same = same_set (is_outer c.args.kind) top.ensures.outer top.ensures.inner in
    rw (p.1, p.2) (λ e u n. found_many (is_outer c.args.kind) T c.args.level (c.loop-face.face + 1) u c.args.max
    (let t = c.loop-face-test.true in omega arith)
    (found_stops S (30 - c.args.level) c.loop-face.face (g.R.At.Quadrant.id top.top) c.loop-face.list.items
    (vec_len c.loop-face.list) c.args.max top.ensures.level top.ensures.face c.loop-face.list.ok.0 c.loop-face.invariant
    (rw same at (c.in_err-visit.ensures.many e).1)) n)

pub returns-then-len-max-clause-many : goal.returns-then-len-max-clause-many
returns-then-len-max-clause-many g c e u n =
    let r = c.args.region.now in
    let T = set_for (is_outer c.args.kind) (g.R.Quartered.outer r) (g.R.Quartered.inner r) in
    let top = c.in_ok-top in
    let same = same_set (is_outer c.args.kind) top.ensures.outer top.ensures.inner in
    found_long (is_outer c.args.kind) T c.args.level c.loop-face.face (g.R.At.Quadrant.id top.top)
    c.loop-face.list.items c.visit.new.list.items (vec_len c.loop-face.list) (vec_len c.visit.new.list) c.args.max u
    c.loop-face-test.true top.ensures.level top.ensures.face c.visit.new.list.ok.0 c.loop-face.invariant
    (rw same at c.in_ok-visit.ensures.list)
    (let m = c.if-len-max.true in let l = c.len.ensures in omega arith) n

pub loop-face-preserved : goal.loop-face-preserved
loop-face-preserved g c =
    let r = c.args.region.now in
    let T = set_for (is_outer c.args.kind) (g.R.Quartered.outer r) (g.R.Quartered.inner r) in
    let S = blocks (is_outer c.args.kind) T (30 - c.args.level) in
    let top = c.in_ok-top in
    let same = same_set (is_outer c.args.kind) top.ensures.outer top.ensures.inner in
    found_next S (30 - c.args.level) c.loop-face.face (g.R.At.Quadrant.id top.top) c.loop-face.list.items
    c.visit.new.list.items (vec_len c.loop-face.list) (vec_len c.visit.new.list) c.args.max top.ensures.level
    top.ensures.face c.loop-face.invariant (rw same at c.in_ok-visit.ensures.list)
    (let f = c.if-len-max.false in let l = c.len.ensures in omega arith)

pub from_normalized-requires : goal.from_normalized-requires
from_normalized-requires g c =
    let r = c.args.region.now in
    let T = set_for (is_outer c.args.kind) (g.R.Quartered.outer r) (g.R.Quartered.inner r) in
    let S = blocks (is_outer c.args.kind) T (30 - c.args.level) in
    let six : c.loop-face.face ≡ 6 = (let f = c.loop-face-test.false in let e = c.loop-face.auto.face-end in
    omega arith) in
    let is : c.loop-face.list.items ≡ form_faces S (30 - c.args.level) 6 = rw six at c.loop-face.invariant.cells in
    rw is (local_from_normal (covering_set (is_outer c.args.kind) T c.args.level) _
    (covering_normal (is_outer c.args.kind) T c.args.level))

pub returns-clause-leaves : goal.returns-clause-leaves
returns-clause-leaves g c =
    let r = c.args.region.now in
    let T = set_for (is_outer c.args.kind) (g.R.Quartered.outer r) (g.R.Quartered.inner r) in
    let S = blocks (is_outer c.args.kind) T (30 - c.args.level) in
    let six : c.loop-face.face ≡ 6 = (let f = c.loop-face-test.false in let e = c.loop-face.auto.face-end in
    omega arith) in
    let is : c.from_normalized.result.cells ≡ form_faces S (30 - c.args.level) 6 = c.from_normalized.ensures.value
    ∙ (rw six at c.loop-face.invariant.cells) in
    rw is (covering_leaves (is_outer c.args.kind) T c.args.level)

pub returns-clause-normal : goal.returns-clause-normal
returns-clause-normal g c =
    let r = c.args.region.now in
    let T = set_for (is_outer c.args.kind) (g.R.Quartered.outer r) (g.R.Quartered.inner r) in
    let S = blocks (is_outer c.args.kind) T (30 - c.args.level) in
    let six : c.loop-face.face ≡ 6 = (let f = c.loop-face-test.false in let e = c.loop-face.auto.face-end in
    omega arith) in
    let is : c.from_normalized.result.cells ≡ form_faces S (30 - c.args.level) 6 = c.from_normalized.ensures.value
    ∙ (rw six at c.loop-face.invariant.cells) in
    rw is (covering_normal (is_outer c.args.kind) T c.args.level)

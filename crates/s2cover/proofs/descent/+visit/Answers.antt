use Rattle.std.proofs.Common.{rules, arith, ◌≡◌, ◌+◌, ◌-◌, ◌≤◌, true, false, [], ◌∷◌, length, vec_len, refl}
use Rattle.std.proofs.Common.{◌∙◌, ap, sym, inl, inr}
use Rattle.std.proofs.lemmas.Bool.{both_ways}
use Rattle.std.proofs.lemmas.Result.{err_from_is_err_and}
use Rattle.s2cell.specs.Cell.{IsCell, level_of, place_of}
use Rattle.s2list.specs.Union.{LiesIn}
use Rattle.s2cover.specs.Coverings.{LiesOutside}
use Rattle.s2cover.specs.Working.Descent.{blocks, depth_of, is_outer, set_for}
use Rattle.s2cover.proofs.Visits.{in_whole, out_nothing, cross_whole, cross_nothing, same_list, one_more, is_full}
use Rattle.s2cover.proofs.Visits.{too_many, Both, visited_next, whole_next, list_next, many_next, many_child, id_of}
use Rattle.s2cover.proofs.Visits.{all_children, some_children, kept, child_from, child_stops, visited_none, Held}
use Rattle.s2cover.proofs.Visits.{held_full, held_none, deeper, set_for_all, set_for_outer, set_for_inner, same_set}
use Rattle.s2cover.proofs.descent.+visit.Goals as goal
use Rattle.s2cover.proofs.descent.+visit.Goals.{then-full, else-full, then-full-2, else-full-2}
use Rattle.s2cover.proofs.descent.+visit.Goals.{else-not-full-via-then-not-full+else-len-max}
use Rattle.s2cover.proofs.descent.+visit.Goals.{else-not-full-via-else-not-full}

pub loop-digit-init : goal.loop-digit-init
loop-digit-init g t c =
    let q = c.args.quadrant.now in
    let T = set_for (is_outer c.args.kind) (g.Q.Quadrant.outer q) (g.Q.Quadrant.inner q) in
    let S = blocks (is_outer c.args.kind) T (30 - c.args.level) in
    visited_none S (30 - c.args.level) (depth_of (g.Q.Quadrant.id q)) (place_of (g.Q.Quadrant.id q))
    c.args.list.now.items (vec_len c.args.list.now) c.args.loose c.args.max c.len-before.result c.requires.room
    c.len-before.ensures

pub child-requires : goal.child-requires
child-requires g t c =
    let i : IsCell c.cell-cell.result = (level_of c.cell-cell.result, place_of c.cell-cell.result, c.id.ensures.cell) in
    let cell = rw c.cell-cell.ensures at i in
    let n = c.if-level.false in
    let v = c.level.ensures.value ∙ ap level_of c.cell-cell.ensures in
    let deep : level_of (g.Q.Quadrant.id c.args.quadrant.now) + 1 ≤ 30 = (let k = c.requires.above in
    let m = c.requires.level in omega arith) in
    search rules

pub visit-requires : goal.visit-requires
visit-requires g t c κs within =
    let child = c.in_ok-child-in-Cross-2 in
    let q = c.args.quadrant.now in
    let lv = child.ensures.level in
    let n = c.if-level.false in
    let v = c.level.ensures.value ∙ ap level_of c.cell-cell.ensures in
    let above : level_of (g.Q.Quadrant.id child.child) ≤ c.args.level = (let k = c.requires.above in omega arith) in
    let held : Held (level_of (g.Q.Quadrant.id q)) (level_of (g.Q.Quadrant.id child.child)) c.args.loose
    c.loop-digit.digit c.if-full.held c.args.max (vec_len c.loop-digit.list) =
    elim c.if-full.branch [
      | then-full w ↦ held_full (level_of (g.Q.Quadrant.id q)) (level_of (g.Q.Quadrant.id child.child)) c.if-full.held
          lv c.loop-digit-test.true c.requires.loose w.held-is w.if-full.true c.loop-digit.invariant
      | else-full w ↦ held_none (level_of (g.Q.Quadrant.id q)) (level_of (g.Q.Quadrant.id child.child)) c.if-full.held
          w.held-is w.if-full.false c.loop-digit.invariant
    ] in
    let bound = held.bound in
    let room = held.room in
    search rules

pub returns-in_err-inside-in-Cross-2-clause-many : goal.returns-in_err-inside-in-Cross-2-clause-many
returns-in_err-inside-in-Cross-2-clause-many g t c =
    let from = c.from_residual-in_err-inside-in-Cross-2 in
    let p = err_from_is_err_and from.result from.ensures.1 in
    rw (p.1, p.2) (λ e.
    let child = c.in_ok-child-in-Cross-2 in
    let q = c.args.quadrant.now in
    let T = set_for (is_outer c.args.kind) (g.Q.Quadrant.outer q) (g.Q.Quadrant.inner q) in
    let S = blocks (is_outer c.args.kind) T (30 - c.args.level) in
    let grain = 30 - c.args.level in
    let d = depth_of (g.Q.Quadrant.id q) in
    let m = place_of (g.Q.Quadrant.id q) in
    let same = same_set (is_outer c.args.kind) child.ensures.outer child.ensures.inner in
    let many = rw same at (c.in_err-inside-in-Cross-2.ensures.many e) in
    let s = child_stops S grain d m c.loop-digit.digit (depth_of (g.Q.Quadrant.id child.child))
    (place_of (g.Q.Quadrant.id child.child)) c.args.max (vec_len c.loop-digit.list) child.ensures.depth
    child.ensures.place many in
    many_child (deeper (g.Q.Quadrant.id q) c.requires.above c.requires.level
    (c.level.ensures.value ∙ ap level_of c.cell-cell.ensures) c.if-level.false)
    c.loop-digit-test.true c.args.list.now.ok.0 c.loop-digit.list.ok.0 c.loop-digit.invariant s.0 s.1)

pub returns-then-len-max-clause-many : goal.returns-then-len-max-clause-many
returns-then-len-max-clause-many g t c =
    λ e.
    let child = c.in_ok-child-in-Cross-2 in
    let q = c.args.quadrant.now in
    let T = set_for (is_outer c.args.kind) (g.Q.Quadrant.outer q) (g.Q.Quadrant.inner q) in
    let S = blocks (is_outer c.args.kind) T (30 - c.args.level) in
    let grain = 30 - c.args.level in
    let d = depth_of (g.Q.Quadrant.id q) in
    let m = place_of (g.Q.Quadrant.id q) in
    let same = same_set (is_outer c.args.kind) child.ensures.outer child.ensures.inner in
    let kid = child_from S grain d m c.loop-digit.digit c.loop-digit.list.items c.visit.new.list.items
    c.in_ok-inside-in-Cross-2.inside (depth_of (g.Q.Quadrant.id child.child)) (place_of (g.Q.Quadrant.id child.child))
    child.ensures.depth child.ensures.place (rw same at c.in_ok-inside-in-Cross-2.ensures.list)
    (rw same at c.in_ok-inside-in-Cross-2.ensures.full) in
    let both : Both c.loop-digit.full c.in_ok-inside-in-Cross-2.inside c.if-full-2.full =
    elim c.if-full-2.branch [
      | then-full-2 w ↦ inl (w.if-full-2.true, w.full-is)
      | else-full-2 w ↦ inr (w.if-full-2.false, w.full-is ∙ w.if-full-2.false)
    ] in
    let list = list_next S grain d m c.loop-digit.digit c.args.list.now.items c.loop-digit.list.items
    c.visit.new.list.items c.loop-digit.invariant.list kid.list in
    let below = deeper (g.Q.Quadrant.id q) c.requires.above c.requires.level
    (c.level.ensures.value ∙ ap level_of c.cell-cell.ensures) c.if-level.false in
    let whole = whole_next
    S d m c.loop-digit.digit (omega arith) c.loop-digit-test.true c.loop-digit.invariant.whole kid.full both in
    let len : vec_len c.visit.new.list ≡ length c.visit.new.list.items = c.visit.new.list.ok.0 in
    many_next S grain d m c.loop-digit.digit c.args.list.now.items c.visit.new.list.items (vec_len c.args.list.now)
    c.args.max c.if-full-2.full below c.loop-digit-test.true c.args.list.now.ok.0 list whole (search rules)
    (omega (arith, c.len.ensures, c.if-len-max.true))

pub loop-digit-preserved : goal.loop-digit-preserved
loop-digit-preserved g t c =
    let child = c.in_ok-child-in-Cross-2 in
    let q = c.args.quadrant.now in
    let T = set_for (is_outer c.args.kind) (g.Q.Quadrant.outer q) (g.Q.Quadrant.inner q) in
    let S = blocks (is_outer c.args.kind) T (30 - c.args.level) in
    let grain = 30 - c.args.level in
    let d = depth_of (g.Q.Quadrant.id q) in
    let m = place_of (g.Q.Quadrant.id q) in
    let same = same_set (is_outer c.args.kind) child.ensures.outer child.ensures.inner in
    let kid = child_from S grain d m c.loop-digit.digit c.loop-digit.list.items c.visit.new.list.items
    c.in_ok-inside-in-Cross-2.inside (depth_of (g.Q.Quadrant.id child.child)) (place_of (g.Q.Quadrant.id child.child))
    child.ensures.depth child.ensures.place (rw same at c.in_ok-inside-in-Cross-2.ensures.list)
    (rw same at c.in_ok-inside-in-Cross-2.ensures.full) in
    let both : Both c.loop-digit.full c.in_ok-inside-in-Cross-2.inside c.if-full-2.full =
    elim c.if-full-2.branch [
      | then-full-2 w ↦ inl (w.if-full-2.true, w.full-is)
      | else-full-2 w ↦ inr (w.if-full-2.false, w.full-is ∙ w.if-full-2.false)
    ] in
    visited_next (vec_len c.visit.new.list)
    (deeper (g.Q.Quadrant.id q) c.requires.above c.requires.level
    (c.level.ensures.value ∙ ap level_of c.cell-cell.ensures) c.if-level.false)
    c.loop-digit-test.true c.loop-digit.list.ok.0 c.visit.new.list.ok.0 c.loop-digit.invariant kid both
    (λ f. elim c.else-not-full.branch [
      | else-not-full-via-then-not-full+else-len-max w ↦ omega (arith, w.len.ensures, w.if-len-max.false)
      | else-not-full-via-else-not-full w ↦ absurd (both_ways c.if-full-2.full f w.if-not-full.false)
    ])

pub returns-in-Out : goal.returns-in-Out
returns-in-Out g t c =
    let q = c.args.quadrant.now in
    let T = set_for (is_outer c.args.kind) (g.Q.Quadrant.outer q) (g.Q.Quadrant.inner q) in
    let n = out_nothing (is_outer c.args.kind) T (30 - c.args.level) (g.Q.Quadrant.id q)
    (let k = c.requires.above in omega arith)
    (set_for_all (λ S. LiesOutside S (g.Q.Quadrant.id q)) (is_outer c.args.kind) (c.in-Out.ensures.out.0 refl)
    (c.in-Out.ensures.none refl)) in
    record {
      list = same_list c.settle.result _ c.args.list.now.items _ n.cells c.settle.ensures.ok;
      full = is_full c.settle.result _ false _ n.holds c.settle.ensures.ok;
      room = search rules;
      many = too_many c.settle.result _ _ c.args.max (vec_len c.args.list.now) _ n.holds c.settle.ensures.many;
    }

pub returns-in-In : goal.returns-in-In
returns-in-In g t c =
    let q = c.args.quadrant.now in
    let T = set_for (is_outer c.args.kind) (g.Q.Quadrant.outer q) (g.Q.Quadrant.inner q) in
    let i : IsCell c.cell-cell.result = (level_of c.cell-cell.result, place_of c.cell-cell.result, c.id.ensures.cell) in
    let cell = rw c.cell-cell.ensures at i in
    let n = in_whole (is_outer c.args.kind) T (30 - c.args.level) (g.Q.Quadrant.id q)
    (let k = c.requires.above in omega arith)
    (set_for_all (λ S. LiesIn S (g.Q.Quadrant.id q)) (is_outer c.args.kind) (c.in-In.ensures.all refl)
    (c.in-In.ensures.inside.0 refl)) in
    record {
      list = one_more c.take.result c.args.list.now.items c.take.new.list.items _ c.cell-cell.result
          (n.cells ∙ ap (λ z. z ∷ []) (id_of cell ∙ sym c.cell-cell.ensures)) c.take.ensures.list;
      full = is_full c.take.result _ true _ n.holds c.take.ensures.list;
      room = search rules;
      many = search rules;
    }

pub returns-then-whole : goal.returns-then-whole
returns-then-whole g t c =
    let q = c.args.quadrant.now in
    let T = set_for (is_outer c.args.kind) (g.Q.Quadrant.outer q) (g.Q.Quadrant.inner q) in
    let i : IsCell c.cell-cell.result = (level_of c.cell-cell.result, place_of c.cell-cell.result, c.id.ensures.cell) in
    let cell = rw c.cell-cell.ensures at i in
    let whole = sym c.has_crossing-whole.ensures ∙ c.if-whole.true in
    let n = cross_whole (is_outer c.args.kind) T (30 - c.args.level) (g.Q.Quadrant.id q) whole
    (let e = c.if-level.true in let v = c.level.ensures.value ∙ ap level_of c.cell-cell.ensures in omega arith)
    (λ h. let e = c.in-Cross.ensures.out.1
    (rw (set_for_outer (g.Q.Quadrant.outer q) (g.Q.Quadrant.inner q) whole) at h) in cc) in
    record {
      list = one_more c.take-then-whole.result c.args.list.now.items c.take-then-whole.new.list.items _
          c.cell-cell.result (n.cells ∙ ap (λ z. z ∷ []) (id_of cell ∙ sym c.cell-cell.ensures))
          c.take-then-whole.ensures.list;
      full = is_full c.take-then-whole.result _ true _ n.holds c.take-then-whole.ensures.list;
      room = search rules;
      many = search rules;
    }

pub returns-else-whole : goal.returns-else-whole
returns-else-whole g t c =
    let q = c.args.quadrant.now in
    let T = set_for (is_outer c.args.kind) (g.Q.Quadrant.outer q) (g.Q.Quadrant.inner q) in
    let whole = sym c.has_crossing-whole.ensures ∙ c.if-whole.false in
    let n = cross_nothing (is_outer c.args.kind) T (30 - c.args.level) (g.Q.Quadrant.id q) whole
    (let e = c.if-level.true in let v = c.level.ensures.value ∙ ap level_of c.cell-cell.ensures in omega arith)
    (λ h. let e = c.in-Cross.ensures.inside.1
    (rw (set_for_inner (g.Q.Quadrant.outer q) (g.Q.Quadrant.inner q) whole) at h) in cc) in
    record {
      list = same_list c.settle-else-whole.result _ c.args.list.now.items _ n.cells c.settle-else-whole.ensures.ok;
      full = is_full c.settle-else-whole.result _ false _ n.holds c.settle-else-whole.ensures.ok;
      room = search rules;
      many = too_many c.settle-else-whole.result _ _ c.args.max (vec_len c.args.list.now) _ n.holds
          c.settle-else-whole.ensures.many;
    }

pub returns-then-full-3 : goal.returns-then-full-3
returns-then-full-3 g t c =
    let q = c.args.quadrant.now in
    let i : IsCell c.cell-cell.result = (level_of c.cell-cell.result, place_of c.cell-cell.result, c.id.ensures.cell) in
    let cell = rw c.cell-cell.ensures at i in
    let n = all_children (deeper (g.Q.Quadrant.id q) c.requires.above c.requires.level
    (c.level.ensures.value ∙ ap level_of c.cell-cell.ensures) c.if-level.false)
    (let a = c.loop-digit-test.false in let b = c.loop-digit.auto.digit-end in omega arith) c.if-full-3.true
    c.args.list.now.ok.0 c.loop-digit.invariant in
    let k = c.truncate.ensures.items ∙ kept c.args.list.now.ok.0 c.loop-digit.invariant in
    record {
      list = rw k at (one_more c.take-then-full-3.result c.truncate.new.self.items c.take-then-full-3.new.list.items _
          c.cell-cell.result (n.cells ∙ ap (λ z. z ∷ []) (id_of cell ∙ sym c.cell-cell.ensures))
          c.take-then-full-3.ensures.list);
      full = is_full c.take-then-full-3.result _ true _ n.holds c.take-then-full-3.ensures.list;
      room = search rules;
      many = search rules;
    }

pub returns-else-full-3 : goal.returns-else-full-3
returns-else-full-3 g t c =
    let s = some_children (deeper (g.Q.Quadrant.id c.args.quadrant.now) c.requires.above c.requires.level
    (c.level.ensures.value ∙ ap level_of c.cell-cell.ensures) c.if-level.false)
    (let a = c.loop-digit-test.false in let b = c.loop-digit.auto.digit-end in omega arith) c.if-full-3.false
    c.loop-digit.invariant in
    record { list = s.1; full = s.0; room = search rules; many = search rules }

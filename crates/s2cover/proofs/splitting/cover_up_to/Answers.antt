use Rattle.std.proofs.Common.{arith, [], ◌≡◌, ◌+◌, ◌<◌, ◌≤◌, length, refl, ap, ◌∙◌, ⊎_elim, inl, inr, true, ℕ}
use Rattle.s2list.specs.Union.{has_leaf}
use Rattle.s2cover.specs.Near.{work_allowed}
use Rattle.s2cover.specs.Working.Descent.{is_outer}
use Rattle.s2cover.proofs.Splittings.{trimmed, ready, closed_kept, closed_leaf, each_from, form_only}
use Rattle.s2cover.proofs.Splittings.{form_level, kept_cells, near_inner, near_outer, sound_of}
use Rattle.s2cover.proofs.splitting.cover_up_to.Goals as goal

pub enter-requires : goal.enter-requires
enter-requires g c = record { kept = c.new-kept.ensures.items; ahead = c.new-ahead.ensures.items }

pub loop-level-init : goal.loop-level-init
loop-level-init g c =
    let r = c.args.region.now in
    let size = g.R.RoughRegion.extent r in
    let begun = trimmed g.R.RoughRegion.id (g.R.RoughRegion.sound r) g.R.RoughRegion.work
    (g.R.RoughRegion.outside r) (g.R.RoughRegion.inside r) (g.R.RoughRegion.crosses r)
    (is_outer c.args.kind) c.args.most c.trim.new.kept.items c.trim.ensures.outer c.trim.ensures.inner
    c.in_ok-enter.ensures.few (c.in_ok-enter.ensures.front (is_outer c.args.kind) (work_allowed size c.args.most)
    c.args.most c.args.deepest) in
    let left : work_allowed size c.args.most ≤ 0 + c.budget-left.result = (let b = c.budget-left.ensures
    ∙ ap (λ (n : ℕ). work_allowed n c.args.most) c.size.ensures in omega arith) in
    (begun.0, [], left, begun.1)

pub leave_out-requires : goal.leave_out-requires
leave_out-requires g c =
    let r = c.args.region.now in
    record {
      sizes = c.loop-level.invariant.0;
      sound = sound_of g.R.RoughRegion.id (g.R.RoughRegion.sound r) g.R.RoughRegion.work
          (g.R.RoughRegion.outside r) (g.R.RoughRegion.inside r) (g.R.RoughRegion.crosses r)
          c.loop-level.ahead.items c.loop-level.invariant.3.ahead_are;
    }

pub split-requires : goal.split-requires
split-requires g c =
    let r = c.args.region.now in
    let below : c.loop-level.level < 30 = (let t = c.loop-level-test.true in let l = c.requires.level in omega arith) in
    let i = c.loop-level.invariant in
    let front = c.in_ok-leave_out.ensures.front (work_allowed (g.R.RoughRegion.extent r) c.args.most) c.args.deepest
    c.loop-level.level i.1 i.2 i.3 in
    record {
      ahead = ready g.R.RoughRegion.id (g.R.RoughRegion.sound r) g.R.RoughRegion.work
          (g.R.RoughRegion.outside r) (g.R.RoughRegion.inside r) (g.R.RoughRegion.crosses r)
          c.leave_out.new.ahead.items below front.2;
      most = c.requires.most;
      sizes = c.in_ok-leave_out.ensures.sizes;
    }

pub loop-level-preserved : goal.loop-level-preserved
loop-level-preserved g c =
    let r = c.args.region.now in
    let allowed = work_allowed (g.R.RoughRegion.extent r) c.args.most in
    let i = c.loop-level.invariant in
    let front = c.in_ok-leave_out.ensures.front allowed c.args.deepest c.loop-level.level i.1 i.2 i.3 in
    let next : c.loop-level.level + 1 ≤ c.args.deepest = (let t = c.loop-level-test.true in omega arith) in (
      c.in_ok-split.ensures.sizes,
      front.0,
      front.1,
      c.in_ok-split.ensures.front allowed c.args.deepest c.loop-level.level front.0 next front.2,
    )

pub returns-clause-all : goal.returns-clause-all
returns-clause-all g c t x l =
    let r = c.args.region.now in
    ⊎_elim
    (λ (y : has_leaf c.close.new.kept.items x ≡ true). inl (c.from_cells.ensures.leaves x ∙ y)) inr
    (closed_leaf g.R.RoughRegion.id (g.R.RoughRegion.sound r) g.R.RoughRegion.work
    (g.R.RoughRegion.outside r) (g.R.RoughRegion.inside r) (g.R.RoughRegion.crosses r)
    c.close.new.kept.items (c.in_ok-close.ensures.times t) t x l c.loop-level.invariant.3)

pub returns-clause-only : goal.returns-clause-only
returns-clause-only g c t x h =
    let r = c.args.region.now in
    form_only c.from_cells.result.cells c.close.new.kept.items t
    (closed_kept g.R.RoughRegion.id (g.R.RoughRegion.sound r) g.R.RoughRegion.work
    (g.R.RoughRegion.outside r) (g.R.RoughRegion.inside r) (g.R.RoughRegion.crosses r)
    (is_outer c.args.kind) c.close.new.kept.items
    (λ t. each_from g.R.RoughRegion.id _ _ _ (c.in_ok-close.ensures.each t))
    c.in_ok-close.ensures.inner c.loop-level.invariant.3)
    c.from_cells.ensures.leaves x h

pub returns-clause-outer : goal.returns-clause-outer
returns-clause-outer g c t =
    let r = c.args.region.now in
    let end : c.loop-level.level ≡ c.args.deepest = (let u = c.loop-level-test.false in
    let e = c.loop-level.auto.level-end in omega arith) in
    near_outer g.R.RoughRegion.id (g.R.RoughRegion.sound r) g.R.RoughRegion.work
    (g.R.RoughRegion.outside r) (g.R.RoughRegion.inside r) (g.R.RoughRegion.crosses r)
    c.from_cells.result.cells c.close.new.kept.items t end c.from_cells.ensures.leaves c.from_cells.ensures.normal
    (c.in_ok-close.ensures.times t)
    (c.in_ok-close.ensures.len t) (each_from g.R.RoughRegion.id _ _ _ (c.in_ok-close.ensures.each t))
    (closed_kept g.R.RoughRegion.id (g.R.RoughRegion.sound r) g.R.RoughRegion.work
    (g.R.RoughRegion.outside r) (g.R.RoughRegion.inside r) (g.R.RoughRegion.crosses r)
    (is_outer c.args.kind) c.close.new.kept.items
    (λ t. each_from g.R.RoughRegion.id _ _ _ (c.in_ok-close.ensures.each t))
    c.in_ok-close.ensures.inner c.loop-level.invariant.3)
    c.loop-level.invariant.3

pub returns-clause-inner : goal.returns-clause-inner
returns-clause-inner g c t =
    let r = c.args.region.now in
    let end : c.loop-level.level ≡ c.args.deepest = (let u = c.loop-level-test.false in
    let e = c.loop-level.auto.level-end in omega arith) in
    near_inner g.R.RoughRegion.id (g.R.RoughRegion.sound r) g.R.RoughRegion.work
    (g.R.RoughRegion.outside r) (g.R.RoughRegion.inside r) (g.R.RoughRegion.crosses r)
    c.from_cells.result.cells c.close.new.kept.items t end c.from_cells.ensures.leaves c.from_cells.ensures.normal
    (c.in_ok-close.ensures.inner t)
    (closed_kept g.R.RoughRegion.id (g.R.RoughRegion.sound r) g.R.RoughRegion.work
    (g.R.RoughRegion.outside r) (g.R.RoughRegion.inside r) (g.R.RoughRegion.crosses r)
    (is_outer c.args.kind) c.close.new.kept.items
    (λ t. each_from g.R.RoughRegion.id _ _ _ (c.in_ok-close.ensures.each t))
    c.in_ok-close.ensures.inner c.loop-level.invariant.3)
    c.loop-level.invariant.3

pub returns-clause-most : goal.returns-clause-most
returns-clause-most g c t =
    let r = c.args.region.now in
    let few = c.from_cells.ensures.shortest c.close.new.kept.items (kept_cells c.close.new.kept.items
    (closed_kept g.R.RoughRegion.id (g.R.RoughRegion.sound r) g.R.RoughRegion.work
    (g.R.RoughRegion.outside r) (g.R.RoughRegion.inside r) (g.R.RoughRegion.crosses r)
    (is_outer c.args.kind) c.close.new.kept.items
    (λ t. each_from g.R.RoughRegion.id _ _ _ (c.in_ok-close.ensures.each t))
    c.in_ok-close.ensures.inner c.loop-level.invariant.3)) (λ x. refl) in
    let len = c.in_ok-close.ensures.len t in
    let sizes = c.loop-level.invariant.0.few t in
    omega arith

pub returns-clause-within : goal.returns-clause-within
returns-clause-within g c t =
    let r = c.args.region.now in
    let few = c.from_cells.ensures.shortest c.close.new.kept.items (kept_cells c.close.new.kept.items
    (closed_kept g.R.RoughRegion.id (g.R.RoughRegion.sound r) g.R.RoughRegion.work
    (g.R.RoughRegion.outside r) (g.R.RoughRegion.inside r) (g.R.RoughRegion.crosses r)
    (is_outer c.args.kind) c.close.new.kept.items
    (λ t. each_from g.R.RoughRegion.id _ _ _ (c.in_ok-close.ensures.each t))
    c.in_ok-close.ensures.inner c.loop-level.invariant.3)) (λ x. refl) in
    let len = ap length (c.in_ok-close.ensures.inner t) in
    let sizes = c.loop-level.invariant.0.less t in
    omega arith

pub returns-clause-level : goal.returns-clause-level
returns-clause-level g c =
    let r = c.args.region.now in
    form_level c.from_cells.result.cells c.close.new.kept.items
    (closed_kept g.R.RoughRegion.id (g.R.RoughRegion.sound r) g.R.RoughRegion.work
    (g.R.RoughRegion.outside r) (g.R.RoughRegion.inside r) (g.R.RoughRegion.crosses r)
    (is_outer c.args.kind) c.close.new.kept.items
    (λ t. each_from g.R.RoughRegion.id _ _ _ (c.in_ok-close.ensures.each t))
    c.in_ok-close.ensures.inner c.loop-level.invariant.3)
    c.from_cells.ensures.normal

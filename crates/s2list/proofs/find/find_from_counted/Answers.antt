use Rattle.std.proofs.Common.{◌≡◌, ◌+◌, ◌≤◌, ◌↔◌, IsTrue, subst, get_or, arith}
use Rattle.s2cell.specs.Cell.{first_leaf, size_of}
use Rattle.s2list.specs.Packed.{FirstEndBy}
use Rattle.s2list.proofs.Finding.{ended_to}
use Rattle.s2list.proofs.Narrowing.{later}
use Rattle.s2list.proofs.find.find_from_counted.Goals as goal

pub returns-then-not-ends_at-clause-next : goal.returns-then-not-ends_at-clause-next
returns-then-not-ends_at-clause-next g c p b h =
    let u = g.C.Listed.ids c.args.cells.now in
    let t = c.ends_at.ensures.answer p.cells in
    let test : IsTrue c.ends_at.result
    ↔ (first_leaf (get_or u c.args.start 0) + size_of (get_or u c.args.start 0) ≤ c.args.lo) =
    (λ e. (t.0 e).1, λ l. t.1 (h, l)) in
    later _ _ _ test c.if-not-ends_at.true

pub overflow_add-next : goal.overflow_add-next
overflow_add-next g c = let f = c.ends_at.ensures.fits c.if-not-ends_at.false in omega arith

pub returns-then-not-ends_at-2-clause-within : goal.returns-then-not-ends_at-2-clause-within
returns-then-not-ends_at-2-clause-within g c = let w = c.ends_at.ensures.within c.if-not-ends_at.false in omega arith

pub returns-then-not-ends_at-2-clause-ended : goal.returns-then-not-ends_at-2-clause-ended
returns-then-not-ends_at-2-clause-ended g c p b =
    let e = (c.ends_at.ensures.answer p.cells).0 c.if-not-ends_at.false in
    ended_to _ c.args.start c.args.lo p e.0 e.1

pub returns-then-not-ends_at-2-clause-next : goal.returns-then-not-ends_at-2-clause-next
returns-then-not-ends_at-2-clause-next g c p b h =
    let u = g.C.Listed.ids c.args.cells.now in
    let t = c.ends_at-2.ensures.answer p.cells in
    let test : IsTrue c.ends_at-2.result
    ↔ (first_leaf (get_or u (c.args.start + 1) 0) + size_of (get_or u (c.args.start + 1) 0) ≤ c.args.lo) =
    (λ e. (t.0 e).1, λ l. t.1 (h, l)) in
    later _ _ _ test c.if-not-ends_at-2.true

pub returns-then-not-ends_at-2-clause-some : goal.returns-then-not-ends_at-2-clause-some
returns-then-not-ends_at-2-clause-some g c h =
    let s = c.ends_at.ensures.some h in
    let l = c.ends_at-2.ensures.least in
    omega arith

pub leap_on-requires : goal.leap_on-requires
leap_on-requires g c = let w = c.ends_at-2.ensures.within c.if-not-ends_at-2.false in omega arith

pub returns-clause-ended : goal.returns-clause-ended
returns-clause-ended g c p b =
    let u = g.C.Listed.ids c.args.cells.now in
    let e = (c.ends_at-2.ensures.answer p.cells).0 c.if-not-ends_at-2.false in
    let same : (c.args.start + 1) + 1 ≡ c.args.start + 2 = omega arith in
    c.leap_on.ensures.ended p
    (subst (λ n. FirstEndBy u n c.args.lo) same (ended_to _ (c.args.start + 1) c.args.lo p e.0 e.1))

pub returns-clause-next : goal.returns-clause-next
returns-clause-next g c p b =
    let u = g.C.Listed.ids c.args.cells.now in
    let e = (c.ends_at-2.ensures.answer p.cells).0 c.if-not-ends_at-2.false in
    let same : (c.args.start + 1) + 1 ≡ c.args.start + 2 = omega arith in
    c.leap_on.ensures.next p
    (subst (λ n. FirstEndBy u n c.args.lo) same (ended_to _ (c.args.start + 1) c.args.lo p e.0 e.1))

pub returns-clause-some : goal.returns-clause-some
returns-clause-some g c h =
    let s = c.ends_at.ensures.some h in
    let l = c.ends_at-2.ensures.least in
    let m = c.leap_on.ensures.least in
    omega arith

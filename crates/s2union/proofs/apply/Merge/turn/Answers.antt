use Rattle.std.proofs.Common.{◌≡◌, ◌-◌, ◌<◌, [], ◌∷◌, arith, sym, subst, drop, get_or, length}
use Rattle.s2union.specs.Working.Merge.{Left, CanApply, Goes}
use Rattle.s2union.proofs.Following.{part_packed}
use Rattle.s2union.proofs.Items.{some_from_test}
use Rattle.s2union.proofs.MergeSteps.{put_turn, keep_turn, take_turn, put_misfit, out_misfit, after_first}
use Rattle.s2union.proofs.MergeSteps.{after_first_ascends, first_and_rest}
use Rattle.s2union.proofs.apply.Merge.turn.Goals as goal
use Rattle.s2union.proofs.apply.Merge.turn.Goals.{After-index-self-0}

-- the list is the cell that was looked at, and the others
some : (c : After-index-self-0) → 0 < length c.self.inside.cells.now
some c = some_from_test _ _ c.is_empty.ensures c.if-is_empty.false

list : (c : After-index-self-0) →
    c.self.inside.cells.now ≡ get_or c.self.inside.cells.now 0 c.index-self-0.result ∷ drop 1 c.self.inside.cells.now
list c = first_and_rest c.self.inside.cells.now c.index-self-0.result (some c)

pub returns-in-Less-clause-turn : goal.returns-in-Less-clause-turn
returns-in-Less-clause-turn c =
    let s = c.self.inside in
    let x = get_or s.cells.now 0 c.index-self-0.result in
    let d = (goal.at.returns-in-Less-clause-turn c).After-index-self-0 in
    rw after_first (subst (λ (o : Left). Goes (get_or s.put.now 0 c.index-self-0-in-Less.result ∷ []) o (record {
      out =
          s.out.now;
      put = drop 1 s.put.now;
      cells = s.cells.now;
    })) c.self.view_is (put_turn s.out.now s.put.now s.cells.now (drop 1 s.cells.now) x
    c.index-self-0-in-Less.result (list d) c.self.invariant c.in-Less.ensures))

pub returns-in-Equal-clause-turn : goal.returns-in-Equal-clause-turn
returns-in-Equal-clause-turn c f =
    let s = c.self.inside in
    let x = get_or s.cells.now 0 c.index-self-0.result in
    let d = (goal.at.returns-in-Equal-clause-turn c).After-index-self-0 in
    put_misfit s.out.now s.put.now s.cells.now (drop 1 s.cells.now) x (list d)
    c.in-Equal.ensures (subst CanApply (sym c.self.view_is) f)

pub returns-in-Less-head_order-clause-turn : goal.returns-in-Less-head_order-clause-turn
returns-in-Less-head_order-clause-turn c f =
    let s = c.self.inside in
    let x = get_or s.cells.now 0 c.index-self-0.result in
    let d = (goal.at.returns-in-Less-head_order-clause-turn c).After-index-self-0 in
    out_misfit s.out.now s.put.now s.cells.now (drop 1 s.cells.now) x (list d)
    c.self.invariant c.in-Less-head_order.ensures (subst CanApply (sym c.self.view_is) f)

pub returns-in-Equal-head_order-clause-turn : goal.returns-in-Equal-head_order-clause-turn
returns-in-Equal-head_order-clause-turn c =
    let s = c.self.inside in
    let x = get_or s.cells.now 0 c.index-self-0.result in
    let d = (goal.at.returns-in-Equal-head_order-clause-turn c).After-index-self-0 in
    rw (after_first, after_first) (subst (λ (o : Left). Goes [] o (record {
      out = drop 1 s.out.now;
      put = s.put.now;
      cells = drop 1 s.cells.now;
    })) c.self.view_is (take_turn s.out.now s.put.now s.cells.now (drop 1 s.cells.now) x
    (list d) c.self.invariant c.in-Greater.ensures c.in-Equal-head_order.ensures))

pub returns-in-Greater-head_order-clause-turn : goal.returns-in-Greater-head_order-clause-turn
returns-in-Greater-head_order-clause-turn c =
    let s = c.self.inside in
    let x = get_or s.cells.now 0 c.index-self-0.result in
    let d = (goal.at.returns-in-Greater-head_order-clause-turn c).After-index-self-0 in
    rw after_first (subst (λ (o : Left). Goes (x ∷ []) o
    (record { out = s.out.now; put = s.put.now; cells = drop 1 s.cells.now })) c.self.view_is
    (keep_turn s.out.now s.put.now s.cells.now (drop 1 s.cells.now) x (list d)
    c.self.invariant c.in-Greater.ensures c.in-Greater-head_order.ensures))

pub invariant_of-self-in-Equal-head_order : goal.invariant_of-self-in-Equal-head_order
invariant_of-self-in-Equal-head_order c =
    let s = c.self.inside in
    let d = (goal.at.invariant_of-self-in-Equal-head_order c).After-index-self-0 in
    let i = c.self.invariant in
    let h = some d in
    record {
      out = after_first_ascends s.out.now i.out;
      put = i.put;
      cells = part_packed 1 (length s.cells.now - 1) i.cells (omega arith);
    }

pub invariant_of-self-in-Greater-head_order : goal.invariant_of-self-in-Greater-head_order
invariant_of-self-in-Greater-head_order c =
    let s = c.self.inside in
    let d = (goal.at.invariant_of-self-in-Greater-head_order c).After-index-self-0 in
    let i = c.self.invariant in
    let h = some d in
    record { out = i.out; put = i.put; cells = part_packed 1 (length s.cells.now - 1) i.cells (omega arith) }

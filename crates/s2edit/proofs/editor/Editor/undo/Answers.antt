use Rattle.std.proofs.Common.{ℕ, List, ◌∷◌, Some, take, ap, sym, ◌∙◌, arith}
use Rattle.circular_buffer.specs.Buffer.{Buffer}
use Rattle.s2edit.specs.Diff.{Diff, inverse}
use Rattle.s2edit.specs.History.{History, undone, sets}
use Rattle.s2edit.specs.Working.Change.{diff_inside}
use Rattle.s2edit.specs.Working.Chain.{lists_of}
use Rattle.s2edit.proofs.Moves.{last_fits, room_for}
use Rattle.s2edit.proofs.Moves.{Shifts, Rewrites, rewrites_from, rewritten_count, still_bound}
use Rattle.s2edit.proofs.Moves.{undo_leaves, undo_within, undo_past, undo_future, undo_numbers}
use Rattle.s2edit.proofs.SetLemmas.{sets-undone}
use Rattle.s2edit.proofs.editor.Editor.undo.Goals as goal

-- the change that is moved across
abbrev change : goal.Joined-push_front → Diff
change c = diff_inside c.change.inside

shifts : (c : goal.Joined-push_front) → Shifts c.self.inside.depth c.self.inside.past.items
    c.pop_front.new.self.items c.self.inside.future.items c.push_front.new.self.items (change c)
shifts c = record {
  first = ap (λ (d : Diff). Some d) c.change.view_is ∙ c.in_ok-change.ensures.value;
  rest = ap (λ (b : Buffer Diff). b.items) c.pop_front.ensures.items;
  onto = ap (λ (b : Buffer Diff). b.items) c.push_front.ensures.items
      ∙ ap (λ (n : ℕ). take n (c.in_ok-change.change ∷ c.self.inside.future.items)) c.self.invariant.future_room
      ∙ ap (λ (d : Diff). take c.self.inside.depth (d ∷ c.self.inside.future.items)) (sym c.change.view_is);
  bound = omega (arith, c.self.invariant.depth_bound);
}

pub change_register-requires-clause-own_room : goal.change_register-requires-clause-own_room
change_register-requires-clause-own_room c u e =
    let i = c.self.inside in
    room_for i.limit i.registers.items (inverse (diff_inside c.change.inside)) c.deref.result.now c.deref-2.result.now u
    (last_fits i.limit (lists_of i.registers.items) i.past.items (diff_inside c.change.inside)
    c.self.invariant.past_fits (ap (λ (k : Diff). Some k) c.change.view_is ∙ c.in_ok-change.ensures.value))
    c.deref.ensures.value c.deref-2.ensures.value c.self.invariant.registers_roomy e

rewrites : (c : goal.Joined-push_front) → Rewrites c.self.inside.registers.items c.change_register.new.registers.items
    c.self.inside.spare c.change_register.new.spare (inverse (change c))
rewrites c =
    rewrites_from c.self.inside.registers.items c.change_register.new.registers.items c.self.inside.spare
    c.change_register.new.spare (inverse (change c)) _ _
    c.deref.ensures.value c.deref-2.ensures.value c.change_register.ensures.table c.change_register.ensures.roomy

pub returns-clause-after : goal.returns-clause-after
returns-clause-after c = undo_leaves c.self.inside.limit c.self.inside.depth _ _ _ _ (change c) _ _ _ _
    c.self.invariant.registers_within c.self.invariant.past_fits c.self.invariant.future_fits (shifts c) (rewrites c)
    ∙ ap undone c.self.view_is

pub returns-clause-after_sets : goal.returns-clause-after_sets
returns-clause-after_sets c = ap sets (returns-clause-after c) ∙ sets-undone c.args.self.now

pub returns-clause-numbers : goal.returns-clause-numbers
returns-clause-numbers c =
    undo_numbers c.self.inside.limit c.self.inside.depth _ _ _ _ (change c) _ _ _ _
    c.self.invariant.registers_within c.self.invariant.past_fits c.self.invariant.future_fits (shifts c)
    (rewrites c)
    c.args.self.now.now (c.len.result, c.len-2.result) (ap (λ (h : History (List ℕ)). h.now) c.self.view_is)
    (omega (arith, c.len.ensures, c.change.inside.put.ok)) (omega (arith, c.len-2.ensures, c.change.inside.out.ok))

pub invariant_of-self-2 : goal.invariant_of-self-2
invariant_of-self-2 c =
    let i = c.self.invariant in
    let w = c.change_register.ensures.roomy c.self.inside.limit i.registers_roomy i.spare_roomy in
    record {
      limit_bound = i.limit_bound;
      depth_most = i.depth_most;
      count = rewritten_count _ _ (inverse (change c)) (rewrites c).table ∙ i.count;
      past_room = ap (λ (b : Buffer Diff). b.capacity) c.pop_front.ensures.items ∙ i.past_room;
      future_room = ap (λ (b : Buffer Diff). b.capacity) c.push_front.ensures.items ∙ i.future_room;
      depth_bound = omega (arith, still_bound c.self.inside.depth _ _ _ _ (change c) (shifts c));
      registers_within = undo_within c.self.inside.limit c.self.inside.depth _ _ _ _ (change c) _ _ _ _
          c.self.invariant.registers_within c.self.invariant.past_fits c.self.invariant.future_fits (shifts c)
          (rewrites c);
      past_fits = undo_past c.self.inside.limit c.self.inside.depth _ _ _ _ (change c) _ _ _ _
          c.self.invariant.registers_within c.self.invariant.past_fits c.self.invariant.future_fits (shifts c)
          (rewrites c);
      future_fits = undo_future c.self.inside.limit c.self.inside.depth _ _ _ _ (change c) _ _ _ _
          c.self.invariant.registers_within c.self.invariant.past_fits c.self.invariant.future_fits (shifts c)
          (rewrites c);
      registers_roomy = w.0;
      spare_roomy = w.1;
    }

use Rattle.std.proofs.Common.{◌≡◌, ◌<◌, ℕ, List, [], ◌∷◌, length, take, slice_get, Some, ap, refl, sym, ◌∙◌, arith}
use Rattle.std.proofs.lemmas.List.{length-map}
use Rattle.circular_buffer.specs.Buffer.{Buffer}
use Rattle.s2list.specs.Union.{Union}
use Rattle.std.proofs.lemmas.Option.{get_or_from_slice_get, slice_get-get_or}
use Rattle.s2edit.specs.Diff.{Diff, change_between}
use Rattle.s2edit.specs.History.{History, changed, Assigned}
use Rattle.s2edit.specs.Leads.{list_at}
use Rattle.s2edit.specs.Working.Chain.{lists_of, history}
use Rattle.s2edit.specs.Chain.{IsLocalWithin}
use Rattle.s2edit.proofs.Tables.{AllWithin-get, AllWithin-at, slice_get-lists_of, read_register, list_read}
use Rattle.s2edit.proofs.Assigning.{taken_over, Changes, change_leaves, change_within, change_past, change_future}
use Rattle.s2edit.proofs.Assigning.{change_bound, change_numbers, assigned_same, assigned_other}
use Rattle.s2edit.proofs.Moves.{Rewrites, rewritten_count}
use Rattle.s2edit.proofs.Numbers.{numbers-same}
use Rattle.s2edit.proofs.SetLemmas.{Assigned-sets}
use Rattle.s2edit.proofs.editor.Editor.assign.Goals as goal

pub returns-then-len-self-clause-same_list : goal.returns-then-len-self-clause-same_list
returns-then-len-self-clause-same_list c h =
    let us = c.self.inside.registers.items in
    let g : slice_get (lists_of us) c.args.register ≡ Some c.args.union.cells =
    ap (λ (k : History (List ℕ)). slice_get k.now c.args.register) c.self.view_is ∙ h in
    let w = AllWithin-get c.self.inside.limit (lists_of us) c.args.register c.args.union.cells
    c.self.invariant.registers_within g in
    absurd (omega (arith, w.few))

same_there : (c : goal.After-drop-union-inside-then-are_same) →
    slice_get c.args.self.now.now c.args.register ≡ Some c.args.union.cells
same_there c =
    let us = c.self.inside.registers.items in
    let l : c.index.result < length us = omega (arith, c.index.ensures.within, c.self.invariant.count) in
    let g = slice_get-lists_of us _ _ (read_register us _ _ _ c.index-old.ensures c.index.ensures.value l) in
    ap (λ (k : History (List ℕ)). slice_get k.now c.args.register) (sym c.self.view_is) ∙ g
    ∙ ap (λ (x : List ℕ). Some x) (sym c.cells.ensures.value ∙ c.if-are_same.ensures ∙ c.cells-2.ensures.value)

pub returns-then-are_same-clause-ok : goal.returns-then-are_same-clause-ok
returns-then-are_same-clause-ok c = assigned_same c.args.self.now c.args.register c.args.union.cells (same_there c)

pub returns-then-are_same-clause-ok_sets : goal.returns-then-are_same-clause-ok_sets
returns-then-are_same-clause-ok_sets c =
    Assigned-sets c.args.self.now c.args.self.now c.args.register c.args.union.cells c.args.union.cells
    (same_there c) c.cells-2.ensures.local c.cells-2.ensures.local
    (assigned_same c.args.self.now c.args.register c.args.union.cells (same_there c))

pub returns-then-are_same-clause-numbers : goal.returns-then-are_same-clause-numbers
returns-then-are_same-clause-numbers c = numbers-same c.args.self.now.now

in_range-refused : (c : goal.In_default) → c.index.result < length c.self.inside.registers.items
in_range-refused c = omega (arith, c.index.ensures.within, c.self.invariant.count)

old_is-refused : (c : goal.In_default) → list_at (lists_of c.self.inside.registers.items) c.args.register
    ≡ c.index-old.result.now.cells
old_is-refused c = list_read c.self.inside.registers.items _ _ _ c.index-old.ensures c.index.ensures.value
    (in_range-refused c)

pub returns-in_default-clause-into_empty : goal.returns-in_default-clause-into_empty
returns-in_default-clause-into_empty c h l =
    let g : slice_get (lists_of c.self.inside.registers.items) c.args.register ≡ Some [] =
    ap (λ (k : History (List ℕ)). slice_get k.now c.args.register) c.self.view_is ∙ h in
    c.in_default.ensures.from_empty (sym (old_is-refused c)
    ∙ get_or_from_slice_get (lists_of c.self.inside.registers.items) c.args.register [] [] g)

pub returns-in_default-clause-same_list : goal.returns-in_default-clause-same_list
returns-in_default-clause-same_list c h =
    let g : slice_get (lists_of c.self.inside.registers.items) c.args.register ≡ Some c.args.union.cells =
    ap (λ (k : History (List ℕ)). slice_get k.now c.args.register) c.self.view_is ∙ h in
    let e : list_at (lists_of c.self.inside.registers.items) c.args.register ≡ c.args.union.cells =
    get_or_from_slice_get (lists_of c.self.inside.registers.items) c.args.register c.args.union.cells [] g in
    absurd (c.if-are_same.ensures (c.cells.ensures.value ∙ sym (old_is-refused c) ∙ e ∙ sym c.cells-2.ensures.value))

in_range : (c : goal.After-clear) → c.index.result < length c.self.inside.registers.items
in_range c = omega (arith, c.index.ensures.within, c.self.invariant.count)

old_is : (c : goal.After-clear) → list_at (lists_of c.self.inside.registers.items) c.args.register
    ≡ c.index-old.result.now.cells
old_is c = list_read c.self.inside.registers.items _ _ _ c.index-old.ensures c.index.ensures.value (in_range c)

in_table : (c : goal.After-clear) → c.args.register < length (lists_of c.self.inside.registers.items)
in_table c = omega (
  arith,
  in_range c,
  c.index.ensures.value,
  length-map c.self.inside.registers.items (λ (u : Union). u.cells),
)

own : (c : goal.After-clear) → IsLocalWithin c.self.inside.limit c.args.union.cells
own c = record { local = c.cells-2.ensures.local; few = omega (arith, c.len.ensures) }

change_is : (c : goal.After-clear) → record {
  register = c.change.inside.register;
  out = c.change.inside.out.items;
  put = c.change.inside.put.items;
} ≡ change_between c.args.register
    (list_at (lists_of c.self.inside.registers.items) c.args.register) c.args.union.cells
change_is c = c.change.view_is ∙ c.in-Ok.ensures.change
    ∙ ap (λ (x : List ℕ). change_between c.args.register x c.args.union.cells) (sym (old_is c))

differs : (c : goal.After-clear) → c.args.union.cells ≡ list_at (lists_of c.self.inside.registers.items)
    c.args.register → ⊥
differs c e = c.if-are_same.ensures (c.cells.ensures.value ∙ sym (old_is c) ∙ sym e ∙ sym c.cells-2.ensures.value)

rewrites : (c : goal.After-clear) → Rewrites c.self.inside.registers.items c.exchange.new.registers.items
    c.leading_to.new.spare c.exchange.new.spare (change_between c.args.register
    (list_at (lists_of c.self.inside.registers.items) c.args.register) c.args.union.cells)
rewrites c = taken_over c.self.inside.limit (lists_of c.self.inside.registers.items) c.args.register
    c.args.union.cells c.self.invariant.registers_within (in_table c) (own c)
    c.self.inside.registers.items c.exchange.new.registers.items c.leading_to.new.spare c.exchange.new.spare refl
    c.in-Ok.ensures.copied c.exchange.ensures.registers c.exchange.ensures.spare

changes : (c : goal.After-clear) → Changes c.self.inside.depth c.self.inside.registers.items
    c.exchange.new.registers.items c.self.inside.past.items c.push_front.new.self.items c.clear.new.self.items
    c.args.register c.args.union.cells
changes c = record {
  table = (rewrites c).table;
  onto = ap (λ (b : Buffer Diff). b.items) c.push_front.ensures.items
      ∙ ap (λ (n : ℕ). take n (c.in-Ok.change ∷ c.self.inside.past.items)) c.self.invariant.past_room
      ∙ ap (λ (d : Diff). take c.self.inside.depth (d ∷ c.self.inside.past.items)) (sym c.change.view_is ∙ change_is c);
  cleared = ap (λ (b : Buffer Diff). b.items) c.clear.ensures;
}

there : (c : goal.After-clear) → slice_get c.args.self.now.now c.args.register
    ≡ Some (list_at (lists_of c.self.inside.registers.items) c.args.register)
there c =
    ap (λ (k : History (List ℕ)). slice_get k.now c.args.register) (sym c.self.view_is)
    ∙ slice_get-get_or (lists_of c.self.inside.registers.items) c.args.register [] (in_table c)

assigned : (c : goal.After-clear) → Assigned c.args.self.now c.args.register c.args.union.cells
    (history c.self.inside.limit c.self.inside.depth c.exchange.new.registers.items c.push_front.new.self.items
    c.clear.new.self.items)
assigned c =
    assigned_other c.args.self.now _ c.args.register c.args.union.cells
    (list_at (lists_of c.self.inside.registers.items) c.args.register) (there c) (λ e. differs c (sym e))
    (change_leaves c.self.inside.limit c.self.inside.depth _ _ _ _ _ c.args.register c.args.union.cells
    c.self.invariant.registers_within c.self.invariant.past_fits (in_table c) (own c) (differs c) (changes c)
    c.self.inside.future.items ∙ ap (λ (k : History (List ℕ)). changed k c.args.register c.args.union.cells)
    c.self.view_is)

pub returns-clause-ok : goal.returns-clause-ok
returns-clause-ok c = assigned c

pub returns-clause-ok_sets : goal.returns-clause-ok_sets
returns-clause-ok_sets c =
    Assigned-sets c.args.self.now _ c.args.register c.args.union.cells
    (list_at (lists_of c.self.inside.registers.items) c.args.register) (there c)
    (AllWithin-at c.self.inside.limit (lists_of c.self.inside.registers.items) c.args.register
    c.self.invariant.registers_within (in_table c)).local
    c.cells-2.ensures.local (assigned c)

pub returns-clause-numbers : goal.returns-clause-numbers
returns-clause-numbers c =
    change_numbers c.self.inside.limit c.self.inside.depth _ _ _ _ _ c.args.register c.args.union.cells
    c.self.invariant.registers_within c.self.invariant.past_fits (in_table c) (own c) (differs c) (changes c)
    c.args.self.now.now (c.len-2.result, c.len-3.result) (ap (λ (h : History (List ℕ)). h.now) c.self.view_is)
    (omega (arith, c.len-2.ensures, c.change.inside.out.ok, ap (λ (d : Diff). length d.out) (change_is c)))
    (omega (arith, c.len-3.ensures, c.change.inside.put.ok, ap (λ (d : Diff). length d.put) (change_is c)))

pub invariant_of-self-2 : goal.invariant_of-self-2
invariant_of-self-2 c =
    let i = c.self.invariant in
    let d : Diff = change_between c.args.register (list_at (lists_of c.self.inside.registers.items) c.args.register)
    c.args.union.cells in
    let w = (rewrites c).roomy c.self.inside.limit i.registers_roomy
    (omega (arith, c.leading_to.ensures.room, i.spare_roomy)) in
    record {
      limit_bound = i.limit_bound;
      depth_most = i.depth_most;
      count = rewritten_count _ _ d (rewrites c).table ∙ i.count;
      past_room = ap (λ (b : Buffer Diff). b.capacity) c.push_front.ensures.items ∙ i.past_room;
      future_room = ap (λ (b : Buffer Diff). b.capacity) c.clear.ensures ∙ i.future_room;
      depth_bound = change_bound c.self.inside.limit c.self.inside.depth _ _ _ _ _ c.args.register
          c.args.union.cells c.self.invariant.registers_within c.self.invariant.past_fits (in_table c) (own c)
          (differs c) (changes c);
      registers_within = change_within c.self.inside.limit c.self.inside.depth _ _ _ _ _ c.args.register
          c.args.union.cells c.self.invariant.registers_within c.self.invariant.past_fits (in_table c) (own c)
          (differs c) (changes c);
      past_fits = change_past c.self.inside.limit c.self.inside.depth _ _ _ _ _ c.args.register
          c.args.union.cells c.self.invariant.registers_within c.self.invariant.past_fits (in_table c) (own c)
          (differs c) (changes c);
      future_fits = change_future c.self.inside.limit c.self.inside.depth _ _ _ _ _ c.args.register
          c.args.union.cells c.self.invariant.registers_within c.self.invariant.past_fits (in_table c) (own c)
          (differs c) (changes c);
      registers_roomy = w.0;
      spare_roomy = w.1;
    }

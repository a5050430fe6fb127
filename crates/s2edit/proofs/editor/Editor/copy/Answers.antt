use Rattle.std.proofs.Common.{◌≡◌, ◌<◌, ℕ, List, [], ◌∷◌, length, take, get_or, slice_get, Some, ap, refl, sym}
use Rattle.std.proofs.Common.{◌∙◌, subst, arith}
use Rattle.std.proofs.lemmas.List.{length-map}
use Rattle.std.proofs.lemmas.Option.{slice_get-get_or}
use Rattle.circular_buffer.specs.Buffer.{Buffer}
use Rattle.s2list.specs.Union.{Union, has_leaf, IsLocal}
use Rattle.s2script.specs.declared.register.TheConstants.{REGISTERS}
use Rattle.s2edit.specs.History.{History, changed, sets, Assigned}
use Rattle.s2edit.specs.Diff.{Diff, change_between}
use Rattle.s2edit.specs.Leads.{list_at}
use Rattle.s2edit.specs.Chain.{IsLocalWithin}
use Rattle.s2edit.specs.Working.Chain.{lists_of, history}
use Rattle.s2edit.specs.Working.Editor.{history_of, IsEditor}
use Rattle.s2edit.specs.declared.editor.Editor.TheInside.{Inside}
use Rattle.s2edit.proofs.Tables.{AllWithin-at, list_read}
use Rattle.s2edit.proofs.Assigning.{taken_over, Changes, change_leaves, change_within, change_past, change_future}
use Rattle.s2edit.proofs.Assigning.{change_bound, change_numbers, assigned_same, assigned_other}
use Rattle.s2edit.proofs.Moves.{Rewrites, rewritten_count}
use Rattle.s2edit.proofs.Numbers.{numbers-same}
use Rattle.s2edit.proofs.SetLemmas.{Assigned-sets}
use Rattle.s2edit.proofs.editor.Editor.copy.Goals as goal
use Rattle.s2edit.proofs.editor.Editor.copy.Goals.{After-clear}

-- registers that an editor holds, and how they are read
module _ (i : Inside) (h : History (List ℕ)) (view : history_of i ≡ h) (v : IsEditor i) where
  now_is : lists_of i.registers.items ≡ h.now
  now_is = ap (λ (k : History (List ℕ)). k.now) view

  in_table : (k r : ℕ) → k ≡ r → k < REGISTERS → r < length (lists_of i.registers.items)
  in_table k r e l = omega (arith, e, l, v.count, length-map i.registers.items (λ (u : Union). u.cells))

  read : (k r : ℕ) (u : Union) → u ≡ get_or i.registers.items k u → k ≡ r → k < REGISTERS →
      list_at (lists_of i.registers.items) r ≡ u.cells
  read k r u e f l = list_read i.registers.items k r u e f (omega (arith, l, v.count))

  there : (k r : ℕ) → k ≡ r → k < REGISTERS → slice_get h.now r ≡ Some (list_at (lists_of i.registers.items) r)
  there k r e l =
      ap (λ (t : List (List ℕ)). slice_get t r) (sym now_is)
      ∙ slice_get-get_or (lists_of i.registers.items) r [] (in_table k r e l)

  within : (k r : ℕ) → k ≡ r → k < REGISTERS → IsLocalWithin i.limit (list_at (lists_of i.registers.items) r)
  within k r e l = AllWithin-at i.limit (lists_of i.registers.items) r v.registers_within (in_table k r e l)

  given_is : (r : ℕ) → list_at (lists_of i.registers.items) r ≡ list_at h.now r
  given_is r = ap (λ (t : List (List ℕ)). list_at t r) now_is

same_there : (c : goal.Then-are_same) → slice_get c.args.self.now.now c.args.register
    ≡ Some (list_at c.args.self.now.now c.args.other)
same_there c =
    let i = c.self.inside in
    let h = c.args.self.now in
    let old_is = read i h c.self.view_is c.self.invariant c.index.result c.args.register c.index-old.result.now
    c.index-old.ensures c.index.ensures.value c.index.ensures.within in
    let new_is = read i h c.self.view_is c.self.invariant c.index-2.result c.args.other c.index-new.result.now
    c.index-new.ensures c.index-2.ensures.value c.index-2.ensures.within in
    there i h c.self.view_is c.self.invariant c.index.result c.args.register c.index.ensures.value
    c.index.ensures.within
    ∙ ap (λ (x : List ℕ). Some x) (old_is ∙ sym c.cells.ensures.value ∙ c.if-are_same.ensures ∙ c.cells-2.ensures.value
    ∙ sym new_is ∙ given_is i h c.self.view_is c.self.invariant c.args.other)

pub returns-then-are_same-clause-ok_sets : goal.returns-then-are_same-clause-ok_sets
returns-then-are_same-clause-ok_sets c =
    let i = c.self.inside in
    let h = c.args.self.now in
    let v = c.self.invariant in
    Assigned-sets h h c.args.register (list_at h.now c.args.other)
    (list_at (lists_of i.registers.items) c.args.register)
    (there i h c.self.view_is v c.index.result c.args.register c.index.ensures.value c.index.ensures.within)
    (within i h c.self.view_is v c.index.result c.args.register c.index.ensures.value c.index.ensures.within).local
    (subst IsLocal (given_is i h c.self.view_is v c.args.other)
    (within i h c.self.view_is v c.index-2.result c.args.other c.index-2.ensures.value c.index-2.ensures.within).local)
    (assigned_same h c.args.register (list_at h.now c.args.other) (same_there c))

pub returns-then-are_same-clause-numbers : goal.returns-then-are_same-clause-numbers
returns-then-are_same-clause-numbers c = numbers-same c.args.self.now.now

pub copy_from-requires : goal.copy_from-requires
copy_from-requires c =
    let i = c.self.inside in
    let h = c.args.self.now in
    let v = c.self.invariant in
    omega (
      arith,
      ap length (read i h c.self.view_is v c.index-2.result c.args.other c.index-new.result.now c.index-new.ensures
          c.index-2.ensures.value c.index-2.ensures.within),
      (within i h c.self.view_is v c.index-2.result c.args.other c.index-2.ensures.value c.index-2.ensures.within).few,
      v.spare_roomy,
    )

-- the two lists, after the change
old_is : (c : After-clear) → list_at (lists_of c.self.inside.registers.items) c.args.register
    ≡ c.index-old.result.now.cells
old_is c = read c.self.inside c.args.self.now c.self.view_is c.self.invariant c.index.result c.args.register
    c.index-old.result.now c.index-old.ensures c.index.ensures.value c.index.ensures.within

new_is : (c : After-clear) → list_at (lists_of c.self.inside.registers.items) c.args.other
    ≡ c.index-new.result.now.cells
new_is c = read c.self.inside c.args.self.now c.self.view_is c.self.invariant c.index-2.result c.args.other
    c.index-new.result.now c.index-new.ensures c.index-2.ensures.value c.index-2.ensures.within

in_table_of : (c : After-clear) → c.args.register < length (lists_of c.self.inside.registers.items)
in_table_of c = in_table c.self.inside c.args.self.now c.self.view_is c.self.invariant c.index.result c.args.register
    c.index.ensures.value c.index.ensures.within

there_of : (c : After-clear) → slice_get c.args.self.now.now c.args.register
    ≡ Some (list_at (lists_of c.self.inside.registers.items) c.args.register)
there_of c = there c.self.inside c.args.self.now c.self.view_is c.self.invariant c.index.result c.args.register
    c.index.ensures.value c.index.ensures.within

before : (c : After-clear) → IsLocalWithin c.self.inside.limit
    (list_at (lists_of c.self.inside.registers.items) c.args.register)
before c = within c.self.inside c.args.self.now c.self.view_is c.self.invariant c.index.result c.args.register
    c.index.ensures.value c.index.ensures.within

own : (c : After-clear) → IsLocalWithin c.self.inside.limit
    (list_at (lists_of c.self.inside.registers.items) c.args.other)
own c = within c.self.inside c.args.self.now c.self.view_is c.self.invariant c.index-2.result c.args.other
    c.index-2.ensures.value c.index-2.ensures.within

given : (c : After-clear) → list_at (lists_of c.self.inside.registers.items) c.args.other
    ≡ list_at c.args.self.now.now c.args.other
given c = given_is c.self.inside c.args.self.now c.self.view_is c.self.invariant c.args.other

change_is : (c : After-clear) → record {
  register = c.change.inside.register;
  out = c.change.inside.out.items;
  put = c.change.inside.put.items;
} ≡ change_between c.args.register (list_at (lists_of c.self.inside.registers.items) c.args.register)
    (list_at (lists_of c.self.inside.registers.items) c.args.other)
change_is c = c.change.view_is ∙ c.in_ok-change.ensures
    ∙ ap (λ (x : List ℕ). change_between c.args.register x c.index-new.result.now.cells) (sym (old_is c))
    ∙ ap (change_between c.args.register (list_at (lists_of c.self.inside.registers.items) c.args.register))
    (sym (new_is c))

differs : (c : After-clear) → list_at (lists_of c.self.inside.registers.items) c.args.other
    ≡ list_at (lists_of c.self.inside.registers.items) c.args.register → ⊥
differs c e = c.if-are_same.ensures (c.cells.ensures.value ∙ sym (old_is c) ∙ sym e ∙ new_is c
    ∙ sym c.cells-2.ensures.value)

rewrites : (c : After-clear) → Rewrites c.self.inside.registers.items c.exchange.new.registers.items
    c.copy_from.new.self c.exchange.new.spare
    (change_between c.args.register (list_at (lists_of c.self.inside.registers.items) c.args.register)
    (list_at (lists_of c.self.inside.registers.items) c.args.other))
rewrites c = taken_over c.self.inside.limit (lists_of c.self.inside.registers.items) c.args.register
    (list_at (lists_of c.self.inside.registers.items) c.args.other) c.self.invariant.registers_within (in_table_of c)
    (own c)
    c.self.inside.registers.items c.exchange.new.registers.items c.copy_from.new.self c.exchange.new.spare refl
    (c.copy_from.ensures.cells ∙ sym (new_is c)) c.exchange.ensures.registers c.exchange.ensures.spare

changes : (c : After-clear) → Changes c.self.inside.depth c.self.inside.registers.items
    c.exchange.new.registers.items c.self.inside.past.items c.push_front.new.self.items c.clear.new.self.items
    c.args.register (list_at (lists_of c.self.inside.registers.items) c.args.other)
changes c = record {
  table = (rewrites c).table;
  onto = ap (λ (b : Buffer Diff). b.items) c.push_front.ensures.items
      ∙ ap (λ (n : ℕ). take n (c.in_ok-change.change ∷ c.self.inside.past.items)) c.self.invariant.past_room
      ∙ ap (λ (d : Diff). take c.self.inside.depth (d ∷ c.self.inside.past.items)) (sym c.change.view_is ∙ change_is c);
  cleared = ap (λ (b : Buffer Diff). b.items) c.clear.ensures;
}

assigned : (c : After-clear) → Assigned c.args.self.now c.args.register
    (list_at (lists_of c.self.inside.registers.items) c.args.other)
    (history c.self.inside.limit c.self.inside.depth c.exchange.new.registers.items c.push_front.new.self.items
    c.clear.new.self.items)
assigned c =
    assigned_other c.args.self.now _ c.args.register (list_at (lists_of c.self.inside.registers.items) c.args.other)
    (list_at (lists_of c.self.inside.registers.items) c.args.register) (there_of c) (λ e. differs c (sym e))
    (change_leaves c.self.inside.limit c.self.inside.depth _ _ _ _ _ c.args.register
    (list_at (lists_of c.self.inside.registers.items) c.args.other) c.self.invariant.registers_within
    c.self.invariant.past_fits (in_table_of c) (own c) (differs c) (changes c) c.self.inside.future.items
    ∙ ap (λ (k : History (List ℕ)). changed k c.args.register
    (list_at (lists_of c.self.inside.registers.items) c.args.other))
    c.self.view_is)

pub returns-clause-ok : goal.returns-clause-ok
returns-clause-ok c =
    subst (λ (x : List ℕ). Assigned c.args.self.now c.args.register x
    (history c.self.inside.limit c.self.inside.depth c.exchange.new.registers.items c.push_front.new.self.items
    c.clear.new.self.items)) (given c) (assigned c)

pub returns-clause-ok_sets : goal.returns-clause-ok_sets
returns-clause-ok_sets c =
    subst (λ (x : List ℕ). Assigned (sets c.args.self.now) c.args.register (has_leaf x)
    (sets (history c.self.inside.limit c.self.inside.depth c.exchange.new.registers.items c.push_front.new.self.items
    c.clear.new.self.items))) (given c)
    (Assigned-sets c.args.self.now _ c.args.register (list_at (lists_of c.self.inside.registers.items) c.args.other)
    (list_at (lists_of c.self.inside.registers.items) c.args.register) (there_of c) (before c).local (own c).local
    (assigned c))

pub returns-clause-numbers : goal.returns-clause-numbers
returns-clause-numbers c =
    change_numbers c.self.inside.limit c.self.inside.depth _ _ _ _ _ c.args.register
    (list_at (lists_of c.self.inside.registers.items) c.args.other)
    c.self.invariant.registers_within c.self.invariant.past_fits (in_table_of c) (own c) (differs c) (changes c)
    c.args.self.now.now (c.len.result, c.len-2.result)
    (now_is c.self.inside c.args.self.now c.self.view_is c.self.invariant)
    (omega (arith, c.len.ensures, c.change.inside.out.ok, ap (λ (d : Diff). length d.out) (change_is c)))
    (omega (arith, c.len-2.ensures, c.change.inside.put.ok, ap (λ (d : Diff). length d.put) (change_is c)))

pub invariant_of-self : goal.invariant_of-self
invariant_of-self c =
    let i = c.self.invariant in
    let v : List ℕ = list_at (lists_of c.self.inside.registers.items) c.args.other in
    let u : List ℕ = list_at (lists_of c.self.inside.registers.items) c.args.register in
    let d : Diff = change_between c.args.register u v in
    let w = (rewrites c).roomy c.self.inside.limit i.registers_roomy
    (omega (arith, c.copy_from.ensures.room, i.spare_roomy)) in
    record {
      limit_bound = i.limit_bound;
      depth_most = i.depth_most;
      count = rewritten_count _ _ d (rewrites c).table ∙ i.count;
      past_room = ap (λ (b : Buffer Diff). b.capacity) c.push_front.ensures.items ∙ i.past_room;
      future_room = ap (λ (b : Buffer Diff). b.capacity) c.clear.ensures ∙ i.future_room;
      depth_bound = change_bound c.self.inside.limit c.self.inside.depth _ _ _ _ _ c.args.register v
          c.self.invariant.registers_within c.self.invariant.past_fits (in_table_of c) (own c) (differs c) (changes c);
      registers_within = change_within c.self.inside.limit c.self.inside.depth _ _ _ _ _ c.args.register v
          c.self.invariant.registers_within c.self.invariant.past_fits (in_table_of c) (own c) (differs c) (changes c);
      past_fits = change_past c.self.inside.limit c.self.inside.depth _ _ _ _ _ c.args.register v
          c.self.invariant.registers_within c.self.invariant.past_fits (in_table_of c) (own c) (differs c) (changes c);
      future_fits = change_future c.self.inside.limit c.self.inside.depth _ _ _ _ _ c.args.register v
          c.self.invariant.registers_within c.self.invariant.past_fits (in_table_of c) (own c) (differs c) (changes c);
      registers_roomy = w.0;
      spare_roomy = w.1;
    }

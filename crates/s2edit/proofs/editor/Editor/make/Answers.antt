use Rattle.std.proofs.Common.{IfSome, ◌≡◌, ◌≢◌, ◌<◌, ◌≤◌, ◌+◌, ℕ, List, [], ◌∷◌, length, take, slice_get}
use Rattle.std.proofs.Common.{ap, refl, sym, ◌∙◌, subst, arith, rules}
use Rattle.std.specs.Vec.{vec_len}
use Rattle.std.proofs.lemmas.List.{length-map, length-set}
use Rattle.std.proofs.lemmas.Option.{slice_get-get_or}
use Rattle.circular_buffer.specs.Buffer.{Buffer}
use Rattle.s2list.specs.Union.{Union}
use Rattle.s2edit.specs.Diff.{Diff, FitsList, change_between}
use Rattle.s2script.specs.declared.register.TheConstants.{REGISTERS}
use Rattle.s2edit.specs.History.{History, changed, Assigned}
use Rattle.s2edit.specs.Leads.{list_at}
use Rattle.s2edit.specs.Chain.{IsLocalWithin}
use Rattle.s2edit.specs.Working.Change.{diff_inside}
use Rattle.s2edit.specs.Working.Splice.{IsPlaceOf}
use Rattle.s2edit.specs.Working.Chain.{lists_of, list_after, table_after, history}
use Rattle.s2edit.proofs.Tables.{list_read, AllRoomy-get}
use Rattle.s2edit.proofs.Assigning.{Changes, changes_from, change_leaves, change_within, change_past, change_future}
use Rattle.s2edit.proofs.Assigning.{change_bound, change_numbers, assigned_other}
use Rattle.s2edit.proofs.DiffLemmas.{changes_list, only_change}
use Rattle.s2edit.proofs.Making.{in_table, fits_here, within_here, fewer, sizes, nothing_made, nothing_more}
use Rattle.s2edit.proofs.Moves.{rewrites_from}
use Rattle.s2edit.proofs.Numbers.{numbers-same}
use Rattle.s2edit.proofs.editor.Editor.make.Goals as goal
use Rattle.s2edit.proofs.editor.Editor.make.Goals.{After-len-put, After-len, else-out-eq0-via-then-out-eq0+else-put-eq0}
use Rattle.s2edit.proofs.editor.Editor.make.Goals.{else-out-eq0-via-else-out-eq0}

-- how many cells the change takes out and puts in
counts : (c : After-len-put) →
    (c.len-out.result ≡ length c.args.change.out) × (c.len-put.result ≡ length c.args.change.put)
counts c = (
  omega (arith, c.len-out.ensures, c.change.inside.out.ok, ap (λ (d : Diff). length d.out) c.change.view_is),
  omega (arith, c.len-put.ensures, c.change.inside.put.ok, ap (λ (d : Diff). length d.put) c.change.view_is),
)

pub returns-then-put-eq0-clause-ok : goal.returns-then-put-eq0-clause-ok
returns-then-put-eq0-clause-ok c =
    let i = c.self.inside in
    let n = counts (goal.at.returns-then-put-eq0-clause-ok c).After-len-put in
    nothing_made i.limit i.depth i.registers.items i.past.items i.future.items c.args.self.now c.args.change
    c.self.view_is c.self.invariant.count c.self.invariant.registers_within c.requires.in_range c.requires.fits
    (omega (arith, n.0, c.if-out-eq0.true)) (omega (arith, n.1, c.if-put-eq0.true))

pub returns-then-put-eq0-clause-numbers : goal.returns-then-put-eq0-clause-numbers
returns-then-put-eq0-clause-numbers c = numbers-same c.args.self.now.now

pub returns-then-put-eq0-clause-within : goal.returns-then-put-eq0-clause-within
returns-then-put-eq0-clause-within c =
    let i = c.self.inside in
    let n = counts (goal.at.returns-then-put-eq0-clause-within c).After-len-put in
    nothing_more i.limit i.depth i.registers.items i.past.items i.future.items c.args.self.now c.args.change
    c.self.view_is c.self.invariant.count c.self.invariant.registers_within c.requires.in_range c.requires.fits
    (omega (arith, n.0, c.if-out-eq0.true)) (omega (arith, n.1, c.if-put-eq0.true))

-- how long the list is before the change and after it
lengths : (c : After-len) → (c.len-out.result ≤ c.len.result) × (c.len.result + c.len-put.result
    ≡ length (list_after c.args.self.now.now c.args.change) + c.len-out.result)
lengths c =
    let i = c.self.inside in
    let out : c.len-out.result ≡ length c.args.change.out =
    omega (arith, c.len-out.ensures, c.change.inside.out.ok, ap (λ (d : Diff). length d.out) c.change.view_is) in
    let put : c.len-put.result ≡ length c.args.change.put =
    omega (arith, c.len-put.ensures, c.change.inside.put.ok, ap (λ (d : Diff). length d.put) c.change.view_is) in
    let l : c.index.result < length i.registers.items = omega (arith, c.index.ensures.within, c.self.invariant.count) in
    let old : list_at (lists_of i.registers.items) c.args.change.register ≡ c.index-old.result.now.cells =
    list_read i.registers.items _ _ _ c.index-old.ensures
    (c.index.ensures.value ∙ ap (λ (d : Diff). d.register) c.change.view_is) l in
    let few = fewer i.limit i.depth i.registers.items i.past.items i.future.items c.args.self.now c.args.change
    c.self.view_is c.self.invariant.count c.self.invariant.registers_within c.requires.in_range c.requires.fits in
    let s = sizes i.limit i.depth i.registers.items i.past.items i.future.items c.args.self.now c.args.change
    c.self.view_is c.self.invariant.count c.self.invariant.registers_within c.requires.in_range c.requires.fits in (
      omega (arith, out, c.len.ensures, ap length old, few),
      omega (arith, out, put, c.len.ensures, ap length old, s),
    )

pub overflow_sub-len : goal.overflow_sub-len
overflow_sub-len c = omega (arith, (lengths (goal.at.overflow_sub-len c).After-len).0)

pub returns-then-len-out-clause-too_many : goal.returns-then-len-out-clause-too_many
returns-then-len-out-clause-too_many c =
    let n = lengths (goal.at.returns-then-len-out-clause-too_many c).After-len in
    omega (arith, n.0, n.1, c.if-len-out.true, ap (λ (k : History (List ℕ)). k.limit) c.self.view_is)

pub change_register-requires : goal.change_register-requires
change_register-requires c =
    let i = c.self.inside in
    let whole : vec_len i.registers ≡ length i.registers.items = search rules in
    let n = lengths (goal.at.change_register-requires c).After-len in
    let t : lists_of i.registers.items ≡ c.args.self.now.now =
    ap (λ (k : History (List ℕ)). k.now) c.self.view_is in
    let few : length (list_after (lists_of i.registers.items) c.args.change) ≤ i.limit =
    omega (arith, n.0, n.1, c.if-len-out.false, ap (λ (k : List (List ℕ)). length (list_after k c.args.change)) t) in
    let e : c.args.change ≡ record {
      register = c.change.inside.register;
      out = c.deref.result.now;
      put = c.deref-2.result.now;
    } = sym c.change.view_is
    ∙ ap (λ (x : List ℕ). record {
      register = c.change.inside.register;
      out = x;
      put = c.change.inside.put.items;
    }) (sym c.deref.ensures.value)
    ∙ ap (λ (x : List ℕ). record { register = c.change.inside.register; out = c.deref.result.now; put = x })
    (sym c.deref-2.ensures.value) in
    let short = subst (λ (d : Diff). length (list_after (lists_of i.registers.items) d) ≤ i.limit) e few in
    record {
      in_range = omega (arith, whole, c.self.invariant.count, c.requires.in_range, ap (λ (d : Diff). d.register) e);
      fits = subst (λ (d : Diff). FitsList d (list_at (lists_of i.registers.items) d.register)) e
          (fits_here i.limit i.depth i.registers.items i.past.items i.future.items c.args.self.now c.args.change
          c.self.view_is c.self.invariant.count c.self.invariant.registers_within c.requires.in_range c.requires.fits);
      place = subst (λ (d : Diff). IfSome c.args.place
          (IsPlaceOf d (list_at (lists_of i.registers.items) d.register))) e
          (subst (λ (k : List (List ℕ)). IfSome c.args.place
          (IsPlaceOf c.args.change (list_at k c.args.change.register))) (sym t) c.requires.place);
      room = omega (arith, short, c.self.invariant.spare_roomy);
      own_room = λ u h. omega (
        arith,
        short,
        AllRoomy-get i.limit i.registers.items c.change.inside.register u c.self.invariant.registers_roomy h,
      );
    }

pub returns-clause-within : goal.returns-clause-within
returns-clause-within c =
    let n = lengths (goal.at.returns-clause-within c).After-len in
    omega (arith, n.0, n.1, c.if-len-out.false, ap (λ (k : History (List ℕ)). k.limit) c.self.view_is)

-- the change that is made
abbrev change : goal.After-clear → Diff
change c = diff_inside c.change.inside

in_range : (c : goal.After-clear) → c.change.inside.register < REGISTERS
in_range c = subst (λ (d : Diff). d.register < REGISTERS) (sym c.change.view_is) c.requires.in_range

fits_now : (c : goal.After-clear) → FitsList (change c) (list_at c.args.self.now.now (change c).register)
fits_now c = subst (λ (d : Diff). FitsList d (list_at c.args.self.now.now d.register)) (sym c.change.view_is)
    c.requires.fits

here : (c : goal.After-clear) → (change c).register < length (lists_of c.self.inside.registers.items)
here c =
    let i = c.self.inside in
    in_table i.limit i.depth i.registers.items i.past.items i.future.items c.args.self.now (change c)
    c.self.view_is c.self.invariant.count c.self.invariant.registers_within (in_range c) (fits_now c)

local_here : (c : goal.After-clear) → IsLocalWithin c.self.inside.limit
    (list_at (lists_of c.self.inside.registers.items) (change c).register)
local_here c =
    let i = c.self.inside in
    within_here i.limit i.depth i.registers.items i.past.items i.future.items c.args.self.now (change c)
    c.self.view_is c.self.invariant.count c.self.invariant.registers_within (in_range c) (fits_now c)

fits_table : (c : goal.After-clear) → FitsList (change c)
    (list_at (lists_of c.self.inside.registers.items) (change c).register)
fits_table c =
    let i = c.self.inside in
    fits_here i.limit i.depth i.registers.items i.past.items i.future.items c.args.self.now (change c)
    c.self.view_is c.self.invariant.count c.self.invariant.registers_within (in_range c) (fits_now c)

now : (c : goal.After-clear) → lists_of c.self.inside.registers.items ≡ c.args.self.now.now
now c = ap (λ (k : History (List ℕ)). k.now) c.self.view_is

own : (c : goal.After-clear) → IsLocalWithin c.self.inside.limit
    (list_after (lists_of c.self.inside.registers.items) (change c))
own c = record {
  local = (fits_table c).local;
  few = omega (
    arith,
    returns-clause-within c,
    ap (λ (k : History (List ℕ)). k.limit) c.self.view_is,
    ap (λ (d : Diff). length (list_after c.args.self.now.now d)) c.change.view_is,
    ap (λ (t : List (List ℕ)). length (list_after t (change c))) (now c),
  );
}

differs : (c : goal.After-clear) → list_after (lists_of c.self.inside.registers.items) (change c)
    ≢ list_at (lists_of c.self.inside.registers.items) (change c).register
differs c =
    changes_list (change c).out (change c).put (list_at (lists_of c.self.inside.registers.items) (change c).register)
    (fits_table c)
    (elim c.else-out-eq0.branch [
      | else-out-eq0-via-then-out-eq0+else-put-eq0 w ↦
          omega (arith, w.if-put-eq0.false, c.len-put.ensures, c.change.inside.put.ok)
      | else-out-eq0-via-else-out-eq0 w ↦
          omega (arith, w.if-out-eq0.false, c.len-out.ensures, c.change.inside.out.ok)
    ])

table : (c : goal.After-clear) → lists_of c.change_register.new.registers.items
    ≡ table_after (lists_of c.self.inside.registers.items) (change c)
table c = (rewrites_from c.self.inside.registers.items c.change_register.new.registers.items c.self.inside.spare
    c.change_register.new.spare (change c) _ _ c.deref.ensures.value c.deref-2.ensures.value
    c.change_register.ensures.table c.change_register.ensures.roomy).table

changes : (c : goal.After-clear) → Changes c.self.inside.depth c.self.inside.registers.items
    c.change_register.new.registers.items c.self.inside.past.items c.push_front.new.self.items
    c.clear.new.self.items (change c).register
    (list_after (lists_of c.self.inside.registers.items) (change c))
changes c =
    changes_from c.self.inside.depth _ _ _ _ _ (change c) (local_here c).local (fits_table c) (table c)
    (ap (λ (b : Buffer Diff). b.items) c.push_front.ensures.items
    ∙ ap (λ (n : ℕ). take n (c.args.change ∷ c.self.inside.past.items)) c.self.invariant.past_room
    ∙ ap (λ (d : Diff). take c.self.inside.depth (d ∷ c.self.inside.past.items)) (sym c.change.view_is))
    (ap (λ (b : Buffer Diff). b.items) c.clear.ensures)

assigned : (c : goal.After-clear) → Assigned c.args.self.now (change c).register
    (list_after (lists_of c.self.inside.registers.items) (change c))
    (history c.self.inside.limit c.self.inside.depth c.change_register.new.registers.items c.push_front.new.self.items
    c.clear.new.self.items)
assigned c =
    let v : List ℕ = list_after (lists_of c.self.inside.registers.items) (change c) in
    assigned_other c.args.self.now _ (change c).register v
    (list_at (lists_of c.self.inside.registers.items) (change c).register)
    (ap (λ (k : History (List ℕ)). slice_get k.now (change c).register) (sym c.self.view_is)
    ∙ slice_get-get_or (lists_of c.self.inside.registers.items) (change c).register [] (here c))
    (λ e. differs c (sym e))
    (change_leaves c.self.inside.limit c.self.inside.depth _ _ _ _ _ (change c).register v
    c.self.invariant.registers_within c.self.invariant.past_fits (here c) (own c) (differs c) (changes c)
    c.self.inside.future.items ∙ ap (λ (k : History (List ℕ)). changed k (change c).register v) c.self.view_is)

pub returns-clause-ok : goal.returns-clause-ok
returns-clause-ok c =
    let after = history c.self.inside.limit c.self.inside.depth c.change_register.new.registers.items
    c.push_front.new.self.items c.clear.new.self.items in
    subst (λ (d : Diff). Assigned c.args.self.now d.register (list_after c.args.self.now.now d) after)
    c.change.view_is
    (subst (λ (t : List (List ℕ)). Assigned c.args.self.now (change c).register (list_after t (change c)) after)
    (now c) (assigned c))

pub returns-clause-numbers : goal.returns-clause-numbers
returns-clause-numbers c =
    let u : List ℕ = list_at (lists_of c.self.inside.registers.items) (change c).register in
    let v : List ℕ = list_after (lists_of c.self.inside.registers.items) (change c) in
    let e : change c ≡ change_between (change c).register u v =
    only_change (change c) u v (local_here c).local (fits_table c) refl in
    change_numbers c.self.inside.limit c.self.inside.depth _ _ _ _ _ (change c).register v
    c.self.invariant.registers_within c.self.invariant.past_fits (here c) (own c) (differs c) (changes c)
    c.args.self.now.now (c.len-out.result, c.len-put.result) (now c)
    (omega (arith, c.len-out.ensures, c.change.inside.out.ok, ap (λ (d : Diff). length d.out) e))
    (omega (arith, c.len-put.ensures, c.change.inside.put.ok, ap (λ (d : Diff). length d.put) e))

pub invariant_of-self : goal.invariant_of-self
invariant_of-self c =
    let i = c.self.invariant in
    let r : ℕ = (change c).register in
    let v : List ℕ = list_after (lists_of c.self.inside.registers.items) (change c) in
    let us = c.self.inside.registers.items in
    let us' = c.change_register.new.registers.items in
    let w = c.change_register.ensures.roomy c.self.inside.limit i.registers_roomy i.spare_roomy in
    record {
      limit_bound = i.limit_bound;
      depth_most = i.depth_most;
      count = omega (
        arith,
        i.count,
        ap length (table c),
        length-set (lists_of us) r v,
        length-map us (λ (u : Union). u.cells),
        length-map us' (λ (u : Union). u.cells),
      );
      past_room = ap (λ (b : Buffer Diff). b.capacity) c.push_front.ensures.items ∙ i.past_room;
      future_room = ap (λ (b : Buffer Diff). b.capacity) c.clear.ensures ∙ i.future_room;
      depth_bound = change_bound c.self.inside.limit c.self.inside.depth _ _ _ _ _ r v i.registers_within
          i.past_fits (here c) (own c) (differs c) (changes c);
      registers_within = change_within c.self.inside.limit c.self.inside.depth _ _ _ _ _ r v i.registers_within
          i.past_fits (here c) (own c) (differs c) (changes c);
      past_fits = change_past c.self.inside.limit c.self.inside.depth _ _ _ _ _ r v i.registers_within
          i.past_fits (here c) (own c) (differs c) (changes c);
      future_fits = change_future c.self.inside.limit c.self.inside.depth _ _ _ _ _ r v i.registers_within
          i.past_fits (here c) (own c) (differs c) (changes c);
      registers_roomy = w.0;
      spare_roomy = w.1;
    }

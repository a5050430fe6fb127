use Rattle.std.proofs.Common.{◌≡◌, ◌+◌, ◌<◌, ◌≤◌, ◌++◌, ℕ, List, length, take, drop, slice_get, slice_set, Some}
use Rattle.std.proofs.Common.{refl, sym, ap, subst, ◌∙◌, arith, rules}
use Rattle.std.specs.Vec.{vec_len}
use Rattle.s2list.specs.Union.{Union}
use Rattle.s2union.specs.Apply.{applied}
use Rattle.s2edit.specs.Leads.{list_at}
use Rattle.s2edit.specs.Working.Chain.{lists_of, AllRoomy}
use Rattle.s2edit.specs.Working.Splice.{IsPlaceOf}
use Rattle.s2edit.proofs.Tables.{lists_of-set, list_read, read_register, AllRoomy-get, AllRoomy-set}
use Rattle.s2edit.proofs.editor.change_register.Goals as goal

pub returns-in-Some-clause-table : goal.returns-in-Some-clause-table
returns-in-Some-clause-table c =
    let us : List Union = c.args.registers.now.items in
    let t : List (List ℕ) = lists_of us in
    let u : Union = c.index_mut.result.now in
    let made : Union = c.splice.new.self in
    let from : ℕ = c.in-Some.from in
    let whole : vec_len c.args.registers.now ≡ length us = search rules in
    let at = c.index-at.ensures.value in
    let l : c.index-at.result < length us = omega (arith, at, whole, c.requires.in_range) in
    let was : list_at t c.args.register ≡ u.cells =
    list_read us c.index-at.result c.args.register u c.index_mut.ensures.value at l in
    let place : IsPlaceOf (record {
      register = c.args.register;
      out = c.args.out.now;
      put = c.args.put.now;
    }) (list_at t c.args.register) from = rw c.in-Some.is at c.requires.place in
    lists_of-set us c.index-at.result made
    ∙ ap (λ (k : ℕ). slice_set t k made.cells) at
    ∙ ap (slice_set t c.args.register) (c.splice.ensures.cells
    ∙ sym (ap (λ (x : List ℕ). (take from x ++ c.args.put.now) ++ drop (from + length c.args.out.now) x) was)
    ∙ sym place.made)

pub returns-in-Some-clause-roomy : goal.returns-in-Some-clause-roomy
returns-in-Some-clause-roomy c n a s =
    let us : List Union = c.args.registers.now.items in
    let i : ℕ = c.index-at.result in
    let whole : vec_len c.args.registers.now ≡ length us = search rules in
    let l : i < length us = omega (arith, c.index-at.ensures.value, whole, c.requires.in_range) in
    let was : slice_get us i ≡ Some c.index_mut.result.now =
    read_register us i i c.index_mut.result.now c.index_mut.ensures.value refl l in
    let roomy : n ≤ c.splice.new.self.room =
    omega (arith, AllRoomy-get n us i c.index_mut.result.now a was, c.splice.ensures.room) in
    (AllRoomy-set n us i c.splice.new.self a roomy, s)

pub returns-then-is_spread-clause-table : goal.returns-then-is_spread-clause-table
returns-then-is_spread-clause-table c =
    let us : List Union = c.args.registers.now.items in
    let t : List (List ℕ) = lists_of us in
    let whole : vec_len c.args.registers.now ≡ length us = search rules in
    let at = c.index-at.ensures.value in
    let l : c.index-at.result < length us = omega (arith, at, whole, c.requires.in_range) in
    let was : list_at t c.args.register ≡ c.index-then-is_spread.result.now.cells =
    list_read us c.index-at.result c.args.register c.index-then-is_spread.result.now c.index-then-is_spread.ensures
    at l in
    ap lists_of c.exchange.ensures.registers ∙ lists_of-set us c.args.register c.apply_into.new.into
    ∙ ap (slice_set t c.args.register) (c.apply_into.ensures.cells
    ∙ ap (applied c.args.out.now c.args.put.now) (sym was))

pub returns-then-is_spread-clause-roomy : goal.returns-then-is_spread-clause-roomy
returns-then-is_spread-clause-roomy c n a s =
    let us : List Union = c.args.registers.now.items in
    let roomy : n ≤ c.apply_into.new.into.room = omega (arith, s, c.apply_into.ensures.room) in (
      subst (AllRoomy n) (sym c.exchange.ensures.registers)
          (AllRoomy-set n us c.args.register c.apply_into.new.into a roomy),
      AllRoomy-get n us c.args.register c.exchange.new.spare a c.exchange.ensures.spare,
    )

pub apply-requires-clause-room : goal.apply-requires-clause-room
apply-requires-clause-room c =
    let us : List Union = c.args.registers.now.items in
    let u : Union = c.index_mut-2.result.now in
    let whole : vec_len c.args.registers.now ≡ length us = search rules in
    let at = c.index-at.ensures.value in
    let l : c.index-at.result < length us = omega (arith, at, whole, c.requires.in_range) in
    subst (λ (x : List ℕ). length (applied c.args.out.now c.args.put.now x) ≤ u.room)
    (list_read us c.index-at.result c.args.register u c.index_mut-2.ensures.value at l)
    (c.requires.own_room u (read_register us c.index-at.result c.args.register u c.index_mut-2.ensures.value at l))

pub returns-clause-table : goal.returns-clause-table
returns-clause-table c =
    let us : List Union = c.args.registers.now.items in
    let t : List (List ℕ) = lists_of us in
    let made : Union = c.apply.new.self in
    let whole : vec_len c.args.registers.now ≡ length us = search rules in
    let at = c.index-at.ensures.value in
    let l : c.index-at.result < length us = omega (arith, at, whole, c.requires.in_range) in
    let was : list_at t c.args.register ≡ c.index_mut-2.result.now.cells =
    list_read us c.index-at.result c.args.register c.index_mut-2.result.now c.index_mut-2.ensures.value at l in
    lists_of-set us c.index-at.result made
    ∙ ap (λ (k : ℕ). slice_set t k made.cells) at
    ∙ ap (slice_set t c.args.register) (c.apply.ensures.cells ∙ ap (applied c.args.out.now c.args.put.now) (sym was))

pub returns-clause-roomy : goal.returns-clause-roomy
returns-clause-roomy c n a s =
    let us : List Union = c.args.registers.now.items in
    let i : ℕ = c.index-at.result in
    let whole : vec_len c.args.registers.now ≡ length us = search rules in
    let l : i < length us = omega (arith, c.index-at.ensures.value, whole, c.requires.in_range) in
    let was : slice_get us i ≡ Some c.index_mut-2.result.now =
    read_register us i i c.index_mut-2.result.now c.index_mut-2.ensures.value refl l in
    let roomy : n ≤ c.apply.new.self.room =
    omega (arith, AllRoomy-get n us i c.index_mut-2.result.now a was, c.apply.ensures.room) in
    (AllRoomy-set n us i c.apply.new.self a roomy, omega (arith, s, c.apply.ensures.spare_room))

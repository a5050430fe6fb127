use Rattle.std.proofs.Common.{◌≡◌, ◌<◌, ◌≤◌, ℕ, List, length, get_or, slice_set, refl, sym, ap, ◌∙◌, arith}
use Rattle.std.proofs.lemmas.List.{length-set, length-map, get_or-set_other}
use Rattle.s2list.specs.Union.{Union}
use Rattle.s2edit.specs.Leads.{list_at}
use Rattle.s2edit.specs.Working.Chain.{lists_of}
use Rattle.s2edit.proofs.Tables.{list_read, lists_of-set}
use Rattle.s2edit.proofs.Following.{keep_self, keep_set, keep_count, have_count, have_set, room_at, copied_more}
use Rattle.s2edit.proofs.session.take_all.Goals as goal

-- the other's list is the one that stood at its place from the start
other_list : (all left : List Union) (i : ℕ) (u v : Union) → i < length all → u ≡ get_or left i u →
    ((k : ℕ) (d : Union) → i ≤ k → get_or left k d ≡ get_or all k d)
    → v ≡ u → list_at (lists_of all) i ≡ v.cells
other_list all left i u v l e same is = list_read all i i u (e ∙ same i u (omega arith)) refl l
    ∙ ap (λ (w : Union). w.cells) (sym is)

pub loop-i-init : goal.loop-i-init
loop-i-init c = record {
  lists = refl;
  rooms = keep_self c.args.unions.now.items;
  count = sym (have_count (lists_of c.args.others.now.items) c.args.unions.now.items c.requires.room)
      ∙ length-map c.args.others.now.items (λ (u : Union). u.cells);
  room = c.requires.room;
  left_count = refl;
  left = λ k d l. refl;
}

pub take_over-requires : goal.take_over-requires
take_over-requires c =
    let us = c.loop-i.unions.items in
    let i = c.loop-i.i in
    let all : List Union = c.args.others.now.items in
    let below : i < length all = omega (arith, c.loop-i-test.true, c.len-i-end.ensures, c.args.others.now.ok) in
    let l : i < length us = omega (arith, below, c.loop-i.invariant.count) in
    let read = other_list all c.loop-i.others.items i c.index_mut.result.now c.replace-other.result below
    c.index_mut.ensures.value c.loop-i.invariant.left c.replace-other.ensures.value in
    omega (
      arith,
      ap length read,
      room_at (lists_of all) us i c.index_mut-in-loop-i.result.now
          c.loop-i.invariant.room l c.index_mut-in-loop-i.ensures.value,
    )

pub loop-i-preserved : goal.loop-i-preserved
loop-i-preserved c =
    let us = c.loop-i.unions.items in
    let i = c.loop-i.i in
    let all : List Union = c.args.others.now.items in
    let v : Union = c.take_over.new.union in
    let old : List (List ℕ) = lists_of c.args.unions.now.items in
    let below : i < length all = omega (arith, c.loop-i-test.true, c.len-i-end.ensures, c.args.others.now.ok) in
    let read = other_list all c.loop-i.others.items i c.index_mut.result.now c.replace-other.result below
    c.index_mut.ensures.value c.loop-i.invariant.left c.replace-other.ensures.value in
    let n : length old ≡ length (lists_of all) =
    length-map c.args.unions.now.items (λ (u : Union). u.cells)
    ∙ keep_count c.args.unions.now.items us c.loop-i.invariant.rooms ∙ c.loop-i.invariant.count
    ∙ sym (length-map all (λ (u : Union). u.cells)) in
    record {
      lists = lists_of-set us i v ∙ ap (λ (x : List ℕ). slice_set (lists_of us) i x) (c.take_over.ensures.cells
          ∙ sym read)
          ∙ ap (λ (t : List (List ℕ)). slice_set t i (list_at (lists_of all) i)) c.loop-i.invariant.lists
          ∙ copied_more (lists_of all) old i n (omega (arith, below, length-map all (λ (u : Union). u.cells)));
      rooms = keep_set c.args.unions.now.items us i c.index_mut-in-loop-i.result.now v c.loop-i.invariant.rooms
          c.index_mut-in-loop-i.ensures.value c.take_over.ensures.room;
      count = length-set us i v ∙ c.loop-i.invariant.count;
      room = have_set (lists_of all) us i c.index_mut-in-loop-i.result.now v c.loop-i.invariant.room
          c.index_mut-in-loop-i.ensures.value c.take_over.ensures.room;
      left_count = length-set c.loop-i.others.items i c.replace-other.new.dest ∙ c.loop-i.invariant.left_count;
      left = λ k d l. get_or-set_other c.loop-i.others.items i k c.replace-other.new.dest d
          (λ e. absurd (omega (arith, e, l))) ∙ c.loop-i.invariant.left k d (omega (arith, l));
    }

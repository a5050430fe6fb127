use Rattle.std.proofs.Common.{ℕ, sym, subst}
use Rattle.s2cell.specs.Cell.{IsCell, IsInside, level_of, place_of}
use Rattle.s2cell.proofs.Family.{parent_within}
use Rattle.s2cell.proofs.Leaves.{inside_from_within}
use Rattle.s2list.specs.Union.{has_leaf, LiesIn}
use Rattle.s2list.specs.Packed.{FirstEndBy}
use Rattle.s2list.proofs.Checking.{packed_from_local}
use Rattle.s2edit.specs.Working.Part.{around, HasChildren}
use Rattle.s2edit.proofs.PartLemmas.{is_cell}
use Rattle.s2edit.proofs.Watching.{own_more, grows_within, grows_on, watched_around, around_is_cell}
use Rattle.s2edit.proofs.near.watch_beside.Goals as goal

pub watch_holder-requires-clause-ended : goal.watch_holder-requires-clause-ended
watch_holder-requires-clause-ended c =
    subst (λ (lo : ℕ). FirstEndBy c.args.list.now c.first_place-from.result lo) c.first_leaf.ensures.value
    (c.first_place-from.ensures.ended (packed_from_local c.args.list.now c.requires))

pub returns-then-has_few-clause-grows : goal.returns-then-has_few-clause-grows
returns-then-has_few-clause-grows c =
    let g : IsCell c.args.cell = (level_of c.args.cell, place_of c.args.cell, c.id.ensures.cell) in
    grows_on c.in_ok-at.ensures.grows
    (grows_within c.watch_holder.new.watched.items c.push.new.self.items c.around-parent.result
    c.in_ok-push.ensures.items c.args.list.now c.requires
    (subst IsCell (sym c.around-parent.ensures.value) (around_is_cell c.args.cell g))
    (λ h m l w. c.in_ok-at.ensures.holder h m (inside_from_within c.around-parent.result h w)))

pub returns-then-has_few-clause-watched : goal.returns-then-has_few-clause-watched
returns-then-has_few-clause-watched c =
    watched_around c.args.cell (level_of c.args.cell, place_of c.args.cell, c.id.ensures.cell)
    (subst (LiesIn (has_leaf c.push.new.self.items)) c.around-parent.ensures.value
    (own_more c.watch_holder.new.watched.items c.push.new.self.items c.around-parent.result
    c.in_ok-push.ensures.items))

pub returns-clause-grows : goal.returns-clause-grows
returns-clause-grows c =
    let u = c.args.list.now in
    let g : IsCell c.args.cell = (level_of c.args.cell, place_of c.args.cell, c.id.ensures.cell) in
    grows_on c.in_ok-at.ensures.grows (grows_on
    (grows_within c.watch_holder.new.watched.items c.push-2.new.self.items c.args.cell
    c.in_ok-push-2.ensures.items u c.requires g
    (λ h m l w. c.in_ok-at.ensures.holder h m
    (subst (λ (p : ℕ). IsInside p h) (sym c.around-parent.ensures.value)
    (inside_from_within (around c.args.cell) h (parent_within c.args.cell h g (is_cell u h c.requires m) l w)))))
    c.in_ok-end.ensures.grows)

pub returns-clause-watched : goal.returns-clause-watched
returns-clause-watched c = record {
  cell = (level_of c.args.cell, place_of c.args.cell, c.id.ensures.cell);
  own = λ x v. c.in_ok-end.ensures.grows.kept x (own_more c.watch_holder.new.watched.items c.push-2.new.self.items
      c.args.cell c.in_ok-push-2.ensures.items x v);
  siblings = subst (HasChildren (has_leaf c.watch_children.new.watched.items) c.args.list.now)
      c.around-parent.ensures.value c.in_ok-end.ensures.children;
}

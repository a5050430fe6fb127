use Rattle.std.proofs.Common.{ℕ, ◌≡◌, ◌<◌, true, length, get_or, ◌∙◌, sym, subst, arith}
use Rattle.std.proofs.lemmas.Bool.{false≢true}
use Rattle.std.proofs.lemmas.Grind.{get_or_default_zero}
use Rattle.std.proofs.lemmas.List.Elements.{Contains-get_or}
use Rattle.s2cell.specs.Cell.{IsInside, level_of, place_of, first_leaf}
use Rattle.s2list.specs.Packed.{IsPlace}
use Rattle.s2list.specs.Union.{has_leaf, LiesIn}
use Rattle.s2union.specs.Apply.{has}
use Rattle.s2edit.proofs.PartLemmas.{has_member, leaf_there}
use Rattle.s2edit.proofs.Watching.{found_place, place_is, grows_none, grows_by_own, own_more}
use Rattle.s2edit.proofs.near.watch_holder.Goals.{After-find_from-at}
use Rattle.s2edit.proofs.near.watch_holder.Goals as goal

found : (c : After-find_from-at) → IsPlace c.args.list.now (first_leaf c.args.cell) c.find_from-at.result
found c = found_place c.args.list.now c.args.cell c.args.from c.find_from-at.result c.requires.local
    c.first_leaf.ensures.value c.requires.ended c.find_from-at.ensures.within c.find_from-at.ensures.ended
    c.find_from-at.ensures.next

-- the holder of the cell is at the index that was found
at_found : (c : After-find_from-at) (h : ℕ) → has c.args.list.now h ≡ true → IsInside c.args.cell h →
    (c.find_from-at.result < length c.args.list.now) × (get_or c.args.list.now c.find_from-at.result 0 ≡ h)
at_found c h m i = place_is c.args.list.now h (first_leaf c.args.cell) c.find_from-at.result c.requires.local
    (found c) m (i (first_leaf c.args.cell)
    (leaf_there c.args.cell (level_of c.args.cell, place_of c.args.cell, c.id.ensures.cell)))

pub returns-then-at-list-clause-ended : goal.returns-then-at-list-clause-ended
returns-then-at-list-clause-ended c =
    (found (goal.at.returns-then-at-list-clause-ended c).After-find_from-at).ended

pub returns-then-at-list-clause-grows : goal.returns-then-at-list-clause-grows
returns-then-at-list-clause-grows c = grows_none _ _

pub returns-then-at-list-clause-holder : goal.returns-then-at-list-clause-holder
returns-then-at-list-clause-holder c h m i =
    let p = at_found (goal.at.returns-then-at-list-clause-holder c).After-find_from-at h m i in
    absurd (omega (arith, p.0, c.if-at-list.true))

pub returns-then-contains-clause-ended : goal.returns-then-contains-clause-ended
returns-then-contains-clause-ended c =
    (found (goal.at.returns-then-contains-clause-ended c).After-find_from-at).ended

pub returns-then-contains-clause-grows : goal.returns-then-contains-clause-grows
returns-then-contains-clause-grows c =
    let u = c.args.list.now in
    let k = c.index-list-at.result in
    grows_by_own c.args.watched.now.items c.push.new.self.items k c.in_ok-push.ensures.items u c.requires.local
    (subst (λ (j : ℕ). has u j ≡ true) (sym c.index-list-at.is)
    (has_member u (get_or u c.find_from-at.result k)
    (Contains-get_or u c.find_from-at.result k (omega (arith, c.if-at-list.false)))))

pub returns-then-contains-clause-holder : goal.returns-then-contains-clause-holder
returns-then-contains-clause-holder c h m i =
    let p = at_found (goal.at.returns-then-contains-clause-holder c).After-find_from-at h m i in
    let same = c.index-list-at.is
    ∙ get_or_default_zero c.args.list.now c.find_from-at.result c.index-list-at.result p.0 ∙ p.1 in
    subst (LiesIn (has_leaf c.push.new.self.items)) same
    (own_more c.args.watched.now.items c.push.new.self.items c.index-list-at.result c.in_ok-push.ensures.items)

pub returns-clause-ended : goal.returns-clause-ended
returns-clause-ended c = (found (goal.at.returns-clause-ended c).After-find_from-at).ended

pub returns-clause-grows : goal.returns-clause-grows
returns-clause-grows c = grows_none _ _

pub returns-clause-holder : goal.returns-clause-holder
returns-clause-holder c h m i =
    let p = at_found (goal.at.returns-clause-holder c).After-find_from-at h m i in
    let same = c.index-list-at.is
    ∙ get_or_default_zero c.args.list.now c.find_from-at.result c.index-list-at.result p.0 ∙ p.1 in
    absurd (false≢true (c.if-contains.ensures.value.1
    (subst (λ (k : ℕ). IsInside c.args.cell k) (sym same) i)))

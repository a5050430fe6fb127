use Rattle.std.proofs.Common.{◌≡◌, ℕ, ◌&&◌, ◌∙◌, refl}
use Rattle.s2cell.specs.Rectangles.{rect_set}
use Rattle.s2list.specs.Union.{has_leaf}
use Rattle.s2cover.specs.Coverings.{inner_set}
use Rattle.s2cover.proofs.Faces.{many_same, none_normal}
use Rattle.s2cover.proofs.Clips.{narrow_clip, no_clip, leaves_ok, normal_ok}
use Rattle.s2cover.proofs.clip.clip_inner.Goals as goal

-- the leaves of what the union shares with the rectangle, and with the one rounded inward
narrow : (c : goal.After-inner_part) (x : ℕ) →
    inner_set (λ y. has_leaf c.args.union.now.cells y && rect_set c.in-Some.narrow y) c.args.level x
    ≡ inner_set (λ y. has_leaf c.args.union.now.cells y && rect_set c.args.rect.now y) c.args.level x
narrow c = narrow_clip c.args.level (has_leaf c.args.union.now.cells) (rect_set c.in-Some.narrow)
    (rect_set c.args.rect.now) c.requires.level c.in-Some.ensures.leaves

pub returns-in-Some-clause-leaves : goal.returns-in-Some-clause-leaves
returns-in-Some-clause-leaves c = leaves_ok c.inner_part.result _ _ (narrow c) c.inner_part.ensures.leaves

pub returns-in-Some-clause-normal : goal.returns-in-Some-clause-normal
returns-in-Some-clause-normal c = normal_ok c.inner_part.result _ _ (narrow c) c.inner_part.ensures.normal

pub returns-in-Some-clause-many : goal.returns-in-Some-clause-many
returns-in-Some-clause-many c = many_same c.inner_part.result _ c.args.max _ _ (narrow c) c.inner_part.ensures.many

pub returns-in-None-clause-leaves : goal.returns-in-None-clause-leaves
returns-in-None-clause-leaves c x =
    let no = no_clip c.args.level (has_leaf c.args.union.now.cells) (rect_set c.args.rect.now)
    (c.in-None.ensures.none refl) x in
    rw (c.from_normalized.ensures.value, c.new.ensures.items) (rw no refl)

pub returns-in-None-clause-normal : goal.returns-in-None-clause-normal
returns-in-None-clause-normal c =
    none_normal (inner_set (λ y. has_leaf c.args.union.now.cells y && rect_set c.args.rect.now y) c.args.level)
    c.from_normalized.result.cells
    (no_clip c.args.level (has_leaf c.args.union.now.cells) (rect_set c.args.rect.now) (c.in-None.ensures.none refl))
    (c.from_normalized.ensures.value ∙ c.new.ensures.items)

use Rattle.std.proofs.Common.{◌≡◌, ℕ, ◌&&◌, ◌∙◌}
use Rattle.s2cell.specs.Rectangles.{rect_set}
use Rattle.s2list.specs.Union.{has_leaf}
use Rattle.s2cover.specs.Cut.{cells_kept}
use Rattle.s2cover.specs.Coverings.{inner_set}
use Rattle.s2cover.proofs.Faces.{many_same}
use Rattle.s2cover.proofs.Clips.{kept_clip, leaves_ok, met_clip, normal_ok}
use Rattle.s2cover.proofs.Parts.{intersection_inner}
use Rattle.s2cover.proofs.clip.inner_part.Goals as goal

-- the leaves of what the two share, once both are made of cells of the level
leaves : (c : goal.After-drop-whole-inside) (x : ℕ) → (has_leaf c.in_ok-whole.whole.cells x && rect_set c.args.rect x)
    ≡ inner_set (λ y. has_leaf c.args.union.now.cells y && rect_set c.args.rect y) c.args.level x
leaves c x =
    intersection_inner (rect_set c.args.rect) c.args.level c.requires.aligned c.in_ok-whole.ensures.local
    c.in_ok-whole.ensures.above x
    ∙ kept_clip c.args.level c.in_ok-whole.whole.cells (rect_set c.args.rect) c.requires.level c.cells.ensures.local
    (met_clip (rect_set c.args.rect) (cells_kept c.args.level c.args.union.now.cells) c.in_ok-whole.ensures.cells) x

pub returns-clause-leaves : goal.returns-clause-leaves
returns-clause-leaves c = leaves_ok c.clip_aligned.result _ _ (leaves c) c.clip_aligned.ensures.leaves

pub returns-clause-normal : goal.returns-clause-normal
returns-clause-normal c = normal_ok c.clip_aligned.result _ _ (leaves c) c.clip_aligned.ensures.normal

pub returns-clause-many : goal.returns-clause-many
returns-clause-many c = many_same c.clip_aligned.result _ c.args.max _ _ (leaves c) c.clip_aligned.ensures.many

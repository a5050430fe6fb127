use Rattle.s2cell.specs.Rectangles.{rect_set}
use Rattle.s2cover.proofs.Clips.{kept_clip, normal_ok}
use Rattle.s2cover.proofs.Faces.{many_same}
use Rattle.s2cover.proofs.listed.clip_inner_of.Goals as goal

pub returns-clause-normal : goal.returns-clause-normal
returns-clause-normal g c local =
    normal_ok c.clip_inner.result _ _
    (kept_clip c.args.level c.in_ok-near.near.cells (rect_set c.args.rect.now) c.requires.level local
    (c.in_ok-near.ensures.leaves local)) c.clip_inner.ensures.normal

pub returns-clause-many : goal.returns-clause-many
returns-clause-many g c local =
    many_same c.clip_inner.result _ c.args.max _ _
    (kept_clip c.args.level c.in_ok-near.near.cells (rect_set c.args.rect.now) c.requires.level local
    (c.in_ok-near.ensures.leaves local)) c.clip_inner.ensures.many

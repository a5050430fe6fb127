use Rattle.s2cell.specs.Rectangles.{rect_set}
use Rattle.s2cover.proofs.Clips.{normal_ok}
use Rattle.s2cover.proofs.Faces.{many_same}
use Rattle.s2cover.proofs.Near.{outer_near}
use Rattle.s2cover.proofs.listed.clip_outer_of.Goals as goal

pub returns-clause-normal : goal.returns-clause-normal
returns-clause-normal g c local =
    normal_ok c.clip_outer.result _ _
    (outer_near c.args.level (g.C.Listed.ids c.args.cells.now) c.in_ok-near.near.cells (rect_set c.args.rect.now)
    c.requires.level local.cells (c.in_ok-near.ensures.leaves local)) c.clip_outer.ensures.normal

pub returns-clause-many : goal.returns-clause-many
returns-clause-many g c local =
    many_same c.clip_outer.result _ c.args.max _ _
    (outer_near c.args.level (g.C.Listed.ids c.args.cells.now) c.in_ok-near.near.cells (rect_set c.args.rect.now)
    c.requires.level local.cells (c.in_ok-near.ensures.leaves local)) c.clip_outer.ensures.many

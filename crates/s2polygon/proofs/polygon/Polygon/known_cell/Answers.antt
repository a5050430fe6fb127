use Rattle.std.proofs.Common.{ap, sym, subst, ◌∙◌, ◌-◌, ◌<◌, ℕ, List, All, length}
use Rattle.s2cell.specs.Cell.{IsCell, level_of, place_of}
use Rattle.s2polygon.proofs.Indexes.{face_within}
use Rattle.s2polygon.proofs.Polygons.{ok_both}
use Rattle.s2polygon.proofs.Quartering.{cell_known}
use Rattle.s2polygon.specs.Faces.{edges_on}
use Rattle.s2polygon.specs.Descents.{top_in}
use Rattle.s2polygon.specs.declared.frames.FramedEdge.{FramedEdge}
use Rattle.s2polygon.proofs.polygon.Polygon.known_cell.Goals as goal

pub known_face-requires : goal.known_face-requires
known_face-requires c =
    let ic : IsCell c.args.cell = (level_of c.args.cell, place_of c.args.cell, c.id.ensures.cell) in
    face_within ic c.square-at.ensures.square

pub list-requires : goal.list-requires
list-requires c =
    let ic : IsCell c.args.cell = (level_of c.args.cell, place_of c.args.cell, c.id.ensures.cell) in
    face_within ic c.square-at.ensures.square

pub returns : goal.returns
returns c =
    let r = c.args.self.now in
    let at = c.square-at.result in
    let same = c.margin.ensures.value in
    let back = sym same in
    let list = c.list.ensures.value in
    let own = sym list in
    let i = c.from-x.ensures in
    let j = c.from-y.ensures in
    let k = c.from-bottom.ensures ∙ ap (λ (n : ℕ). 30 - n) c.level.ensures.value in
    let start = rw (own, back) at c.in_ok-face.ensures.right in
    let there = c.descend_to.ensures.right (top_in r at.face) (edges_on at.face r.edges) start in
    ok_both c.descend_to.result (λ known right within. record {
      face = at.face;
      i = at.i;
      j = at.j;
      size = at.size;
      is = cell_known r c.args.cell at.face at.i at.j at.size known c.from-bottom.result
          (level_of c.args.cell, place_of c.args.cell, c.id.ensures.cell) c.square-at.ensures.square k
          (rw (same, list, i, j) at right)
          (subst (λ (l : List FramedEdge). All (λ n. n < length l) known.edges.items) list within);
    })
    there c.descend_to.ensures.within

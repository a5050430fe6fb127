use Rattle.std.proofs.Common.{sym, ap, ◌∙◌, ℕ}
use Rattle.s2cell.specs.Cell.{first_leaf}
use Rattle.s2polygon.specs.Faces.{edges_on}
use Rattle.s2polygon.specs.Descents.{near_face}
use Rattle.s2polygon.proofs.Polygons.{held_is, if_ok}
use Rattle.s2polygon.proofs.polygon.Polygon.holds.Goals as goal

pub returns : goal.returns
returns c =
    let place = (c.square-at.ensures.leaf c.requires).0 in
    let same = c.square-at.ensures.square.face_is ∙ sym c.face-face.ensures.value in
    let there = rw same at place in
    let edges = edges_on c.face-face.result c.args.self.now.edges in
    let back = sym c.margin.ensures.value in
    if_ok c.parity_of_leaf.result
    (λ odd e. held_is (first_leaf c.args.leaf) c.face-face.result c.square-at.result.i c.square-at.result.j there
    c.args.self.now c.top.result odd c.top.ensures e)
    (c.parity_of_leaf.ensures edges (c.list.ensures.value ∙ ap (λ (m : ℕ). near_face m edges) back))

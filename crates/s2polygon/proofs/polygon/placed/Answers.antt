use Rattle.std.proofs.Common.{sym, ◌∙◌}
use Rattle.s2cell.specs.Cell.{first_leaf}
use Rattle.s2polygon.specs.Faces.{edges_on}
use Rattle.s2polygon.proofs.Polygons.{list_met_framed, polygon_of}
use Rattle.s2polygon.proofs.polygon.placed.Goals as goal

pub tops_of-tops-requires : goal.tops_of-tops-requires
tops_of-tops-requires c f h = list_met_framed c.args.margin f c.deref.result.now _ (c.in_ok-lists.ensures f h)

pub parity_of_leaf-requires-clause-framed : goal.parity_of_leaf-requires-clause-framed
parity_of_leaf-requires-clause-framed c =
    list_met_framed c.args.margin c.face-face.result c.deref.result.now _
    (c.list_at-all.ensures ∙ c.in_ok-lists.ensures c.face-face.result c.face-face.ensures.most)

pub invariant_of-result : goal.invariant_of-result
invariant_of-result c =
    let place = (c.square-at.ensures.leaf c.requires.leaf).0 in
    let same = c.square-at.ensures.square.face_is ∙ sym c.face-face.ensures.value in
    let there = rw same at place in
    let listed = c.list_at-all.ensures ∙ c.in_ok-lists.ensures c.face-face.result c.face-face.ensures.most in
    polygon_of (first_leaf c.args.outside) c.face-face.result c.square-at.result.i c.square-at.result.j there
    c.args.edges.items c.deref.result.now c.args.margin c.tops_of-tops.result c.exchanged.result c.top_at.result
    c.in_ok-odd.odd c.in_ok-lists.lists c.deref.ensures.value
    (c.tops_of-tops.ensures c.deref.result.now c.args.margin c.in_ok-lists.ensures) c.top_at.ensures
    (c.in_ok-odd.ensures (edges_on c.face-face.result c.deref.result.now) listed)
    c.exchanged.ensures c.face-face.ensures.most c.in_ok-lists.ensures c.requires.margin

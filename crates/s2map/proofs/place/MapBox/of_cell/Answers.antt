use Rattle.std.proofs.Common.{◌/◌, ◌^◌, ◌≡◌, ◌∙◌, sym}
use Rattle.s2cell.proofs.Places.{place_is}
use Rattle.s2cell.proofs.Squares.{one_place}
use Rattle.s2cell.specs.Curve.{i_of, j_of}
use Rattle.s2polygon.specs.Cells.{square}
use Rattle.s2polygon.specs.Frames.{in_frame}
use Rattle.s2polygon.specs.Meets.{InSquare}
use Rattle.s2map.proofs.Sides.{seen}
use Rattle.s2map.proofs.place.MapBox.of_cell.Goals as goal

pub returns-clause-all : goal.returns-clause-all
returns-clause-all c n p covered proper holds =
    let area = c.square-square.result in
    let of = c.square-square.ensures.square in
    let leaf = of.leaves n covered in
    let same = one_place n area.face leaf.0 leaf.1 (n / 4 ^ 30) (i_of n) (j_of n) leaf.2 (place_is n) in
    let face : n / 4 ^ 30 ≡ c.face.result = sym same.0 ∙ (of.face_is ∙ sym c.face.ensures.value) in
    let before = rw face at holds.before in
    let within : InSquare (in_frame c.face.result holds.direction) (square leaf.0 leaf.1 1) =
    rw (same.1, same.2, ← face) holds.within in
    c.box_in.ensures.all p proper (c.octant_of.ensures.all p holds.direction proper holds.is
    (seen c.face.result area.i area.j area.size leaf.0 leaf.1 holds.direction c.in-Some.u c.in-Some-side_of.v
    c.in-Some.ensures c.in-Some-side_of.ensures leaf.3 before within))

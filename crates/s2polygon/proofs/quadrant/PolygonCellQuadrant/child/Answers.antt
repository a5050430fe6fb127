use Rattle.std.proofs.Common.{arith, sym, subst, List, All, length, ◌<◌}
use Rattle.s2cell.specs.Cell.{level_of}
use Rattle.s2polygon.specs.Faces.{edges_on}
use Rattle.s2polygon.specs.Descents.{top_in}
use Rattle.s2polygon.specs.declared.frames.FramedEdge.{FramedEdge}
use Rattle.s2polygon.proofs.Indexes.{face_within}
use Rattle.s2polygon.proofs.Quartering.{child_known, parent_right}
use Rattle.s2polygon.proofs.quadrant.PolygonCellQuadrant.child.Goals as goal

pub list-all-requires : goal.list-all-requires
list-all-requires c = face_within c.requires.sound.0.cell c.requires.sound.0.square

pub known_of_child-requires-clause-inner : goal.known_of_child-requires-clause-inner
known_of_child-requires-clause-inner c = let l = c.child-placed.ensures.level in omega arith

pub known_of_child-requires-clause-framed : goal.known_of_child-requires-clause-framed
known_of_child-requires-clause-framed c = c.list-all.ensures.framed

pub known_of_child-requires-clause-within : goal.known_of_child-requires-clause-within
known_of_child-requires-clause-within c =
    subst (λ (l : List FramedEdge). All (λ n. n < length l) c.args.self.now.known.edges.items)
    (sym c.list-all.ensures.value) c.requires.sound.1.within

pub returns-clause-sound : goal.returns-clause-sound
returns-clause-sound c =
    let r = c.args.self.now.polygon.now in
    let placed = c.args.self.now.placed in
    let child = c.child-placed.result in
    let same = c.margin.ensures.value in
    let back = sym same in
    let list = c.list-all.ensures.value in
    let own = sym list in
    let parent = rw (own, back) at (parent_right r placed child c.args.digit c.requires.sound.0
    c.child-placed.ensures.placed
    c.requires.deep c.requires.digit c.child-placed.ensures.cell c.child-placed.ensures.level c.args.self.now.known
    c.requires.sound.1) in
    let found = c.in_ok-known.ensures.right (top_in r placed.square.face) (edges_on placed.square.face r.edges)
    (level_of placed.cell) parent in (
      c.child-placed.ensures.placed,
      child_known r placed child c.args.digit c.requires.sound.0 c.child-placed.ensures.placed c.requires.deep
          c.requires.digit c.child-placed.ensures.cell c.child-placed.ensures.level c.in_ok-known.known
          (rw (same, list) at found)
          (subst (λ (l : List FramedEdge). All (λ n. n < length l) c.in_ok-known.known.edges.items) list
          c.in_ok-known.ensures.within),
    )

use Rattle.std.proofs.Common.{◌≡◌, All, filter, flat_map, take}
use Rattle.s2map.specs.Boxes.{meets}
use Rattle.s2map.specs.Map.{on_turns}
use Rattle.s2map.specs.Working.Sizes.{IsNearEdge}
use Rattle.s2map.proofs.near.edges_near.Given as goal

abbrev pub invariant-loop-e : goal.invariant-loop-e
invariant-loop-e l =
    (l.list.items ≡ filter (meets l.q) (flat_map on_turns (take l.e-index l.edges))) × All IsNearEdge l.list.items

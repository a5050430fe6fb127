use Rattle.std.proofs.Common.{◌<◌, ◌≤◌, ◌/◌, ◌-◌, ◌^◌, Bool, List, All, length}
use Rattle.s2polygon.specs.Descents.{IsRight, near_of}
use Rattle.s2polygon.specs.declared.frames.FramedEdge.{FramedEdge}
use Rattle.s2polygon.proofs.descent.descend_to.Given as goal

abbrev pub decreases-loop-k : goal.decreases-loop-k
decreases-loop-k l = l.k

abbrev pub invariant-loop-k : goal.invariant-loop-k
invariant-loop-k l =
    ((l.bottom ≤ l.k) × (l.k ≤ 30))
    × All (λ n. n < length l.all) l.known.edges.items
    × ((top : Bool) (edges : List FramedEdge) → IsRight l.margin top edges 0 30 0 0 (near_of l.all l.fn.face)
    → IsRight l.margin top edges (30 - l.k) l.k (l.x / 2 ^ l.k) (l.y / 2 ^ l.k) (near_of l.all l.known))

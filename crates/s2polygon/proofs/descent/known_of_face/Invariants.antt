use Rattle.std.proofs.Common.{◌≡◌, ◌<◌, All, length, take}
use Rattle.s2polygon.specs.Descents.{picked}
use Rattle.s2polygon.proofs.descent.known_of_face.Given as goal

abbrev pub invariant-loop-n : goal.invariant-loop-n
invariant-loop-n l = (picked l.all l.edges.items ≡ take l.n l.all) × All (λ n. n < length l.all) l.edges.items

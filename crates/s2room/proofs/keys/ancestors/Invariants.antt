use Rattle.std.proofs.Common.{◌≡◌, ℕ, List, drop, length}
use Rattle.s2list.specs.Union.{IsLocal}
use Rattle.s2list.specs.Room.{IsPut}
use Rattle.s2room.proofs.Reaching.{Reached}
use Rattle.s2room.proofs.keys.ancestors.Given as goal

abbrev pub invariant-loop-k : goal.invariant-loop-k
invariant-loop-k g l = record {
  len : length l.out ≡ length l.fn.out;
  rest : drop l.n l.out ≡ drop l.n l.fn.out;
  put : IsLocal (g.C.Listed.ids l.cells)
      → (list : List ℕ) × Reached (g.C.Listed.ids l.cells) l.k l.from list × IsPut list l.fn.out l.out l.n;
}

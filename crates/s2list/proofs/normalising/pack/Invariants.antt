use Rattle.std.proofs.Common.{◌≡◌, ◌≤◌, length}
use Rattle.s2list.proofs.Placing.{Compacting}
use Rattle.s2list.proofs.normalising.pack.Given as goal

-- what the loop keeps
abbrev pub invariant-loop-i : goal.invariant-loop-i
invariant-loop-i g l = record {
  within : l.i ≤ length (g.C.Listed.ids l.fn.list);
  packed : Compacting (g.C.Listed.ids l.fn.list) (g.C.Listed.ids l.list) l.n l.i;
  readable : g.C.CellsMut.readable l.list;
  place : g.C.CellsMut.place l.list ≡ g.C.CellsMut.place l.fn.list;
}

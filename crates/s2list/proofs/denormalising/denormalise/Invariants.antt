use Rattle.std.proofs.Common.{◌≡◌, drop, length}
use Rattle.s2list.specs.Union.{IsLocal}
use Rattle.s2list.proofs.Items.{PutFirst}
use Rattle.s2list.proofs.denormalising.denormalise.Given as goal

abbrev pub invariant-loop-k : goal.invariant-loop-k
invariant-loop-k g l = record {
  len : length l.out ≡ length l.fn.out;
  rest : drop l.n l.out ≡ drop l.n l.fn.out;
  put : IsLocal (g.C.Listed.ids l.cells) → PutFirst (g.C.Listed.ids l.cells) l.cuts.least l.cuts.modulus l.k l.fn.out
      l.out l.n;
}

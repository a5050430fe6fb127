use Rattle.std.proofs.Common.{ℕ, List, ap, arith}
use Rattle.s2edit.specs.History.{History}
use Rattle.s2edit.proofs.Leading.{side_counts}
use Rattle.s2edit.proofs.editor.Editor.undoable.Goals as goal

pub returns-clause-count : goal.returns-clause-count
returns-clause-count c = omega (arith, c.len.ensures.len, (side_counts c.self.inside c.args.self.now c.self.view_is).0)

pub returns-clause-within : goal.returns-clause-within
returns-clause-within c =
    let n = side_counts c.self.inside c.args.self.now c.self.view_is in
    omega (
      arith,
      c.len.ensures.len,
      c.self.invariant.depth_bound,
      n.0,
      n.1,
      ap (λ (h : History (List ℕ)). h.depth) c.self.view_is,
    )

use Rattle.s2list.specs.Union.{has_leaf}
use Rattle.s2list.proofs.Normal.{normal_from_local, local_from_normal}
use Rattle.s2union.proofs.normalising.is_normalized.Goals as goal

pub returns-clause-normal : goal.returns-clause-normal
returns-clause-normal c =
    let u = c.args.cells.now in (
      λ e. normal_from_local u (c.is_union.ensures.0 e),
      λ n. c.is_union.ensures.1 (local_from_normal (has_leaf u) u n),
    )

use Rattle.std.proofs.Common.{inl, refl}
use Rattle.s2list.specs.Union.{has_leaf}
use Rattle.s2calc.proofs.check.check_file.Goals as goal

pub returns : goal.returns
returns g c =
    let fetched = c.in_ok-union.ensures in
    inl (
      has_leaf c.in_ok-union.union.cells,
      c.in_ok-union.union.cells,
      fetched.0,
      fetched.1,
      rw (c.len.ensures, c.leaf_count.ensures.value) refl,
    )

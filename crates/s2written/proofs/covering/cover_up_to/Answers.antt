use Rattle.std.proofs.lemmas.Result.{err_from_is_err_and}
use Rattle.s2written.proofs.covering.cover_up_to.Goals as goal

pub returns-in_err-map-clause-fault : goal.returns-in_err-map-clause-fault
returns-in_err-map-clause-fault c =
    let p = err_from_is_err_and c.from_residual.result c.from_residual.ensures.1 in
    rw (p.1, p.2) c.in_err-map.ensures.fault

pub returns-clause-covers : goal.returns-clause-covers
returns-clause-covers c =
    let outer = c.in_ok-outer.ensures in
    let inner = c.in_ok-inner.ensures in
    record {
      map = c.in_ok-map.map;
      is_map = c.in_ok-map.ensures.map;
      misses_none = outer.outer;
      none_outside = inner.inner;
      outer_near = outer.near;
      inner_near = inner.near;
      outer_few = outer.within;
      inner_few = inner.within;
      outer_depth = outer.level;
      inner_depth = inner.level;
      outer_local = outer.local;
      inner_local = inner.local;
    }

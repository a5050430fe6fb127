use Rattle.s2geodesic.proofs.Rounding.{inner_kept, outer_kept, small_margin}
use Rattle.s2geodesic.proofs.laws.law_of_true_corners.Goals as goal

pub returns-clause-outer : goal.returns-clause-outer
returns-clause-outer c corners moved ends r x h t l is =
    outer_kept corners ends r h
    (c.law_of_halves.ensures.opposite r corners ends h.edges h.rings h.outside (small_margin r h.margin))
    c.law_of_moved_corners.ensures.outer moved x t l is

pub returns-clause-inner : goal.returns-clause-inner
returns-clause-inner c corners moved ends r x h t l is =
    inner_kept corners ends r h
    (c.law_of_halves.ensures.opposite r corners ends h.edges h.rings h.outside (small_margin r h.margin))
    c.law_of_moved_corners.ensures.inner moved x t l is

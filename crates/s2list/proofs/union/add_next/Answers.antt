use Rattle.std.proofs.Common.{◌≡◌, ◌+◌, ◌∙◌, get_or, ap, arith}
use Rattle.s2cell.specs.Cell.{IsCell, first_leaf, size_of}
use Rattle.s2cell.proofs.CellLemmas.{cell_leaves}
use Rattle.s2list.specs.Union.{IsLocal}
use Rattle.s2list.proofs.Uniting.{along_more, along_run, along_within, next_brings, no_other}
use Rattle.s2list.proofs.union.add_next.Given.{Over}
use Rattle.s2list.proofs.union.add_next.Goals as goal
use Rattle.s2list.proofs.union.add_next.Goals.{After-end_of-end}

-- where the next cell begins and ends
record Next (g : Over) (c : After-end_of-end g) : Type 0 where
  first : c.first_of-first.result ≡ first_leaf (get_or (g.X.Listed.ids c.args.xs.now) c.args.i 0)
  end : c.end_of-end.result ≡ first_leaf (get_or (g.X.Listed.ids c.args.xs.now) c.args.i 0)
      + size_of (get_or (g.X.Listed.ids c.args.xs.now) c.args.i 0)

next : (g : Over) (c : After-end_of-end g) → IsLocal (g.X.Listed.ids c.args.xs.now) → Next g c
next g c lx =
    let own : IsCell c.id-x.result = rw c.id-x.ensures (lx.cells c.args.i 0 c.requires.there) in
    record {
      first = c.first_of-first.ensures own ∙ ap first_leaf c.id-x.ensures;
      end = c.end_of-end.ensures own ∙ ap (λ v. first_leaf v + size_of v) c.id-x.ensures;
    }

pub returns-then-first-pile-clause-added : goal.returns-then-first-pile-clause-added
returns-then-first-pile-clause-added g c lx ly order S same old s =
    let at = next g (goal.at.returns-then-first-pile-clause-added g c).After-end_of-end lx in
    let first = at.first in
    let end = at.end in
    along_more _ s (omega arith)
    (along_within c.max.result lx ly same s c.requires.there order (omega (arith, c.if-first-pile.true)) (omega arith))

pub returns-then-i-stop-clause-added : goal.returns-then-i-stop-clause-added
returns-then-i-stop-clause-added g c lx ly order S same old s =
    let r = c.run_to-stop.ensures in
    let some = c.if-i-stop.true in
    along_run c.rest_of.result.first c.in_ok-laid.laid lx (no_other _ _ same) s (c.rest_of.ensures.free ly s.ended_y)
    some (r.within some) (r.apart lx some) (r.cut lx some) (r.mark lx some) (c.in_ok-laid.ensures.end lx)
    (c.in_ok-laid.ensures.laid lx S old c.args.pile.hi)

pub returns-clause-added : goal.returns-clause-added
returns-clause-added g c lx ly order S same old s =
    let at = next g (goal.at.returns-clause-added g c).After-end_of-end lx in
    let first = at.first in
    let end = at.end in
    let x = get_or (g.X.Listed.ids c.args.xs.now) c.args.i 0 in
    let some = (cell_leaves x (lx.cells c.args.i 0 c.requires.there)).some in
    let high = c.in_ok-more.ensures.end (omega arith) in
    along_more c.in_ok-more.more s (omega (arith, c.if-first-pile.false))
    (c.in_ok-more.ensures.added S old c.args.pile.hi c.in_ok-more.more.hi
    (rw (first, end) (next_brings _ c.in_ok-more.more.hi lx ly same s c.requires.there order
    (omega (arith, c.if-first-pile.false)) (omega (arith, c.if-first-pile.false)))) s.heap)

use Rattle.s2cover.specs.Working.Descent.{is_outer}
use Rattle.s2cover.proofs.Splittings.{each_from, left_sizes, left_front}
use Rattle.s2cover.proofs.splitting.leave_out.Goals as goal

pub returns-clause-sizes : goal.returns-clause-sizes
returns-clause-sizes g c = left_sizes (is_outer c.args.kind) _ c.args.ahead.now.items c.in_ok-rest.ensures.items
    c.in_ok-rest.ensures.tail c.in_ok-close.ensures.len c.in_ok-close.ensures.inner c.requires.sizes

pub returns-clause-front : goal.returns-clause-front
returns-clause-front g c al d k spent budget f =
    let r = c.args.region.now in
    left_front g.R.RoughRegion.id (g.R.RoughRegion.sound r) g.R.RoughRegion.work
    (g.R.RoughRegion.outside r) (g.R.RoughRegion.inside r) (g.R.RoughRegion.crosses r) _ spent
    c.args.left.now c.taken-count.new.left c.close.new.kept.items
    c.split_off.new.self.items c.in_ok-rest.rest.items c.in_ok-rest.ensures.items c.in_ok-rest.ensures.tail
    c.in_ok-close.ensures.times c.in_ok-close.ensures.len
    (λ t. each_from g.R.RoughRegion.id _ _ _ (c.in_ok-close.ensures.each t)) c.in_ok-close.ensures.inner
    (let v = c.deref.ensures.value in rw v at c.taken-count.ensures.taken) budget f

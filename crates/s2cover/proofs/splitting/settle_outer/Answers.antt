use Rattle.std.proofs.Common.{arith}
use Rattle.std.proofs.lemmas.Result.{IfOk-weaker}
use Rattle.s2cover.proofs.Splittings.{front_split, front_whole}
use Rattle.s2cover.proofs.splitting.settle_outer.Goals as goal

pub returns-then-fits-clause-front : goal.returns-then-fits-clause-front
returns-then-fits-clause-front g c = IfOk-weaker c.join-then-fits.result _ _ (λ y e r al d k sp rest n fam fr.
    front_split g.R.RoughRegion.id (g.R.RoughRegion.sound r) g.R.RoughRegion.work
    (g.R.RoughRegion.outside r) (g.R.RoughRegion.inside r) (g.R.RoughRegion.crosses r)
    c.join.new.list.items c.args.family.inside.items c.join-then-fits.new.list.items c.args.family.across.items
    c.in_ok-join.ensures e fam fr) c.join-then-fits.ensures

pub returns-clause-front : goal.returns-clause-front
returns-clause-front g c = IfOk-weaker c.add.result _ _ (λ y e r al d k sp rest n fam fr.
    front_whole g.R.RoughRegion.id (g.R.RoughRegion.sound r) g.R.RoughRegion.work
    (g.R.RoughRegion.outside r) (g.R.RoughRegion.inside r) (g.R.RoughRegion.crosses r)
    c.add.new.list.items c.args.family.inside.items c.args.family.across.items e n c.requires.few
    (omega (arith, c.fits.ensures.full c.if-fits.false)) fam fr)
    c.add.ensures

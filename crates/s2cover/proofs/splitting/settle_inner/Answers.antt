use Rattle.std.proofs.Common.{◌∙◌, ap, take, inl, inr, refl, arith}
use Rattle.std.proofs.lemmas.Result.{IfOk-weaker}
use Rattle.s2cover.proofs.Splittings.{front_inner}
use Rattle.s2cover.proofs.splitting.settle_inner.Goals as goal

pub returns-then-len-most-clause-front : goal.returns-then-len-most-clause-front
returns-then-len-most-clause-front g c = IfOk-weaker c.join-then-len-most.result _ _ (λ y e r al d k sp rest n fam fr.
    front_inner g.R.RoughRegion.id (g.R.RoughRegion.sound r) g.R.RoughRegion.work
    (g.R.RoughRegion.outside r) (g.R.RoughRegion.inside r) (g.R.RoughRegion.crosses r)
    c.truncate.new.self.items c.args.family.inside.items c.join-then-len-most.new.list.items c.args.family.across.items
    (c.truncate.ensures.items ∙ ap (take c.args.most) c.in_ok-join.ensures) (inl e) fam fr) c.join-then-len-most.ensures

pub returns-clause-front : goal.returns-clause-front
returns-clause-front g c r al d k sp rest n fam fr =
    front_inner g.R.RoughRegion.id (g.R.RoughRegion.sound r) g.R.RoughRegion.work
    (g.R.RoughRegion.outside r) (g.R.RoughRegion.inside r) (g.R.RoughRegion.crosses r)
    c.truncate.new.self.items c.args.family.inside.items c.args.ahead.now.items c.args.family.across.items
    (c.truncate.ensures.items ∙ ap (take c.args.most) c.in_ok-join.ensures) (inr (
      refl,
      (let h = c.if-len-most.false in
          omega arith),
    )) fam fr

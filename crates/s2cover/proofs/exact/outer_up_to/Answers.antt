use Rattle.std.proofs.Common.{◌≡◌, ⊎_elim, true}
use Rattle.std.proofs.lemmas.Bool.{both_ways}
use Rattle.std.proofs.lemmas.Result.{IfOk-weaker}
use Rattle.s2list.specs.Union.{has_leaf}
use Rattle.s2cover.proofs.Exactness.{Out, exact_outer, exact_shares}
use Rattle.s2cover.proofs.exact.outer_up_to.Goals as goal

pub returns : goal.returns
returns g c =
    let r = c.args.region.now in
    let o = g.R.Quartered.outer r in
    let i = g.R.Quartered.inner r in
    let w = g.R.Quartered.work r in
    let made = c.rough_outer_up_to in
    let e = made.ensures in
    record {
      leaves = IfOk-weaker made.result _ _ (λ u h x l t. ⊎_elim
          (λ (y : has_leaf u.cells x ≡ true). y) (λ (y : Out o i w x). absurd (both_ways (o x) y.0 t)) (h x l))
          e.leaves;
      near = IfOk-weaker made.result _ _ (λ u f. exact_outer o i w u.cells f) e.near;
      shares = IfOk-weaker made.result _ _ (λ u f. exact_shares o i w u.cells f) e.near;
      within = e.within;
      level = e.level;
      local = e.local;
    }

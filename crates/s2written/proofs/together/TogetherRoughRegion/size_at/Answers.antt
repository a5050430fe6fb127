use Rattle.std.proofs.Common.{◌≡◌, All, subst, sym}
use Rattle.s2cover.specs.Coverings.{LiesOutside}
use Rattle.s2written.proofs.Remaining.{remain_all}
use Rattle.s2written.proofs.together.TogetherRoughRegion.size_at.Goals as goal

pub size_of-requires : goal.size_of-requires
size_of-requires g c =
    subst (All g.R.At.Quadrant.sound) (sym c.deref.ensures.value)
    (remain_all (λ r. LiesOutside (g.R.Quartered.outer r) c.args.at.now.cell)
    (λ r q. g.R.At.Quadrant.sound q × (g.R.At.Quadrant.id q ≡ c.args.at.now.cell)
    × (g.R.At.Quadrant.outer q ≡ g.R.Quartered.outer r) × (g.R.At.Quadrant.inner q ≡ g.R.Quartered.inner r)
    × (g.R.At.Quadrant.work q ≡ g.R.Quartered.work r)) g.R.At.Quadrant.sound (λ r q h. h.0)
    c.args.self.now.parts.now c.args.at.now.quadrants.items c.requires)

use Rattle.std.proofs.Common.{◌≡◌, All, Contains, take}
use Rattle.s2cover.specs.Coverings.{LiesOutside}
use Rattle.s2list.specs.Union.{LiesIn}
use Rattle.s2cover.specs.declared.region.Part.TheVariants.{Cross, In, Out}
use Rattle.s2written.proofs.together.part_of.Given as goal

abbrev pub invariant-loop-k : goal.invariant-loop-k
invariant-loop-k g l = record {
  out : l.found ≡ Out → All (λ q. LiesOutside (g.Q.Quadrant.outer q) (g.Q.Quadrant.id q)) (take l.k l.quadrants);
  inside : l.found ≡ In → (q : g.row.Q.Denot) × Contains l.quadrants q
      × LiesIn (g.Q.Quadrant.inner q) (g.Q.Quadrant.id q);
  across : l.found ≡ Cross → (q : g.row.Q.Denot) × Contains l.quadrants q
      × (LiesOutside (g.Q.Quadrant.outer q) (g.Q.Quadrant.id q) → ⊥)
      × (LiesIn (g.Q.Quadrant.inner q) (g.Q.Quadrant.id q) → ⊥);
}

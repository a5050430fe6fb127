use Rattle.std.proofs.Common.{◌≡◌, ◌∙◌, ◌-◌, ◌^◌, All, Contains, ap, arith, subst, sym}
use Rattle.std.proofs.Math.Nat.{min-le_left}
use Rattle.std.specs.List.{sum_by}
use Rattle.s2cover.specs.Coverings.{LiesOutside}
use Rattle.s2written.proofs.Remaining.{any_contains, in_same, outside_same, remain_all, remain_none, remain_sum}
use Rattle.s2written.proofs.Remaining.{remain_whose}
use Rattle.s2written.proofs.together.TogetherRoughRegion.part_at.Goals as goal

pub part_of-requires : goal.part_of-requires
part_of-requires g c =
    subst (All g.R.At.Quadrant.sound) (sym c.deref.ensures.value)
    (remain_all (λ r. LiesOutside (g.R.Quartered.outer r) c.args.at.now.cell)
    (λ r q. g.R.At.Quadrant.sound q × (g.R.At.Quadrant.id q ≡ c.args.at.now.cell)
    × (g.R.At.Quadrant.outer q ≡ g.R.Quartered.outer r) × (g.R.At.Quadrant.inner q ≡ g.R.Quartered.inner r)
    × (g.R.At.Quadrant.work q ≡ g.R.Quartered.work r)) g.R.At.Quadrant.sound (λ r q h. h.0)
    c.args.self.now.parts.now c.args.at.now.quadrants.items c.requires)

pub returns-clause-out : goal.returns-clause-out
returns-clause-out g c e x v =
    let cell = c.args.at.now.cell in
    let Out = λ (q : g.row.R-At.Denot). LiesOutside (g.R.At.Quadrant.outer q) (g.R.At.Quadrant.id q) in
    remain_none (λ r. LiesOutside (g.R.Quartered.outer r) cell)
    (λ r q. g.R.At.Quadrant.sound q × (g.R.At.Quadrant.id q ≡ cell)
    × (g.R.At.Quadrant.outer q ≡ g.R.Quartered.outer r) × (g.R.At.Quadrant.inner q ≡ g.R.Quartered.inner r)
    × (g.R.At.Quadrant.work q ≡ g.R.Quartered.work r)) Out (λ r. g.R.Quartered.outer r x) (λ r o. o x v)
    (λ r q h o. outside_same (g.R.At.Quadrant.outer q) (g.R.Quartered.outer r) (g.R.At.Quadrant.id q) cell h.2 h.1 o x
    v)
    c.args.self.now.parts.now c.args.at.now.quadrants.items c.requires
    (subst (All Out) c.deref.ensures.value (c.part_of.ensures.out e))

pub returns-clause-inside : goal.returns-clause-inside
returns-clause-inside g c e x v =
    let cell = c.args.at.now.cell in
    let parts = c.args.self.now.parts.now in
    let quadrants = c.args.at.now.quadrants.items in
    let w = c.part_of.ensures.inside e in
    let own = remain_whose (λ r. LiesOutside (g.R.Quartered.outer r) cell)
    (λ r q. g.R.At.Quadrant.sound q × (g.R.At.Quadrant.id q ≡ cell)
    × (g.R.At.Quadrant.outer q ≡ g.R.Quartered.outer r) × (g.R.At.Quadrant.inner q ≡ g.R.Quartered.inner r)
    × (g.R.At.Quadrant.work q ≡ g.R.Quartered.work r)) parts quadrants w.0 c.requires
    (subst (λ us. Contains us w.0) c.deref.ensures.value w.1) in
    any_contains (λ r. g.R.Quartered.inner r x) parts own.item own.one
    (in_same (g.R.At.Quadrant.inner w.0) (g.R.Quartered.inner own.item) (g.R.At.Quadrant.id w.0) cell own.has.3
    own.has.1 w.2 x v)

pub returns-clause-across : goal.returns-clause-across
returns-clause-across g c e =
    let cell = c.args.at.now.cell in
    let parts = c.args.self.now.parts.now in
    let quadrants = c.args.at.now.quadrants.items in
    let Gone = λ (r : g.row.R.Denot). LiesOutside (g.R.Quartered.outer r) cell in
    let w = c.part_of.ensures.across e in
    let own = remain_whose Gone
    (λ r q. g.R.At.Quadrant.sound q × (g.R.At.Quadrant.id q ≡ cell)
    × (g.R.At.Quadrant.outer q ≡ g.R.Quartered.outer r) × (g.R.At.Quadrant.inner q ≡ g.R.Quartered.inner r)
    × (g.R.At.Quadrant.work q ≡ g.R.Quartered.work r)) parts quadrants w.0 c.requires
    (subst (λ us. Contains us w.0) c.deref.ensures.value w.1) in
    let work = λ (q : g.row.R-At.Denot). g.R.At.Quadrant.work q (g.R.At.Quadrant.id q) in
    let all = remain_sum Gone
    (λ r q. g.R.At.Quadrant.sound q × (g.R.At.Quadrant.id q ≡ cell)
    × (g.R.At.Quadrant.outer q ≡ g.R.Quartered.outer r) × (g.R.At.Quadrant.inner q ≡ g.R.Quartered.inner r)
    × (g.R.At.Quadrant.work q ≡ g.R.Quartered.work r)) (λ r. g.R.Quartered.work r cell) work
    (λ r q h. ap (λ f. f (g.R.At.Quadrant.id q)) h.4 ∙ ap (g.R.Quartered.work r) h.1) parts quadrants c.requires in
    let least = min-le_left (sum_by work quadrants) (2 ^ 64 - 1) in
    record {
      part = own.item;
      one = own.one;
      not_outside = λ o. w.2 (outside_same (g.R.Quartered.outer own.item) (g.R.At.Quadrant.outer w.0) cell
          (g.R.At.Quadrant.id w.0) (sym own.has.2) (sym own.has.1) o);
      not_inside = λ l. w.3 (in_same (g.R.Quartered.inner own.item) (g.R.At.Quadrant.inner w.0) cell
          (g.R.At.Quadrant.id w.0) (sym own.has.3) (sym own.has.1) l);
      most = omega (arith, least, all);
    }

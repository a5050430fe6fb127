use Rattle.std.proofs.Common.{◌≡◌, ◌∙◌, ◌<◌, All, ap, subst, sym}
use Rattle.s2cell.specs.Cell.{IsCell, child_of, level_of, place_of}
use Rattle.s2cell.specs.declared.TheConstants.{GREATEST_LEVEL}
use Rattle.s2cover.specs.Coverings.{LiesOutside}
use Rattle.s2written.specs.Working.Remaining.{Remain}
use Rattle.s2written.proofs.Remaining.{child_in, outside_same, remain_all, remain_then}
use Rattle.s2written.proofs.together.TogetherRoughRegion.child_at.Goals as goal

pub children_of-requires-clause-quadrants : goal.children_of-requires-clause-quadrants
children_of-requires-clause-quadrants g c =
    let Ready = λ (q : g.row.R-At.Denot). g.R.At.Quadrant.sound q
    × (level_of (g.R.At.Quadrant.id q) < GREATEST_LEVEL) in
    subst (All Ready) (sym c.deref.ensures.value)
    (remain_all (λ r. LiesOutside (g.R.Quartered.outer r) c.args.at.now.cell)
    (λ r q. g.R.At.Quadrant.sound q × (g.R.At.Quadrant.id q ≡ c.args.at.now.cell)
    × (g.R.At.Quadrant.outer q ≡ g.R.Quartered.outer r) × (g.R.At.Quadrant.inner q ≡ g.R.Quartered.inner r)
    × (g.R.At.Quadrant.work q ≡ g.R.Quartered.work r)) Ready
    (λ r q h. (h.0, subst (λ z. level_of z < GREATEST_LEVEL) (sym h.1) c.requires.deep))
    c.args.self.now.parts.now c.args.at.now.quadrants.items c.requires.sound)

pub returns-clause-sound : goal.returns-clause-sound
returns-clause-sound g c =
    let cell = c.args.at.now.cell in
    let child = c.child-cell.result in
    let digit = c.args.digit in
    let i : IsCell cell = (level_of cell, place_of cell, c.id.ensures.cell) in
    let within = child_in cell digit child i c.requires.deep c.requires.digit c.child-cell.ensures in
    let own : (q : g.row.R-At.Denot) → g.R.At.Quadrant.id q ≡ cell → child_of (g.R.At.Quadrant.id q) digit ≡ child =
    λ q e. ap (λ z. child_of z digit) e ∙ sym c.child-cell.ensures in
    let Gone2 = λ (q : g.row.R-At.Denot). LiesOutside (g.R.At.Quadrant.outer q)
    (child_of (g.R.At.Quadrant.id q) digit) in
    let Has2 = λ (q p : g.row.R-At.Denot). g.R.At.Quadrant.sound p
    × (g.R.At.Quadrant.id p ≡ child_of (g.R.At.Quadrant.id q) digit)
    × (g.R.At.Quadrant.outer p ≡ g.R.At.Quadrant.outer q) × (g.R.At.Quadrant.inner p ≡ g.R.At.Quadrant.inner q)
    × (g.R.At.Quadrant.work p ≡ g.R.At.Quadrant.work q) in
    remain_then (λ r. LiesOutside (g.R.Quartered.outer r) cell)
    (λ r q. g.R.At.Quadrant.sound q × (g.R.At.Quadrant.id q ≡ cell)
    × (g.R.At.Quadrant.outer q ≡ g.R.Quartered.outer r) × (g.R.At.Quadrant.inner q ≡ g.R.Quartered.inner r)
    × (g.R.At.Quadrant.work q ≡ g.R.Quartered.work r)) Gone2 Has2 (λ r. LiesOutside (g.R.Quartered.outer r) child)
    (λ r q. g.R.At.Quadrant.sound q × (g.R.At.Quadrant.id q ≡ child)
    × (g.R.At.Quadrant.outer q ≡ g.R.Quartered.outer r) × (g.R.At.Quadrant.inner q ≡ g.R.Quartered.inner r)
    × (g.R.At.Quadrant.work q ≡ g.R.Quartered.work r)) (λ r o x v. o x (within x v))
    (λ r q h o. outside_same (g.R.At.Quadrant.outer q) (g.R.Quartered.outer r) (child_of (g.R.At.Quadrant.id q) digit)
    child h.2 (own q h.1) o)
    (λ r q p h n. (n.0, n.1 ∙ own q h.1, n.2 ∙ h.2, n.3 ∙ h.3, n.4 ∙ h.4)) c.args.self.now.parts.now
    c.args.at.now.quadrants.items c.in_ok-quadrants.quadrants.items c.requires.sound
    (subst (λ us. Remain Gone2 Has2 us c.in_ok-quadrants.quadrants.items) c.deref.ensures.value
    c.in_ok-quadrants.ensures)

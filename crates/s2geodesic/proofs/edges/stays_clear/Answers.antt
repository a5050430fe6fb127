use Rattle.std.proofs.Common.{arith, ◌<◌, ◌≤ℤ◌, IsTrue, false, rules}
use Rattle.std.proofs.lemmas.Int.{ints}
use Rattle.s2geodesic.proofs.Reaching.{clear_a, clear_b, clear_by, clear_some}
use Rattle.s2geodesic.proofs.edges.stays_clear.Goals.{then-at-eq0-via-else-at-eq0+then-at-least}
use Rattle.s2geodesic.proofs.edges.stays_clear.Goals.{then-at-eq0-via-then-at-eq0}
use Rattle.s2geodesic.proofs.edges.stays_clear.Goals as goal

no : IsTrue false → ⊥
no h = search rules

pub reach_of-at-requires-clause-p : goal.reach_of-at-requires-clause-p
reach_of-at-requires-clause-p c = c.requires.p

pub reach_of-at-requires-clause-q : goal.reach_of-at-requires-clause-q
reach_of-at-requires-clause-q c = c.requires.q

pub overflow_mul-at : goal.overflow_mul-at
overflow_mul-at c = omega (arith, c.reach_of-at.ensures.small)

pub returns-then-at-eq0 : goal.returns-then-at-eq0
returns-then-at-eq0 c =
    let at = c.reach_of-at in (
      λ t. absurd (no t),
      λ clear.
          let some = clear_some c.args.p c.args.q at.result.a at.result.b c.from-least.result at.result.sizes
          at.ensures.a at.ensures.b at.ensures.sizes c.from-least.ensures clear in
          let near = clear_a c.args.p c.args.q at.result.a at.result.b c.from-least.result at.result.sizes
          at.ensures.a at.ensures.b at.ensures.sizes c.from-least.ensures clear in
          elim c.then-at-eq0.branch [
            | then-at-eq0-via-then-at-eq0 w ↦ absurd (omega (arith, w.if-at-eq0, some))
            | then-at-eq0-via-else-at-eq0+then-at-least w ↦ absurd (omega (arith, ints, w.if-at-least, near))
          ],
    )

pub returns : goal.returns
returns c =
    let at = c.reach_of-at in
    let some : 0 < at.result.sizes = omega (arith, c.if-at-eq0.false) in
    let near : c.from-least.result ≤ℤ at.result.a = omega (arith, ints, c.if-at-least.false) in (
      λ t. clear_by c.args.p c.args.q at.result.a at.result.b c.from-least.result at.result.sizes at.ensures.a
          at.ensures.b at.ensures.sizes c.from-least.ensures some near (search rules),
      λ clear.
          let far = clear_b c.args.p c.args.q at.result.a at.result.b c.from-least.result at.result.sizes
          at.ensures.a at.ensures.b at.ensures.sizes c.from-least.ensures clear in
          search rules,
    )

use Rattle.std.proofs.Common.{◌<◌, All, Contains, arith, inl, inr, length, subst, sym, ◌∙◌}
use Rattle.std.proofs.lemmas.List.{take_all}
use Rattle.std.proofs.lemmas.List.Elements.{Contains-get_or}
use Rattle.s2cover.specs.Coverings.{LiesOutside}
use Rattle.s2written.proofs.Remaining.{all_next}
use Rattle.s2written.proofs.together.part_of.Goals as goal

pub loop-k-preserved : goal.loop-k-preserved
loop-k-preserved g c =
    let all = c.args.quadrants.now in
    let q = c.index-quadrants-k.result in
    let t = c.loop-k-test.true in
    let l : c.loop-k.k < length all = omega (arith, t) in
    let one : Contains all q = subst (Contains all) (sym c.index-quadrants-k.is) (Contains-get_or all c.loop-k.k _ l) in
    let p = c.part.ensures in
    let e = c.either-found.ensures in
    record {
      out = λ h. all_next (λ q. LiesOutside (g.Q.Quadrant.outer q) (g.Q.Quadrant.id q)) all c.loop-k.k _ q l
          c.index-quadrants-k.is (p.out.0 (e.out h).1) (c.loop-k.invariant.out (e.out h).0);
      inside = λ h. elim (e.inside h) [
        | inl a ↦ c.loop-k.invariant.inside a
        | inr b ↦ (q, one, p.inside.0 b)
      ];
      across = λ h. elim (e.across h) [
        | inl a ↦ c.loop-k.invariant.across a
        | inr b ↦ (q, one, λ o. let z = sym b ∙ p.out.1 o in cc, λ o. let z = sym b ∙ p.inside.1 o in cc)
      ];
    }

pub returns-clause-out : goal.returns-clause-out
returns-clause-out g c h =
    let all = c.args.quadrants.now in
    let f = c.loop-k-test.false in
    let e = c.loop-k.auto.k-end in
    subst (All (λ q. LiesOutside (g.Q.Quadrant.outer q) (g.Q.Quadrant.id q)))
    (take_all c.loop-k.k all (omega (arith, f, e)))
    (c.loop-k.invariant.out h)

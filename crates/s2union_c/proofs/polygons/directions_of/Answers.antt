use Rattle.std.proofs.Common.{◌∙◌, ap, inl, subst, sym, [], ◌∷◌, ◌++◌, take}
use Rattle.s2polygon.specs.Directions.{IsDirection}
use Rattle.s2union_c.specs.Polygons.{points_of}
use Rattle.s2union_c.proofs.Rings.{corner_read, directions_next, points_next}
use Rattle.s2union_c.proofs.polygons.directions_of.Goals as goal

pub returns-in_default-direction_of-clause-fault : goal.returns-in_default-direction_of-clause-fault
returns-in_default-direction_of-clause-fault c ends =
    let h = c.loop-k-test.true in
    inl (
      h,
      λ is. c.in_default-direction_of.ensures
          (subst IsDirection (corner_read c.args.corners.now c.loop-k.k _ h) is),
    )

pub loop-k-preserved : goal.loop-k-preserved
loop-k-preserved c =
    let corners = c.args.corners.now in
    let k = c.loop-k.k in
    let h = c.loop-k-test.true in
    record {
      items = c.in-Ok-push.ensures.items
          ∙ ap (λ l. l ++ (c.in-Some.direction ∷ [])) c.loop-k.invariant.items
          ∙ ap (λ p. points_of (take k corners) ++ (p ∷ [])) c.in-Some.ensures.1
          ∙ sym (points_next corners k _ h);
      all = directions_next corners k _ h c.loop-k.invariant.all c.in-Some.ensures.0;
    }

use Rattle.std.proofs.Common.{◌≤◌, All, IsTrue, arith, length, rules, subst, true}
use Rattle.std.proofs.lemmas.List.{take_all}
use Rattle.std.proofs.lemmas.List.Elements.{All-more}
use Rattle.s2written.specs.Maps.{IsPolygon}
use Rattle.s2written.proofs.map.first_other.Goals as goal

yes : IsTrue true
yes = search rules

pub loop-k-preserved : goal.loop-k-preserved
loop-k-preserved c =
    All-more IsPolygon c.args.parts.now c.loop-k.k _ c.loop-k-test.true c.loop-k.invariant
    (c.if-not-is_polygon.ensures.0 yes)

pub returns-clause-none : goal.returns-clause-none
returns-clause-none c =
    let all : length c.args.parts.now ≤ c.loop-k.k = omega arith in
    subst (All IsPolygon) (take_all c.loop-k.k c.args.parts.now all) c.loop-k.invariant

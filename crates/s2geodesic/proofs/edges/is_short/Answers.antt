use Rattle.std.proofs.Common.{◌≡◌, ◌∙◌, IsTrue, false, inl, inr, rules, subst, to_z, of_z, w64}
use Rattle.s2geodesic.proofs.Reaching.{never_short, no_direction, point_kept, short_is}
use Rattle.s2polygon.specs.Directions.{IsDirection, Point}
use Rattle.s2geodesic.proofs.edges.is_short.Goals.{After-new, After-new-2}
use Rattle.s2geodesic.proofs.edges.is_short.Goals as goal

no : IsTrue false → ⊥
no h = search rules

first : (c : After-new) → ◌≡◌ {A = Point} (record {
  x = to_z w64 (of_z w64 c.x.result);
  y = to_z w64 (of_z w64 c.y.result);
  z = to_z w64 (of_z w64 c.z.result);
}) c.args.a
first c =
    point_kept c.x.result c.y.result c.z.result c.args.a (search rules) (search rules) (search rules) c.x.ensures
    c.y.ensures c.z.ensures

second : (c : After-new-2) → ◌≡◌ {A = Point} (record {
  x = to_z w64 (of_z w64 c.x-2.result);
  y = to_z w64 (of_z w64 c.y-2.result);
  z = to_z w64 (of_z w64 c.z-2.result);
}) c.args.b
second c =
    point_kept c.x-2.result c.y-2.result c.z-2.result c.args.b (search rules) (search rules) (search rules)
    c.x-2.ensures c.y-2.ensures c.z-2.ensures

pub returns-in_default : goal.returns-in_default
returns-in_default c = (
  λ t. absurd (no t),
  λ short. absurd (never_short c.args.a c.args.b
      (inl (subst (λ p. ¬ (IsDirection p)) (first (goal.at.returns-in_default c).After-new)
      (no_direction c.in_default.field-0 _ c.in_default.ensures.zero c.in_default.ensures.large))) short),
)

pub returns-in_default-new : goal.returns-in_default-new
returns-in_default-new c = (
  λ t. absurd (no t),
  λ short. absurd (never_short c.args.a c.args.b
      (inr (subst (λ p. ¬ (IsDirection p)) (second (goal.at.returns-in_default-new c).After-new-2)
      (no_direction c.in_default-new.field-0 _ c.in_default-new.ensures.zero c.in_default-new.ensures.large))) short),
)

pub stays_clear-requires-clause-p : goal.stays_clear-requires-clause-p
stays_clear-requires-clause-p c = c.in-Ok.ensures.direction

pub stays_clear-requires-clause-q : goal.stays_clear-requires-clause-q
stays_clear-requires-clause-q c = c.in-Ok-new.ensures.direction

pub returns : goal.returns
returns c =
    short_is c.args.a c.args.b c.in-Ok.p c.in-Ok-new.q c.stays_clear.result
    (c.in-Ok.ensures.made ∙ first (goal.at.returns c).After-new)
    (c.in-Ok-new.ensures.made ∙ second (goal.at.returns c).After-new-2)
    c.in-Ok.ensures.direction c.in-Ok-new.ensures.direction c.stays_clear.ensures

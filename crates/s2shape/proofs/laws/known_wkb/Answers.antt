use Rattle.std.proofs.Common.{refl}
use Rattle.s2shape.specs.Head.{layout_of}
use Rattle.s2shape.specs.Reading.{times}
use Rattle.s2shape.specs.Wkb.{after_type, count_at, geometry_at, head_at, line_at, one_at, point_at, polygon_at}
use Rattle.s2shape.specs.Wkb.{position_at, ring_at, wkb}
use Rattle.s2shape.proofs.laws.known_wkb.Goals as goal

pub returns-clause-lowest_first : goal.returns-clause-lowest_first
unfolding wkb geometry_at head_at layout_of after_type count_at times point_at position_at line_at one_at
returns-clause-lowest_first c = refl

pub returns-clause-highest_first : goal.returns-clause-highest_first
unfolding wkb geometry_at head_at layout_of after_type count_at times point_at position_at line_at one_at
returns-clause-highest_first c = refl

pub returns-clause-iso : goal.returns-clause-iso
unfolding wkb geometry_at head_at layout_of after_type count_at times point_at position_at line_at one_at
returns-clause-iso c = refl

pub returns-clause-ewkb : goal.returns-clause-ewkb
unfolding wkb geometry_at head_at layout_of after_type count_at times point_at position_at line_at one_at
returns-clause-ewkb c = refl

pub returns-clause-empty_point : goal.returns-clause-empty_point
unfolding wkb geometry_at head_at layout_of after_type count_at times point_at position_at line_at one_at
returns-clause-empty_point c = refl

pub returns-clause-triangle : goal.returns-clause-triangle
unfolding wkb geometry_at head_at layout_of after_type count_at times position_at ring_at polygon_at one_at
returns-clause-triangle c = refl

pub returns-clause-points : goal.returns-clause-points
unfolding wkb geometry_at head_at layout_of after_type count_at times point_at position_at line_at one_at
returns-clause-points c = refl

pub returns-clause-deepest : goal.returns-clause-deepest
unfolding wkb geometry_at head_at layout_of after_type count_at times point_at position_at line_at one_at
returns-clause-deepest c = refl

use Rattle.std.proofs.Common.{refl}
use Rattle.s2shape.specs.Head.{layout_of}
use Rattle.s2shape.specs.Reading.{times}
use Rattle.s2shape.specs.Wkb.{after_type, count_at, geometry_at, head_at, line_at, one_at, point_at, polygon_at}
use Rattle.s2shape.specs.Wkb.{position_at, ring_at, wkb}
use Rattle.s2shape.proofs.laws.wkb_faults.Goals as goal

pub returns-clause-no_byte : goal.returns-clause-no_byte
unfolding wkb geometry_at head_at layout_of after_type count_at times point_at position_at line_at one_at
returns-clause-no_byte c = refl

pub returns-clause-third_order : goal.returns-clause-third_order
unfolding wkb geometry_at head_at layout_of after_type count_at times point_at position_at line_at one_at
returns-clause-third_order c = refl

pub returns-clause-cut_head : goal.returns-clause-cut_head
unfolding wkb geometry_at head_at layout_of after_type count_at times point_at position_at line_at one_at
returns-clause-cut_head c = refl

pub returns-clause-circular_string : goal.returns-clause-circular_string
unfolding wkb geometry_at head_at layout_of after_type count_at times point_at position_at line_at one_at
returns-clause-circular_string c = refl

pub returns-clause-type_18 : goal.returns-clause-type_18
unfolding wkb geometry_at head_at layout_of after_type count_at times point_at position_at line_at one_at
returns-clause-type_18 c = refl

pub returns-clause-type_4001 : goal.returns-clause-type_4001
unfolding wkb geometry_at head_at layout_of after_type count_at times point_at position_at line_at one_at
returns-clause-type_4001 c = refl

pub returns-clause-fourth_flag : goal.returns-clause-fourth_flag
unfolding wkb geometry_at head_at layout_of after_type count_at times point_at position_at line_at one_at
returns-clause-fourth_flag c = refl

pub returns-clause-srid : goal.returns-clause-srid
unfolding wkb geometry_at head_at layout_of after_type count_at times point_at position_at line_at one_at
returns-clause-srid c = refl

pub returns-clause-cut_srid : goal.returns-clause-cut_srid
unfolding wkb geometry_at head_at layout_of after_type count_at times point_at position_at line_at one_at
returns-clause-cut_srid c = refl

pub returns-clause-count : goal.returns-clause-count
unfolding wkb geometry_at head_at layout_of after_type count_at times point_at position_at line_at one_at
returns-clause-count c = refl

pub returns-clause-cut_position : goal.returns-clause-cut_position
unfolding wkb geometry_at head_at layout_of after_type count_at times point_at position_at line_at one_at
returns-clause-cut_position c = refl

pub returns-clause-member : goal.returns-clause-member
unfolding wkb geometry_at head_at layout_of after_type count_at times point_at position_at line_at one_at
returns-clause-member c = refl

pub returns-clause-few : goal.returns-clause-few
unfolding wkb geometry_at head_at layout_of after_type count_at times position_at ring_at polygon_at one_at
returns-clause-few c = refl

pub returns-clause-open : goal.returns-clause-open
unfolding wkb geometry_at head_at layout_of after_type count_at times position_at ring_at polygon_at one_at
returns-clause-open c = refl

pub returns-clause-infinite : goal.returns-clause-infinite
unfolding wkb geometry_at head_at layout_of after_type count_at times point_at position_at line_at one_at
returns-clause-infinite c = refl

pub returns-clause-far : goal.returns-clause-far
unfolding wkb geometry_at head_at layout_of after_type count_at times point_at position_at line_at one_at
returns-clause-far c = refl

pub returns-clause-trailing : goal.returns-clause-trailing
unfolding wkb geometry_at head_at layout_of after_type count_at times point_at position_at line_at one_at
returns-clause-trailing c = refl

pub returns-clause-deep : goal.returns-clause-deep
unfolding wkb geometry_at head_at layout_of after_type count_at times point_at position_at line_at one_at
returns-clause-deep c = refl

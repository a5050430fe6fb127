use Rattle.std.proofs.Common.{refl}
use Rattle.s2polygon.proofs.Between.{end_between, passed_short}
use Rattle.s2polygon.proofs.boxes.BoxedEdge.new.Goals as goal

pub span_of-requires-clause-x : goal.span_of-requires-clause-x
span_of-requires-clause-x c = passed_short c.args.e.a.u c.requires.begin.u

pub span_of-requires-clause-w : goal.span_of-requires-clause-w
span_of-requires-clause-w c = passed_short c.args.e.a.w c.requires.begin.w

pub span_of-requires-2-clause-x : goal.span_of-requires-2-clause-x
span_of-requires-2-clause-x c = passed_short c.args.e.b.u c.requires.end.u

pub span_of-requires-2-clause-w : goal.span_of-requires-2-clause-w
span_of-requires-2-clause-w c = passed_short c.args.e.b.w c.requires.end.w

pub span_of-requires-3-clause-x : goal.span_of-requires-3-clause-x
span_of-requires-3-clause-x c = passed_short c.args.e.a.v c.requires.begin.v

pub span_of-requires-3-clause-w : goal.span_of-requires-3-clause-w
span_of-requires-3-clause-w c = passed_short c.args.e.a.w c.requires.begin.w

pub span_of-requires-4-clause-x : goal.span_of-requires-4-clause-x
span_of-requires-4-clause-x c = passed_short c.args.e.b.v c.requires.end.v

pub span_of-requires-4-clause-w : goal.span_of-requires-4-clause-w
span_of-requires-4-clause-w c = passed_short c.args.e.b.w c.requires.end.w

pub invariant_of-result : goal.invariant_of-result
invariant_of-result c = record {
  a_columns = end_between c.around-columns.result c.span_of.result c.args.e.a.w c.args.e.a.u
      c.requires.begin.w c.requires.begin.u c.around-columns.ensures.low_a c.around-columns.ensures.high_a
      c.span_of.ensures;
  b_columns = end_between c.around-columns.result c.span_of-2.result c.args.e.b.w c.args.e.b.u
      c.requires.end.w c.requires.end.u c.around-columns.ensures.low_b c.around-columns.ensures.high_b
      c.span_of-2.ensures;
  a_rows = end_between c.around-rows.result c.span_of-3.result c.args.e.a.w c.args.e.a.v
      c.requires.begin.w c.requires.begin.v c.around-rows.ensures.low_a c.around-rows.ensures.high_a
      c.span_of-3.ensures;
  b_rows = end_between c.around-rows.result c.span_of-4.result c.args.e.b.w c.args.e.b.v
      c.requires.end.w c.requires.end.v c.around-rows.ensures.low_b c.around-rows.ensures.high_b
      c.span_of-4.ensures;
}

pub returns : goal.returns
returns c = refl

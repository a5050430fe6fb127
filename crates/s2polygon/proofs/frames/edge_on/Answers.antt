use Rattle.std.proofs.Common.{rules, FitsSigned, w64}
use Rattle.s2polygon.specs.Frames.{in_frame}
use Rattle.s2polygon.proofs.Framing.{edge_is, normal_is}
use Rattle.s2polygon.proofs.frames.edge_on.Goals as goal

pub in_frame-a-requires : goal.in_frame-a-requires
in_frame-a-requires c = c.requires

pub in_frame-b-requires : goal.in_frame-b-requires
in_frame-b-requires c = c.requires

pub normal_w-w-requires-clause-a : goal.normal_w-w-requires-clause-a
normal_w-w-requires-clause-a c = c.in_frame-a.ensures.short

pub normal_w-w-requires-clause-b : goal.normal_w-w-requires-clause-b
normal_w-w-requires-clause-b c = c.in_frame-b.ensures.short

pub normal_u-u-requires-clause-a : goal.normal_u-u-requires-clause-a
normal_u-u-requires-clause-a c = c.in_frame-a.ensures.short

pub normal_u-u-requires-clause-b : goal.normal_u-u-requires-clause-b
normal_u-u-requires-clause-b c = c.in_frame-b.ensures.short

pub normal_v-v-requires-clause-a : goal.normal_v-v-requires-clause-a
normal_v-v-requires-clause-a c = c.in_frame-a.ensures.short

pub normal_v-v-requires-clause-b : goal.normal_v-v-requires-clause-b
normal_v-v-requires-clause-b c = c.in_frame-b.ensures.short

pub returns-clause-value : goal.returns-clause-value
returns-clause-value c =
    let fw : FitsSigned w64 c.normal_w-w.result = search rules in
    let fu : FitsSigned w64 c.normal_u-u.result = search rules in
    let fv : FitsSigned w64 c.normal_v-v.result = search rules in
    edge_is c.in_frame-a.result c.in_frame-b.result _ _ _ (in_frame c.args.face c.args.e.a)
    (in_frame c.args.face c.args.e.b)
    c.in_frame-a.ensures.value c.in_frame-b.ensures.value
    (normal_is c.in_frame-a.result c.in_frame-b.result c.normal_w-w.result c.normal_u-u.result c.normal_v-v.result fw
    fu fv
    c.normal_w-w.ensures c.normal_u-u.ensures c.normal_v-v.ensures)

pub returns-clause-framed : goal.returns-clause-framed
returns-clause-framed c =
    let fw : FitsSigned w64 c.normal_w-w.result = search rules in
    let fu : FitsSigned w64 c.normal_u-u.result = search rules in
    let fv : FitsSigned w64 c.normal_v-v.result = search rules in
    record {
      normal = normal_is c.in_frame-a.result c.in_frame-b.result c.normal_w-w.result c.normal_u-u.result
          c.normal_v-v.result
          fw fu fv c.normal_w-w.ensures c.normal_u-u.ensures c.normal_v-v.ensures;
    }

pub returns-clause-begin : goal.returns-clause-begin
returns-clause-begin c = c.in_frame-a.ensures.short

pub returns-clause-end : goal.returns-clause-end
returns-clause-end c = c.in_frame-b.ensures.short

use Rattle.s2polygon.proofs.Sizes.{minor_steps}
use Rattle.s2polygon.proofs.frames.normal_v.Goals as goal

pub overflow_mul-result : goal.overflow_mul-result
overflow_mul-result c =
    (minor_steps c.args.a.w c.args.b.u c.args.a.u c.args.b.w c.requires.a.w c.requires.b.u c.requires.a.u
    c.requires.b.w).first_fits

pub overflow_mul-result-2 : goal.overflow_mul-result-2
overflow_mul-result-2 c =
    (minor_steps c.args.a.w c.args.b.u c.args.a.u c.args.b.w c.requires.a.w c.requires.b.u c.requires.a.u
    c.requires.b.w).last_fits

pub overflow_sub-result : goal.overflow_sub-result
overflow_sub-result c =
    (minor_steps c.args.a.w c.args.b.u c.args.a.u c.args.b.w c.requires.a.w c.requires.b.u c.requires.a.u
    c.requires.b.w).fits

pub returns : goal.returns
returns c =
    (minor_steps c.args.a.w c.args.b.u c.args.a.u c.args.b.w c.requires.a.w c.requires.b.u c.requires.a.u
    c.requires.b.w).is

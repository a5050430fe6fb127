use Rattle.s2polygon.proofs.Sizes.{minor_steps}
use Rattle.s2polygon.proofs.frames.normal_u.Goals as goal

pub overflow_mul-result : goal.overflow_mul-result
overflow_mul-result c =
    (minor_steps c.args.a.v c.args.b.w c.args.a.w c.args.b.v c.requires.a.v c.requires.b.w c.requires.a.w
    c.requires.b.v).first_fits

pub overflow_mul-result-2 : goal.overflow_mul-result-2
overflow_mul-result-2 c =
    (minor_steps c.args.a.v c.args.b.w c.args.a.w c.args.b.v c.requires.a.v c.requires.b.w c.requires.a.w
    c.requires.b.v).last_fits

pub overflow_sub-result : goal.overflow_sub-result
overflow_sub-result c =
    (minor_steps c.args.a.v c.args.b.w c.args.a.w c.args.b.v c.requires.a.v c.requires.b.w c.requires.a.w
    c.requires.b.v).fits

pub returns : goal.returns
returns c =
    (minor_steps c.args.a.v c.args.b.w c.args.a.w c.args.b.v c.requires.a.v c.requires.b.w c.requires.a.w
    c.requires.b.v).is

use Rattle.s2polygon.specs.Frames.{framed}
use Rattle.s2polygon.proofs.Between.{beyond_answer}
use Rattle.s2polygon.proofs.lists.may_meet.Goals as goal

pub returns : goal.returns
returns c =
    beyond_answer (framed c.args.face c.args.e) c.args.q c.in_frame.result c.in_frame-2.result c.is_beyond.result
    c.requires.square c.in_frame.ensures.value c.in_frame-2.ensures.value c.is_beyond.ensures

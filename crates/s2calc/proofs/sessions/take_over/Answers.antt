use Rattle.s2edit.specs.Content.{content_of}
use Rattle.s2session.proofs.Spelling.{refuses_bytes}
use Rattle.s2calc.proofs.sessions.take_over.Goals as goal

pub returns-in-Err-clause-answer : goal.returns-in-Err-clause-answer
returns-in-Err-clause-answer c =
    λ bytes spells. (
      c.in-Err.fault,
      c.refusal_of.ensures,
      refuses_bytes bytes (content_of c.args.session) c.args.editor.now c.in-Err.fault spells c.in-Err.ensures.answer,
    )

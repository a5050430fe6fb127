use Rattle.std.proofs.Common.{refl, subst}
use Rattle.s2edit.specs.Content.{content_of}
use Rattle.s2session.specs.Session.{Spells}
use Rattle.s2session.proofs.Spelled.{one_spelled}
use Rattle.s2session.specs.Reading.{RefusesToRead}
use Rattle.s2session.specs.declared.fault.ReadFault.{ReadFault}
use Rattle.s2session.proofs.TakingSession.{was_known}
use Rattle.s2session.proofs.session_file.decode_session.Goals as goal

pub returns-in-Ok-clause-found : goal.returns-in-Ok-clause-found
returns-in-Ok-clause-found c =
    was_known _ c.of-file.result c.read_session.new.file c.args.bytes c.args.bytes.now
    (λ bytes. Spells bytes (content_of c.in-Ok.session)) c.of-file.ensures.ended c.of-file.ensures.below refl
    c.in-Ok.ensures.answer

pub returns-in-Ok-clause-only : goal.returns-in-Ok-clause-only
returns-in-Ok-clause-only c s spells =
    one_spelled c.args.bytes.now (content_of c.in-Ok.session) s (returns-in-Ok-clause-found c) spells

pub returns-in-Err-Form-clause-only : goal.returns-in-Err-Form-clause-only
returns-in-Err-Form-clause-only c s spells =
    absurd (subst (λ (fault : ReadFault). RefusesToRead fault c.args.bytes.now) c.in-Err-Form.field-0-is
    (was_known _ c.of-file.result c.read_session.new.file c.args.bytes c.args.bytes.now
    (λ bytes. RefusesToRead c.in-Err-Form.field-0 bytes) c.of-file.ensures.ended c.of-file.ensures.below refl
    c.in-Err-Form.ensures.answer) s spells)

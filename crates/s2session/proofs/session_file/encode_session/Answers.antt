use Rattle.std.proofs.Common.{◌≡◌, map, refl, subst}
use Rattle.std.specs.Prelude.{IfOk}
use Rattle.s2edit.specs.Content.{Content, content_of, content_of_parts, diff_of}
use Rattle.s2session.specs.Session.{session_text}
use Rattle.s2session.proofs.Spelled.{text_spells}
use Rattle.s2session.proofs.session_file.encode_session.Goals as goal

pub returns-clause-text : goal.returns-clause-text
returns-clause-text c =
    let s = c.args.session.now in
    let same : content_of_parts c.deref.result.now (map diff_of s.past.items) (map diff_of s.future.items)
    ≡ content_of s = rw c.deref.ensures.value refl in
    subst (λ (s : Content). IfOk c.encode_parts.result (λ bytes. bytes.items ≡ session_text s)) same
    c.encode_parts.ensures

pub returns-clause-spells : goal.returns-clause-spells
returns-clause-spells c = text_spells c.encode_parts.result (returns-clause-text c)

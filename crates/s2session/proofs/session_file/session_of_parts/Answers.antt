use Rattle.std.proofs.Common.{◌≢◌, [], length, arith, ap}
use Rattle.std.proofs.lemmas.Bool.{MatchBool-at_true, MatchBool-at_false}
use Rattle.std.proofs.lemmas.List.{length-map, length-append}
use Rattle.std.proofs.lemmas.Result.{err_from_is_err_and}
use Rattle.s2shelf.proofs.Given.{none_left}
use Rattle.s2edit.specs.Content.{diff_of, content_of, IsContent}
use Rattle.s2session.specs.Working.Source.{held}
use Rattle.s2session.proofs.Taking.{failed, joined, held_front}
use Rattle.s2session.proofs.TakingSession.{NoFile, no_head, no_registers, no_past, no_future, more_than_parts}
use Rattle.s2session.proofs.TakingSession.{all_taken, too_many_changes, session_found}
use Rattle.s2session.proofs.session_file.session_of_parts.Goals as goal

pub returns-in_err-take_head-clause-judges : goal.returns-in_err-take_head-clause-judges
returns-in_err-take_head-clause-judges g c =
    let p = err_from_is_err_and c.from_residual.result c.from_residual.ensures.1 in
    rw (p.1, p.2) (no_head c.in_err-take_head.field-0.0 c.in_err-take_head.ensures)

pub returns-in_err-registers-clause-judges : goal.returns-in_err-registers-clause-judges
returns-in_err-registers-clause-judges g c =
    let p = err_from_is_err_and c.from_residual-in_err-registers.result c.from_residual-in_err-registers.ensures.1 in
    rw (p.1, p.2) (no_registers c.in_ok-take_head.ensures c.in_err-registers.field-0.0 c.in_err-registers.ensures)

pub returns-in_err-past-clause-judges : goal.returns-in_err-past-clause-judges
returns-in_err-past-clause-judges g c =
    let p = err_from_is_err_and c.from_residual-in_err-past.result c.from_residual-in_err-past.ensures.1 in
    rw (p.1, p.2) (no_past c.in_ok-take_head.ensures c.in_ok-registers.ensures c.in_err-past.field-0.0
    c.in_err-past.ensures)

pub returns-in_err-future-clause-judges : goal.returns-in_err-future-clause-judges
returns-in_err-future-clause-judges g c =
    let p = err_from_is_err_and c.from_residual-in_err-future.result c.from_residual-in_err-future.ensures.1 in
    rw (p.1, p.2) (no_future c.in_ok-take_head.ensures c.in_ok-registers.ensures c.in_ok-past.ensures
    c.in_err-future.field-0.0 c.in_err-future.ensures)

pub returns-in_err-has-clause-judges : goal.returns-in_err-has-clause-judges
returns-in_err-has-clause-judges g c =
    let p = err_from_is_err_and c.from_residual-in_err-has.result c.from_residual-in_err-has.ensures.1 in
    rw (p.1, p.2) (failed c.in_err-has.field-0.0 NoFile c.in_err-has.ensures.has (joined (all_taken
    c.in_ok-take_head.ensures
    c.in_ok-registers.ensures c.in_ok-past.ensures c.in_ok-future.ensures) c.in_err-has.ensures.kept))

pub returns-then-branch-clause-judges : goal.returns-then-branch-clause-judges
returns-then-branch-clause-judges g c =
    let some = MatchBool-at_true _ _ c.if-branch.true c.in_ok-has.ensures.has in
    more_than_parts c.in_ok-take_head.ensures c.in_ok-registers.ensures c.in_ok-past.ensures c.in_ok-future.ensures
    (held_front c.has.new.self {Q = λ rest. rest ≢ []} c.in_ok-has.ensures.kept
    (λ rest e. absurd (omega (arith, ap length e, length-append (held c.has.new.self) rest, some))))

pub returns-then-len-gt-SESSION_CHANGES-clause-judges : goal.returns-then-len-gt-SESSION_CHANGES-clause-judges
returns-then-len-gt-SESSION_CHANGES-clause-judges g c =
    too_many_changes c.in_ok-take_head.ensures c.in_ok-registers.ensures c.in_ok-past.ensures c.in_ok-future.ensures
    (omega (arith, length-map c.in_ok-past.past.items diff_of, length-map c.in_ok-future.future.items diff_of))
    c.in_ok-has.ensures.kept

pub returns-clause-judges : goal.returns-clause-judges
returns-clause-judges g c =
    let past = c.in_ok-past.past.items in
    let future = c.in_ok-future.future.items in
    let none = MatchBool-at_false _ _ c.if-branch.false c.in_ok-has.ensures.has in
    let content : IsContent (content_of (record {
      registers = c.in_ok-registers.registers;
      past = c.in_ok-past.past;
      future = c.in_ok-future.future;
    })) = record {
      count = c.in_ok-registers.ensures.ok.count;
      registers = c.in_ok-registers.ensures.ok.each;
      past = c.in_ok-past.ensures.ok.each;
      future = c.in_ok-future.ensures.ok.each;
      few = omega (
        arith,
        c.if-len-gt-SESSION_CHANGES.false,
        c.len.ensures,
        c.len-2.ensures,
        c.in_ok-past.past.ok.0,
        c.in_ok-future.future.ok.0,
        length-map past diff_of,
        length-map future diff_of,
      );
    } in (
      content,
      session_found c.in_ok-take_head.ensures c.in_ok-registers.ensures c.in_ok-past.ensures c.in_ok-future.ensures
          c.has.new.self c.in_ok-has.ensures.kept (none_left g.F.Read.remaining c.has.new.file none.1) none.0 content,
    )

use Rattle.s2polygon.specs.Tests.{rights, lefts, aboves, belows}
use Rattle.s2polygon.proofs.Meetings.{behind_if, behind_yes}
use Rattle.s2polygon.proofs.Rejects.{rights_behind, lefts_behind, aboves_behind, belows_behind}
use Rattle.s2polygon.proofs.meeting.is_beyond.Goals as goal

pub returns-then-are_behind : goal.returns-then-are_behind
returns-then-are_behind c t =
    rights_behind c.args.a c.args.b c.args.q (behind_yes c.rights_of.result (rights c.args.q c.args.a c.args.b)
    c.rights_of.ensures c.if-are_behind.ensures)

pub returns-then-are_behind-2 : goal.returns-then-are_behind-2
returns-then-are_behind-2 c t =
    lefts_behind c.args.a c.args.b c.args.q (behind_yes c.lefts_of.result (lefts c.args.q c.args.a c.args.b)
    c.lefts_of.ensures c.if-are_behind-2.ensures)

pub returns-then-are_behind-3 : goal.returns-then-are_behind-3
returns-then-are_behind-3 c t =
    aboves_behind c.args.a c.args.b c.args.q (behind_yes c.aboves_of.result (aboves c.args.q c.args.a c.args.b)
    c.aboves_of.ensures c.if-are_behind-3.ensures)

pub returns : goal.returns
returns c t =
    belows_behind c.args.a c.args.b c.args.q (behind_if c.belows_of.result (belows c.args.q c.args.a c.args.b)
    c.are_behind-4.result c.belows_of.ensures c.are_behind-4.ensures t)

use Rattle.std.proofs.Common.{rules, FitsSigned, w64, ◌^◌, ap}
use mir.Syntax.{w128}
use Rattle.s2polygon.specs.Crosses.{side}
use Rattle.s2polygon.specs.Frames.{normal_u_of, normal_v_of}
use Rattle.s2polygon.specs.Meets.{MeetsSquare}
use Rattle.s2polygon.specs.Tests.{rights, lefts, aboves, belows}
use Rattle.s2polygon.proofs.Sizes.{passed_64}
use Rattle.s2polygon.proofs.Meetings.{missed, met, behind_yes, behind_no, apart_yes, apart_no, corner_is, turn_is}
use Rattle.s2polygon.proofs.Rejects.{rights_behind, lefts_behind, aboves_behind, belows_behind}
use Rattle.s2polygon.proofs.Rejects.{rights_aboves_apart, belows_rights_apart, aboves_lefts_apart, lefts_belows_apart}
use Rattle.s2polygon.proofs.Rejects.{lefts_rights_apart, aboves_belows_apart}
use Rattle.s2polygon.proofs.Accepts.{meets_unless_rejected}
use Rattle.s2polygon.specs.declared.frames.Framed.{Framed}
use Rattle.s2polygon.proofs.meeting.meets.Goals as goal

pub returns-then-are_behind : goal.returns-then-are_behind
returns-then-are_behind c =
    missed (MeetsSquare c.args.e.a c.args.e.b c.args.q)
    (rights_behind c.args.e.a c.args.e.b c.args.q (behind_yes c.rights_of-right.result
    (rights c.args.q c.args.e.a c.args.e.b) c.rights_of-right.ensures c.if-are_behind.ensures))

pub returns-then-are_behind-2 : goal.returns-then-are_behind-2
returns-then-are_behind-2 c =
    missed (MeetsSquare c.args.e.a c.args.e.b c.args.q)
    (lefts_behind c.args.e.a c.args.e.b c.args.q (behind_yes c.lefts_of-left.result
    (lefts c.args.q c.args.e.a c.args.e.b) c.lefts_of-left.ensures c.if-are_behind-2.ensures))

pub returns-then-are_behind-3 : goal.returns-then-are_behind-3
returns-then-are_behind-3 c =
    missed (MeetsSquare c.args.e.a c.args.e.b c.args.q)
    (aboves_behind c.args.e.a c.args.e.b c.args.q (behind_yes c.aboves_of-over.result
    (aboves c.args.q c.args.e.a c.args.e.b) c.aboves_of-over.ensures c.if-are_behind-3.ensures))

pub returns-then-are_behind-4 : goal.returns-then-are_behind-4
returns-then-are_behind-4 c =
    missed (MeetsSquare c.args.e.a c.args.e.b c.args.q)
    (belows_behind c.args.e.a c.args.e.b c.args.q (behind_yes c.belows_of-under.result
    (belows c.args.q c.args.e.a c.args.e.b) c.belows_of-under.ensures c.if-are_behind-4.ensures))

pub is_past-requires-clause-u : goal.is_past-requires-clause-u
is_past-requires-clause-u c =
    let f : FitsSigned w64 c.args.q.u0 = search rules in
    passed_64 c.args.q.u0 (2 ^ 62) f c.requires.square.u0

pub is_past-requires-clause-v : goal.is_past-requires-clause-v
is_past-requires-clause-v c =
    let f : FitsSigned w64 c.args.q.v0 = search rules in
    passed_64 c.args.q.v0 (2 ^ 62) f c.requires.square.v0

pub returns-then-is_past : goal.returns-then-is_past
returns-then-is_past c =
    let fu : FitsSigned w64 c.args.q.u0 = search rules in
    let fv : FitsSigned w64 c.args.q.v0 = search rules in
    let turn = corner_is c.args.q.u0 c.args.q.v0 c.args.e.a c.args.e.b c.args.e.n fu fv c.requires.edge.normal in
    missed (MeetsSquare c.args.e.a c.args.e.b c.args.q)
    (rights_aboves_apart c.args.e.a c.args.e.b c.args.q
    (apart_yes c.rights_of-right.result (rights c.args.q c.args.e.a c.args.e.b) c.aboves_of-over.result
    (aboves c.args.q c.args.e.a c.args.e.b) _
    (side c.args.q.u0 c.args.q.v0 c.args.e.a c.args.e.b) c.rights_of-right.ensures c.aboves_of-over.ensures turn
    c.if-is_past.ensures))

pub is_past-requires-2-clause-u : goal.is_past-requires-2-clause-u
is_past-requires-2-clause-u c =
    let f : FitsSigned w64 c.args.q.u0 = search rules in
    passed_64 c.args.q.u0 (2 ^ 62) f c.requires.square.u0

pub is_past-requires-2-clause-v : goal.is_past-requires-2-clause-v
is_past-requires-2-clause-v c =
    let f : FitsSigned w64 c.args.q.v1 = search rules in
    passed_64 c.args.q.v1 (2 ^ 62) f c.requires.square.v1

pub returns-then-is_past-2 : goal.returns-then-is_past-2
returns-then-is_past-2 c =
    let fu : FitsSigned w64 c.args.q.u0 = search rules in
    let fv : FitsSigned w64 c.args.q.v1 = search rules in
    let turn = corner_is c.args.q.u0 c.args.q.v1 c.args.e.a c.args.e.b c.args.e.n fu fv c.requires.edge.normal in
    missed (MeetsSquare c.args.e.a c.args.e.b c.args.q)
    (belows_rights_apart c.args.e.a c.args.e.b c.args.q
    (apart_yes c.belows_of-under.result (belows c.args.q c.args.e.a c.args.e.b) c.rights_of-right.result
    (rights c.args.q c.args.e.a c.args.e.b) _
    (side c.args.q.u0 c.args.q.v1 c.args.e.a c.args.e.b) c.belows_of-under.ensures c.rights_of-right.ensures turn
    c.if-is_past-2.ensures))

pub is_past-requires-3-clause-u : goal.is_past-requires-3-clause-u
is_past-requires-3-clause-u c =
    let f : FitsSigned w64 c.args.q.u1 = search rules in
    passed_64 c.args.q.u1 (2 ^ 62) f c.requires.square.u1

pub is_past-requires-3-clause-v : goal.is_past-requires-3-clause-v
is_past-requires-3-clause-v c =
    let f : FitsSigned w64 c.args.q.v0 = search rules in
    passed_64 c.args.q.v0 (2 ^ 62) f c.requires.square.v0

pub returns-then-is_past-3 : goal.returns-then-is_past-3
returns-then-is_past-3 c =
    let fu : FitsSigned w64 c.args.q.u1 = search rules in
    let fv : FitsSigned w64 c.args.q.v0 = search rules in
    let turn = corner_is c.args.q.u1 c.args.q.v0 c.args.e.a c.args.e.b c.args.e.n fu fv c.requires.edge.normal in
    missed (MeetsSquare c.args.e.a c.args.e.b c.args.q)
    (aboves_lefts_apart c.args.e.a c.args.e.b c.args.q
    (apart_yes c.aboves_of-over.result (aboves c.args.q c.args.e.a c.args.e.b) c.lefts_of-left.result
    (lefts c.args.q c.args.e.a c.args.e.b) _
    (side c.args.q.u1 c.args.q.v0 c.args.e.a c.args.e.b) c.aboves_of-over.ensures c.lefts_of-left.ensures turn
    c.if-is_past-3.ensures))

pub is_past-requires-4-clause-u : goal.is_past-requires-4-clause-u
is_past-requires-4-clause-u c =
    let f : FitsSigned w64 c.args.q.u1 = search rules in
    passed_64 c.args.q.u1 (2 ^ 62) f c.requires.square.u1

pub is_past-requires-4-clause-v : goal.is_past-requires-4-clause-v
is_past-requires-4-clause-v c =
    let f : FitsSigned w64 c.args.q.v1 = search rules in
    passed_64 c.args.q.v1 (2 ^ 62) f c.requires.square.v1

pub returns-then-is_past-4 : goal.returns-then-is_past-4
returns-then-is_past-4 c =
    let fu : FitsSigned w64 c.args.q.u1 = search rules in
    let fv : FitsSigned w64 c.args.q.v1 = search rules in
    let turn = corner_is c.args.q.u1 c.args.q.v1 c.args.e.a c.args.e.b c.args.e.n fu fv c.requires.edge.normal in
    missed (MeetsSquare c.args.e.a c.args.e.b c.args.q)
    (lefts_belows_apart c.args.e.a c.args.e.b c.args.q
    (apart_yes c.lefts_of-left.result (lefts c.args.q c.args.e.a c.args.e.b) c.belows_of-under.result
    (belows c.args.q c.args.e.a c.args.e.b) _
    (side c.args.q.u1 c.args.q.v1 c.args.e.a c.args.e.b) c.lefts_of-left.ensures c.belows_of-under.ensures turn
    c.if-is_past-4.ensures))

pub returns-then-are_apart : goal.returns-then-are_apart
returns-then-are_apart c =
    let r : FitsSigned w128 c.turn_of.result = search rules in
    let f : FitsSigned w64 c.args.e.n.v = search rules in
    let turn = turn_is c.turn_of.result c.args.e.n.v (normal_v_of c.args.e.a c.args.e.b) r f c.turn_of.ensures
    (ap (λ (n : Framed). n.v) c.requires.edge.normal) in
    missed (MeetsSquare c.args.e.a c.args.e.b c.args.q)
    (lefts_rights_apart c.args.e.a c.args.e.b c.args.q c.requires.square.wide
    (apart_yes c.lefts_of-left.result (lefts c.args.q c.args.e.a c.args.e.b) c.rights_of-right.result
    (rights c.args.q c.args.e.a c.args.e.b) _
    (normal_v_of c.args.e.a c.args.e.b) c.lefts_of-left.ensures c.rights_of-right.ensures turn c.if-are_apart.ensures))

pub returns-then-are_apart-2 : goal.returns-then-are_apart-2
returns-then-are_apart-2 c =
    let r : FitsSigned w128 c.turn_of-2.result = search rules in
    let f : FitsSigned w64 c.args.e.n.u = search rules in
    let turn = turn_is c.turn_of-2.result c.args.e.n.u (normal_u_of c.args.e.a c.args.e.b) r f c.turn_of-2.ensures
    (ap (λ (n : Framed). n.u) c.requires.edge.normal) in
    missed (MeetsSquare c.args.e.a c.args.e.b c.args.q)
    (aboves_belows_apart c.args.e.a c.args.e.b c.args.q c.requires.square.high
    (apart_yes c.aboves_of-over.result (aboves c.args.q c.args.e.a c.args.e.b) c.belows_of-under.result
    (belows c.args.q c.args.e.a c.args.e.b) _
    (normal_u_of c.args.e.a c.args.e.b) c.aboves_of-over.ensures c.belows_of-under.ensures turn
    c.if-are_apart-2.ensures))

pub returns : goal.returns
returns c =
    let fu0 : FitsSigned w64 c.args.q.u0 = search rules in
    let fu1 : FitsSigned w64 c.args.q.u1 = search rules in
    let fv0 : FitsSigned w64 c.args.q.v0 = search rules in
    let fv1 : FitsSigned w64 c.args.q.v1 = search rules in
    let fnu : FitsSigned w64 c.args.e.n.u = search rules in
    let rv : FitsSigned w128 c.turn_of.result = search rules in
    let ru : FitsSigned w128 c.turn_of-2.result = search rules in
    let fnv : FitsSigned w64 c.args.e.n.v = search rules in
    met (MeetsSquare c.args.e.a c.args.e.b c.args.q)
    (meets_unless_rejected c.args.e.a c.args.e.b c.args.q c.requires.square.wide c.requires.square.high (record {
      rights_ahead = behind_no c.rights_of-right.result (rights c.args.q c.args.e.a c.args.e.b)
          c.rights_of-right.ensures c.if-are_behind.ensures;
      lefts_ahead = behind_no c.lefts_of-left.result (lefts c.args.q c.args.e.a c.args.e.b) c.lefts_of-left.ensures
          c.if-are_behind-2.ensures;
      aboves_ahead = behind_no c.aboves_of-over.result (aboves c.args.q c.args.e.a c.args.e.b)
          c.aboves_of-over.ensures c.if-are_behind-3.ensures;
      belows_ahead = behind_no c.belows_of-under.result (belows c.args.q c.args.e.a c.args.e.b)
          c.belows_of-under.ensures c.if-are_behind-4.ensures;
      right_above = apart_no c.rights_of-right.result (rights c.args.q c.args.e.a c.args.e.b) c.aboves_of-over.result
          (aboves c.args.q c.args.e.a c.args.e.b) _
          (side c.args.q.u0 c.args.q.v0 c.args.e.a c.args.e.b) c.rights_of-right.ensures c.aboves_of-over.ensures
          (corner_is c.args.q.u0 c.args.q.v0 c.args.e.a c.args.e.b c.args.e.n fu0 fv0 c.requires.edge.normal)
          c.if-is_past.ensures;
      right_below = apart_no c.belows_of-under.result (belows c.args.q c.args.e.a c.args.e.b)
          c.rights_of-right.result (rights c.args.q c.args.e.a c.args.e.b) _
          (side c.args.q.u0 c.args.q.v1 c.args.e.a c.args.e.b) c.belows_of-under.ensures c.rights_of-right.ensures
          (corner_is c.args.q.u0 c.args.q.v1 c.args.e.a c.args.e.b c.args.e.n fu0 fv1 c.requires.edge.normal)
          c.if-is_past-2.ensures;
      left_above = apart_no c.aboves_of-over.result (aboves c.args.q c.args.e.a c.args.e.b) c.lefts_of-left.result
          (lefts c.args.q c.args.e.a c.args.e.b) _
          (side c.args.q.u1 c.args.q.v0 c.args.e.a c.args.e.b) c.aboves_of-over.ensures c.lefts_of-left.ensures
          (corner_is c.args.q.u1 c.args.q.v0 c.args.e.a c.args.e.b c.args.e.n fu1 fv0 c.requires.edge.normal)
          c.if-is_past-3.ensures;
      left_below = apart_no c.lefts_of-left.result (lefts c.args.q c.args.e.a c.args.e.b) c.belows_of-under.result
          (belows c.args.q c.args.e.a c.args.e.b) _
          (side c.args.q.u1 c.args.q.v1 c.args.e.a c.args.e.b) c.lefts_of-left.ensures c.belows_of-under.ensures
          (corner_is c.args.q.u1 c.args.q.v1 c.args.e.a c.args.e.b c.args.e.n fu1 fv1 c.requires.edge.normal)
          c.if-is_past-4.ensures;
      columns = apart_no c.lefts_of-left.result (lefts c.args.q c.args.e.a c.args.e.b) c.rights_of-right.result
          (rights c.args.q c.args.e.a c.args.e.b) _
          (normal_v_of c.args.e.a c.args.e.b) c.lefts_of-left.ensures c.rights_of-right.ensures
          (turn_is c.turn_of.result c.args.e.n.v (normal_v_of c.args.e.a c.args.e.b) rv fnv c.turn_of.ensures
          (ap (λ (n : Framed). n.v) c.requires.edge.normal))
          c.if-are_apart.ensures;
      rows = apart_no c.aboves_of-over.result (aboves c.args.q c.args.e.a c.args.e.b) c.belows_of-under.result
          (belows c.args.q c.args.e.a c.args.e.b) _
          (normal_u_of c.args.e.a c.args.e.b) c.aboves_of-over.ensures c.belows_of-under.ensures
          (turn_is c.turn_of-2.result c.args.e.n.u (normal_u_of c.args.e.a c.args.e.b) ru fnu c.turn_of-2.ensures
          (ap (λ (n : Framed). n.u) c.requires.edge.normal))
          c.if-are_apart-2.ensures;
    }))

use Rattle.std.proofs.Common.{◌≡◌, ◌+◌, ◌-◌, ◌<◌, List, length, map, take, sym, ap, ◌∙◌, subst, arith}
use Rattle.std.proofs.lemmas.List.{length_push}
use Rattle.std.proofs.lemmas.Option.{slice_get_within}
use Rattle.s2edit.specs.Content.{diff_of}
use Rattle.s2edit.specs.declared.content.Move.{Move}
use Rattle.s2edit.proofs.Saving.{copied_one, copied_all}
use Rattle.s2edit.proofs.session.moves_of.Goals as goal

pub loop-change-preserved : goal.loop-change-preserved
loop-change-preserved g c =
    let changes = g.C.Changes.list c.args.changes.now in
    subst (λ (ms : List Move). map diff_of ms ≡ take (length ms) changes) (sym c.in_ok-push.ensures.items)
    (copied_one c.loop-change.moves.items c.in_ok-copy_of.field-0 changes c.in-Some.change
    c.len.result c.loop-change.invariant
    (omega (arith, c.len.ensures, c.loop-change.moves.ok)) c.in-Some.ensures c.in_ok-copy_of.ensures)

pub loop-change-smaller : goal.loop-change-smaller
loop-change-smaller g c =
    let changes = g.C.Changes.list c.args.changes.now in
    let below : c.len.result < length changes =
    slice_get_within changes c.len.result c.in-Some.change (sym c.in-Some.ensures) in
    let more : length c.push.new.self.items ≡ length c.loop-change.moves.items + 1 =
    ap length c.in_ok-push.ensures.items ∙ length_push c.loop-change.moves.items c.in_ok-copy_of.field-0 in
    let less : length changes - length c.push.new.self.items < length changes - length c.loop-change.moves.items =
    omega (arith, below, more, c.len.ensures, c.loop-change.moves.ok) in
    less

pub returns : goal.returns
returns g c =
    copied_all c.loop-change.moves.items (g.C.Changes.list c.args.changes.now) c.len.result
    c.loop-change.invariant (omega (arith, c.len.ensures, c.loop-change.moves.ok))
    c.in_default.ensures

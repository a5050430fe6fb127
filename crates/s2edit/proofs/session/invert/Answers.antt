use Rattle.std.proofs.Common.{◌≡◌, ◌<◌, ◌≤◌, ◌++◌, List, length, map, drop, get_or, slice_set, sym, ap}
use Rattle.std.proofs.Common.{◌∙◌, append-nil, arith}
use Rattle.std.proofs.lemmas.List.{take_all, take_at, drop_all}
use Rattle.std.proofs.lemmas.List.Edits.{map_over_more}
use Rattle.s2edit.specs.Content.{diff_of}
use Rattle.s2edit.specs.declared.content.Move.{Move}
use Rattle.s2edit.proofs.Registers.{turned_round, all_turned}
use Rattle.s2edit.proofs.session.invert.Goals as goal

pub loop-change-preserved : goal.loop-change-preserved
loop-change-preserved c =
    let xs : List Move = c.args.moves.now.items in
    let ys = c.loop-change.change-items in
    let i = c.loop-change.change-index in
    let m : Move = get_or ys i c.change-item.result in
    let l : i < length xs = omega (arith, c.loop-change-test.true, ap length c.deref_mut-change-items.ensures.value) in
    ap (slice_set ys i) (ap (λ p. record { register = m.register; out = p; put = c.swap.new.y }) c.swap.ensures.x_after
    ∙ ap (λ p. record { register = m.register; out = m.put; put = p }) c.swap.ensures.y_after
    ∙ ap turned_round (sym c.change-item.is))
    ∙ map_over_more turned_round xs ys i c.change-item.result l c.loop-change.invariant c.change-item.is

pub returns : goal.returns
returns c =
    let xs : List Move = c.args.moves.now.items in
    let ys = c.loop-change.change-items in
    let i = c.loop-change.change-index in
    let value = ap length c.deref_mut-change-items.ensures.value in
    let all : length xs ≤ i = omega (arith, c.loop-change-test.false, value) in
    let count : length ys ≡ c.args.moves.now.len =
    omega (arith, c.loop-change.auto.change-items, value, c.args.moves.now.ok) in
    let done : ys ≡ map turned_round xs = c.loop-change.invariant
    ∙ ap (λ (zs : List Move). map turned_round zs ++ drop i xs) (take_all i xs all)
    ∙ ap (λ (zs : List Move). map turned_round xs ++ zs) (drop_all i xs all) ∙ append-nil (map turned_round xs) in
    ap (λ (zs : List Move). map diff_of zs)
    (take_at ys (drop (length ys) xs) c.args.moves.now.len count ∙ done) ∙ all_turned xs

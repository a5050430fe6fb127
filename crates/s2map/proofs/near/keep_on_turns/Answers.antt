use Rattle.std.proofs.Common.{◌∷◌, [], neg_ℤ, pos, take}
use Rattle.s2map.proofs.Sifting.{kept_next}
use Rattle.s2map.specs.Boxes.{meets}
use Rattle.s2map.specs.Map.{turned}
use Rattle.s2map.specs.Map.{on_turns}
use Rattle.s2map.proofs.near.keep_on_turns.Goals as goal

pub returns-clause-kept : goal.returns-clause-kept
returns-clause-kept c =
    let m = meets c.args.q in
    let old = c.args.list.now.items in
    let all = on_turns c.args.e in
    let turned_1 = c.turned.ensures.value in
    let met_1 = c.in_ok-keep_met.ensures.kept in
    let kept_1 = rw turned_1 at met_1 in
    let turned_2 = c.turned-2.ensures.value in
    let met_2 = c.in_ok-keep_met-2.ensures.kept in
    let kept_2 = kept_next m old c.keep_met.new.list.items c.keep_met-2.new.list.items (take 1 all)
    (turned (neg_ℤ (pos 2)) c.args.e ∷ []) kept_1 (rw turned_2 at met_2) in
    let turned_3 = c.turned-3.ensures.value in
    let met_3 = c.in_ok-keep_met-3.ensures.kept in
    let kept_3 = kept_next m old c.keep_met-2.new.list.items c.keep_met-3.new.list.items (take 2 all)
    (turned (neg_ℤ (pos 1)) c.args.e ∷ []) kept_2 (rw turned_3 at met_3) in
    let turned_4 = c.turned-4.ensures.value in
    let met_4 = c.in_ok-keep_met-4.ensures.kept in
    let kept_4 = kept_next m old c.keep_met-3.new.list.items c.keep_met-4.new.list.items (take 3 all)
    (turned (pos 0) c.args.e ∷ []) kept_3 (rw turned_4 at met_4) in
    let turned_5 = c.turned-5.ensures.value in
    let met_5 = c.in_ok-keep_met-5.ensures.kept in
    let kept_5 = kept_next m old c.keep_met-4.new.list.items c.keep_met-5.new.list.items (take 4 all)
    (turned (pos 1) c.args.e ∷ []) kept_4 (rw turned_5 at met_5) in
    let turned_6 = c.turned-6.ensures.value in
    let met_6 = c.in_ok-keep_met-6.ensures.kept in
    let kept_6 = kept_next m old c.keep_met-5.new.list.items c.keep_met-6.new.list.items (take 5 all)
    (turned (pos 2) c.args.e ∷ []) kept_5 (rw turned_6 at met_6) in
    let turned_7 = c.turned-7.ensures.value in
    let met_7 = c.in_ok-keep_met-7.ensures.kept in
    let kept_7 = kept_next m old c.keep_met-6.new.list.items c.keep_met-7.new.list.items (take 6 all)
    (turned (pos 3) c.args.e ∷ []) kept_6 (rw turned_7 at met_7) in
    kept_7

use Rattle.std.proofs.Common.{◌≡◌, ◌+◌, ◌-◌, arith, refl, drop, length, take}
use Rattle.std.proofs.Math.Nat.{add-sub_cancel_left}
use Rattle.std.proofs.lemmas.List.{length-drop, length-take-le}
use borrow.Rule.Slice.PartMut.{same_len_mid}
use Rattle.s2room.proofs.Merging.{around_next, around_run, merging_y}
use Rattle.s2room.proofs.merge.put_y.Goals as goal

pub returns-clause-merging : goal.returns-clause-merging
returns-clause-merging c =
    let left = c.args.left in
    let merging = c.requires.merging in
    let some = c.requires.some in
    let x_order = merging.x_order in
    let y_order = merging.y_order in
    let x_within = merging.x_within in
    let y_within = merging.y_within in
    let room = merging.room in
    let ys = c.args.ys.now in
    let out = c.args.out.now in
    let n = c.args.n in
    let at = left.x + left.y in
    let run = take n (drop left.y ys) in
    let copied : c.copy_from_slice.new.self ≡ run =
    rw (add-sub_cancel_left left.y n) at c.copy_from_slice.ensures.after in
    let len : length run ≡ n = length-take-le n (drop left.y ys) (omega (arith, length-drop left.y ys)) in
    merging_y run (left.y + n) left.y_end (at + n) (left.x_end + left.y_end) merging some (omega arith)
    (same_len_mid at (at + n - at) out _ c.copy_from_slice.ensures.len) (around_next ys left.y left.y_end n)
    (omega arith) refl
    (rw copied (around_run out run at (left.x_end + left.y_end) n (at + n - at) (omega arith) len (omega arith)
    (omega arith)))

use Rattle.std.proofs.Common.{◌≡◌, ◌+◌, ◌∷◌, [], true, false, add-zero, arith, leb, refl, get_or}
use Rattle.std.proofs.lemmas.List.{length-set}
use Rattle.std.proofs.lemmas.Bool.Decides.{leb_tells}
use Rattle.s2room.proofs.Merging.{around_first, around_set, merging_x, merging_y}
use Rattle.s2room.proofs.merge.put_least.Goals as goal
use Rattle.s2room.proofs.merge.put_least.Goals.{then-is_x, else-is_x}

pub returns-clause-merging : goal.returns-clause-merging
returns-clause-merging c =
    let left = c.args.left in
    let merging = c.requires.merging in
    let x_left = c.requires.x_left in
    let y_left = c.requires.y_left in
    let x_within = merging.x_within in
    let y_within = merging.y_within in
    let room = merging.room in
    let xs = c.args.xs.now in
    let ys = c.args.ys.now in
    let out = c.args.out.now in
    let at = left.x + left.y in
    let at_end = left.x_end + left.y_end in
    let put = around_set out at at_end c.if-is_x.out (omega arith) (omega arith) in
    let len = length-set out at c.if-is_x.out in
    elim c.if-is_x.branch [
      | then-is_x w ↦
          let yes : leb (get_or xs left.x 0) (get_or ys left.y 0) ≡ true = grind (arith, leb_tells, w.if-is_x) in
          let is : c.if-is_x.out ≡ get_or xs left.x 0 = w.out-is in
          rw (yes, add-zero)
          (merging_x (c.if-is_x.out ∷ []) (left.x + 1) left.x_end (at + 1) at_end merging (omega arith)
          (omega arith) len (rw is (around_first xs left.x left.x_end (omega arith))) (omega arith) refl put)
      | else-is_x w ↦
          let no : leb (get_or xs left.x 0) (get_or ys left.y 0) ≡ false = grind (arith, leb_tells, w.if-is_x) in
          let is : c.if-is_x.out ≡ get_or ys left.y 0 = w.out-is in
          rw (no, add-zero)
          (merging_y (c.if-is_x.out ∷ []) (left.y + 1) left.y_end (at + 1) at_end merging (omega arith)
          (omega arith) len (rw is (around_first ys left.y left.y_end (omega arith))) (omega arith) refl put)
    ]

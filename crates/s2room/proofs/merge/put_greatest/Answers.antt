use Rattle.std.proofs.Common.{◌≡◌, ◌+◌, ◌-◌, ◌++◌, ◌∷◌, [], true, false, arith, leb, refl, get_or, take, drop}
use Rattle.std.proofs.Math.ListN.{set}
use Rattle.std.proofs.Math.Nat.{sub-zero}
use Rattle.std.proofs.lemmas.List.{length-set}
use Rattle.std.proofs.lemmas.Bool.Decides.{leb_tells}
use Rattle.s2room.specs.Working.Merging.{around}
use Rattle.s2room.proofs.Merging.{around_last, around_set_last, merging_x, merging_y}
use Rattle.s2room.proofs.merge.put_greatest.Goals as goal
use Rattle.s2room.proofs.merge.put_greatest.Goals.{then-is_y, else-is_y}

pub returns-clause-merging : goal.returns-clause-merging
returns-clause-merging c =
    let left = c.args.left in
    let merging = c.requires.merging in
    let x_left = c.requires.x_left in
    let y_left = c.requires.y_left in
    let x_within = merging.x_within in
    let y_within = merging.y_within in
    let room = merging.room in
    let xs = c.args.xs.now in
    let ys = c.args.ys.now in
    let out = c.args.out.now in
    let last = left.x_end + left.y_end - 1 in
    let x_last = left.x_end - 1 in
    let y_last = left.y_end - 1 in
    let after : last + 1 ≡ left.x_end + left.y_end = omega arith in
    let x_after : x_last + 1 ≡ left.x_end = omega arith in
    let y_after : y_last + 1 ≡ left.y_end = omega arith in
    let put : around (left.x + left.y) last (set out last c.if-is_y.out) ≡
    take (left.x + left.y) out ++ ((c.if-is_y.out ∷ []) ++ drop (left.x_end + left.y_end) out) =
    rw after at (around_set_last out (left.x + left.y) last c.if-is_y.out (omega arith) (omega arith)) in
    let len = length-set out last c.if-is_y.out in
    elim c.if-is_y.branch [
      | then-is_y w ↦
          let yes : leb (get_or xs x_last 0) (get_or ys y_last 0) ≡ true = grind (arith, leb_tells, w.if-is_y) in
          let is : c.if-is_y.out ≡ get_or ys y_last 0 = w.out-is in
          rw (yes, sub-zero)
          (merging_y (c.if-is_y.out ∷ []) left.y y_last (left.x + left.y) last merging (omega arith) (omega arith) len
          (rw is (rw y_after at (around_last ys left.y y_last (omega arith)))) refl (omega arith) put)
      | else-is_y w ↦
          let no : leb (get_or xs x_last 0) (get_or ys y_last 0) ≡ false = grind (arith, leb_tells, w.if-is_y) in
          let is : c.if-is_y.out ≡ get_or xs x_last 0 = w.out-is in
          rw (no, sub-zero)
          (merging_x (c.if-is_y.out ∷ []) left.x x_last (left.x + left.y) last merging (omega arith) (omega arith) len
          (rw is (rw x_after at (around_last xs left.x x_last (omega arith)))) refl (omega arith) put)
    ]

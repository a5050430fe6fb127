use Rattle.std.proofs.Common.{◌≡◌, ◌-◌, ◌*◌, ◌^◌, ◌%◌, ◌≤◌, ◌||◌, Bool, true, false, IsTrue, bit_xor, refl, arith}
use Rattle.std.proofs.Math.Nat.{pow-le-pow_right}
use Rattle.s2cell.specs.Cell.{level_of}
use Rattle.s2cell.proofs.Calls.{size_at}
use Rattle.s2list.proofs.Families.{family_ends, family_xor}
use Rattle.s2list.proofs.whole.is_no_family.Goals as goal

one_of : (x y : Bool) → IsTrue (x || y) → (x ≡ true → ⊥) → (y ≡ true → ⊥) → ⊥
one_of true y e f g = f refl
one_of false y e f g = g e

pub returns : goal.returns
returns c e own p f =
    let is = size_at c.args.d own in
    let most : 4 ^ (30 - level_of c.args.d) ≤ 4 ^ 30 =
    pow-le-pow_right {n = 4} (omega arith) {i = 30 - level_of c.args.d} {j = 30} (omega arith) in
    let size = c.leaves_of.ensures own in
    let ends = family_ends f in
    let same : bit_xor c.args.a c.args.d ≡ (c.leaves_of.result * 6) % 2 ^ 64 = omega arith in
    one_of c.differ-is_other.result c.differ-is_far.result e (λ t. c.differ-is_other.ensures.0 t (family_xor f))
    (λ t. c.differ-is_far.ensures.0 t same)

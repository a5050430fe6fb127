use Rattle.std.proofs.Common.{◌∙◌, ap₂, ◌*◌, ◌*ℤ◌}
use Rattle.std.proofs.lemmas.Nat.{mul-le}
use Rattle.s2degrees.proofs.Signs.{times_signs}
use Rattle.s2degrees.proofs.signed.times.Goals as goal

pub returns-clause-near : goal.returns-clause-near
returns-clause-near c p u d v h k = record {
  p = h.p * k.p;
  value = ap₂ (λ x y. x *ℤ y) h.value k.value ∙ times_signs c.args.a.negative c.args.b.negative h.p k.p;
  small = mul-le h.p k.p d v h.small k.small;
  near = c.product.ensures.near 13000 h.p d 13000 k.p v h.small k.small h.near k.near;
}

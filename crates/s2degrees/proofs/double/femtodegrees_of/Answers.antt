use Rattle.std.proofs.Common.{◌*◌, ◌^◌, ap, inl, inr, leb, lit≤, subst, sym, w64, ◌∙◌, arith}
use Rattle.std.proofs.lemmas.Int.{to_z-of_z}
use Rattle.std.specs.Bool.{passes}
use Rattle.std.specs.Float.{binary64, float_is_finite}
use Rattle.std.specs.Float.Ieee.{to_bits}
use lib.Ieee.Bits.{of_bits-to_bits}
use lib.Ieee.Exact.{HasValue}
use Rattle.s2degrees.specs.Femtodegrees.{IsFemtodegreesOf}
use Rattle.s2degrees.proofs.Doubles.{femtodegrees_of_value, finite_size, fits_of_size, signed_value, too_far}
use Rattle.s2degrees.proofs.double.femtodegrees_of.Goals as goal

pub parts_of-x-requires : goal.parts_of-x-requires
parts_of-x-requires c =
    let x = c.args.degrees in
    let same = of_bits-to_bits binary64 x (passes _ c.well_formed.0.1) in
    let finite = sym c.is_finite.ensures.value ∙ c.if-not-is_finite.false in
    finite_size (to_bits binary64 x) (ap float_is_finite same ∙ finite)

pub returns-then-size-ge-SIGN-clause-fault : goal.returns-then-size-ge-SIGN-clause-fault
returns-then-size-ge-SIGN-clause-fault c =
    let x = c.args.degrees in
    let b = to_bits binary64 x in
    let a = c.parts_of-x.result.digits * 2 ^ c.parts_of-x.result.place in
    let same = of_bits-to_bits binary64 x (passes _ c.well_formed.0.1) in
    let value = signed_value b a (2 ^ 1074) c.parts_of-x.ensures.worth in
    let own = subst (λ y. HasValue y (leb (2 ^ 63) b) a (2 ^ 1074)) same value in (
      sym c.is_finite.ensures.value ∙ c.if-not-is_finite.false,
      too_far x (leb (2 ^ 63) b) a (2 ^ 1074) c.size_of-size.result (lit≤ tt) own c.if-size-ge-SIGN.true
          c.size_of-size.ensures,
    )

pub returns-clause-exact : goal.returns-clause-exact
returns-clause-exact c =
    let x = c.args.degrees in
    let b = to_bits binary64 x in
    let a = c.parts_of-x.result.digits * 2 ^ c.parts_of-x.result.place in
    let n = c.size_of-size.result in
    let same = of_bits-to_bits binary64 x (passes _ c.well_formed.0.1) in
    let value = signed_value b a (2 ^ 1074) c.parts_of-x.ensures.worth in
    let own = subst (λ y. HasValue y (leb (2 ^ 63) b) a (2 ^ 1074)) same value in
    let small = c.if-size-ge-SIGN.false in
    let read = to_z-of_z w64 c.whole.result (fits_of_size (leb (2 ^ 63) b) n c.whole.result c.whole.ensures small) in
    subst (λ z. IsFemtodegreesOf x z) (sym (read ∙ c.whole.ensures)) (elim c.size_of-size.ensures [
      | inl near ↦ femtodegrees_of_value x (leb (2 ^ 63) b) a (2 ^ 1074) n (lit≤ tt) own near
      | inr far ↦ absurd (omega (arith, far.0, small))
    ])

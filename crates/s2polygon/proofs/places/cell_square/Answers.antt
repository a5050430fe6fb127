use Rattle.std.proofs.Common.{arith, ap, sym, subst, ◌∙◌, rules, FitsSigned, w64, ℕ, ◌*◌, ◌+◌, ◌^◌}
use Rattle.s2polygon.specs.Places.{along}
use Rattle.s2polygon.specs.Working.Sizes.{IsOfFace}
use Rattle.s2polygon.proofs.Sides.{in_face, square_is, of_face}
use Rattle.s2polygon.specs.declared.places.Square.{Square}
use Rattle.s2polygon.proofs.places.cell_square.Goals as goal

pub size_of-size-requires : goal.size_of-size-requires
size_of-size-requires c = record { k = c.requires.k }

pub overflow_mul-i : goal.overflow_mul-i
overflow_mul-i c = omega (
  arith,
  in_face c.args.k c.args.i c.size_of-size.result c.requires.k c.requires.i
      c.size_of-size.ensures.value,
)

pub overflow_mul-i-2 : goal.overflow_mul-i-2
overflow_mul-i-2 c = omega (
  arith,
  in_face c.args.k c.args.i c.size_of-size.result c.requires.k c.requires.i
      c.size_of-size.ensures.value,
)

pub place_at-requires : goal.place_at-requires
place_at-requires c = omega (
  arith,
  in_face c.args.k c.args.i c.size_of-size.result c.requires.k c.requires.i
      c.size_of-size.ensures.value,
)

pub overflow_mul-i-3 : goal.overflow_mul-i-3
overflow_mul-i-3 c = omega (
  arith,
  in_face c.args.k c.args.i c.size_of-size.result c.requires.k c.requires.i
      c.size_of-size.ensures.value,
)

pub overflow_add-i : goal.overflow_add-i
overflow_add-i c = omega (
  arith,
  in_face c.args.k c.args.i c.size_of-size.result c.requires.k c.requires.i
      c.size_of-size.ensures.value,
)

pub overflow_mul-i-4 : goal.overflow_mul-i-4
overflow_mul-i-4 c = omega (
  arith,
  in_face c.args.k c.args.i c.size_of-size.result c.requires.k c.requires.i
      c.size_of-size.ensures.value,
)

pub place_at-requires-2 : goal.place_at-requires-2
place_at-requires-2 c = omega (
  arith,
  in_face c.args.k c.args.i c.size_of-size.result c.requires.k c.requires.i
      c.size_of-size.ensures.value,
)

pub overflow_mul-j : goal.overflow_mul-j
overflow_mul-j c = omega (
  arith,
  in_face c.args.k c.args.j c.size_of-size.result c.requires.k c.requires.j
      c.size_of-size.ensures.value,
)

pub overflow_mul-j-2 : goal.overflow_mul-j-2
overflow_mul-j-2 c = omega (
  arith,
  in_face c.args.k c.args.j c.size_of-size.result c.requires.k c.requires.j
      c.size_of-size.ensures.value,
)

pub place_at-requires-3 : goal.place_at-requires-3
place_at-requires-3 c = omega (
  arith,
  in_face c.args.k c.args.j c.size_of-size.result c.requires.k c.requires.j
      c.size_of-size.ensures.value,
)

pub overflow_mul-j-3 : goal.overflow_mul-j-3
overflow_mul-j-3 c = omega (
  arith,
  in_face c.args.k c.args.j c.size_of-size.result c.requires.k c.requires.j
      c.size_of-size.ensures.value,
)

pub overflow_add-j : goal.overflow_add-j
overflow_add-j c = omega (
  arith,
  in_face c.args.k c.args.j c.size_of-size.result c.requires.k c.requires.j
      c.size_of-size.ensures.value,
)

pub overflow_mul-j-4 : goal.overflow_mul-j-4
overflow_mul-j-4 c = omega (
  arith,
  in_face c.args.k c.args.j c.size_of-size.result c.requires.k c.requires.j
      c.size_of-size.ensures.value,
)

pub place_at-requires-4 : goal.place_at-requires-4
place_at-requires-4 c = omega (
  arith,
  in_face c.args.k c.args.j c.size_of-size.result c.requires.k c.requires.j
      c.size_of-size.ensures.value,
)

pub returns-clause-value : goal.returns-clause-value
returns-clause-value c =
    let f : FitsSigned w64 c.place_at.result = search rules in
    let g : FitsSigned w64 c.place_at-2.result = search rules in
    let h : FitsSigned w64 c.place_at-3.result = search rules in
    let k : FitsSigned w64 c.place_at-4.result = search rules in
    let s = c.size_of-size.ensures.value in
    square_is c.place_at.result c.place_at-2.result c.place_at-3.result c.place_at-4.result
    (along (2 * (c.args.i * 2 ^ c.args.k))) (along (2 * (c.args.i * 2 ^ c.args.k + 2 ^ c.args.k)))
    (along (2 * (c.args.j * 2 ^ c.args.k))) (along (2 * (c.args.j * 2 ^ c.args.k + 2 ^ c.args.k))) f g h k
    (c.place_at.ensures ∙ ap (λ (t : ℕ). along (2 * (c.args.i * t))) s)
    (c.place_at-2.ensures ∙ ap (λ (t : ℕ). along (2 * (c.args.i * t + t))) s)
    (c.place_at-3.ensures ∙ ap (λ (t : ℕ). along (2 * (c.args.j * t))) s)
    (c.place_at-4.ensures ∙ ap (λ (t : ℕ). along (2 * (c.args.j * t + t))) s)

pub returns-clause-face : goal.returns-clause-face
returns-clause-face c =
    let f : FitsSigned w64 c.place_at.result = search rules in
    let g : FitsSigned w64 c.place_at-2.result = search rules in
    let h : FitsSigned w64 c.place_at-3.result = search rules in
    let k : FitsSigned w64 c.place_at-4.result = search rules in
    let s = c.size_of-size.ensures.value in
    subst (λ (q : Square). IsOfFace q) (sym (square_is c.place_at.result c.place_at-2.result c.place_at-3.result
    c.place_at-4.result
    (along (2 * (c.args.i * 2 ^ c.args.k))) (along (2 * (c.args.i * 2 ^ c.args.k + 2 ^ c.args.k)))
    (along (2 * (c.args.j * 2 ^ c.args.k))) (along (2 * (c.args.j * 2 ^ c.args.k + 2 ^ c.args.k))) f g h k
    (c.place_at.ensures ∙ ap (λ (t : ℕ). along (2 * (c.args.i * t))) s)
    (c.place_at-2.ensures ∙ ap (λ (t : ℕ). along (2 * (c.args.i * t + t))) s)
    (c.place_at-3.ensures ∙ ap (λ (t : ℕ). along (2 * (c.args.j * t))) s)
    (c.place_at-4.ensures ∙ ap (λ (t : ℕ). along (2 * (c.args.j * t + t))) s)))
    (of_face c.args.k c.args.i c.args.j c.requires.k c.requires.i c.requires.j)

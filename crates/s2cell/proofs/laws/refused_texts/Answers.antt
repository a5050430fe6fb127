use Rattle.std.proofs.Common.{◌≡◌, ℕ, subst, sym, refl, arith}
use Rattle.std.specs.Int.Count.{count_trailing_zeros}
use Rattle.s2cell.specs.Cell.{IsCell}
use Rattle.s2cell.proofs.CellLemmas.{face_of_cell, trailing_even}
use Rattle.s2cell.proofs.Debugs.{debug_face}
use Rattle.s2cell.proofs.laws.refused_texts.Goals as goal

pub returns-clause-face_6 : goal.returns-clause-face_6
returns-clause-face_6 c = λ n r i. let face = face_of_cell n i in let is = r.value in omega arith

zeros_of_2 : count_trailing_zeros 64 0x2000000000000000 ≡ 61
unfolding count_trailing_zeros
zeros_of_2 = refl

pub returns-clause-odd_place : goal.returns-clause-odd_place
returns-clause-odd_place c = λ n r i.
    let is : 0x2000000000000000 ≡ n = r.value in
    let even = trailing_even 0x2000000000000000 (subst (λ (x : ℕ). IsCell x) (sym is) i) in
    omega (arith, zeros_of_2, even.0)

pub returns-clause-face_6_debug : goal.returns-clause-face_6_debug
returns-clause-face_6_debug c = λ n d. let face = debug_face d in omega arith

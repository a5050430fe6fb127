-- A cell by its parent and its number there.
use Rattle.std.proofs.Common.{◌≡◌, ℕ, suc, ◌+◌, ◌-◌, ◌*◌, ◌/◌, ◌%◌, ◌^◌, ◌<◌, sym, ◌∙◌, ap, arith}
use Rattle.std.proofs.lemmas.Nat.{div-add-mod'}
use Rattle.std.proofs.Math.Nat.{div-one, pow-suc}
use Rattle.s2cell.specs.Cell.{IsCell, level_of, place_of, face_of, child_of, parent_of, id_at}
use Rattle.s2cell.proofs.Lowest.{four_pow}
use Rattle.s2cell.proofs.CellLemmas.{own_place, level_of_cell, place_of_cell}
use Rattle.s2cell.proofs.Calls.{IsCellAt-parent_of}

-- a cell is the child of its parent with the number of its place among four
pub child_back : {c : ℕ} → IsCell c → 0 < level_of c → child_of (parent_of c (level_of c - 1)) (place_of c % 4) ≡ c
unfolding child_of
child_back {c} i h =
    let k = level_of c in
    let m = place_of c in
    let p = parent_of c (k - 1) in
    let at = IsCellAt-parent_of c (k - 1) i (omega arith) in
    let one : k - (k - 1) ≡ 1 = omega arith in
    let lp : level_of p ≡ k - 1 = level_of_cell (k - 1) (m / 4 ^ (k - (k - 1))) p at in
    let pp : place_of p ≡ m / 4 ^ (k - (k - 1)) = place_of_cell (k - 1) (m / 4 ^ (k - (k - 1))) p at in
    let quarter : place_of p ≡ m / 4 = pp ∙ ap (λ z. m / 4 ^ z) one in
    let s = div-add-mod' m 4 in
    let place : 4 * place_of p + m % 4 ≡ m = omega arith in
    let level : level_of p + 1 ≡ k = omega arith in
    ap (λ z. id_at z (4 * place_of p + m % 4)) level ∙ ap (λ z. id_at k z) place ∙ sym (own_place c i).id

face_place : (c : ℕ) → level_of c ≡ 0 → face_of c ≡ place_of c
unfolding face_of
face_place c h = ap (λ z. place_of c / 4 ^ z) h ∙ div-one (place_of c)

-- a face has one cell of level 0
pub same_face : {c d : ℕ} → IsCell c → IsCell d → level_of c ≡ 0 → level_of d ≡ 0 → face_of c ≡ face_of d → c ≡ d
same_face {c} {d} ic id hc hd e =
    let place : place_of c ≡ place_of d = sym (face_place c hc) ∙ e ∙ face_place d hd in
    (own_place c ic).id
    ∙ ap (λ z. id_at z (place_of c)) (hc ∙ sym hd) ∙ ap (λ z. id_at (level_of d) z) place ∙ sym (own_place d id).id

-- the place of a cell, by a shift of its identifier
pub shifted : {c : ℕ} (k s : ℕ) → k ≡ level_of c → IsCell c → s ≡ 61 - 2 * k → c / 2 ^ s ≡ place_of c
unfolding place_of
shifted {c} k s ek i es =
    let l = (own_place c i).level in
    let e : s ≡ suc (2 * (30 - level_of c)) = omega arith in
    let a : 2 ^ s ≡ 2 ^ (2 * (30 - level_of c)) * 2 = ap (λ z. 2 ^ z) e ∙ pow-suc 2 (2 * (30 - level_of c)) in
    let b = four_pow (30 - level_of c) in
    let p : 2 ^ s ≡ 2 * 4 ^ (30 - level_of c) = omega arith in
    ap (λ z. c / z) p

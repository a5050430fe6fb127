-- Words of worked examples, and the cells that they name.
use Rattle.std.proofs.Common.{◌≡◌, refl, sym, arith, lit<, lit≤, codes, Some, None, ℕ, ◌*◌, ◌+◌, ◌^◌}
use Rattle.std.specs.Int.Count.{count_trailing_zeros}
use Rattle.s2cell.specs.Cell.{IsCell}
use Rattle.s2cell.specs.Token.{IsReading}
use Rattle.s2cell.proofs.Lowest.{trailing_of_odd}
use Rattle.s2cell.proofs.CellLemmas.{cell_leaves, trailing_even}
use Rattle.s2script.specs.Named.{cell_named}
use Rattle.s2script.proofs.NamedLemmas.{token_some, token_none}

-- in either case, and with zeros after it
pub token_0C00 : cell_named (codes "0C00") ≡ Some 0x0c00_0000_0000_0000
unfolding cell_named
token_0C00 =
    token_some (codes "0C00") 0x0c00_0000_0000_0000
    (record {
      some = lit< tt;
      most = lit≤ tt;
      digits = (lit< tt, (lit< tt, (lit< tt, (lit< tt, tt))));
      value = refl;
    })
    (1, 1, record { level = lit≤ tt; place = lit< tt; id = refl })

pub token_1 : cell_named (codes "1") ≡ Some 0x1000_0000_0000_0000
unfolding cell_named
token_1 =
    token_some (codes "1") 0x1000_0000_0000_0000
    (record { some = lit< tt; most = lit≤ tt; digits = (lit< tt, tt); value = refl })
    (0, 0, record { level = lit≤ tt; place = lit< tt; id = refl })

-- the face would be 6
pub token_c : cell_named (codes "c") ≡ None
unfolding cell_named
token_c =
    token_none (codes "c") (λ (n : ℕ) (r : IsReading (codes "c") n) (c : IsCell n).
    let e : 0xc000_0000_0000_0000 ≡ n = r.value in
    let l = cell_leaves n c in
    let m = l.middle in
    let w = l.within in
    omega arith)

odd_marker : (n : ℕ) → n ≡ (2 * 0 + 1) * 2 ^ 61 → IsCell n → ⊥
odd_marker n e c =
    let t : count_trailing_zeros 64 n ≡ 61 = trailing_of_odd 64 n 0 61 e (lit< tt) in
    let even = trailing_even n c in
    let f = even.1 in
    omega arith

-- the marker would stand in an odd place
pub token_2 : cell_named (codes "2") ≡ None
unfolding cell_named
token_2 = token_none (codes "2") (λ (n : ℕ) (r : IsReading (codes "2") n) (c : IsCell n). odd_marker n (sym r.value) c)

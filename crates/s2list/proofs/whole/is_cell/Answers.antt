use Rattle.std.proofs.Common.{◌≡◌, ◌*◌, ◌^◌, ◌<◌, ◌≤◌, true, nat_lt, arith, rules, bit_and}
use Rattle.std.proofs.Math.Logic.{⊎_elim}
use Rattle.std.proofs.lemmas.Bool.{and_from, and_parts, cases_lt}
use Rattle.std.proofs.lemmas.Bool.Decides.{nat_tests}
use Rattle.s2cell.proofs.CellLemmas.{face_of_cell}
use Rattle.s2list.proofs.Marking.{cell_marked, marked_cell}
use Rattle.s2list.proofs.whole.is_cell.Goals as goal

pub returns : goal.returns
returns c =
    let mark = bit_and (bit_and c.args.id c.wrapping_neg.result) 0x1555_5555_5555_5555 in (
      λ e.
          let parts = and_parts (nat_lt c.args.id 0xC000_0000_0000_0000) (nat_lt 0 mark) e in
          let first = parts.0 in
          let second = parts.1 in
          let face : c.args.id < 6 * 2 ^ 61 = grind (arith, nat_tests) in
          let some : 0 < mark = grind (arith, nat_tests) in
          marked_cell c.args.id c.wrapping_neg.result face (search rules) c.wrapping_neg.ensures
          (λ z. absurd (omega arith)),
      λ own.
          let f = face_of_cell c.args.id own in
          let some : 0 < mark =
          ⊎_elim
          (λ (h : 0 < mark). h)
          (λ (h : mark ≤ 0).
          absurd (cell_marked c.wrapping_neg.result own (search rules) c.wrapping_neg.ensures (omega arith)))
          (cases_lt 0 mark) in
          let face : c.args.id < 6 * 2 ^ 61 = omega arith in
          let first : nat_lt c.args.id 0xC000_0000_0000_0000 ≡ true = grind (arith, nat_tests) in
          let second : nat_lt 0 mark ≡ true = grind (arith, nat_tests) in
          and_from (nat_lt c.args.id 0xC000_0000_0000_0000) (nat_lt 0 mark) first second,
    )

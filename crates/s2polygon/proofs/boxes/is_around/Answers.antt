use Rattle.std.proofs.Common.{arith, rules, FitsSigned, w64}
use Rattle.std.proofs.lemmas.Int.{ints}
use Rattle.s2polygon.proofs.boxes.is_around.Goals as goal

pub returns : goal.returns
returns c = λ t.
    let q_u0 : FitsSigned w64 c.args.q.u0 = search rules in
    let q_u1 : FitsSigned w64 c.args.q.u1 = search rules in
    let q_v0 : FitsSigned w64 c.args.q.v0 = search rules in
    let q_v1 : FitsSigned w64 c.args.q.v1 = search rules in
    let columns_low : FitsSigned w64 c.args.columns.low = search rules in
    let columns_high : FitsSigned w64 c.args.columns.high = search rules in
    let rows_low : FitsSigned w64 c.args.rows.low = search rules in
    let rows_high : FitsSigned w64 c.args.rows.high = search rules in
    record {
      first_column = grind (arith, ints, c.if-columns-q.false, columns_low, q_u0);
      last_column = grind (arith, ints, c.if-q-columns.false, columns_high, q_u1);
      first_row = grind (arith, ints, c.if-rows-q.false, rows_low, q_v0);
      last_row = grind (arith, ints, t, rows_high, q_v1);
    }

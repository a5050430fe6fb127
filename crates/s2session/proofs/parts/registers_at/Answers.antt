use Rattle.std.proofs.Common.{ℕ, List, length, map, ap, arith}
use Rattle.std.proofs.lemmas.List.{length-map, length_push, map_push}
use Rattle.std.proofs.lemmas.Result.{err_from_is_err_and}
use Rattle.s2list.specs.Union.{Union}
use Rattle.s2session.proofs.Taking.{joined, of_front}
use Rattle.s2session.proofs.TakingRows.{registers_refused, one_more}
use Rattle.s2session.proofs.parts.registers_at.Goals as goal

pub returns-in_err-register_at : goal.returns-in_err-register_at
returns-in_err-register_at g c =
    let p = err_from_is_err_and c.from_residual.result c.from_residual.ensures.1 in
    let lists : List (List ℕ) = map (λ (u : Union). u.cells) c.loop-i.registers.items in
    rw (p.1, p.2) (registers_refused c.in_err-register_at.field-0.0 c.loop-i.invariant.taken (omega (
      arith,
      c.loop-i.invariant.count,
      c.loop-i-test.true,
      length-map c.loop-i.registers.items (λ (u : Union). u.cells),
    )) c.in_err-register_at.ensures)

pub returns-in_err-push : goal.returns-in_err-push
returns-in_err-push g c =
    let p = err_from_is_err_and c.from_residual-in_err-push.result c.from_residual-in_err-push.ensures.1 in
    rw (p.1, p.2) (of_front (joined c.loop-i.invariant.taken.is c.in_ok-register_at.ensures.is) (λ rest. tt))

pub loop-i-preserved : goal.loop-i-preserved
loop-i-preserved g c =
    let xs = c.loop-i.registers.items in
    let x = c.in_ok-register_at.field-0 in
    let items = c.in_ok-push.ensures.items in
    record {
      taken = rw (items, map_push (λ (u : Union). u.cells) xs x)
          (one_more c.loop-i.invariant.taken c.in_ok-register_at.ensures);
      count = omega (arith, ap length items, length_push xs x, c.loop-i.invariant.count);
    }

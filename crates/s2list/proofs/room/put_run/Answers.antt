use Rattle.std.proofs.Common.{◌≡◌, ◌+◌, ◌-◌, ◌∙◌, drop, take, arith}
use Rattle.std.proofs.lemmas.List.{length-drop, length-set, length-take-le}
use Rattle.s2list.proofs.Putting.{rest_later, rest_run, run_more, run_put}
use Rattle.s2list.proofs.room.put_run.Goals as goal

pub loop-k-preserved : goal.loop-k-preserved
loop-k-preserved g c =
    let v = c.loop-k.invariant in
    record {
      len = length-set c.loop-k.out (c.args.n + c.loop-k.k) c.id.result ∙ v.len;
      run = run_more (g.C.Listed.ids c.args.cells.now) c.args.out.now c.loop-k.out c.args.n c.loop-k.k c.args.from
          c.id.result (omega arith) (omega arith) v.run c.id.ensures;
    }

pub returns-then-count-out-clause-put : goal.returns-then-count-out-clause-put
returns-then-count-out-clause-put g c list room p =
    let v = c.loop-k.invariant in
    let e : c.loop-k.k ≡ c.args.to - c.args.from = omega arith in
    run_put list (g.C.Listed.ids c.args.cells.now) room c.args.out.now c.loop-k.out c.args.n
    (c.args.to - c.args.from) c.args.from p (omega arith) (omega arith) v.len (omega arith) (rw e at v.run)

pub returns-then-count-out-clause-rest : goal.returns-then-count-out-clause-rest
returns-then-count-out-clause-rest g c room e =
    let v = c.loop-k.invariant in
    let ids = drop c.args.from (g.C.Listed.ids c.args.cells.now) in
    let left = length-drop c.args.from (g.C.Listed.ids c.args.cells.now) in
    let is : c.loop-k.k ≡ c.args.to - c.args.from = omega arith in
    rw is at (rest_run c.args.out.now room c.loop-k.out (take c.loop-k.k ids) c.args.n c.loop-k.k (omega arith)
    (length-take-le c.loop-k.k ids (omega arith)) v.run e)

pub returns-clause-rest : goal.returns-clause-rest
returns-clause-rest g c room e = rest_later c.args.out.now room c.args.n c.saturating_add.result (omega arith) e

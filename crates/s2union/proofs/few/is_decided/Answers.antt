use Rattle.std.proofs.Common.{arith, get_or}
use Rattle.s2list.specs.Working.Walk.{LeavesOpen}
use Rattle.s2list.proofs.Checking.{packed_from_local}
use Rattle.s2union.proofs.AskingFew.{few_looks, more_places}
use Rattle.s2union.proofs.few.is_decided.Goals as goal

pub pass_next-requires-clause-few_packed : goal.pass_next-requires-clause-few_packed
pass_next-requires-clause-few_packed g c = packed_from_local (g.C.Listed.ids c.args.ys.now) c.requires.y_local

pub returns-in-None-clause-looks : goal.returns-in-None-clause-looks
returns-in-None-clause-looks g c =
    let few = c.loop-j.invariant.few in
    let most = c.in-None.ensures.most in
    few_looks _ _ _ c.requires.few (omega arith)

pub loop-j-preserved : goal.loop-j-preserved
loop-j-preserved g c =
    let few = c.loop-j.invariant.few in
    let within = c.in-Some.ensures.within in
    let looks = c.in-Some.ensures.looks in
    let xs = g.C.Listed.ids c.args.xs.now in
    let ys = g.C.Listed.ids c.args.ys.now in
    record {
      in_y = within.1;
      left_open = more_places (λ k. LeavesOpen c.args.question xs (get_or ys k 0)) 0 c.loop-j.j c.in-Some.next
          c.loop-j.invariant.left_open c.in-Some.ensures.answer;
      few = omega arith;
      some = λ _.
          let least = c.in-Some.ensures.least (let short = c.requires.few in omega arith) in
          omega arith;
    }

pub returns-clause-none : goal.returns-clause-none
returns-clause-none g c _ k h = c.loop-j.invariant.left_open k (omega arith) (omega arith)

pub returns-clause-looks : goal.returns-clause-looks
returns-clause-looks g c =
    let few = c.loop-j.invariant.few in
    let in_y = c.loop-j.invariant.in_y in
    few_looks _ _ _ c.requires.few (omega arith)

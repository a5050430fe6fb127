use Rattle.std.proofs.Common.{◌≡◌, length, arith}
use Rattle.s2list.proofs.Galloping.{all_places}
use Rattle.s2list.proofs.Looking.{quartered_all, quartered_more}
use Rattle.s2list.proofs.four.parts_of_four.Goals as goal

pub loop-size-init : goal.loop-size-init
loop-size-init g c =
    let u = g.C.Listed.ids c.args.cells.now in
    let n : c.len-size.result ≡ length u = c.len-size.ensures in
    record {
      fits = omega arith;
      first_within = omega arith;
      second_within = omega arith;
      third_within = omega arith;
      fourth_within = omega arith;
      first = λ p. rw n (all_places u _);
      second = λ p. rw n (all_places u _);
      third = λ p. rw n (all_places u _);
      fourth = λ p. rw n (all_places u _);
      quartered = λ k h. quartered_all _ _ _ k (omega arith);
      least = omega arith;
    }

pub loop-size-preserved : goal.loop-size-preserved
loop-size-preserved g c =
    let v = c.loop-size.invariant in
    let z = v.least in
    let a = c.quarter-first.ensures.looks in
    let b = c.quarter-second.ensures.looks in
    let d = c.quarter-third.ensures.looks in
    let e = c.quarter-fourth.ensures.looks in
    let least_a = c.quarter-first.ensures.least in
    let least_b = c.quarter-second.ensures.least in
    let least_d = c.quarter-third.ensures.least in
    let least_e = c.quarter-fourth.ensures.least in
    record {
      fits = v.fits;
      first_within = c.quarter-first.ensures.within;
      second_within = c.quarter-second.ensures.within;
      third_within = c.quarter-third.ensures.within;
      fourth_within = c.quarter-fourth.ensures.within;
      first = λ p. c.quarter-first.ensures.brackets p (v.first p);
      second = λ p. c.quarter-second.ensures.brackets p (v.second p);
      third = λ p. c.quarter-third.ensures.brackets p (v.third p);
      fourth = λ p. c.quarter-fourth.ensures.brackets p (v.fourth p);
      quartered = λ k h. quartered_more _ c.loop-size.size _ _ _ k c.loop-size-test.true (v.quartered k h)
          (omega arith);
      least = omega arith;
    }

pub returns-clause-looks : goal.returns-clause-looks
returns-clause-looks g c k h = let l = (c.loop-size.invariant.quartered k h).paid in omega arith

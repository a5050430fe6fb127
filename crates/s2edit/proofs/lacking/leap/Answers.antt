use Rattle.std.proofs.Common.{◌≡◌, ◌<◌, ◌≤◌, ◌-◌, get_or, ◌∙◌, ◌≢◌, arith}
use Rattle.std.proofs.lemmas.Grind.{get_or_default_zero}
use Rattle.s2edit.proofs.Differing.{is_not_below, leapt, leapt_other}
use Rattle.s2edit.proofs.lacking.leap.Goals as goal

pub returns-then-is_below-clause-us : goal.returns-then-is_below-clause-us
returns-then-is_below-clause-us c =
    let y : c.index-vs-j.result ≡ get_or c.args.vs.now c.args.j 0 = c.index-vs-j.is
    ∙ get_or_default_zero c.args.vs.now c.args.j c.index-vs-j.result c.requires.in_vs in
    let e = c.leap_below.ensures in
    let last : get_or c.args.us.now (c.leap_below.result - 1) 0 < get_or c.args.vs.now c.args.j 0 =
    omega (arith, e.below, y) in
    leapt c.args.us.now c.args.vs.now c.requires.us_ascend c.requires.vs_ascend c.args.j c.leap_below.result
    c.requires.in_vs e.within last c.args.i e.further

pub returns-then-is_below-clause-vs : goal.returns-then-is_below-clause-vs
returns-then-is_below-clause-vs c =
    let y : c.index-vs-j.result ≡ get_or c.args.vs.now c.args.j 0 = c.index-vs-j.is
    ∙ get_or_default_zero c.args.vs.now c.args.j c.index-vs-j.result c.requires.in_vs in
    let e = c.leap_below.ensures in
    let last : get_or c.args.us.now (c.leap_below.result - 1) 0 < get_or c.args.vs.now c.args.j 0 =
    omega (arith, e.below, y) in
    leapt_other c.args.us.now c.args.vs.now c.requires.us_ascend c.requires.vs_ascend c.args.j c.leap_below.result
    c.requires.in_vs e.within last c.args.i e.further

pub returns-clause-us : goal.returns-clause-us
returns-clause-us c =
    let x : c.index-us-i.result ≡ get_or c.args.us.now c.args.i 0 = c.index-us-i.is
    ∙ get_or_default_zero c.args.us.now c.args.i c.index-us-i.result c.requires.in_us in
    let e = c.leap_below-2.ensures in
    let last : get_or c.args.vs.now (c.leap_below-2.result - 1) 0 < get_or c.args.us.now c.args.i 0 =
    omega (arith, e.below, x) in
    leapt_other c.args.vs.now c.args.us.now c.requires.vs_ascend c.requires.us_ascend c.args.i c.leap_below-2.result
    c.requires.in_us e.within last c.args.j e.further

pub returns-clause-vs : goal.returns-clause-vs
returns-clause-vs c =
    let x : c.index-us-i.result ≡ get_or c.args.us.now c.args.i 0 = c.index-us-i.is
    ∙ get_or_default_zero c.args.us.now c.args.i c.index-us-i.result c.requires.in_us in
    let e = c.leap_below-2.ensures in
    let last : get_or c.args.vs.now (c.leap_below-2.result - 1) 0 < get_or c.args.us.now c.args.i 0 =
    omega (arith, e.below, x) in
    leapt c.args.vs.now c.args.us.now c.requires.vs_ascend c.requires.us_ascend c.args.i c.leap_below-2.result
    c.requires.in_us e.within last c.args.j e.further

pub leap_below-requires-2-clause-below : goal.leap_below-requires-2-clause-below
leap_below-requires-2-clause-below c =
    let x : c.index-us-i.result ≡ get_or c.args.us.now c.args.i 0 = c.index-us-i.is
    ∙ get_or_default_zero c.args.us.now c.args.i c.index-us-i.result c.requires.in_us in
    let y : c.index-vs-j.result ≡ get_or c.args.vs.now c.args.j 0 = c.index-vs-j.is
    ∙ get_or_default_zero c.args.vs.now c.args.j c.index-vs-j.result c.requires.in_vs in
    let above : c.index-vs-j.result ≤ c.index-us-i.result =
    is_not_below _ _ _ c.lt-is_below.ensures c.if-is_below.false in
    let differ : get_or c.args.us.now c.args.i 0 ≢ get_or c.args.vs.now c.args.j 0 = c.requires.differ in
    omega (arith, x, y, above, differ)

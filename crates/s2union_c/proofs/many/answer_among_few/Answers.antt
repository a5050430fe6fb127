use Rattle.std.proofs.Common.{◌<◌, ◌≤◌, length, rules, arith, ◌∙◌}
use Rattle.std.specs.Prelude.{slice_index}
use Rattle.std.proofs.lemmas.List.{drop-set-lt}
use Rattle.s2list.specs.Working.Walk.{Holds}
use Rattle.s2list.proofs.Checking.{packed_from_local}
use Rattle.s2union_c.specs.Status.{IsBit}
use Rattle.s2union_c.proofs.Asking.{each_more}
use Rattle.s2union_c.proofs.many.answer_among_few.Goals as goal

pub loop-i-preserved : goal.loop-i-preserved
loop-i-preserved g c =
    let u = g.C.Listed.ids c.args.ids.now in
    let v = c.loop-i.invariant in
    let from = v.from in
    let len = v.length in
    let there = c.requires.there in
    let space = c.requires.room in
    let h : c.loop-i.i < length c.args.cells.now = omega arith in
    let room : c.loop-i.i < length c.loop-i.answers = omega arith in
    record {
      so_far = λ local first.
          each_more (λ n bit. IsBit bit (Holds c.args.question u (slice_index c.args.cells.now n)))
          c.loop-i.answers c.loop-i.i c.bit_in.result room (v.so_far local first)
          (c.bit_in.ensures.exact u c.gap_among_few-gap.ensures.gap local (c.requires.cells c.loop-i.i 0 h)
          (c.gap_among_few-gap.ensures.place (packed_from_local u local)));
      bits = λ first. each_more (λ n bit. bit ≤ 1) c.loop-i.answers c.loop-i.i c.bit_in.result room (v.bits first)
          c.bit_in.ensures.bit;
      rest = drop-set-lt (length c.args.cells.now) c.loop-i.answers c.loop-i.i c.bit_in.result h ∙ v.rest;
      length = search rules ∙ len;
      from = omega arith;
      within = omega arith;
      gap = c.gap_among_few-gap.ensures.gap;
    }

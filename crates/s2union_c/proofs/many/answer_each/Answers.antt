use Rattle.std.proofs.Common.{rules, arith, ◌∙◌, ◌<◌, ◌≤◌, length}
use Rattle.std.specs.Prelude.{slice_index}
use Rattle.std.proofs.lemmas.List.{drop-set-lt}
use Rattle.s2list.specs.Working.Walk.{Holds}
use Rattle.s2list.proofs.Checking.{packed_from_local}
use Rattle.s2union_c.specs.Status.{IsBit}
use Rattle.s2union_c.proofs.Asking.{each_more}
use Rattle.s2union_c.proofs.many.answer_each.Goals as goal

pub loop-k-preserved : goal.loop-k-preserved
loop-k-preserved g c =
    let u = g.C.Listed.ids c.args.ids.now in
    let h : c.loop-k.k < length c.args.cells.now = c.loop-k-test.true in
    let room : c.loop-k.k < length c.loop-k.answers = (let r = c.loop-k.invariant.room in omega arith) in
    let next = c.gap_of-next.ensures in
    record {
      so_far = λ local.
          each_more (λ n bit. IsBit bit (Holds c.args.question u (slice_index c.args.cells.now n)))
          c.loop-k.answers c.loop-k.k c.bit_in.result room (c.loop-k.invariant.so_far local)
          (c.bit_in.ensures.exact u next.gap local (c.requires.cells c.loop-k.k 0 h)
          (next.place (packed_from_local u local)));
      bits = each_more (λ n bit. bit ≤ 1) c.loop-k.answers c.loop-k.k c.bit_in.result room c.loop-k.invariant.bits
          c.bit_in.ensures.bit;
      rest = drop-set-lt (length c.args.cells.now) c.loop-k.answers c.loop-k.k c.bit_in.result h
          ∙ c.loop-k.invariant.rest;
      room = search rules;
      within = omega arith;
      gap = next.gap;
    }

pub answer_eight-requires-clause-within : goal.answer_eight-requires-clause-within
answer_eight-requires-clause-within g c local =
    c.eight_lie_in.ensures.there c.if-eight_lie_in.true (g.C.Listed.ids c.args.ids.now) c.loop-k.invariant.gap local

pub loop-k-preserved-then-eight_lie_in : goal.loop-k-preserved-then-eight_lie_in
loop-k-preserved-then-eight_lie_in g c =
    let v = c.loop-k.invariant in
    let e = c.answer_eight.ensures in
    let len = e.length in
    let room = v.room in
    record {
      so_far = λ local. e.exact local (v.so_far local);
      bits = e.bits v.bits;
      rest = e.rest ∙ v.rest;
      room = omega arith;
      within = c.eight_lie_in.ensures.room c.if-eight_lie_in.true;
      gap = v.gap;
    }

pub loop-k-preserved-then-few : goal.loop-k-preserved-then-few
loop-k-preserved-then-few g c =
    let v = c.loop-k.invariant in
    let e = c.answer_among_few-gap.ensures in
    let len = e.length in
    let room = v.room in
    record {
      so_far = λ local. e.exact local (v.so_far local);
      bits = e.bits v.bits;
      rest = e.rest ∙ v.rest;
      room = omega arith;
      within = omega arith;
      gap = e.gap;
    }

use Rattle.std.proofs.Common.{rules, arith, ◌∙◌, ◌+◌, ◌≤◌, ℕ, length, slice_set}
use Rattle.std.specs.Prelude.{slice_index}
use Rattle.std.proofs.lemmas.List.{drop-set-lt}
use Rattle.s2list.specs.Working.Walk.{Holds}
use Rattle.s2union_c.specs.Status.{IsBit}
use Rattle.s2union_c.proofs.Asking.{each_more}
use Rattle.s2union_c.proofs.many.answer_four.Goals as goal

pub returns-clause-exact : goal.returns-clause-exact
returns-clause-exact g c local before i h =
    let u = g.C.Listed.ids c.args.ids.now in
    let P = λ (n bit : ℕ). IsBit bit (Holds c.args.question u (slice_index c.args.cells.now n)) in
    let k = c.args.k in
    let room = c.requires.room in
    let there = c.requires.there in
    let a0 = c.args.answers.now in
    let a1 = slice_set a0 k c.bit.result in
    let a2 = slice_set a1 (k + 1) c.bit-2.result in
    let a3 = slice_set a2 (k + 2) c.bit-3.result in
    let one = each_more P a0 k c.bit.result (omega arith) before
    (rw c.cell_of-first.ensures at (c.bit.ensures.exact local (c.places_of_four-places.ensures.first local))) in
    let two = each_more P a1 (k + 1) c.bit-2.result (search (rules, arith)) one
    (rw c.cell_of-second.ensures at (c.bit-2.ensures.exact local (c.places_of_four-places.ensures.second local))) in
    let three = each_more P a2 (k + 2) c.bit-3.result (search (rules, arith)) (λ n l. two n (omega arith))
    (rw c.cell_of-third.ensures at (c.bit-3.ensures.exact local (c.places_of_four-places.ensures.third local))) in
    each_more P a3 (k + 3) c.bit-4.result (search (rules, arith)) (λ n l. three n (omega arith))
    (rw c.cell_of-fourth.ensures at (c.bit-4.ensures.exact local (c.places_of_four-places.ensures.fourth local))) i
    (omega arith)

pub returns-clause-bits : goal.returns-clause-bits
returns-clause-bits g c before i h =
    let P = λ (n bit : ℕ). bit ≤ 1 in
    let k = c.args.k in
    let room = c.requires.room in
    let there = c.requires.there in
    let a0 = c.args.answers.now in
    let a1 = slice_set a0 k c.bit.result in
    let a2 = slice_set a1 (k + 1) c.bit-2.result in
    let a3 = slice_set a2 (k + 2) c.bit-3.result in
    let one = each_more P a0 k c.bit.result (omega arith) before c.bit.ensures.bit in
    let two = each_more P a1 (k + 1) c.bit-2.result (search (rules, arith)) one c.bit-2.ensures.bit in
    let three = each_more P a2 (k + 2) c.bit-3.result (search (rules, arith)) (λ n l. two n (omega arith))
    c.bit-3.ensures.bit in
    each_more P a3 (k + 3) c.bit-4.result (search (rules, arith)) (λ n l. three n (omega arith)) c.bit-4.ensures.bit
    i (omega arith)

pub returns-clause-rest : goal.returns-clause-rest
returns-clause-rest g c =
    let k = c.args.k in
    let there = c.requires.there in
    let n = length c.args.cells.now in
    let a0 = c.args.answers.now in
    let a1 = slice_set a0 k c.bit.result in
    let a2 = slice_set a1 (k + 1) c.bit-2.result in
    let a3 = slice_set a2 (k + 2) c.bit-3.result in
    drop-set-lt n a3 (k + 3) c.bit-4.result (omega arith) ∙ drop-set-lt n a2 (k + 2) c.bit-3.result (omega arith)
    ∙ drop-set-lt n a1 (k + 1) c.bit-2.result (omega arith) ∙ drop-set-lt n a0 k c.bit.result (omega arith)

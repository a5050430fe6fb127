use Rattle.std.proofs.Common.{rules, ◌≡◌, ℕ, length, ap, ◌∙◌, arith, subst}
use Rattle.std.proofs.lemmas.List.{length-append, length_push}
use Rattle.s2cell.specs.Cell.{IsCell}
use Rattle.s2list.specs.Numbers.{first_number}
use Rattle.s2session.proofs.SessionReading.{part_more, part_wrong, part_all}
use Rattle.s2session.proofs.parts.push_cells.Goals as goal

pub loop-chunk-preserved : goal.loop-chunk-preserved
loop-chunk-preserved c =
    let step = c.in-Some.ensures.steps in
    let so_far = c.loop-chunk.invariant in
    let size : length c.in-Some.chunk.now ≡ 8 = step.1.1 ∙ so_far.size in
    let n : c.in-Some-from_id.cell ≡ first_number c.in-Some.chunk.now = c.in-Some-from_id.ensures.1
    ∙ c.number.ensures in
    record {
      part = rw c.push_reserved.ensures.items (part_more _ _ so_far.part step.1.0 size
          (λ i. omega (arith, c.type_inv.numbers i)) n (search rules));
      size = step.0 ∙ so_far.size;
      room = omega (
        arith,
        so_far.room,
        c.push_reserved.ensures.capacity,
        ap length c.push_reserved.ensures.items,
        length_push c.loop-chunk.cells.items c.in-Some-from_id.cell,
        ap length step.1.0,
        length-append c.in-Some.chunk.now c.next.new.self.rest.now,
      );
    }

pub returns-in-None-from_id : goal.returns-in-None-from_id
returns-in-None-from_id c =
    let step = c.in-Some.ensures.steps in
    let so_far = c.loop-chunk.invariant in
    part_wrong _ _ so_far.part step.1.0 (step.1.1 ∙ so_far.size)
    (subst (λ (n : ℕ). IsCell n → ⊥) c.number.ensures c.in-None-from_id.ensures)

pub returns : goal.returns
returns c =
    let so_far = c.loop-chunk.invariant in
    part_all _ c.args.count c.requires.whole so_far.part (omega (arith, so_far.size, c.in-None.ensures.steps.1))

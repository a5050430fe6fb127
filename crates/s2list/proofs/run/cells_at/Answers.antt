use Rattle.std.proofs.Common.{◌≡◌, ◌+◌, ◌<◌, ◌≤◌, ◌⊎◌, length, get_or, sym, ◌∙◌, arith, inl, inr}
use Rattle.std.proofs.Math.Logic.{⊎_elim}
use Rattle.std.proofs.lemmas.Bool.{cases_lt, false≢true}
use Rattle.s2cell.specs.Cell.{first_leaf, size_of}
use Rattle.s2list.proofs.Checking.{packed_from_local}
use Rattle.s2list.proofs.Running.{run_at, between_from}
use Rattle.s2list.proofs.run.cells_at.Goals as goal
use Rattle.s2list.proofs.run.cells_at.Goals.{then-end-len+then-begins_at, else-end-len}
use Rattle.s2list.proofs.run.cells_at.Goals.{else-end-len-via-then-end-len+else-begins_at}
use Rattle.s2list.proofs.run.cells_at.Goals.{else-end-len-via-else-end-len}

pub returns-clause-place : goal.returns-clause-place
returns-clause-place g c local =
    let p = packed_from_local (g.C.Listed.ids c.args.cells.now) local in
    let v = c.first_leaf.ensures.value in
    record {
      within = c.find-first.ensures.within;
      ended = rw v at (c.find-first.ensures.ended p);
      next = rw v at (c.find-first.ensures.next p);
    }

pub returns-clause-run : goal.returns-clause-run
returns-clause-run g c local =
    let u = g.C.Listed.ids c.args.cells.now in
    let p = packed_from_local u local in
    let lo = first_leaf c.args.cell in
    let hi = first_leaf c.args.cell + size_of c.args.cell in
    let ended = c.find-end.result in
    let end = c.if-end-len.end in
    let len = c.len.ensures in
    let v = c.first_leaf.ensures.value in
    let w = c.end_leaf.ensures.value in
    let stop : ((ended < length u) × (first_leaf (get_or u ended 0) < hi) × (end ≡ ended + 1))
    ⊎ ((ended < length u → hi ≤ first_leaf (get_or u ended 0)) × (end ≡ ended)) =
    elim c.if-end-len.branch [
      | then-end-len+then-begins_at x ↦
          let t = rw x.end_leaf-then-end-len.ensures.value at
          ((x.begins_at.ensures.answer local.cells).0 x.if-begins_at.true) in
          inl (t.0, t.1, x.end-is)
      | else-end-len x ↦
          elim x.else-end-len.branch [
            | else-end-len-via-then-end-len+else-begins_at y ↦
                let test = rw y.end_leaf-then-end-len.ensures.value at (y.begins_at.ensures.answer local.cells) in
                inr (
                  λ h. ⊎_elim
                      (λ (f : first_leaf (get_or u ended 0) < hi).
                      absurd (false≢true (sym y.if-begins_at.false ∙ test.1 (h, f))))
                      (λ (f : hi ≤ first_leaf (get_or u ended 0)). f)
                      (cases_lt (first_leaf (get_or u ended 0)) hi),
                  x.end-is,
                )
            | else-end-len-via-else-end-len y ↦ let f = y.if-end-len.false in inr (λ h. absurd (omega arith), x.end-is)
          ]
    ] in
    run_at c.saturating_sub.result p c.first_leaf.ensures.own c.find-first.ensures.within c.saturating_sub.ensures
    (between_from lo hi c.find-first.result ended
    end p c.find-end.ensures.within (rw v at (c.find-first.ensures.ended p)) (rw v at (c.find-first.ensures.next p))
    (rw w at (c.find-end.ensures.ended p)) (rw w at (c.find-end.ensures.next p)) stop)

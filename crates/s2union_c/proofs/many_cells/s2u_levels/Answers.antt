use Rattle.std.proofs.Common.{ℕ, rules, arith, ◌∙◌, ◌<◌, length, refl, inl, inr}
use Rattle.std.specs.Prelude.{slice_index}
use Rattle.std.proofs.lemmas.List.{drop-set-lt}
use Rattle.s2cell.specs.Cell.{IsCell, level_of}
use Rattle.s2union_c.specs.ManyCells.{IsValueOr}
use Rattle.s2union_c.proofs.Asking.{each_more}
use Rattle.s2union_c.proofs.Firsts.{first_held, first_lacking, first_of_all}
use Rattle.s2union_c.proofs.many_cells.s2u_levels.Goals as goal
use Rattle.s2union_c.proofs.many_cells.s2u_levels.Goals.{in-Some, in-None}

pub loop-k-preserved : goal.loop-k-preserved
loop-k-preserved c =
    let ids = c.args.ids.now in
    let k = c.loop-k.k in
    let v = c.loop-k.invariant in
    let h : k < length ids = omega (arith, c.loop-k-test.true) in
    let room : k < length c.loop-k.out = (let r = v.room in omega arith) in
    let entry = λ (n x : ℕ). IsValueOr (IsCell (slice_index ids n)) (level_of (slice_index ids n)) 255 x in
    elim c.match-from_id.branch [
      | in-Some w ↦
          let e = w.in-Some.ensures in
          let own : IsCell (slice_index ids k) = e.0 in
          rw (w.out-is, w.first-is) (record {
            so_far = each_more entry c.loop-k.out k w.level.result room v.so_far
                (inl (own, rw e.1 at w.level.ensures.value));
            rest = drop-set-lt (length ids) c.loop-k.out k w.level.result h ∙ v.rest;
            room = search rules;
            first = first_held IsCell ids k c.loop-k.first h v.first own;
          })
      | in-None w ↦
          rw (w.out-is, w.first-is) (record {
            so_far = each_more entry c.loop-k.out k 255 room v.so_far (inr (w.in-None.ensures, refl));
            rest = drop-set-lt (length ids) c.loop-k.out k 255 h ∙ v.rest;
            room = search rules;
            first = first_lacking IsCell ids k c.loop-k.first h v.first w.in-None.ensures w.min-first.ensures;
          })
    ]

pub returns-clause-bad : goal.returns-clause-bad
returns-clause-bad c fits =
    first_of_all IsCell c.args.ids.now c.loop-k.k c.loop-k.first (omega (arith, c.loop-k-test.false))
    c.loop-k.invariant.first

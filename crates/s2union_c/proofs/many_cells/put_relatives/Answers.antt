use Rattle.std.proofs.Common.{ℕ, rules, arith, ◌∙◌, ◌<◌, length, refl, inl, inr}
use Rattle.std.specs.Prelude.{slice_index}
use Rattle.std.proofs.lemmas.List.{drop-set-lt}
use Rattle.s2union_c.specs.Working.ManyCells.{HasRelative, relative_of}
use Rattle.s2union_c.specs.ManyCells.{IsValueOr}
use Rattle.s2union_c.proofs.Asking.{each_more}
use Rattle.s2union_c.proofs.Firsts.{first_held, first_lacking, first_of_all}
use Rattle.s2union_c.proofs.many_cells.put_relatives.Goals as goal
use Rattle.s2union_c.proofs.many_cells.put_relatives.Goals.{in-Some, in-None}

pub loop-k-preserved : goal.loop-k-preserved
loop-k-preserved c =
    let ids = c.args.ids.now in
    let which = c.args.which in
    let k = c.loop-k.k in
    let v = c.loop-k.invariant in
    let h : k < length ids = omega (arith, c.loop-k-test.true) in
    let room : k < length c.loop-k.out = (let r = v.room in omega arith) in
    let entry = λ (n x : ℕ). IsValueOr (HasRelative which (slice_index ids n)) (relative_of which (slice_index ids n)) 0
    x in
    elim c.match-related.branch [
      | in-Some w ↦
          let e = w.in-Some.ensures in
          rw (w.out-is, w.first-is) (record {
            so_far = each_more entry c.loop-k.out k w.id.result room v.so_far
                (inl (e.0, w.id.ensures.value ∙ e.1));
            rest = drop-set-lt (length ids) c.loop-k.out k w.id.result h ∙ v.rest;
            room = search rules;
            first = first_held (HasRelative which) ids k c.loop-k.first h v.first e.0;
          })
      | in-None w ↦
          rw (w.out-is, w.first-is) (record {
            so_far = each_more entry c.loop-k.out k 0 room v.so_far (inr (w.in-None.ensures, refl));
            rest = drop-set-lt (length ids) c.loop-k.out k 0 h ∙ v.rest;
            room = search rules;
            first = first_lacking (HasRelative which) ids k c.loop-k.first h v.first w.in-None.ensures
                w.min-first.ensures;
          })
    ]

pub returns-clause-exact : goal.returns-clause-exact
returns-clause-exact c fits k h = c.loop-k.invariant.so_far k (omega (arith, h, c.loop-k-test.false))

pub returns-clause-bad : goal.returns-clause-bad
returns-clause-bad c fits =
    first_of_all (HasRelative c.args.which) c.args.ids.now c.loop-k.k c.loop-k.first
    (omega (arith, c.loop-k-test.false)) c.loop-k.invariant.first

use Rattle.std.proofs.Common.{◌≡◌, ◌<◌, ◌≤◌, ◌++◌, ◌∷◌, [], ◌∙◌, refl, arith}
use Rattle.std.proofs.Math.Logic.{⊎_elim}
use Rattle.std.proofs.lemmas.Bool.{cases_lt}
use Rattle.s2cell.specs.declared.TheConstants.{LEAVES}
use Rattle.s2list.proofs.Tiling.{tiling_none, tiling_step, tiling_done}
use Rattle.s2list.proofs.output.put_gap.Goals as goal

pub loop-first-init : goal.loop-first-init
loop-first-init g c = record {
  place = refl;
  rest = λ old h. h;
  tiled = λ most list old h. (list, tiling_none list c.args.lo c.args.hi, h);
}

pub loop-first-preserved : goal.loop-first-preserved
loop-first-preserved g c = record {
  place = c.put_cell.ensures.place ∙ c.loop-first.invariant.place;
  rest = λ old h. c.in_ok-count.ensures.rest old (c.loop-first.invariant.rest old h);
  tiled = λ most list old h.
      let (longer, tiling, held) = c.loop-first.invariant.tiled most list old h in
      let cell = c.tile-cell.result in
      let start = tiling.start in
      let within : c.args.hi ≤ LEAVES = most (omega arith) in
      let end : c.min-end.result ≡ c.args.hi = omega arith in
      let ends = c.tile-cell.ensures.end in (
        longer ++ cell ∷ [],
        rw c.end_leaf-first.ensures.value
            (tiling_step list longer (longer ++ cell ∷ []) c.args.lo c.args.hi c.loop-first.first cell tiling
            c.tile-cell.ensures.cell c.tile-cell.ensures.first (omega arith)
            (λ q own at by. c.tile-cell.ensures.largest q own at (omega arith)) refl),
        c.in_ok-count.ensures.put longer old held,
      );
}

pub returns-clause-put : goal.returns-clause-put
returns-clause-put g c most list old h =
    let (longer, tiling, held) = c.loop-first.invariant.tiled most list old h in
    let start = tiling.start in
    let past : c.args.hi ≤ c.loop-first.first = ⊎_elim
    (λ (h : c.args.lo < c.args.hi). let within = most h in omega arith)
    (λ (h : c.args.hi ≤ c.args.lo). omega arith)
    (cases_lt c.args.lo c.args.hi) in
    (longer, tiling_done list longer c.args.lo c.args.hi c.loop-first.first tiling past, held)

use Rattle.std.proofs.Common.{arith, ◌≡◌, ◌||◌, ◌∷◌, [], ◌++◌, length, sym, ◌∙◌, ap, subst, All, cond, ℕ}
use Rattle.std.proofs.Common.{inl, inr, length-append, refl}
use Rattle.std.proofs.lemmas.Bool.{or_left, or_right}
use Rattle.std.proofs.lemmas.List.Elements.{All-push}
use Rattle.std.proofs.lemmas.Result.{IfOk-weaker}
use Rattle.s2cell.specs.Cell.{IsCell, level_of, place_of, covers}
use Rattle.s2list.specs.Union.{has_leaf}
use Rattle.s2cover.specs.Rough.{AreCrossing, EachLeaf}
use Rattle.s2cover.specs.Working.Splitting.{any_covers, times, times_by, IsInside, IsAcross}
use Rattle.s2cover.proofs.Times.{times-push}
use Rattle.s2cover.proofs.Splittings.{any_at_last, grown_left, grown_right}
use Rattle.s2cover.proofs.family.sort_in.Goals as goal

pub returns-in-Out : goal.returns-in-Out
returns-in-Out g c =
    let i : IsCell c.cell_at-cell.result =
    (level_of c.cell_at-cell.result, place_of c.cell_at-cell.result, c.id.ensures.cell) in
    record {
      cell = rw c.cell_at-cell.ensures at i;
      leaves = λ x v. inr (c.in-Out.ensures.out refl x v);
      others = λ x h. h;
      times = λ x. omega arith;
      inside = λ k lv around h. h;
      across = λ k lv around h. h;
      few = omega arith;
    }

pub returns-in-In : goal.returns-in-In
returns-in-In g c =
    let r = c.args.region.now in
    let q = c.args.quadrant in
    let id = g.R.RoughRegion.id in
    let inside = c.args.inside.now.items in
    let across = c.args.across.now.items in
    let cell = c.cell_at-cell.result in
    let same = c.cell_at-cell.ensures in
    let i : IsCell cell = (level_of cell, place_of cell, c.id.ensures.cell) in
    record {
      cell = rw same at i;
      leaves = IfOk-weaker c.add.result _ _ (λ y e x v.
          inl (ap (λ u. has_leaf u x || any_covers id across x) e ∙ or_left (has_leaf (inside ++ cell ∷ []) x)
          (any_covers id across x) (any_at_last (λ n. n) inside cell x (ap (λ n. covers n x) same ∙ v))))
          c.add.ensures;
      others = IfOk-weaker c.add.result _ _ (λ y e x h. ap (λ u. has_leaf u x || any_covers id across x) e
          ∙ grown_left id inside (cell ∷ []) across x h) c.add.ensures;
      times = IfOk-weaker c.add.result _ _ (λ y e x.
          let a = ap (λ u. times u x) e ∙ times-push (λ n. n) inside cell x in
          let b : cond {A = ℕ} (covers cell x) 1 0 ≡ cond {A = ℕ} (covers (id q) x) 1 0 =
          ap (λ (n : ℕ). cond {A = ℕ} (covers n x) 1 0) same in
          omega arith) c.add.ensures;
      inside = IfOk-weaker c.add.result _ _ (λ y e k lv around h.
          let Is = IsInside (g.R.RoughRegion.inside r) (g.R.RoughRegion.crosses r) k in
          subst (All Is) (sym e) (All-push Is inside cell h (record {
            cell = i;
            level = ap level_of same ∙ lv;
            lies = subst (EachLeaf (g.R.RoughRegion.inside r)) (sym same) (c.in-In.ensures.inside refl);
            around = subst (AreCrossing (g.R.RoughRegion.crosses r)) (sym same) around;
          }))) c.add.ensures;
      across = IfOk-weaker c.add.result _ _ (λ y e k lv around h. h) c.add.ensures;
      few = IfOk-weaker c.add.result _ _ (λ y e. let l = ap length e ∙ length-append inside (cell ∷ []) in omega arith)
          c.add.ensures;
    }

pub returns-in-Cross : goal.returns-in-Cross
returns-in-Cross g c =
    let r = c.args.region.now in
    let q = c.args.quadrant in
    let id = g.R.RoughRegion.id in
    let inside = c.args.inside.now.items in
    let across = c.args.across.now.items in
    let cell = c.cell_at-cell.result in
    let same = c.cell_at-cell.ensures in
    let i : IsCell cell = (level_of cell, place_of cell, c.id.ensures.cell) in
    record {
      cell = rw same at i;
      leaves = IfOk-weaker c.add-in-Cross.result _ _ (λ y e x v.
          inl (ap (λ u. has_leaf inside x || any_covers id u x) e ∙ or_right (has_leaf inside x)
          (any_covers id (across ++ q ∷ []) x) (any_at_last id across q x v))) c.add-in-Cross.ensures;
      others = IfOk-weaker c.add-in-Cross.result _ _ (λ y e x h. ap (λ u. has_leaf inside x || any_covers id u x) e
          ∙ grown_right id inside across (q ∷ []) x h) c.add-in-Cross.ensures;
      times = IfOk-weaker c.add-in-Cross.result _ _ (λ y e x.
          let a = ap (λ u. times_by id u x) e ∙ times-push id across q x in
          omega arith) c.add-in-Cross.ensures;
      inside = IfOk-weaker c.add-in-Cross.result _ _ (λ y e k lv around h. h) c.add-in-Cross.ensures;
      across = IfOk-weaker c.add-in-Cross.result _ _ (λ y e k lv around h.
          let Is = IsAcross id (g.R.RoughRegion.sound r) g.R.RoughRegion.work (g.R.RoughRegion.crosses r) k in
          subst (All Is) (sym e) (All-push Is across q h (record {
            right = c.requires;
            cell = subst IsCell same i;
            level = lv;
            crosses = c.in-Cross.ensures.across refl;
            around = around;
          }))) c.add-in-Cross.ensures;
      few = IfOk-weaker c.add-in-Cross.result _ _ (λ y e. let l = ap length e ∙ length-append across (q ∷ []) in
          omega arith) c.add-in-Cross.ensures;
    }

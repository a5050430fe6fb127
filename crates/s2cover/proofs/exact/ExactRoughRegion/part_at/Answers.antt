use Rattle.std.proofs.Common.{◌∙◌, ap, sym}
use Rattle.s2cell.specs.Cell.{IsCell, level_of, place_of}
use Rattle.s2cover.proofs.Exactness.{crosses_from}
use Rattle.s2cover.proofs.exact.ExactRoughRegion.part_at.Goals as goal

pub returns : goal.returns
returns g c =
    let r = c.args.self.now.region.now in
    let q = c.args.at.now in
    let id = g.R.At.Quadrant.id in
    let s = c.requires in
    let p = c.part.ensures in
    let cell = c.cell-cell.result in
    let i : IsCell cell = (level_of cell, place_of cell, c.id.ensures.cell) in
    record {
      out = λ e x v. (ap (λ S. S x) (sym s.1) ∙ p.out.0 e x v, ap (λ S. S x) (sym s.2) ∙ p.none e x v);
      inside = λ e x v. (ap (λ S. S x) (sym s.1) ∙ p.all e x v, ap (λ S. S x) (sym s.2) ∙ p.inside.0 e x v);
      across = λ e. (
        crosses_from (g.R.Quartered.outer r) (g.R.Quartered.inner r) (g.R.At.Quadrant.outer q)
            (g.R.At.Quadrant.inner q) cell (id q) i c.cell-cell.ensures s.1 s.2
            (λ n. let z = sym e ∙ p.out.1 n in cc) (λ n. let z = sym e ∙ p.inside.1 n in cc),
        ap (λ f. f (id q)) s.3,
      );
    }

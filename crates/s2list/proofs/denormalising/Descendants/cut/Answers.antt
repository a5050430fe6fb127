use Rattle.std.proofs.Common.{◌≡◌, ◌∙◌, ◌-◌, ◌^◌, ap, arith}
use Rattle.std.proofs.lemmas.List.{take_all}
use Rattle.s2cell.specs.Cell.{level_of}
use Rattle.s2cell.specs.CutLevels.{cells_in, cut_level}
use Rattle.s2cell.proofs.Cutting.{length-cells_in}
use Rattle.s2list.proofs.denormalising.Descendants.cut.Goals as goal

pub returns : goal.returns
returns c =
    let cell = c.args.cell in
    let level = c.of-level.result in
    let own = c.level-own.ensures.value in
    let wanted : level ≡ cut_level (level_of cell) c.args.cuts.now.least c.args.cuts.now.modulus =
    c.of-level.ensures.value ∙ ap (λ n. cut_level n c.args.cuts.now.least c.args.cuts.now.modulus) own in
    let four : c.count_descendants.result ≡ 4 ^ (level - level_of cell) =
    c.count_descendants.ensures ∙ ap (λ n. 4 ^ (level - n)) own in
    let len = length-cells_in level cell in
    take_all c.count_descendants.result (cells_in level cell) (omega arith) ∙ ap (λ k. cells_in k cell) wanted

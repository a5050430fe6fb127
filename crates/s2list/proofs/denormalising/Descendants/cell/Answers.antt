use Rattle.std.proofs.Common.{◌∙◌, sym, ap, arith, length, get_or}
use Rattle.std.proofs.lemmas.List.{get_or-take, length-take-le}
use Rattle.s2cell.specs.CutLevels.{cells_in}
use Rattle.s2cell.proofs.Cutting.{length-cells_in, get_or-cells_in}
use Rattle.s2list.proofs.denormalising.Descendants.cell.Goals as goal

pub descendant-requires-clause-place : goal.descendant-requires-clause-place
descendant-requires-clause-place c =
    let all = cells_in c.self.inside.level c.self.inside.cell in
    let most = c.self.invariant.2 in
    let len = length-cells_in c.self.inside.level c.self.inside.cell in
    let some = length-take-le c.self.inside.count all (omega arith) in
    let view = ap length c.self.view_is in
    omega (arith, c.requires)

pub returns : goal.returns
returns c =
    let all = cells_in c.self.inside.level c.self.inside.cell in
    let most = c.self.invariant.2 in
    let len = length-cells_in c.self.inside.level c.self.inside.cell in
    let some = length-take-le c.self.inside.count all (omega arith) in
    let view = ap length c.self.view_is in
    c.descendant.ensures.value
    ∙ sym (get_or-cells_in c.self.inside.level c.self.inside.cell c.args.k 0 (omega (arith, c.requires)))
    ∙ sym (get_or-take c.self.inside.count all c.args.k 0 (omega (arith, c.requires)))
    ∙ ap (λ l. get_or l c.args.k 0) c.self.view_is

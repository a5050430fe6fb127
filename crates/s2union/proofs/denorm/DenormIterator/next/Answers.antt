use Rattle.std.proofs.Common.{rules, ◌≡◌, ◌≤◌, ◌<◌, ◌-◌, ◌++◌, ◌∷◌, ◌∙◌, [], suc, sym, ap, arith, length, get_or}
use Rattle.std.proofs.Common.{take, drop}
use Rattle.s2cell.specs.Cell.{level_of}
use Rattle.s2cell.specs.CutLevels.{cells_in, cut_level}
use Rattle.s2list.specs.Denorm.{denormalised}
use Rattle.s2union.proofs.Items.{items_end, items_turn, none_from_test, some_from_test, some_items}
use Rattle.s2union.proofs.denorm.DenormIterator.next.Goals as goal
use Rattle.s2union.proofs.denorm.DenormIterator.next.Goals.{After-cut-self-inside}

pub returns-then-is_empty-clause-steps : goal.returns-then-is_empty-clause-steps
returns-then-is_empty-clause-steps c =
    let none : length c.self.inside.cells.now ≡ 0 = none_from_test _ _ c.is_empty.ensures c.if-is_empty.true in
    let e : c.args.self.now ≡ [] = sym c.self.view_is ∙ items_end c.self.inside.items c.self.inside.cells.now _ _
    c.self.inside.number (omega (arith, c.len.ensures, c.if-self-len.false)) none in
    (e, e)

-- the items of the next cell
cut : (c : After-cut-self-inside) → c.cut-self-inside.result
    ≡ cells_in (cut_level (level_of c.index-self-0.result) c.self.inside.cuts.least c.self.inside.cuts.modulus)
    c.index-self-0.result
cut c = rw (← c.index-self-0.is) at c.cut-self-inside.ensures

pub cell-requires : goal.cell-requires
cell-requires c = rw (cut (goal.at.cell-requires c).After-cut-self-inside) (some_items _ _)

pub invariant_of-self-2 : goal.invariant_of-self-2
invariant_of-self-2 c =
    let some : 0 < length c.cut-self-inside.result =
    rw (cut (goal.at.invariant_of-self-2 c).After-cut-self-inside) (some_items _ _) in
    let more : 1 ≤ length c.cut-self-inside.result = omega arith in
    more

pub returns-clause-steps : goal.returns-clause-steps
returns-clause-steps c =
    let some : 0 < length c.self.inside.cells.now = some_from_test _ _ c.is_empty.ensures c.if-is_empty.false in
    let is = cut (goal.at.returns-clause-steps c).After-cut-self-inside in
    let rest = denormalised c.self.inside.cuts.least c.self.inside.cuts.modulus
    (take (length c.self.inside.cells.now - 1) (drop 1 c.self.inside.cells.now)) in
    sym c.self.view_is
    ∙ items_turn c.self.inside.items c.self.inside.cells.now c.self.inside.cuts.least c.self.inside.cuts.modulus
    c.self.inside.number c.index-self-0.result c.cell.result (omega (arith, c.len.ensures, c.if-self-len.false)) some
    c.index-self-0.is (c.cell.ensures ∙ ap (λ l. get_or l 0 0) is)
    ∙ ap (λ l. c.cell.result ∷ (drop 1 l ++ rest)) (sym is)

pub returns-clause-goes : goal.returns-clause-goes
returns-clause-goes c =
    let rest = drop 1 c.cut-self-inside.result ++ denormalised c.self.inside.cuts.least c.self.inside.cuts.modulus
    (take (length c.self.inside.cells.now - 1) (drop 1 c.self.inside.cells.now)) in
    let steps : c.args.self.now ≡ c.cell.result ∷ rest = returns-clause-steps c in
    let fewer : length c.args.self.now ≡ suc (length rest) = ap length steps in
    search rules

use Rattle.std.proofs.Common.{[], ◌∷◌, ap, sym, ◌∙◌, subst, arith}
use Rattle.std.proofs.lemmas.Grind.{common_steps}
use Rattle.s2union.specs.Working.Merge.{Left, Goes, CanApply}
use Rattle.s2union.proofs.MergeSteps.{last_turn, end_misfit, rest_ascends}
use Rattle.s2union.proofs.apply.Merge.turn_after_cells.Goals as goal

pub returns-in-Some-clause-turn : goal.returns-in-Some-clause-turn
returns-in-Some-clause-turn c =
    subst (λ (o : Left). Goes (c.in-Some.field-0-0.now ∷ []) o (record {
      out = c.self.inside.out.now;
      put = c.in-Some.rest.now;
      cells = c.self.inside.cells.now;
    })) c.self.view_is (last_turn
    c.self.inside.out.now c.self.inside.put.now c.in-Some.rest.now c.self.inside.cells.now
    c.in-Some.field-0-0.now
    c.in-Some.ensures.cases.0 (ap (λ (l : Left). l.cells) c.self.view_is ∙ c.requires) c.self.invariant)

pub returns-then-not-is_empty-clause-turn : goal.returns-then-not-is_empty-clause-turn
returns-then-not-is_empty-clause-turn c f =
    let s = c.self.inside in
    end_misfit s.out.now s.put.now s.cells.now
    (ap (λ (l : Left). l.cells) c.self.view_is ∙ c.requires)
    (λ e. grind (arith, common_steps, c.is_empty.ensures, c.if-not-is_empty.true))
    (subst CanApply (sym c.self.view_is) f)

pub invariant_of-self : goal.invariant_of-self
invariant_of-self c =
    let s = c.self.inside in
    let i = c.self.invariant in
    record {
      out = i.out;
      put = rest_ascends s.put.now c.in-Some.rest.now _ c.in-Some.ensures.cases.0 i.put;
      cells = i.cells;
    }

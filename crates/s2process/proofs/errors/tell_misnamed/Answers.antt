use Rattle.std.proofs.Common.{ℕ, List, inl, inr, refl, subst, ◌∙◌}
use Rattle.s2process.specs.Working.Errors.{TellsMore}
use Rattle.s2process.proofs.errors.tell_misnamed.Goals as goal

pub returns-in-Some : goal.returns-in-Some
returns-in-Some g c = inl (subst (λ (text : List ℕ). TellsMore text c.args.errors.now c.tell.new.errors)
    (c.as_slice.ensures.value ∙ c.in-Some.ensures) c.tell.ensures)

pub returns-in-None : goal.returns-in-None
returns-in-None g c = inr refl

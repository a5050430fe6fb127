use Rattle.std.proofs.Common.{◌≡◌, All, rules, subst, sym}
use Rattle.s2map.proofs.Ringing.{parts_next}
use Rattle.s2map.specs.Working.Even.{IsPart}
use Rattle.s2map.proofs.shape.MapShape.add.Goals as goal

pub invariant_of-self : goal.invariant_of-self
invariant_of-self c =
    let e : c.push.new.self.items ≡ c.self.inside.parts.items = search rules in
    subst (All IsPart) (sym e) c.self.invariant

pub invariant_of-self-2 : goal.invariant_of-self-2
invariant_of-self-2 c =
    let e = c.in_ok-push.ensures.items in
    subst (All IsPart) (sym e) (parts_next c.self.inside.parts.items c.args.part c.self.invariant c.is_part.ensures)

use Rattle.std.proofs.Common.{◌≡◌, ◌∙◌, IsTrue, rules, sym, true}
use Rattle.s2map.proofs.Shapes.{part_in, part_out}
use Rattle.s2map.specs.Boxes.{IsBox, part_of}
use Rattle.s2map.proofs.shape.MapShape.part.Goals as goal
use Rattle.s2map.proofs.shape.MapShape.part.Goals.{After-box_part}

yes : IsTrue true
yes = search rules

made : (c : After-box_part) → part_of c.self.inside.parts.items c.args.bounds ≡ c.box_part.result
made c = sym (rw c.deref.ensures.value at c.box_part.ensures)

fits : (c : After-box_part) → IsBox c.args.bounds
fits c = let h = c.if-not-is_box.ensures in h.0 yes

pub returns-clause-inside : goal.returns-clause-inside
returns-clause-inside c e p within =
    rw (← c.self.view_is) (part_in c.args.bounds (fits c) p within c.self.inside.parts.items c.self.invariant
    (made c ∙ e))

pub returns-clause-outside : goal.returns-clause-outside
returns-clause-outside c e p within =
    rw (← c.self.view_is) (part_out c.args.bounds (fits c) p within c.self.inside.parts.items c.self.invariant
    (made c ∙ e))

use Rattle.s2map.proofs.shape.MapShape.are_parts.Goals as goal

pub returns : goal.returns
returns c = rw (← c.self.view_is) c.self.invariant

use Rattle.std.proofs.Common.{sym, ◌∙◌}
use Rattle.s2edit.proofs.Saving.{from_the_back}
use Rattle.s2edit.proofs.sides.PastChanges.at.Goals as goal

pub returns : goal.returns
returns c = c.borrowed.ensures ∙ c.nth_back.ensures ∙ sym (from_the_back c.args.self.now.ring.now.items c.args.k)

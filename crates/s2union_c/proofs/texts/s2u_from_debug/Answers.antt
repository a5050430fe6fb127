use Rattle.std.proofs.Common.{refl, ◌∙◌}
use Rattle.s2cell.proofs.Debugs.{debug_one_cell}
use Rattle.s2union_c.proofs.texts.s2u_from_debug.Goals as goal

pub returns-in-Some-clause-found : goal.returns-in-Some-clause-found
returns-in-Some-clause-found c n d = (
  refl,
  c.id.ensures.value
      ∙ debug_one_cell c.in-Some.cell n c.args.text.now c.in-Some.ensures d,
)

use Rattle.std.proofs.Common.{[], rules}
use Rattle.std.proofs.lemmas.Option.{get_or_from_slice_get}
use Rattle.s2calc.proofs.questions.covers.Goals as goal

pub returns : goal.returns
returns c = rw (
  get_or_from_slice_get _ _ _ [] c.register.ensures.list,
  get_or_from_slice_get _ _ _ [] c.register-2.ensures.list,
) (search rules)

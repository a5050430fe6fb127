use Rattle.std.proofs.Common.{◌∙◌, ap, take}
use Rattle.std.proofs.lemmas.List.{take_min}
use Rattle.s2calc.specs.declared.limits.TheConstants.{KEPT}
use Rattle.s2calc.proofs.kept.beginning.Goals as goal

pub returns : goal.returns
returns c = ap (λ n. take n c.args.line.now) c.min.ensures ∙ take_min KEPT c.args.line.now

use Rattle.std.proofs.Common.{◌&&◌, ap}
use Rattle.std.proofs.lemmas.Result.{IfOk-weaker}
use Rattle.s2list.specs.Union.{has_leaf}
use Rattle.s2list.specs.Sets.{intersection_of}
use Rattle.s2list.proofs.Normal.{normal_form_same}
use Rattle.s2calc.proofs.edits.intersection_with_cells.Goals as goal

pub returns : goal.returns
returns c =
    IfOk-weaker c.intersection-2.result _ _ (λ u normal.
    normal_form_same (intersection_of (has_leaf c.args.union.now.cells) (has_leaf c.in_ok-union_of.field-0.cells)) _
    u.cells
    (λ x. ap (λ b. has_leaf c.args.union.now.cells x && b) (c.in_ok-union_of.ensures x)) normal)
    c.intersection-2.ensures.normal

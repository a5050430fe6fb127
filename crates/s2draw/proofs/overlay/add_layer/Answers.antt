use Rattle.std.proofs.Common.{◌∙◌, arith}
use Rattle.std.proofs.lemmas.Result.{IfOk-weaker}
use Rattle.s2draw.specs.Overlay.{layer, legend}
use Rattle.s2draw.proofs.Shapes.{IsCell-seen, exact}
use Rattle.s2draw.proofs.Notes.{layered}
use Rattle.s2draw.proofs.overlay.add_layer.Goals as goal

pub returns-clause-squares : goal.returns-clause-squares
returns-clause-squares c = IfOk-weaker c.put-2.result _ _
    (λ u q k ic. let s = IsCell-seen ic in exact s.0 s.1) c.put-2.ensures

pub returns-clause-bytes : goal.returns-clause-bytes
unfolding layer
returns-clause-bytes c =
    IfOk-weaker c.put-2.result _ _
    (λ u q. layered _ _ _ _
    (λ k. legend 2144 k (record { name = c.args.name.now; cells = c.args.cells.now })) c.args.curve c.args.cells.now
    (c.as_slice.ensures.value ∙ c.in_ok-list.ensures.cells) (c.as_slice-2.ensures.value ∙ c.in_ok-list.ensures.cells)
    c.in_ok-put_field.ensures c.in_ok-put.ensures c.in_ok-put_outlines.ensures c.in_ok-put_curve.ensures
    c.in_ok-put_legend.ensures q (omega arith) (omega arith)) c.put-2.ensures

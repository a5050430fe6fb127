use Rattle.std.proofs.Common.{◌∙◌, arith}
use Rattle.std.proofs.lemmas.Result.{IfOk-weaker}
use Rattle.s2draw.specs.Overlay.{legend}
use Rattle.s2draw.specs.Zoom.{zoom_layer, window, pieces}
use Rattle.s2draw.proofs.Boxes.{IsCell-seen_at, exact_in}
use Rattle.s2draw.proofs.Notes.{zoomed_list}
use Rattle.s2draw.proofs.zoom.add_zoomed.Goals as goal

pub returns-clause-bytes : goal.returns-clause-bytes
unfolding zoom_layer
returns-clause-bytes c =
    IfOk-weaker c.put-3.result _ _
    (λ u q. zoomed_list _ _ _ (window c.args.part) (pieces c.args.part) _
    (λ k. legend 0 k (record { name = c.args.name.now; cells = c.args.cells.now })) _
    (c.as_slice.ensures.value ∙ c.in_ok-list.ensures.cells) c.in_ok-put_field.ensures c.in_ok-put.ensures
    c.in_ok-put_window.ensures c.in_ok-put_pieces.ensures c.in_ok-put-2.ensures c.in_ok-put_legend.ensures q
    (omega arith) (omega arith)) c.put-3.ensures

pub returns-clause-squares : goal.returns-clause-squares
returns-clause-squares c = IfOk-weaker c.put-3.result _ _
    (λ u q k ic. let s = IsCell-seen_at c.args.part.deepest c.requires.0 ic in
    exact_in c.args.part c.requires s.0 s.1) c.put-3.ensures

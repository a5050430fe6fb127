use Rattle.std.proofs.Common.{◌∙◌, ap}
use Rattle.s2draw.specs.Zoom.{part_around}
use Rattle.s2calc.proofs.FitLemmas.{all_zoomed}
use Rattle.s2calc.proofs.fit.draw.Goals as goal

pub returns : goal.returns
returns c =
    all_zoomed c.args.unions.now c.part_around-part.result c.args.count c.in_ok-text.ensures c.in_ok-add_all.ensures
    c.in_ok-end_zoom.ensures (c.part_around-part.ensures.part ∙ ap part_around c.bounds_of.ensures.bounds) c.requires

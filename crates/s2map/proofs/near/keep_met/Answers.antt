use Rattle.std.proofs.Common.{◌∙◌}
use Rattle.s2map.proofs.Sifting.{kept_one, near_kept}
use Rattle.s2map.specs.Boxes.{meets}
use Rattle.s2map.proofs.near.keep_met.Goals as goal

pub returns-clause-kept : goal.returns-clause-kept
returns-clause-kept c =
    c.in_ok-keep_if.ensures
    ∙ kept_one (meets c.args.q) c.args.list.now.items c.args.e c.meets.result c.meets.ensures

pub returns-clause-near : goal.returns-clause-near
returns-clause-near c =
    near_kept c.args.list.now.items c.keep_if.new.list.items c.args.e c.meets.result c.requires.near c.requires.edge
    c.in_ok-keep_if.ensures

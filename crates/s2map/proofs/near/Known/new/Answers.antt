use Rattle.std.proofs.Common.{ap, refl, ◌∙◌}
use Rattle.s2map.proofs.Sifting.{one_whole, whole_found}
use Rattle.s2map.specs.Working.Near.{near_box, seen}
use Rattle.s2map.proofs.near.Known.new.Goals as goal

pub returns-then-branch : goal.returns-then-branch
returns-then-branch c =
    one_whole _ _ (whole_found (near_box c.args.q) c.args.parts.now c.loop-part.part-index c.part-item.result
    c.loop-part-test.true (seen c.in_ok-near.field-0) c.in_ok-add_near.field-0
    (c.in_ok-near.ensures.value ∙ ap (near_box c.args.q) c.part-item.is) c.in_ok-add_near.ensures.whole
    c.if-branch.true) refl c.in_ok-add_near.ensures.near

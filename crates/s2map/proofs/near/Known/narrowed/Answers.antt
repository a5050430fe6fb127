use Rattle.std.proofs.Common.{ap, refl, ◌∙◌}
use Rattle.s2map.proofs.Sifting.{one_whole, whole_found}
use Rattle.s2map.specs.Working.Near.{narrowed, seen}
use Rattle.s2map.proofs.near.Known.narrowed.Goals as goal

pub returns-then-branch : goal.returns-then-branch
returns-then-branch c =
    let items = c.deref-part-items.ensures.value in
    let found = whole_found (λ n. narrowed c.args.from c.args.q (seen n)) c.deref-part-items.result.now
    c.loop-part.part-index c.part-item.result c.loop-part-test.true (seen c.in_ok-narrowed.field-0)
    c.in_ok-add_near.field-0
    (c.in_ok-narrowed.ensures.value ∙ ap (λ n. narrowed c.args.from c.args.q (seen n)) c.part-item.is)
    c.in_ok-add_near.ensures.whole c.if-branch.true in
    one_whole _ _ (rw items at found) refl c.in_ok-add_near.ensures.near

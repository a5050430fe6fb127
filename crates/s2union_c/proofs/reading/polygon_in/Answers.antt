use Rattle.std.proofs.Common.{◌∙◌, sym}
use Rattle.std.proofs.lemmas.List.{drop_more}
use Rattle.s2union_c.proofs.Shown.{found_in, in_none}
use Rattle.s2union_c.proofs.reading.polygon_in.Goals as goal

pub returns-then-part-parts : goal.returns-then-part-parts
returns-then-part-parts c ring ends =
    let lt = c.if-part-parts.true in
    c.number_of.ensures
    ∙ sym (found_in ring c.args.part c.args.parts.now _ lt (ends _ _ (drop_more c.args.parts.now c.args.part _ lt)))

pub returns-else-part-parts : goal.returns-else-part-parts
returns-else-part-parts c ring ends = sym (in_none ring c.args.part c.args.parts.now c.if-part-parts.false)

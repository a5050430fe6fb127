use Rattle.std.proofs.Common.{◌≡◌, ◌∙◌, false, sym, true}
use Rattle.s2map.proofs.Coverings.{by_box}
use Rattle.s2map.proofs.Nears.{open_known, part_known}
use Rattle.s2map.proofs.Shapes.{part_in, part_out}
use Rattle.s2map.specs.Boxes.{part_of}
use Rattle.s2map.proofs.covering.part_by_known.Goals as goal
use Rattle.s2map.proofs.covering.part_by_known.Goals.{After-part}

made : (c : After-part) → c.part.result ≡ part_of c.args.shape.now c.args.at.now.bounds
made c = c.part.ensures ∙ part_known c.args.at.now.bounds c.args.shape.now c.args.known.now c.requires.known

pub returns-clause-exact : goal.returns-clause-exact
returns-clause-exact c = made c

pub returns-clause-inside : goal.returns-clause-inside
returns-clause-inside c e =
    by_box c.args.shape.now c.args.at.now.cell c.args.at.now.bounds true c.are_parts.ensures c.requires.boxed.of
    (λ p within. part_in c.args.at.now.bounds c.requires.boxed.box p within c.args.shape.now c.are_parts.ensures
    (sym (made c) ∙ e))

pub returns-clause-outside : goal.returns-clause-outside
returns-clause-outside c e =
    by_box c.args.shape.now c.args.at.now.cell c.args.at.now.bounds false c.are_parts.ensures c.requires.boxed.of
    (λ p within. part_out c.args.at.now.bounds c.requires.boxed.box p within c.args.shape.now c.are_parts.ensures
    (sym (made c) ∙ e))

pub returns-clause-none : goal.returns-clause-none
returns-clause-none c e = open_known c.args.at.now.bounds c.args.known.now (sym c.part.ensures ∙ e)

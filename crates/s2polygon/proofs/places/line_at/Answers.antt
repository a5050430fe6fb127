use Rattle.std.proofs.Common.{arith, ap, sym, subst, ◌∙◌, rules, FitsSigned, w64, min, max}
use Rattle.s2polygon.specs.Places.{along}
use Rattle.s2polygon.specs.Working.Sizes.{HasPlacesOfLine}
use Rattle.s2polygon.specs.declared.places.Line.{Line}
use Rattle.s2polygon.proofs.Sides.{line_is, line_placed}
use Rattle.s2polygon.proofs.places.line_at.Goals as goal

pub place_at-requires : goal.place_at-requires
place_at-requires c = c.requires.at

pub place_at-requires-2 : goal.place_at-requires-2
place_at-requires-2 c = omega (arith, c.min.ensures, c.requires.from, c.requires.to)

pub place_at-requires-3 : goal.place_at-requires-3
place_at-requires-3 c = omega (arith, c.max.ensures, c.requires.from, c.requires.to)

pub returns-clause-value : goal.returns-clause-value
returns-clause-value c =
    let f : FitsSigned w64 c.place_at.result = search rules in
    let g : FitsSigned w64 c.place_at-2.result = search rules in
    let h : FitsSigned w64 c.place_at-3.result = search rules in
    line_is c.place_at.result c.place_at-2.result c.place_at-3.result (along c.args.at)
    (along (min c.args.from c.args.to)) (along (max c.args.from c.args.to)) f g h
    c.place_at.ensures (c.place_at-2.ensures ∙ ap along c.min.ensures) (c.place_at-3.ensures ∙ ap along c.max.ensures)

pub returns-clause-places : goal.returns-clause-places
returns-clause-places c =
    let f : FitsSigned w64 c.place_at.result = search rules in
    let g : FitsSigned w64 c.place_at-2.result = search rules in
    let h : FitsSigned w64 c.place_at-3.result = search rules in
    subst (λ (l : Line). HasPlacesOfLine l) (sym (line_is c.place_at.result c.place_at-2.result c.place_at-3.result
    (along c.args.at) (along (min c.args.from c.args.to)) (along (max c.args.from c.args.to)) f g h
    c.place_at.ensures (c.place_at-2.ensures ∙ ap along c.min.ensures) (c.place_at-3.ensures ∙ ap along c.max.ensures)))
    (line_placed c.args.at c.args.from c.args.to c.requires.at c.requires.from c.requires.to)

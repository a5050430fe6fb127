use Rattle.std.proofs.Common.{◌≡◌, ◌-◌, arith, ap, sym, ◌∙◌, subst}
use Rattle.std.proofs.lemmas.Bool.{false≢true}
use Rattle.s2cell.specs.Cell.{level_of, parent_of}
use Rattle.s2list.specs.Packed.{IsFamily}
use Rattle.s2list.proofs.Packing.{family_deep, family_parent}
use Rattle.s2list.proofs.whole.parent_of_siblings.Goals as goal

pub returns-then-level-eq0 : goal.returns-then-level-eq0
returns-then-level-eq0 c p f =
    let s = family_deep c.args.a c.args.b c.args.c c.args.d p f in
    absurd (omega arith)

pub returns-else-are_children : goal.returns-else-are_children
returns-else-are_children c p f =
    let q : parent_of c.args.d (level_of c.args.d - 1) ≡ p = family_parent c.args.a c.args.b c.args.c c.args.d p f in
    let v = c.level-level.ensures.value in
    let is : c.parent-parent.result ≡ p = c.parent-parent.ensures.value ∙ ap (λ x. parent_of c.args.d (x - 1)) v ∙ q in
    let g : IsFamily c.args.a c.args.b c.args.c c.args.d c.parent-parent.result =
    subst (λ x. IsFamily c.args.a c.args.b c.args.c c.args.d x) (sym is) f in
    absurd (false≢true (sym c.if-are_children.false ∙ c.are_children.ensures.1 g))

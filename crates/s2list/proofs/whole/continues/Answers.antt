use Rattle.std.proofs.Common.{refl, sym, ◌∙◌, arith}
use Rattle.std.proofs.lemmas.Bool.{false≢true}
use Rattle.s2list.proofs.whole.continues.Goals as goal

pub returns-then-not-is_cell : goal.returns-then-not-is_cell
returns-then-not-is_cell c = (
  λ e. absurd (false≢true e),
  λ p. absurd (false≢true (sym c.if-not-is_cell.true ∙ c.is_cell.ensures.1 p.0)),
)

pub returns-then-first_of-end : goal.returns-then-first_of-end
returns-then-first_of-end c =
    let first = c.first_of.ensures (c.is_cell.ensures.0 c.if-not-is_cell.false) in
    (λ e. absurd (false≢true e), λ p. let f = p.1 in absurd (omega arith))

pub returns-then-ends_family : goal.returns-then-ends_family
returns-then-ends_family c =
    let f = c.ends_family.ensures.0 c.if-ends_family.true in
    (λ e. absurd (false≢true e), λ p. absurd (p.2 f.0 f.1))

pub returns : goal.returns
returns c =
    let own = c.is_cell.ensures.0 c.if-not-is_cell.false in
    let first = c.first_of.ensures own in (
      λ _. (
        own,
        omega arith,
        λ p f. false≢true (sym c.if-ends_family.false ∙ c.ends_family.ensures.1 (p, f)),
      ),
      λ _. refl,
    )

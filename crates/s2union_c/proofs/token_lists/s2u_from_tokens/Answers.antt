use Rattle.std.proofs.Common.{◌≡◌, inl, length, refl, ◌∙◌, arith}
use Rattle.s2union_c.specs.Texts.{words_of_text}
use Rattle.s2union_c.proofs.Naming.{same_count, zip_length}
use Rattle.s2union_c.proofs.Words.{words_few}
use Rattle.s2union_c.proofs.token_lists.s2u_from_tokens.Goals as goal

pub returns-clause-answer : goal.returns-clause-answer
returns-clause-answer c =
    let n = c.in-Ok.ensures in
    let w = c.write_cells.ensures in
    let len : c.in-Ok.count ≡ length w.0 = n.2 ∙ same_count (words_of_text c.args.text.now) n.0 w.0 n.1 w.1 in
    inl (w.0, w.1, inl (refl, record { len_is = len; fits = omega arith; front = rw len w.2 }))

pub returns-then-count-out-clause-most : goal.returns-then-count-out-clause-most
returns-then-count-out-clause-most c some =
    let n = c.in-Ok.ensures in
    omega (arith, n.2, zip_length (words_of_text c.args.text.now) n.0 n.1, words_few c.args.text.now)

pub returns-clause-most : goal.returns-clause-most
returns-clause-most c some =
    let n = c.in-Ok.ensures in
    omega (arith, n.2, zip_length (words_of_text c.args.text.now) n.0 n.1, words_few c.args.text.now)

use Rattle.std.proofs.Common.{◌+◌, ◌<◌, [], ◌∷◌, length, take, sym, ap, ◌∙◌, arith}
use Rattle.std.proofs.lemmas.Grind.{common_steps}
use Rattle.std.proofs.lemmas.List.{take_rest}
use Rattle.s2script.specs.Words.{is_blank, words}
use Rattle.s2cell.proofs.Words.{words_at, words_last, with_word-some}
use Rattle.s2script.proofs.words.Words.next.Goals as goal

pub returns-then-not-is_empty : goal.returns-then-not-is_empty
returns-then-not-is_empty c =
    let rest = c.loop-at.self-inside.rest.now in
    let some : 0 < length (take c.in-Some.at rest) = grind (arith, common_steps) in
    sym c.loop-at.invariant ∙ words_at is_blank rest c.in-Some.at c.in-Some.ensures.some
    ∙ with_word-some (take c.in-Some.at rest) _ some
    ∙ ap (λ r. take c.in-Some.at rest ∷ words r) (sym (take_rest rest (c.in-Some.at + 1)))

pub returns : goal.returns
returns c =
    let rest = c.loop-at.self-inside.rest.now in
    let some : 0 < length rest = grind (arith, common_steps) in
    sym c.loop-at.invariant ∙ words_last is_blank rest c.in_default.ensures.none ∙ with_word-some rest [] some

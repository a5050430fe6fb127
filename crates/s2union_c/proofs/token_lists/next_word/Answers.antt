use Rattle.std.proofs.Common.{◌≡◌, ◌<◌, length, get_or, false, sym, ◌∙◌, arith}
use Rattle.std.proofs.lemmas.Bool.{false≢true}
use Rattle.s2union_c.specs.Texts.{is_between}
use Rattle.s2union_c.proofs.Words.{left_from, next_at, next_last, not_true}
use Rattle.s2union_c.proofs.token_lists.next_word.Goals as goal

pub returns-in-Some : goal.returns-in-Some
returns-in-Some c =
    let text = c.args.text.now in
    let start = c.loop-start.start in
    let v = c.loop-start.invariant in
    let w = v.within in
    let h : start < length text = omega arith in
    let begins : is_between (get_or text start 0) ≡ false =
    not_true (is_between (get_or text start 0)) (λ e.
    false≢true (sym c.loop-start-test.false ∙ c.stands_between.ensures.1 (h, e))) in
    next_at text c.args.from start c.in-Some.len v.order h begins v.same
    (rw (left_from text start) at c.in-Some.ensures.some)

pub returns-in-None : goal.returns-in-None
returns-in-None c =
    let text = c.args.text.now in
    let start = c.loop-start.start in
    let v = c.loop-start.invariant in
    let w = v.within in
    let h : start < length text = omega arith in
    let begins : is_between (get_or text start 0) ≡ false =
    not_true (is_between (get_or text start 0)) (λ e.
    false≢true (sym c.loop-start-test.false ∙ c.stands_between.ensures.1 (h, e))) in
    next_last text c.args.from start v.order h begins v.same (rw (left_from text start) at c.in-None.ensures.none)

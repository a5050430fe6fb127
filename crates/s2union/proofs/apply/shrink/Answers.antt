use Rattle.std.proofs.Common.{◌≡◌, ◌≤◌, ◌<◌, ◌-◌, ◌+◌, ◌++◌, ◌∙◌, ℕ, List, ap, sym, arith, length, take, drop}
use Rattle.std.proofs.lemmas.List.{append_assoc, take-append-le, drop-drop, take_all, length-drop}
use Rattle.std.proofs.Math.Seq.{take-append-add, take-take, length-take-le}
use Rattle.s2union.proofs.apply.shrink.Goals as goal

-- a list of which the cells from an index on were moved down by one place, without the last
closed : {X : Type 0} (xs d ys q r : List X) (most m from to : ℕ) → d ≡ xs → from < length d → m + 1 ≡ length d →
    m ≤ most → to ≡ from + 1 → length ys ≡ length (take (length d - from) (drop from d)) →
    take (length (take (length d - from) (drop from d)) - 1) ys ≡ drop 1 (take (length d - from) (drop from d)) →
    take m (take most ((take from d ++ (ys ++ q)) ++ r)) ≡ take from xs ++ drop to xs
closed xs d ys q r most m from to same within count few next len moved =
    let tail : take (length d - from) (drop from d) ≡ drop from d =
    take_all (length d - from) (drop from d) (omega (arith, length-drop from d)) in
    let front : length (take from d) ≡ from = length-take-le from d (omega (arith, within)) in
    let all : length ys ≡ length d - from = len ∙ ap length tail ∙ length-drop from d in
    let cut : m ≡ length (take from d) + (length ys - 1) = omega (arith, front, all, count, within) in
    take-take m most _ few
    ∙ ap (take m) (append_assoc (take from d) (ys ++ q) r ∙ ap (λ l. take from d ++ l) (append_assoc ys q r))
    ∙ ap (λ i. take i (take from d ++ (ys ++ (q ++ r)))) cut
    ∙ take-append-add (take from d) (ys ++ (q ++ r)) (length ys - 1)
    ∙ ap (λ l. take from d ++ l) (take-append-le (length ys - 1) ys (q ++ r) (omega arith)
    ∙ ap (λ i. take (i - 1) ys) len ∙ moved ∙ ap (drop 1) tail ∙ drop-drop 1 from d)
    ∙ ap (λ l. take from l ++ drop (from + 1) l) same
    ∙ ap (λ i. take from xs ++ drop i xs) (sym next)

pub returns-then-to-from-eq1-clause-items : goal.returns-then-to-from-eq1-clause-items
returns-then-to-from-eq1-clause-items c =
    c.truncate.ensures.items
    ∙ closed c.args.list.now.items c.deref_mut.result.now c.move_down_by_one.new.cells _ _ c.args.list.now.len
    (c.len-len.result - 1) c.args.from c.args.to c.deref_mut.ensures.value
    (omega (arith, c.requires.order, c.requires.within, c.deref_mut.ensures.len))
    (omega (arith, c.requires.order, c.requires.within, c.deref_mut.ensures.len, c.len-len.ensures))
    (omega (arith, c.len-len.ensures)) (omega (arith, c.if-to-from-eq1.true, c.requires.order))
    c.move_down_by_one.ensures.len c.move_down_by_one.ensures.moved

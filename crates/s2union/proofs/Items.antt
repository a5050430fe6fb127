-- Where an iterator over the cells that a union is cut into is: at an item of one cell, before the other cells.
use Rattle.std.proofs.Common.{◌≡◌, ℕ, suc, ◌+◌, ◌-◌, ◌<◌, ◌≤◌, sym, ◌∙◌, ap, arith, List, [], ◌∷◌, ◌++◌}
use Rattle.std.proofs.Common.{length, get_or, drop, take, add-one, Bool, true, false}
use Rattle.std.specs.Bool.{◌==◌}
use Rattle.std.proofs.lemmas.Bool.Decides.{nat_tests}
use Rattle.std.proofs.Math.Seq.{drop-cons}
use Rattle.std.proofs.lemmas.List.{drop_all, take_all}
use Rattle.s2cell.specs.Cell.{level_of}
use Rattle.s2cell.specs.CutLevels.{cut_level, cells_in}
use Rattle.s2cell.proofs.CellLemmas.{four_pos}
use Rattle.s2cell.proofs.Cutting.{length-cells_in}
use Rattle.s2list.specs.Denorm.{denormalised}
use Rattle.s2list.proofs.Items.{denormalised-nil, denormalised-cons}

-- the next item of the cell
pub items_next : (items rest : List ℕ) (number item : ℕ) → number < length items → item ≡ get_or items number 0 →
    drop number items ++ rest ≡ item ∷ (drop (number + 1) items ++ rest)
items_next items rest number item h is =
    rw add-one (ap (λ l. l ++ rest) (drop-cons items number 0 h ∙ ap (λ x. x ∷ drop (suc number) items) (sym is)))

pub some_items : (t c : ℕ) → 0 < length (cells_in t c)
some_items t c =
    let len = length-cells_in t c in
    let pos = four_pos (t - level_of c) in
    omega arith

-- after the last, the first of the next cell
pub items_turn : (items cells : List ℕ) (least modulus number c item : ℕ) → length items ≤ number → 0 < length cells →
    c ≡ get_or cells 0 c → item ≡ get_or (cells_in (cut_level (level_of c) least modulus) c) 0 0 →
    drop number items ++ denormalised least modulus cells
    ≡ item ∷ (drop 1 (cells_in (cut_level (level_of c) least modulus) c)
    ++ denormalised least modulus (take (length cells - 1) (drop 1 cells)))
items_turn items [] least modulus number c item done some e0 is0 = absurd (omega arith)
items_turn items (b ∷ u) least modulus number c item done some e0 is0 =
    let e : c ≡ b = e0 in
    let t = cut_level (level_of b) least modulus in
    let is : item ≡ get_or (cells_in t b) 0 0 = rw (sym e) is0 in
    let rest : take (length (b ∷ u) - 1) (drop 1 (b ∷ u)) ≡ u =
    take_all (length (b ∷ u) - 1) u (omega arith) in
    rw (e, rest) (ap (λ l. l ++ denormalised least modulus (b ∷ u)) (drop_all number items done)
    ∙ denormalised-cons least modulus b u
    ∙ items_next (cells_in t b) (denormalised least modulus u) 0 item (some_items t b) is)

-- after the last cell, none
pub items_end : (items cells : List ℕ) (least modulus number : ℕ) → length items ≤ number → length cells ≡ 0 →
    drop number items ++ denormalised least modulus cells ≡ []
items_end items [] least modulus number done none =
    ap (λ l. l ++ denormalised least modulus []) (drop_all number items done) ∙ denormalised-nil least modulus
items_end items (b ∷ u) least modulus number done none = absurd (omega arith)

pub none_from_test : (n : ℕ) (r : Bool) → r ≡ (n == 0) → r ≡ true → n ≡ 0
none_from_test n r e t = grind (arith, nat_tests)

pub some_from_test : (n : ℕ) (r : Bool) → r ≡ (n == 0) → r ≡ false → 0 < n
some_from_test n r e t = grind (arith, nat_tests)

-- Known files and refused bytes.
use Rattle.std.proofs.Common.{◌≡◌, ℕ, ◌≤◌, ◌||◌, Bool, true, false, List, [], ◌∷◌, length, All, refl, sym}
use Rattle.std.proofs.Common.{◌∙◌, subst, lit<, lit≤, arith}
use Rattle.std.proofs.lemmas.List.Elements.{All-nil, All-cons}
use Rattle.std.specs.Int.Count.{count_trailing_zeros}
use Rattle.s2cell.specs.Cell.{IsCell, covers, level_of, place_of, child_of}
use Rattle.s2cell.proofs.CellLemmas.{face_of_cell, trailing_even}
use Rattle.s2list.specs.Union.{has_leaf}
use Rattle.s2list.specs.Packed.{IsFamily}
use Rattle.s2list.proofs.Packing.{family_covers}
use Rattle.s2file.specs.declared.union_file.TheConstants.{MOST_FILE}
use Rattle.s2file.specs.File.{File, file_text}
use Rattle.s2file.proofs.Texts.{text_is_file}

-- the text of identifiers is a file of a set
pub file_from_text : (ids bytes : List ℕ) (S : ℕ → Bool) → All IsCell ids → length ids ≤ MOST_FILE →
    file_text ids ≡ bytes → ((x : ℕ) → S x ≡ has_leaf ids x) → File bytes S
file_from_text ids bytes S cells most text leaves =
    subst (λ (b : List ℕ). File b S) text (text_is_file ids S cells most leaves)

pub face_0 : IsCell 0x1000_0000_0000_0000
face_0 = (0, 0, record { level = lit≤ tt; place = lit< tt; id = refl })

pub child_0 : IsCell 0x0400_0000_0000_0000
child_0 = (1, 0, record { level = lit≤ tt; place = lit< tt; id = refl })

pub child_1 : IsCell 0x0c00_0000_0000_0000
child_1 = (1, 1, record { level = lit≤ tt; place = lit< tt; id = refl })

pub child_2 : IsCell 0x1400_0000_0000_0000
child_2 = (1, 2, record { level = lit≤ tt; place = lit< tt; id = refl })

pub child_3 : IsCell 0x1c00_0000_0000_0000
child_3 = (1, 3, record { level = lit≤ tt; place = lit< tt; id = refl })

-- the identifiers of the files
abbrev pub face : List ℕ
face = 0x1000_0000_0000_0000 ∷ []

abbrev one_child : List ℕ
one_child = 0x0400_0000_0000_0000 ∷ []

abbrev one_child_doubled : List ℕ
one_child_doubled = 0x0400_0000_0000_0000 ∷ one_child

abbrev two_children : List ℕ
two_children = 0x0c00_0000_0000_0000 ∷ one_child

abbrev three_children : List ℕ
three_children = 0x1400_0000_0000_0000 ∷ two_children

abbrev pub doubled : List ℕ
doubled = 0x0c00_0000_0000_0000 ∷ one_child_doubled

abbrev pub four_children : List ℕ
four_children = 0x1c00_0000_0000_0000 ∷ three_children

pub no_cells : All IsCell []
no_cells = All-nil IsCell

pub face_cells : All IsCell face
face_cells = All-cons IsCell 0x1000_0000_0000_0000 [] face_0 no_cells

one_cell : All IsCell one_child
one_cell = All-cons IsCell 0x0400_0000_0000_0000 [] child_0 no_cells

pub doubled_cells : All IsCell doubled
doubled_cells =
    All-cons IsCell 0x0c00_0000_0000_0000 one_child_doubled child_1
    (All-cons IsCell 0x0400_0000_0000_0000 one_child child_0 one_cell)

two_cells : All IsCell two_children
two_cells = All-cons IsCell 0x0c00_0000_0000_0000 one_child child_1 one_cell

three_cells : All IsCell three_children
three_cells = All-cons IsCell 0x1400_0000_0000_0000 two_children child_2 two_cells

pub four_cells : All IsCell four_children
four_cells = All-cons IsCell 0x1c00_0000_0000_0000 three_children child_3 three_cells

-- the four children of the face 0
pub family : IsFamily 0x0400_0000_0000_0000 0x0c00_0000_0000_0000 0x1400_0000_0000_0000 0x1c00_0000_0000_0000
    0x1000_0000_0000_0000
unfolding level_of place_of child_of count_trailing_zeros
family = record { cell = face_0; inner = lit< tt; zero = refl; one = refl; two = refl; three = refl }

-- two of them, the second doubled and turned round
pub turned : (p q : Bool) → (p || (q || false)) ≡ (q || (p || (p || false)))
turned true true = refl
turned true false = refl
turned false true = refl
turned false false = refl

one_or_none : (p : Bool) → (p || false) ≡ p
one_or_none true = refl
one_or_none false = refl

-- four of them, the last one first
reversed : (a b c d : Bool) → (((a || b) || c) || d) ≡ (d || (c || (b || (a || false))))
reversed true true true true = refl
reversed true true true false = refl
reversed true true false true = refl
reversed true true false false = refl
reversed true false true true = refl
reversed true false true false = refl
reversed true false false true = refl
reversed true false false false = refl
reversed false true true true = refl
reversed false true true false = refl
reversed false true false true = refl
reversed false true false false = refl
reversed false false true true = refl
reversed false false true false = refl
reversed false false false true = refl
reversed false false false false = refl

pub siblings_leaves : (x : ℕ) → has_leaf face x ≡ has_leaf four_children x
siblings_leaves x =
    let a = covers 0x0400_0000_0000_0000 x in
    let b = covers 0x0c00_0000_0000_0000 x in
    let c = covers 0x1400_0000_0000_0000 x in
    let d = covers 0x1c00_0000_0000_0000 x in
    one_or_none (covers 0x1000_0000_0000_0000 x)
    ∙ sym (family_covers 0x0400_0000_0000_0000
    0x0c00_0000_0000_0000 0x1400_0000_0000_0000 0x1c00_0000_0000_0000 0x1000_0000_0000_0000 x family) ∙ reversed a b c d

-- numbers that are no identifier
zeros_of_0 : count_trailing_zeros 64 0 ≡ 64
unfolding count_trailing_zeros
zeros_of_0 = refl

pub zero_is_none : IsCell 0 → ⊥
zero_is_none i = let even = trailing_even 0 i in omega (arith, zeros_of_0, even.0)

zeros_of_odd_place : count_trailing_zeros 64 0x2000_0000_0000_0000 ≡ 61
unfolding count_trailing_zeros
zeros_of_odd_place = refl

pub odd_place_is_none : IsCell 0x2000_0000_0000_0000 → ⊥
odd_place_is_none i = let even = trailing_even 0x2000_0000_0000_0000 i in omega (arith, zeros_of_odd_place, even.0)

pub face_6_is_none : IsCell 0xd000_0000_0000_0000 → ⊥
face_6_is_none i = let face = face_of_cell 0xd000_0000_0000_0000 i in omega (arith, face)

-- The text of a list of identifiers, and that it reads back.
use Rattle.std.proofs.Common.{◌≡◌, ℕ, ◌+◌, ◌*◌, ◌^◌, ◌<◌, ◌≤◌, Bool, List, ◌∷◌, ◌++◌, length, take, slice_index, All}
use Rattle.std.proofs.Common.{flat_map, refl, sym, ap, ◌∙◌, subst, arith}
use Rattle.std.proofs.lemmas.List.{length-append, drop_at, ext_get_or, take_all}
use Rattle.std.proofs.lemmas.List.Elements.{All-get_or, All-weaker}
use Rattle.s2cell.specs.Cell.{IsCell}
use Rattle.s2cell.proofs.Calls.{fits_u64}
use Rattle.s2list.specs.Union.{has_leaf, IsLocal}
use Rattle.s2list.proofs.Normal.{normal_from_local, normal_form_same, one_normal_form}
use Rattle.s2list.specs.Numbers.{first_number, number_text}
use Rattle.s2list.proofs.Numbers.{first_number-number_text, length-number_text, drop-number_texts, length-number_texts}
use Rattle.s2file.specs.declared.union_file.TheConstants.{MOST_FILE}
use Rattle.s2file.specs.File.{Bytes, File, IsFramed, file_ids, file_text, stated_count}
use Rattle.s2file.specs.Numbers.{numbers_in}
use Rattle.s2file.proofs.Numbers.{get_or-numbers, length-numbers}

pub length-file_text : (ids : List ℕ) → length (file_text ids) ≡ 9 + 8 * length ids
length-file_text ids =
    let count = number_text (length ids) in
    omega (
      arith,
      length-append count (flat_map number_text ids),
      length-number_text (length ids),
      length-number_texts ids,
    )

count_of_text : (ids : List ℕ) → length ids < 2 ^ 64 → stated_count (file_text ids) ≡ length ids
count_of_text ids fits = first_number-number_text (length ids) (flat_map number_text ids) fits

pub text_framed : (ids : List ℕ) → length ids < 2 ^ 64 → IsFramed (file_text ids)
text_framed ids fits =
    let whole = length-file_text ids in
    let count = count_of_text ids fits in
    record {
      head = record {
        version = record { some = omega (arith, whole); version = refl };
        whole = omega (arith, whole);
      };
      length_is = omega (arith, whole, count);
    }

numbers_are : (ids : List ℕ) → All (λ n. n < 2 ^ 64) ids → numbers_in (flat_map number_text ids) ≡ ids
numbers_are ids fit =
    let texts = flat_map number_text ids in
    let count = length-numbers texts in
    let size = length-number_texts ids in
    ext_get_or 0 (numbers_in texts) ids (omega (arith, count, size))
    (λ i h.
    let within : i < length ids = omega (arith, count, size, h) in
    let piece = drop-number_texts ids i within in
    get_or-numbers texts i (omega (arith, count, h)) ∙ ap first_number piece.1
    ∙ first_number-number_text (slice_index ids i) piece.0 (All-get_or (λ n. n < 2 ^ 64) ids i 0 within fit))

-- the numbers of a list's file are the list
pub ids_of_text : (ids : List ℕ) → All (λ n. n < 2 ^ 64) ids → file_ids (file_text ids) ≡ ids
ids_of_text ids fit =
    ap numbers_in (drop_at (number_text (length ids)) (flat_map number_text ids) 8 (length-number_text (length ids)))
    ∙ numbers_are ids fit

-- the text of cells is a file of their leaves
pub text_is_file : (ids : List ℕ) (S : ℕ → Bool) → All IsCell ids → length ids ≤ MOST_FILE
    → ((x : ℕ) → S x ≡ has_leaf ids x) → File (file_text ids) S
text_is_file ids S cells most leaves =
    let fits : length ids < 2 ^ 64 = omega (arith, most) in
    let same = ids_of_text ids (All-weaker IsCell (λ n. n < 2 ^ 64) fits_u64 ids cells) in
    record {
      is = record { framed = text_framed ids fits; cells = subst (All IsCell) (sym same) cells };
      most = omega (arith, count_of_text ids fits, most);
      leaves = λ x. leaves x ∙ ap (λ l. has_leaf l x) (sym same);
    }

pub file_of_text : {u : List ℕ} (bytes : List ℕ) →
    IsLocal u → bytes ≡ file_text u → length u ≤ MOST_FILE → File bytes (has_leaf u)
file_of_text {u} bytes local e most = rw e (text_is_file u (has_leaf u) local.cells most (λ x. refl))

pub bytes_of_text : {u : List ℕ} (bytes : List ℕ) → IsLocal u → bytes ≡ file_text u → Bytes (has_leaf u) bytes
bytes_of_text {u} bytes local e = record { ids = u; normal = normal_from_local u local; is = e }

-- equal sets have equal bytes
pub same_bytes : (S T : ℕ → Bool) (bytes others : List ℕ) → ((x : ℕ) → S x ≡ T x) → Bytes S bytes →
    Bytes T others → bytes ≡ others
same_bytes S T bytes others same b c =
    let one : b.ids ≡ c.ids = one_normal_form T b.ids c.ids (normal_form_same S T b.ids same b.normal) c.normal in
    b.is ∙ ap file_text one ∙ sym c.is

-- the text that is written when no cell is left
pub text_whole : (xs u bytes : List ℕ) (i : ℕ) → xs ≡ u → length xs ≤ i →
    bytes ≡ 1 ∷ (number_text (length xs) ++ flat_map number_text (take i xs)) → bytes ≡ file_text u
text_whole xs u bytes i same done e =
    e ∙ ap (λ (l : List ℕ). 1 ∷ (number_text (length xs) ++ flat_map number_text l)) (take_all i xs done)
    ∙ ap file_text same

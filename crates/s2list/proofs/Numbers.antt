-- Numbers of eight bytes, one after the other.
use Rattle.std.proofs.Common.{◌≡◌, ℕ, zero, suc, ◌+◌, ◌*◌, ◌^◌, ◌<◌, ◌≤◌, List, [], ◌∷◌, ◌++◌}
use Rattle.std.proofs.Common.{length, drop, slice_index, flat_map, refl, sym, ap, ◌∙◌, arith}
use Rattle.std.proofs.lemmas.List.{length-append, drop-drop, drop_at, get_or_append_left}
use Rattle.byteorder.specs.Endian.{little_bytes, little_number}
use Rattle.byteorder.specs.Numbers.{length-bytes_low_first, little_number-reads_back}
use Rattle.s2list.specs.Numbers.{weighed, first_number, number_text}

weighed-append : (n : ℕ) (chunk more : List ℕ) → n ≤ length chunk → weighed n (chunk ++ more) ≡ weighed n chunk
weighed-append zero chunk more h = refl
weighed-append (suc n) chunk more h = rw (
  weighed-append n chunk more (omega arith),
  get_or_append_left chunk more 0 n (omega arith),
) refl

-- the number of the first eight bytes needs no others
pub first_number-longer : (xs more : List ℕ) → 8 ≤ length xs → first_number (xs ++ more) ≡ first_number xs
unfolding first_number
first_number-longer xs more h = weighed-append 8 xs more h

pub first_number-append : (chunk more : List ℕ) → length chunk ≡ 8 → first_number (chunk ++ more) ≡ first_number chunk
unfolding first_number
first_number-append chunk more h = weighed-append 8 chunk more (omega arith)

-- the bytes of a number stand for it
pub first_number-number_text : (x : ℕ) (rest : List ℕ) → x < 2 ^ 64 → first_number (number_text x ++ rest) ≡ x
unfolding first_number number_text
first_number-number_text x rest h =
    let back : little_number 8 (little_bytes 8 x ++ rest) ≡ x = little_number-reads_back 8 x rest (omega arith) in
    omega (arith, back)

pub length-number_text : (x : ℕ) → length (number_text x) ≡ 8
unfolding number_text
length-number_text x = length-bytes_low_first 0 8 x

-- the number with the place `i`, and what follows it
pub drop-number_texts : (ids : List ℕ) (i : ℕ) → i < length ids
    → (rest : List ℕ) × (drop (8 * i) (flat_map number_text ids) ≡ number_text (slice_index ids i) ++ rest)
drop-number_texts [] i h = absurd (omega arith)
drop-number_texts (x ∷ xs) zero h = (flat_map number_text xs, refl)
drop-number_texts (x ∷ xs) (suc i) h =
    let more = drop-number_texts xs i (omega arith) in
    let text = number_text x in
    let rest = flat_map number_text xs in
    let step : 8 * suc i ≡ 8 + 8 * i = omega arith in
    let after : drop (8 * suc i) (text ++ rest) ≡ drop (8 * i) rest =
    ap (λ (k : ℕ). drop k (text ++ rest)) step ∙ sym (drop-drop (8 * i) 8 (text ++ rest))
    ∙ ap (drop (8 * i)) (drop_at text rest 8 (length-number_text x)) in
    (more.0, after ∙ more.1)

pub length-number_texts : (ids : List ℕ) → length (flat_map number_text ids) ≡ 8 * length ids
length-number_texts [] = refl
length-number_texts (x ∷ xs) =
    let more = length-number_texts xs in omega (
      arith,
      length-append (number_text x) (flat_map number_text xs),
      length-number_text x,
    )

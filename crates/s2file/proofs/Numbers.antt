-- The numbers in bytes, by their places.
use Rattle.std.proofs.Common.{◌≡◌, ℕ, ◌*◌, ◌/◌, ◌<◌, ◌∙◌, sym, arith, List, length, get_or, drop}
use Rattle.std.proofs.lemmas.List.FromFn.{get_or-map-range_with_len, length-map-range_with_len}
use Rattle.std.proofs.lemmas.List.{ext_get_or}
use Rattle.byteorder.specs.Endian.{IsRead, little_number}
use Rattle.s2list.specs.Numbers.{first_number}
use Rattle.s2file.specs.Numbers.{number_in, numbers_in}

pub length-numbers : (bytes : List ℕ) → length (numbers_in bytes) ≡ length bytes / 8
unfolding numbers_in
length-numbers bytes = length-map-range_with_len (number_in bytes) 0 (length bytes / 8)

pub get_or-numbers : (bytes : List ℕ) (k : ℕ) → k < length bytes / 8 → get_or (numbers_in bytes) k 0 ≡ number_in bytes k
unfolding numbers_in
get_or-numbers bytes k h = get_or-map-range_with_len (number_in bytes) 0 (length bytes / 8) k k 0 h (omega arith)

same_number : (bytes : List ℕ) → little_number 8 bytes ≡ first_number bytes
unfolding first_number
same_number bytes = omega arith

-- a list that was read from all bytes has their numbers
pub read_all : (bytes out : List ℕ) → length bytes ≡ 8 * length out → IsRead little_number 8 bytes out →
    out ≡ numbers_in bytes
read_all bytes out all read =
    let len = length-numbers bytes in
    ext_get_or 0 out (numbers_in bytes) (omega arith)
    (λ k h. read k h ∙ same_number (drop (8 * k) bytes) ∙ sym (get_or-numbers bytes k (omega arith)))

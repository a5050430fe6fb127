-- Names of files are text.
use Rattle.std.proofs.Common.{◌≡◌, ℕ, ◌<◌, List, [], ◌∷◌, Bool, true, false, ◌&&◌, refl, arith, cond, None, Some}
use Rattle.std.proofs.Common.{length, slice_index, nat_le}
use Rattle.std.proofs.lemmas.Bool.{false≢true}
use Rattle.std.proofs.lemmas.Bool.Decides.{nat_tests}
use Rattle.std.proofs.lemmas.Str.{IsUtf8-from_ascii}
use Rattle.std.proofs.lemmas.Str.Ascii.{IsAscii-nil, IsAscii-cons}
use Rattle.std.specs.Str.{IsAscii, IsUtf8}
use Rattle.std.specs.List.{list_all}
use Rattle.s2script.specs.FileName.{is_name_byte, is_first_byte, is_name, name_of_word}

is_ascii : (b : ℕ) → is_name_byte b ≡ true → b < 128
is_ascii b e = grind (arith, nat_tests)

both : (a b : Bool) → (a && b) ≡ true → (a ≡ true) × (b ≡ true)
both true b e = (refl, e)
both false b e = absurd (false≢true e)

all_ascii : (bs : List ℕ) → list_all is_name_byte bs ≡ true → IsAscii bs
all_ascii [] e = IsAscii-nil
all_ascii (b ∷ bs) e = let p = both (is_name_byte b) (list_all is_name_byte bs) e in
    IsAscii-cons b bs (is_ascii b p.0) (all_ascii bs p.1)

none_unless : (b : Bool) (word : List ℕ) → (b ≡ true → ⊥) → cond b (Some word) None ≡ None
none_unless true word h = absurd (h refl)
none_unless false word h = refl

utf8_name : (word : List ℕ) → is_name word ≡ true → IsUtf8 word
utf8_name word e =
    let p = both (nat_le 1 (length word)) (nat_le (length word) 64
    && (is_first_byte (slice_index word 0) && list_all is_name_byte word)) e in
    let q = both (nat_le (length word) 64) (is_first_byte (slice_index word 0) && list_all is_name_byte word) p.1 in
    let r = both (is_first_byte (slice_index word 0)) (list_all is_name_byte word) q.1 in
    IsUtf8-from_ascii word (all_ascii word r.1)

-- what is no text is no name
pub not_utf8 : (word : List ℕ) → (IsUtf8 word → ⊥) → name_of_word word ≡ None
not_utf8 word h = none_unless (is_name word) word (λ e. h (utf8_name word e))

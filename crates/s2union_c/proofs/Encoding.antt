-- How the bytes of a file are written.
use Rattle.std.proofs.Common.{◌≡◌, ℕ, ◌+◌, ◌-◌, ◌*◌, ap, ◌∙◌, arith, List, [], ◌∷◌, ◌++◌, length}
use Rattle.std.proofs.Common.{drop, take, flat_map}
use Rattle.std.proofs.Math.ListN.{set}
use Rattle.std.proofs.lemmas.List.{append-nil, drop_all, length-drop, take_at}
use borrow.Rule.Slice.PartMut.{put_mid}
use Rattle.s2list.specs.Numbers.{number_text}
use Rattle.s2list.proofs.Numbers.{length-number_text}
use Rattle.s2file.specs.File.{file_text}

-- a version, a count and numbers that are written one after the other
pub file_written : (ids old buf rest dst : List ℕ) → length old ≡ 9 + 8 * length ids
    → buf ≡ number_text (length ids) ++ rest → length buf + 1 ≡ length old → dst ≡ flat_map number_text ids
    → (m : List ℕ) → m ≡ put_mid 1 (length (set old 0 1) - 1) (set old 0 1) buf
    → put_mid 9 (length m - 9) m dst ≡ file_text ids
file_written ids [] buf rest dst size count same cells m is = absurd (omega arith)
file_written ids (b ∷ bs) buf rest dst size count same cells m is =
    let none : drop (length (1 ∷ bs) - 1) bs ≡ [] = drop_all (length (1 ∷ bs) - 1) bs (omega arith) in
    let whole : m ≡ 1 ∷ buf = is ∙ ap (λ x. 1 ∷ (buf ++ x)) none ∙ ap (λ x. 1 ∷ x) (append-nil buf) in
    let head : take 8 buf ≡ number_text (length ids) = ap (take 8) count
    ∙ take_at (number_text (length ids)) rest 8 (length-number_text (length ids)) in
    let cut = length-drop 9 (1 ∷ buf) in
    let left : drop (length (1 ∷ buf) - 9) (drop 9 (1 ∷ buf)) ≡ [] =
    drop_all (length (1 ∷ buf) - 9) (drop 9 (1 ∷ buf)) (omega arith) in
    ap (λ x. put_mid 9 (length x - 9) x dst) whole
    ∙ ap (λ x. 1 ∷ (take 8 buf ++ (dst ++ x))) left
    ∙ ap (λ x. 1 ∷ (x ++ (dst ++ []))) head
    ∙ ap (λ x. 1 ∷ (number_text (length ids) ++ x)) (append-nil dst ∙ cells)

-- Files, and what is wrong with other bytes.
use Rattle.std.proofs.Common.{Result, Ok, Err, ◌≡◌, ◌≢◌, ℕ, ◌+◌, ◌*◌, ◌≤◌, inl, inr, All, Bool, List}
use Rattle.std.proofs.Common.{length, drop, refl, sym, ap, ◌∙◌, subst, arith}
use Rattle.std.specs.Prelude.{MatchResult}
use Rattle.std.proofs.lemmas.List.{length-drop}
use Rattle.std.proofs.lemmas.List.Elements.{All-get_or}
use Rattle.s2cell.specs.Cell.{IsCell}
use Rattle.s2list.specs.Union.{Union, has_leaf}
use Rattle.s2file.specs.declared.fault.FileFault.{FileFault}
use Rattle.s2file.specs.declared.fault.FileFault.TheVariants.{Version, Count, Short, Trailing, Cell, Memory}
use Rattle.s2file.specs.File.{stated_count, file_ids, File, HasFault, HasFrame, HasFrameFault, HasHead}
use Rattle.s2file.specs.File.{IsFramed, IsOtherVersion, IsShortFile}
use Rattle.s2file.specs.Numbers.{numbers_in}
use Rattle.s2file.proofs.Numbers.{length-numbers}

-- there are as many numbers as the head states
pub length-file_ids : (bytes : List ℕ) → IsFramed bytes → length (file_ids bytes) ≡ stated_count bytes
length-file_ids bytes f =
    let whole = f.length_is in
    let left = length-drop 9 bytes in
    let count = length-numbers (drop 9 bytes) in
    omega (arith, whole, left, count)

-- cells that were read after a whole frame are those of the file
pub file_from_cells : {bytes numbers : List ℕ} (ids cells : List ℕ) → HasFrame bytes → numbers ≡ drop 9 bytes
    → ids ≡ numbers_in numbers → All IsCell (numbers_in numbers)
    → ((x : ℕ) → has_leaf cells x ≡ has_leaf ids x) → File bytes (has_leaf cells)
file_from_cells {bytes} {numbers} ids cells frame same read all leaves =
    let one : numbers_in numbers ≡ file_ids bytes = ap numbers_in same in
    record {
      is = record { framed = frame.framed; cells = subst (All IsCell) one all };
      most = frame.most;
      leaves = λ x. leaves x ∙ ap (λ l. has_leaf l x) (read ∙ one);
    }

pub same_leaves : (bytes : List ℕ) (S T : ℕ → Bool) → File bytes S → File bytes T → (x : ℕ) → S x ≡ T x
same_leaves bytes S T f g x = f.leaves x ∙ sym (g.leaves x)

-- bytes that end too early don't begin with another byte than 1
short_begins : (bytes : List ℕ) → IsShortFile bytes → IsOtherVersion bytes → ⊥
short_begins bytes h version = elim h [
  | inl none ↦ absurd (omega (arith, version.0))
  | inr more ↦ elim more [
    | inl head ↦ version.1 head.0.version
    | inr tail ↦ version.1 tail.0.version.version
  ]
]

-- nor have they as many as they state
short_ends : (bytes : List ℕ) → IsShortFile bytes → HasHead bytes → 9 + 8 * stated_count bytes ≤ length bytes → ⊥
short_ends bytes h head enough = elim h [
  | inl none ↦ absurd (omega (arith, enough))
  | inr more ↦ elim more [
    | inl cut ↦ absurd (omega (arith, cut.1, head.whole))
    | inr tail ↦ absurd (omega (arith, tail.1, enough))
  ]
]

-- a whole frame has no fault
pub not_framed : (bytes : List ℕ) (fault : FileFault) → IsFramed bytes → HasFrameFault bytes fault → ⊥
not_framed bytes Version f h = h.1 f.head.version.version
not_framed bytes Short f h = short_ends bytes h f.head (omega (arith, f.length_is))
not_framed bytes Trailing f h = absurd (omega (arith, f.length_is, h.1))
not_framed bytes Count f h = h
not_framed bytes Cell f h = h
not_framed bytes Memory f h = h

-- and no frame has two
pub one_frame_fault : (bytes : List ℕ) (fault other : FileFault) → HasFrameFault bytes fault →
    HasFrameFault bytes other → fault ≡ other
one_frame_fault bytes Version Version h g = refl
one_frame_fault bytes Version Short h g = absurd (short_begins bytes g h)
one_frame_fault bytes Version Trailing h g = absurd (h.1 g.0.version.version)
one_frame_fault bytes Short Version h g = absurd (short_begins bytes h g)
one_frame_fault bytes Short Short h g = refl
one_frame_fault bytes Short Trailing h g = absurd (short_ends bytes h g.0 (omega (arith, g.1)))
one_frame_fault bytes Trailing Version h g = absurd (g.1 h.0.version.version)
one_frame_fault bytes Trailing Short h g = absurd (short_ends bytes g h.0 (omega (arith, h.1)))
one_frame_fault bytes Trailing Trailing h g = refl
one_frame_fault bytes fault Count h g = absurd g
one_frame_fault bytes fault Cell h g = absurd g
one_frame_fault bytes fault Memory h g = absurd g
one_frame_fault bytes Count other h g = absurd h
one_frame_fault bytes Cell other h g = absurd h
one_frame_fault bytes Memory other h g = absurd h

-- a file has no fault
pub no_fault : (bytes : List ℕ) (S : ℕ → Bool) (fault : FileFault) → File bytes S → HasFault bytes fault
    → fault ≡ Memory
no_fault bytes S Version f h = absurd (not_framed bytes Version f.is.framed h)
no_fault bytes S Count f h = absurd (omega (arith, f.most, h.1))
no_fault bytes S Short f h = absurd (not_framed bytes Short f.is.framed h.0)
no_fault bytes S Trailing f h = absurd (not_framed bytes Trailing f.is.framed h.0)
no_fault bytes S Cell f h =
    let found = h.1 in
    absurd (found.wrong (All-get_or IsCell (file_ids bytes) found.place 0 found.within f.is.cells))
no_fault bytes S Memory f h = refl

-- two checks don't both fail first
pub one_fault : (bytes : List ℕ) (fault other : FileFault) → HasFault bytes fault → HasFault bytes other →
    fault ≢ Memory → other ≢ Memory → fault ≡ other
one_fault bytes Memory other h g m n = absurd (m refl)
one_fault bytes Version Memory h g m n = absurd (n refl)
one_fault bytes Version Version h g m n = refl
one_fault bytes Version Count h g m n = absurd (h.1 g.0.version.version)
one_fault bytes Version Short h g m n = one_frame_fault bytes Version Short h g.0
one_fault bytes Version Trailing h g m n = one_frame_fault bytes Version Trailing h g.0
one_fault bytes Version Cell h g m n = absurd (not_framed bytes Version g.0.framed h)
one_fault bytes Count Memory h g m n = absurd (n refl)
one_fault bytes Count Version h g m n = absurd (g.1 h.0.version.version)
one_fault bytes Count Count h g m n = refl
one_fault bytes Count Short h g m n = absurd (omega (arith, h.1, g.1 h.0))
one_fault bytes Count Trailing h g m n = absurd (omega (arith, h.1, g.1))
one_fault bytes Count Cell h g m n = absurd (omega (arith, h.1, g.0.most))
one_fault bytes Short Memory h g m n = absurd (n refl)
one_fault bytes Short Version h g m n = one_frame_fault bytes Short Version h.0 g
one_fault bytes Short Count h g m n = absurd (omega (arith, g.1, h.1 g.0))
one_fault bytes Short Short h g m n = refl
one_fault bytes Short Trailing h g m n = one_frame_fault bytes Short Trailing h.0 g.0
one_fault bytes Short Cell h g m n = absurd (not_framed bytes Short g.0.framed h.0)
one_fault bytes Trailing Memory h g m n = absurd (n refl)
one_fault bytes Trailing Version h g m n = one_frame_fault bytes Trailing Version h.0 g
one_fault bytes Trailing Count h g m n = absurd (omega (arith, g.1, h.1))
one_fault bytes Trailing Short h g m n = one_frame_fault bytes Trailing Short h.0 g.0
one_fault bytes Trailing Trailing h g m n = refl
one_fault bytes Trailing Cell h g m n = absurd (not_framed bytes Trailing g.0.framed h.0)
one_fault bytes Cell Memory h g m n = absurd (n refl)
one_fault bytes Cell Version h g m n = absurd (not_framed bytes Version h.0.framed g)
one_fault bytes Cell Count h g m n = absurd (omega (arith, g.1, h.0.most))
one_fault bytes Cell Short h g m n = absurd (not_framed bytes Short h.0.framed g.0)
one_fault bytes Cell Trailing h g m n = absurd (not_framed bytes Trailing h.0.framed g.0)
one_fault bytes Cell Cell h g m n = refl

-- an answer that is right for the bytes is the one for each set whose file they are
pub exact_answer : {bytes : List ℕ} (r : Result Union FileFault) →
    MatchResult r (λ u. File bytes (has_leaf u.cells)) (HasFault bytes) →
    (S : ℕ → Bool) → File bytes S → MatchResult r (λ u. (x : ℕ) → has_leaf u.cells x ≡ S x) (λ fault. fault ≡ Memory)
exact_answer {bytes} (Ok u) answer S file = λ x. same_leaves bytes (has_leaf u.cells) S answer file x
exact_answer {bytes} (Err fault) answer S file = no_fault bytes S fault file answer

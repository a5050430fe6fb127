-- Bytes that are longer than any file.
use Rattle.std.proofs.Common.{◌≡◌, ◌≢◌, ℕ, ◌<◌, ◌≤◌, ◌⊎◌, ⊎_elim, inl, inr, Bool, List, [], ◌∷◌}
use Rattle.std.proofs.Common.{◌++◌, length, take, drop, slice_index, refl, sym, ◌∙◌, subst, arith}
use Rattle.std.proofs.lemmas.List.{length-append, length-take-le, take_all, take-append-drop, get_or_append_left}
use Rattle.std.proofs.lemmas.Bool.Decides.{leb_tells}
use Rattle.s2list.proofs.Numbers.{first_number-longer}
use Rattle.s2file.specs.declared.union_file.TheConstants.{MOST_SIZE}
use Rattle.s2file.specs.declared.fault.FileFault.{FileFault}
use Rattle.s2file.specs.declared.fault.FileFault.TheVariants.{Version, Count, Short, Trailing, Cell, Memory}
use Rattle.s2file.specs.File.{stated_count, File, HasVersion, HasHead, HasFault}

pub longest : (bytes : List ℕ) (S : ℕ → Bool) → File bytes S → length bytes ≤ MOST_SIZE
longest bytes S f = omega (arith, f.is.framed.length_is, f.most)

-- ---- what more bytes leave

first-longer : (xs ys : List ℕ) → MOST_SIZE < length xs → slice_index (xs ++ ys) 0 ≡ slice_index xs 0
first-longer xs ys h = get_or_append_left xs ys 0 0 (omega arith)

stated-longer : (xs ys : List ℕ) → MOST_SIZE < length xs → stated_count (xs ++ ys) ≡ stated_count xs
stated-longer [] ys h = absurd (omega arith)
stated-longer (x ∷ xs) ys h = first_number-longer xs ys (omega arith)

longer : (xs ys : List ℕ) → length xs ≤ length (xs ++ ys)
longer xs ys = omega (arith, length-append xs ys)

version-longer : {xs : List ℕ} (ys : List ℕ) → MOST_SIZE < length xs → HasVersion xs → HasVersion (xs ++ ys)
version-longer {xs} ys h v = record { some = omega (arith, longer xs ys); version = first-longer xs ys h ∙ v.version }

head-longer : {xs : List ℕ} (ys : List ℕ) → MOST_SIZE < length xs → HasHead xs → HasHead (xs ++ ys)
head-longer {xs} ys h v = record { version = version-longer ys h v.version; whole = omega (arith, longer xs ys) }

-- they are too long for the last checks, and not too short
fault-longer : (xs ys : List ℕ) (fault : FileFault) → MOST_SIZE < length xs → fault ≢ Memory → HasFault xs fault →
    HasFault (xs ++ ys) fault
fault-longer xs ys Version h n f = (omega (arith, longer xs ys), λ e. f.1 (sym (first-longer xs ys h) ∙ e))
fault-longer xs ys Count h n f = (head-longer ys h f.0, omega (arith, f.1, stated-longer xs ys h))
fault-longer xs ys Trailing h n f = (
  (head-longer ys h f.0.0, omega (arith, f.1, stated-longer xs ys h, longer xs ys)),
  omega (arith, f.1, stated-longer xs ys h),
)
fault-longer xs ys Short h n (inl none, few) = absurd (omega (arith, none))
fault-longer xs ys Short h n (inr (inl head), few) = absurd (omega (arith, head.1))
fault-longer xs ys Short h n (inr (inr tail), few) = absurd (omega (arith, few tail.0, tail.1))
fault-longer xs ys Cell h n f = absurd (omega (arith, f.0.framed.length_is, f.0.most))
fault-longer xs ys Memory h n f = absurd (n refl)

-- ---- beginnings

-- all there is, or that many bytes of it
pub all_or_more : (bytes : List ℕ) (n : ℕ) → (take n bytes ≡ bytes) ⊎ (length (take n bytes) ≡ n)
all_or_more bytes n = ⊎_elim (λ h. inl (take_all n bytes h.1))
    (λ h. inr (length-take-le n bytes (omega (arith, h.1)))) (leb_tells (length bytes) n)

pub file_begins : (bytes : List ℕ) (n : ℕ) (S : ℕ → Bool) → MOST_SIZE < n → File (take n bytes) S → File bytes S
file_begins bytes n S h f =
    ⊎_elim (λ e. subst (λ b. File b S) e f) (λ e. absurd (omega (arith, h, e, longest (take n bytes) S f)))
    (all_or_more bytes n)

pub fault_begins : (bytes : List ℕ) (n : ℕ) (fault : FileFault) → MOST_SIZE < n → fault ≢ Memory →
    HasFault (take n bytes) fault → HasFault bytes fault
fault_begins bytes n fault h m f =
    ⊎_elim (λ e. subst (λ b. HasFault b fault) e f)
    (λ e. subst (λ b. HasFault b fault) (take-append-drop n bytes)
    (fault-longer (take n bytes) (drop n bytes) fault (omega (arith, h, e)) m f)) (all_or_more bytes n)

-- Lemmas on the lines of a script.
use Rattle.std.proofs.Common.{◌≡◌, ℕ, suc, ◌+◌, ◌-◌, ◌≤◌, min, zero, List, [], ◌∷◌, ◌++◌, length, take}
use Rattle.std.proofs.Common.{Bool, true, false, eqb, refl, sym, ap, ◌∙◌, append_assoc, append-nil, arith}
use Rattle.std.proofs.lemmas.Bool.{eqb-true}
use Rattle.std.proofs.lemmas.Grind.{common_steps}
use Rattle.std.proofs.lemmas.List.{take_min}
use Rattle.std.proofs.Math.Seq.{take-append-add}
use Rattle.std.proofs.lemmas.List.Concat.{flat_map-append}
use Rattle.std.proofs.lemmas.List.Splits.{slice_split-cons_no}
use Rattle.std.specs.List.{AllByRecursion, onto_first}
use Rattle.s2script.specs.Lines.{pieces, but_last, last_piece, whole_lines, unended, last_line, lines, ended}
use Rattle.s2script.specs.Lines.{IsUnbroken, BeginsWith}

pub every-append : {X : Type 0} (P : X → Type 0) (xs ys : List X) → AllByRecursion P xs → AllByRecursion P ys →
    AllByRecursion P (xs ++ ys)
every-append P [] ys p q = q
every-append P (x ∷ xs) ys p q = (p.0, every-append P xs ys p.1 q)

-- more bytes go to the rest
pub BeginsWith-more : (script : List ℕ) (done : List (List ℕ)) (rest bytes : List ℕ) →
    BeginsWith script done rest → BeginsWith (script ++ bytes) done (rest ++ bytes)
BeginsWith-more script done rest bytes b =
    record { bytes_are = ap (λ s. s ++ bytes) b.bytes_are ∙ append_assoc (ended done) rest bytes; each = b.each }

-- a newline makes the rest a line
pub BeginsWith-line : (script : List ℕ) (done : List (List ℕ)) (rest : List ℕ) → BeginsWith script done rest →
    IsUnbroken rest → BeginsWith (script ++ 10 ∷ []) (done ++ rest ∷ []) []
BeginsWith-line script done rest b u =
    record {
      bytes_are = ap (λ s. s ++ 10 ∷ []) b.bytes_are ∙ append_assoc (ended done) rest (10 ∷ [])
          ∙ ap (λ s. ended done ++ s) (sym (append-nil (rest ++ 10 ∷ [])))
          ∙ sym (flat_map-append (λ line. line ++ 10 ∷ []) done (rest ∷ [])) ∙ sym (append-nil _);
      each = every-append IsUnbroken done (rest ∷ []) b.each (u, tt);
    }

pieces_unbroken : (line : List ℕ) → IsUnbroken line → pieces line ≡ line ∷ []
pieces_unbroken [] u = refl
pieces_unbroken (b ∷ bs) u = slice_split-cons_no (λ x. eqb x 10) b bs u.0 ∙ ap (onto_first b) (pieces_unbroken bs u.1)

pub pieces_line : (line more : List ℕ) → IsUnbroken line → pieces (line ++ 10 ∷ more) ≡ line ∷ pieces more
pieces_line [] more u = refl
pieces_line (b ∷ bs) more u = slice_split-cons_no (λ x. eqb x 10) b (bs ++ 10 ∷ more) u.0
    ∙ ap (onto_first b) (pieces_line bs more u.1)

pieces_ended : (done : List (List ℕ)) (rest : List ℕ) → AllByRecursion IsUnbroken done → IsUnbroken rest →
    pieces (ended done ++ rest) ≡ done ++ rest ∷ []
pieces_ended [] rest e u = pieces_unbroken rest u
pieces_ended (line ∷ done) rest e u =
    ap pieces (append_assoc (line ++ 10 ∷ []) (ended done) rest ∙ append_assoc line (10 ∷ []) (ended done ++ rest))
    ∙ pieces_line line (ended done ++ rest) e.0 ∙ ap (λ ls. line ∷ ls) (pieces_ended done rest e.1 u)

pub pieces_begun : (script : List ℕ) (done : List (List ℕ)) (rest : List ℕ) → BeginsWith script done rest →
    IsUnbroken rest → pieces script ≡ done ++ rest ∷ []
pieces_begun script done rest b u = ap pieces b.bytes_are ∙ pieces_ended done rest b.each u

pub but_last-append : {X : Type 0} (xs : List X) (x : X) → but_last (xs ++ x ∷ []) ≡ xs
but_last-append xs x = grind (arith, common_steps)

last_piece-append : (xs : List (List ℕ)) (x : List ℕ) → last_piece (xs ++ x ∷ []) ≡ x
last_piece-append [] x = refl
last_piece-append (y ∷ []) x = refl
last_piece-append (y ∷ z ∷ ys) x = last_piece-append (z ∷ ys) x

-- the lines that were carried out are those that a newline ends
pub whole_lines_begun : (script : List ℕ) (done : List (List ℕ)) (rest : List ℕ) → BeginsWith script done rest →
    IsUnbroken rest → whole_lines script ≡ done
whole_lines_begun script done rest b u = ap but_last (pieces_begun script done rest b u) ∙ but_last-append done rest

pub lines_begun : (script : List ℕ) (done : List (List ℕ)) (rest : List ℕ) → BeginsWith script done rest →
    IsUnbroken rest → lines script ≡ done ++ last_line rest
lines_begun script done rest b u =
    let whole = whole_lines_begun script done rest b u in
    let left : unended script ≡ rest = ap last_piece (pieces_begun script done rest b u)
    ∙ last_piece-append done rest in
    cc

-- what has room for n bytes keeps the first n
pub kept_first : (old more : List ℕ) (n fit : ℕ) → length old ≤ n → fit ≡ min (length more) (n - length old) →
    old ++ take fit more ≡ take n (old ++ more)
kept_first old more n fit h f =
    let swapped : fit ≡ min (n - length old) (length more) = omega arith in
    let whole : length old + (n - length old) ≡ n = omega arith in
    ap (λ k. old ++ take k more) swapped ∙ ap (λ s. old ++ s) (take_min (n - length old) more)
    ∙ sym (take-append-add old more (n - length old)) ∙ ap (λ m. take m (old ++ more)) whole

-- keeping the beginning of a beginning
pub kept_more : (rest more : List ℕ) (n : ℕ) → take n (take n rest ++ more) ≡ take n (rest ++ more)
kept_more rest more zero = refl
kept_more [] more (suc n) = refl
kept_more (b ∷ rest) more (suc n) = ap (λ s. b ∷ s) (kept_more rest more n)

-- each script begins with some whole lines
abbrev pub Cut : List ℕ → Type 0
Cut script = (done : List (List ℕ)) × (rest : List ℕ) × BeginsWith script done rest × IsUnbroken rest

cut_after : (b : ℕ) (bs : List ℕ) → Cut bs → (is : Bool) → eqb b 10 ≡ is → Cut (b ∷ bs)
cut_after b bs (done, rest, begins, u) true e =
    let is = ap (λ n. n ∷ bs) (eqb-true b 10 e) ∙ ap (λ s. 10 ∷ s) begins.bytes_are in
    ([] ∷ done, rest, record { bytes_are = is; each = (tt, begins.each) }, u)
cut_after b bs ([], rest, begins, u) false e =
    ([], b ∷ rest, record { bytes_are = ap (λ s. b ∷ s) begins.bytes_are; each = tt }, (e, u))
cut_after b bs (line ∷ done, rest, begins, u) false e = (
  (b ∷ line) ∷ done,
  rest,
  record { bytes_are = ap (λ s. b ∷ s) begins.bytes_are; each = ((e, begins.each.0), begins.each.1) },
  u,
)

pub cut : (script : List ℕ) → Cut script
cut [] = ([], [], record { bytes_are = refl; each = tt }, tt)
cut (b ∷ bs) = cut_after b bs (cut bs) (eqb b 10) refl

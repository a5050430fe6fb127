-- The parts of a session file while they are read.
use Rattle.std.proofs.Common.{◌≡◌, ◌↔◌, Bool, true, false, IsTrue, ℕ, suc, ◌+◌, ◌*◌, ◌<◌, ◌≤◌}
use Rattle.std.proofs.Common.{◌^◌, List, [], ◌∷◌, ◌++◌, length, take, drop, get_or, All, flat_map, inl, inr}
use Rattle.std.proofs.Common.{sym, ap, ◌∙◌, subst, append_assoc, arith}
use Rattle.std.proofs.lemmas.List.{length-append, length-take, get_or-take, get_or_past, get_or_append_left}
use Rattle.std.proofs.lemmas.List.{take-append-drop, append-nil}
use Rattle.std.proofs.lemmas.Bool.{cases_lt, true≢false, false≢true}
use Rattle.std.proofs.lemmas.List.Elements.{All-push}
use Rattle.std.proofs.lemmas.Grind.{flat_map-append}
use Rattle.std.proofs.lemmas.Nat.{le_bytes_8}
use Rattle.s2cell.specs.Cell.{IsCell}
use Rattle.s2list.specs.Union.{IsLocal}
use Rattle.s2list.specs.Numbers.{first_number, number_text}
use Rattle.s2list.proofs.Numbers.{length-number_text, first_number-append, length-number_texts}
use Rattle.s2edit.specs.declared.TheConstants.{SESSION_CELLS}
use Rattle.s2session.specs.Session.{list_text}
use Rattle.s2edit.specs.Content.{AreCells, IsRegisterList}
use Rattle.s2session.specs.Working.SessionParts.{Begins, BeginsNone, IsNumber, identifiers_text, AreCounted, SpellsMore}
use Rattle.s2session.specs.Working.SessionParts.{SpellsWrong}
use Rattle.s2session.proofs.Fronts.{one_number, one_list, register_cells, list_count}
use Rattle.s2session.specs.declared.fault.ReadFault.{ReadFault}
use Rattle.s2session.specs.declared.fault.ReadFault.TheVariants.{Form, Device, Memory}
use Rattle.s2session.specs.Working.Taking.{Refuses}

pub refuses : (fault : ReadFault) (P Q : Type 0) → (P → Q) → Refuses fault P → Refuses fault Q
refuses Form P Q f h = f h
refuses Device P Q f h = tt
refuses Memory P Q f h = tt

-- a test that fails
pub not_test : (b : Bool) (P : Type 0) → IsTrue b ↔ P → b ≡ false → P → ⊥
not_test true P i e p = absurd (true≢false e)
not_test false P i e p = absurd (false≢true (i.1 p))

-- eight bytes are the only ones with their number
number_back : (front : List ℕ) → length front ≡ 8 → ((i : ℕ) → get_or front i 0 < 256) →
    number_text (first_number front) ≡ front
unfolding number_text first_number
number_back front l b = le_bytes_8 front (first_number front) l b (omega arith)

number_fits : (front : List ℕ) → ((i : ℕ) → get_or front i 0 < 256) → first_number front < 2 ^ 64
unfolding first_number
number_fits front b = omega (arith, b 0, b 1, b 2, b 3, b 4, b 5, b 6, b 7)

front_bytes : (bytes : List ℕ) → 8 ≤ length bytes → ((i : ℕ) → get_or bytes i 0 < 256) → (i : ℕ) →
    get_or (take 8 bytes) i 0 < 256
front_bytes bytes l b i =
    elim (cases_lt i 8) [
      | inl below ↦ let e = get_or-take 8 bytes i 0 below in omega (arith, e, b i)
      | inr above ↦ let e = get_or_past (take 8 bytes) i 0 (omega (arith, length-take 8 bytes)) in omega (arith, e)
    ]

pub number_begins : (bytes front rest : List ℕ) → front ≡ take 8 bytes → rest ≡ drop 8 bytes →
    8 ≤ length bytes → ((i : ℕ) → get_or bytes i 0 < 256) → Begins number_text IsNumber bytes (first_number front) rest
number_begins bytes front rest f r l b =
    let fb : (i : ℕ) → get_or front i 0 < 256 = subst (λ (x : List ℕ). (i : ℕ) → get_or x i 0 < 256) (sym f)
    (front_bytes bytes l b) in
    let fl : length front ≡ 8 = omega (arith, ap length f, length-take 8 bytes) in
    record {
      is = sym (take-append-drop 8 bytes) ∙ ap (λ (x : List ℕ). x ++ drop 8 bytes)
          (sym f ∙ sym (number_back front fl fb)) ∙ ap (λ (x : List ℕ). number_text (first_number front) ++ x) (sym r);
      ok = number_fits front fb;
    }

pub number_short : (bytes : List ℕ) → length bytes < 8 → BeginsNone number_text IsNumber bytes
number_short bytes l n rest f =
    absurd (omega (arith, ap length f.is, length-append (number_text n) rest, length-number_text n))

-- the cells of a list
module _ (bytes after : List ℕ) (count : ℕ) (n : Begins number_text IsNumber bytes count after) where
  counted : (ids rest : List ℕ) → Begins list_text AreCells bytes ids rest → (count ≡ length ids)
      × (after ≡ flat_map number_text ids ++ rest)
  counted ids rest f = one_number bytes count (length ids) after (flat_map number_text ids ++ rest) n
      (list_count f)

  pub list_counts_many : SESSION_CELLS < count → BeginsNone list_text AreCells bytes
  list_counts_many many ids rest f = absurd (omega (arith, (counted ids rest f).0, f.ok.few))

  pub list_lacks : BeginsNone identifiers_text (AreCounted count) after → BeginsNone list_text AreCells bytes
  list_lacks none ids rest f =
      let c = counted ids rest f in
      none ids rest (record { is = c.1; ok = record { len = sym c.0; valid = f.ok.valid } })

-- identifiers one after another: these are the first, and the rest is still to be read
pub record SpellsSome (numbers cells rest : List ℕ) : Type 0 where
  pub is : numbers ≡ flat_map number_text cells ++ rest
  pub valid : All IsCell cells

pub flat_map_end : {A : Type 0} (text : A → List ℕ) (xs : List A) (x : A) →
    flat_map text xs ++ text x ≡ flat_map text (xs ++ x ∷ [])
flat_map_end text xs x =
    ap (λ (l : List ℕ). flat_map text xs ++ l) (sym (append-nil (text x))) ∙ sym (flat_map-append text xs (x ∷ []))

pub row_more : {A : Type 0} (text : A → List ℕ) (xs : List A) (x : A) (bytes mid rest : List ℕ) →
    bytes ≡ flat_map text xs ++ mid → mid ≡ text x ++ rest → bytes ≡ flat_map text (xs ++ x ∷ []) ++ rest
row_more text xs x bytes mid rest e f =
    e ∙ ap (λ (l : List ℕ). flat_map text xs ++ l) f ∙ sym (append_assoc (flat_map text xs) (text x) rest)
    ∙ ap (λ (l : List ℕ). l ++ rest) (flat_map_end text xs x)

pub spells_more : {numbers cells rest : List ℕ} (chunk more : List ℕ) {n : ℕ} →
    SpellsSome numbers cells rest → rest ≡ chunk ++ more → length chunk ≡ 8 →
    ((i : ℕ) → get_or chunk i 0 < 256) → n ≡ first_number chunk → IsCell n → SpellsSome numbers (cells ++ n ∷ []) more
spells_more {numbers} {cells} {rest} chunk more {n} s e l b is cell = record {
  is = row_more number_text cells n numbers rest more s.is
      (e ∙ ap (λ (x : List ℕ). x ++ more) (sym (number_back chunk l b))
      ∙ ap (λ (k : ℕ). number_text k ++ more) (sym is));
  valid = All-push IsCell cells n s.valid cell;
}

-- the bytes of a chunk are bytes
pub chunk_bytes : {numbers cells rest : List ℕ} (chunk more : List ℕ) → SpellsSome numbers cells rest →
    rest ≡ chunk ++ more → ((i : ℕ) → get_or numbers i 0 < 256) → (i : ℕ) → get_or chunk i 0 < 256
chunk_bytes {numbers} {cells} chunk more s e b i =
    elim (cases_lt i (length chunk)) [
      | inl below ↦
          let front : List ℕ = flat_map number_text cells in
          let one : get_or numbers (length front + i) 0 ≡ get_or chunk i 0 =
          ap (λ (l : List ℕ). get_or l (length front + i) 0) (s.is ∙ ap (λ (l : List ℕ). front ++ l) e)
          ∙ get_or_append_right front (chunk ++ more) i ∙ get_or_append_left chunk more 0 i below in
          omega (arith, one, b (length front + i))
      | inr above ↦ let past = get_or_past chunk i 0 above in omega (arith, past)
    ]
  where
    get_or_append_right : (xs ys : List ℕ) (i : ℕ) → get_or (xs ++ ys) (length xs + i) 0 ≡ get_or ys i 0
    get_or_append_right [] ys i = let z : 0 + i ≡ i = omega arith in ap (λ (k : ℕ). get_or ys k 0) z
    get_or_append_right (x ∷ xs) ys i =
        let z : length (x ∷ xs) + i ≡ suc (length xs + i) = omega arith in
        ap (λ (k : ℕ). get_or (x ∷ (xs ++ ys)) k 0) z ∙ get_or_append_right xs ys i

-- the cells that were added so far
pub record SpellsPart (numbers old new rest : List ℕ) : Type 0 where
  pub good : List ℕ
  pub added : new ≡ old ++ good
  pub spells : SpellsSome numbers good rest

pub part_more : {numbers old new rest : List ℕ} (chunk more : List ℕ) {n : ℕ} →
    SpellsPart numbers old new rest → rest ≡ chunk ++ more → length chunk ≡ 8 → ((i : ℕ) → get_or numbers i 0 < 256) →
    n ≡ first_number chunk → IsCell n → SpellsPart numbers old (new ++ n ∷ []) more
part_more {numbers} {old} {rest} chunk more {n} s e l b is cell = record {
  good = s.good ++ n ∷ [];
  added = ap (λ (xs : List ℕ). xs ++ n ∷ []) s.added ∙ append_assoc old s.good (n ∷ []);
  spells = spells_more chunk more s.spells e l (chunk_bytes chunk more s.spells e b) is cell;
}

pub part_wrong : {numbers old new rest : List ℕ} (chunk more : List ℕ) → SpellsPart numbers old new rest →
    rest ≡ chunk ++ more → length chunk ≡ 8 → (IsCell (first_number chunk) → ⊥) → SpellsWrong numbers
part_wrong {rest} chunk more s e l wrong = record {
  good = s.good;
  rest = rest;
  is = s.spells.is;
  valid = s.spells.valid;
  whole = omega (arith, ap length e, length-append chunk more, l);
  wrong = λ cell. wrong (subst IsCell (ap first_number e ∙ first_number-append chunk more l) cell);
}

pub part_all : {numbers old new : List ℕ} (rest : List ℕ) (count : ℕ) →
    length numbers ≡ 8 * count → SpellsPart numbers old new rest → length rest < 8 → SpellsMore numbers old new
part_all [] count len s short = record {
  more = s.good;
  added = s.added;
  spells = record { is = s.spells.is ∙ append-nil (flat_map number_text s.good); valid = s.spells.valid };
}
part_all (x ∷ rest) count len s short =
    absurd (omega (
      arith,
      ap length s.spells.is,
      length-append (flat_map number_text s.good) (x ∷ rest),
      length-number_texts s.good,
    ))

pub register_unmerged : {bytes cells rest : List ℕ} →
    Begins list_text AreCells bytes cells rest → (IsLocal cells → ⊥) → BeginsNone list_text IsRegisterList bytes
register_unmerged {bytes} {cells} {rest} f wrong others more g =
    wrong (subst IsLocal (sym (one_list bytes cells others rest more f
    (record { is = g.is; ok = register_cells others g.ok })).0) g.ok.local)

-- Bytes, numbers and lists of cells while they are taken.
use Rattle.std.proofs.Common.{◌≡◌, ℕ, ◌+◌, ◌*◌, ◌<◌, ◌≤◌, List, [], ◌++◌, length, take, drop, get_or, All}
use Rattle.std.proofs.Common.{flat_map, refl, sym, ap, ◌∙◌, subst, arith, append_assoc}
use Rattle.std.proofs.lemmas.List.{length-append, length-take, take-append-drop}
use Rattle.std.proofs.lemmas.List.Elements.{All-append, recursion_from_All}
use Rattle.std.proofs.lemmas.Grind.{flat_map-append}
use Rattle.s2cell.specs.Cell.{IsCell}
use Rattle.s2cell.proofs.Calls.{fits_u64}
use Rattle.s2list.specs.Numbers.{first_number, number_text}
use Rattle.s2list.proofs.Numbers.{first_number-number_text, first_number-longer, first_number-append}
use Rattle.s2list.proofs.Numbers.{length-number_texts}
use Rattle.s2shelf.specs.OpenedFile.{Claim}
use Rattle.s2session.specs.Session.{list_text}
use Rattle.s2edit.specs.Content.{AreCells}
use Rattle.s2session.specs.Working.SessionParts.{Begins, BeginsNone, IsNumber, AreCounted, IsByte, byte_text}
use Rattle.s2session.specs.Working.SessionParts.{identifiers_text, SpellsMore, SpellsWrong}
use Rattle.s2edit.specs.declared.TheConstants.{SESSION_CELLS}
use Rattle.s2session.proofs.Fronts.{one_cell, no_more, list_count}
use Rattle.s2session.specs.Reading.{WasLeft}
use Rattle.s2session.specs.Working.Source.{Ahead, Passes, held}
use Rattle.s2session.specs.declared.source.Buffer.{Buffer}
use Rattle.s2session.specs.Working.Taking.{Refuses, Takes, Lacks}
use Rattle.s2session.specs.declared.fault.ReadFault.{ReadFault}
use Rattle.s2session.specs.declared.fault.ReadFault.TheVariants.{Form}
use Rattle.s2session.proofs.SessionReading.{refuses, number_begins, list_counts_many, list_lacks}
use Rattle.s2session.proofs.Taking.{joined, later, of_front, refuses_later, refuses_weaker, front_taken, held_front}
use Rattle.s2session.proofs.Taking.{held_all}

-- ---- bytes

module _ {start coming : Claim → List ℕ → Type 0} (old : Buffer) (p : Passes start (Ahead old coming) []) where
  -- no byte is held, and none comes
  pub byte_lacks : ((claim : Claim) (rest : List ℕ) → coming claim rest → rest ≡ []) → length (held old) < 1 →
      Lacks byte_text IsByte Form start (Ahead old coming)
  byte_lacks none few = held_all old p none (λ byte rest f. absurd (omega (arith, ap length f.is, few)))

-- ---- numbers

pub number_spelled : (bytes : List ℕ) (n : ℕ) → 8 ≤ length bytes → ((i : ℕ) → get_or bytes i 0 < 256) →
    n ≡ first_number bytes → Begins number_text IsNumber bytes n (drop 8 bytes)
number_spelled bytes n l b is =
    let front : List ℕ = take 8 bytes in
    let len : length front ≡ 8 = omega (arith, length-take 8 bytes) in
    let same : n ≡ first_number front = is ∙ ap first_number (sym (take-append-drop 8 bytes))
    ∙ first_number-append front (drop 8 bytes) len in
    subst (λ (m : ℕ). Begins number_text IsNumber bytes m (drop 8 bytes)) (sym same)
    (number_begins bytes front (drop 8 bytes) refl refl l b)

-- the front of what is held is the text of a number
pub number_taken : {start coming : Claim → List ℕ → Type 0} (old new : Buffer) {slice : List ℕ} {n : ℕ} →
    Passes start (Ahead old coming) [] → slice ≡ held old → held new ≡ drop 8 (held old) →
    Begins number_text IsNumber slice n (drop 8 slice) → Takes number_text IsNumber start n (Ahead new coming)
number_taken old new {slice} {n} p s d f = record {
  is = joined p (front_taken old new (number_text n)
      (sym s ∙ f.is ∙ ap (λ (l : List ℕ). number_text n ++ l) (ap (drop 8) s ∙ sym d)));
  ok = f.ok;
}

-- ---- identifiers, as many as were counted

-- the bytes begin with some that have a number of no cell
record StartsWrong (front bytes : List ℕ) : Type 0 where
  more : List ℕ
  is : bytes ≡ front ++ more
  wrong : SpellsWrong front

wrong_after : (xs : List ℕ) (count : ℕ) → All IsCell xs → (front after : List ℕ) →
    length front + 8 * length xs ≤ 8 * count → StartsWrong front after →
    BeginsNone identifiers_text (AreCounted count) (flat_map number_text xs ++ after)
wrong_after xs count cells front after room w ids rest f =
    let s = w.wrong in
    let good : List ℕ = xs ++ s.good in
    let len : length front ≡ 8 * length s.good + length s.rest = omega (
      arith,
      ap length s.is,
      length-append (flat_map number_text s.good) s.rest,
      length-number_texts s.good,
    ) in
    no_more number_text IsCell one_cell good ids (s.rest ++ w.more) rest
    (recursion_from_All IsCell good (All-append IsCell xs s.good cells s.valid))
    (recursion_from_All IsCell ids f.ok.valid)
    (omega (arith, len, s.whole, room, f.ok.len, length-append xs s.good)) (sym parts ∙ f.is)
    (λ n q g. s.wrong (subst IsCell (sym (sym (first_number-longer s.rest w.more s.whole) ∙ ap first_number g.is
    ∙ first_number-number_text n q (fits_u64 n g.ok))) g.ok))
  where
    parts : flat_map number_text xs ++ after ≡ flat_map number_text (xs ++ w.wrong.good) ++ (w.wrong.rest ++ w.more)
    parts =
        ap (λ (l : List ℕ). flat_map number_text xs ++ l)
        (w.is ∙ ap (λ (l : List ℕ). l ++ w.more) w.wrong.is
        ∙ append_assoc (flat_map number_text w.wrong.good) w.wrong.rest w.more)
        ∙ sym (append_assoc (flat_map number_text xs) (flat_map number_text w.wrong.good) (w.wrong.rest ++ w.more))
        ∙ ap (λ (l : List ℕ). l ++ (w.wrong.rest ++ w.more)) (sym (flat_map-append number_text xs w.wrong.good))

module _ {old now coming : Claim → List ℕ → Type 0} {xs : List ℕ}
    (t : Takes identifiers_text (All IsCell) old xs now) where
  module _ (b new : Buffer) (p : Passes now (Ahead b coming) []) where
    taken : (front : List ℕ) → held b ≡ front ++ held new → Passes old (Ahead new coming) (flat_map number_text xs
        ++ front)
    taken front e = joined t.is (joined p (front_taken b new front e))

    pub cells_more : {front ys : List ℕ} → held b ≡ front ++ held new → SpellsMore front xs ys →
        Takes identifiers_text (All IsCell) old ys (Ahead new coming)
    cells_more {front} e s =
        let text : flat_map number_text xs ++ front ≡ flat_map number_text (xs ++ s.more) =
        ap (λ (l : List ℕ). flat_map number_text xs ++ l) s.spells.is ∙ sym (flat_map-append number_text xs s.more) in
        subst (λ (l : List ℕ). Takes identifiers_text (All IsCell) old l (Ahead new coming)) (sym s.added) (record {
          is = subst (λ (l : List ℕ). Passes old (Ahead new coming) l) text (taken front e);
          ok = All-append IsCell xs s.more t.ok s.spells.valid;
        })

  module _ (b : Buffer) (p : Passes now (Ahead b coming) []) (count : ℕ) where
    -- the bytes end before the last of them
    pub cells_end : ((claim : Claim) (rest : List ℕ) → coming claim rest → rest ≡ []) → length (held b) < 8 →
        length xs < count → WasLeft old (Ahead b coming) (BeginsNone identifiers_text (AreCounted count))
    cells_end none short few =
        later t.is (λ after e ids rest f. absurd (omega (
          arith,
          ap length f.is,
          length-append (flat_map number_text xs) after,
          length-append (flat_map number_text ids) rest,
          length-number_texts xs,
          length-number_texts ids,
          ap length e,
          f.ok.len,
        ))) (held_all b {Q = λ rest. rest ≡ held b} p none refl)

    -- one of them is of no cell
    pub cells_refused : (fault : ReadFault) (front rest : List ℕ) → held b ≡ front ++ rest →
        length front + 8 * length xs ≤ 8 * count → Refuses fault (SpellsWrong front) →
        Lacks identifiers_text (AreCounted count) fault old (Ahead b coming)
    cells_refused fault front rest e room wrong =
        refuses_later fault (StartsWrong front) _ t.is (λ after w. wrong_after xs count t.ok front after room w)
        (held_front b {Q = λ bytes. Refuses fault (StartsWrong front bytes)} p
        (λ more. refuses fault (SpellsWrong front) (StartsWrong front (held b ++ more)) (λ s. record {
          more = rest ++ more;
          is = ap (λ (l : List ℕ). l ++ more) e ∙ append_assoc front rest more;
          wrong = s;
        }) wrong))

pub length_more : {front xs ys : List ℕ} (here : ℕ) →
    length front ≡ 8 * here → SpellsMore front xs ys → length ys ≡ length xs + here
length_more {xs} here len s =
    omega (
      arith,
      len,
      ap length s.spells.is,
      length-number_texts s.more,
      ap length s.added,
      length-append xs s.more,
    )

-- ---- lists after their count

-- without a count there is no list
pub count_refused : (fault : ReadFault) {old new : Claim → List ℕ → Type 0} → Lacks number_text IsNumber fault old new →
    Lacks list_text AreCells fault old new
count_refused fault = refuses_weaker fault _ _ (λ bytes none ids rest f. none _ _ (list_count f))

module _ {old mid : Claim → List ℕ → Type 0} {count : ℕ} (n : Takes number_text IsNumber old count mid) where
  pub list_taken : {new : Claim → List ℕ → Type 0} {ids : List ℕ} →
      Takes identifiers_text (AreCounted count) mid ids new → count ≤ SESSION_CELLS →
      Takes list_text AreCells old ids new
  list_taken {new} {ids} t most = record {
    is = subst (λ (k : ℕ). Passes old new (number_text k ++ flat_map number_text ids)) (sym t.ok.len)
        (joined n.is t.is);
    ok = record { valid = t.ok.valid; few = omega (arith, t.ok.len, most) };
  }

  pub list_of_many : SESSION_CELLS < count → Lacks list_text AreCells Form old mid
  list_of_many many = of_front n.is (λ after. list_counts_many _ after count (record { is = refl; ok = n.ok }) many)

  pub list_refused : (fault : ReadFault) {new : Claim → List ℕ → Type 0} →
      Lacks identifiers_text (AreCounted count) fault mid new → Lacks list_text AreCells fault old new
  list_refused fault h =
      refuses_later fault _ _ n.is (λ after none. list_lacks _ after count (record { is = refl; ok = n.ok }) none) h

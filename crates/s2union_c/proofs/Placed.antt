-- A list that was put into a room, with the status that tells whether it fits.
use Rattle.std.proofs.Common.{◌≡◌, ℕ, ℤ, ◌<◌, ◌≤◌, inl, inr, sym, ap, ◌∙◌, arith, List, ◌++◌, length, drop}
use Rattle.std.proofs.Common.{All, append_assoc, take}
use Rattle.std.specs.Prelude.{min}
use Rattle.std.proofs.Math.ListN.{drop_of_length-le}
use Rattle.std.proofs.Math.Logic.{⊎_elim}
use Rattle.std.proofs.lemmas.Bool.{cases_lt}
use Rattle.std.proofs.lemmas.List.{drop-append-le, length-append, length-drop, length-take-le, take-append-drop}
use Rattle.std.proofs.lemmas.Slice.{drop-append-drop}
use Rattle.s2cell.specs.Cell.{IsCell}
use Rattle.s2list.specs.Union.{IsNormalForm, has_leaf}
use Rattle.s2list.proofs.Lengths.{normal_few}
use Rattle.s2list.specs.Room.{PutsOne}
use Rattle.s2list.proofs.Putting.{rest_later}
use Rattle.s2union_c.specs.Results.{ExceedsRoom, HasNoRoom, IsWritten, KeepsRest, Made, MadeInPlace, MadeOne, Refused}
use Rattle.s2union_c.specs.Status.{made, no_memory, no_room}

pub placed : (P : List ℕ → Type 0) (old new : List ℕ) (len room : ℕ) (status : ℤ) → PutsOne P old new len →
    room ≡ length new → (len ≤ room → status ≡ made) → (room < len → status ≡ no_room)
    → MadeInPlace status P old new len
placed P old new len room status p r fits short =
    let e = p.len_is in
    let s = p.same_length in (
      p.list,
      p.is,
      ⊎_elim
          (λ (h : room < len). inr (short h, record { len_is = e; short = omega arith; same_length = s }))
          (λ (h : len ≤ room). inl (
            fits h,
            record {
              len_is = e;
              fits = omega arith;
              front = p.front (omega arith) ∙ ap (λ k. p.list ++ drop k old) (sym e);
            },
          ))
          (cases_lt room len),
    )

-- a list was put into the front of a room, which is as long as the list can be
pub placed_within : {P : List ℕ → Type 0} (old part : List ℕ) {n len room most : ℕ} (all : ℕ) (status : ℤ)
    → PutsOne P (take room old) part n → room ≡ min most (length old) → len ≡ min n most → n ≤ most
    → all ≡ length (part ++ drop room old) → (len ≤ all → status ≡ made) → (all < len → status ≡ no_room)
    → MadeInPlace status P old (part ++ drop room old) len
placed_within {P} old part {n} {len} {room} {most} all status p e l few a fits short =
    let is = p.len_is in
    let same = p.same_length in
    let within = length-take-le room old (omega arith) in
    let both = length-append part (drop room old) in
    let left = length-drop room old in
    placed P old (part ++ drop room old) len all status (record {
      list = p.list;
      is = p.is;
      len_is = omega arith;
      same_length = omega arith;
      front = λ enough. ap (λ x. x ++ drop room old) (p.front (omega arith))
          ∙ append_assoc p.list (drop (length p.list) (take room old)) (drop room old)
          ∙ ap (λ x. p.list ++ x) (sym (drop-append-le (length p.list) (take room old) (drop room old) (omega arith))
          ∙ ap (drop (length p.list)) (take-append-drop room old));
    }) a fits short

-- what comes after what fits is as it was
pub kept : (old new : List ℕ) (len all : ℕ) (status : ℤ) → length new ≡ length old
    → (len ≤ length old → drop len new ≡ drop len old) → all ≡ length new → (len ≤ all → status ≡ made)
    → (all < len → status ≡ no_room) → KeepsRest status old new len
kept old new len all status same rest a fits short = record {
  same_length = same;
  fits = λ h. (fits (omega arith), rest h);
  short = λ h. short (omega arith);
}

-- so is what comes after what was put into the front of a room
pub placed_any : (old part : List ℕ) (n most : ℕ) {len room : ℕ} (all : ℕ) (status : ℤ)
    → length part ≡ length (take room old) → drop n part ≡ drop n (take room old) → room ≡ min most (length old)
    → len ≡ min n most → all ≡ length (part ++ drop room old) → (len ≤ all → status ≡ made)
    → (all < len → status ≡ no_room) → KeepsRest status old (part ++ drop room old) len
placed_any old part n most {len} {room} all status same rest e l a fits short =
    let within = length-take-le room old (omega arith) in
    let both = length-append part (drop room old) in
    let left = length-drop room old in
    kept old (part ++ drop room old) len all status (omega arith)
    (λ h. ⊎_elim
    (λ (more : most < n). drop-append-drop room old part len (omega arith) (omega arith))
    (λ (few : n ≤ most).
    let is : len ≡ n = omega arith in
    rw is (drop-append-le n part (drop room old) (omega arith) ∙ ap (λ x. x ++ drop room old) rest
    ∙ sym (drop-append-le n (take room old) (drop room old) (omega arith)) ∙ ap (drop n) (take-append-drop room old)))
    (cases_lt most n)) a fits short

-- room for the bound is enough, and what comes after it stays
pub enough : (most : ℕ) (status : ℤ) (old new : List ℕ) (len : ℕ) → KeepsRest status old new len → len ≤ most
    → (drop most new ≡ drop most old) × (most ≤ length old → status ≡ made)
enough most status old new len kept few =
    let same = kept.same_length in (
      ⊎_elim
          (λ (short : length old < len).
          drop_of_length-le new (omega arith) ∙ sym (drop_of_length-le old (omega arith)))
          (λ (fits : len ≤ length old). rest_later new old len most few (kept.fits fits).1)
          (cases_lt (length old) len),
      λ h. (kept.fits (omega arith)).0,
    )

-- and so is room for the length that was told
pub enough_again : (P : List ℕ → Type 0) (status next : ℤ) (old new room after : List ℕ) (len again : ℕ)
    → ((xs ys : List ℕ) → P xs → P ys → xs ≡ ys) → MadeInPlace status P old new len
    → MadeInPlace next P room after again → len ≤ length room → (next ≡ made) × (again ≡ len)
enough_again P status next old new room after len again one (xs, is, done) (ys, too, more) fits =
    let same = ap length (one xs ys is too) in
    let first : len ≡ length xs = ⊎_elim
    (λ (w : (status ≡ made) × IsWritten xs old new len). w.1.len_is)
    (λ (e : (status ≡ no_room) × ExceedsRoom xs old new len). e.1.len_is) done in
    ⊎_elim
    (λ (w : (next ≡ made) × IsWritten ys room after again). (w.0, omega (arith, w.1.len_is)))
    (λ (e : (next ≡ no_room) × ExceedsRoom ys room after again). absurd (omega (arith, e.1.len_is, e.1.short)))
    more

pub made_length : {X : Type 0} {xs old new : List X} {len : ℕ} {status : ℤ} → Made status xs old new len
    → len ≡ length xs
made_length {xs = xs} {old} {new} {len} {status} done =
    ⊎_elim
    (λ (w : (status ≡ made) × IsWritten xs old new len). w.1.len_is)
    (λ (h : (status ≡ no_room) × HasNoRoom xs old new len). h.1.len_is)
    done

-- a union of cells that was made is no longer than their list
pub made_one_few : (ids : List ℕ) {old new : List ℕ} {len : ℕ} {status : ℤ} → All IsCell ids
    → MadeOne status (IsNormalForm (has_leaf ids)) old new len → len ≤ length ids
made_one_few ids {old} {new} {len} {status} all done =
    ⊎_elim
    (λ (m : (xs : List ℕ) × IsNormalForm (has_leaf ids) xs × Made status xs old new len).
    omega (arith, made_length m.2, normal_few ids all m.1))
    (λ (r : Refused status no_memory old new len). omega (arith, r.1))
    done

-- The ways in which a file's cells become a union in the room.
use Rattle.std.proofs.Common.{◌≡◌, ℕ, ℤ, ◌<◌, ◌≤◌, inl, inr, refl, sym, ap, subst, ◌∙◌, arith, List, ◌++◌}
use Rattle.std.proofs.Common.{length, take, drop}
use Rattle.std.proofs.Math.Logic.{⊎_elim}
use Rattle.std.proofs.lemmas.List.{drop_all, drop_at, length-append, length-drop, take_at, take-append-le}
use Rattle.s2list.specs.Union.{IsLocal, IsNormalForm, has_leaf}
use Rattle.s2list.proofs.Normal.{normal_from_local}
use Rattle.s2room.specs.Normalising.{IsNormalisedIn}
use Rattle.s2union_c.specs.Files.{Decoded, IsDecodedIn}
use Rattle.s2union_c.specs.Results.{HasNoRoom, IsWritten, Made, MadeOne, Refused}
use Rattle.s2union_c.specs.Status.{made, no_room, no_memory}

-- what is at the front of a room
written_front : (ids xs old new : List ℕ) (len : ℕ) → IsNormalForm (has_leaf ids) xs → IsWritten xs old new len
    → drop (length ids) new ≡ drop (length ids) old → IsDecodedIn ids old new len
written_front ids xs old new len normal w rest =
    let is = w.len_is in
    let fits = w.fits in
    let both = length-append xs (drop len old) in
    let left = length-drop len old in
    let size : length new ≡ length (xs ++ drop len old) = ap length w.front in
    let front : take len new ≡ xs = ap (take len) w.front ∙ take_at xs (drop len old) len (sym is) in
    record {
      within = omega arith;
      same_length = omega arith;
      normal = subst (IsNormalForm (has_leaf ids)) (sym front) normal;
      rest = rest;
    }

-- the cells are a union, and are copied
pub decoded_whole : (ids old new : List ℕ) (len : ℕ) (status : ℤ) → IsLocal ids → Made status ids old new len →
    Decoded status ids old new len
decoded_whole ids old new len status local done =
    let normal = normal_from_local ids local in
    ⊎_elim
    (λ (w : (status ≡ made) × IsWritten ids old new len).
    inl (
      w.0,
      written_front ids ids old new len normal w.1
          (ap (drop (length ids)) w.1.front ∙ drop_at ids (drop len old) (length ids) refl
          ∙ ap (λ k. drop k old) w.1.len_is),
    ))
    (λ (h : (status ≡ no_room) × HasNoRoom ids old new len). inr (inl (h.0, ids, normal, h.1)))
    done

-- they are normalized in the room
pub decoded_here : (ids old part : List ℕ) (len : ℕ) → IsNormalisedIn ids part len → length ids ≤ length old →
    IsDecodedIn ids old (part ++ drop (length ids) old) len
decoded_here ids old part len n fits =
    let within = n.within in
    let same = n.same_length in
    let both = length-append part (drop (length ids) old) in
    let left = length-drop (length ids) old in
    let front : take len (part ++ drop (length ids) old) ≡ take len part =
    take-append-le len part (drop (length ids) old) (omega arith) in
    record {
      within = omega arith;
      same_length = omega arith;
      normal = subst (IsNormalForm (has_leaf ids)) (sym front) n.normal;
      rest = drop_at part (drop (length ids) old) (length ids) same;
    }

-- or in memory, since the room is too short for them
pub decoded_apart : (ids old new : List ℕ) (len : ℕ) (status : ℤ) → length old < length ids →
    MadeOne status (IsNormalForm (has_leaf ids)) old new len → Decoded status ids old new len
decoded_apart ids old new len status short done =
    ⊎_elim
    (λ (m : (xs : List ℕ) × IsNormalForm (has_leaf ids) xs × Made status xs old new len).
    ⊎_elim
    (λ (w : (status ≡ made) × IsWritten m.0 old new len).
    let fits = w.1.fits in
    let is = w.1.len_is in
    let both = length-append m.0 (drop len old) in
    let left = length-drop len old in
    let size : length new ≡ length (m.0 ++ drop len old) = ap length w.1.front in
    let none : drop (length ids) new ≡ drop (length ids) old = drop_all (length ids) new (omega arith)
    ∙ sym (drop_all (length ids) old (omega arith)) in
    inl (w.0, written_front ids m.0 old new len m.1 w.1 none))
    (λ (h : (status ≡ no_room) × HasNoRoom m.0 old new len). inr (inl (h.0, m.0, m.1, h.1)))
    m.2)
    (λ (r : Refused status no_memory old new len). inr (inr r))
    done

-- A turn of a walk along two unions: the place in `xs` of the next cell of `ys`, and then the cells of `ys` up to it.
use Rattle.std.proofs.Common.{◌≡◌, ℕ, ◌+◌, ◌<◌, ◌≤◌, refl, sym, ap, arith, List, length, get_or, true, false}
use Rattle.std.proofs.Math.Logic.{⊎_elim}
use Rattle.std.proofs.lemmas.Bool.{cases_lt, false≢true}
use Rattle.s2cell.specs.Cell.{IsCell, covers, first_leaf, size_of}
use Rattle.s2cell.proofs.CellLemmas.{cell_leaves}
use Rattle.s2cell.proofs.Leaves.{before, after, within, around, inside_from_within, meeting}
use Rattle.s2list.specs.Union.{IsLocal, IsWithin, ShareSome, has_leaf}
use Rattle.s2list.specs.Packed.{EndsAfter, FirstEndBy, IsPacked}
use Rattle.s2list.specs.Working.Walk.{Decides, LeavesOpen, Lacks, Settles, OpenTo, After}
use Rattle.s2list.specs.declared.walk.Question.{Question}
use Rattle.s2list.specs.declared.walk.Question.TheVariants.{Contains, Intersects}
use Rattle.s2list.proofs.Checking.{packed_from_local}
use Rattle.s2list.proofs.Finding.{ended_to, held_at, shared_at, shared_none, starts_later, within_from_place}
use Rattle.s2list.proofs.Asking.{ended_on}

-- the place in `xs` of the cell of `ys` at the place `j`
pub record Placed (xs ys : List ℕ) (i j : ℕ) : Type 0 where
  pub cell : IsCell (get_or ys j 0)
  pub ended : FirstEndBy xs i (first_leaf (get_or ys j 0))
  pub after : EndsAfter xs i (first_leaf (get_or ys j 0))

pub placed : (xs ys : List ℕ) (from i j : ℕ) {id begin : ℕ} → IsLocal xs → IsLocal ys → j < length ys → id ≡ get_or
    ys j 0 → (IsCell id → begin ≡ first_leaf id) → (IsPacked xs → FirstEndBy xs from begin → FirstEndBy xs i begin) →
    (IsPacked xs → FirstEndBy xs from begin → EndsAfter xs i begin) →
    FirstEndBy xs from (first_leaf (get_or ys j 0)) → Placed xs ys i j
placed xs ys from i j {id} {begin} lx ly h e begins ended later so_far =
    let cell = ly.cells j 0 h in
    let first : begin ≡ first_leaf (get_or ys j 0) = rw e at (begins (rw e cell)) in
    let px = packed_from_local xs lx in
    record {
      cell = cell;
      ended = rw first at (ended px (rw first so_far));
      after = rw first at (later px (rw first so_far));
    }

-- ---- whether they share a leaf

-- the cells of `ys` that end by the next cell of `xs`, if there is one, share none
none_more : {xs ys : List ℕ} (i j next : ℕ) → IsLocal xs → IsLocal ys → next ≤ length ys →
    FirstEndBy xs i (first_leaf (get_or ys j 0)) → (i < length xs → FirstEndBy ys next (first_leaf (get_or xs i 0))) →
    ((k : ℕ) → k < j → ShareSome (covers (get_or ys k 0)) (has_leaf xs) → ⊥) →
    (k : ℕ) → k < next → ShareSome (covers (get_or ys k 0)) (has_leaf xs) → ⊥
none_more {xs} {ys} i j next lx ly most ended passed none k h =
    ⊎_elim
    (λ (a : k < j). none k a)
    (λ (a : j ≤ k).
    shared_none xs i (get_or ys k 0) lx (ended_on xs ys i j k ly a (omega arith) ended) (λ l. passed l k h))
    (cases_lt k j)

-- the cells of `xs` that begin no later than a cell of `ys` come before one that begins after it
begun_before : {xs : List ℕ} (i lo : ℕ) →
    IsLocal xs → lo < first_leaf (get_or xs i 0) → (k : ℕ) → k < length xs → first_leaf (get_or xs k 0) ≤ lo → k < i
begun_before {xs} i lo lx later k h le =
    ⊎_elim
    (λ (a : k < i). a)
    (λ (a : i ≤ k). let s = starts_later xs i k (packed_from_local xs lx) a h in absurd (omega arith))
    (cases_lt k i)

-- a cell of `ys` that begins before the next of `xs`, and ends after it begins, shares a leaf with it
meets_next : {xs ys : List ℕ} (i j : ℕ) →
    IsLocal xs → IsLocal ys → i < length xs → EndsAfter ys j (first_leaf (get_or xs i 0)) → j < length ys → (i < length
    xs → first_leaf (get_or ys j 0) < first_leaf (get_or xs i 0)) → ShareSome (covers (get_or ys j 0)) (has_leaf xs)
meets_next {xs} {ys} i j lx ly h ends g later =
    let b = later h in
    let some = (cell_leaves (get_or xs i 0) (lx.cells i 0 h)).some in
    shared_at xs i (get_or ys j 0) lx.cells (ly.cells j 0 g) h (omega arith) (ends g)

-- ---- whether one has all leaves of the other

-- the cells of `ys` from one that a cell of `xs` holds, up to the end of that, lie in it
held_more : {xs ys : List ℕ} (i j next : ℕ) → IsLocal xs →
    IsLocal ys → i < length xs → next ≤ length ys → first_leaf (get_or xs i 0) ≤ first_leaf (get_or ys j 0) →
    FirstEndBy ys next (first_leaf (get_or xs i 0) + size_of (get_or xs i 0)) → ((k : ℕ) → k < j → IsWithin
    (covers (get_or ys k 0)) (has_leaf xs)) → (k : ℕ) → k < next → IsWithin (covers (get_or ys k 0)) (has_leaf xs)
held_more {xs} {ys} i j next lx ly h most low ended held k g =
    ⊎_elim
    (λ (a : k < j). held k a)
    (λ (a : j ≤ k).
    let s = starts_later ys j k (packed_from_local ys ly) a (omega arith) in
    let e = ended k g in
    within_from_place xs i (get_or ys k 0) (get_or xs i 0) h refl
    (inside_from_within (get_or ys k 0) (get_or xs i 0) (record { low = omega arith; high = omega arith })))
    (cases_lt k j)

-- a cell of `xs` that holds one of `ys` ends by the first of `ys` that ends after it
pub ended_next : (xs ys : List ℕ) (i j next : ℕ) → IsLocal xs → IsLocal ys → i < length xs → j < length ys → j < next →
    first_leaf (get_or xs i 0) ≤ first_leaf (get_or ys j 0) → first_leaf (get_or ys j 0) + size_of (get_or ys j
    0) ≤ first_leaf (get_or xs i 0) + size_of (get_or xs i 0) → EndsAfter ys next (first_leaf (get_or xs i 0) + size_of
    (get_or xs i 0)) → next < length ys → FirstEndBy xs (i + 1) (first_leaf (get_or ys next 0))
ended_next xs ys i j next lx ly h g on low high ends l =
    let cx = lx.cells i 0 h in
    let cn = ly.cells next 0 l in
    let apart : first_leaf (get_or ys j 0) + size_of (get_or ys j 0) ≤ first_leaf (get_or ys next 0) =
    (packed_from_local ys ly).chain j next 0 on l in
    let some = (cell_leaves (get_or ys j 0) (ly.cells j 0 g)).some in
    let later = ends l in
    let over : first_leaf (get_or xs i 0) + size_of (get_or xs i 0) ≤ first_leaf (get_or ys next 0) =
    elim (meeting (get_or xs i 0) (get_or ys next 0) cx cn) [
      | before m ↦ m
      | after m ↦ let more = (cell_leaves (get_or ys next 0) cn).some in absurd (omega arith)
      | within m ↦ let w = m.low in absurd (omega arith)
      | around m ↦ let w = m.high in absurd (omega arith)
    ] in
    ended_to xs i (first_leaf (get_or ys next 0)) (packed_from_local xs lx) h over

-- the cells of `xs` that begin no later than a cell of `ys` are those up to the first that ends after it begins
begun_up : {xs : List ℕ} (i lo : ℕ) →
    IsLocal xs → EndsAfter xs i lo → (k : ℕ) → k < length xs → first_leaf (get_or xs k 0) ≤ lo → k < i + 1
begun_up {xs} i lo lx ends k h le =
    ⊎_elim
    (λ (a : k < i + 1). a)
    (λ (a : i + 1 ≤ k).
    let c : first_leaf (get_or xs i 0) + size_of (get_or xs i 0) ≤ first_leaf (get_or xs k 0) =
    (packed_from_local xs lx).chain i k 0 (omega arith) h in
    let e = ends (omega arith) in
    absurd (omega arith))
    (cases_lt k (i + 1))

-- a cell of `ys` that begins before the next of `xs` isn't held
lacks_next : {xs ys : List ℕ} (i j : ℕ) → IsLocal xs →
    IsLocal ys → (j < length ys → FirstEndBy xs i (first_leaf (get_or ys j 0))) → j < length ys → (i < length
    xs → first_leaf (get_or ys j 0) < first_leaf (get_or xs i 0)) → IsWithin (covers (get_or ys j 0)) (has_leaf xs) → ⊥
lacks_next {xs} {ys} i j lx ly ended g later lies =
    let h = held_at xs i (get_or ys j 0) lx (ly.cells j 0 g) (ended g)
    (λ (h : i < length xs). let b = later h in omega arith) lies in
    let low = h.within.low in
    let b = later h.there in
    absurd (omega arith)

-- ---- either question

pub after_on : (q : Question) (i : ℕ) → i ≤ After q i
after_on Contains i = omega arith
after_on Intersects i = omega arith

pub after_within : (q : Question) {i m : ℕ} → i < m → After q i ≤ m
after_within Contains h = omega arith
after_within Intersects h = omega arith

-- a cell of `xs` that doesn't lack what a cell of `ys` has holds it
inside : (x y : ℕ) → (Settles Contains x y → ⊥) →
    (first_leaf x ≤ first_leaf y) × (first_leaf y + size_of y ≤ first_leaf x + size_of x)
inside x y left_open =
    ⊎_elim
    (λ (a : first_leaf y < first_leaf x). absurd (left_open (λ h. let l = h.0 in omega arith)))
    (λ (a : first_leaf x ≤ first_leaf y). ⊎_elim
    (λ (b : first_leaf x + size_of x < first_leaf y + size_of y). absurd (left_open (λ h. let l = h.1 in omega arith)))
    (λ (b : first_leaf y + size_of y ≤ first_leaf x + size_of x). (a, b))
    (cases_lt (first_leaf x + size_of x) (first_leaf y + size_of y)))
    (cases_lt (first_leaf y) (first_leaf x))

-- a cell that leaves the question open ends by the leaf up to which the one of `xs` does
pub open_by : (q : Question) (x y : ℕ) → (Settles q x y → ⊥) → first_leaf y + size_of y ≤ OpenTo q x
open_by Contains x y left_open = (inside x y left_open).1
open_by Intersects x y left_open =
    ⊎_elim
    (λ (a : first_leaf x < first_leaf y + size_of y). absurd (left_open a))
    (λ (a : first_leaf y + size_of y ≤ first_leaf x). a)
    (cases_lt (first_leaf x) (first_leaf y + size_of y))

-- a turn: by the cell of `xs` at `i`, the cells of `ys` from `j` to before `next` leave the question open
pub record Turned (q : Question) (xs ys : List ℕ) (i j next : ℕ) : Type 0 where
  pub in_x : i < length xs
  pub in_y : j < length ys
  pub place : Placed xs ys i j
  pub left_open : Settles q (get_or xs i 0) (get_or ys j 0) → ⊥
  pub passed : FirstEndBy ys next (OpenTo q (get_or xs i 0))
  pub ends : EndsAfter ys next (OpenTo q (get_or xs i 0))
  pub on : j < next
  pub within : next ≤ length ys

pub open_more : (q : Question) {xs ys : List ℕ} (i j next : ℕ) → IsLocal xs → IsLocal ys → Turned q xs ys i j next →
    ((k : ℕ) → k < j → LeavesOpen q xs (get_or ys k 0)) → (k : ℕ) → k < next → LeavesOpen q xs (get_or ys k 0)
open_more Contains {xs} {ys} i j next lx ly t so_far =
    held_more i j next lx ly t.in_x t.within (inside (get_or xs i 0) (get_or ys j 0) t.left_open).0 t.passed so_far
open_more Intersects i j next lx ly t so_far =
    none_more i j next lx ly t.within t.place.ended (λ _. t.passed) so_far

pub ended_after : (q : Question) {xs ys : List ℕ} (i j next : ℕ) → IsLocal xs → IsLocal ys → Turned q xs ys i j next →
    next < length ys → FirstEndBy xs (After q i) (first_leaf (get_or ys next 0))
ended_after Contains {xs} {ys} i j next lx ly t l =
    let e = inside (get_or xs i 0) (get_or ys j 0) t.left_open in
    ended_next xs ys i j next lx ly t.in_x t.in_y t.on e.0 e.1 t.ends l
ended_after Intersects {xs} {ys} i j next lx ly t l =
    ended_on xs ys i j next ly (let o = t.on in omega arith) l t.place.ended

pub begun_by : (q : Question) {xs ys : List ℕ} (i j next : ℕ) → IsLocal xs → Turned q xs ys i j next → (k : ℕ) →
    k < length xs → first_leaf (get_or xs k 0) ≤ first_leaf (get_or ys j 0) → k < After q i
begun_by Contains {xs} {ys} i j next lx t = begun_up i (first_leaf (get_or ys j 0)) lx t.place.after
begun_by Intersects {xs} {ys} i j next lx t =
    let some = (cell_leaves (get_or ys j 0) t.place.cell).some in
    let apart : first_leaf (get_or ys j 0) + size_of (get_or ys j 0) ≤ first_leaf (get_or xs i 0) =
    open_by Intersects (get_or xs i 0) (get_or ys j 0) t.left_open in
    begun_before i (first_leaf (get_or ys j 0)) lx (omega arith)

pub decides_next : (q : Question) {xs ys : List ℕ} (i j next : ℕ) → IsLocal xs → IsLocal ys → Turned q xs ys i j next →
    next < length ys → (After q i < length xs → first_leaf (get_or ys next 0) < first_leaf (get_or xs (After q i) 0)) →
    Decides q xs (get_or ys next 0)
decides_next Contains i j next lx ly t = lacks_next (i + 1) next lx ly (ended_after Contains i j next lx ly t)
decides_next Intersects i j next lx ly t = meets_next i next lx ly t.in_x t.ends

-- a cell that leaves the question open doesn't decide it
pub not_both : (q : Question) (xs : List ℕ) (y : ℕ) → LeavesOpen q xs y → Decides q xs y → ⊥
not_both Contains xs y held lacks = lacks held
not_both Intersects xs y none meets = none meets

-- each turn after the first gets on in `xs`
pub gets_on : (q : Question) {xs ys : List ℕ} (from i j next : ℕ) → Turned q xs ys i j next → from ≤ i →
    (Lacks q ≡ false → 0 < j → EndsAfter ys j (first_leaf (get_or xs from 0))) → 0 < j → from < After q i
gets_on Contains from i j next t h ends some = omega arith
gets_on Intersects {xs} {ys} from i j next t h ends some =
    ⊎_elim
    (λ (l : from < i). l)
    (λ (l : i ≤ from).
    let e : i ≡ from = omega arith in
    let same : first_leaf (get_or xs i 0) ≡ first_leaf (get_or xs from 0) = ap (λ k. first_leaf (get_or xs k 0)) e in
    let b : first_leaf (get_or xs from 0) < first_leaf (get_or ys j 0) + size_of (get_or ys j 0) =
    ends refl some t.in_y in
    let apart : first_leaf (get_or ys j 0) + size_of (get_or ys j 0) ≤ first_leaf (get_or xs i 0) =
    open_by Intersects (get_or xs i 0) (get_or ys j 0) t.left_open in
    absurd (omega arith))
    (cases_lt from i)

pub ends_after : (q : Question) {xs ys : List ℕ} (i j next : ℕ) → Turned q xs ys i j next → Lacks q ≡ false →
    EndsAfter ys next (first_leaf (get_or xs (After q i) 0))
ends_after Contains i j next t e = absurd (false≢true (sym e))
ends_after Intersects i j next t e = t.ends

-- the cell at `j` decides
pub settled : (q : Question) {xs ys : List ℕ} (i j : ℕ) → IsLocal xs → i < length xs → Placed xs ys i j →
    Settles q (get_or xs i 0) (get_or ys j 0) → Decides q xs (get_or ys j 0)
settled Contains {xs} {ys} i j lx h p outside =
    λ lies.
    let there = held_at xs i (get_or ys j 0) lx p.cell p.ended p.after lies in
    outside (there.within.low, there.within.high)
settled Intersects {xs} {ys} i j lx h p l = shared_at xs i (get_or ys j 0) lx.cells p.cell h (p.after h) l

-- and where `xs` has ended it decides, or all are open
pub lacking : (q : Question) {xs ys : List ℕ} (i j : ℕ) → IsLocal xs → length xs ≤ i → Placed xs ys i j →
    Lacks q ≡ true → Decides q xs (get_or ys j 0)
lacking Contains {xs} {ys} i j lx out p e =
    λ lies. let there = (held_at xs i (get_or ys j 0) lx p.cell p.ended p.after lies).there in absurd (omega arith)
lacking Intersects i j lx out p e = absurd (false≢true e)

pub open_rest : (q : Question) {xs ys : List ℕ} (i j : ℕ) → IsLocal xs → IsLocal ys → length xs ≤ i → Placed xs ys i j →
    ((k : ℕ) → k < j → LeavesOpen q xs (get_or ys k 0)) → Lacks q ≡ false → (k : ℕ) → k < length ys →
    LeavesOpen q xs (get_or ys k 0)
open_rest Contains i j lx ly out p so_far e = absurd (false≢true (sym e))
open_rest Intersects {xs} {ys} i j lx ly out p so_far e =
    none_more i j (length ys) lx ly (omega arith) p.ended (λ l. absurd (omega arith)) so_far

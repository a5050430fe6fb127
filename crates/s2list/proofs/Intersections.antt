-- What two lists of cells share, written on a walk along both.
use Rattle.std.proofs.Common.{◌≡◌, ℕ, ◌+◌, ◌-◌, ◌<◌, ◌≤◌, refl, ap, ◌∙◌, arith, Bool, List, [], ◌++◌}
use Rattle.std.proofs.Common.{length, ◌⊎◌, get_or, take, drop, inl}
use Rattle.std.proofs.Math.Logic.{⊎_elim}
use Rattle.std.proofs.lemmas.Bool.Decides.{nat_tests}
use Rattle.s2cell.specs.Cell.{IsCell, IsInside, first_leaf, size_of}
use Rattle.s2cell.proofs.Leaves.{inside_from_within, within_from_inside}
use Rattle.s2list.specs.Union.{IsLocal, has_leaf}
use Rattle.s2list.specs.Packed.{EndsAfter, IsPacked, FirstEndBy}
use Rattle.s2list.proofs.Checking.{packed_from_local}
use Rattle.s2list.proofs.Finding.{ended_to}
use Rattle.s2list.proofs.Packing.{is_at}
use Rattle.s2list.proofs.Picking.{picked_none}
use Rattle.s2list.proofs.Intersecting.{Intersecting, both, held_else, intersect_x, intersecting_done, intersecting_swap}
use Rattle.s2list.proofs.Intersecting.{skip_x}
use Rattle.s2list.specs.Output.{Writes}
use Rattle.s2list.proofs.Writing.{Counts, written_normal}

-- a list of what is shared so far was written
pub record IntersectionIn (S : ℕ → Bool) (xs ys : List ℕ) (Holds : List ℕ → Type 0) (i j : ℕ) : Type 0 where
  pub list : List ℕ
  pub held : Holds list
  pub intersecting : Intersecting S xs ys list i j

pub intersection_none : (xs ys : List ℕ) (Holds : List ℕ → Type 0) → Holds [] →
    IntersectionIn (both xs ys) xs ys Holds 0 0
intersection_none xs ys Holds held = record {
  list = [];
  held = held;
  intersecting = record {
    lo = 0;
    same = λ x. refl;
    walk = record {
      ended_x = λ k h. absurd (omega arith);
      ended_y = λ k h. absurd (omega arith);
      leaves = λ x. grind (arith, nat_tests);
    };
    from = inl (λ h. omega arith);
    picked = picked_none (both xs ys);
  };
}

pub intersection_swap : {S : ℕ → Bool} {xs ys : List ℕ} {Holds : List ℕ → Type 0} {i j : ℕ} →
    IntersectionIn S xs ys Holds i j → IntersectionIn S ys xs Holds j i
intersection_swap {S} {xs} {ys} {i = i} {j} s = record {
  list = s.list;
  held = s.held;
  intersecting = intersecting_swap S xs ys s.list i j s.intersecting;
}

-- the next cell of xs ends before the next of ys, and so do all up to a place
pub intersection_skip : {S : ℕ → Bool} {xs ys : List ℕ} {Holds : List ℕ → Type 0} {i j next x y end first : ℕ} →
    IsLocal xs → IsLocal ys → IntersectionIn S xs ys Holds i j → i < length xs → j < length ys →
    x ≡ get_or xs i 0
    → y ≡ get_or ys j 0 → (IsCell x → end ≡ first_leaf x + size_of x) → (IsCell y → first ≡ first_leaf y) → end ≤ first
    → i + 1 ≤ next → next ≤ length xs → (IsPacked xs → FirstEndBy xs (i + 1) first → FirstEndBy xs next first)
    → (IsPacked xs → FirstEndBy xs (i + 1) first → EndsAfter xs next first) → IntersectionIn S xs ys Holds next j
intersection_skip {S} {xs} {ys} {i = i} {j} {next} {x} {y} {end} {first} lx ly s h g rx ry ends begins apart le in_x
    leap
    past =
    let cx : IsCell x = rw rx (lx.cells i 0 h) in
    let cy : IsCell y = rw ry (ly.cells j 0 g) in
    let ex : end ≡ first_leaf (get_or xs i 0) + size_of (get_or xs i 0) = ends cx
    ∙ ap (λ v. first_leaf v + size_of v) rx in
    let ey : first ≡ first_leaf (get_or ys j 0) = begins cy ∙ ap first_leaf ry in
    let from : FirstEndBy xs (i + 1) first = ended_to xs i first (packed_from_local xs lx) h (omega arith) in
    let ended : FirstEndBy xs next (first_leaf (get_or ys j 0)) = rw ey at (leap (packed_from_local xs lx) from) in
    record {
      list = s.list;
      held = s.held;
      intersecting = skip_x S xs ys s.list i j next (get_or ys j 0) lx ly s.intersecting g
          (is_at ys j (get_or ys j 0) g refl) (omega arith) in_x ended;
    }

-- the next cell of xs lies in the next of ys, and all up to a place are written
pub intersection_run : {S : ℕ → Bool} {xs ys : List ℕ} {Holds : List ℕ → Type 0} {i j next x y end : ℕ} →
    (Later : List ℕ → Type 0) → IsLocal xs → IsLocal ys → IntersectionIn S xs ys Holds i j →
    i < length xs → j < length ys → x ≡ get_or xs i 0
    → y ≡ get_or ys j 0 → IsInside x y → (IsCell y → end ≡ first_leaf y + size_of y) → i + 1 ≤ next
    → next ≤ length xs
    → (IsPacked xs → FirstEndBy xs (i + 1) end → FirstEndBy xs next end)
    → (IsPacked xs → FirstEndBy xs (i + 1) end → EndsAfter xs next end)
    → ((list : List ℕ) → Holds list → Later (list ++ take (next - i) (drop i xs)))
    → IntersectionIn S xs ys Later next (j + 1)
intersection_run {S} {xs} {ys} {i = i} {j} {next} {x} {y} {end} Later lx ly s h g rx ry inside ends le in_x leap past
    puts =
    let cy : IsCell y = rw ry (ly.cells j 0 g) in
    let p = packed_from_local xs lx in
    let ey : end ≡ first_leaf (get_or ys j 0) + size_of (get_or ys j 0) = ends cy
    ∙ ap (λ v. first_leaf v + size_of v) ry in
    let lies : IsInside (get_or xs i 0) (get_or ys j 0) = rw (rx, ry) at inside in
    let w = within_from_inside (get_or xs i 0) (get_or ys j 0) (lx.cells i 0 h) lies in
    let high = w.high in
    let from : FirstEndBy xs (i + 1) end = ended_to xs i end p h (omega arith) in
    let ended : FirstEndBy xs next (first_leaf (get_or ys j 0) + size_of (get_or ys j 0)) = rw ey at (leap p from) in
    let later : EndsAfter xs next (first_leaf (get_or ys j 0) + size_of (get_or ys j 0)) = rw ey at (past p from) in
    record {
      list = s.list ++ take (next - i) (drop i xs);
      held = puts s.list s.held;
      intersecting = intersect_x S xs ys s.list (s.list ++ take (next - i) (drop i xs)) i j next (get_or xs i 0)
          (get_or ys j 0)
          lx ly s.intersecting h g (is_at xs i (get_or xs i 0) h refl) (is_at ys j (get_or ys j 0) g refl) lies
          (omega arith)
          in_x ended (λ l. let o = later l in omega arith) refl;
    }

-- a cell whose leaves are among those of another lies in it
pub inside_by : {xs ys : List ℕ} {i j x y x_first x_end y_first y_end : ℕ} → IsLocal xs → IsLocal ys → i < length xs →
    j < length ys → x ≡ get_or xs i 0 → y ≡ get_or ys j 0
    → (IsCell x → x_first ≡ first_leaf x) → (IsCell x → x_end ≡ first_leaf x + size_of x)
    → (IsCell y → y_first ≡ first_leaf y) → (IsCell y → y_end ≡ first_leaf y + size_of y)
    → y_first ≤ x_first → x_end ≤ y_end → IsInside x y
inside_by {xs} {ys} {i} {j} {x} {y} {x_first} {x_end} {y_first} {y_end} lx ly h g rx ry fx ex fy ey low high =
    let cx : IsCell x = rw rx (lx.cells i 0 h) in
    let cy : IsCell y = rw ry (ly.cells j 0 g) in
    let a = fx cx in
    let b = ex cx in
    let c = fy cy in
    let d = ey cy in
    inside_from_within x y (record { low = omega arith; high = omega arith })

-- and of two that share a leaf one lies in the other
pub inside_else : {xs ys : List ℕ} {i j x y x_first x_end y_first y_end : ℕ} → IsLocal xs → IsLocal ys → i < length xs →
    j < length ys → x ≡ get_or xs i 0 → y ≡ get_or ys j 0
    → (IsCell x → x_first ≡ first_leaf x) → (IsCell x → x_end ≡ first_leaf x + size_of x)
    → (IsCell y → y_first ≡ first_leaf y) → (IsCell y → y_end ≡ first_leaf y + size_of y)
    → y_first < x_end → x_first < y_end → ((y_first ≤ x_first) × (x_end ≤ y_end) → ⊥) → IsInside y x
inside_else {xs} {ys} {i} {j} {x} {y} {x_first} {x_end} {y_first} {y_end} lx ly h g rx ry fx ex fy ey meets reaches
    not_in =
    let cx : IsCell x = rw rx (lx.cells i 0 h) in
    let cy : IsCell y = rw ry (ly.cells j 0 g) in
    let a = fx cx in
    let b = ex cx in
    let c = fy cy in
    let d = ey cy in
    held_else xs ys i j x y lx ly h g (is_at xs i x h rx) (is_at ys j y g ry) (omega arith) (omega arith)
    (λ inside.
    let w = within_from_inside x y cx inside in
    let low = w.low in
    let high = w.high in
    not_in (omega arith, omega arith))

-- one of the lists is at its end
intersection_all : {S : ℕ → Bool} {xs ys : List ℕ} {Holds : List ℕ → Type 0} {i j : ℕ} →
    (s : IntersectionIn S xs ys Holds i j) → (length xs ≤ i) ⊎ (length ys ≤ j) → (x : ℕ) → has_leaf s.list x ≡ S x
intersection_all {S} {xs} {ys} {i = i} {j} s ends = ⊎_elim
    (λ (h : length xs ≤ i). intersecting_done S xs ys s.list i j s.intersecting h)
    (λ (h : length ys ≤ j). intersecting_done S ys xs s.list j i (intersecting_swap S xs ys s.list i j s.intersecting)
    h)
    ends

pub intersection_done : {S : ℕ → Bool} {xs ys : List ℕ} {Holds : List ℕ → Type 0} {n i j : ℕ} →
    Counts Holds n → IntersectionIn S xs ys Holds i j → (length xs ≤ i) ⊎ (length ys ≤ j)
    → Writes S Holds n
intersection_done {S} {Holds = Holds} {n} counts s ends =
    written_normal S Holds s.list n counts s.intersecting.picked (intersection_all s ends) s.held

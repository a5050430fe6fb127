-- What one list of cells has without the leaves of another, written on a walk along both.
use Rattle.std.proofs.Common.{◌≡◌, ℕ, ◌+◌, ◌-◌, ◌<◌, ◌≤◌, refl, sym, ◌∙◌, ap, arith, Bool, inl, List, []}
use Rattle.std.proofs.Common.{◌++◌, length, get_or, take, drop, max}
use Rattle.std.proofs.Common.{IsTrue, false, inr, ◌⊎◌, ◌&&◌, not}
use Rattle.std.proofs.Math.Logic.{⊎_elim}
use Rattle.std.proofs.lemmas.Bool.{cases_lt, false≢true}
use Rattle.std.proofs.lemmas.Bool.Decides.{nat_tests}
use Rattle.s2cell.specs.Cell.{IsCell, first_leaf, size_of}
use Rattle.s2cell.specs.declared.TheConstants.{LEAVES}
use Rattle.s2cell.proofs.CellLemmas.{cell_leaves}
use Rattle.s2list.specs.Union.{IsLocal, has_leaf}
use Rattle.s2list.specs.Packed.{IsPacked, FirstEndBy}
use Rattle.s2list.proofs.Checking.{packed_from_local}
use Rattle.s2list.proofs.Picking.{picked_none}
use Rattle.s2list.proofs.Differences.{Difference, minus, difference_free, difference_from}
use Rattle.s2list.proofs.Differences.{difference_on_x, difference_on_y, difference_run, difference_taken}
use Rattle.s2list.specs.Output.{Fills, WritesUpTo}
use Rattle.s2list.proofs.Walking.{walk_done}
use Rattle.s2list.proofs.Writing.{Counts, written_normal, written_past}

-- a list of what is left so far was written
pub record LeavingIn (xs ys : List ℕ) (Holds : List ℕ → Type 0) (i j lo : ℕ) : Type 0 where
  pub list : List ℕ
  pub held : Holds list
  pub left : Difference xs ys list i j lo

pub left_none : (xs ys : List ℕ) (Holds : List ℕ → Type 0) → Holds [] → LeavingIn xs ys Holds 0 0 0
left_none xs ys Holds held = record {
  list = [];
  held = held;
  left = record {
    in_x = omega arith;
    in_y = omega arith;
    picked = picked_none (minus xs ys);
    walk = record {
      ended_x = λ k h. absurd (omega arith);
      ended_y = λ k h. absurd (omega arith);
      leaves = λ x. grind (arith, nat_tests);
    };
    edge = λ h. inl (omega arith);
  };
}

-- a test that fails says the opposite
pub not_before : (b : Bool) (a end : ℕ) → (a < end → IsTrue b) → b ≡ false → end ≤ a
not_before b a end test e = ⊎_elim (λ (h : a < end). absurd (false≢true (sym e ∙ test h))) (λ (h : end ≤ a). h)
    (cases_lt a end)

-- from the next cell of xs on, and past the cells of ys that end by it
pub left_on : {xs ys : List ℕ} {Holds : List ℕ → Type 0} {i j lo next x first start : ℕ} → IsLocal xs → IsLocal ys →
    LeavingIn xs ys Holds i j lo → i < length xs → x ≡ get_or xs i 0 → (IsCell x → first ≡ first_leaf x)
    → start ≡ max first lo → next ≤ length ys
    → (IsPacked ys → FirstEndBy ys j start → FirstEndBy ys next start)
    → LeavingIn xs ys Holds i next start
left_on {xs} {ys} {i = i} {j} {lo} {next} {x} {first} {start} lx ly s h rx fx es in_y leap =
    let cx : IsCell x = rw rx (lx.cells i 0 h) in
    let e : start ≡ max (first_leaf x) lo = es ∙ ap (λ v. max v lo) (fx cx) in
    let on = difference_from xs ys s.list i j lo start x lx s.left h (sym rx) e in
    record {
      list = s.list;
      held = s.held;
      left = difference_on_y xs ys s.list i j start next on in_y (leap (packed_from_local ys ly) on.walk.ended_y);
    }

-- the next cell of ys begins before the cell of xs ends
pub left_taken : {xs ys : List ℕ} {Holds : List ℕ → Type 0} {i j x y first end start y_first y_end next : ℕ} →
    (lo : ℕ) (Later : List ℕ → Type 0) →
    IsLocal xs → IsLocal ys → LeavingIn xs ys Holds i j start → i < length xs → j < length ys → x ≡ get_or xs i 0
    → y ≡ get_or ys j 0 → (IsCell x → first ≡ first_leaf x) → (IsCell x → end ≡ first_leaf x + size_of x)
    → (IsCell y → y_first ≡ first_leaf y) → (IsCell y → y_end ≡ first_leaf y + size_of y) → start ≡ max first lo
    → y_first < end → next ≡ max y_end start
    → ((start < y_first → y_first ≤ LEAVES) → (list : List ℕ) → Holds list → Fills Later list start y_first)
    → LeavingIn xs ys Later i (j + 1) next
left_taken {xs} {ys} {i = i} {j} {x} {y} {first} {end} {start} {y_first} {y_end} {next} lo Later lx ly s h g rx ry
    fx ex fy ey es before en puts =
    let cx : IsCell x = rw rx (lx.cells i 0 h) in
    let cy : IsCell y = rw ry (ly.cells j 0 g) in
    let a = fx cx in
    let b = ex cx in
    let c = fy cy in
    let d = ey cy in
    let w = (cell_leaves y cy).within in
    let (longer, fills, held) = puts (λ _. omega arith) s.list s.held in
    record {
      list = longer;
      held = held;
      left = difference_taken xs ys s.list longer i j start start y_first next x y lx ly s.left h g (sym rx) (sym ry)
          (omega arith) (omega arith) c (omega arith) fills;
    }

pub left_jump : {xs ys : List ℕ} {Holds : List ℕ → Type 0} {i j lo next : ℕ} → IsLocal xs →
    LeavingIn xs ys Holds i j lo →
    i ≤ next → next ≤ length xs → (IsLocal xs → FirstEndBy xs i lo → FirstEndBy xs next lo)
    → LeavingIn xs ys Holds next j lo
left_jump {xs} {ys} {i = i} {j} {lo} {next} lx s le in_x leap = record {
  list = s.list;
  held = s.held;
  left = difference_on_x xs ys s.list i j lo next lx s.left le in_x (leap lx s.left.walk.ended_x);
}

-- the rest of the cell of xs is free of ys
pub left_free : {xs ys : List ℕ} {Holds : List ℕ → Type 0} {i j x first end start next : ℕ} →
    (lo : ℕ) (Later : List ℕ → Type 0) →
    IsLocal xs → IsLocal ys →
    LeavingIn xs ys Holds i j start → i < length xs → x ≡ get_or xs i 0 → (IsCell x → first ≡ first_leaf x)
    → (IsCell x → end ≡ first_leaf x + size_of x) → start ≡ max first lo
    → (j < length ys → end ≤ first_leaf (get_or ys j 0)) → next ≡ max end start
    → ((start < end → end ≤ LEAVES) → (list : List ℕ) → Holds list → Fills Later list start end)
    → LeavingIn xs ys Later (i + 1) j next
left_free {xs} {ys} {i = i} {j} {x} {first} {end} {start} {next} lo Later lx ly s h rx fx ex es free en puts =
    let cx : IsCell x = rw rx (lx.cells i 0 h) in
    let a = fx cx in
    let b = ex cx in
    let w = (cell_leaves x cx).within in
    let (longer, fills, held) = puts (λ _. omega arith) s.list s.held in
    record {
      list = longer;
      held = held;
      left = difference_free xs ys s.list longer i j start start end next x lx ly s.left h (sym rx) free
          (omega arith) b
          en fills;
    }

-- all cells of xs up to a place end before the next of ys
pub left_run : {xs ys : List ℕ} {Holds : List ℕ → Type 0} {i j x first start next last end : ℕ} →
    (Later : List ℕ → Type 0) →
    IsLocal xs → IsLocal ys →
    LeavingIn xs ys Holds i j start → i < length xs → x ≡ get_or xs i 0 → (IsCell x → first ≡ first_leaf x)
    → start ≡ first → i < next → next ≤ length xs
    → (j < length ys → FirstEndBy xs next (first_leaf (get_or ys j 0))) → last ≡ get_or xs (next - 1) 0
    → (IsCell last → end ≡ first_leaf last + size_of last)
    → ((list : List ℕ) → Holds list → Later (list ++ take (next - i) (drop i xs)))
    → LeavingIn xs ys Later next j end
left_run {xs} {ys} {i = i} {j} {x} {first} {start} {next} {last} {end} Later lx ly s h rx fx es more in_x
    free rl el puts =
    let cx : IsCell x = rw rx (lx.cells i 0 h) in
    let a = fx cx in
    let ax = ap first_leaf rx in
    let cl : IsCell last = rw rl (lx.cells (next - 1) 0 (omega arith)) in
    let b : end ≡ first_leaf (get_or xs (next - 1) 0) + size_of (get_or xs (next - 1) 0) = el cl
    ∙ ap (λ v. first_leaf v + size_of v) rl in
    record {
      list = s.list ++ take (next - i) (drop i xs);
      held = puts s.list s.held;
      left = difference_run xs ys s.list (s.list ++ take (next - i) (drop i xs)) i j start next end lx ly s.left
          (omega arith) more in_x free b refl;
    }

pub left_done : {xs ys : List ℕ} {Holds : List ℕ → Type 0} {n i j lo most : ℕ} → Counts Holds n →
    LeavingIn xs ys Holds i j lo → (length xs ≤ i) ⊎ (most < n) → WritesUpTo most (minus xs ys) Holds n
left_done {xs} {ys} {Holds} {n} {i} {j} {lo} {most} counts s ends = ⊎_elim
    (λ (h : length xs ≤ i). inl (written_normal (minus xs ys) Holds s.list n counts s.left.picked
    (walk_done s.left.walk h (λ x n. ap (λ v. v && not (has_leaf ys x)) n)) s.held))
    (λ (h : most < n). inr (
      h,
      λ u normal. written_past (minus xs ys) Holds s.list u n most counts s.left.picked normal
          s.held h,
    ))
    ends

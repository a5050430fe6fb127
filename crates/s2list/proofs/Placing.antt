-- Cells of the front that lie inside a cell are left out.
use Rattle.std.proofs.Common.{◌≡◌, ℕ, ◌+◌, ◌-◌, ◌*◌, ◌<◌, ◌≤◌, refl, sym, ◌∙◌, ap, arith, Bool, true}
use Rattle.std.proofs.Common.{false, ◌||◌, List, [], ◌∷◌, ◌++◌, length, take, get_or, All}
use Rattle.std.proofs.Math.Logic.{⊎_elim}
use Rattle.std.proofs.lemmas.Bool.{cases_lt}
use Rattle.std.proofs.lemmas.List.{get_or-take, length-take-le}
use Rattle.std.proofs.lemmas.Option.{gets}
use Rattle.std.proofs.lemmas.List.Folds.{list_any_more}
use Rattle.std.specs.List.{list_any}
use Rattle.std.proofs.lemmas.List.Elements.{All-push, All-take, All-weaker}
use Rattle.std.specs.List.Sorted.{IsNonDecreasing}
use Rattle.s2cell.specs.Cell.{IsCell, size_of, first_leaf, covers, IsInside}
use Rattle.s2cell.proofs.CellLemmas.{cell_leaves}
use Rattle.s2cell.proofs.Leaves.{Within, covers_from, inside_from_within, within_from_inside}
use Rattle.s2cell.proofs.Leaves.{before, after, within, around, meeting}
use Rattle.s2list.specs.Union.{has_leaf}
use Rattle.s2list.specs.Packed.{EndsBefore, IsPacked}
use Rattle.s2list.proofs.Packing.{read_at}
use Rattle.s2list.proofs.Walking.{leaf_there}

-- the cells from `kept` on lie inside the cell
pub record Leaving (front : List ℕ) (cell kept : ℕ) : Type 0 where
  pub within : kept ≤ length front
  pub inside : kept < length front → Within (get_or front kept 0) cell
  pub leaves : (x : ℕ) → (has_leaf (take kept front) x || covers cell x) ≡ (has_leaf front x || covers cell x)

-- what is covered twice
or_within : (l a b : Bool) → (a ≡ true → b ≡ true) → ((l || a) || b) ≡ (l || b)
or_within true a b h = refl
or_within false true b h = sym (h refl)
or_within false false b h = refl

or_held : (l a : Bool) → (a ≡ true → l ≡ true) → l ≡ (l || a)
or_held true a h = refl
or_held false true h = h refl
or_held false false h = refl

-- a cell in one of the front adds no leaf
pub leaves_held : (front : List ℕ) {cell : ℕ} (k : ℕ) → k < length front → Within cell (get_or front k 0) →
    (x : ℕ) → has_leaf front x ≡ (has_leaf front x || covers cell x)
leaves_held front {cell} k h w x = or_held (has_leaf front x) (covers cell x) (λ v.
    let r = covers_from cell x v in
    let (low, high) = r in
    let wl = w.low in
    let wh = w.high in
    leaf_there front k x h (omega arith) (omega arith))

pub leaving_step : (front : List ℕ) (cell kept x : ℕ) → IsPacked front → Leaving front cell kept → 0 < kept →
    x ≡ get_or front (kept - 1) x → IsInside x cell → Leaving front cell (kept - 1)
leaving_step front cell kept x packed l h r i =
    let w = l.within in
    let less = kept - 1 in
    let is : get_or front less 0 ≡ x = read_at front (kept - 1) less x (omega arith) refl r in
    let cx : IsCell (get_or front less 0) = packed.cells less 0 (omega arith) in
    let j : IsInside (get_or front less 0) cell = rw is i in
    let e : less + 1 ≡ kept = omega arith in
    record {
      within = omega arith;
      inside = λ _. within_from_inside (get_or front less 0) cell cx j;
      leaves = λ y.
          let p = λ (c : ℕ). covers c y in
          let m : list_any p (take (less + 1) front) ≡ (list_any p (take less front) || p (get_or front less 0)) =
          list_any_more p front less 0 (omega arith) in
          sym (or_within (has_leaf (take less front) y) (covers (get_or front less 0) y) (covers cell y) (j y))
          ∙ ap (λ v. v || covers cell y) (sym m ∙ ap (λ n. has_leaf (take n front) y) e) ∙ l.leaves y;
    }

-- if the last cell that stays does not lie inside, all that stay end before the cell
pub leaving_done : (front : List ℕ) (cell kept : ℕ) → IsPacked front → All (λ c. 2 * first_leaf c < cell) front →
    IsCell cell → (0 < length front → IsInside cell (get_or front (length front - 1) 0) → ⊥) → Leaving front cell kept →
    (0 < kept → IsInside (get_or front (kept - 1) 0) cell → ⊥) → All (λ c. EndsBefore c cell) (take kept front)
leaving_done front cell kept packed starts cc held l out k d h =
    let w = l.within in
    let len : length (take kept front) ≡ kept = length-take-le kept front w in
    let less = kept - 1 in
    let a = get_or front less 0 in
    let ca : IsCell a = packed.cells less 0 (omega arith) in
    let st : 2 * first_leaf a < cell = starts less 0 (omega arith) in
    let la = cell_leaves a ca in
    let lc = cell_leaves cell cc in
    let mc = lc.middle in
    let sc = lc.some in
    let sa = la.some in
    let last : EndsBefore a cell = elim (meeting a cell ca cc) [
      | before m ↦ m
      | after m ↦ absurd (omega arith)
      | within m ↦ absurd (out (omega arith) (inside_from_within a cell m))
      | around m ↦
          ⊎_elim
          (λ (g : kept < length front).
          let i = l.inside g in
          let il = i.low in
          let ih = i.high in
          let ml = m.low in
          let mh = m.high in
          let next : first_leaf a + size_of a ≤ first_leaf (get_or front kept 0) =
          packed.chain less kept 0 (omega arith) g in
          let sk : 0 < size_of (get_or front kept 0) =
          (cell_leaves (get_or front kept 0) (packed.cells kept 0 g)).some in
          absurd (omega arith))
          (λ (g : length front ≤ kept).
          let e : less ≡ length front - 1 = omega arith in
          absurd (held (omega arith) (rw e at (inside_from_within cell a m))))
          (cases_lt kept (length front))
    ] in
    let e : get_or (take kept front) k d ≡ get_or front k 0 =
    (let f : get_or (take kept front) k d ≡ get_or front k d = get_or-take kept front k d (omega arith) in
    let g : get_or front k d ≡ get_or front k 0 = grind (arith, gets) in f ∙ g) in
    rw e (⊎_elim
    (λ (g : k < less).
    let c : first_leaf (get_or front k 0) + size_of (get_or front k 0) ≤ first_leaf a =
    packed.chain k less 0 g (omega arith) in
    omega arith)
    (λ (g : less ≤ k).
    let f : k ≡ less = omega arith in
    rw f last)
    (cases_lt k less))

-- ---- the loop of `pack`

-- the first i cells of xs are packed into the first n of ys, which has the later ones in place
pub record Compacting (xs ys : List ℕ) (n i : ℕ) : Type 0 where
  pub within : n ≤ i
  pub packed : IsPacked (take n ys)
  pub leaves : (x : ℕ) → has_leaf (take n ys) x ≡ has_leaf (take i xs) x
  pub rest : (k : ℕ) → i ≤ k → get_or ys k 0 ≡ get_or xs k 0
  pub starts : (j : ℕ) → i ≤ j → j < length xs → All (λ c. 2 * first_leaf c < get_or xs j 0) (take n ys)
  pub same_length : length ys ≡ length xs

-- packed cells at the front stay where they are
pub compacting_front : (xs : List ℕ) (n : ℕ) → IsNonDecreasing xs → n ≤ length xs → IsPacked (take n xs) →
    Compacting xs xs n n
compacting_front xs n up h packed = record {
  within = omega arith;
  packed = packed;
  leaves = λ x. refl;
  rest = λ k g. refl;
  starts = λ j g l k d b.
      let len : length (take n xs) ≡ n = length-take-le n xs h in
      let is : get_or (take n xs) k d ≡ get_or xs k d = get_or-take n xs k d (omega arith) in
      let other : get_or xs k d ≡ get_or xs k 0 = grind (arith, gets) in
      let cell = cell_leaves (get_or (take n xs) k d) (packed.cells k d b) in
      let middle = cell.middle in
      let some = cell.some in
      let le : get_or xs k 0 ≤ get_or xs j 0 = up k j 0 (omega arith) l in
      omega arith;
  same_length = refl;
}

pub compacting_step : (xs ys zs : List ℕ) (n i m cell : ℕ) → IsNonDecreasing xs → Compacting xs ys n i → i < length xs →
    cell ≡ get_or ys i cell → m ≤ n + 1 → IsPacked (take m zs) → All (λ c. 2 * first_leaf c < cell) (take m zs) →
    ((x : ℕ) → has_leaf (take m zs) x ≡ (has_leaf (take n ys) x || covers cell x)) →
    ((k d : ℕ) → n < k → get_or zs k d ≡ get_or ys k d) → length zs ≡ length ys → Compacting xs zs m (i + 1)
compacting_step xs ys zs n i m cell up c h read w packed starts leaves rest len =
    let cw = c.within in
    let cl = c.same_length in
    let is : cell ≡ get_or xs i 0 = sym (read_at ys i i cell (omega arith) refl read) ∙ c.rest i (omega arith) in
    record {
      within = omega arith;
      packed = packed;
      leaves = λ x.
          let p = λ (c : ℕ). covers c x in
          let more : list_any p (take (i + 1) xs) ≡ (list_any p (take i xs) || p (get_or xs i 0)) =
          list_any_more p xs i 0 h in
          leaves x ∙ ap (λ v. v || covers cell x) (c.leaves x) ∙ ap (λ v. has_leaf (take i xs) x || covers v x) is
          ∙ sym more;
      rest = λ k g. rest k 0 (omega arith) ∙ c.rest k (omega arith);
      starts = λ j g l.
          let le : get_or xs i 0 ≤ get_or xs j 0 = up i j 0 (omega arith) l in
          All-weaker (λ c. 2 * first_leaf c < cell) (λ c. 2 * first_leaf c < get_or xs j 0) (λ v s. omega arith)
          (take m zs) starts;
      same_length = len ∙ cl;
    }

pub starts_kept : (front : List ℕ) (k v cell : ℕ) → All (λ c. 2 * first_leaf c < cell) front →
    IsCell cell → first_leaf v ≤ first_leaf cell → All (λ c. 2 * first_leaf c < cell) (take k front ++ v ∷ [])
starts_kept front k v cell all c s =
    let l = cell_leaves cell c in
    let m = l.middle in
    let p = l.some in
    All-push (λ c. 2 * first_leaf c < cell) (take k front) v (All-take (λ c. 2 * first_leaf c < cell) k front all)
    (omega arith)

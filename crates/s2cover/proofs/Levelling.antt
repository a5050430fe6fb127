-- The cells of a union cut to a level, put into a room.
use Rattle.std.proofs.Common.{◌≡◌, ℕ, zero, suc, ◌+◌, ◌-◌, ◌^◌, ◌<◌, ◌≤◌, ◌⊎◌, inl, inr, refl, sym}
use Rattle.std.proofs.Common.{◌∙◌, ap, subst, arith}
use Rattle.std.proofs.Common.{Bool, true, false, cond, List, [], ◌∷◌, ◌++◌, length}
use Rattle.std.proofs.Common.{get_or, take, drop, All, Contains}
use Rattle.std.proofs.Math.Logic.{⊎_elim}
use Rattle.std.proofs.lemmas.Bool.{cases_lt, cond-true, cond-false, le-leb, leb-true, false_from_ne_true}
use Rattle.std.proofs.lemmas.List.{append-nil, get_or-map, length-append, length-map, take_all, take-append-drop}
use Rattle.std.proofs.lemmas.List.Sums.{count_by-le-length, length-filter}
use Rattle.std.proofs.lemmas.List.Elements.{All-contains, All-filter, Contains-get_or, filter_more, filter-append}
use Rattle.std.proofs.lemmas.List.Kept.{AllPairs-from_increasing, IsStrictlyIncreasing-filter}
use Rattle.std.specs.List.{filter}
use Rattle.std.specs.List.Sorted.{IsStrictlyIncreasing}
use Rattle.std.proofs.lemmas.Option.{gets}
use Rattle.s2cell.specs.Cell.{IsCell, level_of, first_leaf, size_of, parent_of, child_of}
use Rattle.s2cell.proofs.CellLemmas.{cell_leaves}
use Rattle.s2cell.proofs.Calls.{IsCell-parent_of}
use Rattle.s2cell.proofs.Family.{deeper_inside, parent_level, parent_around}
use Rattle.s2cell.proofs.Leaves.{Within}
use Rattle.s2list.specs.Union.{has_leaf, IsLocal}
use Rattle.s2list.specs.Packed.{FirstEndBy, IsPacked}
use Rattle.s2list.proofs.Checking.{packed_from_local}
use Rattle.s2list.proofs.Finding.{ends_later, starts_later}
use Rattle.s2list.proofs.Normal.{greatest_apart, member_greatest}
use Rattle.s2list.specs.Room.{PutsUpTo, IsPut}
use Rattle.s2cover.specs.Working.Cut.{cut_at, cells_cut}
use Rattle.s2cover.specs.Cut.{reaches, cells_kept}

-- ---- a cell, cut

pub cut_same : (k c : ℕ) → level_of c ≤ k → cut_at k c ≡ c
cut_same k c h = cond-true (reaches k c) c (parent_of c k) (le-leb (level_of c) k h)

pub deeper : (k c : ℕ) → k < level_of c → reaches k c ≡ false
deeper k c h = false_from_ne_true (reaches k c) (λ t. let l = leb-true (level_of c) k t in absurd (omega arith))

pub cut_parent : (k c : ℕ) → k < level_of c → cut_at k c ≡ parent_of c k
cut_parent k c h = cond-false (reaches k c) c (parent_of c k) (deeper k c h)

-- `b` is the cell `c`, cut to the level `k`
record IsCut (k c b : ℕ) : Type 0 where
  cell : IsCell b
  around : Within c b
  least : level_of b ≤ k
  level : (level_of c ≤ k → b ≡ c) × (k < level_of c → level_of b ≡ k)

is_cut : (k c : ℕ) → IsCell c → IsCut k c (cut_at k c)
is_cut k c own =
    ⊎_elim
    (λ (h : k < level_of c).
    let le : k ≤ level_of c = omega arith in
    let lp = parent_level c k own le in
    subst (IsCut k c) (sym (cut_parent k c h))
    (record {
      cell = IsCell-parent_of c k (parent_of c k) own le refl;
      around = parent_around c k own le;
      least = omega arith;
      level = (λ a. absurd (omega arith), λ _. lp);
    }))
    (λ (h : level_of c ≤ k).
    subst (IsCut k c) (sym (cut_same k c h))
    (record {
      cell = own;
      around = record { low = omega arith; high = omega arith };
      least = h;
      level = (λ _. refl, λ a. absurd (omega arith));
    }))
    (cases_lt k (level_of c))

pub cut_cell : (k c : ℕ) → IsCell c → IsCell (cut_at k c)
cut_cell k c own = (is_cut k c own).cell

-- a cell inside a cell that reaches the level is cut to a cell inside it
cut_within : (k c b : ℕ) → IsCell c → IsCell b → level_of b ≤ k → Within c b → Within (cut_at k c) b
cut_within k c b own cb deep w =
    let t = is_cut k c own in
    let tl = t.level in
    let some = (cell_leaves c own).some in
    let low = t.around.low in
    let high = t.around.high in
    let wl = w.low in
    let wh = w.high in
    ⊎_elim
    (λ (h : k < level_of c).
    let l = tl.1 h in
    deeper_inside (cut_at k c) b (first_leaf c) t.cell cb (omega arith) (omega arith) (omega arith) (omega arith)
    (omega arith))
    (λ (h : level_of c ≤ k). subst (λ x. Within x b) (sym (tl.0 h)) w)
    (cases_lt k (level_of c))

-- cutting keeps the order of the first leaves
cut_order : (k a b : ℕ) → IsCell a → IsCell b → first_leaf a ≤ first_leaf b →
    first_leaf (cut_at k a) ≤ first_leaf (cut_at k b)
cut_order k a b ca cb le =
    let s = is_cut k a ca in
    let t = is_cut k b cb in
    let tl = t.level in
    let sl = s.around.low in
    let tlow = t.around.low in
    let thigh = t.around.high in
    let some = (cell_leaves b cb).some in
    let most = s.least in
    ⊎_elim
    (λ (h : k < level_of b).
    let l = tl.1 h in
    ⊎_elim
    (λ (g : first_leaf (cut_at k b) < first_leaf (cut_at k a)).
    let own = (cell_leaves (cut_at k a) s.cell).some in
    let w = deeper_inside (cut_at k b) (cut_at k a) (first_leaf (cut_at k a)) t.cell s.cell (omega arith) (omega arith)
    (omega arith) (omega arith) (omega arith) in
    w.low)
    (λ (g : first_leaf (cut_at k a) ≤ first_leaf (cut_at k b)). g)
    (cases_lt (first_leaf (cut_at k b)) (first_leaf (cut_at k a))))
    (λ (h : level_of b ≤ k).
    let e = ap first_leaf (tl.0 h) in
    omega arith)
    (cases_lt k (level_of b))

-- ---- the cells of a union, cut

-- the cells of `u` are in the order of their first leaves
pub record Begins (u : List ℕ) : Type 0 where
  pub cells : All IsCell u
  pub order : (j k : ℕ) → j ≤ k → k < length u → first_leaf (get_or u j 0) ≤ first_leaf (get_or u k 0)

pub begins_cut : (k : ℕ) (u : List ℕ) → IsPacked u → Begins (cells_cut k u)
begins_cut k u p =
    let len = length-map u (cut_at k) in
    record {
      cells = λ i d h.
          let g : get_or (cells_cut k u) i d ≡ get_or (cells_cut k u) i 0 = grind (arith, gets) in
          subst IsCell (sym (g ∙ get_or-map (cut_at k) u i 0 0 (omega arith)))
          (cut_cell k (get_or u i 0) (p.cells i 0 (omega arith)));
      order = λ i j le h.
          let a = ap first_leaf (get_or-map (cut_at k) u i 0 0 (omega arith)) in
          let b = ap first_leaf (get_or-map (cut_at k) u j 0 0 (omega arith)) in
          let o = cut_order k (get_or u i 0) (get_or u j 0) (p.cells i 0 (omega arith)) (p.cells j 0 (omega arith))
          (starts_later u i j p le (omega arith)) in
          omega arith;
    }

-- the cells of a union up to one end by the end of that one, cut
pub ended_cut : (k : ℕ) (u : List ℕ) (i end : ℕ) → IsPacked u → i < length u →
    end ≡ first_leaf (cut_at k (get_or u i 0)) + size_of (cut_at k (get_or u i 0)) → FirstEndBy u (i + 1) end
ended_cut k u i end p h e j l =
    let a = ends_later u j i p (omega arith) h in
    let w = (is_cut k (get_or u i 0) (p.cells i 0 h)).around.high in
    omega arith

-- those after it that end by it lie in it, cut
pub passed_cut : (k : ℕ) (u : List ℕ) (i j end : ℕ) → IsPacked u → i ≤ j → j < length u →
    end ≡ first_leaf (cut_at k (get_or u i 0)) + size_of (cut_at k (get_or u i 0)) →
    first_leaf (get_or u j 0) + size_of (get_or u j 0) ≤ end →
    Within (cut_at k (get_or u j 0)) (cut_at k (get_or u i 0))
passed_cut k u i j end p le h e by =
    let own = p.cells i 0 (omega arith) in
    let t = is_cut k (get_or u i 0) own in
    let low = t.around.low in
    let a = starts_later u i j p le h in
    cut_within k (get_or u j 0) (cut_at k (get_or u i 0)) (p.cells j 0 h) t.cell t.least
    (record { low = omega arith; high = omega arith })

-- ---- the cells down to a level

-- cells of a union that are some of its cells are those of a union
pub filter_local : (p : ℕ → Bool) (u : List ℕ) → IsLocal u → IsLocal (filter p u)
filter_local p u l =
    let v = filter p u in
    let among : (c : ℕ) → Contains v c → Contains u c =
    λ c m. let (i, h, is) = m in All-contains (Contains u) v c
    (All-filter p (Contains u) u (λ j d g. Contains-get_or u j d g)) m in
    let ascending : IsStrictlyIncreasing v = IsStrictlyIncreasing-filter p u l.ascending in
    record {
      cells = All-filter p IsCell u l.cells;
      ascending = ascending;
      apart = λ i j d h g x a b.
          let mi = Contains-get_or v i d (omega arith) in
          let mj = Contains-get_or v j d g in
          let same = greatest_apart (has_leaf u) (get_or v i d) (get_or v j d) x
          (member_greatest u l (get_or v i d) (among (get_or v i d) mi))
          (member_greatest u l (get_or v j d) (among (get_or v j d) mj)) a b in
          let less = AllPairs-from_increasing v ascending i j d h g in
          absurd (omega arith);
      unmerged = λ q own deep children. l.unmerged q own deep (λ i h. among (child_of q i) (children i h));
    }

kept_passed : (k : ℕ) (u : List ℕ) (i d : ℕ) → i + d ≤ length u → ((j : ℕ) → i ≤ j → j < i + d →
    k < level_of (get_or u j 0)) → cells_kept k (take (i + d) u) ≡ cells_kept k (take i u)
kept_passed k u i zero within deep = let e : i + 0 ≡ i = omega arith in ap (λ m. cells_kept k (take m u)) e
kept_passed k u i (suc d) within deep =
    let e : i + suc d ≡ i + d + 1 = omega arith in
    let none : reaches k (get_or u (i + d) 0) ≡ false = deeper k (get_or u (i + d) 0)
    (deep (i + d) (omega arith) (omega arith)) in
    let front = cells_kept k (take (i + d) u) in
    let last = get_or u (i + d) 0 in
    ap (λ m. cells_kept k (take m u)) e ∙ filter_more (reaches k) u (i + d) 0 (omega arith)
    ∙ ap (λ b. front ++ cond b (last ∷ []) []) none ∙ append-nil front
    ∙ kept_passed k u i d (omega arith) (λ j l h. deep j l (omega arith))

-- the cells after one that is cut, up to its end, are deeper than the level
pub kept_cut : (k : ℕ) (u : List ℕ) (i next end : ℕ) → IsLocal u → (cut_at k (get_or u i 0) ≡ get_or u i 0 → ⊥) →
    i < next → next ≤ length u → end ≡ first_leaf (cut_at k (get_or u i 0)) + size_of (cut_at k (get_or u i 0)) →
    FirstEndBy u next end → cells_kept k (take next u) ≡ cells_kept k (take i u)
kept_cut k u i next end local other more within e ended =
    let p = packed_from_local u local in
    let c = get_or u i 0 in
    let own = p.cells i 0 (omega arith) in
    let t = is_cut k c own in
    let tl = t.level in
    let below : k < level_of c = ⊎_elim
    (λ (h : k < level_of c). h) (λ (h : level_of c ≤ k). absurd (other (tl.0 h))) (cases_lt k (level_of c)) in
    let level = tl.1 below in
    let around = t.around in
    let at : i + (next - i) ≡ next = omega arith in
    subst (λ m. cells_kept k (take m u) ≡ cells_kept k (take i u)) at
    (kept_passed k u i (next - i) (omega arith) (λ j l h.
    let d = get_or u j 0 in
    let cd = p.cells j 0 (omega arith) in
    ⊎_elim
    (λ (g : k < level_of d). g)
    (λ (g : level_of d ≤ k).
    let r = starts_later u i j p l (omega arith) in
    let f = ended j (omega arith) in
    let low = around.low in
    let high = around.high in
    let w : Within d (cut_at k c) = record { low = omega arith; high = omega arith } in
    let some = (cell_leaves d cd).some in
    let owns = (cell_leaves c own).some in
    -- a cell of the level or above it that lies in the cut one is that one, and so has the leaves of the first
    let wl = w.low in
    let wh = w.high in
    let back = deeper_inside (cut_at k c) d (first_leaf d) t.cell cd (omega arith) (omega arith) (omega arith)
    (omega arith) (omega arith) in
    let bl = back.low in
    let bh = back.high in
    ⊎_elim
    (λ (q : i < j).
    let chain : first_leaf c + size_of c ≤ first_leaf d = p.chain i j 0 q (omega arith) in
    absurd (omega arith))
    (λ (q : j ≤ i).
    let same : j ≡ i = omega arith in
    let z = ap (λ m. level_of (get_or u m 0)) same in
    absurd (omega arith))
    (cases_lt i j))
    (cases_lt k (level_of d))))

-- a cell that cutting leaves as it is reaches the level
pub cut_reaches : (k c : ℕ) → IsCell c → cut_at k c ≡ c → level_of c ≤ k
cut_reaches k c own same =
    let tl = (is_cut k c own).level in
    ⊎_elim
    (λ (g : k < level_of c). let l = tl.1 g in let e = ap level_of same in absurd (omega arith))
    (λ (g : level_of c ≤ k). g)
    (cases_lt k (level_of c))

-- a cell that reaches the level stays
pub kept_more : (k : ℕ) (u : List ℕ) (i c : ℕ) → i < length u → c ≡ get_or u i 0 → level_of c ≤ k →
    cells_kept k (take (i + 1) u) ≡ cells_kept k (take i u) ++ c ∷ []
kept_more k u i c h is le =
    let yes : reaches k c ≡ true = le-leb (level_of c) k le in
    filter_more (reaches k) u i 0 h ∙ ap (λ d. cells_kept k (take i u) ++ cond (reaches k d) (d ∷ []) []) (sym is)
    ∙ ap (λ b. cells_kept k (take i u) ++ cond b (c ∷ []) []) yes

pub kept_few : (k : ℕ) (u : List ℕ) → length (cells_kept k u) ≤ length u
kept_few k u = let a = length-filter (reaches k) u in let b = count_by-le-length (reaches k) u in omega arith

pub kept_front : (k i : ℕ) (u : List ℕ) → length (cells_kept k (take i u)) ≤ length (cells_kept k u)
kept_front k i u =
    let e : cells_kept k u ≡ cells_kept k (take i u) ++ cells_kept k (drop i u) =
    ap (cells_kept k) (sym (take-append-drop i u)) ∙ filter-append (reaches k) (take i u) (drop i u) in
    let l = length-append (cells_kept k (take i u)) (cells_kept k (drop i u)) in
    let f = ap length e in
    omega arith

-- the cells that were put are all, or more than are allowed
pub kept_put : (k most : ℕ) (u room out : List ℕ) (n i : ℕ) → IsPut (cells_kept k (take i u)) room out n →
    length u < 2 ^ 64 → most < 2 ^ 64 → (length u ≤ i) ⊎ (most < n)
    → PutsUpTo most (λ list. list ≡ cells_kept k u) room out n
kept_put k most u room out n i p fits few (inl done) =
    let e : take i u ≡ u = take_all i u done in
    let q : IsPut (cells_kept k u) room out n = subst (λ v. IsPut (cells_kept k v) room out n) e p in
    let l = kept_few k u in
    inl (record {
      list = cells_kept k u;
      is = refl;
      len_is = q.len_is (omega arith);
      same_length = q.same_length;
      front = q.front;
    })
kept_put k most u room out n i p fits few (inr more) =
    let l = kept_front k i u in
    let m = kept_few k u in
    let e = p.len_is (omega arith) in
    inr (more, λ list is. let f = ap length is in omega arith)

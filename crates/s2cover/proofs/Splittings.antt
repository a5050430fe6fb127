-- The steps of a search for a covering of few cells.
use Rattle.std.proofs.Common.{◌≡◌, ◌≢◌, ℕ, ◌+◌, ◌-◌, ◌*◌, ◌/◌, ◌^◌, ◌<◌, ◌≤◌, Bool, true, false, ◌||◌, cond}
use Rattle.std.proofs.Common.{List, [], ◌∷◌, ◌++◌, length, map, take, drop, All, AllPairs, Contains, refl, sym}
use Rattle.std.proofs.Common.{◌∙◌, ap, arith, subst, ◌⊎◌, inl, inr, ⊎_elim, length-append}
use Rattle.std.proofs.Common.{append_assoc, append-nil, reverse}
use Rattle.std.specs.List.{sum_by}
use Rattle.std.specs.List.Sorted.{IsPermutation}
use Rattle.std.proofs.lemmas.Bool.{both_ways, or_left, or_right, or_cases, cases_lt}
use Rattle.std.proofs.lemmas.List.{length-map, length-reverse, map-append}
use Rattle.std.proofs.lemmas.List.Elements.{All-append, All-push, All-pop, All-nil, All-take, All-contains}
use Rattle.std.proofs.lemmas.List.Elements.{All-contains_itself, All-map}
use Rattle.std.proofs.lemmas.List.Elements.{All-weaker}
use Rattle.std.proofs.lemmas.List.Folds.{list_any-append}
use Rattle.std.proofs.lemmas.List.Sorted.{All-permutation, IsPermutation-reverse, length_permutation}
use Rattle.std.proofs.lemmas.List.Sorted.{sum_by-IsPermutation}
use Rattle.std.proofs.lemmas.List.Sums.{sum_by-append, sum_by-cons, sum_by_push}
use Rattle.s2cell.specs.Cell.{IsCell, level_of, face_of, place_of, first_leaf, covers, parent_of, child_of, id_at}
use Rattle.s2cell.specs.declared.TheConstants.{LEAVES}
use Rattle.s2cell.proofs.Calls.{IsCellAt-child_of}
use Rattle.s2cell.proofs.CellLemmas.{cell_leaves, level_of_cell}
use Rattle.s2list.specs.Union.{has_leaf}
use Rattle.s2list.proofs.Normal.{child_of_leaf}
use Rattle.s2cover.specs.Near.{TakeMore, looked_into, work_allowed}
use Rattle.s2cover.specs.Rough.{AreCrossing, ComesNearInner, ComesNearOuter, EachLeaf, IsCrossing, IsLeft}
use Rattle.s2cover.specs.Rough.{IsMuchCrossing, IsSplit, TakeMoreWork, Worked}
use Rattle.s2cover.specs.Working.Splitting.{any_covers, listed, times, times_by, IsAbove, IsAcross, IsCellOf, IsInside}
use Rattle.s2cover.specs.Working.Splitting.{IsClear, IsFamily, IsFine, IsKept, Sizes, Front}
use Rattle.s2cover.specs.Working.Descent.{cell_at, depth_of}
use Rattle.s2cover.proofs.Coverings.{around_leaf, leaf_limit}
use Rattle.s2cover.proofs.Times.{all_from, all_left, all_right, apart_from, bit_off, bit_on, found, listed-append}
use Rattle.s2cover.proofs.Times.{listed_is, listed_times}
use Rattle.s2cover.proofs.Times.{member_times, once_from, some_times, times-append, times-cons, times-map, times-push}
use Rattle.s2cover.proofs.Times.{times-take, times_some}
use Rattle.s2cover.proofs.Visits.{id_of}
use Rattle.s2cell.proofs.Squares.{covered_block, first_leaf_covered}
use Rattle.std.proofs.Math.Nat.{div-one, le-max_left, le-max_right, min-le_left, min-le_right}
use Rattle.std.specs.Prelude.{Some, get_or}
use Rattle.std.proofs.lemmas.Nat.{div_below}
use Rattle.std.proofs.lemmas.List.{length-take, take-append-drop, take_all}
use Rattle.std.proofs.lemmas.List.Elements.{All-from_get_or}
use Rattle.s2cell.proofs.CellLemmas.{four_pos, own_place}
use Rattle.s2cell.proofs.Squares.{covers_block}
use Rattle.s2cell.proofs.Family.{child_within, deeper_inside, level_of_child, parent_within}
use Rattle.s2cell.proofs.Leaves.{Within, covers_there, covers_from, inside_from_within}
use Rattle.s2list.specs.Union.{IsNormalForm}
use Rattle.s2list.proofs.Normal.{leaf_from, leaf_to}
use Rattle.s2list.proofs.Checking.{member_at}

-- ---- leaves of lists

either : (a b c d : Bool) → (a ≡ true → c ≡ true) → (b ≡ true → d ≡ true) → (a || b) ≡ true → (c || d) ≡ true
either a b c d f g h = ⊎_elim (λ (w : a ≡ true). or_left c d (f w)) (λ (w : b ≡ true). or_right c d (g w))
    (or_cases a b h)

any_left : {A : Type 0} (cell : A → ℕ) (u v : List A) (x : ℕ) → any_covers cell u x ≡ true →
    any_covers cell (u ++ v) x ≡ true
any_left cell u v x h =
    list_any-append (λ item. covers (cell item) x) u v ∙ or_left (any_covers cell u x) (any_covers cell v x) h

any_right : {A : Type 0} (cell : A → ℕ) (u v : List A) (x : ℕ) → any_covers cell v x ≡ true →
    any_covers cell (u ++ v) x ≡ true
any_right cell u v x h =
    list_any-append (λ item. covers (cell item) x) u v ∙ or_right (any_covers cell u x) (any_covers cell v x) h

pub any_at_last : {A : Type 0} (cell : A → ℕ) (u : List A) (a : A) (x : ℕ) → covers (cell a) x ≡ true →
    any_covers cell (u ++ a ∷ []) x ≡ true
any_at_last cell u a x h = any_right cell u (a ∷ []) x (or_left (covers (cell a) x) false h)

any_len : {A : Type 0} (cell : A → ℕ) (u : List A) (x : ℕ) → any_covers cell u x ≡ true → 0 < length u
any_len cell [] x h = absurd (both_ways false refl h)
any_len cell (a ∷ u) x h = omega arith

-- what has a leaf still has it when the two lists grow
grown : {A : Type 0} (id : A → ℕ) (kept more : List ℕ) (ahead others : List A) (x : ℕ) →
    (has_leaf kept x || any_covers id ahead x) ≡ true →
    (has_leaf (kept ++ more) x || any_covers id (ahead ++ others) x) ≡ true
grown id kept more ahead others x h = either (has_leaf kept x) (any_covers id ahead x) (has_leaf (kept ++ more) x)
    (any_covers id (ahead ++ others) x) (any_left (λ c. c) kept more x) (any_left id ahead others x) h

pub grown_left : {A : Type 0} (id : A → ℕ) (kept more : List ℕ) (ahead : List A) (x : ℕ) →
    (has_leaf kept x || any_covers id ahead x) ≡ true → (has_leaf (kept ++ more) x || any_covers id ahead x) ≡ true
grown_left id kept more ahead x h = either (has_leaf kept x) (any_covers id ahead x) (has_leaf (kept ++ more) x)
    (any_covers id ahead x) (any_left (λ c. c) kept more x) (λ y. y) h

pub grown_right : {A : Type 0} (id : A → ℕ) (kept : List ℕ) (ahead others : List A) (x : ℕ) →
    (has_leaf kept x || any_covers id ahead x) ≡ true → (has_leaf kept x || any_covers id (ahead ++ others) x) ≡ true
grown_right id kept ahead others x h = either (has_leaf kept x) (any_covers id ahead x) (has_leaf kept x)
    (any_covers id (ahead ++ others) x) (λ y. y) (any_left id ahead others x) h

added : {A : Type 0} (id : A → ℕ) (kept more : List ℕ) (ahead others : List A) (x : ℕ) →
    (has_leaf more x || any_covers id others x) ≡ true →
    (has_leaf (kept ++ more) x || any_covers id (ahead ++ others) x) ≡ true
added id kept more ahead others x h = either (has_leaf more x) (any_covers id others x) (has_leaf (kept ++ more) x)
    (any_covers id (ahead ++ others) x) (any_right (λ c. c) kept more x) (any_right id ahead others x) h

-- the first of the waiting cells has the leaf, or another one
first_or : (c : ℕ) (rest : List ℕ) (x : ℕ) → has_leaf (c ∷ rest) x ≡ true →
    (covers c x ≡ true) ⊎ (has_leaf rest x ≡ true)
first_or c rest x h = ⊎_elim
    (λ (w : has_leaf (c ∷ []) x ≡ true). ⊎_elim inl (λ (e : false ≡ true). absurd (both_ways false refl e))
    (or_cases (covers c x) false w))
    inr (or_cases (has_leaf (c ∷ []) x) (has_leaf rest x)
    (sym (list_any-append (λ c. covers c x) (c ∷ []) rest) ∙ h))

-- ---- a list popped

pub popped : {A : Type 0} (u v : List A) (a : A) → u ≡ v ++ a ∷ [] → length v < length u
popped u v a e = let l = ap length e ∙ length-append v (a ∷ []) in omega arith

pub ended : {A : Type 0} (u : List A) → length u ≡ 0 → u ≡ []
ended [] h = refl
ended (x ∷ u) h = absurd (omega arith)

-- ---- a quadrant sorted in

kept_from_inside : {whole : Bool} {i : ℕ → Type 0} {cr : ℕ → ℕ → Type 0} {deepest k : ℕ} (inside : List ℕ) →
    k ≤ deepest → All (IsInside i cr k) inside → All (IsKept whole i cr deepest) inside
kept_from_inside {whole} {i} {cr} {deepest} {k} inside h all =
    All-weaker (IsInside i cr k) (IsKept whole i cr deepest) (λ c w. record {
      cell = w.cell;
      level = let l = w.level in omega arith;
      around = w.around;
      lies = inl w.lies;
    }) inside all

-- a leaf of the face
pub face_leaf : {c m : ℕ} (x : ℕ) → IsCell c → level_of c ≡ 0 → face_of c ≡ m → x / 4 ^ 30 ≡ m → covers c x ≡ true
unfolding face_of
face_leaf {c} {m} x i lv ef e =
    let place : place_of c ≡ m = sym (div-one (place_of c)) ∙ ap (λ z. place_of c / 4 ^ z) (sym lv) ∙ ef in
    let own = own_place c i in
    covers_block c (level_of c) (place_of c) x own (ap (λ z. x / 4 ^ (30 - z)) lv ∙ e ∙ sym place)

pub leaf_face : {c m : ℕ} (x : ℕ) → IsCell c → level_of c ≡ 0 → face_of c ≡ m → covers c x ≡ true → x / 4 ^ 30 ≡ m
unfolding face_of
leaf_face {c} {m} x i lv ef v =
    let place : place_of c ≡ m = sym (div-one (place_of c)) ∙ ap (λ z. place_of c / 4 ^ z) (sym lv) ∙ ef in
    let own = own_place c i in
    ap (λ z. x / 4 ^ (30 - z)) (sym lv) ∙ covered_block c (level_of c) (place_of c) x own v ∙ place

-- two children have no leaf in common
pub child_apart : (p m n x : ℕ) → IsCell p → level_of p < 30 → m < n → n < 4 → covers (child_of p m) x ≡ true →
    covers (child_of p n) x ≡ true → ⊥
child_apart p m n x i h l b v w =
    let a = covered_block (child_of p m) (level_of p + 1) (4 * place_of p + m) x
    (IsCellAt-child_of p m i h (omega arith)) v in
    let c = covered_block (child_of p n) (level_of p + 1) (4 * place_of p + n) x (IsCellAt-child_of p n i h b) w in
    let e = sym a ∙ c in
    omega arith

-- two cells of a level with a leaf in common are one
one_cell : (c d x : ℕ) → IsCell c → IsCell d → level_of c ≡ level_of d → covers c x ≡ true → covers d x ≡ true → c ≡ d
one_cell c d x ic idd e v w =
    let a = covered_block c (level_of c) (place_of c) x (own_place c ic) v in
    let b = covered_block d (level_of d) (place_of d) x (own_place d idd) w in
    let place : place_of c ≡ place_of d = sym a ∙ ap (λ z. x / 4 ^ (30 - z)) e ∙ b in
    sym (id_of ic) ∙ ap (λ z. cell_at (30 - z) (place_of c)) e ∙ ap (cell_at (depth_of d)) place ∙ id_of idd

-- the cells around a child of a cell are that cell and those around it
pub around_child : (cr : ℕ → ℕ → Type 0) (p n : ℕ) → IsCell p → level_of p < 30 → n < 4 → IsCrossing cr p →
    AreCrossing cr p → AreCrossing cr (child_of p n)
around_child cr p n ip deep four own around d idd l into =
    let up = child_within p n ip deep four in
    let ic : IsCell (child_of p n) = (level_of p + 1, 4 * place_of p + n, IsCellAt-child_of p n ip deep four) in
    let lv = level_of_child p n ip deep four in
    let x = first_leaf (child_of p n) in
    let here = first_leaf_covered (child_of p n) ic in
    let in_p = inside_from_within (child_of p n) p up x here in
    let in_d = into x here in
    ⊎_elim
    (λ (y : level_of d < level_of p).
    let a = covers_from p x in_p in
    let b = covers_from d x in_d in
    around d idd y (inside_from_within p d (deeper_inside p d x ip idd (omega arith) a.0 a.1 b.0 b.1)))
    (λ (y : level_of p ≤ level_of d). subst (IsCrossing cr) (one_cell p d x ip idd (omega arith) in_p in_d) own)
    (cases_lt (level_of d) (level_of p))

-- a leaf of a cell that crosses lies in one of each level above
left_in : (o : ℕ → Type 0) (cr : ℕ → ℕ → Type 0) (j c x : ℕ) → IsCrossing cr c → AreCrossing cr c → j ≤ level_of c →
    covers c x ≡ true → IsLeft o cr j x
left_in o cr j c x own around h v = ⊎_elim
    (λ (y : j < level_of c).
    let deep = (cell_leaves c own.0).shallow in
    let low = leaf_limit x own.0 v in
    let m = x / 4 ^ (30 - j) in
    let at = around_leaf j x (omega arith) low in
    let d = id_at j m in
    let idd : IsCell d = (j, m, at) in
    let lv = level_of_cell j m d at in
    let w = covers_block d j m x at refl in
    let a = covers_from c x v in
    let b = covers_from d x w in
    let up = deeper_inside c d x own.0 idd (omega arith) a.0 a.1 b.0 b.1 in
    inr (d, lv, w, around d idd (omega arith) (inside_from_within c d up)))
    (λ (y : level_of c ≤ j). inr (c, (omega arith), v, own))
    (cases_lt j (level_of c))

-- too much above a level is so above the levels below it
much_later : {cr : ℕ → ℕ → Type 0} {many allowed j k : ℕ} → j ≤ k → IsMuchCrossing cr many allowed j →
    IsMuchCrossing cr many allowed k
much_later {cr} {many} {allowed} {j} {k} h m = ⊎_elim
    (λ (y : (n : ℕ) × (n < j) × TakeMore (λ c. IsCrossing cr c × (level_of c ≡ n)) (λ c. 1) many).
    inl (y.0, (let l = y.1 in omega arith), y.2))
    (λ (y : TakeMoreWork (λ c n. cr c n × (level_of c < j)) allowed). inr (record {
      cells = y.cells;
      once = y.once;
      are = All-weaker (λ c. IsCell c.cell × (cr c.cell c.work × (level_of c.cell < j)))
          (λ c. IsCell c.cell × (cr c.cell c.work × (level_of c.cell < k)))
          (λ c z. (z.0, (z.1.0, let l = z.1.1 in omega arith))) y.cells y.are;
      more = y.more;
    })) m

sum_ones : (u : List ℕ) → sum_by (λ c. 1) u ≡ length u
sum_ones [] = refl
sum_ones (c ∷ u) = let e = sum_by-cons (λ c. 1) c u in let r = sum_ones u in omega arith

-- ---- what is not split

pub left_sizes : {A : Type 0} (whole : Bool) {most : ℕ} (n : ℕ) {kept kept2 : List ℕ} (ahead : List A)
    {ahead2 rest : List A} →
    ahead2 ≡ take n ahead → rest ≡ drop n ahead →
    (whole ≡ true → length kept2 ≡ length kept + length rest) → (whole ≡ false → kept2 ≡ kept) →
    Sizes whole most 0 (length kept) (length ahead) → Sizes whole most 0 (length kept2) (length ahead2)
left_sizes whole {most} n {kept} {kept2} ahead {ahead2} {rest} e e2 len same s =
    let all = ap length (ap (λ z. z ++ rest) e ∙ ap (λ z. take n ahead ++ z) e2 ∙ take-append-drop n ahead) in
    let both = length-append ahead2 rest in
    by_kind whole refl all both len same s
  where
    by_kind : (w : Bool) → w ≡ whole → length (ahead2 ++ rest) ≡ length ahead →
        length (ahead2 ++ rest) ≡ length ahead2 + length rest →
        (w ≡ true → length kept2 ≡ length kept + length rest) → (w ≡ false → kept2 ≡ kept) →
        Sizes w most 0 (length kept) (length ahead) → Sizes w most 0 (length kept2) (length ahead2)
    by_kind true t all both l k z =
        let a = l refl in
        let b = z.few refl in
        let c = z.small.1 in
        record {
          few = λ w. omega arith;
          less = λ w. absurd (both_ways true w refl);
          small = (omega arith, omega arith, omega arith);
        }
    by_kind false t all both l k z =
        let a = ap length (k refl) in
        let b = z.less refl in
        let c = z.small.0 in
        let d = z.small.1 in
        record {
          few = λ w. absurd (both_ways false refl w);
          less = λ w. omega arith;
          small = (omega arith, omega arith, omega arith);
        }

-- ---- families settled

module _ {F A : Type 0} (Few : F → Type 0) where
  -- families are settled; `families` and `others` are left
  pub record Settled (whole : Bool) (most limit : ℕ) (families others : List F) (kept : List ℕ) (ahead : List A)
      : Type 0 where
    pub few : All Few families
    pub few_others : All Few others
    pub none : 20 ≤ limit → others ≡ []
    pub sizes : Sizes whole most (length families + length others) (length kept) (length ahead)

  pub settled_none : {whole : Bool} {most limit : ℕ} {old others : List F} {kept : List ℕ} {ahead : List A} →
      others ≡ [] → All Few old → Sizes whole most (length old) (length kept) (length ahead) →
      Settled whole most limit old others kept ahead
  settled_none {whole} {most} {old = old} {others} {kept} {ahead} e few sizes =
      let len : length old ≡ length old + length others = (let l = ap length e in omega arith) in
      record {
        few = few;
        few_others = subst (All Few) (sym e) (All-nil Few);
        none = λ h. e;
        sizes = subst (λ n. Sizes whole most n (length kept) (length ahead)) len sizes;
      }

  pub settled_sizes : {whole : Bool} {most limit : ℕ} {families : List F} (families2 : List F) {others : List F}
      {kept : List ℕ} {ahead : List A} (f : F) {waiting : ℕ} → families ≡ families2 ++ f ∷ [] →
      waiting ≡ length families2 + length others → Settled whole most limit families others kept ahead →
      Sizes whole most (waiting + 1) (length kept) (length ahead)
  settled_sizes {whole} {most} {families = families} families2 {others} {kept} {ahead} f {waiting} e w s =
      let len = ap length e ∙ length-append families2 (f ∷ []) in
      let same : length families + length others ≡ waiting + 1 = omega arith in
      subst (λ n. Sizes whole most n (length kept) (length ahead)) same s.sizes

  pub settled_next : {whole : Bool} {most limit : ℕ} {families : List F} (families2 : List F) {others : List F}
      {kept : List ℕ} (kept2 : List ℕ) {ahead : List A} (ahead2 : List A) (f : F) {waiting : ℕ} →
      families ≡ families2 ++ f ∷ [] → waiting ≡ length families2 + length others →
      Sizes whole most waiting (length kept2) (length ahead2) →
      Settled whole most limit families others kept ahead → Settled whole most limit families2 others kept2 ahead2
  settled_next {whole} {most} {families = families} families2 {others} kept2 ahead2 f {waiting} e n sizes s = record {
    few = (All-pop Few families families2 (Some f) e s.few).0;
    few_others = s.few_others;
    none = s.none;
    sizes = subst (λ n. Sizes whole most n (length kept2) (length ahead2)) n sizes;
  }

  pub settled_other : {whole : Bool} {most limit : ℕ} {families : List F} (families2 : List F) {others : List F}
      (others2 : List F) {kept : List ℕ} {ahead : List A} (f : F) → families ≡ families2 ++ f ∷ [] →
      others2 ≡ others ++ f ∷ [] → (20 ≤ limit → ⊥) → Settled whole most limit families others kept ahead →
      Settled whole most limit families2 others2 kept ahead
  settled_other {whole} {most} {families = families} families2 {others} others2 {kept} {ahead} f e e2 turn s =
      let len = ap length e ∙ length-append families2 (f ∷ []) in
      let len2 = ap length e2 ∙ length-append others (f ∷ []) in
      let same : length families + length others ≡ length families2 + length others2 = omega arith in
      let front_few = All-pop Few families families2 (Some f) e s.few in
      record {
        few = front_few.0;
        few_others = subst (All Few) (sym e2) (All-push Few others f s.few_others front_few.1);
        none = λ h. absurd (turn h);
        sizes = subst (λ n. Sizes whole most n (length kept) (length ahead)) same s.sizes;
      }

  pub settled_turned : {whole : Bool} {most limit : ℕ} {families others : List F} (others2 : List F) {kept : List ℕ}
      {ahead : List A} → others2 ≡ reverse others → Settled whole most limit families others kept ahead →
      Settled whole most limit families others2 kept ahead
  settled_turned {whole} {most} {families = families} {others} others2 {kept} {ahead} e s = record {
    few = s.few;
    few_others = All-permutation Few others others2
        (subst (IsPermutation others) (sym e) (IsPermutation-reverse others))
        s.few_others;
    none = λ h. e ∙ ap reverse (s.none h);
    sizes = subst (λ n. Sizes whole most (length families + n) (length kept) (length ahead))
        (sym (ap length e ∙ length-reverse others)) s.sizes;
  }

module _ {A : Type 0} (id : A → ℕ) where
  -- the quadrants of `old` whose cells are kept; `ahead` are left
  pub record Closing (old_kept : List ℕ) (old : List A) (kept : List ℕ) (ahead : List A) : Type 0 where
    pub same : (x : ℕ) → times kept x + times_by id ahead x ≡ times old_kept x + times_by id old x
    pub len : length kept + length ahead ≡ length old_kept + length old
    pub left : All (Contains old) ahead
    pub each : All (λ c. Contains old_kept c ⊎ IsCellOf id old c) kept

  pub closing_none : (kept : List ℕ) (ahead : List A) → Closing kept ahead kept ahead
  closing_none kept ahead = record {
    same = λ x. refl;
    len = refl;
    left = All-contains_itself ahead;
    each = All-weaker (Contains kept) (λ c. Contains kept c ⊎ IsCellOf id ahead c) (λ c m. inl m) kept
        (All-contains_itself kept);
  }

  pub closing_next : {old_kept : List ℕ} {old : List A} {kept : List ℕ} (kept2 : List ℕ) {ahead : List A}
      (ahead2 : List A) (q : A) (c : ℕ) → ahead ≡ ahead2 ++ q ∷ [] → kept2 ≡ kept ++ c ∷ [] → c ≡ id q →
      Closing old_kept old kept ahead → Closing old_kept old kept2 ahead2
  closing_next {old_kept} {old} {kept} kept2 {ahead} ahead2 q c e e2 ec s =
      let len = ap length e ∙ length-append ahead2 (q ∷ []) in
      let len2 = ap length e2 ∙ length-append kept (c ∷ []) in
      let was = s.len in
      let Is = λ (c : ℕ). Contains old_kept c ⊎ IsCellOf id old c in
      let parts = All-pop (Contains old) ahead ahead2 (Some q) e s.left in
      record {
        same = λ x.
            let a = ap (λ u. times_by id u x) e ∙ times-push id ahead2 q x in
            let b = ap (λ u. times u x) e2 ∙ times-push (λ n. n) kept c x in
            let d : cond {A = ℕ} (covers c x) 1 0 ≡ cond {A = ℕ} (covers (id q) x) 1 0 =
            ap (λ (n : ℕ). cond {A = ℕ} (covers n x) 1 0) ec in
            let g = s.same x in
            omega arith;
        len = omega arith;
        left = parts.0;
        each = subst (All Is) (sym e2) (All-push Is kept c s.each (inr (q, parts.1, ec)));
      }

  pub closed : {old_kept : List ℕ} {old : List A} {kept : List ℕ} {ahead : List A} → ahead ≡ [] →
      Closing old_kept old kept ahead → (x : ℕ) → times kept x ≡ times old_kept x + times_by id old x
  closed {ahead = ahead} e s x = let z : times_by id ahead x ≡ 0 = ap (λ u. times_by id u x) e in
      let g = s.same x in omega arith

  -- what holds of the cells that were kept, and of the quadrants that are, holds of all
  pub each_from : (old_kept : List ℕ) (old : List A) (kept : List ℕ) →
      All (λ c. Contains old_kept c ⊎ IsCellOf id old c) kept → (P : ℕ → Type 0) → All (λ q. P (id q)) old →
      All P old_kept → All P kept
  each_from old_kept old kept each P a b = All-weaker (λ c. Contains old_kept c ⊎ IsCellOf id old c) P
      (λ c. ⊎_elim (λ (m : Contains old_kept c). All-contains P old_kept c b m)
      (λ (m : IsCellOf id old c). subst P (sym m.2) (All-contains (λ q. P (id q)) old m.0 a m.1))) kept each

module _ {A : Type 0} (id : A → ℕ) (sound : A → Type 0) (work : A → ℕ) (o i : ℕ → Type 0) (cr : ℕ → ℕ → Type 0) where
  abbrev pub Across : ℕ → A → Type 0
  Across k = IsAcross id sound work cr k

  abbrev pub Family : ℕ → ℕ → List ℕ → List A → Type 0
  Family k cell inside across = IsFamily id sound work o i cr k cell inside across

  abbrev pub Fronts : Bool → ℕ → ℕ → ℕ → ℕ → ℕ → List A → List ℕ → List ℕ → List A → Type 0
  Fronts whole allowed most deepest k bound spent rest kept ahead =
      Front id sound work o i cr whole allowed most deepest k bound spent rest kept ahead

  -- after `n` parts of a cell, or of the sphere, whose leaves are by `Part`
  pub record Sorting (Part : ℕ → ℕ → Type 0) (k n : ℕ) (inside : List ℕ) (across : List A) : Type 0 where
    pub leaves : (m : ℕ) → m < n → (x : ℕ) → Part m x →
        ((has_leaf inside x || any_covers id across x) ≡ true) ⊎ o x
    pub once : (x : ℕ) → times inside x + times_by id across x ≤ 1
    pub parts : (x : ℕ) → 1 ≤ times inside x + times_by id across x → (m : ℕ) × (m < n) × Part m x
    pub inside_are : All (IsInside i cr k) inside
    pub across_are : All (Across k) across
    pub few : length inside + length across ≤ n

  pub sorting_none : (Part : ℕ → ℕ → Type 0) (k : ℕ) {inside : List ℕ} {across : List A} →
      inside ≡ [] → across ≡ [] → Sorting Part k 0 inside across
  sorting_none Part k {inside} {across} e f =
      let len = ap length e in
      let len2 = ap length f in
      let none : (x : ℕ) → times inside x + times_by id across x ≡ 0 = λ x.
      ap (λ u. times u x + times_by id across x) e ∙ ap (λ u. times [] x + times_by id u x) f in
      record {
        leaves = λ m h. absurd (omega arith);
        once = λ x. let z = none x in omega arith;
        parts = λ x h. absurd (let z = none x in omega arith);
        inside_are = subst (All (IsInside i cr k)) (sym e) (All-nil (IsInside i cr k));
        across_are = subst (All (Across k)) (sym f) (All-nil (Across k));
        few = omega arith;
      }

  pub sorting_next : {Part : ℕ → ℕ → Type 0} {k n : ℕ} {inside : List ℕ} (inside2 : List ℕ) {across : List A}
      (across2 : List A) (q : A) → ((x : ℕ) → Part n x → covers (id q) x ≡ true) →
      ((x : ℕ) → covers (id q) x ≡ true → Part n x) → ((m x : ℕ) → m < n → Part m x → Part n x → ⊥) →
      level_of (id q) ≡ k → AreCrossing cr (id q) → ((x : ℕ) → covers (id q) x ≡ true →
      ((has_leaf inside2 x || any_covers id across2 x) ≡ true) ⊎ o x) → ((x : ℕ) →
      (has_leaf inside x || any_covers id across x) ≡ true →
      (has_leaf inside2 x || any_covers id across2 x) ≡ true) → ((x : ℕ) → times inside2 x + times_by id across2 x
      ≤ (times inside x + times_by id across x) + cond (covers (id q) x) 1 0) →
      ((k : ℕ) → level_of (id q) ≡ k → AreCrossing cr (id q) → All (IsInside i cr k) inside →
      All (IsInside i cr k) inside2) → ((k : ℕ) → level_of (id q) ≡ k → AreCrossing cr (id q) →
      All (Across k) across → All (Across k) across2) →
      length inside2 + length across2 ≤ (length inside + length across) + 1 →
      Sorting Part k n inside across → Sorting Part k (n + 1) inside2 across2
  sorting_next {Part} {k} {n} {inside} inside2 {across} across2 q has back apart lv around leaves others
      more ins acr few s = record {
        leaves = λ m h x v. ⊎_elim
            (λ (y : m < n). ⊎_elim (λ (z : (has_leaf inside x || any_covers id across x) ≡ true). inl (others x z)) inr
            (s.leaves m y x v))
            (λ (y : n ≤ m).
            let e : m ≡ n = omega arith in
            leaves x (has x (subst (λ z. Part z x) e v)))
            (cases_lt m n);
        once = λ x. once_by x (covers (id q) x) refl (more x);
        parts = λ x h. parts_by x (covers (id q) x) refl (more x) h;
        inside_are = ins k lv around s.inside_are;
        across_are = acr k lv around s.across_are;
        few = let a = s.few in omega arith;
      }
    where
      once_by : (x : ℕ) (b : Bool) → b ≡ covers (id q) x → times inside2 x + times_by id across2 x
          ≤ (times inside x + times_by id across x) + cond (covers (id q) x) 1 0 →
          times inside2 x + times_by id across2 x ≤ 1
      once_by x true t h =
          let v = bit_on (covers (id q) x) (sym t) in
          ⊎_elim
          (λ (y : times inside x + times_by id across x < 1). omega arith)
          (λ (y : 1 ≤ times inside x + times_by id across x).
          let p = s.parts x y in
          absurd (apart p.0 x p.1 p.2 (back x (sym t))))
          (cases_lt (times inside x + times_by id across x) 1)
      once_by x false t h =
          let v = bit_off (covers (id q) x) (sym t) in
          let a = s.once x in
          omega arith

      parts_by : (x : ℕ) (b : Bool) → b ≡ covers (id q) x → times inside2 x + times_by id across2 x
          ≤ (times inside x + times_by id across x) + cond (covers (id q) x) 1 0 →
          1 ≤ times inside2 x + times_by id across2 x → (m : ℕ) × (m < n + 1) × Part m x
      parts_by x true t h l = (n, (omega arith), back x (sym t))
      parts_by x false t h l =
          let v = bit_off (covers (id q) x) (sym t) in
          let p = s.parts x (omega arith) in
          (p.0, (let b = p.1 in omega arith), p.2)

  pub family_done : {k cell n : ℕ} {inside : List ℕ} {across : List A} (q : A) → cell ≡ id q → IsCell cell →
      level_of (id q) < 30 → n ≡ 4 →
      ((k : ℕ) → Across k q → Sorting (λ m x. covers (child_of (id q) m) x ≡ true) (level_of (id q) + 1) n inside
      across) → Across k q → Family (k + 1) cell inside across
  family_done {k} {cell} {n} {inside} {across} q e ic deep en given a =
      let s = given k a in
      let Part = λ (m : ℕ) (x : ℕ). covers (child_of (id q) m) x ≡ true in
      let s3 = subst (λ z. Sorting Part (z + 1) n inside across) a.level s in
      let iq = a.cell in
      let own : IsCrossing cr (id q) = (iq, work q, a.crosses) in
      record {
        level = ap (λ z. level_of z + 1) e ∙ ap (λ z. z + 1) a.level;
        crosses = subst (IsCrossing cr) (sym e) own;
        around = subst (AreCrossing cr) (sym e) a.around;
        leaves = λ x v.
            let c = child_of_leaf x iq deep (subst (λ z. covers z x ≡ true) e v) in
            let below : c.0 < n = (let b = c.1 in omega arith) in
            s3.leaves c.0 below x c.2;
        once = λ x. once_in s x (covers cell x) refl;
        inside_are = s3.inside_are;
        across_are = s3.across_are;
      }
    where
      once_in : Sorting (λ m x. covers (child_of (id q) m) x ≡ true) (level_of (id q) + 1) n inside across →
          (x : ℕ) (b : Bool) → b ≡ covers cell x → times inside x + times_by id across x ≤ cond (covers cell x) 1 0
      once_in s x true t = let v = bit_on (covers cell x) (sym t) in let h = s.once x in omega arith
      once_in s x false t = ⊎_elim
          (λ (y : times inside x + times_by id across x < 1). omega arith)
          (λ (y : 1 ≤ times inside x + times_by id across x).
          let p = s.parts x y in
          let four : p.0 < 4 = (let l = p.1 in omega arith) in
          let up = child_within (id q) p.0 a.cell deep four in
          let v = inside_from_within (child_of (id q) p.0) (id q) up x p.2 in
          absurd (both_ways (covers cell x) (sym t) (ap (λ c. covers c x) e ∙ v)))
          (cases_lt (times inside x + times_by id across x) 1)

  -- ---- what a family has

  -- the cell of a family, if it has no child left
  family_gone : {k cell : ℕ} (inside : List ℕ) (across : List A) → length inside + length across ≡ 0 →
      Family k cell inside across → EachLeaf o cell
  family_gone inside across h f x v = ⊎_elim
      (λ (y : (has_leaf inside x || any_covers id across x) ≡ true). absurd (⊎_elim
      (λ (z : has_leaf inside x ≡ true). let l = any_len (λ c. c) inside x z in omega arith)
      (λ (z : any_covers id across x ≡ true). let l = any_len id across x z in omega arith)
      (or_cases (has_leaf inside x) (any_covers id across x) y)))
      (λ (y : o x). y)
      (f.leaves x v)

  -- a leaf of a family, as far as it isn't one of a child inside
  family_filled : {j k cell : ℕ} (inside : List ℕ) (across : List A) (x : ℕ) → j ≤ k →
      Family k cell inside across → covers cell x ≡ true → (has_leaf inside x ≡ true) ⊎ IsLeft o cr j x
  family_filled {j} {k} inside across x h f v = ⊎_elim
      (λ (y : (has_leaf inside x || any_covers id across x) ≡ true). ⊎_elim inl
      (λ (z : any_covers id across x ≡ true).
      let q = found (Across k) id across x f.across_are z in
      let a = q.holds in
      let lv = a.level in
      inr (left_in o cr j (id q.item) x (a.cell, work q.item, a.crosses) a.around (omega arith) q.has))
      (or_cases (has_leaf inside x) (any_covers id across x) y))
      (λ (y : o x). inr (inl y))
      (f.leaves x v)

  -- quadrants of a level, none twice: more of them than `many` cross the region
  many_cross : {k many : ℕ} (u : List A) → All (Across k) u → ((x : ℕ) → times_by id u x ≤ 1) → many < length u →
      TakeMore (λ c. IsCrossing cr c × (level_of c ≡ k)) (λ c. 1) many
  many_cross {k} {many} u all once h =
      let len = length-map u id in
      let ones = sum_ones (map id u) in
      let cells = All-map IsCell id u (All-weaker (Across k) (λ q. IsCell (id q)) (λ q a. a.cell) u all) in
      record {
        cells = map id u;
        once = once_from (map id u) (λ c. let l = listed_times (map id u) c cells in
            let e = times-map id u (first_leaf c) in
            let b = once (first_leaf c) in
            omega arith);
        are = All-map (λ c. IsCrossing cr c × (level_of c ≡ k)) id u
            (All-weaker (Across k) (λ q. IsCrossing cr (id q) × (level_of (id q) ≡ k))
            (λ q a. ((a.cell, work q, a.crosses), a.level)) u all);
        more = omega arith;
      }

  -- the cell of a quadrant, and its work
  abbrev at_work : A → Worked
  at_work a = record { cell = id a; work = work a }

  worked_cells : (u : List A) → map (λ (c : Worked). c.cell) (map at_work u) ≡ map id u
  worked_cells [] = refl
  worked_cells (a ∷ u) = ap (λ v. id a ∷ v) (worked_cells u)

  worked_sum : (u : List A) → sum_by (λ (c : Worked). c.work) (map at_work u) ≡ sum_by work u
  worked_sum [] = refl
  worked_sum (a ∷ u) =
      let e = sum_by-cons (λ (c : Worked). c.work) (at_work a) (map at_work u) in
      let f = sum_by-cons work a u in
      let r = worked_sum u in
      omega arith

  take_more : {allowed bound : ℕ} (P : ℕ → ℕ → Type 0) (u : List A) →
      ((a : A) → Contains u a → IsAbove id work cr bound a → P (id a) (work a)) → All (IsAbove id work cr bound) u →
      ((c : ℕ) → listed (map id u) c ≤ 1) → allowed < sum_by work u → TakeMoreWork P allowed
  take_more {allowed} {bound} P u each all once h = let s = worked_sum u in record {
    cells = map at_work u;
    once = subst (AllPairs ◌≢◌) (sym (worked_cells u)) (once_from (map id u) once);
    are = All-map (λ (c : Worked). IsCell c.cell × P c.cell c.work) at_work u
        (all_from (λ a. IsCell (id a) × P (id a) (work a)) u (λ a m.
        let y = All-contains (IsAbove id work cr bound) u a all m in (y.0, each a m y)));
    more = omega arith;
  }

  -- ---- the families of a level

  pub front_rest : {whole : Bool} {allowed most deepest k bound : ℕ} {spent : List A} {rest : List ℕ}
      (rest2 : List ℕ) {kept : List ℕ} {ahead : List A} → ((x : ℕ) → times rest2 x ≡ times rest x) →
      length rest2 ≡ length rest → Fronts whole allowed most deepest k bound spent rest kept ahead →
      Fronts whole allowed most deepest k bound spent rest2 kept ahead
  front_rest {whole} {allowed} {most} {deepest} {k} {bound} {spent} {rest} rest2 {kept} {ahead} same len f =
      let to : (x : ℕ) → has_leaf rest x ≡ true → has_leaf rest2 x ≡ true = λ x v.
      let a = times_some (λ n. n) rest x v in
      let e = same x in
      some_times (λ n. n) rest2 x (omega arith) in
      let to_all : (x : ℕ) → ((has_leaf kept x || any_covers id ahead x) || has_leaf rest x) ≡ true →
      ((has_leaf kept x || any_covers id ahead x) || has_leaf rest2 x) ≡ true = λ x v.
      either (has_leaf kept x || any_covers id ahead x) (has_leaf rest x)
      (has_leaf kept x || any_covers id ahead x) (has_leaf rest2 x) (λ y. y) (to x) v in
      record {
        gone = f.gone;
        deep = f.deep;
        kept_are = f.kept_are;
        ahead_are = f.ahead_are;
        gone_are = f.gone_are;
        once = λ x. let e = same x in let a = f.once x in omega arith;
        leaves = λ t x l. ⊎_elim
            (λ (y : ((has_leaf kept x || any_covers id ahead x) || has_leaf rest x) ≡ true). inl (to_all x y)) inr
            (f.leaves t x l);
        spent_are = f.spent_are;
        spent_once = f.spent_once;
        clear = f.clear;
        near = λ t. ⊎_elim inl
            (λ (y : (most ≤ (((length kept + length ahead) + length rest) + length f.gone) + 2)
            ⊎ (allowed < sum_by work spent)). inr (⊎_elim
            (λ (z : most ≤ (((length kept + length ahead) + length rest) + length f.gone) + 2). inl (omega arith)) inr
            y)) (f.near t);
        filled = λ t j l. ⊎_elim
            (λ (y : (x : ℕ) → x < LEAVES → ((has_leaf kept x || has_leaf rest x) ≡ true) ⊎ IsLeft o cr j x).
            inl (λ x b. ⊎_elim
            (λ (v : (has_leaf kept x || has_leaf rest x) ≡ true).
            inl (either (has_leaf kept x) (has_leaf rest x) (has_leaf kept x) (has_leaf rest2 x) (λ z. z) (to x) v))
            inr (y x b))) inr (f.filled t j l);
        looked = λ t. ⊎_elim
            (λ (y : (x : ℕ) → x < LEAVES →
            (((has_leaf kept x || any_covers id ahead x) || has_leaf rest x) ≡ true) ⊎ o x).
            inl (λ x b. ⊎_elim
            (λ (v : ((has_leaf kept x || any_covers id ahead x) || has_leaf rest x) ≡ true). inl (to_all x v)) inr
            (y x b))) inr (f.looked t);
      }

  module _ {F : Type 0} (cell : F → ℕ) (Few : F → Type 0)
      (Fam : ℕ → F → Type 0) where
    -- quadrants of `old` of which the families are made; `ahead` are left
    pub record Taken (old ahead : List A) (families : List F) : Type 0 where
      pub right : All (λ q. sound q × (level_of (id q) < 30)) ahead
      pub len : length ahead + length families ≡ length old
      pub few : All Few families
      pub same : (x : ℕ) → times_by id ahead x + times_by cell families x ≡ times_by id old x
      pub families_are : (k : ℕ) →
          All (Across k) old →
          All (Across k) ahead × All (Fam (k + 1)) families

    pub taken_none : {old : List A} {families : List F} → families ≡ [] →
        All (λ q. sound q × (level_of (id q) < 30)) old → Taken old old families
    taken_none {old} {families} e h =
        let len = ap length e in
        record {
          right = h;
          len = omega arith;
          few = subst (All Few) (sym e) (All-nil Few);
          same = λ x. let z : times_by cell families x ≡ 0 = ap (λ u. times_by cell u x) e in omega arith;
          families_are = λ k a. (a, subst (All (Fam (k + 1))) (sym e) (All-nil (Fam (k + 1))));
        }

    pub taken_next : {old ahead : List A} (ahead2 : List A) {families : List F} (families2 : List F) (q : A) (f : F) →
        ahead ≡ ahead2 ++ q ∷ [] → families2 ≡ families ++ f ∷ [] → cell f ≡ id q → Few f →
        ((k : ℕ) → Across k q → Fam (k + 1) f) →
        Taken old ahead families → Taken old ahead2 families2
    taken_next {old} {ahead} ahead2 {families} families2 q f e ef ec few fam s =
        let len = ap length e ∙ length-append ahead2 (q ∷ []) in
        let len2 = ap length ef ∙ length-append families (f ∷ []) in
        let was = s.len in
        record {
          right = (All-pop (λ q. sound q × (level_of (id q) < 30)) ahead ahead2 (Some q) e s.right).0;
          len = omega arith;
          few = subst (All Few) (sym ef) (All-push Few families f s.few few);
          same = λ x.
              let a = ap (λ u. times_by id u x) e ∙ times-push id ahead2 q x in
              let b = ap (λ u. times_by cell u x) ef ∙ times-push cell families f x in
              let c : cond {A = ℕ} (covers (cell f) x) 1 0 ≡ cond {A = ℕ} (covers (id q) x) 1 0 =
              ap (λ (n : ℕ). cond {A = ℕ} (covers n x) 1 0) ec in
              let d = s.same x in
              omega arith;
          families_are = λ k a.
              let was2 = s.families_are k a in
              let parts = All-pop (Across k) ahead ahead2 (Some q) e was2.0 in (
                parts.0,
                subst (All (Fam (k + 1))) (sym ef)
                    (All-push (Fam (k + 1)) families f was2.1 (fam k parts.1)),
              );
        }

    -- what is so of families of `old` that are settled, and of those that are left: `families` and `others`
    pub record Moved (whole : Bool) (most : ℕ) (old : List F) (old_kept : List ℕ) (old_ahead : List A)
        (families others : List F) (kept : List ℕ) (ahead : List A) : Type 0 where
      pub families_are : (k : ℕ) → All (Fam k) old → All (Fam k) families × All (Fam k) others
      pub front : (allowed deepest k : ℕ) (spent : List A) → All (Fam k) old →
          Fronts whole allowed most deepest k k spent (map cell old) old_kept old_ahead →
          Fronts whole allowed most deepest k k spent (map cell families ++ map cell others) kept ahead

    pub moved_none : {whole : Bool} {most : ℕ} {old others : List F} {kept : List ℕ} {ahead : List A} →
        others ≡ [] → Moved whole most old kept ahead old others kept ahead
    moved_none {whole} {most} {old = old} {others} {kept} {ahead} e =
        let none = ap length (ap (map cell) e) in
        record {
          families_are = λ k a. (a, subst (All (Fam k)) (sym e) (All-nil (Fam k)));
          front = λ al d k s a f. front_rest (map cell old ++ map cell others)
              (λ x. let p = times-append (λ n. n) (map cell old) (map cell others) x in
              let z : times (map cell others) x ≡ 0 = ap (λ u. times (map cell u) x) e in
              omega arith)
              (let p = length-append (map cell old) (map cell others) in omega arith) f;
        }

    pub moved_next : {whole : Bool} {most : ℕ} {old : List F} {old_kept : List ℕ} {old_ahead : List A}
        {families : List F} (families2 : List F) {others : List F} {kept : List ℕ} (kept2 : List ℕ) {ahead : List A}
        (ahead2 : List A) (f : F) {waiting : ℕ} →
        families ≡ families2 ++ f ∷ [] → waiting ≡ length families2 + length others →
        ((allowed deepest k : ℕ) (spent : List A) (rest : List ℕ) → length rest ≡ waiting →
        Fam k f →
        Fronts whole allowed most deepest k k spent (cell f ∷ rest) kept ahead →
        Fronts whole allowed most deepest k k spent rest kept2 ahead2) →
        Moved whole most old old_kept old_ahead families others kept ahead →
        Moved whole most old old_kept old_ahead families2 others kept2 ahead2
    moved_next {whole} {most} {families = families} families2 {others} {kept} kept2 {ahead} ahead2 f {waiting} e n
        step s = record {
          families_are = λ k a.
              let was = s.families_are k a in
              ((All-pop (Fam k) families families2 (Some f) e was.0).0, was.1);
          front = λ al d k sp a fr.
              let was = s.families_are k a in
              let one = (All-pop (Fam k) families families2 (Some f) e was.0).1 in
              let rest = map cell families2 ++ map cell others in
              let len : length rest ≡ waiting = (let p = length-append (map cell families2) (map cell others) in
              let q = length-map families2 cell in
              let r = length-map others cell in
              omega arith) in
              step al d k sp rest len one (front_rest (cell f ∷ rest) (moved e) (moved_len e)
              (s.front al d k sp a fr));
        }
      where
        moved : families ≡ families2 ++ f ∷ [] → (x : ℕ) →
            times (cell f ∷ (map cell families2 ++ map cell others)) x ≡ times (map cell families ++ map cell others) x
        moved e2 x =
            let a = times-cons (λ n. n) (cell f) (map cell families2 ++ map cell others) x in
            let b = times-append (λ n. n) (map cell families2) (map cell others) x in
            let c = times-append (λ n. n) (map cell families) (map cell others) x in
            let d = times-map cell families x ∙ ap (λ u. times_by cell u x) e2 ∙ times-push cell families2 f x in
            let g = times-map cell families2 x in
            omega arith

        moved_len : families ≡ families2 ++ f ∷ [] →
            length (cell f ∷ (map cell families2 ++ map cell others)) ≡ length (map cell families ++ map cell others)
        moved_len e2 =
            let b = length-append (map cell families2) (map cell others) in
            let c = length-append (map cell families) (map cell others) in
            let d = length-map families cell ∙ ap length e2 ∙ length-append families2 (f ∷ []) in
            let g = length-map families2 cell in
            omega arith

    pub moved_other : {whole : Bool} {most : ℕ} {old : List F} {old_kept : List ℕ} {old_ahead : List A}
        {families : List F} (families2 : List F) {others : List F} (others2 : List F) {kept : List ℕ} {ahead : List A}
        (f : F) → families ≡ families2 ++ f ∷ [] → others2 ≡ others ++ f ∷ [] →
        Moved whole most old old_kept old_ahead families others kept ahead →
        Moved whole most old old_kept old_ahead families2 others2 kept ahead
    moved_other {whole} {most} {families = families} families2 {others} others2 {kept} {ahead} f e e2 s =
        record {
          families_are = λ k a.
              let was = s.families_are k a in
              let parts = All-pop (Fam k) families families2 (Some f) e was.0 in
              (parts.0, subst (All (Fam k)) (sym e2) (All-push (Fam k) others f was.1 parts.1));
          front = λ al d k sp a fr. front_rest (map cell families2 ++ map cell others2)
              (λ x.
              let g = times-append (λ n. n) (map cell families2) (map cell others2) x in
              let c = times-append (λ n. n) (map cell families) (map cell others) x in
              let d = times-map cell families x ∙ ap (λ u. times_by cell u x) e ∙ times-push cell families2 f x in
              let h = times-map cell families2 x in
              let b = times-map cell others2 x ∙ ap (λ u. times_by cell u x) e2 ∙ times-push cell others f x in
              let j = times-map cell others x in
              omega arith)
              (let g = length-append (map cell families2) (map cell others2) in
              let c = length-append (map cell families) (map cell others) in
              let len = ap length e ∙ length-append families2 (f ∷ []) in
              let len2 = ap length e2 ∙ length-append others (f ∷ []) in
              let p = length-map families cell in
              let q = length-map families2 cell in
              let r = length-map others cell in
              let t = length-map others2 cell in
              omega arith) (s.front al d k sp a fr);
        }

    pub moved_turned : {whole : Bool} {most : ℕ} {old : List F} {old_kept : List ℕ} {old_ahead : List A}
        {families others : List F} (others2 : List F) {kept : List ℕ} {ahead : List A} → others2 ≡ reverse others →
        Moved whole most old old_kept old_ahead families others kept ahead →
        Moved whole most old old_kept old_ahead families others2 kept ahead
    moved_turned {families = families} {others} others2 e s =
        let same = subst (IsPermutation others) (sym e) (IsPermutation-reverse others) in
        record {
          families_are = λ k a.
              let was = s.families_are k a in
              (was.0, All-permutation (Fam k) others others2 same was.1);
          front = λ al d k sp a fr. front_rest (map cell families ++ map cell others2)
              (λ x.
              let b = times-append (λ n. n) (map cell families) (map cell others) x in
              let c = times-append (λ n. n) (map cell families) (map cell others2) x in
              let g = times-map cell others x in
              let h = times-map cell others2 x in
              let j = sum_by-IsPermutation (λ f. cond (covers (cell f) x) 1 0) others others2 same in
              omega arith)
              (let b = length-append (map cell families) (map cell others) in
              let c = length-append (map cell families) (map cell others2) in
              let g = length-map others cell in
              let h = length-map others2 cell in
              let j = length_permutation others others2 same in
              omega arith) (s.front al d k sp a fr);
        }

  -- ---- a family settled

  split_leaf : {k cell : ℕ} (rest kept inside : List ℕ) (ahead across : List A) (x : ℕ) →
      Family k cell inside across → ((has_leaf kept x || any_covers id ahead x) || has_leaf (cell ∷ rest) x) ≡ true →
      (((has_leaf (kept ++ inside) x || any_covers id (ahead ++ across) x) || has_leaf rest x) ≡ true) ⊎ o x
  split_leaf {cell = cell} rest kept inside ahead across x fam h =
      let now = has_leaf (kept ++ inside) x || any_covers id (ahead ++ across) x in
      ⊎_elim
      (λ (y : (has_leaf kept x || any_covers id ahead x) ≡ true).
      inl (or_left now (has_leaf rest x) (grown id kept inside ahead across x y)))
      (λ (y : has_leaf (cell ∷ rest) x ≡ true). ⊎_elim
      (λ (v : covers cell x ≡ true). ⊎_elim
      (λ (z : (has_leaf inside x || any_covers id across x) ≡ true).
      inl (or_left now (has_leaf rest x) (added id kept inside ahead across x z))) inr
      (fam.leaves x v))
      (λ (v : has_leaf rest x ≡ true). inl (or_right now (has_leaf rest x) v))
      (first_or cell rest x y))
      (or_cases (has_leaf kept x || any_covers id ahead x) (has_leaf (cell ∷ rest) x) h)

  clear_inside : {k : ℕ} (spent : List A) (inside : List ℕ) → All (IsAbove id work cr k) spent →
      All (IsInside i cr k) inside → All (λ c. All (λ a. IsClear c (id a)) spent) inside
  clear_inside {k} spent inside are all = All-weaker (IsInside i cr k) (λ c. All (λ a. IsClear c (id a)) spent)
      (λ c y. All-weaker (IsAbove id work cr k) (λ a. IsClear c (id a))
      (λ a z h. absurd (let l = y.level in let b = z.2 in omega arith)) spent are) inside all

  fine_inside : {deepest k : ℕ} (inside : List ℕ) → All (IsInside i cr k) inside → All (IsFine i deepest) inside
  fine_inside {deepest} {k} inside all =
      All-weaker (IsInside i cr k) (IsFine i deepest) (λ c z. inr z.lies) inside all

  -- the cells that crossed but lie outside, with that of a family if it has no child
  record Goes (gone : List ℕ) (cell : ℕ) (inside : List ℕ) (across : List A) : Type 0 where
    pub all : List ℕ
    pub are : All (λ c. IsCrossing cr c × EachLeaf o c) all
    pub once : (x : ℕ) → (times inside x + times_by id across x) + times all x
        ≤ times gone x + cond (covers cell x) 1 0
    pub more : length gone + 1 ≤ length all + (length inside + length across)

  goes : {k cell : ℕ} (gone inside : List ℕ) (across : List A) → All (λ c. IsCrossing cr c × EachLeaf o c) gone →
      Family k cell inside across → Goes gone cell inside across
  goes {k} {cell} gone inside across old fam = ⊎_elim
      (λ (h : length inside + length across < 1).
      let none = ended inside (omega arith) in
      let none2 = ended across (omega arith) in
      let len = length-append gone (cell ∷ []) in
      record {
        all = gone ++ cell ∷ [];
        are = All-push (λ c. IsCrossing cr c × EachLeaf o c) gone cell old
            (fam.crosses, family_gone inside across (omega arith) fam);
        once = λ x.
            let t = times-push (λ n. n) gone cell x in
            let a : times inside x ≡ 0 = ap (λ u. times u x) none in
            let b : times_by id across x ≡ 0 = ap (λ u. times_by id u x) none2 in
            omega arith;
        more = omega arith;
      })
      (λ (h : 1 ≤ length inside + length across). record {
        all = gone;
        are = old;
        once = λ x. let a = fam.once x in omega arith;
        more = omega arith;
      })
      (cases_lt (length inside + length across) 1)

  pub front_split : {allowed most deepest k cell : ℕ} {spent : List A} {rest kept : List ℕ}
      (kept2 inside : List ℕ) {ahead : List A} (ahead2 across : List A) → kept2 ≡ kept ++ inside →
      ahead2 ≡ ahead ++ across → Family k cell inside across →
      Fronts true allowed most deepest k k spent (cell ∷ rest) kept ahead →
      Fronts true allowed most deepest k k spent rest kept2 ahead2
  front_split {allowed} {most} {deepest} {k} {cell} {spent} {rest} {kept} kept2 inside {ahead} ahead2 across
      e e2 fam f =
      let all = All-append (IsKept true i cr deepest) kept inside f.kept_are
      (kept_from_inside inside f.deep fam.inside_are) in
      let all2 = All-append (Across k) ahead across f.ahead_are fam.across_are in
      let Clear = λ (c : ℕ). All (λ a. IsClear c (id a)) spent in
      let goes2 = goes f.gone inside across f.gone_are fam in
      let len = ap length e ∙ length-append kept inside in
      let len2 = ap length e2 ∙ length-append ahead across in
      record {
        gone = goes2.all;
        deep = f.deep;
        kept_are = subst (All (IsKept true i cr deepest)) (sym e) all;
        ahead_are = subst (All (Across k)) (sym e2) all2;
        gone_are = goes2.are;
        once = λ x.
            let a = f.once x in
            let c = ap (λ u. times u x) e ∙ times-append (λ n. n) kept inside x in
            let d = ap (λ u. times_by id u x) e2 ∙ times-append id ahead across x in
            let g = times-cons (λ n. n) cell rest x in
            let h = goes2.once x in
            omega arith;
        leaves = λ t x l. ⊎_elim
            (λ (v : ((has_leaf kept x || any_covers id ahead x) || has_leaf (cell ∷ rest) x) ≡ true). ⊎_elim
            (λ (y : ((has_leaf (kept ++ inside) x || any_covers id (ahead ++ across) x) || has_leaf rest x) ≡ true).
            inl (ap (λ z. (has_leaf z x || any_covers id ahead2 x) || has_leaf rest x) e
            ∙ ap (λ z. (has_leaf (kept ++ inside) x || any_covers id z x) || has_leaf rest x) e2 ∙ y)) inr
            (split_leaf rest kept inside ahead across x fam v)) inr (f.leaves t x l);
        spent_are = f.spent_are;
        spent_once = f.spent_once;
        clear = subst (All Clear) (sym e) (All-append Clear kept inside f.clear
            (clear_inside spent inside f.spent_are fam.inside_are));
        near = λ t. ⊎_elim
            (λ (y : All (IsFine i deepest) kept). inl (subst (All (IsFine i deepest)) (sym e)
            (All-append (IsFine i deepest) kept inside y (fine_inside inside fam.inside_are))))
            (λ (y : (most ≤ (((length kept + length ahead) + length (cell ∷ rest)) + length f.gone) + 2)
            ⊎ (allowed < sum_by work spent)). inr (⊎_elim
            (λ (z : most ≤ (((length kept + length ahead) + length (cell ∷ rest)) + length f.gone) + 2).
            inl (let g = goes2.more in omega arith)) inr y)) (f.near t);
        filled = λ t. absurd (both_ways true t refl);
        looked = λ t. absurd (both_ways true t refl);
      }

  pub front_whole : {allowed most deepest k cell waiting : ℕ} {spent : List A} {rest kept : List ℕ}
      (kept2 inside : List ℕ) {ahead : List A} (across : List A) → kept2 ≡ kept ++ cell ∷ [] → length rest ≡ waiting →
      length inside + length across ≤ 4 →
      most < ((length kept + length ahead) + waiting) + (length inside + length across) →
      Family k cell inside across → Fronts true allowed most deepest k k spent (cell ∷ rest) kept ahead →
      Fronts true allowed most deepest k k spent rest kept2 ahead
  front_whole {allowed} {most} {deepest} {k} {cell} {waiting} {spent} {rest} {kept} kept2 inside {ahead}
      across e n few full fam f =
      let lv = fam.level in
      let d = f.deep in
      let one : IsKept true i cr deepest cell = record {
        cell = fam.crosses.0;
        level = omega arith;
        around = fam.around;
        lies = inr (refl, fam.crosses);
      } in
      let Clear = λ (c : ℕ). All (λ a. IsClear c (id a)) spent in
      let clear : Clear cell = All-weaker (IsAbove id work cr k) (λ a. IsClear cell (id a))
      (λ a z h. absurd (let b = z.2 in omega arith)) spent f.spent_are in
      let len = ap length e ∙ length-append kept (cell ∷ []) in
      record {
        gone = f.gone;
        deep = f.deep;
        kept_are = subst (All (IsKept true i cr deepest)) (sym e)
            (All-push (IsKept true i cr deepest) kept cell f.kept_are one);
        ahead_are = f.ahead_are;
        gone_are = f.gone_are;
        once = λ x.
            let a = f.once x in
            let c = ap (λ u. times u x) e ∙ times-push (λ n. n) kept cell x in
            let g = times-cons (λ n. n) cell rest x in
            omega arith;
        leaves = λ t x l. ⊎_elim
            (λ (v : ((has_leaf kept x || any_covers id ahead x) || has_leaf (cell ∷ rest) x) ≡ true).
            inl (ap (λ z. (has_leaf z x || any_covers id ahead x) || has_leaf rest x) e ∙ ⊎_elim
            (λ (y : (has_leaf kept x || any_covers id ahead x) ≡ true).
            or_left (has_leaf (kept ++ cell ∷ []) x || any_covers id ahead x) (has_leaf rest x)
            (either (has_leaf kept x) (any_covers id ahead x) (has_leaf (kept ++ cell ∷ []) x) (any_covers id ahead x)
            (any_left (λ c. c) kept (cell ∷ []) x) (λ z. z) y))
            (λ (y : has_leaf (cell ∷ rest) x ≡ true). ⊎_elim
            (λ (v : covers cell x ≡ true).
            or_left (has_leaf (kept ++ cell ∷ []) x || any_covers id ahead x) (has_leaf rest x)
            (or_left (has_leaf (kept ++ cell ∷ []) x) (any_covers id ahead x) (any_at_last (λ c. c) kept cell x v)))
            (λ (v : has_leaf rest x ≡ true).
            or_right (has_leaf (kept ++ cell ∷ []) x || any_covers id ahead x) (has_leaf rest x) v)
            (first_or cell rest x y))
            (or_cases (has_leaf kept x || any_covers id ahead x) (has_leaf (cell ∷ rest) x) v))) inr (f.leaves t x l);
        spent_are = f.spent_are;
        spent_once = f.spent_once;
        clear = subst (All Clear) (sym e) (All-push Clear kept cell f.clear clear);
        near = λ t. inr (inl (omega arith));
        filled = λ t. absurd (both_ways true t refl);
        looked = λ t. absurd (both_ways true t refl);
      }

  -- the first `most` of two lists are both, or `most`
  cut_or_full : (most : ℕ) (kept2 kept inside : List ℕ) → kept2 ≡ take most (kept ++ inside) →
      (kept2 ≡ kept ++ inside) ⊎ (most ≤ length kept2)
  cut_or_full most kept2 kept inside e = ⊎_elim
      (λ (y : most < length (kept ++ inside)). inr (let l = ap length e ∙ length-take most (kept ++ inside) in
      let m = min-le_left most (length (kept ++ inside)) in omega arith))
      (λ (y : length (kept ++ inside) ≤ most). inl (e ∙ take_all most (kept ++ inside) y))
      (cases_lt most (length (kept ++ inside)))

  still_full : (most : ℕ) (kept2 kept inside : List ℕ) → kept2 ≡ take most (kept ++ inside) → most ≤ length kept →
      most ≤ length kept2
  still_full most kept2 kept inside e h =
      let l = ap length e ∙ length-take most (kept ++ inside) in
      let n = length-append kept inside in
      omega arith

  pub front_inner : {allowed most deepest k cell : ℕ} {spent : List A} {rest kept : List ℕ}
      (kept2 inside : List ℕ) {ahead : List A} (ahead2 across : List A) → kept2 ≡ take most (kept ++ inside) →
      (ahead2 ≡ ahead ++ across) ⊎ ((ahead2 ≡ ahead) × (looked_into most < length ahead + length across)) →
      Family k cell inside across → Fronts false allowed most deepest k k spent (cell ∷ rest) kept ahead →
      Fronts false allowed most deepest k k spent rest kept2 ahead2
  front_inner {allowed} {most} {deepest} {k} {cell} {spent} {rest} {kept} kept2 inside {ahead} ahead2 across
      e e2 fam f =
      let all = All-append (IsKept false i cr deepest) kept inside f.kept_are
      (kept_from_inside inside f.deep fam.inside_are) in
      let all2 = All-append (Across k) ahead across f.ahead_are fam.across_are in
      let Clear = λ (c : ℕ). All (λ a. IsClear c (id a)) spent in
      let clear = All-append Clear kept inside f.clear (clear_inside spent inside f.spent_are fam.inside_are) in
      let once_kept : (x : ℕ) → times kept2 x ≤ times kept x + times inside x = λ x.
      let c = ap (λ u. times u x) e in
      let t = times-take (λ n. n) most (kept ++ inside) x in
      let a = times-append (λ n. n) kept inside x in
      omega arith in
      let once_ahead : (x : ℕ) → times_by id ahead2 x ≤ times_by id ahead x + times_by id across x = λ x. ⊎_elim
      (λ (y : ahead2 ≡ ahead ++ across). let d = ap (λ u. times_by id u x) y ∙ times-append id ahead across x in
      omega arith)
      (λ (y : (ahead2 ≡ ahead) × (looked_into most < length ahead + length across)).
      let d = ap (λ u. times_by id u x) y.0 in omega arith) e2 in
      let both : (x : ℕ) → times_by id (ahead ++ across) x ≤ 1 = λ x.
      let a = f.once x in
      let b = fam.once x in
      let d = times-append id ahead across x in
      let g = times-cons (λ n. n) cell rest x in
      omega arith in
      record {
        gone = f.gone;
        deep = f.deep;
        kept_are = subst (All (IsKept false i cr deepest)) (sym e)
            (All-take (IsKept false i cr deepest) most (kept ++ inside) all);
        ahead_are = ⊎_elim
            (λ (y : ahead2 ≡ ahead ++ across). subst (All (Across k)) (sym y) all2)
            (λ (y : (ahead2 ≡ ahead) × (looked_into most < length ahead + length across)).
            subst (All (Across k)) (sym y.0) f.ahead_are) e2;
        gone_are = f.gone_are;
        once = λ x.
            let a = f.once x in
            let b = fam.once x in
            let c = once_kept x in
            let d = once_ahead x in
            let g = times-cons (λ n. n) cell rest x in
            omega arith;
        leaves = λ t. absurd (both_ways false refl t);
        spent_are = f.spent_are;
        spent_once = f.spent_once;
        clear = subst (All Clear) (sym e) (All-take Clear most (kept ++ inside) clear);
        near = λ t. absurd (both_ways false refl t);
        filled = λ t j l. ⊎_elim
            (λ (y : kept2 ≡ kept ++ inside). ⊎_elim
            (λ (z : (x : ℕ) → x < LEAVES → ((has_leaf kept x || has_leaf (cell ∷ rest) x) ≡ true) ⊎ IsLeft o cr j x).
            inl (λ x b. ⊎_elim
            (λ (v : (has_leaf kept x || has_leaf (cell ∷ rest) x) ≡ true). ⊎_elim
            (λ (h : has_leaf kept x ≡ true). inl (ap (λ u. has_leaf u x || has_leaf rest x) y
            ∙ or_left (has_leaf (kept ++ inside) x) (has_leaf rest x) (any_left (λ c. c) kept inside x h)))
            (λ (h : has_leaf (cell ∷ rest) x ≡ true). ⊎_elim
            (λ (g : covers cell x ≡ true). ⊎_elim
            (λ (m : has_leaf inside x ≡ true). inl (ap (λ u. has_leaf u x || has_leaf rest x) y
            ∙ or_left (has_leaf (kept ++ inside) x) (has_leaf rest x) (any_right (λ c. c) kept inside x m))) inr
            (family_filled inside across x l fam g))
            (λ (g : has_leaf rest x ≡ true). inl (ap (λ u. has_leaf u x || has_leaf rest x) y
            ∙ or_right (has_leaf (kept ++ inside) x) (has_leaf rest x) g))
            (first_or cell rest x h))
            (or_cases (has_leaf kept x) (has_leaf (cell ∷ rest) x) v)) inr (z x b)))
            (λ (z : (most ≤ length kept) ⊎ IsMuchCrossing cr (looked_into most) allowed j). inr (⊎_elim
            (λ (h : most ≤ length kept). inl (still_full most kept2 kept inside e h)) inr z))
            (f.filled t j l))
            (λ (y : most ≤ length kept2). inr (inl y)) (cut_or_full most kept2 kept inside e);
        looked = λ t. ⊎_elim
            (λ (g : ahead2 ≡ ahead ++ across). ⊎_elim
            (λ (y : kept2 ≡ kept ++ inside). ⊎_elim
            (λ (z : (x : ℕ) → x < LEAVES →
            (((has_leaf kept x || any_covers id ahead x) || has_leaf (cell ∷ rest) x) ≡ true) ⊎ o x).
            inl (λ x b. ⊎_elim
            (λ (v : ((has_leaf kept x || any_covers id ahead x) || has_leaf (cell ∷ rest) x) ≡ true). ⊎_elim
            (λ (m : ((has_leaf (kept ++ inside) x || any_covers id (ahead ++ across) x) || has_leaf rest x) ≡ true).
            inl (ap (λ u. (has_leaf u x || any_covers id ahead2 x) || has_leaf rest x) y
            ∙ ap (λ u. (has_leaf (kept ++ inside) x || any_covers id u x) || has_leaf rest x) g ∙ m)) inr
            (split_leaf rest kept inside ahead across x fam v)) inr (z x b)))
            (λ (z : (most ≤ length kept) ⊎ IsMuchCrossing cr (looked_into most) allowed (k + 1)). inr (⊎_elim
            (λ (h : most ≤ length kept). inl (still_full most kept2 kept inside e h)) inr z))
            (f.looked t))
            (λ (y : most ≤ length kept2). inr (inl y)) (cut_or_full most kept2 kept inside e))
            (λ (g : (ahead2 ≡ ahead) × (looked_into most < length ahead + length across)). inr (inr (inl (
              k,
              (omega arith),
              many_cross (ahead ++ across) all2 both (let n = length-append ahead across in let h = g.1 in omega
                  arith),
            ))))
            e2;
      }

  -- ---- one level

  module _ {F : Type 0} (cell : F → ℕ) (Few : F → Type 0)
      (Fam : ℕ → F → Type 0) where
    -- the families of a level, settled up to those whose turn is `limit` or later
    pub record Splits (whole : Bool) (most limit : ℕ) (old_kept : List ℕ) (old_ahead : List A) (families : List F)
        (kept : List ℕ) (ahead : List A) : Type 0 where
      pub few : All Few families
      pub none : 20 < limit → families ≡ []
      pub sizes : Sizes whole most (length families) (length kept) (length ahead)
      pub families_are : (k : ℕ) →
          All (Across k) old_ahead → All (Fam (k + 1)) families
      pub front : (allowed deepest k : ℕ) (spent : List A) → k + 1 ≤ deepest →
          Fronts whole allowed most deepest k (k + 1) spent [] old_kept old_ahead →
          Fronts whole allowed most deepest (k + 1) (k + 1) spent (map cell families)
          kept ahead

    splits_front : (whole : Bool) (most : ℕ) (kept : List ℕ) (old_ahead ahead : List A) (families : List F) →
        ahead ≡ [] → length families ≡ length old_ahead →
        ((x : ℕ) → times_by cell families x ≡ times_by id old_ahead x) → (allowed deepest k : ℕ) (spent : List A) →
        k + 1 ≤ deepest → Fronts whole allowed most deepest k (k + 1) spent [] kept old_ahead →
        Fronts whole allowed most deepest (k + 1) (k + 1) spent (map cell families) kept ahead
    splits_front whole most kept old_ahead ahead families e len same allowed d k spent h f =
        let none = ap length e in
        let waits : (x : ℕ) → any_covers id old_ahead x ≡ true → has_leaf (map cell families) x ≡ true = λ x v.
        let a = times_some id old_ahead x v in
        let b = same x in
        let c = times-map cell families x in
        some_times (λ n. n) (map cell families) x (omega arith) in
        let there : (x : ℕ) → ((has_leaf kept x || any_covers id old_ahead x) || has_leaf [] x) ≡ true →
        (has_leaf kept x || has_leaf (map cell families) x) ≡ true = λ x v. ⊎_elim
        (λ (y : (has_leaf kept x || any_covers id old_ahead x) ≡ true).
        either (has_leaf kept x) (any_covers id old_ahead x) (has_leaf kept x) (has_leaf (map cell families) x) (λ z. z)
        (waits x) y)
        (λ (y : has_leaf [] x ≡ true). absurd (both_ways false refl y))
        (or_cases (has_leaf kept x || any_covers id old_ahead x) (has_leaf [] x) v) in
        let also : (x : ℕ) → (has_leaf kept x || has_leaf (map cell families) x) ≡ true →
        ((has_leaf kept x || any_covers id ahead x) || has_leaf (map cell families) x) ≡ true = λ x v.
        either (has_leaf kept x) (has_leaf (map cell families) x) (has_leaf kept x || any_covers id ahead x)
        (has_leaf (map cell families) x) (λ z. or_left (has_leaf kept x) (any_covers id ahead x) z) (λ z. z) v in
        record {
          gone = f.gone;
          deep = h;
          kept_are = f.kept_are;
          ahead_are = subst (All (Across (k + 1))) (sym e) (All-nil (Across (k + 1)));
          gone_are = f.gone_are;
          once = λ x.
              let a = f.once x in
              let b = same x in
              let c = times-map cell families x in
              let g : times_by id ahead x ≡ 0 = ap (λ u. times_by id u x) e in
              let z : times [] x ≡ 0 = refl in
              omega arith;
          leaves = λ t x l. ⊎_elim
              (λ (v : ((has_leaf kept x || any_covers id old_ahead x) || has_leaf [] x) ≡ true).
              inl (also x (there x v))) inr (f.leaves t x l);
          spent_are = f.spent_are;
          spent_once = f.spent_once;
          clear = f.clear;
          near = λ t. ⊎_elim inl
              (λ (y : (most ≤ (((length kept + length old_ahead) + 0) + length f.gone) + 2)
              ⊎ (allowed < sum_by work spent)). inr (⊎_elim
              (λ (z : most ≤ (((length kept + length old_ahead) + 0) + length f.gone) + 2). inl
              (let l = length-map families cell in omega arith)) inr y)) (f.near t);
          filled = λ t j l. ⊎_elim
              (λ (y : j < k + 1). ⊎_elim
              (λ (z : (x : ℕ) → x < LEAVES → ((has_leaf kept x || has_leaf [] x) ≡ true) ⊎ IsLeft o cr j x).
              inl (λ x b. ⊎_elim
              (λ (v : (has_leaf kept x || has_leaf [] x) ≡ true). inl (⊎_elim
              (λ (g : has_leaf kept x ≡ true). or_left (has_leaf kept x) (has_leaf (map cell families) x) g)
              (λ (g : has_leaf [] x ≡ true). absurd (both_ways false refl g))
              (or_cases (has_leaf kept x) (has_leaf [] x) v))) inr (z x b))) inr (f.filled t j (omega arith)))
              (λ (y : k + 1 ≤ j).
              let at : k + 1 ≡ j = omega arith in
              ⊎_elim
              (λ (z : (x : ℕ) → x < LEAVES →
              (((has_leaf kept x || any_covers id old_ahead x) || has_leaf [] x) ≡ true) ⊎ o x).
              inl (λ x b. ⊎_elim
              (λ (v : ((has_leaf kept x || any_covers id old_ahead x) || has_leaf [] x) ≡ true). inl (there x v))
              (λ (v : o x). inr (inl v)) (z x b)))
              (λ (z : (most ≤ length kept) ⊎ IsMuchCrossing cr (looked_into most) allowed (k + 1)).
              inr (subst (λ n. (most ≤ length kept) ⊎ IsMuchCrossing cr (looked_into most) allowed n) at z))
              (f.looked t))
              (cases_lt j (k + 1));
          looked = λ t. ⊎_elim
              (λ (z : (x : ℕ) → x < LEAVES →
              (((has_leaf kept x || any_covers id old_ahead x) || has_leaf [] x) ≡ true) ⊎ o x).
              inl (λ x b. ⊎_elim
              (λ (v : ((has_leaf kept x || any_covers id old_ahead x) || has_leaf [] x) ≡ true).
              inl (also x (there x v))) inr (z x b)))
              (λ (z : (most ≤ length kept) ⊎ IsMuchCrossing cr (looked_into most) allowed (k + 1)).
              inr (⊎_elim inl (λ (g : IsMuchCrossing cr (looked_into most) allowed (k + 1)).
              inr (much_later (omega arith) g)) z)) (f.looked t);
        }

    pub splits_none : {whole : Bool} {most limit : ℕ} {kept : List ℕ} {old_ahead ahead : List A} {families : List F} →
        limit ≡ 1 → ahead ≡ [] → length families ≡ length old_ahead → All Few families →
        ((x : ℕ) → times_by cell families x ≡ times_by id old_ahead x) →
        ((k : ℕ) → All (Across k) old_ahead →
        All (Fam (k + 1)) families) → Sizes whole most 0 (length kept) (length old_ahead) →
        Splits whole most limit kept old_ahead families kept ahead
    splits_none {whole} {most} {kept = kept} {old_ahead} {ahead} {families} one e len few same fams sizes =
        let none = ap length e in
        record {
          few = few;
          none = λ h. absurd (omega arith);
          sizes = record {
            few = λ w. let a = sizes.few w in omega arith;
            less = sizes.less;
            small = (sizes.small.0, let a = sizes.small.0 in omega arith, let a = sizes.small.1 in omega arith);
          };
          families_are = fams;
          front = splits_front whole most kept old_ahead ahead families e len same;
        }

    pub splits_next : {whole : Bool} {most limit : ℕ} {old_kept : List ℕ} {old_ahead : List A} {families : List F}
        (families2 : List F) {kept : List ℕ} (kept2 : List ℕ) {ahead : List A} (ahead2 : List A) →
        (20 ≤ limit → families2 ≡ []) → All Few families2 →
        Sizes whole most (length families2) (length kept2) (length ahead2) →
        ((k : ℕ) → All (Fam k) families → All (Fam k) families2) →
        ((allowed deepest k : ℕ) (spent : List A) → All (Fam k) families →
        Fronts whole allowed most deepest k k spent (map cell families) kept ahead →
        Fronts whole allowed most deepest k k spent (map cell families2) kept2 ahead2) →
        Splits whole most limit old_kept old_ahead families kept ahead →
        Splits whole most (limit + 1) old_kept old_ahead families2 kept2 ahead2
    splits_next families2 kept2 ahead2 none few sizes fams step s = record {
      few = few;
      none = λ h. none (omega arith);
      sizes = sizes;
      families_are = λ k a. fams (k + 1) (s.families_are k a);
      front = λ al d k sp h f.
          step al d (k + 1) sp (s.families_are k f.ahead_are) (s.front al d k sp h f);
    }

    pub splits_done : {whole : Bool} {most limit : ℕ} {old_kept : List ℕ} {old_ahead : List A} {families : List F}
        {kept : List ℕ} {ahead : List A} → limit ≡ 21 →
        Splits whole most limit old_kept old_ahead families kept ahead →
        (allowed deepest k : ℕ) (spent : List A) → k + 1 ≤ deepest →
        Fronts whole allowed most deepest k (k + 1) spent [] old_kept old_ahead →
        Fronts whole allowed most deepest (k + 1) (k + 1) spent [] kept ahead
    splits_done {whole} {most} {families = families} {kept} {ahead} e s al d k sp h f =
        let none : families ≡ [] = s.none (omega arith) in
        subst (λ u. Fronts whole al most d (k + 1) (k + 1) sp (map cell u) kept ahead)
        none
        (s.front al d k sp h f)

  -- ---- the begin of the search

  pub entered : {whole : Bool} {allowed most deepest n : ℕ} {kept : List ℕ} {ahead : List A} → n ≡ 6 →
      Sorting (λ m x. x / 4 ^ 30 ≡ m) 0 n kept ahead → Fronts whole allowed most deepest 0 0 [] [] kept ahead
  entered {deepest = deepest} {n} {kept} {ahead} e s =
      let there : (x : ℕ) → x < LEAVES → ((has_leaf kept x || any_covers id ahead x) ≡ true) ⊎ o x = λ x l.
      let below : x / 4 ^ 30 < 6 = div_below x (4 ^ 30) 6 (four_pos 30) l in
      s.leaves (x / 4 ^ 30) (omega arith) x refl in
      record {
        gone = [];
        deep = omega arith;
        kept_are = kept_from_inside kept (omega arith) s.inside_are;
        ahead_are = s.across_are;
        gone_are = All-nil (λ c. IsCrossing cr c × EachLeaf o c);
        once = λ x. let z : times [] x ≡ 0 = refl in let a = s.once x in omega arith;
        leaves = λ t x l. ⊎_elim
            (λ (y : (has_leaf kept x || any_covers id ahead x) ≡ true).
            inl (or_left (has_leaf kept x || any_covers id ahead x) (has_leaf [] x) y)) inr (there x l);
        spent_are = All-nil (IsAbove id work cr 0);
        spent_once = λ c. let z : listed [] c ≡ 0 = refl in omega arith;
        clear = All-weaker (IsInside i cr 0) (λ c. All (λ a. IsClear c (id a)) [])
            (λ c y. All-nil (λ a. IsClear c (id a))) kept s.inside_are;
        near = λ t. inl (All-weaker (IsInside i cr 0) (IsFine i deepest) (λ c y. inr y.lies) kept s.inside_are);
        filled = λ t j h. inl (λ x l. ⊎_elim
            (λ (z : (has_leaf kept x || any_covers id ahead x) ≡ true). ⊎_elim
            (λ (y : has_leaf kept x ≡ true). inl (or_left (has_leaf kept x) (has_leaf [] x) y))
            (λ (y : any_covers id ahead x ≡ true).
            let q = found (Across 0) id ahead x s.across_are y in
            let a = q.holds in
            let lv = a.level in
            inr (left_in o cr j (id q.item) x (a.cell, work q.item, a.crosses) a.around (omega arith) q.has))
            (or_cases (has_leaf kept x) (any_covers id ahead x) z)) (λ (z : o x). inr (inl z)) (there x l));
        looked = λ t. inl (λ x l. ⊎_elim
            (λ (y : (has_leaf kept x || any_covers id ahead x) ≡ true).
            inl (or_left (has_leaf kept x || any_covers id ahead x) (has_leaf [] x) y)) inr (there x l));
      }

  -- ---- leaves of both lists

  some_either : (kept : List ℕ) (ahead : List A) (x : ℕ) → 1 ≤ times kept x + times_by id ahead x →
      (has_leaf kept x || any_covers id ahead x) ≡ true
  some_either kept ahead x h = ⊎_elim
      (λ (y : times kept x < 1). or_right (has_leaf kept x) (any_covers id ahead x)
      (some_times id ahead x (omega arith)))
      (λ (y : 1 ≤ times kept x). or_left (has_leaf kept x) (any_covers id ahead x) (some_times (λ n. n) kept x y))
      (cases_lt (times kept x) 1)

  either_some : (kept : List ℕ) (ahead : List A) (x : ℕ) →
      ((has_leaf kept x || any_covers id ahead x) || has_leaf [] x) ≡ true → 1 ≤ times kept x + times_by id ahead x
  either_some kept ahead x h = ⊎_elim
      (λ (y : (has_leaf kept x || any_covers id ahead x) ≡ true). ⊎_elim
      (λ (g : has_leaf kept x ≡ true). let a = times_some (λ n. n) kept x g in omega arith)
      (λ (g : any_covers id ahead x ≡ true). let a = times_some id ahead x g in omega arith)
      (or_cases (has_leaf kept x) (any_covers id ahead x) y))
      (λ (y : has_leaf [] x ≡ true). absurd (both_ways false refl y))
      (or_cases (has_leaf kept x || any_covers id ahead x) (has_leaf [] x) h)

  -- ---- what the whole search has

  pub trimmed : (whole : Bool) (most : ℕ) {allowed deepest : ℕ} {kept : List ℕ} (kept2 : List ℕ) {ahead : List A} →
      (whole ≡ true → kept2 ≡ kept) → (whole ≡ false → kept2 ≡ take most kept) → length kept + length ahead ≤ 6 →
      Fronts whole allowed most deepest 0 0 [] [] kept ahead →
      Sizes whole most 0 (length kept2) (length ahead) × Fronts whole allowed most deepest 0 0 [] [] kept2 ahead
  trimmed true most {allowed} {deepest} {kept} kept2 {ahead} e e2 h f =
      let l = ap length (e refl) in
      let m = le-max_right most 6 in (
        record {
          few = λ t. omega arith;
          less = λ t. absurd (both_ways true t refl);
          small = (omega arith, omega arith, omega arith);
        },
        subst (λ u. Fronts true allowed most deepest 0 0 [] [] u ahead) (sym (e refl)) f,
      )
  trimmed false most {allowed} {deepest} {kept} kept2 {ahead} e e2 h f =
      let cut = e2 refl in
      let l = ap length cut ∙ length-take most kept in
      let m = le-max_right most 6 in
      let n = le-max_left most 6 in
      let a = min-le_left most (length kept) in
      let b = min-le_right most (length kept) in
      let whole_or_full : (kept2 ≡ kept) ⊎ (most ≤ length kept2) = ⊎_elim
      (λ (y : most < length kept). inr (omega arith))
      (λ (y : length kept ≤ most). inl (cut ∙ take_all most kept y)) (cases_lt most (length kept)) in (
        record {
          few = λ t. absurd (both_ways false refl t);
          less = λ t. omega arith;
          small = (omega arith, omega arith, omega arith);
        },
        record {
          gone = f.gone;
          deep = f.deep;
          kept_are = subst (All (IsKept false i cr deepest)) (sym cut)
              (All-take (IsKept false i cr deepest) most kept f.kept_are);
          ahead_are = f.ahead_are;
          gone_are = f.gone_are;
          once = λ x.
              let c = ap (λ u. times u x) cut in
              let t = times-take (λ n. n) most kept x in
              let g = f.once x in
              omega arith;
          leaves = λ t. absurd (both_ways false refl t);
          spent_are = f.spent_are;
          spent_once = f.spent_once;
          clear = subst (All (λ c. All (λ a. IsClear c (id a)) [])) (sym cut)
              (All-take (λ c. All (λ a. IsClear c (id a)) []) most kept f.clear);
          near = λ t. absurd (both_ways false refl t);
          filled = λ t j g. ⊎_elim
              (λ (y : kept2 ≡ kept). subst (λ u. ((x : ℕ) → x < LEAVES →
              ((has_leaf u x || has_leaf [] x) ≡ true) ⊎ IsLeft o cr j x) ⊎ (most ≤ length u)
              ⊎ IsMuchCrossing cr (looked_into most) allowed j) (sym y) (f.filled t j g))
              (λ (y : most ≤ length kept2). inr (inl y)) whole_or_full;
          looked = λ t. ⊎_elim
              (λ (y : kept2 ≡ kept). subst (λ u. ((x : ℕ) → x < LEAVES →
              (((has_leaf u x || any_covers id ahead x) || has_leaf [] x) ≡ true) ⊎ o x) ⊎ (most ≤ length u)
              ⊎ IsMuchCrossing cr (looked_into most) allowed 1) (sym y) (f.looked t))
              (λ (y : most ≤ length kept2). inr (inl y)) whole_or_full;
        },
      )

  pub sound_of : {k : ℕ} (ahead : List A) → All (Across k) ahead → All sound ahead
  sound_of {k} ahead all = All-weaker (Across k) sound (λ q y. y.right) ahead all

  pub ready : {whole : Bool} {allowed most deepest k bound : ℕ} {spent : List A} {rest kept : List ℕ}
      (ahead : List A) → k < 30 → Fronts whole allowed most deepest k bound spent rest kept ahead →
      All (λ q. sound q × (level_of (id q) < 30)) ahead
  ready {k = k} ahead h f = All-weaker (Across k)
      (λ q. sound q × (level_of (id q) < 30)) (λ q y. (y.right, let l = y.level in omega arith)) ahead f.ahead_are

  -- the cells of a level, kept by an outer covering
  across_kept : {deepest k : ℕ} (u : List A) → k ≤ deepest → All (Across k) u →
      All (λ q. IsKept true i cr deepest (id q)) u
  across_kept {deepest} {k} u h all = All-weaker (Across k) (λ q. IsKept true i cr deepest (id q)) (λ q y. record {
    cell = y.cell;
    level = let l = y.level in omega arith;
    around = y.around;
    lies = inr (refl, (y.cell, work q, y.crosses));
  }) u all

  pub closed_kept : (whole : Bool) {allowed most deepest k bound : ℕ} {spent : List A} {rest kept : List ℕ}
      (kept2 : List ℕ) {ahead : List A} → (whole ≡ true → (P : ℕ → Type 0) →
      All (λ q. P (id q)) ahead → All P kept → All P kept2) → (whole ≡ false → kept2 ≡ kept) →
      Fronts whole allowed most deepest k bound spent rest kept ahead → All (IsKept whole i cr deepest) kept2
  closed_kept true {deepest = deepest} kept2 {ahead} h e f =
      h refl (IsKept true i cr deepest) (across_kept ahead f.deep f.ahead_are) f.kept_are
  closed_kept false {deepest = deepest} kept2 h e f =
      subst (All (IsKept false i cr deepest)) (sym (e refl)) f.kept_are

  pub closed_leaf : {whole : Bool} {allowed most deepest k bound : ℕ} {spent : List A} {kept : List ℕ}
      (kept2 : List ℕ) {ahead : List A} → ((x : ℕ) → times kept2 x ≡ times kept x + times_by id ahead x) →
      whole ≡ true → (x : ℕ) → x < LEAVES → Fronts whole allowed most deepest k bound spent [] kept ahead →
      (has_leaf kept2 x ≡ true) ⊎ o x
  closed_leaf {kept = kept} kept2 {ahead} same t x l f =
      let e = same x in
      ⊎_elim
      (λ (y : ((has_leaf kept x || any_covers id ahead x) || has_leaf [] x) ≡ true).
      let a = either_some kept ahead x y in inl (some_times (λ n. n) kept2 x (omega arith))) inr (f.leaves t x l)

  -- ---- what is not split

  -- the quadrants `spent`, and those of level `k` with them
  record Counted (k : ℕ) (spent : List A) (kept : List ℕ) (u : List A) : Type 0 where
    pub are : All (IsAbove id work cr (k + 1)) (spent ++ u)
    pub once : (c : ℕ) → listed (map id (spent ++ u)) c ≤ 1
    pub clear : All (λ c. All (λ a. IsClear c (id a)) (spent ++ u)) kept
    pub total : sum_by work (spent ++ u) ≡ sum_by work spent + sum_by work u

  counted : {whole : Bool} {allowed most deepest k : ℕ} {spent : List A} {kept : List ℕ} {ahead : List A}
      (u others : List A) → ahead ≡ u ++ others → Fronts whole allowed most deepest k k spent [] kept ahead →
      Counted k spent kept u
  counted {k = k} {spent} {kept} {ahead} u others e f =
      let all = all_left (Across k) u others (subst (All (Across k)) e f.ahead_are) in
      let Is = IsAbove id work cr (k + 1) in
      let At = λ (a : ℕ). IsCell a × (level_of a ≡ k) in
      let Below = λ (a : ℕ). level_of a < k in
      let cells = All-map At id u (All-weaker (Across k) (λ q. At (id q)) (λ q y. (y.cell, y.level)) u all) in
      let below = All-map Below id spent (All-weaker (IsAbove id work cr k) (λ q. Below (id q)) (λ q y. y.2) spent
      f.spent_are) in
      let own = All-weaker At IsCell (λ a y. y.0) (map id u) cells in
      let total : (x : ℕ) → times kept x + times_by id u x ≤ 1 = λ x.
      let a = ap (λ z. times_by id z x) e ∙ times-append id u others x in
      let b = f.once x in
      let z : times [] x ≡ 0 = refl in
      omega arith in
      record {
        are = All-append Is spent u
            (All-weaker (IsAbove id work cr k) Is (λ a y. (y.0, y.1, let l = y.2 in omega arith)) spent f.spent_are)
            (All-weaker (Across k) Is (λ q y. (y.cell, y.crosses, let l = y.level in omega arith)) u all);
        once = λ c.
            let both = ap (λ v. listed v c) (map-append id spent u) in
            let a = listed-append (map id spent) (map id u) c in
            let b = listed_times (map id u) c own in
            let d = times-map id u (first_leaf c) in
            let g = total (first_leaf c) in
            let h = f.spent_once c in
            ⊎_elim (λ (y : listed (map id spent) c < 1). omega arith) (λ (y : 1 ≤ listed (map id spent) c). ⊎_elim
            (λ (z : listed (map id u) c < 1). omega arith) (λ (z : 1 ≤ listed (map id u) c).
            let p = listed_is Below (map id spent) c below y in
            let q = (listed_is At (map id u) c cells z).1 in
            absurd (omega arith)) (cases_lt (listed (map id u) c) 1)) (cases_lt (listed (map id spent) c) 1);
        clear = all_from (λ c. All (λ a. IsClear c (id a)) (spent ++ u)) kept (λ c m.
            All-append (λ a. IsClear c (id a)) spent u
            (All-contains (λ c. All (λ a. IsClear c (id a)) spent) kept c f.clear m)
            (all_from (λ q. IsClear c (id q)) u (λ q n h x v y.
            let a = member_times (λ n. n) kept c x m v in
            let b = member_times id u q x n y in
            let t = total x in
            absurd (omega arith))));
        total = sum_by-append work spent u;
      }

  keeps : (whole : Bool) (kept kept2 : List ℕ) (rest : List A) → (whole ≡ true → (P : ℕ → Type 0) →
      All (λ q. P (id q)) rest → All P kept → All P kept2) → (whole ≡ false → kept2 ≡ kept) → (P : ℕ → Type 0) →
      All (λ q. P (id q)) rest → All P kept → All P kept2
  keeps true kept kept2 rest h e P r a = h refl P r a
  keeps false kept kept2 rest h e P r a = subst (All P) (sym (e refl)) a

  kept_by : (whole : Bool) {deepest k : ℕ} (kept kept2 : List ℕ) (rest : List A) →
      (whole ≡ true → (P : ℕ → Type 0) → All (λ q. P (id q)) rest → All P kept → All P kept2) →
      (whole ≡ false → kept2 ≡ kept) → All (Across k) rest → k ≤ deepest →
      All (IsKept whole i cr deepest) kept → All (IsKept whole i cr deepest) kept2
  kept_by true {deepest} kept kept2 rest h e r l a =
      h refl (IsKept true i cr deepest) (across_kept rest l r) a
  kept_by false {deepest} kept kept2 rest h e r l a = subst (All (IsKept false i cr deepest)) (sym (e refl))
      a

  moved_times : (whole : Bool) (kept kept2 : List ℕ) (ahead ahead2 rest : List A) (x : ℕ) →
      times_by id ahead x ≡ times_by id ahead2 x + times_by id rest x →
      (whole ≡ true → times kept2 x ≡ times kept x + times_by id rest x) → (whole ≡ false → kept2 ≡ kept) →
      times kept2 x + times_by id ahead2 x ≤ times kept x + times_by id ahead x
  moved_times true kept kept2 ahead ahead2 rest x e same inn = let a = same refl in omega arith
  moved_times false kept kept2 ahead ahead2 rest x e same inn = let a = ap (λ u. times u x) (inn refl) in omega arith

  -- what a level begins with, once the cells of `u` are counted
  left_with : {whole : Bool} {allowed most deepest k : ℕ} {spent : List A} {kept : List ℕ}
      (kept2 : List ℕ) {ahead : List A} (ahead2 rest u : List A) → ahead ≡ ahead2 ++ rest →
      (whole ≡ true → (x : ℕ) → times kept2 x ≡ times kept x + times_by id rest x) →
      (whole ≡ true → (P : ℕ → Type 0) → All (λ q. P (id q)) rest → All P kept → All P kept2) →
      (whole ≡ false → kept2 ≡ kept) → Counted k spent kept u →
      (f : Fronts whole allowed most deepest k k spent [] kept ahead) →
      (whole ≡ true → All (IsFine i deepest) kept2
      ⊎ (most ≤ (((length kept2 + length ahead2) + 0) + length f.gone) + 2) ⊎ (allowed < sum_by work (spent ++ u))) →
      (whole ≡ false → ((x : ℕ) → x < LEAVES →
      (((has_leaf kept2 x || any_covers id ahead2 x) || has_leaf [] x) ≡ true) ⊎ o x) ⊎ (most ≤ length kept2)
      ⊎ IsMuchCrossing cr (looked_into most) allowed (k + 1)) →
      Fronts whole allowed most deepest k (k + 1) (spent ++ u) [] kept2 ahead2
  left_with {whole} {allowed} {most} {deepest} {k} {spent} {kept} kept2 {ahead} ahead2 rest u e same each
      inn
      c f near looked =
      let all = subst (All (Across k)) e f.ahead_are in
      let all1 = all_left (Across k) ahead2 rest all in
      let all2 = all_right (Across k) ahead2 rest all in
      let more = spent ++ u in
      let Is = IsAbove id work cr (k + 1) in
      let Clear = λ (c : ℕ). All (λ a. IsClear c (id a)) more in
      let parts : (x : ℕ) → times_by id ahead x ≡ times_by id ahead2 x + times_by id rest x = λ x.
      ap (λ z. times_by id z x) e ∙ times-append id ahead2 rest x in
      record {
        gone = f.gone;
        deep = f.deep;
        kept_are = kept_by whole kept kept2 rest each inn all2 f.deep f.kept_are;
        ahead_are = all1;
        gone_are = f.gone_are;
        once = λ x.
            let a = f.once x in
            let b = moved_times whole kept kept2 ahead ahead2 rest x (parts x) (λ t. same t x) inn in
            omega arith;
        leaves = λ t x l. ⊎_elim
            (λ (v : ((has_leaf kept x || any_covers id ahead x) || has_leaf [] x) ≡ true).
            let a = either_some kept ahead x v in
            let b = same t x in
            let p = parts x in
            inl (or_left (has_leaf kept2 x || any_covers id ahead2 x) (has_leaf [] x)
            (some_either kept2 ahead2 x (omega arith)))) inr (f.leaves t x l);
        spent_are = c.are;
        spent_once = c.once;
        clear = keeps whole kept kept2 rest each inn Clear (All-weaker (Across k) (λ q. Clear (id q))
            (λ q y. All-weaker Is (λ a. IsClear (id q) (id a))
            (λ a z h. absurd (let l = y.level in let b = z.2 in omega arith)) more c.are) rest all2) c.clear;
        near = near;
        filled = λ t j l. subst (λ z. ((x : ℕ) → x < LEAVES →
            ((has_leaf z x || has_leaf [] x) ≡ true) ⊎ IsLeft o cr j x) ⊎ (most ≤ length z)
            ⊎ IsMuchCrossing cr (looked_into most) allowed j) (sym (inn t)) (f.filled t j l);
        looked = looked;
      }

  pub left_front : {whole : Bool} {allowed most deepest k : ℕ} (n : ℕ) (spent : List A)
      (before after : ℕ) {kept : List ℕ} (kept2 : List ℕ) {ahead : List A} (ahead2 rest : List A) →
      ahead2 ≡ take n ahead → rest ≡ drop n ahead →
      (whole ≡ true → (x : ℕ) → times kept2 x ≡ times kept x + times_by id rest x) →
      (whole ≡ true → length kept2 ≡ length kept + length rest) →
      (whole ≡ true → (P : ℕ → Type 0) → All (λ q. P (id q)) rest → All P kept → All P kept2) →
      (whole ≡ false → kept2 ≡ kept) →
      ((whole ≡ false) × (most ≤ length kept) × (after ≡ before))
      ⊎ ((after + sum_by work (take n ahead) ≡ before)
      × ((q : A) (more : List A) → drop n ahead ≡ q ∷ more → after < work q)) →
      allowed ≤ sum_by work spent + before → Fronts whole allowed most deepest k k spent [] kept ahead →
      (more : List A) × (allowed ≤ sum_by work more + after)
      × Fronts whole allowed most deepest k (k + 1) more [] kept2 ahead2
  left_front {whole} {allowed} {most} {deepest} {k} n spent before after {kept} kept2 {ahead} ahead2 rest e
      e2
      same len each inn taken budget f = ⊎_elim
      (λ (y : (whole ≡ false) × (most ≤ length kept) × (after ≡ before)).
      let c = counted [] ahead refl f in
      let t = c.total in
      let a = y.2 in
      let l = ap length (inn y.0) in
      let m = y.1 in (
        spent ++ [],
        omega arith,
        left_with kept2 ahead2 rest [] joined same each inn c f (λ t. absurd (both_ways whole y.0 t))
            (λ t. inr (inl (omega arith))),
      ))
      (λ (y : (after + sum_by work (take n ahead) ≡ before)
      × ((q : A) (more : List A) → drop n ahead ≡ q ∷ more → after < work q)). by_rest rest refl y.0 y.1) taken
    where
      joined : ahead ≡ ahead2 ++ rest
      joined = sym (ap (λ z. z ++ rest) e ∙ ap (λ z. take n ahead ++ z) e2 ∙ take-append-drop n ahead)

      by_rest : (r : List A) → r ≡ rest → after + sum_by work (take n ahead) ≡ before →
          ((q : A) (more : List A) → drop n ahead ≡ q ∷ more → after < work q) →
          (more : List A) × (allowed ≤ sum_by work more + after)
          × Fronts whole allowed most deepest k (k + 1) more [] kept2 ahead2
      by_rest [] er total stop =
          let all : ahead ≡ ahead2 ++ [] = joined ∙ ap (λ z. ahead2 ++ z) (sym er) in
          let c = counted ahead2 [] all f in
          let t = c.total in
          let s = ap (sum_by work) e in
          let same_ahead : ahead ≡ ahead2 = all ∙ append-nil ahead2 in
          let none = ap length er in
          let la = ap length same_ahead in (
            spent ++ ahead2,
            omega arith,
            left_with kept2 ahead2 rest ahead2 joined same each inn c f
                (λ t. ⊎_elim
                (λ (y : All (IsFine i deepest) kept). inl (each t (IsFine i deepest)
                (subst (All (λ q. IsFine i deepest (id q))) er (All-nil (λ q. IsFine i deepest (id q)))) y))
                (λ (y : (most ≤ (((length kept + length ahead) + 0) + length f.gone) + 2)
                ⊎ (allowed < sum_by work spent)). inr (⊎_elim
                (λ (z : most ≤ (((length kept + length ahead) + 0) + length f.gone) + 2).
                inl (let l = len t in omega arith))
                (λ (z : allowed < sum_by work spent). inr (omega arith)) y)) (f.near t))
                (λ t. subst (λ z. ((x : ℕ) → x < LEAVES →
                (((has_leaf z x || any_covers id ahead2 x) || has_leaf [] x) ≡ true) ⊎ o x) ⊎ (most ≤ length z)
                ⊎ IsMuchCrossing cr (looked_into most) allowed (k + 1)) (sym (inn t))
                (subst (λ z. ((x : ℕ) → x < LEAVES →
                (((has_leaf kept x || any_covers id z x) || has_leaf [] x) ≡ true) ⊎ o x) ⊎ (most ≤ length kept)
                ⊎ IsMuchCrossing cr (looked_into most) allowed (k + 1)) same_ahead (f.looked t))),
          )
      by_rest (q ∷ others) er total stop =
          let u = ahead2 ++ q ∷ [] in
          let all : ahead ≡ u ++ others = joined ∙ ap (λ z. ahead2 ++ z) (sym er)
          ∙ sym (append_assoc ahead2 (q ∷ []) others) in
          let c = counted u others all f in
          let t = c.total in
          let s = ap (sum_by work) e in
          let p = sum_by_push work ahead2 q in
          let h = stop q others (sym e2 ∙ sym er) in
          let more : allowed < sum_by work (spent ++ u) = omega arith in (
            spent ++ u,
            omega arith,
            left_with kept2 ahead2 rest u joined same each inn c f (λ t. inr (inr more))
                (λ t. inr (inr (inr (take_more (λ c n. cr c n × (level_of c < k + 1)) (spent ++ u)
                (λ a m y. (y.1, y.2)) c.are c.once more)))),
          )

  -- ---- the whole search

  crossing_of : {b : Bool} {c : ℕ} → (b ≡ true) × IsCrossing cr c → IsCrossing cr c
  crossing_of (t, own) = own

  pub near_outer : {whole : Bool} {size most deepest k : ℕ} {spent : List A} {kept : List ℕ} (u v : List ℕ)
      {ahead : List A} → whole ≡ true → k ≡ deepest → ((x : ℕ) → has_leaf u x ≡ has_leaf v x) →
      IsNormalForm (has_leaf v) u →
      ((x : ℕ) → times v x ≡ times kept x + times_by id ahead x) → length v ≡ length kept + length ahead →
      ((P : ℕ → Type 0) → All (λ q. P (id q)) ahead → All P kept → All P v) → All (IsKept whole i cr deepest) v →
      Fronts whole (work_allowed size most) most deepest k k spent [] kept ahead →
      ComesNearOuter o i cr size deepest most u
  near_outer {whole} {size} {most} {deepest} {k} {spent} {kept} u v {ahead} t ek leaves normal same len each are f =
      let allowed = work_allowed size most in
      let Clear = λ (c : ℕ). All (λ a. IsClear c (id a)) spent in
      let Above = IsAbove id work cr k in
      let clear : All Clear v = each Clear (All-weaker (Across k) (λ q. Clear (id q)) (λ q y. All-weaker Above
      (λ a. IsClear (id q) (id a)) (λ a z h. absurd (let l = y.level in let b = z.2 in omega arith)) spent
      f.spent_are) ahead f.ahead_are) f.clear in
      record {
        cells = v;
        gone = f.gone;
        leaves = leaves;
        normal = normal;
        apart = apart_from (v ++ f.gone) (λ x.
            let z : times [] x ≡ 0 = refl in
            let a = f.once x in
            let b = same x in
            let c = times-append (λ n. n) v f.gone x in
            omega arith);
        around = All-weaker (IsKept whole i cr deepest) (AreCrossing cr) (λ c y. y.around) v are;
        are = All-weaker (IsKept whole i cr deepest) (λ c. IsCell c × (EachLeaf i c ⊎ IsCrossing cr c))
            (λ c y. (y.cell, ⊎_elim inl (λ (z : (whole ≡ true) × IsCrossing cr c). inr (crossing_of z)) y.lies)) v are;
        gone_are = f.gone_are;
        near = ⊎_elim
            (λ (y : All (IsFine i deepest) kept). inl (each (IsFine i deepest) (All-weaker (Across k)
            (λ q. IsFine i deepest (id q)) (λ q z. inl (z.level ∙ ek)) ahead f.ahead_are) y))
            (λ (y : (most ≤ (((length kept + length ahead) + 0) + length f.gone) + 2)
            ⊎ (allowed < sum_by work spent)). inr (⊎_elim
            (λ (z : most ≤ (((length kept + length ahead) + 0) + length f.gone) + 2). inl (omega arith))
            (λ (z : allowed < sum_by work spent). inr (take_more (λ c n. cr c n × IsSplit o v c) spent
            (λ a m above. (
              above.1,
              λ x w. ⊎_elim
                  (λ (g : has_leaf v x ≡ true).
                  let l = leaf_from v x g in
                  let c = l.cell in
                  let own = (All-contains (IsKept whole i cr deepest) v c are l.member).cell in
                  let here = covers_there c x l.low l.high in
                  let there = covers_from (id a) x w in
                  let inside = ⊎_elim
                  (λ (h : level_of c < level_of (id a)). absurd (All-contains (λ b. IsClear c (id b)) spent a
                  (All-contains Clear v c clear l.member) m h x here w))
                  (λ (h : level_of (id a) ≤ level_of c).
                  inside_from_within c (id a) (deeper_inside c (id a) x own above.0 h l.low l.high there.0 there.1))
                  (cases_lt (level_of c) (level_of (id a))) in
                  inr (c, l.member, here, inside)) inl
                  (closed_leaf v same t x (leaf_limit x above.0 w) f),
            ))
            f.spent_are f.spent_once z)) y)) (f.near t);
      }

  pub near_inner : {whole : Bool} {size most deepest k : ℕ} {spent : List A} {kept : List ℕ} (u v : List ℕ)
      {ahead : List A} → whole ≡ false → k ≡ deepest → ((x : ℕ) → has_leaf u x ≡ has_leaf v x) →
      IsNormalForm (has_leaf v) u → v ≡ kept →
      All (IsKept whole i cr deepest) v → Fronts whole (work_allowed size most) most deepest k k spent [] kept ahead →
      ComesNearInner o cr size deepest most u
  near_inner {whole} {size} {most} {deepest} {k} {spent} {kept} u v {ahead} t ek leaves normal same are f =
      let allowed = work_allowed size most in
      let len = ap length same in
      record {
        cells = v;
        leaves = leaves;
        normal = normal;
        apart = apart_from v (λ x. let a = f.once x in let b = ap (λ z. times z x) same in omega arith);
        around = All-weaker (IsKept whole i cr deepest) (AreCrossing cr) (λ c y. y.around) v are;
        near = ⊎_elim
            (λ (full : length v < most). inr (λ j l. ⊎_elim
            (λ (y : (x : ℕ) → x < LEAVES → ((has_leaf kept x || has_leaf [] x) ≡ true) ⊎ IsLeft o cr j x).
            inl (λ x b. ⊎_elim
            (λ (h : (has_leaf kept x || has_leaf [] x) ≡ true).
            inl (leaves x ∙ ap (λ z. has_leaf z x) same ∙ ⊎_elim (λ (g : has_leaf kept x ≡ true). g)
            (λ (g : has_leaf [] x ≡ true). absurd (both_ways false refl g))
            (or_cases (has_leaf kept x) (has_leaf [] x) h))) inr (y x b)))
            (λ (y : (most ≤ length kept) ⊎ IsMuchCrossing cr (looked_into most) allowed j). ⊎_elim
            (λ (g : most ≤ length kept). absurd (omega arith)) inr y) (f.filled t j (omega arith))))
            inl (cases_lt (length v) most);
      }

-- each cell of the normal form of a list has a cell of the list inside it
pub record Inner (v : List ℕ) (c : ℕ) : Type 0 where
  pub part : ℕ
  pub member : Contains v part
  pub within : Within part c
  pub level : level_of c ≤ level_of part

pub inner_cell : (u v : List ℕ) → All IsCell v → IsNormalForm (has_leaf v) u → (c : ℕ) → Contains u c → Inner v c
inner_cell u v all n c m =
    let gr = (n.members c).0 m in
    let ic = gr.cell in
    let x = first_leaf c in
    let here = first_leaf_covered c ic in
    let l = leaf_from v x (gr.inside x here) in
    let d = l.cell in
    let id : IsCell d = All-contains IsCell v d all l.member in
    let there : covers d x ≡ true = covers_there d x l.low l.high in
    let cov = covers_from c x here in
    ⊎_elim
    (λ (h : level_of d < level_of c).
    let in_d = deeper_inside c d x ic id (omega arith) cov.0 cov.1 l.low l.high in
    let up = parent_within c d ic id h in_d in
    absurd (gr.greatest (omega arith) (λ y w.
    leaf_to v d y l.member (inside_from_within (parent_of c (level_of c - 1)) d up y w))))
    (λ (h : level_of c ≤ level_of d).
    record {
      part = d;
      member = l.member;
      within = deeper_inside d c x id ic h l.low l.high cov.0 cov.1;
      level = h;
    })
    (cases_lt (level_of d) (level_of c))

pub cells_of_form : (P : ℕ → Type 0) (u v : List ℕ) → All IsCell v → IsNormalForm (has_leaf v) u →
    ((c : ℕ) → Inner v c → P c) → All P u
cells_of_form P u v all n f = All-from_get_or P u 0 (λ k h.
    f (get_or u k 0) (inner_cell u v all n (get_or u k 0) (member_at u k (get_or u k 0) h refl)))

module _ {whole : Bool} {i : ℕ → Type 0} {cr : ℕ → ℕ → Type 0} {deepest : ℕ} where
  pub kept_cells : (v : List ℕ) → All (IsKept whole i cr deepest) v → All IsCell v
  kept_cells v all = All-weaker (IsKept whole i cr deepest) IsCell (λ c w. w.cell) v all

  pub form_level : (u v : List ℕ) → All (IsKept whole i cr deepest) v → IsNormalForm (has_leaf v) u →
      All (λ c. level_of c ≤ deepest) u
  form_level u v all n = cells_of_form (λ c. level_of c ≤ deepest) u v (kept_cells v all) n
      (λ c w. let k = All-contains (IsKept whole i cr deepest) v w.part all w.member in
      let a = w.level in
      let b = k.level in
      omega arith)

  pub form_only : (u v : List ℕ) → whole ≡ false → All (IsKept whole i cr deepest) v →
      ((x : ℕ) → has_leaf u x ≡ has_leaf v x) → (x : ℕ) → has_leaf u x ≡ true → i x
  form_only u v t all same x h =
      let l = leaf_from v x (sym (same x) ∙ h) in
      let k = All-contains (IsKept whole i cr deepest) v l.cell all l.member in
      ⊎_elim
      (λ (y : EachLeaf i l.cell). y x (covers_there l.cell x l.low l.high))
      (λ (y : (whole ≡ true) × IsCrossing cr l.cell). absurd (both_ways whole t (y.0)))
      k.lies

-- The cells of a union and their ancestors in the order of their identifiers.
use Rattle.std.proofs.Common.{◌≡◌, ℕ, ◌+◌, ◌-◌, ◌*◌, ◌<◌, ◌≤◌, refl, ◌∙◌, ap, arith, ◌⊎◌, inl}
use Rattle.std.proofs.Common.{inr, List, [], ◌∷◌, ◌++◌}
use Rattle.std.proofs.Common.{length, get_or, Contains}
use Rattle.std.specs.List.Sorted.{IsStrictlyIncreasing}
use Rattle.std.proofs.Math.Logic.{⊎_elim}
use Rattle.std.proofs.lemmas.Bool.{cases_lt}
use Rattle.std.proofs.lemmas.List.{get_or_append_left, length_push}
use Rattle.std.proofs.Math.Seq.{get_or-append_seam}
use Rattle.std.proofs.lemmas.List.Elements.{Contains-push, Contains-append_left, Contains-push_cases}
use Rattle.s2cell.specs.Cell.{IsCell, IsInside, level_of, size_of, first_leaf, parent_of}
use Rattle.s2cell.proofs.CellLemmas.{cell_leaves}
use Rattle.s2cell.proofs.Calls.{IsCell-parent_of}
use Rattle.s2cell.proofs.Leaves.{Within, before, after, within, around, meeting, middle_apart, inside_from_within}
use Rattle.s2cell.proofs.Leaves.{within_from_inside}
use Rattle.s2cell.proofs.Family.{same_from_within, deeper_inside, parent_level, parent_around}
use Rattle.s2list.proofs.Checking.{member_at}
use Rattle.s2list.specs.Room.{IsPut}
use Rattle.s2room.specs.Working.Ancestors.{Gains, IsBefore, IsAfter, LeadsTo}

-- ---- lists that ascend

pub rises_more : (xs : List ℕ) (x : ℕ) → IsStrictlyIncreasing xs → ((e : ℕ) → Contains xs e → e < x) →
    IsStrictlyIncreasing (xs ++ x ∷ [])
rises_more xs x rises below k h_in =
    let len = length_push xs x in
    let first : get_or (xs ++ x ∷ []) k 0 ≡ get_or xs k 0 = get_or_append_left xs (x ∷ []) 0 k (omega arith) in
    ⊎_elim
    (λ (h : k + 1 < length xs).
    let second : get_or (xs ++ x ∷ []) (k + 1) 0 ≡ get_or xs (k + 1) 0 = get_or_append_left xs (x ∷ []) 0 (k + 1) h in
    let r = rises k h in
    rw (first, second) r)
    (λ (h : length xs ≤ k + 1).
    let e : k + 1 ≡ length xs = omega arith in
    let second : get_or (xs ++ x ∷ []) (k + 1) 0 ≡ x = ap (λ n. get_or (xs ++ x ∷ []) n 0) e
    ∙ get_or-append_seam xs x [] 0 in
    let r : get_or xs k 0 < x = below (get_or xs k 0) (member_at xs k (get_or xs k 0) (omega arith) refl) in
    rw (first, second) r)
    (cases_lt (k + 1) (length xs))

-- the numbers with one more
pub gains_more : (P Q : ℕ → Type 0) (old list : List ℕ) (x : ℕ) → Gains P old list → ((e : ℕ) → Contains list e → e < x)
    → ((c : ℕ) → P c → Q c) → Q x → ((c : ℕ) → Q c → P c ⊎ (c ≡ x)) → Gains Q old (list ++ x ∷ [])
gains_more P Q old list x g below up own down = record {
  ascending = rises_more list x g.ascending below;
  members = λ c. (
    λ has. ⊎_elim
        (λ (h : Contains list c). ⊎_elim (λ (o : Contains old c). inl o) (λ (p : P c). inr (up c p))
        ((g.members c).0 h))
        (λ (e : x ≡ c). inr (rw e at own))
        (Contains-push_cases list x c has),
    λ from. ⊎_elim
        (λ (o : Contains old c). Contains-append_left list (x ∷ []) c ((g.members c).1 (inl o)))
        (λ (q : Q c). ⊎_elim
        (λ (p : P c). Contains-append_left list (x ∷ []) c ((g.members c).1 (inr p)))
        (λ (e : c ≡ x). rw e (Contains-push list x))
        (down c q))
        from,
  );
}

pub gains_same : (P Q : ℕ → Type 0) (old list : List ℕ) → Gains P old list → ((c : ℕ) → P c → Q c)
    → ((c : ℕ) → Q c → P c) → Gains Q old list
gains_same P Q old list g up down = record {
  ascending = g.ascending;
  members = λ c. (
    λ has. ⊎_elim (λ (o : Contains old c). inl o) (λ (p : P c). inr (up c p)) ((g.members c).0 has),
    λ from. (g.members c).1 (⊎_elim (λ (o : Contains old c). inl o) (λ (q : Q c). inr (down c q)) from),
  );
}

pub gains_none : (P : ℕ → Type 0) (old : List ℕ) → IsStrictlyIncreasing old → ((c : ℕ) → P c → ⊥) → Gains P old old
gains_none P old rises none =
    record {
      ascending = rises;
      members = λ c.
          (λ h. inl h, λ from. ⊎_elim (λ (o : Contains old c). o) (λ (p : P c). absurd (none c p)) from);
    }

-- ---- ancestors of one cell

-- of two ancestors the deeper lies in the other
pub nested : (u c d : ℕ) → IsCell u → IsCell c → IsCell d → Within u c → Within u d → level_of d ≤ level_of c →
    Within c d
nested u c d cu cc cd wc wd h =
    let some = (cell_leaves u cu).some in
    let cl = wc.low in
    let ch = wc.high in
    let dl = wd.low in
    let dh = wd.high in
    deeper_inside c d (first_leaf u) cc cd h (omega arith) (omega arith) (omega arith) (omega arith)

pub same_level : (u c d : ℕ) → IsCell u → IsCell c → IsCell d → Within u c → Within u d → level_of c ≡ level_of d →
    c ≡ d
same_level u c d cu cc cd wc wd e =
    same_from_within c d cc cd (nested u c d cu cc cd wc wd (omega arith)) (nested u d c cu cd cc wd wc (omega arith))

own_within : (u : ℕ) → Within u u
own_within u = record { low = omega arith; high = omega arith }

-- what holds a cell and is another has a lower level
pub above_level : (u c : ℕ) → IsCell u → IsCell c → Within u c → (c ≡ u → ⊥) → level_of c < level_of u
above_level u c cu cc w other =
    ⊎_elim
    (λ (h : level_of c < level_of u). h)
    (λ (h : level_of u ≤ level_of c).
    absurd (other (same_from_within c u cc cu (nested u c u cu cc cu w (own_within u) h) w)))
    (cases_lt (level_of c) (level_of u))

-- of two ancestors that come before the cell the larger comes first
pub outer_before : (e p u : ℕ) → IsCell e → IsCell p → IsCell u → Within u e → Within u p →
    level_of e < level_of p → e < u → e < p
outer_before e p u ce cp cu we wp deeper below =
    let w = nested u p e cu cp ce wp we (omega arith) in
    let lp = cell_leaves p cp in
    let lu = cell_leaves u cu in
    let mp = lp.middle in
    let sp = lp.some in
    let mu = lu.middle in
    let su = lu.some in
    let pl = wp.low in
    let ph = wp.high in
    ⊎_elim
    (λ (same : p ≡ e). let l : level_of p ≡ level_of e = ap level_of same in absurd (omega arith))
    (⊎_elim (λ (h : 2 * (first_leaf p + size_of p) ≤ e). absurd (omega arith))
    (λ (h : e ≤ 2 * first_leaf p). omega arith))
    (middle_apart p e cp ce w)

-- and of two that come after it the smaller
pub inner_before : (e p u : ℕ) → IsCell e → IsCell p → IsCell u → Within u e → Within u p →
    level_of p < level_of e → u < p → e < p
inner_before e p u ce cp cu we wp deeper above =
    let w = nested u e p cu ce cp we wp (omega arith) in
    let le = cell_leaves e ce in
    let lu = cell_leaves u cu in
    let me = le.middle in
    let se = le.some in
    let mu = lu.middle in
    let su = lu.some in
    let el = we.low in
    let eh = we.high in
    ⊎_elim
    (λ (same : e ≡ p). let l : level_of e ≡ level_of p = ap level_of same in absurd (omega arith))
    (⊎_elim (λ (h : 2 * (first_leaf e + size_of e) ≤ p). omega arith)
    (λ (h : p ≤ 2 * first_leaf e). absurd (omega arith)))
    (middle_apart e p ce cp w)

-- what begins before `from` and comes before the cell comes before an ancestor that begins there or later
pub earlier_before : (e p u from : ℕ) → IsCell e → IsCell p → IsCell u → Within u p → first_leaf e < from
    → from ≤ first_leaf p → e < u → e < p
earlier_before e p u from ce cp cu wp began start below =
    let lp = cell_leaves p cp in
    let le = cell_leaves e ce in
    let lu = cell_leaves u cu in
    let mp = lp.middle in
    let sp = lp.some in
    let me = le.middle in
    let se = le.some in
    let mu = lu.middle in
    let su = lu.some in
    let pl = wp.low in
    let ph = wp.high in
    elim (meeting e p ce cp) [
      | before h ↦ omega arith
      | after h ↦ absurd (omega arith)
      | within w ↦ let wl = w.low in absurd (omega arith)
      | around w ↦
          let wl = w.low in
          ⊎_elim
          (λ (same : p ≡ e). let f : first_leaf p ≡ first_leaf e = ap first_leaf same in absurd (omega arith))
          (⊎_elim (λ (h : 2 * (first_leaf p + size_of p) ≤ e). absurd (omega arith))
          (λ (h : e ≤ 2 * first_leaf p). omega arith))
          (middle_apart p e cp ce w)
    ]

-- what goes on when an ancestor holds the cell `next`: no larger one comes between
pub none_between : (p q u next : ℕ) → IsCell p → IsCell q → IsCell u → Within u p → Within u q → level_of q < level_of p
    → next ≤ 2 * (first_leaf p + size_of p) - 1 → u < q → q < next → ⊥
none_between p q u next cp cq cu wp wq deeper reached above below =
    let w = nested u p q cu cp cq wp wq (omega arith) in
    let lp = cell_leaves p cp in
    let lu = cell_leaves u cu in
    let sp = lp.some in
    let mu = lu.middle in
    let su = lu.some in
    let pl = wp.low in
    let ph = wp.high in
    ⊎_elim
    (λ (same : p ≡ q). let l : level_of p ≡ level_of q = ap level_of same in omega arith)
    (⊎_elim (λ (h : 2 * (first_leaf p + size_of p) ≤ q). omega arith) (λ (h : q ≤ 2 * first_leaf p). omega arith))
    (middle_apart p q cp cq w)

-- an ancestor by its level
pub record Ancestor (u level p : ℕ) : Type 0 where
  pub cell : IsCell p
  pub around : Within u p
  pub level_is : level_of p ≡ level

pub ancestor_at : (u level : ℕ) → IsCell u → level ≤ level_of u → Ancestor u level (parent_of u level)
ancestor_at u level cu h =
    record {
      cell = IsCell-parent_of u level (parent_of u level) cu h refl;
      around = parent_around u level cu h;
      level_is = parent_level u level cu h;
    }

-- ---- those that come before the cell, level by level

abbrev pub BeforeTo : (u from level : ℕ) → ℕ → Type 0
BeforeTo u from level c = IsBefore u from c × (level_of c < level)

pub before_start : (u from level : ℕ) (old : List ℕ) → IsStrictlyIncreasing old
    → ((c : ℕ) → IsCell c → IsInside u c → from ≤ first_leaf c → level ≤ level_of c)
    → Gains (BeforeTo u from level) old old
before_start u from level old rises least = gains_none (BeforeTo u from level) old rises
    (λ c (b, l). let h = least c b.own b.around b.start in omega arith)

pub before_more : (u from level : ℕ) (old list : List ℕ) → IsCell u → level < level_of u
    → from ≤ first_leaf (parent_of u level) → parent_of u level < u
    → ((c : ℕ) → Contains old c → IsCell c) → ((c : ℕ) → Contains old c → first_leaf c < from) →
    ((c : ℕ) → Contains old c → c < u)
    → Gains (BeforeTo u from level) old list → Gains (BeforeTo u from (level + 1)) old (list ++ parent_of u level ∷ [])
before_more u from level old list cu h start less cells began below g =
    let a = ancestor_at u level cu (omega arith) in
    let p = parent_of u level in
    let lp : level_of p ≡ level = a.level_is in
    gains_more (BeforeTo u from level) (BeforeTo u from (level + 1)) old list p g
    (λ e has. ⊎_elim
    (λ (o : Contains old e). earlier_before e p u from (cells e o) a.cell cu a.around (began e o) start (below e o))
    (λ (b : BeforeTo u from level e).
    let deeper : level_of e < level_of p = (let x = b.1 in omega arith) in
    outer_before e p u b.0.own a.cell cu (within_from_inside u e cu b.0.around) a.around deeper b.0.below)
    ((g.members e).0 has))
    (λ c b. (b.0, let x = b.1 in omega arith))
    (record { own = a.cell; around = inside_from_within u p a.around; below = less; start = start }, omega arith)
    (λ c b. ⊎_elim
    (λ (l : level_of c < level). inl (b.0, l))
    (λ (l : level ≤ level_of c).
    let same : level_of c ≡ level_of p = (let x = b.1 in omega arith) in
    inr (same_level u c p cu b.0.own a.cell (within_from_inside u c cu b.0.around) a.around same))
    (cases_lt (level_of c) level))

pub before_none : (u from level : ℕ) (old list : List ℕ) → IsCell u → level < level_of u → (parent_of u level < u → ⊥)
    → Gains (BeforeTo u from level) old list → Gains (BeforeTo u from (level + 1)) old list
before_none u from level old list cu h not_less g =
    let a = ancestor_at u level cu (omega arith) in
    let p = parent_of u level in
    let lp : level_of p ≡ level = a.level_is in
    gains_same (BeforeTo u from level) (BeforeTo u from (level + 1)) old list g
    (λ c b. (b.0, let x = b.1 in omega arith))
    (λ c b. ⊎_elim
    (λ (l : level_of c < level). (b.0, l))
    (λ (l : level ≤ level_of c).
    let same : level_of c ≡ level_of p = (let x = b.1 in omega arith) in
    let is : c ≡ p = same_level u c p cu b.0.own a.cell (within_from_inside u c cu b.0.around) a.around same in
    absurd (not_less (rw is at b.0.below)))
    (cases_lt (level_of c) level))

pub before_all : (u from : ℕ) (old list : List ℕ) → IsCell u → Gains (BeforeTo u from (level_of u)) old list
    → Gains (IsBefore u from) old list
before_all u from old list cu g =
    gains_same (BeforeTo u from (level_of u)) (IsBefore u from) old list g
    (λ c b. b.0)
    (λ c b. (
      b,
      above_level u c cu b.own (within_from_inside u c cu b.around) (λ e. let l = b.below in
          omega (arith, e, l)),
    ))

-- ---- those that come after it

abbrev pub AfterTo : (u next level : ℕ) → ℕ → Type 0
AfterTo u next level c = IsAfter u next c × (level ≤ level_of c)

pub after_start : (u next : ℕ) (old : List ℕ) → IsCell u → IsStrictlyIncreasing old →
    Gains (AfterTo u next (level_of u)) old old
after_start u next old cu rises =
    gains_none (AfterTo u next (level_of u)) old rises
    (λ c (b, l). let h = above_level u c cu b.own (within_from_inside u c cu b.around)
    (λ e. let m = b.above in omega (arith, e, m)) in omega arith)

pub after_more : (u next level : ℕ) (old list : List ℕ) → IsCell u → level < level_of u → u < parent_of u level →
    parent_of u level < next
    → ((c : ℕ) → Contains old c → c ≤ u)
    → Gains (AfterTo u next (level + 1)) old list → Gains (AfterTo u next level) old (list ++ parent_of u level ∷ [])
after_more u next level old list cu h above below most g =
    let a = ancestor_at u level cu (omega arith) in
    let p = parent_of u level in
    let lp : level_of p ≡ level = a.level_is in
    gains_more (AfterTo u next (level + 1)) (AfterTo u next level) old list p g
    (λ e has. ⊎_elim
    (λ (o : Contains old e). let m = most e o in omega arith)
    (λ (b : AfterTo u next (level + 1) e).
    let deeper : level_of p < level_of e = (let x = b.1 in omega arith) in
    inner_before e p u b.0.own a.cell cu (within_from_inside u e cu b.0.around) a.around deeper above)
    ((g.members e).0 has))
    (λ c b. (b.0, let x = b.1 in omega arith))
    (record { own = a.cell; around = inside_from_within u p a.around; above = above; below = below }, omega arith)
    (λ c b. ⊎_elim
    (λ (l : level < level_of c). inl (b.0, omega arith))
    (λ (l : level_of c ≤ level).
    let same : level_of c ≡ level_of p = (let x = b.1 in omega arith) in
    inr (same_level u c p cu b.0.own a.cell (within_from_inside u c cu b.0.around) a.around same))
    (cases_lt level (level_of c)))

pub after_none : (u next level : ℕ) (old list : List ℕ) → IsCell u → level < level_of u
    → (u < parent_of u level → parent_of u level < next → ⊥)
    → Gains (AfterTo u next (level + 1)) old list → Gains (AfterTo u next level) old list
after_none u next level old list cu h not_between g =
    let a = ancestor_at u level cu (omega arith) in
    let p = parent_of u level in
    let lp : level_of p ≡ level = a.level_is in
    gains_same (AfterTo u next (level + 1)) (AfterTo u next level) old list g
    (λ c b. (b.0, let x = b.1 in omega arith))
    (λ c b. ⊎_elim
    (λ (l : level < level_of c). (b.0, omega arith))
    (λ (l : level_of c ≤ level).
    let same : level_of c ≡ level_of p = (let x = b.1 in omega arith) in
    let is : c ≡ p = same_level u c p cu b.0.own a.cell (within_from_inside u c cu b.0.around) a.around same in
    absurd (not_between (rw is at b.0.above) (rw is at b.0.below)))
    (cases_lt level (level_of c)))

pub after_all : (u next : ℕ) (old list : List ℕ) → Gains (AfterTo u next 0) old list → Gains (IsAfter u next) old list
after_all u next old list g = gains_same (AfterTo u next 0) (IsAfter u next) old list g (λ c b. b.0)
    (λ c b. (b, omega arith))

pub after_reached : (u next level : ℕ) (old list : List ℕ) → IsCell u → level < level_of u
    → next ≤ 2 * (first_leaf (parent_of u level) + size_of (parent_of u level)) - 1
    → Gains (AfterTo u next level) old list → Gains (IsAfter u next) old list
after_reached u next level old list cu h reached g =
    let a = ancestor_at u level cu (omega arith) in
    let p = parent_of u level in
    let lp : level_of p ≡ level = a.level_is in
    gains_same (AfterTo u next level) (IsAfter u next) old list g
    (λ c b. b.0)
    (λ c b. (
      b,
      ⊎_elim
          (λ (l : level_of c < level).
          let deeper : level_of c < level_of p = omega arith in
          absurd (none_between p c u next a.cell b.own cu a.around (within_from_inside u c cu b.around) deeper
          reached b.above b.below))
          (λ (l : level ≤ level_of c). l)
          (cases_lt (level_of c) level),
    ))

-- ---- the outermost that begins at `from` or later

pub least_level : (u from level : ℕ) → IsCell u → level ≤ level_of u →
    (0 < level → first_leaf (parent_of u (level - 1)) < from)
    → (c : ℕ) → IsCell c → IsInside u c → from ≤ first_leaf c → level ≤ level_of c
least_level u from level cu h stopped c cc inside start =
    ⊎_elim
    (λ (l : level_of c < level).
    let a = ancestor_at u (level - 1) cu (omega arith) in
    let p = parent_of u (level - 1) in
    let lp : level_of p ≡ level - 1 = a.level_is in
    let w = nested u p c cu a.cell cc a.around (within_from_inside u c cu inside) (omega arith) in
    let low = w.low in
    let s = stopped (omega arith) in
    absurd (omega arith))
    (λ (l : level ≤ level_of c). l)
    (cases_lt (level_of c) level)

-- a deeper ancestor begins no earlier
pub starts_later : (u from least level : ℕ) → IsCell u → least ≤ level → level ≤ level_of u
    → from ≤ first_leaf (parent_of u least) → from ≤ first_leaf (parent_of u level)
starts_later u from least level cu l h start =
    let a = ancestor_at u least cu (omega arith) in
    let b = ancestor_at u level cu h in
    let la = a.level_is in
    let lb = b.level_is in
    let w = nested u (parent_of u level) (parent_of u least) cu b.cell a.cell b.around a.around (omega arith) in
    let low = w.low in
    omega arith

pub own_parent : (u : ℕ) → IsCell u → parent_of u (level_of u) ≡ u
own_parent u cu =
    let a = ancestor_at u (level_of u) cu (omega arith) in
    same_level u (parent_of u (level_of u)) u cu a.cell cu a.around (own_within u) a.level_is

-- ---- one step of each loop

pub before_step : (u from level : ℕ) (old room out new : List ℕ) (n m : ℕ) → IsCell u → level < level_of u
    → LeadsTo old u from → from ≤ first_leaf (parent_of u level)
    → (0 < parent_of u level → parent_of u level < u
    → (l r : List ℕ) → IsPut l r out n → IsPut (l ++ parent_of u level ∷ []) r new m)
    → ((0 < parent_of u level → parent_of u level < u → ⊥) → (new ≡ out) × (m ≡ n))
    → (longer : List ℕ) × Gains (BeforeTo u from level) old longer × IsPut longer room out n
    → (longer : List ℕ) × Gains (BeforeTo u from (level + 1)) old longer × IsPut longer room new m
before_step u from level old room out new n m cu h led start added same (longer, g, p) =
    let a = ancestor_at u level cu (omega arith) in
    let l = cell_leaves (parent_of u level) a.cell in
    let mid = l.middle in
    let s = l.some in
    ⊎_elim
    (λ (less : parent_of u level < u). (
      longer ++ parent_of u level ∷ [],
      before_more u from level old longer cu h start less led.cells led.began led.below g,
      added (omega arith) less longer room p,
    ))
    (λ (more : u ≤ parent_of u level).
    let e = same (λ q less. omega (arith, less, more)) in
    (longer, before_none u from level old longer cu h (λ less. omega (arith, less, more)) g, rw (e.0, e.1) p))
    (cases_lt (parent_of u level) u)

pub after_step : (u next level : ℕ) (old room out new : List ℕ) (n m : ℕ) → IsCell u → level < level_of u →
    ((c : ℕ) → Contains old c → c ≤ u)
    → (u < parent_of u level → parent_of u level < next
    → (l r : List ℕ) → IsPut l r out n → IsPut (l ++ parent_of u level ∷ []) r new m)
    → ((u < parent_of u level → parent_of u level < next → ⊥) → (new ≡ out) × (m ≡ n))
    → (longer : List ℕ) × Gains (AfterTo u next (level + 1)) old longer × IsPut longer room out n
    → (longer : List ℕ) × Gains (AfterTo u next level) old longer × IsPut longer room new m
after_step u next level old room out new n m cu h most added same (longer, g, p) =
    ⊎_elim
    (λ (above : u < parent_of u level).
    ⊎_elim
    (λ (below : parent_of u level < next). (
      longer ++ parent_of u level ∷ [],
      after_more u next level old longer cu h above below most g,
      added above below longer room p,
    ))
    (λ (past : next ≤ parent_of u level).
    let e = same (λ a b. omega (arith, b, past)) in
    (longer, after_none u next level old longer cu h (λ a b. omega (arith, b, past)) g, rw (e.0, e.1) p))
    (cases_lt (parent_of u level) next))
    (λ (under : parent_of u level ≤ u).
    let e = same (λ a b. omega (arith, a, under)) in
    (longer, after_none u next level old longer cu h (λ a b. omega (arith, a, under)) g, rw (e.0, e.1) p))
    (cases_lt u (parent_of u level))

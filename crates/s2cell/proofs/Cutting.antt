-- The level that a cell is cut to, and the cells of that level in it.
use Rattle.std.proofs.Common.{zero, suc, List, set, get_or-set_same, get_or-set_other}
use Rattle.std.proofs.lemmas.List.{length-set}
use Rattle.std.proofs.Common.{◌≡◌, ℕ, ◌+◌, ◌-◌, ◌*◌, ◌/◌, ◌%◌, ◌^◌, ◌<◌, ◌≤◌, refl, sym}
use Rattle.std.proofs.Common.{◌∙◌, ap, arith, subst, inl, inr, length, get_or, min}
use Rattle.std.proofs.Math.Logic.{⊎_elim}
use Rattle.std.proofs.Math.Nat.{mul-le-mul_right, lt_of_mul-lt-mul_right, mul-mod_left, div-mul-le_self, lt-div-mul-add}
use Rattle.std.proofs.lemmas.Bool.{cases_lt, cases_eq}
use Rattle.std.proofs.lemmas.Nat.{div_below}
use Rattle.std.proofs.lemmas.List.FromFn.{length-map-range_with_len, get_or-map-range_with_len}
use Rattle.s2cell.specs.Cell.{IsCell, level_of, first_leaf, size_of, IsInside}
use Rattle.s2cell.specs.Descendant.{descendant_of}
use Rattle.s2cell.proofs.CellLemmas.{cell_leaves, four_pos}
use Rattle.s2cell.proofs.Calls.{size_at}
use Rattle.s2cell.proofs.Leaves.{Within, inside_from_within, within_from_inside}
use Rattle.s2cell.proofs.Family.{same_from_within, deeper_inside}
use Rattle.s2cell.proofs.Descendants.{descendant, IsCell-descendant_of}
use Rattle.s2cell.specs.CutLevels.{IsWanted, IsCutLevel, IsCut, cut_level, cells_in}

-- the least multiple of the modulus from the cell's own level on
record Steps (level least modulus steps : ℕ) : Type 0 where
  pub enough : level ≤ least + steps * modulus
  pub fewest : steps * modulus < level - least + modulus

steps_of : (level least modulus : ℕ) → 0 < modulus →
    Steps level least modulus ((level - least + (modulus - 1)) / modulus)
steps_of level least modulus some =
    let x = level - least + (modulus - 1) in
    let low : x / modulus * modulus ≤ x = div-mul-le_self x modulus in
    let high : x < x / modulus * modulus + modulus = lt-div-mul-add some in
    record { enough = omega arith; fewest = omega arith }

wanted_later : {level least modulus steps s : ℕ} →
    0 < modulus → Steps level least modulus steps → IsWanted level least modulus s → least + steps * modulus ≤ s
wanted_later {least} {modulus} {steps} {s} some st w =
    let own = w.own in
    let high = w.high in
    let rest = w.step in
    let few = st.fewest in
    let j = (s - least) / modulus in
    let whole : s - least ≡ modulus * j = omega arith in
    let less : steps * modulus < (j + 1) * modulus = omega arith in
    let below : steps < j + 1 = lt_of_mul-lt-mul_right modulus less in
    let m : steps * modulus ≤ j * modulus = mul-le-mul_right modulus (omega arith) in
    omega arith

wanted_there : {level least modulus steps : ℕ} →
    Steps level least modulus steps → IsWanted level least modulus (least + steps * modulus)
wanted_there {least} {modulus} {steps} st =
    let e : least + steps * modulus - least ≡ steps * modulus = omega arith in
    record { own = st.enough; high = omega arith; step = ap (λ x. x % modulus) e ∙ mul-mod_left steps modulus }

pub cut_level_is : (level least modulus : ℕ) → level ≤ 30 → 0 < modulus →
    IsCutLevel level least modulus (cut_level level least modulus)
unfolding cut_level
cut_level_is level least modulus l some =
    let st = steps_of level least modulus some in
    let steps = (level - least + (modulus - 1)) / modulus in
    let t = least + steps * modulus in
    record {
      real = omega arith;
      wanted =
          ⊎_elim
          (λ (h : 30 < t).
          let e : min t 30 ≡ 30 = omega arith in
          inr (
            e,
            λ s fits w. let later = wanted_later
                some st w in absurd (omega arith),
          )) (λ (h : t ≤ 30). let e : t ≡ min t 30 = omega arith in
          inl (subst (IsWanted level least modulus) e (wanted_there st))) (cases_lt 30 t);
      first = λ s w. let later = wanted_later some st w in omega arith;
    }

pub cut_level_own : (level least modulus : ℕ) → level ≤ 30 → 0 < modulus → level ≤ cut_level level least modulus
unfolding cut_level
cut_level_own level least modulus l some = let e = (steps_of level least modulus some).enough in omega arith

pub cut_level_most : (level least modulus : ℕ) → cut_level level least modulus ≤ 30
unfolding cut_level
cut_level_most level least modulus = omega arith

pub level_most : (n : ℕ) → level_of n ≤ 30
unfolding level_of
level_most n = omega arith

pub length-cells_in : (t c : ℕ) → length (cells_in t c) ≡ 4 ^ (t - level_of c)
unfolding cells_in
length-cells_in t c = length-map-range_with_len (descendant_of c t) 0 (4 ^ (t - level_of c))

pub get_or-cells_in : (t c i d : ℕ) → i < 4 ^ (t - level_of c) → get_or (cells_in t c) i d ≡ descendant_of c t i
unfolding cells_in
get_or-cells_in t c i d h = get_or-map-range_with_len (descendant_of c t) 0 (4 ^ (t - level_of c)) i i d h (omega arith)

-- a cell of a level inside another is one of its descendants
descendant_from : {c : ℕ} (t : ℕ) {d : ℕ} → IsCell c → level_of c ≤ t →
    t ≤ 30 → IsCell d → level_of d ≡ t → IsInside d c → (i : ℕ) × (i < 4 ^ (t - level_of c)) × (descendant_of c t i ≡ d)
descendant_from {c} t {d} cc own deep cd e inside =
    let w = within_from_inside d c cd inside in
    let lo = w.low in
    let hi = w.high in
    let n = 4 ^ (t - level_of c) in
    let s = 4 ^ (30 - t) in
    let zero_there = descendant c t 0 cc own deep (four_pos (t - level_of c)) in
    let whole = zero_there.whole in
    let sd : size_of d ≡ s = size_at d cd ∙ ap (λ k. 4 ^ (30 - k)) e in
    let some : 0 < s = four_pos (30 - t) in
    let i = (first_leaf d - first_leaf c) / s in
    let below : i < n = div_below (first_leaf d - first_leaf c) s n some (omega arith) in
    let x = descendant c t i cc own deep below in
    let low : i * s ≤ first_leaf d - first_leaf c = div-mul-le_self (first_leaf d - first_leaf c) s in
    let high : first_leaf d - first_leaf c < i * s + s = lt-div-mul-add some in
    let cx = IsCell-descendant_of c t i (descendant_of c t i) cc own deep below refl in
    let first_x = x.first in
    let size_x = x.size in
    let level_x = x.level in
    let some_d = (cell_leaves d cd).some in
    let v = deeper_inside d (descendant_of c t i) (first_leaf d) cd cx (omega arith) (omega arith) (omega arith)
    (omega arith) (omega arith) in
    let u = deeper_inside (descendant_of c t i) d (first_leaf d) cx cd (omega arith) (omega arith) (omega arith)
    (omega arith) (omega arith) in
    (i, below, same_from_within (descendant_of c t i) d cx cd u v)

-- a descendant lies inside
descendant_within : {c : ℕ} (t i : ℕ) →
    IsCell c → level_of c ≤ t → t ≤ 30 → i < 4 ^ (t - level_of c) → Within (descendant_of c t i) c
descendant_within {c} t i cc own deep h =
    let x = descendant c t i cc own deep h in
    let first_x = x.first in
    let size_x = x.size in
    let whole = x.whole in
    let m : (i + 1) * 4 ^ (30 - t) ≤ 4 ^ (t - level_of c) * 4 ^ (30 - t) =
    mul-le-mul_right (4 ^ (30 - t)) (omega arith) in
    record { low = omega arith; high = omega arith }

-- a later descendant has a greater identifier
descendant_rises : {c : ℕ} (t i : ℕ) →
    IsCell c → level_of c ≤ t → t ≤ 30 → i + 1 < 4 ^ (t - level_of c) → descendant_of c t i < descendant_of c t (i + 1)
descendant_rises {c} t i cc own deep h =
    let x = descendant c t i cc own deep (omega arith) in
    let y = descendant c t (i + 1) cc own deep h in
    let lx = cell_leaves (descendant_of c t i) (IsCell-descendant_of c t i _ cc own deep (omega arith) refl) in
    let ly = cell_leaves (descendant_of c t (i + 1)) (IsCell-descendant_of c t (i + 1) _ cc own deep h refl) in
    let mx = lx.middle in
    let my = ly.middle in
    let sx = x.size in
    let sy = y.size in
    let fx = x.first in
    let fy = y.first in
    let some : 0 < 4 ^ (30 - t) = four_pos (30 - t) in
    omega arith

-- the cells of a level in a cell are all that it contains, ascending
pub cells_in_is : {c : ℕ} (t : ℕ) → IsCell c → level_of c ≤ t → t ≤ 30 → IsCut c t (cells_in t c)
cells_in_is {c} t cc own deep =
    let n = 4 ^ (t - level_of c) in
    let len : length (cells_in t c) ≡ n = length-cells_in t c in
    record {
      ascending = λ k h.
          let a : get_or (cells_in t c) k 0 ≡ descendant_of c t k = get_or-cells_in t c k 0 (omega arith) in
          let b : get_or (cells_in t c) (k + 1) 0 ≡ descendant_of c t (k + 1) =
          get_or-cells_in t c (k + 1) 0 (omega arith) in
          let r = descendant_rises t k cc own deep (omega arith) in
          omega arith;
      members = λ d. (
        λ (k, l, e).
            let below : k < n = omega arith in
            let x = descendant c t k cc own deep below in
            let is : descendant_of c t k ≡ d = sym (get_or-cells_in t c k d below) ∙ e in (
              IsCell-descendant_of c t k d cc own deep below (sym is),
              ap level_of (sym is) ∙ x.level,
              subst (λ y. IsInside y c) is
                  (inside_from_within (descendant_of c t k) c (descendant_within t k cc own deep below)),
            ),
        λ (cd, ld, inside).
            let r = descendant_from t cc own deep cd ld inside in
            (r.0, rw len r.1, get_or-cells_in t c r.0 d r.1 ∙ r.2),
      );
    }

-- ---- the table of the levels

-- the level that a cell is cut to, if there were no deepest level
abbrev pub raised : ℕ → ℕ → ℕ → ℕ
raised level least modulus = least + (level - least + (modulus - 1)) / modulus * modulus

-- from one level to the next it stays, or is raised by the modulus
raised_more : (level least modulus cut later : ℕ) → 0 < modulus → modulus ≤ 3 → cut ≡ raised (level - 1) least modulus →
    (cut < level → later ≡ cut + modulus) → (level ≤ cut → later ≡ cut) → later ≡ raised level least modulus
raised_more level least zero cut later some fits e up same = absurd (omega arith)
raised_more level least (suc zero) cut later some fits e up same =
    ⊎_elim (λ h. let u = up h in omega arith) (λ h. let s = same h in omega arith) (cases_lt cut level)
raised_more level least (suc (suc zero)) cut later some fits e up same =
    ⊎_elim (λ h. let u = up h in omega arith) (λ h. let s = same h in omega arith) (cases_lt cut level)
raised_more level least (suc (suc (suc zero))) cut later some fits e up same =
    ⊎_elim (λ h. let u = up h in omega arith) (λ h. let s = same h in omega arith) (cases_lt cut level)
raised_more level least (suc (suc (suc (suc m)))) cut later some fits e up same = absurd (omega arith)

-- the table has the levels for the first ones, and `cut` is the last of them, if there were no deepest level
pub record CutBelow (level least modulus cut : ℕ) (levels : List ℕ) : Type 0 where
  pub size : length levels ≡ 31
  pub last : cut ≡ raised (level - 1) least modulus
  pub each : (k : ℕ) → k < level → get_or levels k 0 ≡ cut_level k least modulus

pub cut_below_more : {level least modulus cut : ℕ} {levels : List ℕ} (later entry : ℕ) → level < 31 → 0 < modulus →
    modulus ≤ 3 → CutBelow level least modulus cut levels → (cut < level → later ≡ cut + modulus) →
    (level ≤ cut → later ≡ cut) → entry ≡ min later 30
    → CutBelow (level + 1) least modulus later (set levels level entry)
unfolding cut_level
cut_below_more {level} {least} {modulus} {cut} {levels} later entry deep some fits b up same e =
    let next : later ≡ raised level least modulus =
    raised_more level least modulus cut later some fits b.last up same in
    let size = b.size in
    record {
      size = length-set levels level entry ∙ size;
      last = next ∙ ap (λ k. raised k least modulus) (omega arith);
      each = λ k h.
          elim (cases_eq k level) [
            | inl is ↦ rw is (get_or-set_same levels level entry 0 (omega arith) ∙ e ∙ ap (λ n. min n 30) next)
            | inr other ↦ get_or-set_other levels level k entry 0 other ∙ b.each k (omega arith)
          ];
    }

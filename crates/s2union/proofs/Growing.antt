-- A list that grows as a set operation writes to it.
use Rattle.std.proofs.Common.{◌≡◌, ℕ, Bool, ◌^◌, ◌<◌, ◌≤◌, arith, sym, ap, ◌∙◌, subst, List, [], length}
use Rattle.std.proofs.Math.Logic.{⊎_elim}
use Rattle.s2list.specs.Union.{IsLocal, IsNormalForm, between, has_leaf}
use Rattle.s2list.specs.Output.{Fills, Writes, WritesUpTo}
use Rattle.s2list.proofs.Checking.{packed_from_local}
use Rattle.s2list.proofs.Normal.{local_from_normal, one_normal_form}
use Rattle.s2list.proofs.Picking.{fill_alone, fill_alone_leaves}
use Rattle.s2list.proofs.Writing.{few_cells}
use Rattle.s2union.specs.Grown.{IsGrown}

-- a list of `n` cells that an operation has written, all of it
pub record IsAll (S : ℕ → Bool) (items : List ℕ) (n : ℕ) : Type 0 where
  pub leaves : (x : ℕ) → has_leaf items x ≡ S x
  pub local : IsLocal items
  pub len_is : n ≡ length items

pub grown_all : {S : ℕ → Bool} {items : List ℕ} {before most n : ℕ} →
    (w : Writes S (λ list. IsGrown list before most items n) n) → (n < 2 ^ 64 → n ≤ before) → IsAll S items n
grown_all {S} {items} {before} {most} {n} w fits =
    let local = local_from_normal S w.list w.normal in
    let few = few_cells w.list (packed_from_local w.list local) in
    let len = w.len_is in
    let le = fits (omega arith) in
    let same = w.held.same_most in
    let is : items ≡ w.list = w.held.front (omega arith) in
    record {
      leaves = λ x. ap (λ l. has_leaf l x) is ∙ w.leaves x;
      local = subst IsLocal (sym is) local;
      len_is = len ∙ sym (ap length is);
    }

-- the cells of a gap alone
pub grown_gap : {items : List ℕ} {before most n lo hi : ℕ} → Fills (λ list. IsGrown list before most items n) [] lo hi →
    (n < 2 ^ 64 → n ≤ before) → IsAll (between lo hi) items n
grown_gap {lo} {hi} (list, gap, grown) fits =
    let normal = fill_alone list lo hi gap in
    let few = few_cells list (packed_from_local list (local_from_normal (between lo hi) list normal)) in
    grown_all (record {
      list = list;
      normal = normal;
      leaves = fill_alone_leaves list lo hi gap;
      len_is = grown.len_is few;
      held = grown;
    }) fits

-- if it has no more cells than it may, it is all
pub grown_up_to : {S : ℕ → Bool} {items : List ℕ} {before most n : ℕ} →
    WritesUpTo before S (λ list. IsGrown list before most items n) n → n ≤ before → IsAll S items n
grown_up_to made h = ⊎_elim (λ w. grown_all w (λ _. h)) (λ past. let more = past.0 in absurd (omega arith)) made

-- else there are more in the normal form
pub grown_past : {S : ℕ → Bool} {items : List ℕ} {before most n : ℕ} →
    WritesUpTo before S (λ list. IsGrown list before most items n) n → before < n → (u : List ℕ) → IsNormalForm S u →
    before < length u
grown_past {S} made h u normal = ⊎_elim
    (λ w.
    let len = w.len_is in
    let same = ap length (one_normal_form S w.list u w.normal normal) in
    omega arith)
    (λ past. past.1 u normal)
    made

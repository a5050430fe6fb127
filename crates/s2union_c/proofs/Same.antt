-- A list that a call for C made is that of another call which makes the same set.
use Rattle.std.proofs.Common.{◌≡◌, ℕ, ℤ, sym, subst, Bool, List}
use Rattle.s2list.specs.Union.{IsLocal, IsNormalForm, has_leaf}
use Rattle.s2list.proofs.Normal.{one_normal_form}
use Rattle.s2union_c.specs.Results.{MadeInPlace}

pub same_made : (F : (ℕ → Bool) → (ℕ → Bool) → ℕ → Bool) {xs ys us vs old new : List ℕ} {len : ℕ} {status : ℤ}
    (cells : List ℕ) → xs ≡ us → ys ≡ vs → IsLocal us → IsLocal vs
    → IsNormalForm (F (has_leaf us) (has_leaf vs)) cells
    → (IsLocal xs → IsLocal ys → MadeInPlace status (IsNormalForm (F (has_leaf xs) (has_leaf ys))) old new len)
    → MadeInPlace status (λ list. list ≡ cells) old new len
same_made F {xs} {ys} {us} {vs} cells ex ey lu lv n made =
    let (list, is, done) = made (subst IsLocal (sym ex) lu) (subst IsLocal (sym ey) lv) in (
      list,
      one_normal_form (F (has_leaf us) (has_leaf vs)) list cells
          (subst (λ u. IsNormalForm (F (has_leaf u) (has_leaf vs)) list) ex
          (subst (λ v. IsNormalForm (F (has_leaf xs) (has_leaf v)) list) ey is)) n,
      done,
    )

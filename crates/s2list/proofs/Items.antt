-- The cells that a union is cut into.
use Rattle.std.proofs.Common.{◌≡◌, ℕ, suc, ◌+◌, ◌-◌, ◌^◌, ◌<◌, ◌≤◌, refl, sym}
use Rattle.std.proofs.Common.{◌∙◌, ap, arith, List, [], ◌∷◌, ◌++◌, length, get_or, drop, All, AllPairs, lit<}
use Rattle.std.proofs.Common.{append_assoc, add-one}
use Rattle.std.proofs.Math.Seq.{drop-cons}
use Rattle.std.proofs.lemmas.List.{length-append, append-nil, drop_all}
use Rattle.std.proofs.lemmas.List.Elements.{All-tail}
use Rattle.std.proofs.Math.Nat.{pow-le-pow_right}
use Rattle.s2cell.specs.Cell.{IsCell, level_of, first_leaf, size_of}
use Rattle.s2cell.specs.CutLevels.{cut_level, cells_in}
use Rattle.s2cell.specs.declared.TheConstants.{LEAVES}
use Rattle.s2cell.proofs.CellLemmas.{cell_leaves}
use Rattle.s2cell.proofs.Calls.{size_at}
use Rattle.s2cell.proofs.Cutting.{cut_level_is, cut_level_own, cut_level_most, level_most, length-cells_in, cells_in_is}
use Rattle.s2list.specs.Union.{IsLocal}
use Rattle.s2list.specs.Packed.{EndsBefore}
use Rattle.s2list.specs.Denorm.{IsDenormalised, denormalised}
use Rattle.s2list.specs.Room.{IsPut, PutsOne}
use Rattle.s2list.proofs.Checking.{packed_from_local}
use Rattle.s2list.proofs.Putting.{put_none}

pub denormalised-nil : (least modulus : ℕ) → denormalised least modulus [] ≡ []
unfolding denormalised
denormalised-nil least modulus = refl

pub denormalised-cons : (least modulus c : ℕ) (u : List ℕ) →
    denormalised least modulus (c ∷ u) ≡ cells_in (cut_level (level_of c) least modulus) c
    ++ denormalised least modulus u
unfolding denormalised
denormalised-cons least modulus c u = refl

-- the list is what the definition asks for
pub denormalised_is : (least modulus : ℕ) (u : List ℕ) → All IsCell u → 0 < modulus →
    IsDenormalised least modulus u (denormalised least modulus u)
denormalised_is least modulus [] all some = denormalised-nil least modulus
denormalised_is least modulus (c ∷ u) all some =
    let cc : IsCell c = all 0 0 (omega arith) in
    let deep = level_most c in
    let t = cut_level (level_of c) least modulus in (
      t,
      cells_in t c,
      denormalised least modulus u,
      cut_level_is (level_of c) least modulus deep some,
      cells_in_is t cc (cut_level_own (level_of c) least modulus deep some) (cut_level_most (level_of c) least modulus),
      denormalised_is least modulus u (All-tail IsCell c u all) some,
      denormalised-cons least modulus c u,
    )

-- ---- how many they are

-- no more than the leaves from where they begin
length_from : (least modulus lo : ℕ) (u : List ℕ) → All IsCell u → AllPairs EndsBefore u → lo ≤ LEAVES →
    (0 < length u → lo ≤ first_leaf (get_or u 0 0)) → 0 < modulus → lo + length (denormalised least modulus u) ≤ LEAVES
length_from least modulus lo [] all chain within begin some =
    let none = ap length (denormalised-nil least modulus) in omega arith
length_from least modulus lo (c ∷ u) all chain within begin some =
    let cc : IsCell c = all 0 0 (omega arith) in
    let leaves = (cell_leaves c cc).within in
    let t = cut_level (level_of c) least modulus in
    let own = cut_level_own (level_of c) least modulus (level_most c) some in
    let most = cut_level_most (level_of c) least modulus in
    let fits : 4 ^ (t - level_of c) ≤ 4 ^ (30 - level_of c) =
    pow-le-pow_right {n = 4} (lit< tt) {i = t - level_of c} {j = 30 - level_of c} (omega arith) in
    let size : size_of c ≡ 4 ^ (30 - level_of c) = size_at c cc in
    let first : length (cells_in t c) ≡ 4 ^ (t - level_of c) = length-cells_in t c in
    let rest = length_from least modulus (first_leaf c + size_of c) u (All-tail IsCell c u all)
    (λ i j d h l. chain (suc i) (suc j) d (omega arith) (omega arith)) leaves
    (λ h. chain 0 1 0 (omega arith) (omega arith)) some in
    let both = length-append (cells_in t c) (denormalised least modulus u) in
    let all_of = ap length (denormalised-cons least modulus c u) in
    let start : lo ≤ first_leaf c = begin (omega arith) in
    omega arith

-- there are no more items than leaves
pub length-denormalised-le : (least modulus : ℕ) (cells : List ℕ) → IsLocal cells → 0 < modulus →
    length (denormalised least modulus cells) ≤ LEAVES
length-denormalised-le least modulus cells local some =
    let packed = packed_from_local cells local in
    let most = length_from least modulus 0 cells packed.cells packed.chain (omega arith) (λ h. omega arith) some in
    omega arith

-- ---- as they are put into a room

-- the items of the first `i` cells were put into the room `old`, which made it `new`
pub record PutFirst (u : List ℕ) (least modulus i : ℕ) (old new : List ℕ) (n : ℕ) : Type 0 where
  pub items : List ℕ
  pub rest : items ++ denormalised least modulus (drop i u) ≡ denormalised least modulus u
  pub put : IsPut items old new n

pub put_first_none : (u : List ℕ) (least modulus : ℕ) (old : List ℕ) → PutFirst u least modulus 0 old old 0
put_first_none u least modulus old = record { items = []; rest = refl; put = put_none old }

pub put_first_more : {u : List ℕ} {least modulus i : ℕ} {old out : List ℕ} {n : ℕ} (c m : ℕ) (new : List ℕ) →
    PutFirst u least modulus i old out n → i < length u → c ≡ get_or u i 0
    → ((list room : List ℕ) → IsPut list room out n
    → IsPut (list ++ cells_in (cut_level (level_of c) least modulus) c) room new m)
    → PutFirst u least modulus (i + 1) old new m
put_first_more {u} {least} {modulus} {i} {old} c m new p h e more =
    let items = cells_in (cut_level (level_of c) least modulus) c in
    let later = denormalised least modulus (drop (i + 1) u) in
    let d : drop i u ≡ c ∷ drop (i + 1) u =
    rw add-one (drop-cons u i 0 h ∙ ap (λ x. x ∷ drop (suc i) u) (sym e)) in
    let next : denormalised least modulus (drop i u) ≡ items ++ later =
    ap (denormalised least modulus) d ∙ denormalised-cons least modulus c (drop (i + 1) u) in
    record {
      items = p.items ++ items;
      rest = append_assoc p.items items later ∙ ap (λ x. p.items ++ x) (sym next) ∙ p.rest;
      put = more p.items old p.put;
    }

pub put_first_all : {u : List ℕ} {least modulus i : ℕ} {old new : List ℕ} {n : ℕ} → IsLocal u → 0 < modulus →
    PutFirst u least modulus i old new n → length u ≤ i →
    PutsOne (λ list. list ≡ denormalised least modulus u) old new n
put_first_all {u} {least} {modulus} {i} local some p done =
    let none : denormalised least modulus (drop i u) ≡ [] =
    ap (denormalised least modulus) (drop_all i u done) ∙ denormalised-nil least modulus in
    let all : p.items ≡ denormalised least modulus u =
    sym (append-nil p.items) ∙ ap (λ x. p.items ++ x) (sym none) ∙ p.rest in
    let same : length p.items ≡ length (denormalised least modulus u) = ap length all in
    let most = length-denormalised-le least modulus u local some in
    record {
      list = p.items;
      is = all;
      len_is = p.put.len_is (omega arith);
      same_length = p.put.same_length;
      front = p.put.front;
    }

use Rattle.std.proofs.Common.{◌≡◌, ◌+◌, ◌-◌, ◌*◌, ◌%◌, ◌^◌, ◌<◌, ◌≤◌, ◌==◌, ℕ}
use Rattle.std.proofs.Common.{true, false, refl, sym, ◌∙◌, ap, arith, ⊎_elim}
use Rattle.std.proofs.lemmas.Bool.{cases_lt, false≢true}
use Rattle.std.proofs.lemmas.Bool.Decides.{nat_tests}
use Rattle.std.proofs.lemmas.Nat.{pow-add}
use Rattle.s2cell.specs.Cell.{IsCell, IsCellAt, level_of, place_of, first_leaf, covers}
use Rattle.s2cell.proofs.CellLemmas.{four_pos, own_place, first_leaf_of_cell, size_of_cell}
use Rattle.s2cell.proofs.Leaves.{covers_there, covers_from}
use Rattle.test_library.proofs.even.EvenRegion.part.Goals as goal

even : (n : ℕ) → n % 2 ≡ 0 → (n % 2 == 0) ≡ true
even n h = grind (arith, nat_tests)

odd : (n : ℕ) → n % 2 ≡ 1 → (n % 2 == 0) ≡ false
odd n h = grind (arith, nat_tests)

cell_of : (c : ℕ) → IsCellAt (level_of c) (place_of c) c → IsCell c
cell_of c a = (level_of c, place_of c, a)

-- a cell that is not a leaf has an even leaf, and another leaf after it
record Both (c : ℕ) : Type 0 where
  low : covers c (first_leaf c) ≡ true
  high : covers c (first_leaf c + 1) ≡ true
  even : first_leaf c % 2 ≡ 0

both : (c : ℕ) → IsCell c → level_of c < 30 → Both c
both c i h =
    let o = own_place c i in
    let s = size_of_cell (level_of c) (place_of c) c o in
    let f = first_leaf_of_cell (level_of c) (place_of c) c o in
    let d : 30 - level_of c ≡ (29 - level_of c) + 1 = omega arith in
    let four : 4 ^ (30 - level_of c) ≡ 4 ^ (29 - level_of c) * 4 =
    ap (λ z. 4 ^ z) d ∙ pow-add 4 (29 - level_of c) 1 in
    let some : 0 < 4 ^ (29 - level_of c) = four_pos (29 - level_of c) in
    let even : first_leaf c ≡ place_of c * (4 ^ (29 - level_of c) * 4) = f ∙ ap (λ z. place_of c * z) four in
    record {
      low = covers_there c (first_leaf c) (omega arith) (omega arith);
      high = covers_there c (first_leaf c + 1) (omega arith) (omega arith);
      even = omega arith;
    }

-- a leaf has no other
alone : (c x : ℕ) → IsCell c → level_of c ≡ 30 → covers c x ≡ true → x ≡ first_leaf c
alone c x i h v =
    let s = size_of_cell (level_of c) (place_of c) c (own_place c i) in
    let z : 4 ^ (30 - level_of c) ≡ 1 = ap (λ l. 4 ^ (30 - l)) h in
    let r = covers_from c x v in
    let a = r.0 in
    let b = r.1 in
    omega arith

below : (c : ℕ) → level_of c ≤ 30 → (level_of c ≡ 30 → ⊥) → level_of c < 30
below c h n =
    ⊎_elim (λ (l : level_of c < 30). l) (λ (l : 30 ≤ level_of c). absurd (n (omega arith))) (cases_lt (level_of c) 30)

here : (c : ℕ) → IsCell c → covers c (first_leaf c) ≡ true
here c i =
    let s = size_of_cell (level_of c) (place_of c) c (own_place c i) in
    let p = four_pos (30 - level_of c) in
    covers_there c (first_leaf c) (omega arith) (omega arith)

rest : (x f r : ℕ) → x ≡ f → r ≡ f → (r % 2 ≡ 0 → ⊥) → x % 2 ≡ 1
rest x f r a b n =
    ⊎_elim (λ (l : x % 2 < 1). absurd (n (omega arith))) (λ (l : 1 ≤ x % 2). omega arith) (cases_lt (x % 2) 1)

pub returns-then-not-is_leaf-clause-out : goal.returns-then-not-is_leaf-clause-out
returns-then-not-is_leaf-clause-out c = (
  λ e. cc,
  λ h.
      let shallow : level_of c.args.cell < 30 =
      below c.args.cell c.id.ensures.cell.level
      (λ l. false≢true (sym c.if-not-is_leaf.true ∙ c.is_leaf.ensures.1 l)) in
      let b = both c.args.cell (cell_of c.args.cell c.id.ensures.cell) shallow in
      absurd (false≢true (sym (h (first_leaf c.args.cell) b.low) ∙ even (first_leaf c.args.cell) b.even)),
)

pub returns-then-not-is_leaf-clause-inside : goal.returns-then-not-is_leaf-clause-inside
returns-then-not-is_leaf-clause-inside c = (
  λ e. cc,
  λ h.
      let shallow : level_of c.args.cell < 30 =
      below c.args.cell c.id.ensures.cell.level
      (λ l. false≢true (sym c.if-not-is_leaf.true ∙ c.is_leaf.ensures.1 l)) in
      let b = both c.args.cell (cell_of c.args.cell c.id.ensures.cell) shallow in
      let e = b.even in
      let x = first_leaf c.args.cell + 1 in
      absurd (false≢true (sym (odd x (omega arith)) ∙ h x b.high)),
)

pub returns-then-first_leaf-eq0-clause-out : goal.returns-then-first_leaf-eq0-clause-out
returns-then-first_leaf-eq0-clause-out c =
    let x = first_leaf c.args.cell in
    let v = c.first_leaf.ensures.value in
    let t = c.if-first_leaf-eq0.true in (
      λ e. cc,
      λ h.
          let i = cell_of c.args.cell c.id.ensures.cell in
          absurd (false≢true (sym (h x (here c.args.cell i)) ∙ even x (omega arith))),
    )

pub returns-then-first_leaf-eq0-clause-inside : goal.returns-then-first_leaf-eq0-clause-inside
returns-then-first_leaf-eq0-clause-inside c =
    let v = c.first_leaf.ensures.value in
    let t = c.if-first_leaf-eq0.true in (
      λ e x w.
          let i = cell_of c.args.cell c.id.ensures.cell in
          let a = alone c.args.cell x i (c.is_leaf.ensures.0 c.if-not-is_leaf.false) w in
          even x (omega arith),
      λ h. refl,
    )

pub returns-else-first_leaf-eq0-clause-out : goal.returns-else-first_leaf-eq0-clause-out
returns-else-first_leaf-eq0-clause-out c =
    let v = c.first_leaf.ensures.value in
    let t = c.if-first_leaf-eq0.false in (
      λ e x w.
          let i = cell_of c.args.cell c.id.ensures.cell in
          let a = alone c.args.cell x i (c.is_leaf.ensures.0 c.if-not-is_leaf.false) w in
          odd x (rest x (first_leaf c.args.cell) c.first_leaf.result a v t),
      λ h. refl,
    )

pub returns-else-first_leaf-eq0-clause-inside : goal.returns-else-first_leaf-eq0-clause-inside
returns-else-first_leaf-eq0-clause-inside c =
    let x = first_leaf c.args.cell in
    let v = c.first_leaf.ensures.value in
    let t = c.if-first_leaf-eq0.false in (
      λ e. cc,
      λ h.
          let i = cell_of c.args.cell c.id.ensures.cell in
          absurd (false≢true (sym (odd x (rest x x c.first_leaf.result refl v t)) ∙ h x (here c.args.cell i))),
    )

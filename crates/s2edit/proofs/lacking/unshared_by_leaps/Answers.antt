use Rattle.std.proofs.Common.{◌≡◌, ◌≤◌, ℕ, List, ◌++◌, ◌⊎◌, inl, inr, length, get_or, sym, ap}
use Rattle.std.proofs.Common.{◌∙◌, arith}
use Rattle.std.proofs.lemmas.Grind.{get_or_default_zero}
use Rattle.std.proofs.lemmas.Bool.Decides.{nat_tests}
use Rattle.s2edit.proofs.Sizes.{fewer_without, lacking_counts}
use Rattle.s2edit.proofs.Differing.{same_turn, lacking_rest}
use Rattle.s2edit.proofs.lacking.unshared_by_leaps.Goals as goal
use Rattle.s2edit.proofs.lacking.unshared_by_leaps.Goals.{then-loop-i-test+else-j-new, else-loop-i-test}

pub overflow_sub-shared : goal.overflow_sub-shared
overflow_sub-shared c = omega (arith, c.count_by_leaps-lost.ensures, fewer_without c.args.old.now c.args.«new».now)

pub overflow_sub-won : goal.overflow_sub-won
overflow_sub-won c =
    let us : List ℕ = c.args.old.now in
    let vs : List ℕ = c.args.«new».now in
    omega (
      arith,
      c.count_by_leaps-lost.ensures,
      fewer_without us vs,
      fewer_without vs us,
      lacking_counts us vs c.requires.old_ascends c.requires.new_ascends,
    )

pub loop-i-preserved-then-eq : goal.loop-i-preserved-then-eq
loop-i-preserved-then-eq c =
    let l = c.loop-i in
    let us : List ℕ = c.args.old.now in
    let vs : List ℕ = c.args.«new».now in
    let x : c.index-old-i.result ≡ get_or us l.i 0 = c.index-old-i.is
    ∙ get_or_default_zero us l.i c.index-old-i.result c.loop-i-test.true in
    let y : c.index-new-j.result ≡ get_or vs l.j 0 = c.index-new-j.is
    ∙ get_or_default_zero vs l.j c.index-new-j.result c.if-j-new.true in
    let one : c.index-old-i.result ≡ c.index-new-j.result = grind (arith, nat_tests, c.if-eq.ensures) in
    let same : get_or us l.i 0 ≡ get_or vs l.j 0 = sym x ∙ one ∙ y in
    record {
      out = ap (λ (xs : List ℕ). l.out.items ++ xs)
          (same_turn us vs l.i l.j c.requires.old_ascends c.loop-i-test.true c.if-j-new.true (sym same))
          ∙ l.invariant.out;
      put = ap (λ (xs : List ℕ). l.put.items ++ xs)
          (same_turn vs us l.j l.i c.requires.new_ascends c.if-j-new.true c.loop-i-test.true same) ∙ l.invariant.put;
      i_within = omega (arith, c.loop-i-test.true);
      j_within = omega (arith, c.if-j-new.true);
    }

pub returns-clause-out : goal.returns-clause-out
returns-clause-out c =
    let l = c.loop-i in
    let ended : (length c.args.old.now ≤ l.i) ⊎ (length c.args.«new».now ≤ l.j) = elim c.loop-i-test.branch [
      | then-loop-i-test+else-j-new w ↦ inr (omega arith)
      | else-loop-i-test w ↦ inl (omega arith)
    ] in
    c.in_ok-extend_from_slice-3.ensures.items ∙ lacking_rest c.args.old.now c.args.«new».now l.out.items l.i l.j
    ended l.invariant.out

pub returns-clause-put : goal.returns-clause-put
returns-clause-put c =
    let l = c.loop-i in
    let ended : (length c.args.«new».now ≤ l.j) ⊎ (length c.args.old.now ≤ l.i) = elim c.loop-i-test.branch [
      | then-loop-i-test+else-j-new w ↦ inl (omega arith)
      | else-loop-i-test w ↦ inr (omega arith)
    ] in
    c.in_ok-extend_from_slice-4.ensures.items ∙ lacking_rest c.args.«new».now c.args.old.now l.put.items l.j l.i
    ended l.invariant.put

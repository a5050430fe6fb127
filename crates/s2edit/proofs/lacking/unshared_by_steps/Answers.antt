use Rattle.std.proofs.Common.{◌≡◌, ◌<◌, ◌≤◌, ℕ, List, ◌⊎◌, inl, inr, not, true, false, length, take, get_or, ◌∙◌, arith}
use Rattle.std.proofs.lemmas.Grind.{get_or_default_zero}
use Rattle.std.proofs.lemmas.List.{length-set}
use Rattle.s2union.specs.Apply.{cells_without}
use Rattle.s2edit.proofs.Differing.{written, few_written, is_below, is_not_below, one_more, lacking_rest}
use Rattle.s2edit.proofs.lacking.unshared_by_steps.Goals as goal
use Rattle.s2edit.proofs.lacking.unshared_by_steps.Goals.{then-loop-i-test+else-j-new, else-loop-i-test}

pub loop-i-preserved : goal.loop-i-preserved
loop-i-preserved c =
    let l = c.loop-i in
    let v = c.loop-i.invariant in
    let us : List ℕ = c.args.old.now in
    let vs : List ℕ = c.args.«new».now in
    let x : c.index-old-i.result ≡ get_or us l.i 0 = c.index-old-i.is
    ∙ get_or_default_zero us l.i c.index-old-i.result c.loop-i-test.true in
    let y : c.index-new-j.result ≡ get_or vs l.j 0 = c.index-new-j.is
    ∙ get_or_default_zero vs l.j c.index-new-j.result c.if-j-new.true in
    let below : c.lt-is_below.result ≡ true → get_or us l.i 0 < get_or vs l.j 0 =
    λ h. omega (
      arith,
      x,
      y,
      is_below c.index-old-i.result c.index-new-j.result c.lt-is_below.result
          c.lt-is_below.ensures h,
    ) in
    let not_below : c.lt-is_below.result ≡ false → get_or vs l.j 0 ≤ get_or us l.i 0 =
    λ h. omega (
      arith,
      x,
      y,
      is_not_below c.index-old-i.result c.index-new-j.result c.lt-is_below.result
          c.lt-is_below.ensures h,
    ) in
    let above : c.lt-is_above.result ≡ true → get_or vs l.j 0 < get_or us l.i 0 =
    λ h. omega (
      arith,
      x,
      y,
      is_below c.index-new-j.result c.index-old-i.result c.lt-is_above.result
          c.lt-is_above.ensures h,
    ) in
    let not_above : c.lt-is_above.result ≡ false → get_or us l.i 0 ≤ get_or vs l.j 0 =
    λ h. omega (
      arith,
      x,
      y,
      is_not_below c.index-new-j.result c.index-old-i.result c.lt-is_above.result
          c.lt-is_above.ensures h,
    ) in
    record {
      out = rw x (written us vs l.out.items (cells_without us vs) l.i l.j l.lost c.lt-is_below.result
          c.lt-is_above.result c.requires.old_ascends c.requires.new_ascends c.loop-i-test.true c.if-j-new.true
          (omega (arith, v.in_old, v.out_long, c.loop-i-test.true)) below not_below above not_above v.out);
      put = rw y (written vs us l.put.items (cells_without vs us) l.j l.i l.won c.lt-is_above.result
          c.lt-is_below.result c.requires.new_ascends c.requires.old_ascends c.if-j-new.true c.loop-i-test.true
          (omega (arith, v.in_new, v.put_long, c.if-j-new.true)) above not_above below not_below v.put);
      out_long = omega (arith, v.out_long, length-set l.out.items l.lost c.index-old-i.result);
      put_long = omega (arith, v.put_long, length-set l.put.items l.won c.index-new-j.result);
      in_old = (
        few_written l.lost l.i c.lt-is_below.result c.lt-is_above.result v.in_old.0
            (λ h g. omega (arith, below h, above g)),
        one_more l.i (length us) (not c.lt-is_above.result) c.loop-i-test.true,
      );
      in_new = (
        few_written l.won l.j c.lt-is_above.result c.lt-is_below.result v.in_new.0
            (λ h g. omega (arith, above h, below g)),
        one_more l.j (length vs) (not c.lt-is_below.result) c.if-j-new.true,
      );
    }

pub returns-clause-out : goal.returns-clause-out
returns-clause-out c =
    let l = c.loop-i in
    let ended : (length c.args.old.now ≤ l.i) ⊎ (length c.args.«new».now ≤ l.j) = elim c.loop-i-test.branch [
      | then-loop-i-test+else-j-new w ↦ inr (omega arith)
      | else-loop-i-test w ↦ inl (omega arith)
    ] in
    c.in_ok-out-2.ensures ∙ lacking_rest c.args.old.now c.args.«new».now (take l.lost l.out.items) l.i l.j ended
    l.invariant.out

pub returns-clause-put : goal.returns-clause-put
returns-clause-put c =
    let l = c.loop-i in
    let ended : (length c.args.«new».now ≤ l.j) ⊎ (length c.args.old.now ≤ l.i) = elim c.loop-i-test.branch [
      | then-loop-i-test+else-j-new w ↦ inl (omega arith)
      | else-loop-i-test w ↦ inr (omega arith)
    ] in
    c.in_ok-put.ensures ∙ lacking_rest c.args.«new».now c.args.old.now (take l.won l.put.items) l.j l.i ended
    l.invariant.put

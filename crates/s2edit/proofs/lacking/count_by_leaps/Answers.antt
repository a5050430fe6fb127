use Rattle.std.proofs.Common.{◌≡◌, ◌≤◌, ℕ, List, ◌⊎◌, inl, inr, length, drop, get_or, ap, sym, ◌∙◌, arith, length-drop}
use Rattle.std.proofs.lemmas.Grind.{get_or_default_zero}
use Rattle.std.proofs.lemmas.Bool.Decides.{nat_tests}
use Rattle.s2union.specs.Apply.{cells_without}
use Rattle.s2edit.proofs.Differing.{rest_lacking, same_turn, lost_by}
use Rattle.s2edit.proofs.lacking.count_by_leaps.Goals as goal
use Rattle.s2edit.proofs.lacking.count_by_leaps.Goals.{then-loop-i-test+else-j-others, else-loop-i-test}

pub loop-i-preserved-then-eq : goal.loop-i-preserved-then-eq
loop-i-preserved-then-eq c =
    let l = c.loop-i in
    let us : List ℕ = c.args.us.now in
    let os : List ℕ = c.args.others.now in
    let x : c.index-us-i.result ≡ get_or us l.i 0 = c.index-us-i.is
    ∙ get_or_default_zero us l.i c.index-us-i.result c.loop-i-test.true in
    let y : c.index-others-j.result ≡ get_or os l.j 0 = c.index-others-j.is
    ∙ get_or_default_zero os l.j c.index-others-j.result c.if-j-others.true in
    let one : c.index-us-i.result ≡ c.index-others-j.result = grind (arith, nat_tests, c.if-eq.ensures) in
    let turn = ap length (same_turn us os l.i l.j c.requires.ascends c.loop-i-test.true c.if-j-others.true
    (sym y ∙ sym one ∙ x)) in
    record {
      count = omega (arith, turn, l.invariant.count);
      few = omega (arith, l.invariant.few);
      i_within = omega (arith, c.loop-i-test.true);
      j_within = omega (arith, c.if-j-others.true);
    }

pub loop-i-preserved : goal.loop-i-preserved
loop-i-preserved c =
    let l = c.loop-i in
    let places = c.leap-next_i.result in
    let e = c.leap-next_i.ensures in
    let gone = lost_by c.args.us.now c.args.others.now l.i l.j places.0 places.1 e.in_us.0 e.in_us.1 e.us in
    record {
      count = omega (arith, gone, l.invariant.count, e.in_us.0);
      few = omega (arith, l.invariant.few, e.in_us.0);
      i_within = e.in_us.1;
      j_within = e.in_vs.1;
    }

pub returns : goal.returns
returns c =
    let l = c.loop-i in
    let ended : (length c.args.us.now ≤ l.i) ⊎ (length c.args.others.now ≤ l.j) = elim c.loop-i-test.branch [
      | then-loop-i-test+else-j-others w ↦ inr (omega arith)
      | else-loop-i-test w ↦ inl (omega arith)
    ] in
    let rest : length (cells_without (drop l.i c.args.us.now) (drop l.j c.args.others.now))
    ≡ length (drop l.i c.args.us.now) =
    ap length (rest_lacking c.args.us.now c.args.others.now l.i l.j ended) in
    let whole = l.invariant.count in
    omega (arith, rest, whole, length-drop l.i c.args.us.now)

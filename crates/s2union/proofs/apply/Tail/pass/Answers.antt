use Rattle.std.proofs.lemmas.Bool.{false≢true}
use Rattle.std.proofs.lemmas.Grind.{get_or_default_zero}
use Rattle.std.proofs.Common.{◌-◌, sym, ◌∙◌, refl, subst, arith, length}
use Rattle.s2union.proofs.Passing.{Passing, passing_more, passing_fails, passing_rest}
use Rattle.s2union.proofs.apply.Tail.pass.Goals as goal

pub returns-then-not-takes : goal.returns-then-not-takes
returns-then-not-takes c = record {
  exact = λ back i p. (
    λ e. absurd (false≢true e),
    λ q. absurd (passing_fails c.index-run-k.result c.loop-k.invariant.so_far (omega arith)
        (c.index-run-k.is ∙ get_or_default_zero c.args.run.now c.loop-k.k c.index-run-k.result (omega arith))
        (λ f. false≢true (sym c.if-not-takes.true ∙ c.takes.ensures.exact.1 f)) back i p q),
  );
  ends = λ back i p e. absurd (false≢true e);
}

pub loop-k-preserved : goal.loop-k-preserved
loop-k-preserved c = record {
  within = omega arith;
  so_far = rw c.push.ensures (passing_more c.loop-k.invariant.so_far (omega arith)
      (c.index-run-k.is ∙ get_or_default_zero c.args.run.now c.loop-k.k c.index-run-k.result (omega arith))
      c.takes.ensures.is_cell (c.takes.ensures.exact.0 c.if-not-takes.false));
}

pub returns-then-len-gt3 : goal.returns-then-len-gt3
returns-then-len-gt3 c =
    let run = c.args.run.now in
    let w = c.loop-k.invariant.within in
    let least = c.min-k-end.ensures in
    let third = c.index-run-len in
    let second = c.index-run-len-then-len-gt3 in
    let last = c.index-run-len-then-len-gt3-2 in
    rw (c.push-then-len-gt3-3.ensures, c.push-then-len-gt3-2.ensures, c.push-then-len-gt3.ensures)
    (passing_rest _ _ _ _ refl (subst
    (Passing c.args.self.now c.loop-k.self run) (omega arith) c.loop-k.invariant.so_far) c.if-len-gt3.true
    c.requires (third.is ∙ get_or_default_zero run (length run - 3) third.result (omega arith))
    (second.is ∙ get_or_default_zero run (length run - 2) second.result (omega arith))
    (last.is ∙ get_or_default_zero run (length run - 1) last.result (omega arith)))

use Rattle.std.proofs.Common.{◌<◌, ℕ, List, ◌-◌, ◌++◌, length, take, drop, sym, ap}
use Rattle.std.proofs.Common.{subst, ◌∙◌, arith, length-take, length-drop}
use lib.Seq.{take-add, take-take}
use Rattle.std.specs.Io.KnownBytes.{Appends}
use Rattle.std.proofs.KnownBytes.{Appends-trans}
use Rattle.s2calc.proofs.CallLemmas.{none_failed_more, last_failed_after}
use Rattle.s2calc.proofs.output.write_out.Goals as goal

-- the bytes that are left
some_left : (bytes : List ℕ) (done : ℕ) → done < length bytes →
    0 < length (take (length bytes - done) (drop done bytes))
some_left bytes done h = omega (arith, length-take (length bytes - done) (drop done bytes), length-drop done bytes)

pub loop-written-preserved : goal.loop-written-preserved
loop-written-preserved g c =
    let done = c.loop-written.written in
    let n = c.in-Ok.n in
    let bytes = c.args.bytes.now in
    let before = c.loop-written.invariant in
    let fits = c.in-Ok.ensures.bound in
    let most = length-take (length bytes - done) (drop done bytes) in
    let joined = ap (λ l. take done bytes ++ l) (take-take n (length bytes - done) (drop done bytes) (omega arith))
    ∙ sym (take-add done n bytes) in (
      omega arith,
      subst (Appends _ _) joined (Appends-trans _ _ _ _ _ before.1 c.in-Ok.ensures.bytes),
      none_failed_more ⊥ _ _ _ before.2
          (c.in-Ok.ensures.takes (some_left bytes done c.loop-written-test.true) (omega arith)),
    )

pub returns-in-Ok-eq0-clause-failed : goal.returns-in-Ok-eq0-clause-failed
returns-in-Ok-eq0-clause-failed g c = last_failed_after ⊥ _ _ _ c.loop-written.invariant.2
    (c.in-Ok-eq0.ensures.takes_nothing (some_left c.args.bytes.now c.loop-written.written c.loop-written-test.true)
    c.in-Ok-eq0.field-0-test)

pub returns-in-Err-clause-failed : goal.returns-in-Err-clause-failed
returns-in-Err-clause-failed g c = last_failed_after ⊥ _ _ _ c.loop-written.invariant.2
    (c.in-Err.ensures.failed (some_left c.args.bytes.now c.loop-written.written c.loop-written-test.true))

use Rattle.std.proofs.Common.{◌≡◌, ◌+◌, ◌<◌, ◌≤◌, ◌∙◌, Bool, true, false, ◌&&◌, not}
use Rattle.std.proofs.Common.{length, get_or, refl, sym, ap, arith}
use Rattle.std.proofs.lemmas.Bool.{true≢false}
use Rattle.std.proofs.lemmas.Bool.Decides.{nat_tests}
use Rattle.s2cell.specs.Cell.{first_leaf, size_of}
use Rattle.s2cell.specs.declared.TheConstants.{LEAVES}
use Rattle.s2cell.proofs.CellLemmas.{cell_leaves}
use Rattle.s2list.specs.Union.{IsLocal, between, has_leaf}
use Rattle.s2list.specs.Sets.{complement_of}
use Rattle.s2list.proofs.Checking.{packed_from_local}
use Rattle.s2list.proofs.Walking.{gap, leaf_there, ended_more}
use Rattle.s2list.proofs.Heaping.{heap_done, pile_none}
use Rattle.s2list.proofs.complement.write_complement.Goals as goal

free : (a b : Bool) → a ≡ true → b ≡ false → (a && not b) ≡ true
free true true e f = absurd (true≢false f)
free true false e f = refl
free false b e f = absurd (true≢false (sym e))

taken : (a b : Bool) → b ≡ true → (a && not b) ≡ false
taken true true e = refl
taken true false e = absurd (true≢false (sym e))
taken false b e = refl

beyond : (a b : Bool) → a ≡ false → (a && not b) ≡ false
beyond true b e = absurd (true≢false e)
beyond false b e = refl

pub loop-i-init : goal.loop-i-init
loop-i-init g c = record {
  place = refl;
  rest = λ h. h;
  ended = λ l k h. absurd (omega arith);
  most = λ l. omega arith;
  start = λ l h. omega arith;
  so_far = λ l. pile_none (λ n list. g.W.Output.holds list c.args.out.now c.args.out.now n) _ refl refl refl
      c.requires.empty;
}

pub loop-i-preserved : goal.loop-i-preserved
loop-i-preserved g c =
    let u = g.X.Listed.ids c.args.xs.now in
    let i = c.loop-i.i in
    let done = c.loop-i.done in
    let v = c.loop-i.invariant in
    let h : i < length u = omega (arith, c.loop-i-test.true, c.len-i-end.ensures) in
    let first = c.first_of.result in
    let end = c.end_of-done.result in
    let ends : IsLocal u → end ≡ first_leaf (get_or u i 0) + size_of (get_or u i 0) =
    λ l. c.end_of-done.ensures (rw c.id-id.ensures (l.cells i 0 h))
    ∙ ap (λ v. first_leaf v + size_of v) c.id-id.ensures in
    record {
      place = c.add.ensures.place ∙ v.place;
      rest = λ h. c.in_ok-pile.ensures.rest c.args.out.now (v.rest h);
      ended = λ l.
          let e = ends l in
          let start = v.start l h in
          ended_more u i done end (v.ended l) (omega arith) (omega arith);
      most = λ l.
          let e = ends l in
          let w = (cell_leaves (get_or u i 0) (l.cells i 0 h)).within in
          omega arith;
      start = λ l n.
          let e = ends l in
          let chain : first_leaf (get_or u i 0) + size_of (get_or u i 0) ≤ first_leaf (get_or u (i + 1) 0) =
          (packed_from_local u l).chain i (i + 1) 0 (omega arith) n in
          omega arith;
      so_far = λ l.
          let own = l.cells i 0 h in
          let f : first ≡ first_leaf (get_or u i 0) = c.first_of.ensures (rw c.id-id.ensures own)
          ∙ ap first_leaf c.id-id.ensures in
          let e = ends l in
          let cl = cell_leaves (get_or u i 0) own in
          let some = cl.some in
          let w = cl.within in
          let start = v.start l h in
          c.in_ok-pile.ensures.added (complement_of (has_leaf u)) c.args.out.now done end
          (record {
            order = omega arith;
            on = omega arith;
            reach = λ _. omega arith;
            most = λ _. omega arith;
            before = λ x a b d. absurd (omega arith);
            taken = λ x a b.
                let there : between 0 LEAVES x ≡ true = grind (arith, nat_tests) in
                free (between 0 LEAVES x) (has_leaf u x) there
                (gap i done first x (packed_from_local u l) (v.ended l) (λ _. omega arith) a b);
            after = λ x a b d. taken (between 0 LEAVES x) (has_leaf u x)
                (leaf_there u i x h (omega arith) (omega arith));
          })
          (v.so_far l);
    }

pub returns-clause-made : goal.returns-clause-made
returns-clause-made g c l =
    let u = g.X.Listed.ids c.args.xs.now in
    let done = c.loop-i.done in
    let v = c.loop-i.invariant in
    let most = v.most l in
    let past : length u ≤ c.loop-i.i = omega (arith, c.loop-i-test.false, c.len-i-end.ensures) in
    let whole = c.in_ok-last.ensures.added (complement_of (has_leaf u)) c.args.out.now done LEAVES
    (record {
      order = omega arith;
      on = most;
      reach = λ _. omega arith;
      most = λ _. omega arith;
      before = λ x a b d. absurd (omega arith);
      taken = λ x a b.
          let there : between 0 LEAVES x ≡ true = grind (arith, nat_tests) in
          free (between 0 LEAVES x) (has_leaf u x) there
          (gap c.loop-i.i done (x + 1) x (packed_from_local u l) (v.ended l) (λ h. absurd (omega arith)) a
          (omega arith));
      after = λ x a b d. absurd (omega arith);
    })
    (v.so_far l) in
    heap_done (λ list. g.met.W.Output.counts list c.args.out.now c.finish.new.out c.in_ok-n.n) whole
    (λ x a.
    let none : between 0 LEAVES x ≡ false = grind (arith, nat_tests) in
    beyond (between 0 LEAVES x) (has_leaf u x) none)
    (λ few list. c.in_ok-n.ensures.put few list c.args.out.now)

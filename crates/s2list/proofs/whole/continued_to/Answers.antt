use Rattle.std.proofs.Common.{◌≡◌, ◌+◌, ◌-◌, ◌<◌, ◌≤◌, ℕ, take, length, get_or, sym, ◌∙◌, arith}
use Rattle.std.proofs.Math.Logic.{⊎_elim}
use Rattle.std.proofs.lemmas.Bool.{cases_lt, false≢true}
use Rattle.std.proofs.lemmas.List.{length-take-le, take-take}
use Rattle.s2cell.specs.Cell.{IsCell, first_leaf}
use Rattle.s2list.specs.Packed.{IsFamily, IsPacked}
use Rattle.s2list.proofs.Families.{cell_from, follows_from, no_family, no_family_from_zero, packed_more}
use Rattle.s2list.proofs.Packing.{packed_take}
use Rattle.s2list.proofs.whole.continued_to.Goals as goal

pub returns-then-surely_continues-clause-packed : goal.returns-then-surely_continues-clause-packed
returns-then-surely_continues-clause-packed g c packed =
    c.surely_continues.ensures c.if-surely_continues.true c.requires.order packed

pub loop-k-init : goal.loop-k-init
loop-k-init g c = record {
  from = omega arith;
  within = c.requires.order;
  packed = λ p. p;
  a = λ h. c.before-a.ensures.there (omega arith);
  b = λ h. c.before-b.ensures.there (omega arith);
  c = λ h. c.before-c.ensures.there (omega arith);
  no_a = λ h. c.before-a.ensures.none (omega arith);
  no_b = λ h. c.before-b.ensures.none (omega arith);
  no_c = λ h. c.before-c.ensures.none (omega arith);
  end = λ h own. c.end_before-end.ensures.there h own;
  no_end = λ h. c.end_before-end.ensures.none (omega arith);
}

pub loop-k-preserved : goal.loop-k-preserved
loop-k-preserved g c =
    let u = g.C.Listed.ids c.args.cells.now in
    let k = c.loop-k.k in
    let v = c.loop-k.invariant in
    let from = v.from in
    let h : k < length u = omega arith in
    let is = rw c.id-d.ensures at (c.continues.ensures.0 c.if-not-continues.false) in
    let one : k + 1 - 1 ≡ k = omega arith in
    let own : IsCell (get_or u k 0) = is.0 in
    record {
      from = omega arith;
      within = omega arith;
      packed = λ first.
          let packed = v.packed first in
          packed_more u k h packed is.0
          (λ s.
          let up : (k - 1) + 1 ≡ k = omega arith in
          let e = v.end s (cell_from u (k - 1) (omega arith) (rw up packed)) in rw e at is.1)
          (λ f. let ea = v.a (let t = f.0 in omega arith) in
          let eb = v.b (let t = f.0 in omega arith) in
          let ec = v.c (let t = f.0 in omega arith) in is.2 f.1 (rw (ea, eb, ec) f.2));
      a = λ s. let e : k + 1 - 3 ≡ k - 2 = omega arith in rw e (v.b (omega arith));
      b = λ s. let e : k + 1 - 2 ≡ k - 1 = omega arith in rw e (v.c (omega arith));
      c = λ s. rw one c.id-d.ensures;
      no_a = λ s. v.no_b (omega arith);
      no_b = λ s. v.no_c (omega arith);
      no_c = λ s. absurd (omega arith);
      end = λ s _. rw (one, ← c.id-d.ensures) (c.end_of-end.ensures (rw c.id-d.ensures own));
      no_end = λ s. absurd (omega arith);
    }

pub returns-then-not-continues-clause-whole : goal.returns-then-not-continues-clause-whole
returns-then-not-continues-clause-whole g c first l =
    let u = g.C.Listed.ids c.args.cells.now in
    let k = c.loop-k.k in
    let v = c.loop-k.invariant in
    let from = v.from in
    let h : k < length u = omega arith in
    let same : take (k + 1) (take c.args.stop u) ≡ take (k + 1) u = take-take (k + 1) c.args.stop u (omega arith) in
    let len : length (take c.args.stop u) ≡ c.args.stop = length-take-le c.args.stop u c.requires.within in
    let p : IsPacked (take (k + 1) u) = rw same at (packed_take (k + 1) (take c.args.stop u) (omega arith) l) in
    let packed = v.packed first in
    let own : IsCell c.id-d.result = rw c.id-d.ensures (cell_from u k h p) in
    let follows : c.loop-k.end ≤ first_leaf c.id-d.result =
    ⊎_elim
    (λ (s : 0 < k).
    let up : (k - 1) + 1 ≡ k = omega arith in
    let e = v.end s (cell_from u (k - 1) (omega arith) (rw up packed)) in
    rw (e, c.id-d.ensures) (follows_from u k h p s))
    (λ (s : k ≤ 0). let e = v.no_end (omega arith) in omega arith)
    (cases_lt 0 k) in
    let none : (q : ℕ) → IsFamily c.loop-k.a c.loop-k.b c.loop-k.c c.id-d.result q → ⊥ = λ q f. ⊎_elim
    (λ (s : 2 < k).
    let ea = v.a s in let eb = v.b (omega arith) in let ec = v.c (omega arith) in
    no_family u k h p (omega arith) (rw (ea, eb, ec, c.id-d.ensures) at f))
    (λ (s : k ≤ 2). no_family_from_zero (v.no_a (omega arith)) f) (cases_lt 2 k) in
    absurd (false≢true (sym c.if-not-continues.true ∙ c.continues.ensures.1 (own, follows, none)))

pub returns-clause-packed : goal.returns-clause-packed
returns-clause-packed g c first =
    let v = c.loop-k.invariant in
    let within = v.within in
    let same : c.loop-k.k ≡ c.args.stop = omega arith in
    rw same at (v.packed first)

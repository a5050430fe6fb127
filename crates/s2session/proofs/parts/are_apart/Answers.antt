use Rattle.std.proofs.Common.{◌≡◌, ◌<◌, ℕ, List, get_or, sym, ◌∙◌, arith}
use Rattle.std.proofs.lemmas.Grind.{get_or_default_zero}
use Rattle.std.proofs.lemmas.Bool.Decides.{nat_tests}
use Rattle.s2session.proofs.Apart.{apart_first, apart_second, not_apart}
use Rattle.s2session.proofs.parts.are_apart.Goals as goal

pub loop-i-preserved-in-Less : goal.loop-i-preserved-in-Less
loop-i-preserved-in-Less c =
    let l = c.loop-i in
    let us : List ℕ = c.args.out.now in
    let vs : List ℕ = c.args.put.now in
    let x : c.index-out-i.result ≡ get_or us l.i 0 = c.index-out-i.is
    ∙ get_or_default_zero us l.i c.index-out-i.result c.loop-i-test.true in
    let y : c.index-put-j.result ≡ get_or vs l.j 0 = c.index-put-j.is
    ∙ get_or_default_zero vs l.j c.index-put-j.result c.if-j-put.true in
    let below : c.index-out-i.result < c.index-put-j.result = grind (arith, nat_tests, c.in-Less.ensures) in
    record {
      rest = λ apart. l.invariant.rest (apart_first us vs l.i l.j c.requires.put_ascends c.loop-i-test.true
          c.if-j-put.true (omega arith) apart);
      i_within = omega (arith, c.loop-i-test.true);
      j_within = l.invariant.j_within;
    }

pub returns-in-Equal : goal.returns-in-Equal
returns-in-Equal c =
    let l = c.loop-i in
    let us : List ℕ = c.args.out.now in
    let vs : List ℕ = c.args.put.now in
    let x : c.index-out-i.result ≡ get_or us l.i 0 = c.index-out-i.is
    ∙ get_or_default_zero us l.i c.index-out-i.result c.loop-i-test.true in
    let y : c.index-put-j.result ≡ get_or vs l.j 0 = c.index-put-j.is
    ∙ get_or_default_zero vs l.j c.index-put-j.result c.if-j-put.true in
    let one : c.index-out-i.result ≡ c.index-put-j.result = grind (arith, nat_tests, c.in-Equal.ensures) in
    not_apart us vs l.i l.j c.loop-i-test.true c.if-j-put.true (sym x ∙ one ∙ y)

pub loop-i-preserved : goal.loop-i-preserved
loop-i-preserved c =
    let l = c.loop-i in
    let us : List ℕ = c.args.out.now in
    let vs : List ℕ = c.args.put.now in
    let x : c.index-out-i.result ≡ get_or us l.i 0 = c.index-out-i.is
    ∙ get_or_default_zero us l.i c.index-out-i.result c.loop-i-test.true in
    let y : c.index-put-j.result ≡ get_or vs l.j 0 = c.index-put-j.is
    ∙ get_or_default_zero vs l.j c.index-put-j.result c.if-j-put.true in
    let below : c.index-put-j.result < c.index-out-i.result = grind (arith, nat_tests, c.in-Greater.ensures) in
    record {
      rest = λ apart. l.invariant.rest (apart_second us vs l.i l.j c.requires.out_ascends c.loop-i-test.true
          c.if-j-put.true (omega arith) apart);
      i_within = l.invariant.i_within;
      j_within = omega (arith, c.if-j-put.true);
    }

use Rattle.std.proofs.Common.{◌≡◌, ℕ, ◌-◌, ◌<◌, ◌∙◌, List, [], ◌∷◌, length, get_or, sym, subst, arith, eqb-true, eq-eqb}
use Rattle.std.proofs.lemmas.Grind.{get_or_default_zero}
use Rattle.s2union_c.proofs.unions.are_ends.Goals as goal

last_end : (ends : List ℕ) (k start : ℕ) → k ≡ length ends → (k ≡ 0 → start ≡ 0) →
    (0 < k → start ≡ get_or ends (k - 1) 0) → start ≡ get_or ends (length ends - 1) 0
last_end [] k start is none last = none is
last_end (end ∷ ends) k start is none last =
    subst (λ m. start ≡ get_or (end ∷ ends) (m - 1) 0) is (last (omega arith))

pub returns : goal.returns
returns c =
    let v = c.loop-end.invariant in
    let ends = c.args.ends.now in
    let k = c.loop-end.end-index in
    let start = c.loop-end.start in
    let n = c.args.n in
    let stop = c.loop-end-test.false in
    let fits = c.loop-end.auto.end-index-end in
    let all : k ≡ length ends = omega arith in
    let last : start ≡ get_or ends (length ends - 1) 0 = last_end ends k start all v.none v.last in (
      λ t.
          record {
            order = λ i j d le h.
                let a = get_or_default_zero ends i d (omega arith) in
                let b = get_or_default_zero ends j d h in
                let o = v.order i j le (omega arith) in
                omega arith;
            last = sym last ∙ eqb-true start n t;
          },
      λ a. eq-eqb start n (last ∙ a.last),
    )

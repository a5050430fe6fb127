use Rattle.std.proofs.Common.{List, ℕ, Result, Ok, Err, rules, subst}
use Rattle.std.specs.Prelude.{MatchResult, IfOk}
use Rattle.std.proofs.lemmas.Result.{MatchResult-weaker}
use Rattle.s2list.specs.Union.{has_leaf}
use Rattle.s2list.proofs.Normal.{same_from_leaves}
use Rattle.s2file.specs.File.{File}
use Rattle.s2file.proofs.laws.round_trip.Goals as goal

-- a fact for either case, and one more for a value
with_ok : {T E : Type 0} (r : Result T E) (P Q : T → Type 0) (F : E → Type 0) → MatchResult r P F → IfOk r Q →
    MatchResult r (λ x. P x × Q x) F
with_ok (Ok x) P Q F p q = (p, q)
with_ok (Err e) P Q F f q = f

pub returns : goal.returns
returns c =
    let u = c.args.union.now.cells in
    let file : File c.in_ok-bytes.bytes.items (has_leaf u) = c.in_ok-bytes.ensures.back c.requires in
    MatchResult-weaker c.decode.result (with_ok c.decode.result _ _ _ (c.decode.ensures.exact
    (has_leaf u) (subst (λ (b : List ℕ). File b (has_leaf u)) (search rules) file)) c.decode.ensures.local)
    (λ v p. same_from_leaves v.cells u p.1 c.cells.ensures.local p.0) (λ fault p. p)

use Rattle.std.proofs.Common.{◌+◌, ◌-◌, ◌*◌, ◌<◌, ◌≤◌, length}
use Rattle.std.proofs.Common.{get_or, arith}
use Rattle.std.proofs.Math.Logic.{⊎_elim}
use Rattle.std.proofs.lemmas.Bool.{cases_lt, false≢true}
use Rattle.s2list.specs.Union.{IsLocal, has_leaf}
use Rattle.s2list.specs.Working.Walk.{Decides, FewLooks}
use Rattle.s2list.specs.declared.walk.Question.TheVariants.{Contains}
use Rattle.s2list.proofs.Asking.{none_lacks}
use Rattle.s2list.proofs.walk.holds_all.Given.{Over}
use Rattle.s2list.proofs.walk.holds_all.Goals as goal

pub returns-then-ends_later-clause-answer : goal.returns-then-ends_later-clause-answer
returns-then-ends_later-clause-answer g c lx ly = (
  λ e. absurd (false≢true e),
  λ within. absurd (c.ends_later.ensures.answer lx ly c.if-ends_later.true within),
)

pub returns-then-begins_earlier-clause-answer : goal.returns-then-begins_earlier-clause-answer
returns-then-begins_earlier-clause-answer g c lx ly = (
  λ e. absurd (false≢true e),
  λ within. absurd (c.begins_earlier.ensures.answer lx ly c.if-begins_earlier.true within),
)

pub returns-clause-answer : goal.returns-clause-answer
returns-clause-answer g c lx ly =
    none_lacks (has_leaf (g.X.Listed.ids c.args.xs.now)) (g.Y.Listed.ids c.args.ys.now) c.lacks_one.result
    (c.lacks_one.ensures.none lx ly) (c.lacks_one.ensures.found lx ly)

-- the looks at both ends and beginnings are no more than a walk may add
looked : (g : Over) (c : goal.After-lacks_one g) → IsLocal (g.X.Listed.ids c.args.xs.now) →
    IsLocal (g.Y.Listed.ids c.args.ys.now) → FewLooks
    (λ k. Decides Contains (g.X.Listed.ids c.args.xs.now) (get_or (g.Y.Listed.ids c.args.ys.now) k 0))
    (g.X.Listed.ids c.args.xs.now) (g.Y.Listed.ids c.args.ys.now)
    (g.K.Count.looks c.lacks_one.new.count - g.K.Count.looks c.begins_earlier.new.count
    + (g.K.Count.looks c.begins_earlier.new.count - g.K.Count.looks c.args.count.now))
looked g c lx ly =
    let ends = c.ends_later.ensures.looks in
    let beginnings = c.begins_earlier.ensures.looks in
    let more = g.K.Count.looks c.begins_earlier.new.count - g.K.Count.looks c.args.count.now in
    let by_m : more ≤ 4 * length (g.X.Listed.ids c.args.xs.now) =
    ⊎_elim
    (λ (h : 0 < length (g.X.Listed.ids c.args.xs.now)). omega arith)
    (λ (h : length (g.X.Listed.ids c.args.xs.now) ≤ 0).
    let no_end = c.ends_later.ensures.none (omega arith) in
    let no_beginning = c.begins_earlier.ensures.none (omega arith) in
    omega arith)
    (cases_lt 0 (length (g.X.Listed.ids c.args.xs.now))) in
    c.lacks_one.ensures.looks lx ly more (omega arith) by_m

pub returns-clause-looks : goal.returns-clause-looks
returns-clause-looks g c lx ly d i j cut known k h = let l = (looked g c lx ly).turns d i j cut known k h in omega arith

pub returns-clause-sizes : goal.returns-clause-sizes
returns-clause-sizes g c lx ly k h = let l = (looked g c lx ly).sizes k h in omega arith

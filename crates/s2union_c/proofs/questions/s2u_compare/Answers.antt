use Rattle.std.proofs.Common.{sym, ◌∙◌, arith}
use Rattle.s2union_c.proofs.Ordering.{shorter_at, longer_at}
use Rattle.s2union_c.proofs.questions.s2u_compare.Goals as goal

pub returns-then-both-ys : goal.returns-then-both-ys
returns-then-both-ys c =
    let both = c.min-both.ensures in
    sym (c.loop-k.invariant ∙ shorter_at c.args.xs.now c.args.ys.now c.loop-k.k (omega arith) (omega arith))

pub returns-then-both-xs : goal.returns-then-both-xs
returns-then-both-xs c =
    let both = c.min-both.ensures in
    sym (c.loop-k.invariant ∙ longer_at c.args.xs.now c.args.ys.now c.loop-k.k (omega arith) (omega arith))

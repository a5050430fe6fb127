use Rattle.std.proofs.Common.{length, ap, refl, arith}
use Rattle.std.proofs.lemmas.Bool.{false≢true}
use Rattle.std.proofs.lemmas.List.{length-map}
use Rattle.s2list.specs.Union.{Union}
use Rattle.s2edit.specs.Working.Chain.{lists_of}
use Rattle.s2edit.proofs.Tables.{list_read}
use Rattle.s2edit.proofs.Restoring.{few_at}
use Rattle.s2edit.proofs.session.are_within.Goals as goal

pub returns-then-len-limit : goal.returns-then-len-limit
returns-then-len-limit c = (
  λ h. absurd (false≢true h),
  λ a. let us = c.args.unions.now in
      let i = c.loop-union.union-index in
      let read = list_read us i i c.union-item.result c.union-item.is refl c.loop-union-test.true in
      absurd (omega (
        arith,
        c.if-len-limit.true,
        c.len.ensures,
        ap length read,
        few_at c.args.limit (lists_of us) i a
            (omega (arith, c.loop-union-test.true, length-map us (λ (u : Union). u.cells))),
      )),
)

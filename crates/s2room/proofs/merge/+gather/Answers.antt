use Rattle.std.proofs.Common.{◌≡◌, ◌++◌, subst}
use Rattle.std.proofs.lemmas.List.{take-append-drop}
use Rattle.std.proofs.lemmas.List.Sorted.{IsPermutation-append, IsPermutation-trans}
use Rattle.std.specs.List.Sorted.{IsPermutation}
use Rattle.s2room.proofs.merge.+gather.Goals as goal

pub returns-clause-all : goal.returns-clause-all
returns-clause-all t c =
    let ids = c.args.ids.now in
    let parts = c.split_at-2.ensures in
    let whole : c.split_at-2.result.0.now ++ c.split_at-2.result.1.now ≡ ids =
    rw (parts.front, parts.back) (take-append-drop c.min-cut.result ids) in
    IsPermutation-trans _ _ _
    (subst (λ l. IsPermutation l (c.gather.new.room ++ c.gather-2.new.room)) whole
    (IsPermutation-append _ _ _ _ c.gather.ensures.all c.gather-2.ensures.all)) c.merge.ensures.all

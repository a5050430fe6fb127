use Rattle.std.proofs.Common.{take}
use Rattle.std.proofs.lemmas.List.Sorted.{All-permutation, list_any-IsPermutation}
use Rattle.s2cell.specs.Cell.{IsCell, covers}
use Rattle.s2list.specs.Union.{has_leaf}
use Rattle.s2list.proofs.Normal.{normal_form_same}
use Rattle.std.proofs.Common.{sym}
use Rattle.s2room.proofs.merge.union_of_many.Goals as goal

pub normalise-requires : goal.normalise-requires
normalise-requires c = All-permutation IsCell c.args.ids.now c.gather.new.room c.gather.ensures.all c.requires.cells

pub returns-clause-normal : goal.returns-clause-normal
returns-clause-normal c =
    let ids = c.args.ids.now in
    let gathered = c.gather.new.room in
    normal_form_same (has_leaf gathered) (has_leaf ids) (take c.normalise.result c.normalise.new.ids)
    (λ x. sym (list_any-IsPermutation (λ n. covers n x) ids gathered c.gather.ensures.all))
    c.normalise.ensures.normal

use Rattle.std.proofs.Common.{arith, sym, ◌∙◌}
use Rattle.s2file.proofs.Numbers.{length-numbers, get_or-numbers}
use Rattle.s2file.proofs.file_ids.FileIdsCells.id.Goals as goal

pub number_at-requires : goal.number_at-requires
number_at-requires c = let l = length-numbers c.args.self.now.bytes.now in let r = c.requires in omega arith

pub returns : goal.returns
returns c =
    let l = length-numbers c.args.self.now.bytes.now in
    let r = c.requires in
    c.number_at.ensures ∙ sym (get_or-numbers c.args.self.now.bytes.now c.args.k (omega arith))

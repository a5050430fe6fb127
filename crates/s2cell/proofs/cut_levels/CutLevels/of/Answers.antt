use Rattle.std.proofs.Common.{◌≡◌, get_or, arith}
use Rattle.s2cell.specs.CutLevels.{cut_level}
use Rattle.s2cell.proofs.Cutting.{cut_level_is, cut_level_own, cut_level_most}
use Rattle.s2cell.proofs.cut_levels.CutLevels.of.Goals as goal

pub returns-clause-meaning : goal.returns-clause-meaning
returns-clause-meaning c =
    let v = c.self.invariant in
    let is : get_or c.self.inside.levels c.args.level 0
    ≡ cut_level c.args.level c.self.inside.min c.self.inside.modulus = v.each c.args.level c.requires in
    rw (← c.self.view_is, is) (cut_level_is c.args.level c.self.inside.min c.self.inside.modulus c.requires
    v.some)

pub returns-clause-own : goal.returns-clause-own
returns-clause-own c =
    let v = c.self.invariant in
    let is = v.each c.args.level c.requires in
    let own = cut_level_own c.args.level c.self.inside.min c.self.inside.modulus c.requires v.some in
    omega arith

pub returns-clause-most : goal.returns-clause-most
returns-clause-most c =
    let is = c.self.invariant.each c.args.level c.requires in
    let most = cut_level_most c.args.level c.self.inside.min c.self.inside.modulus in
    omega arith

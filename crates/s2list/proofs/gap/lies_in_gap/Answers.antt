use Rattle.std.proofs.Common.{◌<◌, ◌≤◌, nat_le, nat_lt, arith}
use Rattle.std.proofs.lemmas.Bool.{and_parts}
use Rattle.std.proofs.lemmas.Bool.Decides.{nat_tests}
use Rattle.s2list.proofs.Gapping.{lies_there}
use Rattle.s2list.proofs.gap.lies_in_gap.Goals as goal

pub returns : goal.returns
returns c e u gap packed =
    let parts = and_parts (nat_lt c.args.gap.below c.args.id) (nat_le c.args.id c.args.gap.ahead) e in
    let first = parts.0 in
    let second = parts.1 in
    let above : c.args.gap.below < c.args.id = grind (arith, nat_tests) in
    let within : c.args.id ≤ c.args.gap.ahead = grind (arith, nat_tests) in
    lies_there u c.args.gap c.args.id gap packed above within

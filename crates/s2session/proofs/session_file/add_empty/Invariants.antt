use Rattle.std.proofs.Common.{◌≡◌, [], ◌++◌, map, replicate}
use Rattle.s2list.specs.Union.{Union}
use Rattle.s2session.proofs.session_file.add_empty.Given as goal

abbrev pub invariant-loop-i : goal.invariant-loop-i
invariant-loop-i l = map (λ (u : Union). u.cells) l.registers.items
    ≡ map (λ (u : Union). u.cells) l.fn.registers.items ++ replicate l._i []

use Rattle.std.proofs.Common.{◌≡◌, ◌++◌, map, take, flat_map}
use Rattle.s2list.specs.Union.{Union}
use Rattle.s2session.specs.Session.{list_text}
use Rattle.s2session.proofs.session_file.put_registers.Given as goal

abbrev pub invariant-loop-union : goal.invariant-loop-union
invariant-loop-union l = l.bytes.items ≡ l.fn.bytes.items
    ++ flat_map list_text (map (λ (u : Union). u.cells) (take l.union-index l.registers))

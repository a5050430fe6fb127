use Rattle.s2cell.proofs.Tokens.{ReadSoFar}
use Rattle.s2cell.proofs.cell.CellId.from_token.Given as goal

abbrev pub invariant-loop-byte : goal.invariant-loop-byte
invariant-loop-byte l = ReadSoFar l.text l.byte-index l.id

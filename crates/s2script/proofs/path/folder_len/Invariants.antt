use Rattle.std.proofs.Common.{◌≡◌, ◌≤◌, drop}
use Rattle.s2script.specs.Paths.{folder_from, folder_length}
use Rattle.s2script.proofs.path.folder_len.Given as goal

-- the slashes so far are seen
abbrev pub invariant-loop-byte : goal.invariant-loop-byte
invariant-loop-byte l = (l.index ≡ l.byte-index) × (l.len ≤ l.index)
    × (folder_length l.word ≡ folder_from l.byte-index l.len (drop l.byte-index l.word))

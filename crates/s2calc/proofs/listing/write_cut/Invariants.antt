use Rattle.std.proofs.Common.{◌≡◌, ◌+◌, ◌≤◌, ◌++◌, length, take}
use Rattle.std.specs.List.{flat_map}
use Rattle.s2list.specs.Denorm.{denormalised}
use Rattle.s2calc.specs.Texts.{token_line}
use Rattle.s2calc.specs.Calls.{NoneFailed}
use Rattle.s2calc.specs.Working.Listing.{IsUnderway}
use Rattle.s2calc.proofs.listing.write_cut.Given as goal

-- the lines of the cells so far are written or wait, they and the cells that are left are all, and no call failed
abbrev pub invariant-loop-cell : goal.invariant-loop-cell
invariant-loop-cell g l =
    (l.yielded ++ l.cell-iterator ≡ denormalised l.fn.least l.fn.modulus l.fn.union.cells)
    × (l.waiting + 17 ≤ length l.block)
    × IsUnderway (g.W.Sink.contents l.fn.writer) (g.W.Sink.contents l.writer) (take l.waiting l.block)
    (flat_map token_line l.yielded)
    × NoneFailed ⊥ (g.W.Sink.calls l.fn.writer) (g.W.Sink.calls l.writer)

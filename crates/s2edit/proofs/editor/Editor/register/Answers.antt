use Rattle.std.proofs.Common.{◌<◌, ℕ, List, length, ap, arith}
use Rattle.s2edit.specs.History.{History}
use Rattle.s2edit.specs.Working.Chain.{lists_of}
use Rattle.s2edit.proofs.Tables.{AllWithin-get, slice_get-lists_of, read_register}
use Rattle.s2edit.proofs.editor.Editor.register.Goals as goal

pub returns-clause-within : goal.returns-clause-within
returns-clause-within c =
    let us = c.self.inside.registers.items in
    let l : c.index.result < length us = omega (arith, c.index.ensures.within, c.self.invariant.count) in
    let g = read_register us _ _ _ c.index-2.ensures c.index.ensures.value l in
    let w = AllWithin-get c.self.inside.limit (lists_of us) c.args.register c.index-2.result.now.cells
    c.self.invariant.registers_within (slice_get-lists_of us _ _ g) in
    omega (arith, w.few, ap (λ (h : History (List ℕ)). h.limit) c.self.view_is)

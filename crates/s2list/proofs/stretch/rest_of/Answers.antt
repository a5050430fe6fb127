use Rattle.std.proofs.Common.{◌≡◌, ◌+◌, ◌<◌, ◌≤◌, ◌∙◌, length, get_or, ap, arith}
use Rattle.s2cell.specs.Cell.{first_leaf, size_of}
use Rattle.s2cell.proofs.CellLemmas.{cell_leaves}
use Rattle.s2list.proofs.Checking.{packed_from_local}
use Rattle.s2list.proofs.Walking.{gap, leaf_there, ended_more}
use Rattle.s2list.proofs.stretch.rest_of.Goals as goal

pub returns-then-i-len-clause-free : goal.returns-then-i-len-clause-free
returns-then-i-len-clause-free g c local ended x low high =
    let u = g.C.Listed.ids c.args.cells.now in
    let i = c.args.i in
    let h : i < length u = omega (arith, c.if-i-len.true, c.len.ensures) in
    let f : c.first_of.result ≡ first_leaf (get_or u i 0) = c.first_of.ensures (rw c.id-id.ensures (local.cells i 0 h))
    ∙ ap first_leaf c.id-id.ensures in
    gap i c.args.done (x + 1) x (packed_from_local u local) ended (λ _. omega arith) low (omega arith)

pub returns-then-i-len-clause-taken : goal.returns-then-i-len-clause-taken
returns-then-i-len-clause-taken g c local x low high =
    let u = g.C.Listed.ids c.args.cells.now in
    let i = c.args.i in
    let h : i < length u = omega (arith, c.if-i-len.true, c.len.ensures) in
    let own = local.cells i 0 h in
    let f : c.first_of.result ≡ first_leaf (get_or u i 0) = c.first_of.ensures (rw c.id-id.ensures own)
    ∙ ap first_leaf c.id-id.ensures in
    let e : c.end_of.result ≡ first_leaf (get_or u i 0) + size_of (get_or u i 0) =
    c.end_of.ensures (rw c.id-id.ensures own) ∙ ap (λ v. first_leaf v + size_of v) c.id-id.ensures in
    leaf_there u i x h (omega arith) (omega arith)

pub returns-then-i-len-clause-ended : goal.returns-then-i-len-clause-ended
returns-then-i-len-clause-ended g c local h ended lo low end =
    let u = g.C.Listed.ids c.args.cells.now in
    let i = c.args.i in
    let e : c.end_of.result ≡ first_leaf (get_or u i 0) + size_of (get_or u i 0) =
    c.end_of.ensures (rw c.id-id.ensures (local.cells i 0 h)) ∙ ap (λ v. first_leaf v + size_of v) c.id-id.ensures in
    ended_more u i c.args.done lo ended low (omega arith)

pub returns-then-i-len-clause-within : goal.returns-then-i-len-clause-within
returns-then-i-len-clause-within g c local h =
    let u = g.C.Listed.ids c.args.cells.now in
    let i = c.args.i in
    let own = local.cells i 0 h in
    let e : c.end_of.result ≡ first_leaf (get_or u i 0) + size_of (get_or u i 0) =
    c.end_of.ensures (rw c.id-id.ensures own) ∙ ap (λ v. first_leaf v + size_of v) c.id-id.ensures in
    let w = (cell_leaves (get_or u i 0) own).within in
    omega arith

pub returns-clause-free : goal.returns-clause-free
returns-clause-free g c local ended x low high =
    let u = g.C.Listed.ids c.args.cells.now in
    let past : length u ≤ c.args.i = omega (arith, c.if-i-len.false, c.len.ensures) in
    gap c.args.i c.args.done (x + 1) x (packed_from_local u local) ended (λ h. absurd (omega arith)) low (omega arith)

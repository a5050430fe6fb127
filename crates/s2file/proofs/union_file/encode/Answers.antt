use Rattle.std.proofs.Common.{arith}
use Rattle.s2file.proofs.Texts.{bytes_of_text, file_of_text, text_whole}
use Rattle.s2file.proofs.union_file.encode.Goals as goal

pub returns-clause-text : goal.returns-clause-text
returns-clause-text c =
    text_whole c.cells-cells.result.now c.args.union.now.cells
    c.loop-cell.bytes.items c.loop-cell.cell-index c.cells-cells.ensures.value (omega arith) c.loop-cell.invariant

pub returns-clause-bytes : goal.returns-clause-bytes
returns-clause-bytes c =
    let text = text_whole c.cells-cells.result.now c.args.union.now.cells c.loop-cell.bytes.items
    c.loop-cell.cell-index c.cells-cells.ensures.value (omega arith) c.loop-cell.invariant in
    bytes_of_text c.loop-cell.bytes.items c.cells-cells.ensures.local text

pub returns-clause-back : goal.returns-clause-back
returns-clause-back c =
    let text = text_whole c.cells-cells.result.now c.args.union.now.cells c.loop-cell.bytes.items
    c.loop-cell.cell-index c.cells-cells.ensures.value (omega arith) c.loop-cell.invariant in
    λ most. file_of_text c.loop-cell.bytes.items c.cells-cells.ensures.local text most

use Rattle.std.proofs.Common.{◌≡◌, ◌+◌, List, take}
use Rattle.s2list.specs.Union.{has_leaf}
use Rattle.s2edit.specs.History.{sets}
use Rattle.s2edit.specs.Edits.{EditRun, edit_tally_of}
use Rattle.s2edit.specs.declared.edits.EditOutcome.{EditOutcome}
use Rattle.s2edit.proofs.edits.run_edits.Given as goal

-- the outcomes so far
abbrev pub invariant-loop-edit : goal.invariant-loop-edit
invariant-loop-edit l =
    (outcomes : List EditOutcome) × EditRun (λ u. u) l.initial.editor (take l.edit-index l.edits) outcomes l.editor
    × EditRun has_leaf (sets l.initial.editor) (take l.edit-index l.edits) outcomes (sets l.editor)
    × (l.tally ≡ edit_tally_of outcomes)
    × (l.tally.done + l.tally.refused + l.tally.memory ≡ l.edit-index)

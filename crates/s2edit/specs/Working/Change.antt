-- What the fields of a change stand for.
use Rattle.s2edit.specs.Diff.{Diff, IsDiff}
use Rattle.s2edit.specs.declared.change.Change.TheInside.{Inside}

-- the change that the fields of a change stand for
abbrev pub diff_inside : Inside → Diff
diff_inside c = record { register = c.register; out = c.out.items; put = c.put.items }

-- the lists in the fields of a change are those of a change
abbrev pub IsChange : Inside → Type 0
IsChange c = IsDiff c.out.items c.put.items

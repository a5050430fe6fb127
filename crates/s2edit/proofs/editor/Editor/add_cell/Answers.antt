use Rattle.std.proofs.Common.{◌∷◌, [], ℕ, List, sym, subst}
use Rattle.s2list.specs.Union.{has_leaf}
use Rattle.s2list.specs.Sets.{union_of}
use Rattle.s2edit.specs.Leads.{list_at}
use Rattle.s2edit.specs.Working.Named.{Gives}
use Rattle.s2edit.specs.Working.Splice.{IsPlaceOf}
use Rattle.s2edit.proofs.Making.{of_list, made_becomes, made_too_long}
use Rattle.s2edit.proofs.editor.Editor.add_cell.Goals.{After-make}
use Rattle.s2edit.proofs.editor.Editor.add_cell.Goals as goal

-- what the change gives
given : (c : After-make) → Gives (union_of (has_leaf (list_at c.args.self.now.now c.args.register))
    (has_leaf (c.args.cell ∷ []))) c.args.register c.register-union.result.now.cells c.in_ok-change.change
given c = of_list (λ (k : List ℕ). Gives (union_of (has_leaf k) (has_leaf (c.args.cell ∷ []))) c.args.register
    c.register-union.result.now.cells c.in_ok-change.change) c.args.self.now c.args.register
    c.register-union.result.now.cells c.register-union.ensures.list c.in_ok-change.ensures.gives

pub returns-clause-ok : goal.returns-clause-ok
returns-clause-ok c =
    made_becomes _ c.args.register c.args.self.now _ c.in_ok-change.change c.register-union.result.now.cells
    c.register-union.ensures.list c.cells.ensures.local (given (goal.at.returns-clause-ok c).After-make)
    c.make.result c.make.ensures.ok c.make.ensures.within

pub returns-clause-too_many : goal.returns-clause-too_many
returns-clause-too_many c =
    made_too_long _ c.args.register c.args.self.now c.make.new.self c.in_ok-change.change
    c.register-union.result.now.cells c.register-union.ensures.list c.cells.ensures.local
    (given (goal.at.returns-clause-too_many c).After-make) c.make.result c.make.ensures.too_many

pub make-requires-clause-place : goal.make-requires-clause-place
make-requires-clause-place c =
    subst (λ (r : ℕ). IsPlaceOf c.in_ok-change.change (list_at c.args.self.now.now r) c.in_ok-change.at)
    (sym c.in_ok-change.ensures.gives.register)
    (of_list (λ (k : List ℕ). IsPlaceOf c.in_ok-change.change k c.in_ok-change.at) c.args.self.now c.args.register
    c.register-union.result.now.cells c.register-union.ensures.list c.in_ok-change.ensures.place)

use Rattle.std.proofs.Common.{◌≡◌, ◌<◌, ℕ, List, length, get_or, Err, OnOk, subst, ap, ◌∙◌, arith}
use Rattle.s2list.specs.Union.{has_leaf, IsNormalForm}
use Rattle.s2list.specs.Sets.{difference_of}
use Rattle.s2edit.specs.Leads.{list_at}
use Rattle.s2edit.specs.Named.{Becomes}
use Rattle.s2edit.specs.Working.Named.{Gives}
use Rattle.s2edit.specs.declared.editor.EditFault.TheVariants.{TooMany}
use Rattle.s2edit.proofs.Making.{of_list, made_becomes, made_too_long, assigned_becomes}
use Rattle.s2edit.proofs.Splicing.{single}
use Rattle.s2edit.proofs.editor.Editor.remove.Goals.{In-Some}
use Rattle.s2edit.proofs.editor.Editor.remove.Goals as goal

-- what the change gives
given : (c : In-Some) → Gives (difference_of (has_leaf (list_at c.args.self.now.now c.args.register))
    (has_leaf c.args.named.now.cells)) c.args.register c.register-union.result.now.cells c.in-Some.change
given c = of_list (λ (k : List ℕ). Gives (difference_of (has_leaf k) (has_leaf c.args.named.now.cells)) c.args.register
    c.register-union.result.now.cells c.in-Some.change) c.args.self.now c.args.register
    c.register-union.result.now.cells c.register-union.ensures.list (rw c.in-Some.is at c.in_ok-change.ensures)

pub returns-in-Some-clause-ok : goal.returns-in-Some-clause-ok
returns-in-Some-clause-ok c =
    made_becomes _ c.args.register c.args.self.now _ c.in-Some.change c.register-union.result.now.cells
    c.register-union.ensures.list c.cells-2.ensures.local (given (goal.at.returns-in-Some-clause-ok c).In-Some)
    c.make.result c.make.ensures.ok c.make.ensures.within

pub returns-in-Some-clause-too_many : goal.returns-in-Some-clause-too_many
returns-in-Some-clause-too_many c =
    made_too_long _ c.args.register c.args.self.now c.make.new.self c.in-Some.change
    c.register-union.result.now.cells c.register-union.ensures.list c.cells-2.ensures.local
    (given (goal.at.returns-in-Some-clause-too_many c).In-Some) c.make.result c.make.ensures.too_many

pub returns-in-Ok-clause-ok : goal.returns-in-Ok-clause-ok
returns-in-Ok-clause-ok c =
    assigned_becomes _ c.args.register c.args.self.now _ c.in-Ok.rest.cells c.assign.result
    (of_list (λ (k : List ℕ). IsNormalForm (difference_of (has_leaf k) (has_leaf c.args.named.now.cells))
    c.in-Ok.rest.cells) c.args.self.now c.args.register c.register-union.result.now.cells c.register-union.ensures.list
    c.in-Ok.ensures.normal) c.assign.ensures.ok c.assign.ensures.ok_sets c.assign.ensures.too_many

-- one cell
pub returns-then-len-eq1-clause-ok : goal.returns-then-len-eq1-clause-ok
returns-then-len-eq1-clause-ok c = subst (λ (l : List ℕ). OnOk c.remove_cell.result (Becomes
    (difference_of (has_leaf (list_at c.args.self.now.now c.args.register)) (has_leaf l)) c.args.register
    c.args.self.now c.remove_cell.new.self)) (single c.args.named.now.cells c.index-cells-0.result
    (omega (arith, c.len.ensures, c.if-len-eq1.true)) (c.index-cells-0.is
    ∙ ap (λ (l : List ℕ). get_or l 0 c.index-cells-0.result) c.cells.ensures.value)) c.remove_cell.ensures.ok

pub returns-then-len-eq1-clause-too_many : goal.returns-then-len-eq1-clause-too_many
returns-then-len-eq1-clause-too_many c = subst (λ (l : List ℕ). c.remove_cell.result ≡ Err TooMany → (v : List ℕ) →
    IsNormalForm (difference_of (has_leaf (list_at c.args.self.now.now c.args.register)) (has_leaf l)) v →
    c.args.self.now.limit < length v) (single c.args.named.now.cells c.index-cells-0.result
    (omega (arith, c.len.ensures, c.if-len-eq1.true)) (c.index-cells-0.is
    ∙ ap (λ (l : List ℕ). get_or l 0 c.index-cells-0.result) c.cells.ensures.value)) c.remove_cell.ensures.too_many

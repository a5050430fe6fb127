use Rattle.std.proofs.Common.{◌≡◌, ◌<◌, ℕ, List, length, get_or, Err, OnOk, subst, ap, ◌∙◌, arith}
use Rattle.s2list.specs.Union.{has_leaf, IsNormalForm}
use Rattle.s2list.specs.Sets.{union_of}
use Rattle.s2edit.specs.Leads.{list_at}
use Rattle.s2edit.specs.Named.{Becomes}
use Rattle.s2edit.specs.Working.Named.{Gives}
use Rattle.s2edit.specs.declared.editor.EditFault.TheVariants.{TooMany}
use Rattle.s2edit.proofs.Making.{of_list, made_becomes, made_too_long, assigned_becomes, as_long}
use Rattle.s2edit.proofs.Splicing.{single}
use Rattle.s2edit.proofs.editor.Editor.add.Goals.{In-Some, After-assign}
use Rattle.s2edit.proofs.editor.Editor.add.Goals as goal

-- what the change gives
given : (c : In-Some) → Gives (union_of (has_leaf (list_at c.args.self.now.now c.args.register))
    (has_leaf c.args.named.now.cells)) c.args.register c.register-union.result.now.cells c.in-Some.change
given c = of_list (λ (k : List ℕ). Gives (union_of (has_leaf k) (has_leaf c.args.named.now.cells)) c.args.register
    c.register-union.result.now.cells c.in-Some.change) c.args.self.now c.args.register
    c.register-union.result.now.cells c.register-union.ensures.list (rw c.in-Some.is at c.in_ok-change.ensures)

pub returns-in-Some-clause-ok : goal.returns-in-Some-clause-ok
returns-in-Some-clause-ok c =
    made_becomes _ c.args.register c.args.self.now _ c.in-Some.change c.register-union.result.now.cells
    c.register-union.ensures.list c.cells-2.ensures.local (given (goal.at.returns-in-Some-clause-ok c).In-Some)
    c.make.result c.make.ensures.ok c.make.ensures.within

pub returns-in-Some-clause-too_many : goal.returns-in-Some-clause-too_many
returns-in-Some-clause-too_many c =
    made_too_long _ c.args.register c.args.self.now c.make.new.self c.in-Some.change
    c.register-union.result.now.cells c.register-union.ensures.list c.cells-2.ensures.local
    (given (goal.at.returns-in-Some-clause-too_many c).In-Some) c.make.result c.make.ensures.too_many

normal : (c : After-assign) → IsNormalForm (union_of (has_leaf (list_at c.args.self.now.now c.args.register))
    (has_leaf c.args.named.now.cells)) c.in_ok-sum.sum.cells
normal c = of_list (λ (k : List ℕ). IsNormalForm (union_of (has_leaf k) (has_leaf c.args.named.now.cells))
    c.in_ok-sum.sum.cells) c.args.self.now c.args.register c.register-union.result.now.cells
    c.register-union.ensures.list c.in_ok-sum.ensures.normal

pub returns-clause-ok : goal.returns-clause-ok
returns-clause-ok c =
    assigned_becomes _ c.args.register c.args.self.now _ c.in_ok-sum.sum.cells c.assign.result
    (normal (goal.at.returns-clause-ok c).After-assign) c.assign.ensures.ok c.assign.ensures.ok_sets
    c.assign.ensures.too_many

pub returns-clause-too_many : goal.returns-clause-too_many
returns-clause-too_many c many v form =
    as_long _ c.args.self.now.limit c.in_ok-sum.sum.cells v
    (normal (goal.at.returns-clause-too_many c).After-assign) (c.assign.ensures.too_many.0 many) form

-- one cell
pub returns-then-len-eq1-clause-ok : goal.returns-then-len-eq1-clause-ok
returns-then-len-eq1-clause-ok c = subst (λ (l : List ℕ). OnOk c.add_cell.result (Becomes
    (union_of (has_leaf (list_at c.args.self.now.now c.args.register)) (has_leaf l)) c.args.register
    c.args.self.now c.add_cell.new.self)) (single c.args.named.now.cells c.index-cells-0.result
    (omega (arith, c.len.ensures, c.if-len-eq1.true)) (c.index-cells-0.is
    ∙ ap (λ (l : List ℕ). get_or l 0 c.index-cells-0.result) c.cells.ensures.value)) c.add_cell.ensures.ok

pub returns-then-len-eq1-clause-too_many : goal.returns-then-len-eq1-clause-too_many
returns-then-len-eq1-clause-too_many c = subst (λ (l : List ℕ). c.add_cell.result ≡ Err TooMany → (v : List ℕ) →
    IsNormalForm (union_of (has_leaf (list_at c.args.self.now.now c.args.register)) (has_leaf l)) v →
    c.args.self.now.limit < length v) (single c.args.named.now.cells c.index-cells-0.result
    (omega (arith, c.len.ensures, c.if-len-eq1.true)) (c.index-cells-0.is
    ∙ ap (λ (l : List ℕ). get_or l 0 c.index-cells-0.result) c.cells.ensures.value)) c.add_cell.ensures.too_many

use Rattle.std.proofs.Common.{◌≡◌, ◌+◌, ℕ, List, [], ◌∷◌, ◌++◌, take, ap, sym, ◌∙◌, subst, arith}
use Rattle.std.proofs.lemmas.List.{take_all, take_more}
use Rattle.s2list.specs.Union.{has_leaf}
use Rattle.s2edit.specs.History.{sets}
use Rattle.s2edit.specs.Edits.{EditRun, tally_with}
use Rattle.s2edit.specs.declared.edits.Edit.{Edit}
use Rattle.s2edit.specs.declared.edits.EditOutcome.{EditOutcome}
use Rattle.s2edit.specs.declared.edits.EditOutcome.TheVariants.{Done, Refused, NoMemory}
use Rattle.s2edit.specs.declared.edits.EditTally.{EditTally}
use Rattle.s2edit.proofs.Runs.{EditRun-push, tally_of-push}
use Rattle.s2edit.proofs.Replay.{runs_to}
use Rattle.s2edit.proofs.edits.run_edits.Goals as goal
use Rattle.s2edit.proofs.edits.run_edits.Goals.{in-Done, in-Refused, in-NoMemory}

sum_with : (o : EditOutcome) (t : EditTally) (n : ℕ) → t.done + t.refused + t.memory ≡ n →
    (tally_with o t).done + (tally_with o t).refused + (tally_with o t).memory ≡ n + 1
sum_with Done t n e = omega arith
sum_with Refused t n e = omega arith
sum_with NoMemory t n e = omega arith

pub loop-edit-preserved : goal.loop-edit-preserved
loop-edit-preserved c =
    let i = c.loop-edit.invariant in
    let w : c.match-carry_out.tally ≡ tally_with c.carry_out.result c.loop-edit.tally = elim c.match-carry_out.branch [
      | in-Done w ↦ w.tally-is ∙ ap (λ o. tally_with o c.loop-edit.tally) (sym w.in-Done.is)
      | in-Refused w ↦ w.tally-is ∙ ap (λ o. tally_with o c.loop-edit.tally) (sym w.in-Refused.is)
      | in-NoMemory w ↦ w.tally-is ∙ ap (λ o. tally_with o c.loop-edit.tally) (sym w.in-NoMemory.is)
    ] in
    let more : take (c.loop-edit.edit-index + 1) c.args.edits.now ≡ take c.loop-edit.edit-index c.args.edits.now
    ++ c.edit-item.result ∷ [] =
    take_more c.args.edits.now c.loop-edit.edit-index c.edit-item.result (omega arith)
    ∙ ap (λ (e : Edit). take c.loop-edit.edit-index c.args.edits.now ++ e ∷ []) (sym c.edit-item.is) in (
      i.0 ++ c.carry_out.result ∷ [],
      subst (λ (es : List Edit). EditRun (λ u. u) c.args.editor.now es (i.0 ++ c.carry_out.result ∷ [])
          c.carry_out.new.editor) (sym more)
          (EditRun-push (λ u. u) _ _ _ _ i.0 c.edit-item.result c.carry_out.result i.1 c.carry_out.ensures.lists),
      subst (λ (es : List Edit). EditRun has_leaf (sets c.args.editor.now) es (i.0 ++ c.carry_out.result ∷ [])
          (sets c.carry_out.new.editor)) (sym more)
          (EditRun-push has_leaf _ _ _ _ i.0 c.edit-item.result c.carry_out.result i.2 c.carry_out.ensures.leaf_sets),
      w ∙ ap (tally_with c.carry_out.result) i.3 ∙ sym (tally_of-push i.0 c.carry_out.result),
      ap (λ (t : EditTally). t.done + t.refused + t.memory) w
          ∙ sum_with c.carry_out.result c.loop-edit.tally c.loop-edit.edit-index i.4,
    )

pub returns : goal.returns
returns c =
    let i = c.loop-edit.invariant in
    let all : take c.loop-edit.edit-index c.args.edits.now ≡ c.args.edits.now =
    take_all c.loop-edit.edit-index c.args.edits.now (omega arith) in
    record {
      outcomes = i.0;
      counted = i.3;
      by_lists = runs_to (λ u. u) c.args.editor.now c.loop-edit.editor c.args.edits.now i.0
          (subst (λ (es : List Edit). EditRun (λ u. u) c.args.editor.now es i.0 c.loop-edit.editor) all i.1);
      by_sets = runs_to has_leaf (sets c.args.editor.now) (sets c.loop-edit.editor) c.args.edits.now i.0
          (subst (λ (es : List Edit). EditRun has_leaf (sets c.args.editor.now) es i.0 (sets c.loop-edit.editor))
          all i.2);
    }

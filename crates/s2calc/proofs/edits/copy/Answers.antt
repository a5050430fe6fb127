use Rattle.std.proofs.Common.{◌≡◌, ℕ, List, [], length, inl, ap, sym, subst, arith}
use Rattle.std.proofs.lemmas.Option.{get_or_from_slice_get}
use Rattle.s2list.specs.Union.{has_leaf, IsNormalForm}
use Rattle.s2edit.specs.Leads.{list_at}
use Rattle.s2calc.specs.Replies.{Says}
use Rattle.s2calc.specs.Texts.{ok_line}
use Rattle.s2calc.specs.Edits.{Gets}
use Rattle.s2calc.specs.Working.Answer.{reply_of}
use Rattle.s2calc.proofs.edits.copy.Goals as goal

pub returns-in-Ok : goal.returns-in-Ok
returns-in-Ok c =
    let old = c.args.editor.now in
    let new = c.copy.new.self in
    let u : List ℕ = c.register.result.now.cells in
    let v : List ℕ = list_at old.now c.args.other in
    let is : v ≡ u = get_or_from_slice_get old.now c.args.other u [] c.register.ensures.list in
    subst (λ a. Gets (has_leaf v) c.args.register old (reply_of a new) new) (sym c.answer_of.ensures)
    (inl (
      record {
        list = v;
        normal = subst (λ (x : List ℕ). IsNormalForm (has_leaf x) x) (sym is) c.cells.ensures.normal;
        within = omega (arith, ap length is, c.register.ensures.within);
        state = c.in-Ok.ensures.ok;
        state_sets = c.in-Ok.ensures.ok_sets;
      },
      ap (λ (p : ℕ × ℕ). Says (ok_line p.0 p.1)) c.in-Ok.ensures.numbers,
    ))

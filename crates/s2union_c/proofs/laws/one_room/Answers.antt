use Rattle.std.proofs.Common.{◌≡◌, ◌∙◌, inl, inr, sym, ap, arith, ◌++◌, length, drop}
use Rattle.std.proofs.lemmas.List.{length-append, length-drop}
use Rattle.s2list.specs.Union.{IsNormalForm}
use Rattle.s2union_c.proofs.Placed.{placed}
use Rattle.s2union_c.proofs.laws.one_room.Goals as goal

pub returns-clause-made : goal.returns-clause-made
returns-clause-made c S status old new len p fits short =
    placed (IsNormalForm S) old new len (length old) status p (sym p.same_length) fits short

pub returns-clause-put : goal.returns-clause-put
returns-clause-put c S status old new len (list, is, done) = elim done [
  | inl written ↦
      let w = written.1 in
      let within = w.fits in
      let many = w.len_is in
      let both = length-append list (drop len old) in
      let left = length-drop len old in
      let size : length new ≡ length (list ++ drop len old) = ap length w.front in
      record {
        list = list;
        is = is;
        len_is = many;
        same_length = omega arith;
        front = λ _. w.front ∙ ap (λ k. list ++ drop k old) many;
      }
  | inr exceeds ↦
      let e = exceeds.1 in
      let short = e.short in
      record {
        list = list;
        is = is;
        len_is = e.len_is;
        same_length = e.same_length;
        front = λ fits. absurd (omega arith);
      }
]

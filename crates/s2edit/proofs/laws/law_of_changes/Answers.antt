use Rattle.s2union.proofs.CellLists.{has-applied}
use Rattle.s2union.proofs.Applied.{Fits-inverse, applied-inverse, Fits-between, applied-between}
use Rattle.s2edit.proofs.DiffLemmas.{IsDiff-between, only_change}
use Rattle.s2edit.proofs.laws.law_of_changes.Goals as goal

pub returns : goal.returns
returns c = record {
  members = λ d. has-applied d.out d.put;
  inverse_fits = λ d. Fits-inverse d.out d.put;
  inverse_gives_back = λ d. applied-inverse d.out d.put;
  between_is_change = λ r. IsDiff-between;
  between_fits = λ r. Fits-between;
  between_gives = λ r. applied-between;
  only_change = only_change;
}

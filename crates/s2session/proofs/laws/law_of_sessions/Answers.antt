use Rattle.s2session.proofs.Spelling.{one_history, one_history_of_sets, text_is_stored, comes_back, not_refused}
use Rattle.s2session.proofs.laws.law_of_sessions.Goals as goal

pub returns : goal.returns
returns c = record {
  one_history = one_history;
  one_history_of_sets = one_history_of_sets;
  text_is_stored = text_is_stored;
  comes_back = comes_back;
  not_refused = not_refused;
}

use Rattle.s2cell.proofs.Tokens.{token_unique, IsToken-token_of}
use Rattle.s2cell.proofs.Debugs.{debug_unique, debug_one_cell, IsDebug-debug_of}
use Rattle.s2cell.proofs.laws.law_of_texts.Goals as goal

pub returns-clause-token : goal.returns-clause-token
returns-clause-token c = λ n text i. (token_unique i, λ e. rw e (IsToken-token_of i))

pub returns-clause-debug : goal.returns-clause-debug
returns-clause-debug c = λ n text i. (debug_unique, λ e. rw e (IsDebug-debug_of i))

pub returns-clause-cell_of_debug : goal.returns-clause-cell_of_debug
returns-clause-cell_of_debug c = debug_one_cell

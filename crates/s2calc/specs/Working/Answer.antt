-- What the code keeps of a reply until it is written.
use Rattle.std.specs.Prelude.{ℕ, List, Bool, true, false}
use Rattle.s2list.specs.Denorm.{denormalised}
use Rattle.s2edit.specs.History.{History}
use Rattle.s2edit.specs.Leads.{list_at}
use Rattle.s2calc.specs.declared.answer.Answer.{Answer}
use Rattle.s2calc.specs.declared.answer.Answer.TheVariants.{Nothing, Cell, Square, Moved, Count, YesOrNo, Listing, Cut}
use Rattle.s2calc.specs.declared.answer.Answer.TheVariants.{Sides, Done, Refused}
use Rattle.s2calc.specs.Replies.{Reply, Silent, Says, Refuses}
use Rattle.s2calc.specs.Texts.{cell_line, square_line, ok_line, count_line, history_line, yes_line, no_line, done_line}
use Rattle.s2calc.specs.Texts.{listing}

-- the answer to a question of yes or no
abbrev pub told : Bool → List ℕ
told true = yes_line
told false = no_line

-- the reply that an answer stands for, in this state
abbrev pub reply_of : Answer → History (List ℕ) → Reply
reply_of Nothing state = Silent
reply_of (Cell n) state = Says (cell_line n)
reply_of (Square square) state = Says (square_line square.face square.i square.j square.size)
reply_of (Moved out put) state = Says (ok_line out put)
reply_of (Count cells leaves) state = Says (count_line cells leaves)
reply_of (YesOrNo holds) state = Says (told holds)
reply_of (Listing r) state = Says (listing (list_at state.now r))
reply_of (Cut r least modulus) state = Says (listing (denormalised least modulus (list_at state.now r)))
reply_of (Sides undos redos) state = Says (history_line undos redos)
reply_of Done state = Says done_line
reply_of (Refused refusal) state = Refuses refusal

-- whether the answer is one line of numbers or names
abbrev pub is_line : Answer → Bool
is_line Nothing = false
is_line (Cell n) = true
is_line (Square square) = true
is_line (Moved out put) = true
is_line (Count cells leaves) = true
is_line (YesOrNo holds) = false
is_line (Listing r) = false
is_line (Cut r least modulus) = false
is_line (Sides undos redos) = true
is_line Done = false
is_line (Refused refusal) = true

-- The names of refusals.
use Rattle.std.specs.Prelude.{ℕ, List, codes}
use Rattle.s2script.specs.declared.refusal.Refusal.{Refusal}
use Rattle.s2script.specs.declared.refusal.Refusal.TheVariants.{Syntax, Cell, Register, Level, Face, Rectangle, Order}
use Rattle.s2script.specs.declared.refusal.Refusal.TheVariants.{Name, Line}

-- the name that is printed
abbrev pub name_of_word_refusal : Refusal → List ℕ
name_of_word_refusal Syntax = codes "syntax"
name_of_word_refusal Cell = codes "cell"
name_of_word_refusal Register = codes "register"
name_of_word_refusal Level = codes "level"
name_of_word_refusal Face = codes "face"
name_of_word_refusal Rectangle = codes "rectangle"
name_of_word_refusal Order = codes "order"
name_of_word_refusal Name = codes "name"
name_of_word_refusal Line = codes "line"

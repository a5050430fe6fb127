-- The refusal of a line, by where it does not fit the grammar.
use Rattle.s2script.specs.declared.refusal.Refusal.{Refusal}
use Rattle.s2script.specs.declared.refusal.Refusal.TheVariants.{Syntax, Cell as NoCell, Register as NoRegister}
use Rattle.s2script.specs.declared.refusal.Refusal.TheVariants.{Level as NoLevel, Face as NoFace}
use Rattle.s2script.specs.declared.refusal.Refusal.TheVariants.{Rectangle as NoRectangle, Order as NoOrder}
use Rattle.s2script.specs.declared.refusal.Refusal.TheVariants.{Name as NoName, Line as NoLine}
use Rattle.s2script.specs.declared.misfit.Wanted.{Wanted}
use Rattle.s2script.specs.declared.misfit.Wanted.TheVariants.{CommandName, EndOfLine, Register, Cell, RangeEnd, Level}
use Rattle.s2script.specs.declared.misfit.Wanted.TheVariants.{Modulus, Face, Coordinate, FileName}
use Rattle.s2script.specs.declared.misfit.Misfit.{Misfit}
use Rattle.s2script.specs.declared.misfit.Misfit.TheVariants.{LongLine, Missing, Unfit}

-- the refusal of a word that is not what is wanted in its place
abbrev pub refusal_for : Wanted → Refusal
refusal_for CommandName = Syntax
refusal_for EndOfLine = Syntax
refusal_for Register = NoRegister
refusal_for Cell = NoCell
refusal_for RangeEnd = NoOrder
refusal_for Level = NoLevel
refusal_for Modulus = NoLevel
refusal_for Face = NoFace
refusal_for (Coordinate least) = NoRectangle
refusal_for FileName = NoName

-- the refusal of a line, by where it does not fit: a missing word is `Syntax`, whatever is wanted
abbrev pub refusal_of : Misfit → Refusal
refusal_of LongLine = NoLine
refusal_of (Missing wanted) = Syntax
refusal_of (Unfit word wanted) = refusal_for wanted

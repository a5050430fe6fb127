-- What a refusal is called.
use Rattle.std.specs.Prelude.{ℕ, List, codes}
use Rattle.s2script.specs.Refusals.{name_of_word_refusal as name_of_words}
use Rattle.s2calc.specs.declared.refusal.Refusal.{Refusal}
use Rattle.s2calc.specs.declared.refusal.Refusal.TheVariants.{Words, Missing, File, Format, Session, TooDeep, TooMany}
use Rattle.s2calc.specs.declared.refusal.Refusal.TheVariants.{Nothing, Memory}

-- the name that is printed
abbrev pub name_of : Refusal → List ℕ
name_of (Words refusal) = name_of_words refusal
name_of Missing = codes "missing"
name_of File = codes "file"
name_of Format = codes "format"
name_of Session = codes "session"
name_of TooDeep = codes "too-deep"
name_of TooMany = codes "too-many"
name_of Nothing = codes "nothing"
name_of Memory = codes "memory"

-- What a contract sees of the calls that a reader and a writer list.
use Rattle.std.specs.Prelude.{List, Option, map, option_map, Vec}
use Rattle.std.specs.declared.alloc.Global.{Global}
use Rattle.s2calc.specs.Calls.{Call, Wrote, Flushed, Failed, NoneFailed, LastFlushed, LastFailed}
use Rattle.test_script.specs.declared.known.Made.{Made}
use Rattle.test_script.specs.declared.known.Made.TheVariants.{Write, Flush, Failure}

-- a list, if it is known
abbrev pub entries : {A : Type 0} → Option (Vec A Global) → Option (List A)
entries {A} list = option_map (λ (v : Vec A Global). v.items) list

-- a call, as a contract has it
abbrev pub call_of : Made → Call
call_of Write = Wrote
call_of Flush = Flushed
call_of Failure = Failed

-- the calls of a writer that lists them, if the list is known
abbrev pub calls_of : Option (Vec Made Global) → Option (List Call)
calls_of list = option_map (map call_of) (entries list)

-- what a writer's calls were before and after one more
abbrev pub HasMade : Made → Option (List Call) → Option (List Call) → Type 0
HasMade Write old new = NoneFailed ⊥ old new
HasMade Flush old new = LastFlushed ⊥ old new
HasMade Failure old new = LastFailed ⊥ old new

-- What only private contracts need, beside Sessions.antt, which has what public contracts need.
use Rattle.std.specs.Prelude.{◌≡◌, Result, Ok, Err}
use Rattle.s2edit.specs.declared.content.Session.{Session}
use Rattle.s2session.specs.declared.fault.ReadFault.{ReadFault}
use Rattle.s2session.specs.declared.fault.ReadFault.TheVariants.{Form, Device, Memory}
use Rattle.s2calc.specs.declared.refusal.Refusal.{Refusal}
use Rattle.s2calc.specs.declared.refusal.Refusal.TheVariants.{Session as NoSession, Memory as NoMemory}

-- the session that was read, or why there is none, if no read of its file failed except by running out of memory
abbrev pub ReadAs : Result Session ReadFault → Result Session Refusal → Type 0
ReadAs (Ok session) result = result ≡ Ok session
ReadAs (Err Form) result = result ≡ Err NoSession
ReadAs (Err Device) result = result ≡ Err NoMemory
ReadAs (Err Memory) result = result ≡ Err NoMemory

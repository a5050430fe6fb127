-- How proofs store calls and moments.
use Rattle.std.specs.Prelude.{◌≡◌, ℕ, Bool, List, ◌⊎◌, refl}
use Rattle.std.specs.Coded.{Coded, code_by, coded_ℕ, coded_bool, coded_list, coded⊎, coded×}
use base.Stored.{coded_unit}
use mathlib.Core.Logic.{inl, inr}
use Rattle.s2calc.specs.Moments as moments
use Rattle.s2calc.specs.Moments.{Event, Came, LineBegins, LineEnds, Moment}
use Rattle.s2shelf.specs.declared.shelf.ShelfFault.{ShelfFault}
use Rattle.s2shelf.specs.declared.shelf.ShelfFault.TheVariants.{Device, Memory}
use Rattle.s2process.specs.ShelfCalls.{ShelfCall, HandedOver, Missing, OpenedFile, Stored, Failed, ClosedFile}
use Rattle.s2process.specs.ShelfCalls.{CloseFailed}
use Rattle.s2process.specs.StreamCalls.{StreamCall, Gave, ReadFailed, Took, WriteFailed, Flushed, FlushFailed, OfShelf}

abbrev fault_parts : ShelfFault → Unit {0} ⊎ Unit {0}
fault_parts Device = inl tt
fault_parts Memory = inr tt

abbrev fault_from : Unit {0} ⊎ Unit {0} → ShelfFault
fault_from (inl _) = Device
fault_from (inr _) = Memory

pub fault_from_parts : (f : ShelfFault) → fault_from (fault_parts f) ≡ f
fault_from_parts Device = refl
fault_from_parts Memory = refl

-- the code of a fault of a shelf
abbrev fault_coded : Coded ShelfFault
fault_coded = code_by (Unit {0} ⊎ Unit {0}) (coded⊎ coded_unit coded_unit) fault_parts fault_from fault_from_parts

abbrev ShelfCallParts : Type 0
ShelfCallParts = (List ℕ × (ℕ × List ℕ)) ⊎ (List ℕ ⊎ (List ℕ ⊎ ((List ℕ × List ℕ) ⊎ ((List ℕ × ShelfFault) ⊎ ((List ℕ ×
    (List ℕ × Bool)) ⊎ (List ℕ × (List ℕ × ShelfFault)))))))

abbrev shelf_call_parts : ShelfCall → ShelfCallParts
shelf_call_parts (HandedOver name most bytes) = inl (name, (most, bytes))
shelf_call_parts (Missing name) = inr (inl name)
shelf_call_parts (OpenedFile name) = inr (inr (inl name))
shelf_call_parts (Stored name bytes) = inr (inr (inr (inl (name, bytes))))
shelf_call_parts (Failed name fault) = inr (inr (inr (inr (inl (name, fault)))))
shelf_call_parts (ClosedFile name bytes ended) = inr (inr (inr (inr (inr (inl (name, (bytes, ended)))))))
shelf_call_parts (CloseFailed name bytes fault) = inr (inr (inr (inr (inr (inr (name, (bytes, fault)))))))

abbrev shelf_call_from : ShelfCallParts → ShelfCall
shelf_call_from (inl p) = HandedOver p.0 p.1.0 p.1.1
shelf_call_from (inr (inl name)) = Missing name
shelf_call_from (inr (inr (inl name))) = OpenedFile name
shelf_call_from (inr (inr (inr (inl p)))) = Stored p.0 p.1
shelf_call_from (inr (inr (inr (inr (inl p))))) = Failed p.0 p.1
shelf_call_from (inr (inr (inr (inr (inr (inl p)))))) = ClosedFile p.0 p.1.0 p.1.1
shelf_call_from (inr (inr (inr (inr (inr (inr p)))))) = CloseFailed p.0 p.1.0 p.1.1

-- the parts of a call of a shelf are those of no other
pub shelf_call_from_parts : (c : ShelfCall) → shelf_call_from (shelf_call_parts c) ≡ c
shelf_call_from_parts (HandedOver name most bytes) = refl
shelf_call_from_parts (Missing name) = refl
shelf_call_from_parts (OpenedFile name) = refl
shelf_call_from_parts (Stored name bytes) = refl
shelf_call_from_parts (Failed name fault) = refl
shelf_call_from_parts (ClosedFile name bytes ended) = refl
shelf_call_from_parts (CloseFailed name bytes fault) = refl

abbrev bytes_coded : Coded (List ℕ)
bytes_coded = coded_list coded_ℕ

-- the code of a call of a shelf
abbrev shelf_call_coded : Coded ShelfCall
shelf_call_coded =
    code_by ShelfCallParts (coded⊎ (coded× bytes_coded (coded× coded_ℕ bytes_coded)) (coded⊎ bytes_coded (coded⊎
    bytes_coded (coded⊎ (coded× bytes_coded bytes_coded) (coded⊎ (coded× bytes_coded fault_coded) (coded⊎ (coded×
    bytes_coded (coded× bytes_coded coded_bool)) (coded× bytes_coded (coded× bytes_coded fault_coded))))))))
    shelf_call_parts shelf_call_from shelf_call_from_parts

abbrev CallParts : Type 0
CallParts = (ℕ × List ℕ) ⊎ (Unit {0} ⊎ (List ℕ ⊎ (Unit {0} ⊎ (Unit {0} ⊎ (Unit {0} ⊎ ShelfCall)))))

abbrev call_parts : StreamCall → CallParts
call_parts (Gave others bytes) = inl (others, bytes)
call_parts ReadFailed = inr (inl tt)
call_parts (Took bytes) = inr (inr (inl bytes))
call_parts WriteFailed = inr (inr (inr (inl tt)))
call_parts Flushed = inr (inr (inr (inr (inl tt))))
call_parts FlushFailed = inr (inr (inr (inr (inr (inl tt)))))
call_parts (OfShelf call) = inr (inr (inr (inr (inr (inr call)))))

abbrev call_from : CallParts → StreamCall
call_from (inl p) = Gave p.0 p.1
call_from (inr (inl _)) = ReadFailed
call_from (inr (inr (inl bytes))) = Took bytes
call_from (inr (inr (inr (inl _)))) = WriteFailed
call_from (inr (inr (inr (inr (inl _))))) = Flushed
call_from (inr (inr (inr (inr (inr (inl _)))))) = FlushFailed
call_from (inr (inr (inr (inr (inr (inr call)))))) = OfShelf call

-- the parts of a call are those of no other
pub call_from_parts : (c : StreamCall) → call_from (call_parts c) ≡ c
call_from_parts (Gave others bytes) = refl
call_from_parts ReadFailed = refl
call_from_parts (Took bytes) = refl
call_from_parts WriteFailed = refl
call_from_parts Flushed = refl
call_from_parts FlushFailed = refl
call_from_parts (OfShelf call) = refl

-- the code of a call
abbrev pub stream_call_coded : Coded StreamCall
stream_call_coded =
    code_by CallParts (coded⊎ (coded× coded_ℕ bytes_coded) (coded⊎ coded_unit (coded⊎ bytes_coded (coded⊎ coded_unit
    (coded⊎ coded_unit (coded⊎ coded_unit shelf_call_coded)))))) call_parts call_from call_from_parts

abbrev EventParts : Type 0
EventParts = List ℕ ⊎ (Unit {0} ⊎ (Unit {0} ⊎ Unit {0}))

abbrev event_parts : Event → EventParts
event_parts (Came bytes) = inl bytes
event_parts moments.ReadFailed = inr (inl tt)
event_parts LineBegins = inr (inr (inl tt))
event_parts LineEnds = inr (inr (inr tt))

abbrev event_from : EventParts → Event
event_from (inl bytes) = Came bytes
event_from (inr (inl _)) = moments.ReadFailed
event_from (inr (inr (inl _))) = LineBegins
event_from (inr (inr (inr _))) = LineEnds

-- the parts of an event are those of no other
pub event_from_parts : (e : Event) → event_from (event_parts e) ≡ e
event_from_parts (Came bytes) = refl
event_from_parts moments.ReadFailed = refl
event_from_parts LineBegins = refl
event_from_parts LineEnds = refl

-- the code of an event
abbrev pub event_coded : Coded Event
event_coded =
    code_by EventParts (coded⊎ (coded_list coded_ℕ) (coded⊎ coded_unit (coded⊎ coded_unit coded_unit))) event_parts
    event_from event_from_parts

module _ {W S : Type 0} where
  -- the code of a moment, made from those of the writer and the shelf
  abbrev pub moment_coded : Coded W → Coded S → Coded (Moment W S)
  moment_coded w s = code_by (Event × (W × S)) (coded× event_coded (coded× w s)) (λ m. (m.event, (m.writer, m.shelf)))
      (λ p. record { event = p.0; writer = p.1.0; shelf = p.1.1 }) (λ _. refl)

-- What is seen of a run while it goes on: its reads and its lines in one list, and the writer and the shelf at each.
use Rattle.std.specs.Prelude.{◌≡◌, ℕ, ◌+◌, List, [], ◌∷◌, ◌++◌, length, take, flat_map, Option, Some, None}
use Rattle.std.specs.Prelude.{Result, Ok, Err}

-- a read and the bytes that it gave, which are none at the end; a read that failed; that a line is about to be carried
-- out; and that it is answered
pub data Event : Type 0 where
  Came : (bytes : List ℕ) → Event
  ReadFailed : Event
  LineBegins : Event
  LineEnds : Event

-- what a read was, by its answer and by what its buffer holds after it
abbrev pub read_event : {E : Type 0} → Result ℕ E → List ℕ → Event
read_event (Ok count) buffer = Came (take count buffer)
read_event (Err error) buffer = ReadFailed

-- the bytes that came
abbrev pub bytes_of : Event → List ℕ
bytes_of (Came bytes) = bytes
bytes_of ReadFailed = []
bytes_of LineBegins = []
bytes_of LineEnds = []

-- what a read gave: a number of bytes, or None if it failed
abbrev pub read_of : Event → List (Option ℕ)
read_of (Came bytes) = Some (length bytes) ∷ []
read_of ReadFailed = None ∷ []
read_of LineBegins = []
read_of LineEnds = []

-- how many lines begin
abbrev pub begins_of : Event → ℕ
begins_of (Came bytes) = 0
begins_of ReadFailed = 0
begins_of LineBegins = 1
begins_of LineEnds = 0

-- how many lines end
abbrev pub ends_of : Event → ℕ
ends_of (Came bytes) = 0
ends_of ReadFailed = 0
ends_of LineBegins = 0
ends_of LineEnds = 1

-- an event, and the writer and the shelf as they were then: before a read, and before and after a line
pub record Moment (W S : Type 0) : Type 0 where
  pub event : Event
  pub writer : W
  pub shelf : S

module _ {W S : Type 0} where
  -- the moment of an event, with the writer and the shelf as they were
  abbrev pub moment : Event → W → S → Moment W S
  moment event writer shelf = record { event = event; writer = writer; shelf = shelf }

  -- all bytes that the reads gave
  abbrev pub bytes_read : List (Moment W S) → List ℕ
  bytes_read moments = flat_map (λ (m : Moment W S). bytes_of m.event) moments

  -- what each of the reads gave
  abbrev pub reads_seen : List (Moment W S) → List (Option ℕ)
  reads_seen moments = flat_map (λ (m : Moment W S). read_of m.event) moments

  -- how many lines began
  abbrev pub begun_in : List (Moment W S) → ℕ
  begun_in [] = 0
  begun_in (m ∷ moments) = begins_of m.event + begun_in moments

  -- how many lines ended
  abbrev pub ended_in : List (Moment W S) → ℕ
  ended_in [] = 0
  ended_in (m ∷ moments) = ends_of m.event + ended_in moments

  -- if the list is known afterwards, it was known before, and it has gained some moments at its end, of this kind
  abbrev pub Adds : Option (List (Moment W S)) → Option (List (Moment W S)) → (List (Moment W S) → Type 0) → Type 0
  Adds old None AreThose = Unit {0}
  Adds old (Some after) AreThose = (before : List (Moment W S)) × (moments : List (Moment W S)) × (old ≡ Some before)
      × (after ≡ before ++ moments) × AreThose moments

  -- this one moment came to the list
  abbrev pub AddsOne : Option (List (Moment W S)) → Option (List (Moment W S)) → Event → W → S → Type 0
  AddsOne old new event writer shelf = Adds old new
      (λ (moments : List (Moment W S)). moments ≡ moment event writer shelf ∷ [])

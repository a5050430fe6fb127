-- A step for each item of a list, as a loop takes it.
use Rattle.std.proofs.Common.{◌≡◌, ℕ, ◌+◌, ◌<◌, ◌≤◌, List, [], ◌∷◌, length, get_or, drop, Result, Ok, Err, refl, sym}
use Rattle.std.proofs.Common.{ap, ◌∙◌, arith}
use Rattle.std.proofs.lemmas.List.{drop_more}
use Rattle.std.proofs.Math.ListN.{drop_of_length-le}
use Rattle.std.specs.declared.alloc.Global.{Global}
use Rattle.json.specs.Json.{Json, item}
use Rattle.json.specs.Value.{items_view, value_view}
use Rattle.json.specs.declared.value.Value.{Value}
use Rattle.s2shape.specs.GeoJson.{Step, each, unless_empty}
use Rattle.s2shape.specs.Reading.{◌>>=◌, Fails, Read}
use Rattle.s2shape.specs.declared.fault.Fault.{Fault}
use Rattle.s2shape.specs.declared.fault.ShapeError.{ShapeError}
use Rattle.s2shape.specs.declared.fault.ShapeError.TheVariants as errors

-- an item of a value of JSON
abbrev pub Item : Type 0
Item = Value Global

-- what is left of a list is its next item, and the others
here : (step : Step) (xs : List Item) (i : ℕ) (x : Item) (r : Read) → i < length xs → x ≡ get_or xs i x
    → each step (items_view (drop i xs)) r ≡ (step (value_view x) r >>= each step (items_view (drop (i + 1) xs)))
unfolding each
here step xs i x r lt is =
    let split : drop i xs ≡ x ∷ drop (i + 1) xs =
    drop_more xs i x lt ∙ ap (λ (y : Item). y ∷ drop (i + 1) xs) (sym is) in
    ap (λ (ys : List Item). each step (items_view ys) r) split

-- a step of the loop leaves the result of all of them
pub item_goes_on : (step : Step) (xs : List Item) (i : ℕ) (x : Item) (r s : Read) (all : Result Read Fault)
    → i < length xs → x ≡ get_or xs i x → step (value_view x) r ≡ Ok s
    → each step (items_view (drop i xs)) r ≡ all → each step (items_view (drop (i + 1) xs)) s ≡ all
item_goes_on step xs i x r s all lt is read so_far =
    let one : each step (items_view (drop i xs)) r ≡ each step (items_view (drop (i + 1) xs)) s =
    here step xs i x r lt is ∙ ap (λ (y : Result Read Fault). y >>= each step (items_view (drop (i + 1) xs))) read in
    sym one ∙ so_far

-- a step that fails ends all of them
pub item_ends : (step : Step) (e : ShapeError) (xs : List Item) (i : ℕ) (x : Item) (r : Read) (all : Result Read Fault)
    → i < length xs → x ≡ get_or xs i x → Fails e (step (value_view x) r)
    → each step (items_view (drop i xs)) r ≡ all → Fails e all
item_ends step errors.Memory xs i x r all lt is read so_far = tt
item_ends step (errors.Fault f) xs i x r all lt is read so_far =
    let one : each step (items_view (drop i xs)) r ≡ Err f =
    here step xs i x r lt is ∙ ap (λ (y : Result Read Fault). y >>= each step (items_view (drop (i + 1) xs))) read in
    sym so_far ∙ one

-- after the last step
pub items_done : (step : Step) (xs : List Item) (i : ℕ) (r : Read) (all : Result Read Fault) → length xs ≤ i
    → each step (items_view (drop i xs)) r ≡ all → all ≡ Ok r
unfolding each
items_done step xs i r all le so_far =
    let one : each step (items_view (drop i xs)) r ≡ Ok r =
    ap (λ (ys : List Item). each step (items_view ys) r) (drop_of_length-le xs le) in
    sym so_far ∙ one

-- a list with items
pub unless_empty_some : (step : Step) (j : Json) (xs : List Item) (r : Read) → 0 < length xs
    → unless_empty step j (items_view xs) r ≡ step j r
unless_empty_some step j [] r h = absurd (omega arith)
unless_empty_some step j (x ∷ xs) r h = refl

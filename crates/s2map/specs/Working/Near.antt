-- The edges that are left for a box on the way down from the whole map.
use Rattle.std.specs.Prelude.{◌≡◌, Bool, true, false, not, cond, ◌&&◌, List, [], ◌∷◌, All, filter, flat_map, map}
use Rattle.std.specs.Prelude.{◌≤ℤ◌, ℕ, length}
use Rattle.std.specs.Bool.{xor}
use Rattle.std.specs.List.{list_any, sum_by}
use Rattle.s2polygon.specs.Parity.{is_odd_by}
use Rattle.s2map.specs.Boxes.{IsBox, meets, south_west}
use Rattle.s2map.specs.Cells.{IsBoxOf}
use Rattle.s2map.specs.Map.{inside_part, on_turns, passes_north}
use Rattle.s2map.specs.Working.Even.{has_one, passes_over}
use Rattle.s2map.specs.Working.Sizes.{IsNearEdge}
use Rattle.s2map.specs.declared.boxed.BoxedCell.{BoxedCell}
use Rattle.s2map.specs.declared.near.Known.{Known}
use Rattle.s2map.specs.declared.near.Near.{Near}
use Rattle.s2map.specs.declared.place.MapBox.{MapBox}
use Rattle.s2map.specs.declared.place.MapEdge.{MapEdge}
use Rattle.s2map.specs.declared.place.Place.{Place}
use Rattle.s2map.specs.declared.shape.BoxPart.{BoxPart}
use Rattle.s2map.specs.declared.shape.BoxPart.TheVariants.{Out, In, Met}

-- the places of the second box are places of the first
pub record HoldsBox (q s : MapBox) : Type 0 where
  pub west : q.west ≤ℤ s.west
  pub east : s.east ≤ℤ q.east
  pub south : q.south ≤ℤ s.south
  pub north : s.north ≤ℤ q.north

-- of the edge and two places: it passes north of just one of them, or the step from one to the other passes south of
-- just one of its ends, and not both. So it doesn't meet a box that has the two
abbrev pub changes : Place → Place → MapEdge → Bool
changes p q e = xor (xor (passes_north p e) (passes_north q e)) (has_one (passes_over p q) e)

-- of a part and a box: whether the box's corner lies inside, and edges
pub record PartNear : Type 0 where
  pub odd : Bool
  pub edges : List MapEdge

-- what code carries of a part and a box
abbrev pub seen : Near → PartNear
seen n = record { odd = n.odd; edges = n.edges.items }

-- the edges of it are near enough to the map that differences fit
abbrev pub HasNearEdges : Near → Type 0
HasNearEdges n = All IsNearEdge n.edges.items

-- the part with these edges, and the box
abbrev pub near_box : MapBox → List MapEdge → PartNear
near_box q es = record { odd = inside_part (south_west q) es; edges = filter (meets q) (flat_map on_turns es) }

-- the same of a smaller box, by the edges that meet a larger one, whose corner is `p`
abbrev pub narrowed : Place → MapBox → PartNear → PartNear
narrowed p q n = record {
  odd = xor n.odd (is_odd_by (changes p (south_west q)) n.edges);
  edges = filter (meets q) n.edges;
}

-- the list has an element
abbrev pub has_some : {A : Type 0} → List A → Bool
has_some [] = false
has_some (x ∷ xs) = true

-- an edge is left
abbrev pub has_edges : PartNear → Bool
has_edges n = has_some n.edges

-- none is left, and the corner lies inside: so does the whole box
abbrev pub is_whole : PartNear → Bool
is_whole n = not (has_some n.edges) && n.odd

-- what is known of a box says whether one of the parts has it whole inside, and if none has, which have edges left
pub record IsSummary (parts : List PartNear) (known : Known) : Type 0 where
  pub inside : known.inside ≡ list_any is_whole parts
  pub left : known.inside ≡ false → map seen known.parts.items ≡ filter has_edges parts
  pub near : All HasNearEdges known.parts.items

-- it is right of this box
abbrev pub IsKnown : List (List MapEdge) → MapBox → Known → Type 0
IsKnown shape q known = IsSummary (map (near_box q) shape) known

-- how many edges it has left
abbrev pub edges_left : Known → ℕ
edges_left known = sum_by (λ n. length n.edges.items) known.parts.items

-- how the box lies by it
abbrev pub part_by : Known → BoxPart
part_by known = cond known.inside In (cond (has_some known.parts.items) Met Out)

-- the box is one of the cell
pub record IsBoxedCell (c : BoxedCell) : Type 0 where
  pub box : IsBox c.bounds
  pub of : IsBoxOf c.cell c.bounds

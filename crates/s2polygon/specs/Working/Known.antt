-- What is known of a cell of a polygon.
use Rattle.std.specs.Bool.{xor}
use Rattle.std.specs.Prelude.{◌≡◌, ℕ, suc, Bool, List, zero, ◌<◌, ◌≤◌, ◌^◌, true, false, All}
use Rattle.s2cover.specs.declared.region.Part.{Part}
use Rattle.s2cover.specs.declared.region.Part.TheVariants.{Out, In, Cross}
use Rattle.s2polygon.specs.Faces.{edges_on, top_of}
use Rattle.s2polygon.specs.Leaves.{Region}
use Rattle.s2polygon.specs.Descents.{IsKnown, near_face, top_in}
use Rattle.s2polygon.specs.Working.Sizes.{IsFramed}
use Rattle.s2polygon.specs.declared.descent.Known.{Known}
use Rattle.s2polygon.specs.declared.directions.Edge.{Edge}
use Rattle.s2polygon.specs.declared.faces.Tops.{Tops}
use Rattle.s2polygon.specs.declared.frames.FramedEdge.{FramedEdge}
use Rattle.s2polygon.specs.declared.lists.Lists.{Lists}

-- the answer for face `f`
abbrev pub answer_at : Tops → ℕ → Bool
answer_at t zero = t.zero
answer_at t (suc zero) = t.one
answer_at t (suc (suc zero)) = t.two
answer_at t (suc (suc (suc zero))) = t.three
answer_at t (suc (suc (suc (suc zero)))) = t.four
answer_at t (suc (suc (suc (suc (suc _))))) = t.five

-- the answers of a test of faces
abbrev pub answers_of : (ℕ → Bool) → Tops
answers_of test = record { zero = test 0; one = test 1; two = test 2; three = test 3; four = test 4; five = test 5 }

-- the parities of the middles of the faces
abbrev pub parities_of : List Edge → Tops
parities_of es = answers_of (top_of es)

-- each answer, exchanged for the other if the first argument says so
abbrev pub exchanged_by : Bool → Tops → Tops
exchanged_by odd t = record {
  zero = xor t.zero odd;
  one = xor t.one odd;
  two = xor t.two odd;
  three = xor t.three odd;
  four = xor t.four odd;
  five = xor t.five odd;
}

-- the list of face `f`
abbrev pub list_of : Lists → ℕ → List FramedEdge
list_of l zero = l.zero.items
list_of l (suc zero) = l.one.items
list_of l (suc (suc zero)) = l.two.items
list_of l (suc (suc (suc zero))) = l.three.items
list_of l (suc (suc (suc (suc zero)))) = l.four.items
list_of l (suc (suc (suc (suc (suc _))))) = l.five.items

-- they are the lists of the edges that meet each face
abbrev pub AreLists : List Edge → ℕ → Lists → Type 0
AreLists es margin lists = (f : ℕ) → f < 6 → list_of lists f ≡ near_face margin (edges_on f es)

-- each edge of the lists has the product of its ends as its normal
abbrev pub AreFramed : Lists → Type 0
AreFramed lists = (f : ℕ) → f < 6 → All IsFramed (list_of lists f)

-- what a polygon carries is right: which middles of faces lie inside, the lists of its faces, and a margin that is
-- small enough
pub record IsPolygon (r : Region) (tops : Tops) (lists : Lists) : Type 0 where
  pub answers : tops ≡ answers_of (top_in r)
  pub listed : AreLists r.edges r.margin lists
  pub small : r.margin ≤ 2 ^ 60

-- how a cell lies, by whether no edge is left for it, and whether its middle lies inside
abbrev pub part_by : Bool → Bool → Part
part_by false odd = Cross
part_by true true = In
part_by true false = Out

-- the same, at the square that the cell has
pub record IsKnownCell (r : Region) (c : ℕ) (known : Known) : Type 0 where
  pub face : ℕ
  pub i : ℕ
  pub j : ℕ
  pub size : ℕ
  pub is : IsKnown r c face i j size known

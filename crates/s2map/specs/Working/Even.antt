-- The edges of closed rings.
use Rattle.std.specs.Prelude.{◌≡◌, ◌&&◌, int_lt, Bool, false, List, All}
use Rattle.std.specs.Bool.{xor}
use Rattle.s2map.specs.Map.{IsMapEdge, is_west, place_turned, turns}
use Rattle.s2polygon.specs.Parity.{is_odd_by}
use Rattle.s2map.specs.declared.place.MapEdge.{MapEdge}
use Rattle.s2map.specs.declared.place.Place.{Place}

-- the edge has just one end that passes the test
abbrev pub has_one : (Place → Bool) → MapEdge → Bool
has_one test e = xor (test e.a) (test e.b)

-- the edges are those of closed rings: whatever is asked of places, an even number of edges has just one end that
-- passes, as each corner ends one edge and begins another
pub record IsPart (es : List MapEdge) : Type 0 where
  pub edges : All IsMapEdge es
  pub even : (test : Place → Bool) → is_odd_by (has_one test) es ≡ false

-- just one of two places is as far east as the place `c`, or farther, and `c` lies north of the first: the step east
-- from the first to the second, or west, passes south of `c`
abbrev pub passes_over : Place → Place → Place → Bool
passes_over p q c = xor (is_west p c) (is_west q c) && int_lt p.latitude c.latitude

-- it does so on an odd number of turns of `c`
abbrev pub passes_over_turns : Place → Place → Place → Bool
passes_over_turns p q c = is_odd_by (λ k. passes_over p q (place_turned k c)) turns

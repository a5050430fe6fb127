-- The gaps between the numbers of a list in order.
use Rattle.std.specs.Prelude.{◌≡◌, ℕ, ◌+◌, ◌-◌, ◌*◌, ◌^◌, ◌<◌, ◌≤◌, List, length, slice_index}
use Rattle.s2cell.specs.Cell.{IsCell, first_leaf, size_of}
use Rattle.s2list.specs.declared.gap.Gap.{Gap}

-- `g` is the gap after the first `g.at` numbers of `u`, with the number before it and the one after it
pub record IsGap (u : List ℕ) (g : Gap) : Type 0 where
  pub within : g.at ≤ length u
  pub below : 0 < g.at → g.below ≡ slice_index u (g.at - 1)
  pub ahead : g.at < length u → g.ahead ≡ slice_index u g.at
  pub no_ahead : length u ≤ g.at → g.ahead ≡ 2 ^ 64 - 1
  pub held : 0 < g.at → IsCell (slice_index u (g.at - 1)) →
      g.held ≡ 2 * (first_leaf (slice_index u (g.at - 1)) + size_of (slice_index u (g.at - 1)))
  pub no_held : g.at ≡ 0 → g.held ≡ 0
  pub next : g.at < length u → IsCell (slice_index u g.at) → g.next ≡ 2 * first_leaf (slice_index u g.at)
  pub no_next : length u ≤ g.at → g.next ≡ 2 ^ 64 - 1

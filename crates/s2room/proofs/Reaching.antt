-- The keys of the first cells of a union, while the list of all is put together; and what the keys of two unions tell.
use Rattle.std.proofs.Common.{◌≡◌, ℕ, zero, suc, ◌+◌, ◌-◌, ◌^◌, ◌<◌, ◌≤◌, refl, sym, ap, arith, inl, inr, List, []}
use Rattle.std.proofs.Common.{◌∷◌, ◌++◌}
use Rattle.std.proofs.Common.{length, get_or, All, Contains}
use Rattle.std.specs.List.Sorted.{IsStrictlyIncreasing}
use Rattle.std.proofs.Math.Logic.{⊎_elim}
use Rattle.std.proofs.lemmas.Bool.{cases_lt, cases_order}
use Rattle.std.proofs.lemmas.List.Elements.{All-contains, Contains-push, Contains-append_left, Contains-push_cases}
use Rattle.s2cell.specs.Cell.{IsCell, IsInside, size_of, first_leaf}
use Rattle.s2cell.proofs.CellLemmas.{cell_leaves}
use Rattle.s2cell.proofs.Leaves.{Within, before, after, within, around, meeting, covers_there, inside_from_within}
use Rattle.s2cell.proofs.Leaves.{within_from_inside, nested_from_shared}
use Rattle.s2list.specs.Union.{ShareSome, has_leaf}
use Rattle.s2list.specs.Packed.{IsPacked}
use Rattle.s2list.proofs.Checking.{member_at}
use Rattle.s2list.proofs.Normal.{leaf_from, leaf_to, no_member}
use Rattle.s2list.proofs.PackedLocal.{place}
use Rattle.s2list.specs.Room.{IsPut, PutsOne}
use Rattle.s2room.specs.Ancestors.{AreHolders, IsHolder, ShareHolder}
use Rattle.s2room.specs.Working.Ancestors.{Gains, IsBefore, IsAfter, LeadsTo, PutsThose}
use Rattle.s2room.proofs.Holders.{rises_more}

-- `c` holds one of the first `k` cells
pub record HoldsFirst (u : List ℕ) (k c : ℕ) : Type 0 where
  pub cell : IsCell c
  pub at : ℕ
  pub early : at < k
  pub around : Within (get_or u at 0) c

-- `list` has the cells that hold one of the first `k`, but those that come after the next
pub record Reached (u : List ℕ) (k from : ℕ) (list : List ℕ) : Type 0 where
  pub ascending : IsStrictlyIncreasing list
  pub sound : (c : ℕ) → Contains list c → HoldsFirst u k c
  pub began : (c : ℕ) → Contains list c → first_leaf c < from
  pub below : k < length u → (c : ℕ) → Contains list c → c < get_or u k 0
  pub complete : (c j : ℕ) → IsCell c → j < k → Within (get_or u j 0) c → (k < length u → c < get_or u k 0) →
      Contains list c
  pub none : k ≡ 0 → from ≡ 0
  pub end : 0 < k → from ≡ first_leaf (get_or u (k - 1) 0) + size_of (get_or u (k - 1) 0)

pub reached_start : (u : List ℕ) → Reached u 0 0 []
reached_start u = record {
  ascending = λ k h. absurd (omega arith);
  sound = λ c h. absurd (no_member c h);
  began = λ c h. absurd (no_member c h);
  below = λ _ c h. absurd (no_member c h);
  complete = λ c j cc h w l. absurd (omega arith);
  none = λ _. refl;
  end = λ h. absurd (omega arith);
}

-- what the next cell asks for
starts : (u : List ℕ) (k from : ℕ) (list : List ℕ) → IsPacked u → k < length u → Reached u k from list
    → from ≤ first_leaf (get_or u k 0)
starts u k from list p h r =
    ⊎_elim
    (λ (some : 0 < k).
    let e = r.end some in
    let c : first_leaf (get_or u (k - 1) 0) + size_of (get_or u (k - 1) 0) ≤ first_leaf (get_or u k 0) =
    p.chain (k - 1) k 0 (omega arith) h in
    omega arith)
    (λ (zero : k ≤ 0). let e = r.none (omega arith) in omega arith)
    (cases_lt 0 k)

ended : (u : List ℕ) (k j from : ℕ) (list : List ℕ) → IsPacked u → k < length u → j < k → Reached u k from list
    → first_leaf (get_or u j 0) + size_of (get_or u j 0) ≤ from
ended u k j from list p h l r =
    let e = r.end (omega arith) in
    ⊎_elim
    (λ (earlier : j < k - 1).
    let c : first_leaf (get_or u j 0) + size_of (get_or u j 0) ≤ first_leaf (get_or u (k - 1) 0) =
    p.chain j (k - 1) 0 earlier (omega arith) in
    omega arith)
    (λ (last : k - 1 ≤ j).
    let is : k - 1 ≡ j = omega arith in
    let one : first_leaf (get_or u (k - 1) 0) ≡ first_leaf (get_or u j 0) = ap (λ n. first_leaf (get_or u n 0)) is in
    let two : size_of (get_or u (k - 1) 0) ≡ size_of (get_or u j 0) = ap (λ n. size_of (get_or u n 0)) is in
    omega arith)
    (cases_lt j (k - 1))

all_below : (cell from : ℕ) (old new : List ℕ) → ((c : ℕ) → Contains old c → c < cell)
    → Gains (IsBefore cell from) old new → (c : ℕ) → Contains new c → c < cell
all_below cell from old new below g c h = ⊎_elim (λ (o : Contains old c). below c o)
    (λ (b : IsBefore cell from c). b.below) ((g.members c).0 h)

rises_to : (cell from : ℕ) (old new : List ℕ) → ((c : ℕ) → Contains old c → c < cell)
    → Gains (IsBefore cell from) old new → IsStrictlyIncreasing (new ++ cell ∷ [])
rises_to cell from old new below g = rises_more new cell g.ascending (all_below cell from old new below g)

most_to : (cell from : ℕ) (old new : List ℕ) → ((c : ℕ) → Contains old c → c < cell)
    → Gains (IsBefore cell from) old new → (c : ℕ) → Contains (new ++ cell ∷ []) c → c ≤ cell
most_to cell from old new below g c h =
    ⊎_elim
    (λ (o : Contains new c). let l = all_below cell from old new below g c o in omega arith)
    (λ (e : cell ≡ c). omega arith)
    (Contains-push_cases new cell c h)

-- a cell that begins before the leaves of `cell` and comes after it holds it
holds_later : (cell c : ℕ) → IsCell cell → IsCell c → first_leaf c < first_leaf cell → cell < c → Within cell c
holds_later cell c cu cc began above =
    let lu = cell_leaves cell cu in
    let lc = cell_leaves c cc in
    let mu = lu.middle in
    let su = lu.some in
    let mc = lc.middle in
    let sc = lc.some in
    elim (meeting cell c cu cc) [
      | before h ↦ absurd (omega arith)
      | after h ↦ absurd (omega arith)
      | within w ↦ w
      | around w ↦ let l = w.low in absurd (omega arith)
    ]

-- a cell that holds `cell`, and begins before the end of the one before it, holds that too
holds_earlier : (last cell c : ℕ) → IsCell last → IsCell c → IsCell cell →
    first_leaf last + size_of last ≤ first_leaf cell → Within cell c
    → first_leaf c < first_leaf last + size_of last → Within last c
holds_earlier last cell c cl cc cu apart w began =
    let lu = cell_leaves cell cu in
    let su = lu.some in
    let l = w.low in
    let h = w.high in
    elim (meeting last c cl cc) [
      | before m ↦ absurd (omega arith)
      | after m ↦ absurd (omega arith)
      | within v ↦ v
      | around v ↦ let vh = v.high in absurd (omega arith)
    ]

fits_below : (c : ℕ) → IsCell c → c < 2 ^ 64 - 1
fits_below c cc =
    let l = cell_leaves c cc in
    let m = l.middle in
    let s = l.some in
    let w = l.within in
    omega arith

own_within : (u : ℕ) → Within u u
own_within u = record { low = omega arith; high = omega arith }

-- ---- the next cell

-- what the three pushes of one cell leave
pub record Pushed (cell from next : ℕ) (old one two : List ℕ) : Type 0 where
  pub front : Gains (IsBefore cell from) old one
  pub back : Gains (IsAfter cell next) (one ++ cell ∷ []) two

data Origin (cell from next : ℕ) (old : List ℕ) (c : ℕ) : Type 0 where
  was : Contains old c → Origin cell from next old c
  leads : IsBefore cell from c → Origin cell from next old c
  own : cell ≡ c → Origin cell from next old c
  follows : IsAfter cell next c → Origin cell from next old c

origin : (cell from next : ℕ) (old one two : List ℕ) (c : ℕ) → Pushed cell from next old one two → Contains two c
    → Origin cell from next old c
origin cell from next old one two c p h =
    ⊎_elim
    (λ (m : Contains (one ++ cell ∷ []) c).
    ⊎_elim
    (λ (o : Contains one c). ⊎_elim (λ (x : Contains old c). was x) (λ (x : IsBefore cell from c). leads x)
    ((p.front.members c).0 o))
    (λ (e : cell ≡ c). own e)
    (Contains-push_cases one cell c m))
    (λ (x : IsAfter cell next c). follows x)
    ((p.back.members c).0 h)

from_one : (cell from next : ℕ) (old one two : List ℕ) (c : ℕ) → Pushed cell from next old one two →
    Contains one c → Contains two c
from_one cell from next old one two c p h = (p.back.members c).1 (inl (Contains-append_left one (cell ∷ []) c h))

reached_sound : (u : List ℕ) (k from next : ℕ) (old one two : List ℕ) → IsPacked u → k < length u → Reached u k from old
    → Pushed (get_or u k 0) from next old one two
    → (c : ℕ) → Contains two c → HoldsFirst u (k + 1) c
reached_sound u k from next old one two p h r pushed c has =
    let cell = get_or u k 0 in
    let cu : IsCell cell = p.cells k 0 h in
    elim (origin cell from next old one two c pushed has) [
      | was x ↦ let s = r.sound c x in record {
        cell = s.cell;
        at = s.at;
        early = (let e = s.early in omega arith);
        around = s.around;
      }
      | leads x ↦ record { cell = x.own; at = k; early = omega arith; around = within_from_inside cell c cu x.around }
      | own e ↦ record { cell = rw e at cu; at = k; early = omega arith; around = rw (sym e) (own_within cell) }
      | follows x ↦ record { cell = x.own; at = k; early = omega arith; around = within_from_inside cell c cu x.around }
    ]

reached_began : (u : List ℕ) (k from next : ℕ) (old one two : List ℕ) → IsPacked u → k < length u → Reached u k from old
    → Pushed (get_or u k 0) from next old one two
    → (c : ℕ) → Contains two c → first_leaf c < first_leaf (get_or u k 0) + size_of (get_or u k 0)
reached_began u k from next old one two p h r pushed c has =
    let cell = get_or u k 0 in
    let cu : IsCell cell = p.cells k 0 h in
    let some = (cell_leaves cell cu).some in
    let s = starts u k from old p h r in
    elim (origin cell from next old one two c pushed has) [
      | was x ↦ let b = r.began c x in omega arith
      | leads x ↦ let w = (within_from_inside cell c cu x.around).low in omega arith
      | own e ↦ let f : first_leaf cell ≡ first_leaf c = ap first_leaf e in omega arith
      | follows x ↦ let w = (within_from_inside cell c cu x.around).low in omega arith
    ]

reached_below : (u : List ℕ) (k from next : ℕ) (old one two : List ℕ) → IsPacked u → k + 1 < length u
    → next ≡ get_or u (k + 1) 0 → Reached u k from old
    → Pushed (get_or u k 0) from next old one two → (c : ℕ) → Contains two c → c < get_or u (k + 1) 0
reached_below u k from next old one two p h is r pushed c has =
    let cell = get_or u k 0 in
    let later = get_or u (k + 1) 0 in
    let cu : IsCell cell = p.cells k 0 (omega arith) in
    let cl : IsCell later = p.cells (k + 1) 0 h in
    let lu = cell_leaves cell cu in
    let ll = cell_leaves later cl in
    let mu = lu.middle in
    let su = lu.some in
    let ml = ll.middle in
    let apart : first_leaf cell + size_of cell ≤ first_leaf later = p.chain k (k + 1) 0 (omega arith) h in
    elim (origin cell from next old one two c pushed has) [
      | was x ↦ let b = r.below (omega arith) c x in omega arith
      | leads x ↦ let b = x.below in omega arith
      | own e ↦ omega arith
      | follows x ↦ let b = x.below in omega arith
    ]

complete_low : (u : List ℕ) (k from next : ℕ) (old one two : List ℕ) → IsPacked u → k < length u → Reached u k from old
    → Pushed (get_or u k 0) from next old one two
    → (c j : ℕ) → IsCell c → j < k + 1 → Within (get_or u j 0) c → c < get_or u k 0 → Contains two c
complete_low u k from next old one two p h r pushed c j cc hj w low =
    let cell = get_or u k 0 in
    let cu : IsCell cell = p.cells k 0 h in
    let kept : Contains old c → Contains two c = λ o.
    from_one cell from next old one two c pushed ((pushed.front.members c).1 (inl o)) in
    ⊎_elim
    (λ (early : j < k).
    ⊎_elim
    (λ (b : first_leaf c < from). kept (r.complete c j cc early w (λ _. low)))
    (λ (b : from ≤ first_leaf c).
    let e = ended u k j from old p h early r in
    let some = (cell_leaves (get_or u j 0) (p.cells j 0 (omega arith))).some in
    let l = w.low in
    absurd (omega arith))
    (cases_lt (first_leaf c) from))
    (λ (late : k ≤ j).
    let same : j ≡ k = omega arith in
    let v : Within cell c = rw same at w in
    ⊎_elim
    (λ (b : first_leaf c < from).
    ⊎_elim
    (λ (some : 0 < k).
    let e = r.end some in
    let apart : first_leaf (get_or u (k - 1) 0) + size_of (get_or u (k - 1) 0) ≤ first_leaf cell =
    p.chain (k - 1) k 0 (omega arith) h in
    let x : Within (get_or u (k - 1) 0) c =
    holds_earlier (get_or u (k - 1) 0) cell c (p.cells (k - 1) 0 (omega arith)) cc cu apart v (omega arith) in
    kept (r.complete c (k - 1) cc (omega arith) x (λ _. low)))
    (λ (zero : k ≤ 0). let e = r.none (omega arith) in absurd (omega arith))
    (cases_lt 0 k))
    (λ (b : from ≤ first_leaf c).
    from_one cell from next old one two c pushed
    ((pushed.front.members c).1
    (inr (record { own = cc; around = inside_from_within cell c v; below = low; start = b }))))
    (cases_lt (first_leaf c) from))
    (cases_lt j k)

complete_high : (u : List ℕ) (k from next : ℕ) (old one two : List ℕ) → IsPacked u → k < length u → Reached u k from old
    → Pushed (get_or u k 0) from next old one two
    → (c j : ℕ) → IsCell c → j < k + 1 → Within (get_or u j 0) c → get_or u k 0 < c → c < next → Contains two c
complete_high u k from next old one two p h r pushed c j cc hj w high below =
    let cell = get_or u k 0 in
    let cu : IsCell cell = p.cells k 0 h in
    let v : Within cell c =
    ⊎_elim
    (λ (early : j < k).
    let e = ended u k j from old p h early r in
    let s = starts u k from old p h r in
    let some = (cell_leaves (get_or u j 0) (p.cells j 0 (omega arith))).some in
    let l = w.low in
    holds_later cell c cu cc (omega arith) high)
    (λ (late : k ≤ j). let same : j ≡ k = omega arith in rw same at w)
    (cases_lt j k) in
    (pushed.back.members c).1
    (inr (record { own = cc; around = inside_from_within cell c v; above = high; below = below }))

reached_more : (u : List ℕ) (k from next : ℕ) (old one two : List ℕ) → IsPacked u → k < length u
    → (k + 1 < length u → next ≡ get_or u (k + 1) 0) → (length u ≤ k + 1 → next ≡ 2 ^ 64 - 1)
    → Reached u k from old → Pushed (get_or u k 0) from next old one two
    → Reached u (k + 1) (first_leaf (get_or u k 0) + size_of (get_or u k 0)) two
reached_more u k from next old one two p h is_next is_last r pushed =
    let cell = get_or u k 0 in
    record {
      ascending = pushed.back.ascending;
      sound = reached_sound u k from next old one two p h r pushed;
      began = reached_began u k from next old one two p h r pushed;
      below = λ more. reached_below u k from next old one two p more (is_next more) r pushed;
      complete = λ c j cc hj w limit.
          ⊎_elim
          (λ (e : c ≡ cell). (pushed.back.members c).1 (inl (rw e (Contains-push one cell))))
          (⊎_elim
          (λ (low : c < cell). complete_low u k from next old one two p h r pushed c j cc hj w low)
          (λ (high : cell < c).
          let below : c < next =
          ⊎_elim
          (λ (more : k + 1 < length u). let e = is_next more in let l = limit more in omega arith)
          (λ (last : length u ≤ k + 1). let e = is_last last in let l = fits_below c cc in omega arith)
          (cases_lt (k + 1) (length u)) in
          complete_high u k from next old one two p h r pushed c j cc hj w high below))
          (cases_order c cell);
      none = λ e. absurd (omega arith);
      end = λ _. let e : k ≡ (k + 1) - 1 = omega arith in
          ap (λ n. first_leaf (get_or u n 0) + size_of (get_or u n 0)) e;
    }

reached_done : (u : List ℕ) (k from : ℕ) (list : List ℕ) → IsPacked u → k ≡ length u → Reached u k from list →
    AreHolders u list
reached_done u k from list p h r = record {
  ascending = r.ascending;
  members = λ c. (
    λ has.
        let s = r.sound c has in
        let e = s.early in
        record {
          cell = s.cell;
          held = get_or u s.at 0;
          among = member_at u s.at (get_or u s.at 0) (omega arith) refl;
          inside = inside_from_within (get_or u s.at 0) c s.around;
        },
    λ holder.
        let at = place u holder.held holder.among in
        let b = at.below in
        let ch : IsCell holder.held = rw at.is at (p.cells at.at 0 b) in
        let w : Within (get_or u at.at 0) c = rw at.is (within_from_inside holder.held c ch holder.inside) in
        r.complete c at.at holder.cell (omega arith) w (λ l. absurd (omega arith)),
  );
}

-- ---- all of them

at_place : (xs : List ℕ) (k : ℕ) → IsStrictlyIncreasing xs → k < length xs → k ≤ get_or xs k 0
at_place xs zero rises h = omega arith
at_place xs (suc k) rises h =
    let before = at_place xs k rises (omega arith) in
    let e : k + 1 ≡ suc k = omega arith in
    let less : get_or xs k 0 < get_or xs (suc k) 0 = rw e at (rises k (omega arith)) in
    omega arith

few_holders : (u list : List ℕ) → AreHolders u list → length list < 2 ^ 64
few_holders u list a =
    ⊎_elim
    (λ (some : 0 < length list).
    let k = length list - 1 in
    let last = get_or list k 0 in
    let most = at_place list k a.ascending (omega arith) in
    let fits = fits_below last ((a.members last).0 (member_at list k last (omega arith) refl)).cell in
    omega arith)
    (λ (none : length list ≤ 0). omega arith)
    (cases_lt 0 (length list))

pub puts_holders : (u list room out : List ℕ) (k from n : ℕ) → IsPacked u → k ≡ length u → Reached u k from list →
    IsPut list room out n → PutsOne (AreHolders u) room out n
puts_holders u list room out k from n p h r put =
    let is = reached_done u k from list p h r in
    record {
      list = list;
      is = is;
      len_is = put.len_is (few_holders u list is);
      same_length = put.same_length;
      front = put.front;
    }

-- what the cells so far are for the ancestors of the next
leads_to_next : (u : List ℕ) (k from : ℕ) (list : List ℕ) → IsPacked u → k < length u → Reached u k from list →
    LeadsTo list (get_or u k 0) from
leads_to_next u k from list p h r = record {
  start = starts u k from list p h r;
  ascending = r.ascending;
  cells = λ c has. (r.sound c has).cell;
  began = r.began;
  below = r.below h;
}

-- the next cell, its ancestors before it, and those after it
pub reached_step : (u : List ℕ) (k from next : ℕ) (room out one two three : List ℕ) (n n1 n2 n3 : ℕ) → IsPacked u →
    k < length u → (k + 1 < length u → next ≡ get_or u (k + 1) 0) → (length u ≤ k + 1 → next ≡ 2 ^ 64 - 1)
    → ((list : List ℕ) → LeadsTo list (get_or u k 0) from → PutsThose (IsBefore (get_or u k 0) from) list out one n n1)
    → ((list r : List ℕ) → IsPut list r one n1 → IsPut (list ++ get_or u k 0 ∷ []) r two n2)
    → ((list : List ℕ) → IsStrictlyIncreasing list → ((c : ℕ) → Contains list c → c ≤ get_or u k 0)
    → PutsThose (IsAfter (get_or u k 0) next) list two three n2 n3)
    → (list : List ℕ) × Reached u k from list × IsPut list room out n
    → (list : List ℕ) × Reached u (k + 1) (first_leaf (get_or u k 0) + size_of (get_or u k 0)) list
    × IsPut list room three n3
reached_step u k from next room out one two three n n1 n2 n3 packed h is_next is_last leading itself trailing
    (list, reached, p) =
    let cell = get_or u k 0 in
    let led = leads_to_next u k from list packed h reached in
    let (first, front, p1) = leading list led room p in
    let (all, back, p2) = trailing (first ++ cell ∷ []) (rises_to cell from list first led.below front)
    (most_to cell from list first led.below front) room (itself first room p1) in
    let pushed : Pushed cell from next list first all = record { front = front; back = back } in
    (all, reached_more u k from next list first all packed h is_next is_last reached pushed, p2)

-- ---- the law

pub indexed : (xs ys x_holders y_holders : List ℕ) → All IsCell xs → All IsCell ys → AreHolders xs x_holders →
    AreHolders ys y_holders
    → ShareSome (has_leaf xs) (has_leaf ys) → ShareHolder xs ys x_holders y_holders
indexed xs ys x_holders y_holders cx cy ax ay (x, there, here) =
    let a = leaf_from xs x there in
    let b = leaf_from ys x here in
    let ca : IsCell a.cell = All-contains IsCell xs a.cell cx a.member in
    let cb : IsCell b.cell = All-contains IsCell ys b.cell cy b.member in
    ⊎_elim
    (λ (i : IsInside b.cell a.cell). inl
    (a.cell, a.member, (ay.members a.cell).1 (record { cell = ca; held = b.cell; among = b.member; inside = i })))
    (λ (i : IsInside a.cell b.cell). inr
    (b.cell, b.member, (ax.members b.cell).1 (record { cell = cb; held = a.cell; among = a.member; inside = i })))
    (nested_from_shared a.cell b.cell ca cb (x, covers_there a.cell x a.low a.high, covers_there b.cell x b.low b.high))

shares : (xs ys : List ℕ) (c : ℕ) → All IsCell ys → Contains xs c → IsHolder ys c →
    ShareSome (has_leaf xs) (has_leaf ys)
shares xs ys c cy member holder =
    let d = holder.held in
    let cd : IsCell d = All-contains IsCell ys d cy holder.among in
    let some = (cell_leaves d cd).some in
    let leaf = covers_there d (first_leaf d) (omega arith) (omega arith) in (
      first_leaf d,
      leaf_to xs c (first_leaf d) member (holder.inside (first_leaf d) leaf),
      leaf_to ys d (first_leaf d) holder.among leaf,
    )

pub found : (xs ys x_holders y_holders : List ℕ) → All IsCell xs → All IsCell ys → AreHolders xs x_holders →
    AreHolders ys y_holders
    → ShareHolder xs ys x_holders y_holders → ShareSome (has_leaf xs) (has_leaf ys)
found xs ys x_holders y_holders cx cy ax ay shared =
    ⊎_elim
    (λ (s : (c : ℕ) × Contains xs c × Contains y_holders c). shares xs ys s.0 cy s.1 ((ay.members s.0).0 s.2))
    (λ (s : (c : ℕ) × Contains ys c × Contains x_holders c).
    let r = shares ys xs s.0 cx s.1 ((ax.members s.0).0 s.2) in (r.0, r.2, r.1))
    shared

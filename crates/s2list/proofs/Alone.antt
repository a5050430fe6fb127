-- The leaves that exactly one of two lists of cells has, put together on a walk along both.
use Rattle.std.proofs.Common.{◌≡◌, ℕ, ◌+◌, ◌-◌, ◌<◌, ◌≤◌, ◌⊎◌, inl, inr, refl, sym, ◌∙◌, arith, Bool, true, false}
use Rattle.std.proofs.Common.{◌||◌, ◌&&◌, not, max, min, List, length}
use Rattle.std.proofs.Math.Bool.{or_comm}
use Rattle.std.proofs.Math.Logic.{⊎_elim}
use Rattle.std.proofs.lemmas.Bool.{cases_lt, true≢false}
use Rattle.s2cell.specs.declared.TheConstants.{LEAVES}
use Rattle.s2list.specs.Packed.{FirstEndBy}
use Rattle.s2list.specs.Sets.{symmetric_difference_of}
use Rattle.s2list.specs.Working.Piles.{Brings, IsPast}
use Rattle.s2list.proofs.Walking.{ended_later}

-- from the leaf `done` on, the next leaves of `A` are those from `first` to before `end`, at least
pub record Comes (A : ℕ → Bool) (done first end : ℕ) : Type 0 where
  pub order : done ≤ first
  pub free : (x : ℕ) → done ≤ x → x < first → A x ≡ false
  pub taken : (x : ℕ) → first ≤ x → x < end → A x ≡ true

pub no_second : (a b : Bool) → b ≡ false → ((a && not b) || (b && not a)) ≡ a
no_second a true e = absurd (true≢false e)
no_second true false e = refl
no_second false false e = refl

pub no_first : (a b : Bool) → a ≡ false → ((a && not b) || (b && not a)) ≡ b
no_first a b e = or_comm (a && not b) (b && not a) ∙ no_second b a e

pub neither : (a b : Bool) → a ≡ false → b ≡ false → ((a && not b) || (b && not a)) ≡ false
neither a b e f = no_second a b f ∙ e

both : (a b : Bool) → a ≡ true → b ≡ true → ((a && not b) || (b && not a)) ≡ false
both true true e f = refl
both true false e f = absurd (true≢false (sym f))
both false b e f = absurd (true≢false (sym e))

-- what one turn of the walk adds
pub turn_brings : {A B : ℕ → Bool} {done xf xe yf ye from end to next : ℕ} → Comes A done xf xe → Comes B done yf ye →
    from ≡ min xf yf → end ≡ min xe ye → to ≡ min (max xf yf) end → next ≡ max done end → (from < to → to ≤ LEAVES)
    → Brings (symmetric_difference_of A B) done from to next
turn_brings {A} {B} {done} {xf} {xe} {yf} {ye} {from} {end} {to} {next} a b ef ee et en within =
    let oa = a.order in
    let ob = b.order in
    record {
      order = omega arith;
      on = omega arith;
      reach = λ h. omega arith;
      most = within;
      before = λ x g l h. neither (A x) (B x) (a.free x g (omega arith)) (b.free x g (omega arith));
      taken = λ x h k. ⊎_elim
          (λ (f : xf < yf).
          no_second (A x) (B x) (b.free x (omega arith) (omega arith)) ∙ a.taken x (omega arith) (omega arith))
          (λ (f : yf ≤ xf).
          no_first (A x) (B x) (a.free x (omega arith) (omega arith)) ∙ b.taken x (omega arith) (omega arith))
          (cases_lt xf yf);
      after = λ x h k l. both (A x) (B x) (a.taken x (omega arith) (omega arith)) (b.taken x (omega arith)
          (omega arith));
    }

-- ---- the index of a list's next cell

pub past_within : (i len end done at : ℕ) → i ≤ len → IsPast i len end done at → at ≤ len
past_within i len end done at h (inl (b, e, is)) = omega arith
past_within i len end done at h (inr (is, e)) = omega arith

pub past_ended : (u : List ℕ) (i end done next at : ℕ) → FirstEndBy u i done → done ≤ next →
    (i < length u → (lo : ℕ) → done ≤ lo → end ≤ lo → FirstEndBy u (i + 1) lo) → IsPast i (length u) end next at →
    FirstEndBy u at next
past_ended u i end done next at ended le more (inl (b, e, is)) = rw is (more b next le e)
past_ended u i end done next at ended le more (inr (is, e)) = rw is (ended_later u i done next ended le)

-- each turn passes a cell
pub turn_smaller : (never nx ny i j xe ye done end next at to : ℕ) → (i < nx) ⊎ (j < ny) → i ≤ nx → j ≤ ny →
    end ≡ min xe ye → next ≡ max done end → (nx ≤ i → xe ≡ never) → (ny ≤ j → ye ≡ never) → xe ≤ never → ye ≤ never
    → IsPast i nx xe next at → IsPast j ny ye next to → (nx - at) + (ny - to) < (nx - i) + (ny - j)
turn_smaller never nx ny i j xe ye done end next at to some hi hj ee en ex ey mx my (inl (b, e, is)) (inl (g, h, it)) =
    omega arith
turn_smaller never nx ny i j xe ye done end next at to some hi hj ee en ex ey mx my (inl (b, e, is)) (inr (it, h)) =
    omega arith
turn_smaller never nx ny i j xe ye done end next at to some hi hj ee en ex ey mx my (inr (is, e)) (inl (g, h, it)) =
    omega arith
turn_smaller never nx ny i j xe ye done end next at to some hi hj ee en ex ey mx my (inr (is, e)) (inr (it, h)) =
    ⊎_elim
    (λ (g : i < nx).
    let x = e g in
    ⊎_elim (λ (k : j < ny). let y = h k in omega arith) (λ (k : ny ≤ j). let y = ey k in omega arith) (cases_lt j ny))
    (λ (g : nx ≤ i).
    let x = ex g in
    ⊎_elim (λ (k : j < ny). let y = h k in omega arith)
    (λ (k : ny ≤ j). ⊎_elim (λ (m : i < nx). omega arith) (λ (m : j < ny). omega arith) some) (cases_lt j ny))
    (cases_lt i nx)

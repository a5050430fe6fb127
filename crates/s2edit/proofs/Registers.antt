-- Changes can be made one after another in a table exactly when those of each register can be made in its list, and no
-- list gets too long.
use Rattle.std.proofs.Common.{◌≡◌, ℕ, zero, suc, ◌<◌, ◌≤◌, Bool, true, false, eqb, List, [], ◌∷◌}
use Rattle.std.proofs.Common.{length, map, get_or, slice_set, refl, sym, ap, ◌∙◌, subst, arith}
use Rattle.std.specs.List.{AllByRecursion}
use Rattle.std.proofs.lemmas.Grind.{common_steps}
use Rattle.std.proofs.lemmas.List.{get_or-set_other, length-set, map-set}
use Rattle.s2union.specs.Apply.{Fits}
use Rattle.s2edit.specs.declared.content.Move.{Move}
use Rattle.s2edit.specs.Diff.{Diff, inverse, apply, FitsList}
use Rattle.s2edit.specs.Content.{IsMove, diff_of}
use Rattle.s2edit.specs.declared.TheConstants.{SESSION_CELLS}
use Rattle.s2script.specs.declared.register.TheConstants.{REGISTERS}
use Rattle.s2edit.specs.Leads.{list_at}
use Rattle.s2edit.specs.Working.Chain.{list_after, table_after, FitsTable, FitAlong, AllWithin}
use Rattle.s2edit.specs.Working.InTurn.{FitInTurn, of_register}
use Rattle.s2edit.specs.Working.Following.{MakesChanges}
use Rattle.s2edit.specs.Working.Part.{resized, longest}
use Rattle.s2edit.proofs.Sizes.{length_applied}
use Rattle.s2edit.proofs.Following.{applied_differs}
use Rattle.s2edit.proofs.PartLemmas.{by_bool}
use Rattle.s2edit.proofs.Tables.{AllWithin-at, within_after, list_at-table_after}

-- ---- the changes of one register

of_same : (r : ℕ) (m : Diff) (ms : List Diff) → eqb m.register r ≡ true →
    of_register r (m ∷ ms) ≡ m ∷ of_register r ms
of_same r m ms e = rw e refl

of_other : (r : ℕ) (m : Diff) (ms : List Diff) → eqb m.register r ≡ false →
    of_register r (m ∷ ms) ≡ of_register r ms
of_other r m ms e = rw e refl

-- the list of a register after the first change
module _ (t : List (List ℕ)) (m : Diff) (r : ℕ) (in_range : m.register < length t) where
  after_same : eqb m.register r ≡ true → list_at (table_after t m) r ≡ apply m (list_at t r)
  after_same e =
      let same : m.register ≡ r = grind (arith, common_steps, e) in
      subst (λ (k : ℕ). list_at (table_after t m) k ≡ apply m (list_at t k)) same
      (list_at-table_after t m in_range)

  after_other : eqb m.register r ≡ false → list_at (table_after t m) r ≡ list_at t r
  after_other e = get_or-set_other t m.register r (list_after t m) []
      (λ same. absurd (grind (arith, common_steps, e, same)))

  module _ (ms : List Diff) where
    -- the changes of the register from the list before the first change, and from that after it
    turn_before : (m.register ≡ r → FitsList m (list_at t r))
        → FitInTurn (list_at (table_after t m) r) (of_register r ms)
        → FitInTurn (list_at t r) (of_register r (m ∷ ms))
    turn_before first f = by_bool (eqb m.register r)
        (λ e. subst (λ (ns : List Diff). FitInTurn (list_at t r) ns) (sym (of_same r m ms e)) (
          first (grind (arith, common_steps, e)),
          subst (λ (u : List ℕ). FitInTurn u (of_register r ms)) (after_same e) f,
        ))
        (λ e. subst (λ (ns : List Diff). FitInTurn (list_at t r) ns) (sym (of_other r m ms e))
        (subst (λ (u : List ℕ). FitInTurn u (of_register r ms)) (after_other e) f))

    turn_after : FitInTurn (list_at t r) (of_register r (m ∷ ms))
        → FitInTurn (list_at (table_after t m) r) (of_register r ms)
    turn_after f = by_bool (eqb m.register r)
        (λ e. subst (λ (u : List ℕ). FitInTurn u (of_register r ms)) (sym (after_same e))
        (subst (λ (ns : List Diff). FitInTurn (list_at t r) ns) (of_same r m ms e) f).1)
        (λ e. subst (λ (u : List ℕ). FitInTurn u (of_register r ms)) (sym (after_other e))
        (subst (λ (ns : List Diff). FitInTurn (list_at t r) ns) (of_other r m ms e) f))

-- the first change can be made in the list of its register
first_fits : (t : List (List ℕ)) (m : Diff) (ms : List Diff) →
    FitInTurn (list_at t m.register) (of_register m.register (m ∷ ms))
    → FitsList m (list_at t m.register)
first_fits t m ms f = (subst (λ (ns : List Diff). FitInTurn (list_at t m.register) ns)
    (of_same m.register m ms (grind (arith, common_steps))) f).0

-- changes that can be made in the table can be made in the list of each register
pub turn_of : (n : ℕ) (t : List (List ℕ)) (ms : List Diff) (r : ℕ) → FitAlong n t ms →
    FitInTurn (list_at t r) (of_register r ms)
turn_of n t [] r f = tt
turn_of n t (m ∷ ms) r f = turn_before t m r f.0.in_range ms
    (λ e. subst (λ (k : ℕ). FitsList m (list_at t k)) e f.0.fits)
    (turn_of n (table_after t m) ms r f.1)

-- ---- how long the lists get

-- how many cells a list then has
resized_is : (t : List (List ℕ)) (d : Diff) → AllWithin SESSION_CELLS t → d.register < length t →
    Fits d.out d.put (list_at t d.register) → length d.put ≤ SESSION_CELLS →
    resized (map length t) d ≡ length (list_after t d)
resized_is t d a l f few =
    let w = AllWithin-at SESSION_CELLS t d.register a l in
    let had : get_or (map length t) d.register 0 ≡ length (list_at t d.register) = get_length t d.register l in
    let now = length_applied d.out d.put (list_at t d.register) w.local f in
    let few_now = w.few in
    omega (arith, had, now, few_now, few)
  where
    get_length : (u : List (List ℕ)) (k : ℕ) → k < length u → get_or (map length u) k 0 ≡ length (list_at u k)
    get_length [] k l = absurd (omega arith)
    get_length (x ∷ u) zero l = refl
    get_length (x ∷ u) (suc k) l = get_length u k (omega arith)

lengths_after : (t : List (List ℕ)) (d : Diff) → resized (map length t) d ≡ length (list_after t d) →
    slice_set (map length t) d.register (resized (map length t) d) ≡ map length (table_after t d)
lengths_after t d e = ap (slice_set (map length t) d.register) e ∙ sym (map-set length t d.register (list_after t d))

-- how long the lists get, where the changes can be made
longest_few : (n : ℕ) (t : List (List ℕ)) (ms : List Diff) → AllWithin SESSION_CELLS t →
    AllByRecursion IsMove ms → FitAlong SESSION_CELLS t ms → FitAlong n t ms
    → longest (map length t) ms ≤ n
longest_few n t [] w a f g = omega arith
longest_few n t (m ∷ ms) w a f g =
    let d : Diff = m in
    let e = resized_is t d w f.0.in_range f.0.fits a.0.put.few in
    let more : longest (slice_set (map length t) d.register (resized (map length t) d)) ms ≤ n =
    rw (lengths_after t d e)
    (longest_few n (table_after t d) ms (within_after SESSION_CELLS t d w f.0) a.1 f.1 g.1) in
    omega (arith, e, g.0.few, more)

few_longest : (n : ℕ) (t : List (List ℕ)) (ms : List Diff) → AllWithin SESSION_CELLS t →
    AllByRecursion IsMove ms → FitAlong SESSION_CELLS t ms
    → longest (map length t) ms ≤ n → FitAlong n t ms
few_longest n t [] w a f g = tt
few_longest n t (m ∷ ms) w a f g =
    let d : Diff = m in
    let e = resized_is t d w f.0.in_range f.0.fits a.0.put.few in
    let more : longest (map length (table_after t d)) ms ≤ n =
    rw (sym (lengths_after t d e)) (omega (arith, g)) in (
      record {
        in_range = f.0.in_range;
        fits = f.0.fits;
        few = omega (arith, e, g);
        changes = f.0.changes;
      },
      few_longest n (table_after t d) ms (within_after SESSION_CELLS t d w f.0) a.1 f.1 more,
    )

-- changes that can be made in the list of each register can be made in the table, if none gets too long
along_from_turns : (t : List (List ℕ)) (ms : List Diff) → AllByRecursion IsMove ms → AllWithin SESSION_CELLS t →
    length t ≡ REGISTERS
    → ((r : ℕ) → r < length t → FitInTurn (list_at t r) (of_register r ms))
    → longest (map length t) ms ≤ SESSION_CELLS → FitAlong SESSION_CELLS t ms
along_from_turns t [] a w n f g = tt
along_from_turns t (m ∷ ms) a w n f g =
    let d : Diff = m in
    let l : d.register < length t = omega (arith, n, a.0.register) in
    let fits = first_fits t m ms (f d.register l) in
    let e = resized_is t d w l fits a.0.put.few in
    let one : FitsTable SESSION_CELLS t d = record {
      in_range = l;
      fits = fits;
      few = omega (arith, e, g);
      changes = applied_differs d.out d.put (list_at t d.register) (AllWithin-at SESSION_CELLS t d.register w l).local
          fits a.0.some;
    } in
    let more : longest (map length (table_after t d)) ms ≤ SESSION_CELLS =
    rw (sym (lengths_after t d e)) (omega (arith, g)) in
    let len : length (table_after t d) ≡ length t = length-set t d.register (list_after t d) in (
      one,
      along_from_turns (table_after t d) ms a.1 (within_after SESSION_CELLS t d w one) (len ∙ n)
          (λ r k. turn_after t m r l ms (f r (omega (arith, k, len)))) more,
    )

-- what the changes of each register and the longest list say of all changes
module _ (t : List (List ℕ)) (ms : List Diff) (w : AllWithin SESSION_CELLS t) (a : AllByRecursion IsMove ms)
    (most : ℕ) (e : most ≡ longest (map length t) ms) where
  pub not_long : SESSION_CELLS < most → FitAlong SESSION_CELLS t ms → ⊥
  not_long l f = let k = longest_few SESSION_CELLS t ms w a f f in absurd (omega (arith, e, l, k))

  pub follows : (limit : ℕ) (b : Bool) → length t ≡ REGISTERS
      → ((r : ℕ) → r < length t → FitInTurn (list_at t r) (of_register r ms))
      → most ≤ SESSION_CELLS → (b ≡ true → most ≤ limit) → (most ≤ limit → b ≡ true)
      → MakesChanges limit t ms b
  follows limit b n f few true_few few_true =
      let fit = along_from_turns t ms a w n f (omega (arith, e, few)) in
      record {
        fit = fit;
        few = λ h. let k = true_few h in few_longest limit t ms w a fit (omega (arith, e, k));
        many = λ g. let k = longest_few limit t ms w a fit g in few_true (omega (arith, e, k));
      }

-- ---- changes that are turned round

abbrev pub turned_round : Move → Move
turned_round m = record { register = m.register; out = m.put; put = m.out }

pub all_turned : (ms : List Move) →
    map diff_of (map turned_round ms) ≡ map inverse (map diff_of ms)
all_turned [] = refl
all_turned (m ∷ ms) = ap (λ (ds : List Diff). inverse (diff_of m) ∷ ds) (all_turned ms)

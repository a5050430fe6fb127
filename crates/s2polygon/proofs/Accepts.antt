-- Where no two distances of an edge show that it misses a square, a mixture of its ends lies in it.
use Rattle.std.proofs.Common.{◌≡◌, ℕ, arith, ℤ, pos, ◌+ℤ◌, ◌*ℤ◌, ◌-ℤ◌, ◌≤ℤ◌, ◌<ℤ◌, inl, inr, ◌*◌, ◌^◌, subst, sym}
use Rattle.std.proofs.lemmas.Int.{ints, by_lt_z}
use Rattle.s2polygon.proofs.Rejects.{product_above, scale_above, rights_aboves, belows_rights, aboves_lefts}
use Rattle.s2polygon.proofs.Rejects.{lefts_belows, lefts_rights, aboves_belows}
use Rattle.s2polygon.specs.Crosses.{side}
use Rattle.s2polygon.specs.Frames.{normal_u_of, normal_v_of}
use Rattle.s2polygon.specs.Meets.{right_of, left_of, above, below, MeetsSquare}
use Rattle.s2polygon.specs.Tests.{rights, lefts, aboves, belows}
use Rattle.s2polygon.specs.Working.Apart.{AreBehind, AreApart, IsNotRejected}
use Rattle.s2polygon.specs.declared.frames.Framed.{Framed}
use Rattle.s2polygon.specs.declared.meeting.Pair.{Pair}
use Rattle.s2polygon.specs.declared.places.Square.{Square}
use Rattle.s2polygon.proofs.Integers.{at, ◌⊕◌, ◌⊖◌, ◌⊗◌, at_most, at_most_parts, below_parts, product_at_least}
use Rattle.s2polygon.proofs.Integers.{product_at_most, factor_at_least, weaken}

-- the four lines of a square
pub data Line : Type 0 where
  first_column : Line
  last_column : Line
  first_row : Line
  last_row : Line

-- the mixture is on the right side of a line, from the distances `a` and `b` of the edge's ends from the lines
abbrev Serves : (Line → ℤ) → (Line → ℤ) → ℤ → ℤ → Line → Type 0
Serves a b x y i = pos 0 ≤ℤ (x *ℤ a i +ℤ y *ℤ b i)

-- a mixture that is on the right side of each line of which `a` is on the right side
record Candidate (a b : Line → ℤ) : Type 0 where
  x : ℤ
  y : ℤ
  x_at_least : pos 0 ≤ℤ x
  y_at_least : pos 0 ≤ℤ y
  not_both : pos 0 <ℤ (x +ℤ y)
  served : (i : Line) → pos 0 ≤ℤ a i → Serves a b x y i

both_at_least : (x y p q : ℤ) → pos 0 ≤ℤ x → pos 0 ≤ℤ y → pos 0 ≤ℤ p → pos 0 ≤ℤ q → pos 0 ≤ℤ (x *ℤ p +ℤ y *ℤ q)
both_at_least x y p q hx hy hp hq =
    let r = at_most_parts (at (pos 0)) (at x ⊗ at p) (product_at_least x p hx hp) in
    let s = at_most_parts (at (pos 0)) (at y ⊗ at q) (product_at_least y q hy hq) in
    at_most (at (pos 0)) (at x ⊗ at p ⊕ at y ⊗ at q) (omega arith)

-- what was served stays served by a mixture nearer to `b`
stays : (x y pa pb sa sb : ℤ) → pos 0 ≤ℤ x → pos 0 ≤ℤ y → pos 0 ≤ℤ pb → pos 0 ≤ℤ sb → (x *ℤ pa +ℤ y *ℤ pb) <ℤ pos 0
    → pos 0 ≤ℤ (x *ℤ sa +ℤ y *ℤ sb)
    → pos 0 ≤ℤ (pb *ℤ sa +ℤ (pos 0 -ℤ pa) *ℤ sb)
stays x y pa pb sa sb hx hy hp hs missed served =
    by_lt_z (pos 0) x
    (λ (positive : pos 0 <ℤ x).
    let p = at_most_parts (at (pos 0)) (at pb ⊗ (at x ⊗ at sa ⊕ at y ⊗ at sb))
    (product_at_least pb (x *ℤ sa +ℤ y *ℤ sb) hp served) in
    let q = at_most_parts (at sb ⊗ (at x ⊗ at pa ⊕ at y ⊗ at pb)) (at (pos 0))
    (product_at_most sb (x *ℤ pa +ℤ y *ℤ pb) hs (weaken (x *ℤ pa +ℤ y *ℤ pb) (pos 0) missed)) in
    factor_at_least x (pb *ℤ sa +ℤ (pos 0 -ℤ pa) *ℤ sb) positive
    (at_most (at (pos 0)) (at x ⊗ (at pb ⊗ at sa ⊕ (at (pos 0) ⊖ at pa) ⊗ at sb)) (omega arith)))
    (λ (none : x ≤ℤ pos 0).
    let e : x ≡ pos 0 = omega (arith, ints) in
    let m = below_parts (at (pos 0) ⊗ at pa ⊕ at y ⊗ at pb) (at (pos 0))
    (subst (λ (z : ℤ). (z *ℤ pa +ℤ y *ℤ pb) <ℤ pos 0) e missed) in
    let n = at_most_parts (at (pos 0)) (at y ⊗ at pb) (product_at_least y pb hy hp) in
    absurd (omega arith))

module _ (a b : Line → ℤ) (ahead : (i : Line) → a i <ℤ pos 0 → pos 0 ≤ℤ b i)
    (close : (i j : Line) → a i <ℤ pos 0 → b j <ℤ pos 0 → (a i *ℤ b j) ≤ℤ (b i *ℤ a j)) where
  start : Candidate a b
  start = record {
    x = pos 1;
    y = pos 0;
    x_at_least = omega (arith, ints);
    y_at_least = omega (arith, ints);
    not_both = omega (arith, ints);
    served = λ i h. let p = at_most_parts (at (pos 0)) (at (a i)) h in at_most (at (pos 0))
        (at (pos 1) ⊗ at (a i) ⊕ at (pos 0) ⊗ at (b i)) (omega arith);
  }

  -- where the edge comes over the line `i`
  over : (i : Line) → a i <ℤ pos 0 → Candidate a b
  over i wrong = record {
    x = b i;
    y = pos 0 -ℤ a i;
    x_at_least = ahead i wrong;
    y_at_least = omega (arith, ints);
    not_both = let h = ahead i wrong in omega (arith, ints);
    served = λ j h. by_lt_z (b j) (pos 0)
        (λ (behind : b j <ℤ pos 0).
        let p = at_most_parts (at (a i) ⊗ at (b j)) (at (b i) ⊗ at (a j)) (close i j wrong behind) in
        at_most (at (pos 0)) (at (b i) ⊗ at (a j) ⊕ (at (pos 0) ⊖ at (a i)) ⊗ at (b j)) (omega arith))
        (λ (right : pos 0 ≤ℤ b j). both_at_least (b i) (pos 0 -ℤ a i) (a j) (b j) (ahead i wrong)
        (omega (arith, ints)) h right);
  }

  -- a candidate that serves one line more
  record Better (c : Candidate a b) (i : Line) : Type 0 where
    next : Candidate a b
    serves : Serves a b next.x next.y i
    keeps : (j : Line) → Serves a b c.x c.y j → Serves a b next.x next.y j

  better : (c : Candidate a b) (i : Line) → Better c i
  unfolding over
  better c i = by_lt_z (c.x *ℤ a i +ℤ c.y *ℤ b i) (pos 0)
      (λ (missed : (c.x *ℤ a i +ℤ c.y *ℤ b i) <ℤ pos 0). by_lt_z (a i) (pos 0)
      (λ (wrong : a i <ℤ pos 0). let n = over i wrong in record {
        next = n;
        serves = let p : pos 0 ≤ℤ pos 0 = omega (arith, ints) in
            at_most (at (pos 0)) (at (b i) ⊗ at (a i) ⊕ (at (pos 0) ⊖ at (a i)) ⊗ at (b i)) (omega arith);
        keeps = λ j h. by_lt_z (a j) (pos 0)
            (λ (lower : a j <ℤ pos 0). stays c.x c.y (a i) (b i) (a j) (b j) c.x_at_least c.y_at_least
            (ahead i wrong) (ahead j lower) missed h)
            (λ (other : pos 0 ≤ℤ a j). n.served j other);
      })
      (λ (right : pos 0 ≤ℤ a i). absurd (le_lt (c.x *ℤ a i +ℤ c.y *ℤ b i) missed (c.served i right))))
      (λ (served : pos 0 ≤ℤ (c.x *ℤ a i +ℤ c.y *ℤ b i)). record { next = c; serves = served; keeps = λ j h. h })
    where
      le_lt : (z : ℤ) → z <ℤ pos 0 → pos 0 ≤ℤ z → ⊥
      le_lt z h k = omega (arith, ints)

  -- one that serves all four
  pub record Served : Type 0 where
    pub x : ℤ
    pub y : ℤ
    pub x_at_least : pos 0 ≤ℤ x
    pub y_at_least : pos 0 ≤ℤ y
    pub not_both : pos 0 <ℤ (x +ℤ y)
    pub serves : (i : Line) → pos 0 ≤ℤ (x *ℤ a i +ℤ y *ℤ b i)

  pub served_by_all : Served
  served_by_all =
      let one = better start first_column in
      let two = better one.next last_column in
      let three = better two.next first_row in
      let four = better three.next last_row in
      record {
        x = four.next.x;
        y = four.next.y;
        x_at_least = four.next.x_at_least;
        y_at_least = four.next.y_at_least;
        not_both = four.next.not_both;
        serves = each four.next.x four.next.y
            (four.keeps first_column (three.keeps first_column (two.keeps first_column one.serves)))
            (four.keeps last_column (three.keeps last_column two.serves))
            (four.keeps first_row three.serves)
            four.serves;
      }
    where
      each : (x y : ℤ) → Serves a b x y first_column → Serves a b x y last_column → Serves a b x y first_row
          → Serves a b x y last_row → (i : Line) → Serves a b x y i
      each x y p q r s first_column = p
      each x y p q r s last_column = q
      each x y p q r s first_row = r
      each x y p q r s last_row = s

is_ahead : (p : Pair) → ¬ (AreBehind p) → p.at_a <ℤ pos 0 → pos 0 ≤ℤ p.at_b
is_ahead p h wrong = by_lt_z p.at_b (pos 0) (λ (less : p.at_b <ℤ pos 0). absurd (h (wrong, less)))
    (λ (right : pos 0 ≤ℤ p.at_b). right)

module _ (pa pb qa qb turn scale : ℤ) (wide : pos 0 <ℤ scale) (e : pa *ℤ qb -ℤ pb *ℤ qa ≡ scale *ℤ turn)
    (h : ¬ (AreApart (record { at_a = pa; at_b = pb }) (record { at_a = qa; at_b = qb }) turn)) where
  close_first : pa <ℤ pos 0 → qb <ℤ pos 0 → (pa *ℤ qb) ≤ℤ (pb *ℤ qa)
  close_first hp hq = by_lt_z (pos 0) turn (λ (l : pos 0 <ℤ turn). absurd (h (inl (hp, hq, l))))
      (λ (r : turn ≤ℤ pos 0).
      let d = subst (λ (z : ℤ). z ≤ℤ pos 0) (sym e) (product_at_most scale turn (weaken (pos 0) scale wide) r) in
      let f = at_most_parts (at pa ⊗ at qb ⊖ at pb ⊗ at qa) (at (pos 0)) d in
      at_most (at pa ⊗ at qb) (at pb ⊗ at qa) (omega arith))

  close_second : qa <ℤ pos 0 → pb <ℤ pos 0 → (qa *ℤ pb) ≤ℤ (qb *ℤ pa)
  close_second hq hp = by_lt_z turn (pos 0) (λ (l : turn <ℤ pos 0). absurd (h (inr (hq, hp, l))))
      (λ (r : pos 0 ≤ℤ turn).
      let d = subst (λ (z : ℤ). pos 0 ≤ℤ z) (sym e) (product_at_least scale turn (weaken (pos 0) scale wide) r) in
      let f = at_most_parts (at (pos 0)) (at pa ⊗ at qb ⊖ at pb ⊗ at qa) d in
      at_most (at qa ⊗ at pb) (at qb ⊗ at pa) (omega arith))

unmixed_beyond : (k : ℕ) (s x y pa wa pb wb : ℤ) → pos 0 ≤ℤ (x *ℤ (pos k *ℤ pa -ℤ s *ℤ wa) +ℤ y *ℤ
    (pos k *ℤ pb -ℤ s *ℤ wb))
    → pos 0 ≤ℤ (pos k *ℤ (x *ℤ pa +ℤ y *ℤ pb) -ℤ s *ℤ (x *ℤ wa +ℤ y *ℤ wb))
unmixed_beyond k s x y pa wa pb wb h =
    let p = at_most_parts (at (pos 0)) (at x ⊗ (at (pos k) ⊗ at pa ⊖ at s ⊗ at wa) ⊕ at y ⊗
    (at (pos k) ⊗ at pb ⊖ at s ⊗ at wb)) h in
    at_most (at (pos 0)) (at (pos k) ⊗ (at x ⊗ at pa ⊕ at y ⊗ at pb) ⊖ at s ⊗ (at x ⊗ at wa ⊕ at y ⊗ at wb))
    (omega arith)

unmixed_short : (k : ℕ) (s x y pa wa pb wb : ℤ) → pos 0 ≤ℤ (x *ℤ (s *ℤ wa -ℤ pos k *ℤ pa) +ℤ y *ℤ
    (s *ℤ wb -ℤ pos k *ℤ pb))
    → pos 0 ≤ℤ (s *ℤ (x *ℤ wa +ℤ y *ℤ wb) -ℤ pos k *ℤ (x *ℤ pa +ℤ y *ℤ pb))
unmixed_short k s x y pa wa pb wb h =
    let p = at_most_parts (at (pos 0)) (at x ⊗ (at s ⊗ at wa ⊖ at (pos k) ⊗ at pa) ⊕ at y ⊗
    (at s ⊗ at wb ⊖ at (pos k) ⊗ at pb)) h in
    at_most (at (pos 0)) (at s ⊗ (at x ⊗ at wa ⊕ at y ⊗ at wb) ⊖ at (pos k) ⊗ (at x ⊗ at pa ⊕ at y ⊗ at pb))
    (omega arith)

-- the distance of a direction from each line
abbrev from : Square → Framed → Line → ℤ
from q c first_column = right_of q.u0 c
from q c last_column = left_of q.u1 c
from q c first_row = above q.v0 c
from q c last_row = below q.v1 c

module _ (a b : Framed) (q : Square) (wide : q.u0 <ℤ q.u1) (high : q.v0 <ℤ q.v1) (h : IsNotRejected a b q) where
  ahead_of : (i : Line) → from q a i <ℤ pos 0 → pos 0 ≤ℤ from q b i
  ahead_of first_column w = is_ahead (rights q a b) h.rights_ahead w
  ahead_of last_column w = is_ahead (lefts q a b) h.lefts_ahead w
  ahead_of first_row w = is_ahead (aboves q a b) h.aboves_ahead w
  ahead_of last_row w = is_ahead (belows q a b) h.belows_ahead w

  close_at : (i j : Line) → from q a i <ℤ pos 0 → from q b j <ℤ pos 0 → (from q a i *ℤ from q b j) ≤ℤ
      (from q b i *ℤ from q a j)
  close_at first_column first_column w x = absurd (h.rights_ahead (w, x))
  close_at last_column last_column w x = absurd (h.lefts_ahead (w, x))
  close_at first_row first_row w x = absurd (h.aboves_ahead (w, x))
  close_at last_row last_row w x = absurd (h.belows_ahead (w, x))
  close_at first_column first_row w x = close_first (right_of q.u0 a) (right_of q.u0 b) (above q.v0 a) (above q.v0 b)
      (side q.u0 q.v0 a b) (pos (3 * 2 ^ 60)) scale_above
      (rights_aboves (3 * 2 ^ 60) q.u0 q.v0 q.u1 q.v1 a.w a.u a.v b.w b.u b.v) h.right_above w x
  close_at first_row first_column w x = close_second (right_of q.u0 a) (right_of q.u0 b) (above q.v0 a)
      (above q.v0 b) (side q.u0 q.v0 a b) (pos (3 * 2 ^ 60)) scale_above
      (rights_aboves (3 * 2 ^ 60) q.u0 q.v0 q.u1 q.v1 a.w a.u a.v b.w b.u b.v) h.right_above w x
  close_at last_row first_column w x = close_first (below q.v1 a) (below q.v1 b) (right_of q.u0 a) (right_of q.u0 b)
      (side q.u0 q.v1 a b) (pos (3 * 2 ^ 60)) scale_above
      (belows_rights (3 * 2 ^ 60) q.u0 q.v0 q.u1 q.v1 a.w a.u a.v b.w b.u b.v) h.right_below w x
  close_at first_column last_row w x = close_second (below q.v1 a) (below q.v1 b) (right_of q.u0 a) (right_of q.u0 b)
      (side q.u0 q.v1 a b) (pos (3 * 2 ^ 60)) scale_above
      (belows_rights (3 * 2 ^ 60) q.u0 q.v0 q.u1 q.v1 a.w a.u a.v b.w b.u b.v) h.right_below w x
  close_at first_row last_column w x = close_first (above q.v0 a) (above q.v0 b) (left_of q.u1 a) (left_of q.u1 b)
      (side q.u1 q.v0 a b) (pos (3 * 2 ^ 60)) scale_above
      (aboves_lefts (3 * 2 ^ 60) q.u0 q.v0 q.u1 q.v1 a.w a.u a.v b.w b.u b.v) h.left_above w x
  close_at last_column first_row w x = close_second (above q.v0 a) (above q.v0 b) (left_of q.u1 a) (left_of q.u1 b)
      (side q.u1 q.v0 a b) (pos (3 * 2 ^ 60)) scale_above
      (aboves_lefts (3 * 2 ^ 60) q.u0 q.v0 q.u1 q.v1 a.w a.u a.v b.w b.u b.v) h.left_above w x
  close_at last_column last_row w x = close_first (left_of q.u1 a) (left_of q.u1 b) (below q.v1 a) (below q.v1 b)
      (side q.u1 q.v1 a b) (pos (3 * 2 ^ 60)) scale_above
      (lefts_belows (3 * 2 ^ 60) q.u0 q.v0 q.u1 q.v1 a.w a.u a.v b.w b.u b.v) h.left_below w x
  close_at last_row last_column w x = close_second (left_of q.u1 a) (left_of q.u1 b) (below q.v1 a) (below q.v1 b)
      (side q.u1 q.v1 a b) (pos (3 * 2 ^ 60)) scale_above
      (lefts_belows (3 * 2 ^ 60) q.u0 q.v0 q.u1 q.v1 a.w a.u a.v b.w b.u b.v) h.left_below w x
  close_at last_column first_column w x = close_first (left_of q.u1 a) (left_of q.u1 b) (right_of q.u0 a)
      (right_of q.u0 b) (normal_v_of a b) (pos (3 * 2 ^ 60) *ℤ (q.u1 -ℤ q.u0))
      (product_above (pos (3 * 2 ^ 60)) (q.u1 -ℤ q.u0) scale_above (omega (arith, ints)))
      (lefts_rights (3 * 2 ^ 60) q.u0 q.v0 q.u1 q.v1 a.w a.u a.v b.w b.u b.v) h.columns w x
  close_at first_column last_column w x = close_second (left_of q.u1 a) (left_of q.u1 b) (right_of q.u0 a)
      (right_of q.u0 b) (normal_v_of a b) (pos (3 * 2 ^ 60) *ℤ (q.u1 -ℤ q.u0))
      (product_above (pos (3 * 2 ^ 60)) (q.u1 -ℤ q.u0) scale_above (omega (arith, ints)))
      (lefts_rights (3 * 2 ^ 60) q.u0 q.v0 q.u1 q.v1 a.w a.u a.v b.w b.u b.v) h.columns w x
  close_at first_row last_row w x = close_first (above q.v0 a) (above q.v0 b) (below q.v1 a) (below q.v1 b)
      (normal_u_of a b) (pos (3 * 2 ^ 60) *ℤ (q.v1 -ℤ q.v0)) (product_above (pos (3 * 2 ^ 60))
      (q.v1 -ℤ q.v0) scale_above (omega (arith, ints)))
      (aboves_belows (3 * 2 ^ 60) q.u0 q.v0 q.u1 q.v1 a.w a.u a.v b.w b.u b.v) h.rows w x
  close_at last_row first_row w x = close_second (above q.v0 a) (above q.v0 b) (below q.v1 a) (below q.v1 b)
      (normal_u_of a b) (pos (3 * 2 ^ 60) *ℤ (q.v1 -ℤ q.v0)) (product_above (pos (3 * 2 ^ 60))
      (q.v1 -ℤ q.v0) scale_above (omega (arith, ints)))
      (aboves_belows (3 * 2 ^ 60) q.u0 q.v0 q.u1 q.v1 a.w a.u a.v b.w b.u b.v) h.rows w x

  pub meets_unless_rejected : MeetsSquare a b q
  meets_unless_rejected =
      let m = served_by_all (from q a) (from q b) ahead_of close_at in
      record {
        x = m.x;
        y = m.y;
        x_at_least = m.x_at_least;
        y_at_least = m.y_at_least;
        not_both = m.not_both;
        inside = record {
          first_column = unmixed_beyond (3 * 2 ^ 60) q.u0 m.x m.y a.u a.w b.u b.w (m.serves first_column);
          last_column = unmixed_short (3 * 2 ^ 60) q.u1 m.x m.y a.u a.w b.u b.w (m.serves last_column);
          first_row = unmixed_beyond (3 * 2 ^ 60) q.v0 m.x m.y a.v a.w b.v b.w (m.serves first_row);
          last_row = unmixed_short (3 * 2 ^ 60) q.v1 m.x m.y a.v a.w b.v b.w (m.serves last_row);
        };
      }

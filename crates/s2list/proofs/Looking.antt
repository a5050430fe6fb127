-- How many numbers a search looks at, and a walk along two unions.
use Rattle.std.proofs.Common.{◌≡◌, ℕ, zero, suc, ◌+◌, ◌-◌, ◌*◌, ◌/◌, ◌%◌, ◌^◌, ◌<◌, ◌≤◌, refl, ap, ◌∙◌, arith}
use Rattle.std.proofs.Common.{◌⊎◌, inl, inr, List, length, get_or, min, max}
use Rattle.std.proofs.Math.Logic.{⊎_elim}
use Rattle.std.proofs.Math.Nat.{pow-suc, mul-le-mul_right, le_of_mul-le-mul_right, mod-lt, pow-le-pow_right}
use Rattle.std.proofs.lemmas.Bool.{cases_lt}
use Rattle.std.proofs.lemmas.Nat.{pow_pos, pow-add, shr_split}
use Rattle.s2cell.specs.Cell.{first_leaf}
use Rattle.s2list.specs.Looks.{Alternates, FewForTurns}
use Rattle.s2list.specs.Working.Walk.{Known, FewLooks}

-- ---- one search

-- what a search has left fits a power of two, and each halving since `2 ^ k` paid for a look
pub record Halved (size before looks k : ℕ) : Type 0 where
  pub power : ℕ
  pub fits : size < 2 ^ power
  pub paid : looks + power ≤ before + k

pub halved_all : (size before k : ℕ) → size < 2 ^ k → Halved size before before k
halved_all size before k h = record { power = k; fits = h; paid = omega arith }

halved_less : (size less before looks more k j : ℕ) → 0 < size → size < 2 ^ j → looks + j ≤ before + k
    → more ≤ looks + 1 → less ≤ size / 2 → Halved less before more k
halved_less size less before looks more k zero h f p e l = let g : 2 ^ zero ≡ 1 = refl in absurd (omega arith)
halved_less size less before looks more k (suc j) h f p e l =
    let g = pow-suc 2 j in
    record { power = j; fits = omega arith; paid = omega arith }

pub halved_more : {size : ℕ} (less : ℕ) {before looks : ℕ} (more : ℕ) {k : ℕ} →
    0 < size → Halved size before looks k → more ≤ looks + 1 → less ≤ size / 2 → Halved less before more k
halved_more {size} less {before} {looks} more {k} h l e s =
    halved_less size less before looks more k l.power h l.fits l.paid e s

-- a search that has `size` places left fits a power of two, and each step since `2 ^ k` paid for `step` looks
pub record Quartered (step size before looks k : ℕ) : Type 0 where
  pub power : ℕ
  pub fits : size ≤ 2 ^ power
  pub paid : looks + step * power ≤ before + step * k

pub quartered_all : (step size before k : ℕ) → size ≤ 2 ^ k → Quartered step size before before k
quartered_all step size before k h = record { power = k; fits = h; paid = omega arith }

-- three looks leave half at most
quarter_left : (size j : ℕ) → 4 ≤ size → size ≤ 2 ^ suc j → size - 3 * (size / 4) ≤ 2 ^ j
quarter_left size zero h f = let e : 2 ^ suc zero ≡ 2 = refl in absurd (omega arith)
quarter_left size (suc zero) h f =
    let e : 2 ^ suc (suc zero) ≡ 4 = refl in
    let g : 2 ^ suc zero ≡ 2 = refl in
    omega arith
quarter_left size (suc (suc zero)) h f =
    let e : 2 ^ suc (suc (suc zero)) ≡ 8 = refl in
    let g : 2 ^ suc (suc zero) ≡ 4 = refl in
    omega arith
quarter_left size (suc (suc (suc j))) h f =
    let some = pow_pos j in
    let e1 = pow-suc 2 j in
    let e2 = pow-suc 2 (suc j) in
    let e3 = pow-suc 2 (suc (suc j)) in
    let e4 = pow-suc 2 (suc (suc (suc j))) in
    omega arith

quartered_less : (step size before looks more k j : ℕ) → 4 ≤ size → size ≤ 2 ^ j → looks + step * j ≤ before + step * k
    → more ≤ looks + step → Quartered step (size - 3 * (size / 4)) before more k
quartered_less step size before looks more k zero h f p e = let g : 2 ^ zero ≡ 1 = refl in absurd (omega arith)
quartered_less step size before looks more k (suc j) h f p e =
    record { power = j; fits = quarter_left size j h f; paid = omega arith }

pub quartered_more : (step size before looks more k : ℕ) → 4 ≤ size → Quartered step size before looks k →
    more ≤ looks + step → Quartered step (size - 3 * (size / 4)) before more k
quartered_more step size before looks more k h l e =
    quartered_less step size before looks more k l.power h l.fits l.paid e

-- the looks of leaps that got `far` places on, each three times as long as all before it and the first two
pub record Leapt (before looks far : ℕ) : Type 0 where
  pub leaps : ℕ
  pub paid : looks ≤ before + leaps
  pub got : 2 ^ (2 * leaps + 1) ≡ far

pub leapt_two : (before far : ℕ) → far ≡ 2 → Leapt before before far
leapt_two before far e = let g : 2 ^ (2 * 0 + 1) ≡ 2 = refl in
    record { leaps = 0; paid = omega arith; got = omega arith }

pub leapt_more : {before looks : ℕ} (more : ℕ) {far : ℕ} (leap next : ℕ) →
    Leapt before looks far → more ≤ looks + 1 → leap ≡ 3 * far → next ≡ far + leap → Leapt before more next
leapt_more more leap next l e h n =
    let g = l.got in
    let p = l.paid in
    let two : 2 * (l.leaps + 1) + 1 ≡ (2 * l.leaps + 1) + 2 = omega arith in
    let s : 2 ^ (2 * (l.leaps + 1) + 1) ≡ 2 ^ (2 * l.leaps + 1) * 4 =
    ap (λ x. 2 ^ x) two ∙ pow-add 2 (2 * l.leaps + 1) 2 in
    record { leaps = l.leaps + 1; paid = omega arith; got = omega arith }

leaps_few : (leaps far k : ℕ) → 2 ^ (2 * leaps + 1) ≤ far → far < 2 ^ k → 2 * leaps + 2 ≤ k
leaps_few leaps far k h l =
    ⊎_elim
    (λ (a : k < 2 * leaps + 2).
    let p : 2 ^ k ≤ 2 ^ (2 * leaps + 1) =
    pow-le-pow_right {n = 2} (omega arith) {i = k} {j = 2 * leaps + 1} (omega arith) in
    absurd (omega arith))
    (λ (a : 2 * leaps + 2 ≤ k). a)
    (cases_lt k (2 * leaps + 2))

-- the part that is left after them is shorter than the next leap
pub leapt_last : {before looks far : ℕ} (size more last : ℕ) → Leapt before looks far → more ≤ looks + 1 → size <
    3 * far → ((k : ℕ) → size < 2 ^ k → last ≤ more + k) → (all k : ℕ) → far ≤ all → all < 2 ^ k → last ≤ before + 2 * k
leapt_last {far} size more last l e s rest all k h f =
    let g = l.got in
    let few = leaps_few l.leaps far k (omega arith) (omega arith) in
    let p = l.paid in
    let four : 2 ^ ((2 * l.leaps + 1) + 2) ≡ 2 ^ (2 * l.leaps + 1) * 4 = pow-add 2 (2 * l.leaps + 1) 2 in
    let r = rest ((2 * l.leaps + 1) + 2) (omega arith) in
    omega arith

-- ---- turns of a walk

-- looks `before` a search that got `far` places on, and after it
abbrev pub Sought : (before after far : ℕ) → Type 0
Sought before after far = (k : ℕ) → far < 2 ^ k → after ≤ before + 2 * k + 2

-- the looks of a search on a walk: one that goes by halves pays for the whole list
abbrev pub SoughtAlong : (before after all at start result : ℕ) → Type 0
SoughtAlong before after all at start result = (k : ℕ) → result - start < 2 ^ k →
    (at ≡ 0 → start < result → all < 2 ^ k) → after ≤ before + 2 * k + 2

-- a search that got nowhere may have looked twice
pub sought_here : (looks all at start : ℕ) → SoughtAlong looks (looks + 2) all at start start
sought_here looks all at start k h g = omega arith

-- the same, if the count goes on from `old`
pub sought_from : (old before after all at start result : ℕ) → SoughtAlong before after all at start result →
    SoughtAlong (before - old) (after - old) all at start result
sought_from old before after all at start result s k h g = let l = s k h g in omega arith

-- how far a search on a walk is counted to get: as far as it got, or if it left the beginning of the list, all the way
pub record Found (before after all at start result : ℕ) : Type 0 where
  pub far : ℕ
  pub sought : Sought before after far
  pub counts : (far ≡ result - start) ⊎ ((at ≡ 0) × (start < result) × (far ≡ all))

pub found_along : (before after all at start result : ℕ) → SoughtAlong before after all at start result → result ≤ all
    → Found before after all at start result
found_along before after all at start result s le =
    ⊎_elim
    (λ (h : 0 < at). record {
      far = result - start;
      sought = λ k f. s k f (λ z l. absurd (omega arith));
      counts = inl refl;
    })
    (λ (h : at ≤ 0). ⊎_elim
    (λ (l : start < result). record {
      far = all;
      sought = λ k f. s k (omega arith) (λ z g. f);
      counts = inr (omega arith, l, refl);
    })
    (λ (l : result ≤ start). record {
      far = result - start;
      sought = λ k f. s k f (λ z g. absurd (omega arith));
      counts = inl refl;
    })
    (cases_lt start result))
    (cases_lt 0 at)

-- how `far` a walk to the places `i` and `j` is counted to get: once in each list a search went all the way
pub record Way (m n far i j : ℕ) : Type 0 where
  pub by_x : ℕ
  pub by_y : ℕ
  pub most_x : by_x ≤ m
  pub most_y : by_y ≤ n
  pub none_x : i ≡ 0 → by_x ≡ 0
  pub none_y : j ≡ 0 → by_y ≡ 0
  pub all : far ≤ i + j + by_x + by_y

pub way_none : (m n : ℕ) → Way m n 0 0 0
way_none m n = record {
  by_x = 0;
  by_y = 0;
  most_x = omega arith;
  most_y = omega arith;
  none_x = λ e. refl;
  none_y = λ e. refl;
  all = omega arith;
}

pub way_swap : (m n far i j : ℕ) → Way m n far i j → Way n m far j i
way_swap m n far i j w = record {
  by_x = w.by_y;
  by_y = w.by_x;
  most_x = w.most_y;
  most_y = w.most_x;
  none_x = w.none_y;
  none_y = w.none_x;
  all = let a = w.all in omega arith;
}

-- a search in the first list, from the place `i` or one after it, and then perhaps a step
pub way_on : (m n far i j start result next x : ℕ) → Way m n far i j → i ≤ start → start ≤ result → result ≤ next
    → (x ≡ result - start) ⊎ ((i ≡ 0) × (start < result) × (x ≡ m)) → Way m n (far + x + (start - i)) next j
way_on m n far i j start result next x w is sr rn found =
    let a = w.all in
    ⊎_elim
    (λ (e : x ≡ result - start). record {
      by_x = w.by_x;
      by_y = w.by_y;
      most_x = w.most_x;
      most_y = w.most_y;
      none_x = λ z. w.none_x (omega arith);
      none_y = w.none_y;
      all = omega arith;
    })
    (λ (e : (i ≡ 0) × (start < result) × (x ≡ m)). let z = w.none_x e.0 in let l = e.1 in let t = e.2 in record {
      by_x = m;
      by_y = w.by_y;
      most_x = omega arith;
      most_y = w.most_y;
      none_x = λ z. absurd (omega arith);
      none_y = w.none_y;
      all = omega arith;
    }) found

-- `looks` in `turns` turns, which got `far` places on in both lists together
pub record Spent (looks turns far : ℕ) : Type 0 where
  pub most : (k : ℕ) → looks * 2 ^ k + 2 * turns ≤ (4 * k + 6) * (2 ^ k * turns) + 2 * far

-- a power of two is above its exponent
pub above : (k : ℕ) → k + 1 ≤ 2 ^ k
above zero = let e : 2 ^ zero ≡ 1 = refl in omega arith
above (suc k) = let h = above k in let e = pow-suc 2 k in omega arith

-- the logarithm of the way is at most `k + far / 2 ^ k`
pub sought_line : (before after far k : ℕ) → Sought before after far →
    after * 2 ^ k ≤ before * 2 ^ k + (2 * k + 2) * 2 ^ k + 2 * far
sought_line before after far k s =
    let q = far / 2 ^ k in
    let split : q * 2 ^ k + far % 2 ^ k ≡ far = shr_split far k in
    let rest : far % 2 ^ k < 2 ^ k = mod-lt far (pow_pos k) in
    let more : (q + 1) * 2 ^ k ≤ 2 ^ q * 2 ^ k = mul-le-mul_right (2 ^ k) (above q) in
    let e : 2 ^ (k + q) ≡ 2 ^ k * 2 ^ q = pow-add 2 k q in
    let h : after ≤ before + 2 * (k + q) + 2 = s (k + q) (omega arith) in
    let m = mul-le-mul_right (2 ^ k) h in
    omega arith

-- a turn: a look and a search in each list
spent_turn : {looks turns far a b e f x y : ℕ} (next : ℕ) → Spent looks turns far →
    a ≤ looks + 1 → Sought a b x → e ≤ b + 1 → Sought e f y → far + x + y + 1 ≤ next → Spent f (turns + 1) next
spent_turn {a} {b} {e} {f} {x} {y} next s ea sb ee sf en = record {
  most = λ k.
      let h = s.most k in
      let lb = sought_line a b x k sb in
      let lf = sought_line e f y k sf in
      let ma = mul-le-mul_right (2 ^ k) ea in
      let me = mul-le-mul_right (2 ^ k) ee in
      omega arith;
}

-- and one that ends the walk, which is counted to get twice through both lists at most, with `more` looks
spent_last : {looks turns far a b x : ℕ} (last more cells d : ℕ) → Spent looks turns far → a ≤ looks + 1 → Sought a b x
    → last ≤ b + 1 + more → turns ≤ d → more ≤ 4 → (cells ≤ d + 1 → 4 * turns + more ≤ 4 * d) → far + x ≤ 2 * cells
    → FewForTurns cells d last
spent_last {looks} {turns} {far} {a} {b} {x} last more cells d s ea sb el ht hm hz hf zero h =
    let p : looks * 1 + 2 * turns ≤ 6 * (1 * turns) + 2 * far = s.most zero in
    let l : b * 1 ≤ a * 1 + 2 * 1 + 2 * x = sought_line a b x zero sb in
    let g : cells ≤ (d + 1) * 1 = h in
    let few = hz (omega arith) in
    omega arith
spent_last {turns} {a} {b} {x} last more cells d s ea sb el ht hm hz hf (suc k) h =
    let p = s.most (suc k) in
    let lb = sought_line a b x (suc k) sb in
    let ma = mul-le-mul_right (2 ^ suc k) ea in
    let ml = mul-le-mul_right (2 ^ suc k) el in
    let mm = mul-le-mul_right (2 ^ suc k) hm in
    let t : turns * ((4 * suc k + 6) * 2 ^ suc k) ≤ d * ((4 * suc k + 6) * 2 ^ suc k) =
    mul-le-mul_right ((4 * suc k + 6) * 2 ^ suc k) ht in
    let bound : last * 2 ^ suc k ≤ 8 * (d + 1) * (1 + suc k) * 2 ^ suc k = omega arith in
    le_of_mul-le-mul_right bound (pow_pos (suc k))

-- ---- a walk beside a way to cut both lists

-- after `turns` turns a walk has passed as many runs of each list, or is at a cell that decides the question
pub record Passed (D : ℕ → Type 0) (xs ys : List ℕ) (d a b turns i j : ℕ) (cut : Alternates xs ys d a b) : Type 0 where
  pub few : turns ≤ d
  pub by_x : cut.x_cut turns ≤ i
  pub by_y : (cut.y_cut turns ≤ j) ⊎ D j

-- the turns of a walk that took `looks` to the places `i` and `j`
pub record Walked (D : ℕ → Type 0) (xs ys : List ℕ) (looks i j : ℕ) : Type 0 where
  pub turns : ℕ
  pub far : ℕ
  pub spent : Spent looks turns far
  pub way : Way (length xs) (length ys) far i j
  pub by_x : turns ≤ i + 1
  pub by_y : turns ≤ j
  pub some_x : 0 < turns → 0 < length xs
  pub begun : turns ≡ 0 → far + i + j ≡ 0
  pub passed : (d a b : ℕ) (cut : Alternates xs ys d a b) → Known D xs ys a b → Passed D xs ys d a b turns i j cut

pub walked_none : (D : ℕ → Type 0) (xs ys : List ℕ) (looks : ℕ) → looks ≡ 0 → Walked D xs ys looks 0 0
walked_none D xs ys looks e = record {
  turns = 0;
  far = 0;
  spent = record { most = λ k. rw e (omega arith) };
  way = way_none (length xs) (length ys);
  by_x = omega arith;
  by_y = omega arith;
  some_x = λ h. absurd (omega arith);
  begun = λ _. omega arith;
  passed = λ d a b cut known.
      let x = cut.x_start in
      let y = cut.y_start in
      record { few = omega arith; by_x = omega arith; by_y = inl (omega arith) };
}

-- no turn is complete once all runs are passed
not_all : (D : ℕ → Type 0) {xs ys : List ℕ} {d a b : ℕ} (turns i j : ℕ) (cut : Alternates xs ys d a b) →
    Known D xs ys a b → turns ≡ d →
    cut.x_cut turns ≤ i → cut.y_cut turns ≤ j → i < length xs → j < length ys → ((l : ℕ) → l ≤ j → D l → ⊥) → ⊥
not_all D {xs} {ys} {a} {b} turns i j cut known e hx hy hi hj live =
    let x : cut.x_cut turns ≡ a = ap cut.x_cut e ∙ cut.x_end in
    let y : cut.y_cut turns ≡ b = ap cut.y_cut e ∙ cut.y_end in
    ⊎_elim
    (λ (h : length xs ≤ a). absurd (omega arith))
    (λ (rest : (length ys ≤ b) ⊎ D b). ⊎_elim (λ (h : length ys ≤ b). absurd (omega arith))
    (λ (h : D b). live b (omega arith) h) rest) known

-- a turn: a search in `xs` from the place `i`, and one in `ys` after the place `j`
pub walked_more : {D : ℕ → Type 0} {xs ys : List ℕ} {looks i j : ℕ} (a b e f p next_i next_j : ℕ) →
    Walked D xs ys looks i j → i < length xs → j < length ys → ((l : ℕ) → l ≤ j → D l → ⊥) → ((k : ℕ) →
    k < length xs → first_leaf (get_or xs k 0) ≤ first_leaf (get_or ys j 0) → k < next_i) → (next_j < length ys →
    (next_i < length xs → first_leaf (get_or ys next_j 0) < first_leaf (get_or xs next_i 0)) → D next_j) → a ≤ looks +
    1 → SoughtAlong a b (length xs) i i p → i ≤ p → p ≤ next_i → p ≤ length xs → e ≤ b + 1 → SoughtAlong e f (length ys)
    j (j + 1) next_j → j + 1 ≤ next_j → next_j ≤ length ys → (0 < j → i < next_i) → Walked D xs ys f next_i next_j
walked_more
    {D} {xs} {ys} {looks} {i} {j} a b e f place next_i next_j w hi hj live px dy ea sb ip pn in_p ee sf jn in_n on_x =
    let x = found_along a b (length xs) i i place sb in_p in
    let y = found_along e f (length ys) j (j + 1) next_j sf in_n in
    let by_x = way_on (length xs) (length ys) w.far i j i place next_i x.far w.way (omega arith) ip pn x.counts in
    let by_y = way_on (length ys) (length xs) (w.far + x.far + (i - i)) j next_i (j + 1) next_j next_j y.far
    (way_swap (length xs) (length ys) (w.far + x.far + (i - i)) next_i j by_x) (omega arith) jn (omega arith)
    y.counts in
    record {
      turns = w.turns + 1;
      far = w.far + x.far + (i - i) + y.far + (j + 1 - j);
      spent = spent_turn _ w.spent ea x.sought ee y.sought (omega arith);
      way = way_swap (length ys) (length xs) (w.far + x.far + (i - i) + y.far + (j + 1 - j)) next_j next_i by_y;
      by_x = let t = w.by_x in let s = w.by_y in
          ⊎_elim (λ (h : 0 < j). let o = on_x h in omega arith) (λ (h : j ≤ 0). omega arith) (cases_lt 0 j);
      by_y = let t = w.by_y in omega arith;
      some_x = λ _. omega arith;
      begun = λ h. absurd (omega arith);
      passed = λ d p q cut known.
          let v = w.passed d p q cut known in
          let few = v.few in
          let by_y : cut.y_cut w.turns ≤ j =
          ⊎_elim (λ (h : cut.y_cut w.turns ≤ j). h) (λ (h : D j). absurd (live j (omega arith) h)) v.by_y in
          let more : w.turns < d =
          ⊎_elim
          (λ (h : w.turns < d). h)
          (λ (h : d ≤ w.turns). absurd (not_all D w.turns i j cut known (omega arith) v.by_x by_y hi hj live))
          (cases_lt w.turns d) in
          let in_x = cut.x_within (w.turns + 1) in
          let in_y = cut.y_within (w.turns + 1) in
          let by_x : cut.x_cut (w.turns + 1) ≤ next_i =
          ⊎_elim
          (λ (h : next_i < cut.x_cut (w.turns + 1)).
          let s = px next_i (omega arith) (cut.x_run w.turns next_i j more h by_y hj) in
          absurd (omega arith))
          (λ (h : cut.x_cut (w.turns + 1) ≤ next_i). h)
          (cases_lt next_i (cut.x_cut (w.turns + 1))) in
          record {
            few = omega arith;
            by_x = by_x;
            by_y = ⊎_elim
                (λ (h : next_j < cut.y_cut (w.turns + 1)).
                inr (dy (omega arith) (λ g. cut.y_run w.turns next_i next_j more h by_x g)))
                (λ (h : cut.y_cut (w.turns + 1) ≤ next_j). inl h)
                (cases_lt next_j (cut.y_cut (w.turns + 1)));
          };
    }

-- and by the sizes of the lists
few_from : (a b d k last : ℕ) → d ≡ min a b → 0 < d → max a b ≤ (d + 1) * 2 ^ k
    → FewForTurns (a + b) (d + 1) last → last ≤ 42 * d * (1 + k) + 42
few_from a b d k last e some h all =
    let two : 2 ^ suc k ≡ 2 * 2 ^ k = let s = pow-suc 2 k in omega arith in
    let twice : d * 2 ^ suc k ≡ d * (2 * 2 ^ k) = ap (λ x. d * x) two in
    let l = all (suc k) (omega arith) in
    let p : 1 * k ≤ d * k = mul-le-mul_right k some in
    omega arith

-- the looks of a walk that ends in a turn, and `more` before it: by its turns, by the sizes of the lists, for each cell
pub walked_to_end : {D : ℕ → Type 0} {xs ys : List ℕ} {looks i j a b : ℕ} (p last more : ℕ) →
    Walked D xs ys looks i j → a ≤ looks + 1 → SoughtAlong a b (length xs) i i p → i ≤ p → p ≤ length xs →
    j ≤ length ys → last ≤ b + 1 + more → more ≤ 4 → more ≤ 4 * length xs → more ≤ 4 * (length ys - j) →
    (j < length ys) ⊎ (p ≡ i) → FewLooks D xs ys last
walked_to_end {D} {xs} {ys} {looks} {i} {j} {a} {b} p last more w ea sb ip in_p in_j el two by_m by_n end =
    let m = length xs in
    let n = length ys in
    let x = found_along a b m i i p sb in_p in
    let way = way_on m n w.far i j i p p x.far w.way (omega arith) ip (omega arith) x.counts in
    let most_x = way.most_x in
    let most_y = way.most_y in
    let all = way.all in
    let by_x = w.by_x in
    let by_y = w.by_y in
    let spent : (d : ℕ) → w.turns ≤ d → (m + n ≤ d + 1 → 4 * w.turns + more ≤ 4 * d) → FewForTurns (m + n) d last =
    λ d few rest. spent_last last more (m + n) d w.spent ea x.sought el few two rest (omega arith) in
    record {
      turns = λ d u v cut known. let few = (w.passed d u v cut known).few in spent d few (λ h. omega arith);
      sizes = λ k h.
          let one : 2 ^ 0 ≡ 1 = refl in
          let through = spent (m + n) (omega arith) (λ g. omega arith) 0 (omega arith) in
          let few : last ≤ 42 * min m n * (1 + k) + 42 =
          ⊎_elim
          (λ (some : 0 < min m n).
          few_from m n (min m n) k last refl some h (spent (min m n + 1) (omega arith) (λ g. omega arith)))
          (λ (none : min m n ≤ 0).
          let still : w.turns ≡ 0 =
          ⊎_elim (λ (t : 0 < w.turns). let s = w.some_x t in omega arith) (λ (t : w.turns ≤ 0). omega arith)
          (cases_lt 0 w.turns) in
          let begun = w.begun still in
          let near : w.far ≡ 0 = omega arith in
          let paid : looks * 2 ^ 0 + 2 * 0 ≤ (4 * 0 + 6) * (2 ^ 0 * 0) + 2 * 0 =
          rw (still, near) at (w.spent.most 0) in
          let short : p ≤ i = ⊎_elim (λ (l : j < n). omega arith) (λ (e : p ≡ i). omega arith) end in
          let s = sb 0 (omega arith) (λ z l. absurd (omega arith)) in
          omega arith)
          (cases_lt 0 (min m n)) in
          omega arith;
    }

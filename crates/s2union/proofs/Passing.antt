-- A run of a list that goes by as a whole.
use Rattle.std.proofs.Common.{◌≡◌, ℕ, ◌+◌, ◌-◌, ◌<◌, refl, sym, ap, ◌∙◌, subst, arith, List, [], ◌∷◌, ◌++◌, length}
use Rattle.std.proofs.Common.{take, drop, reverse, get_or, slice_get, Some, append_assoc, length-append}
use Rattle.std.proofs.lemmas.List.{get_or-append_right, length-reverse, length-take-le, reverse-append, reverse-reverse}
use Rattle.std.proofs.lemmas.List.{take-append-drop, take_at, take_more, drop_more, get_or-take}
use Rattle.s2cell.specs.Cell.{IsCell}
use Rattle.s2list.specs.Packed.{IsPacked}
use Rattle.s2union.specs.Working.Tail.{Continues, Follows, IsTail, Passes}
use Rattle.s2union.specs.declared.apply.Tail.{Tail}
use Rattle.s2union.specs.Apply.{applied, Fits}
use Rattle.s2union.specs.Working.Merge.{Left, CanApply, Keeps, made_list}
use Rattle.s2list.proofs.Packing.{packed_take}
use Rattle.s2list.proofs.Checking.{packed_from_local}
use Rattle.s2union.proofs.Following.{follow_packed}
use Rattle.s2union.proofs.Ending.{Seen, can_from, from_end, packed_front, packed_with, follows_packed, tail_with}

-- the cells of a run after those before it, read from their end
pub reverse_back : (run back : List ℕ) → reverse (reverse run ++ back) ≡ reverse back ++ run
reverse_back run back = reverse-append (reverse run) back ∙ ap (λ l. reverse back ++ l) (reverse-reverse run)

-- the first `n` cells of the run went by
pub record Passing (old now : Tail) (run : List ℕ) (n : ℕ) : Type 0 where
  pub packed : (back : List ℕ) → IsTail old back → IsPacked (reverse back) → IsPacked (reverse back ++ take n run)
  pub ends : (back : List ℕ) → IsTail old back → IsPacked (reverse back) → IsTail now (reverse (take n run) ++ back)

-- what went by with the first cells of the run is packed, read from its end
passed : {old now : Tail} {run : List ℕ} {n : ℕ} {back : List ℕ} → Passing old now run n →
    IsTail old back → IsPacked (reverse back) → IsPacked (reverse (reverse (take n run) ++ back))
passed {run} {n} {back} s i p = subst IsPacked (sym (reverse_back (take n run) back)) (s.packed back i p)

pub passing_more : {old now : Tail} {run : List ℕ} {n cell : ℕ} →
    Passing old now run n → n < length run → cell ≡ get_or run n 0 → IsCell cell →
    Follows now cell → Passing old (record { last = Some cell; second = now.last; third = now.second }) run (n + 1)
passing_more {old} {now} {run} {n} {cell} s h r c f =
    let more : take (n + 1) run ≡ take n run ++ cell ∷ [] = take_more run n 0 h
    ∙ ap (λ x. take n run ++ x ∷ []) (sym r) in
    record {
      packed = λ back i p.
          let back_now = reverse (take n run) ++ back in
          let q : IsPacked (reverse back_now ++ cell ∷ []) =
          packed_with (s.ends back i p) (passed s i p) c f in
          let whole : reverse back_now ++ cell ∷ [] ≡ reverse back ++ take (n + 1) run =
          ap (λ l. l ++ cell ∷ []) (reverse_back (take n run) back)
          ∙ append_assoc (reverse back) (take n run) (cell ∷ []) ∙ ap (λ l. reverse back ++ l) (sym more) in
          subst IsPacked whole q;
      ends = λ back i p.
          let back_now = reverse (take n run) ++ back in
          let whole : cell ∷ back_now ≡ reverse (take (n + 1) run) ++ back =
          ap (λ l. l ++ back) (sym (ap (λ (l : List ℕ). reverse l) more ∙ reverse-append (take n run) (cell ∷ []))) in
          subst (IsTail (record { last = Some cell; second = now.last; third = now.second })) whole
          (tail_with cell (s.ends back i p));
    }

-- a cell of the run that may not come next
pub passing_fails : {old now : Tail} {run : List ℕ} {n : ℕ} (cell : ℕ) →
    Passing old now run n → n < length run → cell ≡ get_or run n 0 → (Follows now cell → ⊥) →
    (back : List ℕ) → IsTail old back → IsPacked (reverse back) → IsPacked (reverse back ++ run) → ⊥
passing_fails {now} {run} {n} cell s h r fails back i p q =
    let rest : run ≡ take n run ++ cell ∷ drop (n + 1) run = sym (take-append-drop n run)
    ∙ ap (λ l. take n run ++ l) (drop_more run n 0 h ∙ ap (λ x. x ∷ drop (n + 1) run) (sym r)) in
    let whole : reverse back ++ run ≡ reverse (reverse (take n run) ++ back) ++ cell ∷ drop (n + 1) run =
    ap (λ l. reverse back ++ l) rest ∙ sym (append_assoc (reverse back) (take n run) (cell ∷ drop (n + 1) run))
    ∙ ap (λ l. l ++ cell ∷ drop (n + 1) run) (sym (reverse_back (take n run) back)) in
    fails (follows_packed cell (s.ends back i p)
    (packed_front (reverse (reverse (take n run) ++ back)) (drop (n + 1) run) cell (subst IsPacked whole q)))

-- a cell near the end of a run, by its place from the end
near_end : (run back : List ℕ) (k x : ℕ) → k < length run → x ≡ get_or run (length run - 1 - k) 0 →
    Some x ≡ slice_get (reverse run ++ back) k
near_end run back k x h r =
    let m = length run - 1 - k in
    let nb : length (reverse back) ≡ length back = length-reverse back in
    let nr : length (reverse run) ≡ length run = length-reverse run in
    let n : length (reverse run ++ back) ≡ length run + length back = length-append (reverse run) back
    ∙ ap (λ i. i + length back) nr in
    let j = length (reverse back) + m in
    let there : j - length (reverse back) ≡ m = omega arith in
    let at : get_or (reverse (reverse run ++ back)) j 0 ≡ x =
    ap (λ l. get_or l j 0) (reverse_back run back)
    ∙ get_or-append_right (reverse back) run (length (reverse back)) j 0 refl (omega arith)
    ∙ ap (λ i. get_or run i 0) there ∙ sym r in
    sym (from_end (reverse run ++ back) k j (omega arith) ∙ ap (λ (i : ℕ). Some i) at)

-- once its first three cells went by, the others follow as in the list
pub passing_rest : (passes : Type 0) {old now : Tail} {run : List ℕ} (third second last : ℕ) →
    passes → Passing old now run 3 → 3 < length run → IsPacked run → third ≡ get_or run (length run - 3) 0 →
    second ≡ get_or run (length run - 2) 0 → last ≡ get_or run (length run - 1) 0 →
    Passes passes old (record { last = Some last; second = Some second; third = Some third }) run
passing_rest passes {run} third second last passed_by s h packed r3 r2 r1 =
    let e3 : length run - 3 ≡ length run - 1 - 2 = omega arith in
    let e2 : length run - 2 ≡ length run - 1 - 1 = omega arith in
    let e1 : length run - 1 ≡ length run - 1 - 0 = omega arith in
    let three : length (take 3 run) ≡ 3 = length-take-le 3 run (omega arith) in
    record {
      exact = λ back i p. (
        λ _.
            let list = reverse back ++ take 3 run in
            let n : length list ≡ length (reverse back) + 3 = length-append (reverse back) (take 3 run)
            ∙ ap (λ k. length (reverse back) + k) three in
            let ends : Continues list run 3 = record {
              within = λ k a b. omega arith;
              same = λ k a b.
                  let m : k - length (reverse back) ≡ k + 3 - length list = omega arith in
                  get_or-append_right (reverse back) (take 3 run) (length (reverse back)) k 0 refl (omega arith)
                  ∙ get_or-take 3 run (k - length (reverse back)) 0 (omega arith) ∙ ap (λ x. get_or run x 0) m;
            } in
            subst IsPacked (append_assoc (reverse back) (take 3 run) (drop 3 run)
            ∙ ap (λ l. reverse back ++ l) (take-append-drop 3 run))
            (follow_packed (s.packed back i p) packed (omega arith) ends),
        λ _. passed_by,
      );
      ends = λ back i p _. record {
        last = near_end run back 0 last (omega arith) (subst (λ k. last ≡ get_or run k 0) e1 r1);
        second = near_end run back 1 second (omega arith) (subst (λ k. second ≡ get_or run k 0) e2 r2);
        third = near_end run back 2 third (omega arith) (subst (λ k. third ≡ get_or run k 0) e3 r3);
      };
    }

-- the walk goes on after a run
pub seen_run : (passes : Type 0) {start now next : Left} {old new : Tail} {run : List ℕ} →
    Seen start now old → Keeps run now next → Passes passes old new run → passes → Seen start next new
seen_run passes {next} {run} s g p passed_by = record {
  back = reverse run ++ s.back;
  ends = p.ends s.back s.ends s.packed passed_by;
  packed = subst IsPacked (sym (reverse_back run s.back)) ((p.exact s.back s.ends s.packed).0 passed_by);
  same = (λ h. g.same.0 (s.same.0 h), λ h. s.same.1 (g.same.1 h));
  gives = λ h. ap (λ l. l ++ made_list next) (reverse_back run s.back) ∙ append_assoc (reverse s.back) run
      (made_list next) ∙ ap (λ zs. reverse s.back ++ zs) (sym (g.gives (s.same.0 h))) ∙ s.gives h;
}

-- or the change fits not
pub unfit_run : (passes : Type 0) {out put u : List ℕ} {now next : Left} {old new : Tail} {run : List ℕ} →
    Seen (record { out = out; put = put; cells = u }) now old →
    Keeps run now next → Passes passes old new run → (passes → ⊥) → Fits out put u → ⊥
unfit_run passes {out} {put} {u} {next} {run} s g p fails f =
    let can : CanApply (record { out = out; put = put; cells = u }) = can_from f in
    let whole : (reverse s.back ++ run) ++ made_list next ≡ applied out put u =
    append_assoc (reverse s.back) run (made_list next) ∙ ap (λ zs. reverse s.back ++ zs) (sym (g.gives (s.same.0 can)))
    ∙ s.gives can in
    let all : IsPacked ((reverse s.back ++ run) ++ made_list next) =
    subst IsPacked (sym whole) (packed_from_local (applied out put u) f.local) in
    let n = length-append (reverse s.back ++ run) (made_list next) in
    let front : IsPacked (reverse s.back ++ run) =
    subst IsPacked (take_at (reverse s.back ++ run) (made_list next) (length (reverse s.back ++ run)) refl)
    (packed_take (length (reverse s.back ++ run)) ((reverse s.back ++ run) ++ made_list next) (omega arith) all) in
    fails ((p.exact s.back s.ends s.packed).1 front)

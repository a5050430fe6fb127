use Rattle.std.proofs.Common.{◌≡◌, ℕ, ◌+◌, ◌-◌, ◌*◌, ◌<◌, ◌≤◌, length, get_or, refl, sym, ◌∙◌}
use Rattle.std.proofs.Common.{arith, inl, inr}
use Rattle.std.proofs.lemmas.Bool.{false≢true}
use Rattle.s2cell.specs.Cell.{IsCell}
use Rattle.s2list.specs.Union.{IsLocal}
use Rattle.s2list.specs.Packed.{FirstEndBy}
use Rattle.s2list.specs.Working.Walk.{Decides, Settles, OpenTo, After, FewLooks}
use Rattle.s2list.proofs.Checking.{packed_from_local}
use Rattle.s2list.proofs.Finding.{ended_to}
use Rattle.s2list.proofs.Looking.{sought_from, sought_here, walked_to_end, walked_more, walked_none}
use Rattle.s2list.proofs.Turns.{Placed, Turned, placed, open_by, open_more, ended_after, begun_by, decides_next}
use Rattle.s2list.proofs.Turns.{after_on, after_within, not_both, gets_on, ends_after, settled, lacking, open_rest}
use Rattle.s2list.proofs.walk.is_decided.Given.{Over}
use Rattle.s2list.proofs.walk.is_decided.Goals as goal
use Rattle.s2list.proofs.walk.is_decided.Goals.{After-find_along-i, After-find_along-j}

pub loop-j-init : goal.loop-j-init
loop-j-init g c = record {
  in_x = omega arith;
  in_y = omega arith;
  ended = λ lx ly h k l. absurd (omega arith);
  left_open = λ lx ly k l. absurd (omega arith);
  walked = λ lx ly. walked_none _ _ _ _ (omega arith);
  after = λ lx ly e h. absurd (omega arith);
  least = omega arith;
  some = λ h. absurd (omega arith);
}

-- where the search in `xs` has ended
found : (g : Over) (c : After-find_along-i g) → IsLocal (g.X.Listed.ids c.args.xs.now) →
    IsLocal (g.Y.Listed.ids c.args.ys.now) → Placed (g.X.Listed.ids c.args.xs.now) (g.Y.Listed.ids c.args.ys.now)
    c.find_along-i.result c.loop-j.j
found g c lx ly =
    let n = c.len-n.ensures in
    let hj : c.loop-j.j < length (g.Y.Listed.ids c.args.ys.now) = omega arith in
    placed (g.X.Listed.ids c.args.xs.now) (g.Y.Listed.ids c.args.ys.now) c.loop-j.i c.find_along-i.result c.loop-j.j lx
    ly hj c.look-y.ensures.id c.first_of.ensures c.find_along-i.ensures.ended c.find_along-i.ensures.next
    (c.loop-j.invariant.ended lx ly hj)

-- what a walk that ends here has looked at
ended : (g : Over) (c : After-find_along-i g) (last more : ℕ) → IsLocal (g.X.Listed.ids c.args.xs.now) →
    IsLocal (g.Y.Listed.ids c.args.ys.now) →
    last ≤ g.K.Count.looks c.find_along-i.new.count - g.K.Count.looks c.args.count.now + 1 + more → more ≤ 4 →
    more ≤ 4 * length (g.X.Listed.ids c.args.xs.now) →
    FewLooks (λ k. Decides c.args.question (g.X.Listed.ids c.args.xs.now) (get_or (g.Y.Listed.ids c.args.ys.now) k 0))
    (g.X.Listed.ids c.args.xs.now) (g.Y.Listed.ids c.args.ys.now) last
ended g c last more lx ly few four by_m =
    let n = c.len-n.ensures in
    let fi = c.find_along-i.ensures in
    let more_y = c.look-y.ensures.count in
    walked_to_end
    {D = λ k. Decides c.args.question (g.X.Listed.ids c.args.xs.now) (get_or (g.Y.Listed.ids c.args.ys.now) k 0)}
    c.find_along-i.result last more (c.loop-j.invariant.walked lx ly) (omega arith)
    (sought_from (g.K.Count.looks c.args.count.now) (g.K.Count.looks c.look-y.new.count)
    (g.K.Count.looks c.find_along-i.new.count) _ _ _ _ fi.looks)
    fi.from fi.within (omega arith) few four by_m (omega arith) (inl (omega arith))

pub returns-then-i-m-clause-found : goal.returns-then-i-m-clause-found
returns-then-i-m-clause-found g c lx ly e =
    let m = c.len-m.ensures in
    let n = c.len-n.ensures in
    let p = found g (goal.at.returns-then-i-m-clause-found g c).After-find_along-i lx ly in (
      c.loop-j.j,
      omega arith,
      lacking c.args.question c.find_along-i.result c.loop-j.j lx (omega arith) p
          (sym c.lacks.ensures ∙ e),
    )

pub returns-then-i-m-clause-none : goal.returns-then-i-m-clause-none
returns-then-i-m-clause-none g c lx ly e =
    let m = c.len-m.ensures in
    let p = found g (goal.at.returns-then-i-m-clause-none g c).After-find_along-i lx ly in
    open_rest c.args.question c.find_along-i.result c.loop-j.j lx ly (omega arith) p
    (c.loop-j.invariant.left_open lx ly) (sym c.lacks.ensures ∙ e)

pub returns-then-i-m-clause-looks : goal.returns-then-i-m-clause-looks
returns-then-i-m-clause-looks g c lx ly more four by_m =
    ended g (goal.at.returns-then-i-m-clause-looks g c).After-find_along-i _ more lx ly (omega arith) four by_m

pub returns-then-settles-clause-found : goal.returns-then-settles-clause-found
returns-then-settles-clause-found g c lx ly e =
    let xs = g.X.Listed.ids c.args.xs.now in
    let ys = g.Y.Listed.ids c.args.ys.now in
    let m = c.len-m.ensures in
    let n = c.len-n.ensures in
    let i = c.find_along-i.result in
    let p = found g (goal.at.returns-then-settles-clause-found g c).After-find_along-i lx ly in
    let cx : IsCell (get_or xs i 0) = lx.cells i 0 (omega arith) in
    let test = rw (c.look-x.ensures.id, c.look-y.ensures.id) at (c.settles.ensures (rw c.look-x.ensures.id cx)
    (rw c.look-y.ensures.id p.cell)) in
    (c.loop-j.j, omega arith, settled c.args.question i c.loop-j.j lx (omega arith) p (test.0 c.if-settles.true))

pub returns-then-settles-clause-looks : goal.returns-then-settles-clause-looks
returns-then-settles-clause-looks g c lx ly more four by_m =
    let more_x = c.look-x.ensures.count in
    ended g (goal.at.returns-then-settles-clause-looks g c).After-find_along-i _ more lx ly (omega arith) four by_m

pub returns-clause-looks : goal.returns-clause-looks
returns-clause-looks g c lx ly more four by_m =
    let v = c.loop-j.invariant in
    let in_x = v.in_x in
    let in_y = v.in_y in
    let looks = g.K.Count.looks c.loop-j.count - g.K.Count.looks c.args.count.now in
    walked_to_end c.loop-j.i _ 0 (v.walked lx ly) (omega arith)
    (sought_here (looks + 1) (length (g.X.Listed.ids c.args.xs.now)) c.loop-j.i c.loop-j.i)
    (omega arith) (omega arith) (omega arith) (omega arith) (omega arith) (omega arith) (omega arith) (inr refl)

turned : (g : Over) (c : After-find_along-j g) → IsLocal (g.X.Listed.ids c.args.xs.now) →
    IsLocal (g.Y.Listed.ids c.args.ys.now) → Placed (g.X.Listed.ids c.args.xs.now) (g.Y.Listed.ids c.args.ys.now)
    c.find_along-i.result c.loop-j.j → Turned c.args.question (g.X.Listed.ids c.args.xs.now)
    (g.Y.Listed.ids c.args.ys.now) c.find_along-i.result c.loop-j.j c.find_along-j.result
turned g c lx ly p =
    let q = c.args.question in
    let xs = g.X.Listed.ids c.args.xs.now in
    let ys = g.Y.Listed.ids c.args.ys.now in
    let m = c.len-m.ensures in
    let n = c.len-n.ensures in
    let i = c.find_along-i.result in
    let j = c.loop-j.j in
    let hi : i < length xs = omega arith in
    let hj : j < length ys = omega arith in
    let fj = c.find_along-j.ensures in
    let cx : IsCell (get_or xs i 0) = lx.cells i 0 hi in
    let stop : c.open_to.result ≡ OpenTo q (get_or xs i 0) =
    rw c.look-x.ensures.id at (c.open_to.ensures (rw c.look-x.ensures.id cx)) in
    let test = rw (c.look-x.ensures.id, c.look-y.ensures.id) at (c.settles.ensures (rw c.look-x.ensures.id cx)
    (rw c.look-y.ensures.id p.cell)) in
    let not_yet : Settles q (get_or xs i 0) (get_or ys j 0) → ⊥ =
    λ s. false≢true (sym c.if-settles.false ∙ test.1 s) in
    let py = packed_from_local ys ly in
    let begun : FirstEndBy ys (j + 1) (OpenTo q (get_or xs i 0)) =
    ended_to ys j (OpenTo q (get_or xs i 0)) py hj (open_by q (get_or xs i 0) (get_or ys j 0) not_yet) in
    record {
      in_x = hi;
      in_y = hj;
      place = p;
      left_open = not_yet;
      passed = rw stop at (fj.ended py (rw stop begun));
      ends = rw stop at (fj.next py (rw stop begun));
      on = let f = fj.from in omega arith;
      within = fj.within;
    }

pub loop-j-preserved : goal.loop-j-preserved
loop-j-preserved g c =
    let q = c.args.question in
    let m = c.len-m.ensures in
    let n = c.len-n.ensures in
    let v = c.loop-j.invariant in
    let i = c.find_along-i.result in
    let j = c.loop-j.j in
    let next = c.find_along-j.result in
    let fi = c.find_along-i.ensures in
    let fj = c.find_along-j.ensures in
    let at = goal.at.loop-j-preserved g c in
    let turn : IsLocal (g.X.Listed.ids c.args.xs.now) → IsLocal (g.Y.Listed.ids c.args.ys.now) →
    Turned q (g.X.Listed.ids c.args.xs.now) (g.Y.Listed.ids c.args.ys.now) i j next =
    λ lx ly. turned g at.After-find_along-j lx ly (found g at.After-find_along-i lx ly) in
    let more_y = c.look-y.ensures.count in
    let more_x = c.look-x.ensures.count in
    record {
      in_x = rw c.after-i.ensures (after_within q (omega arith));
      in_y = fj.within;
      ended = λ lx ly. rw c.after-i.ensures (ended_after q i j next lx ly (turn lx ly));
      left_open = λ lx ly. open_more q i j next lx ly (turn lx ly) (v.left_open lx ly);
      walked = λ lx ly.
          let t = turn lx ly in
          let on = fi.from in
          let far = fj.from in
          let old = g.K.Count.looks c.args.count.now in
          let at_y = g.K.Count.looks c.look-y.new.count in
          let by_x = g.K.Count.looks c.find_along-i.new.count in
          let at_x = g.K.Count.looks c.look-x.new.count in
          let by_y = g.K.Count.looks c.find_along-j.new.count in
          rw c.after-i.ensures
          (walked_more (at_y - old) (by_x - old) (at_x - old) (by_y - old) i (After q i) next (v.walked lx ly)
          (omega arith) t.in_y
          (λ l h. not_both q _ _ (open_more q i j next lx ly t (v.left_open lx ly) l (omega arith)))
          (begun_by q i j next lx t) (decides_next q i j next lx ly t)
          (omega arith) (sought_from old at_y by_x _ _ _ _ fi.looks) fi.from (after_on q i) fi.within (omega arith)
          (sought_from old at_x by_y _ _ _ _ fj.looks) fj.from fj.within
          (gets_on q c.loop-j.i i j next t fi.from (v.after lx ly)));
      after = λ lx ly e _. rw c.after-i.ensures (ends_after q i j next (turn lx ly) e);
      least = let a = fi.least in let b = fj.least in let l = v.least in omega arith;
      some = λ _. let a = fi.least in let b = fj.least in let l = v.least in omega arith;
    }

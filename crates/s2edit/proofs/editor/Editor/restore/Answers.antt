use Rattle.std.proofs.Common.{◌≡◌, ◌+◌, ◌≤◌, ◌&&◌, ℕ, Bool, true, List, length, map, sym, ap, ◌∙◌, reverse}
use Rattle.std.proofs.Common.{subst, arith}
use Rattle.std.proofs.lemmas.List.{length-map}
use Rattle.std.proofs.lemmas.Result.{err_from_is_err_and}
use Rattle.circular_buffer.specs.Buffer.{Buffer}
use Rattle.std.specs.List.{AllByRecursion}
use Rattle.s2list.specs.Union.{Union}
use Rattle.s2edit.specs.Diff.{Diff, inverse}
use Rattle.s2edit.specs.Content.{Content, diff_of, content_of, IsMove}
use Rattle.s2edit.specs.declared.TheConstants.{SESSION_CELLS}
use Rattle.s2edit.specs.History.{History, AllLists}
use Rattle.s2edit.specs.Working.Chain.{lists_of, AllWithin, FitAlong, history}
use Rattle.s2edit.specs.Session.{Records, Restored, IsTooDeep, IsTooMany}
use Rattle.s2edit.specs.Working.Following.{FailsToFollow, MakesChanges}
use Rattle.s2edit.proofs.Contents.{turned, all_reverse}
use Rattle.s2edit.proofs.Following.{have_room, keep_room, keep_count}
use Rattle.s2edit.proofs.Restoring.{registers_within, follows, too_deep, too_many, past_fails, future_fails, not_three}
use Rattle.s2edit.proofs.Restoring.{three, back_side, ahead_side, left_within, left_past, left_future, left_bound}
use Rattle.s2edit.proofs.Restoring.{left_restored, inverted_moved, inverted_twice, inverted_count}
use Rattle.s2edit.proofs.editor.Editor.restore.Goals.{After-len-2}
use Rattle.s2edit.proofs.editor.Editor.restore.Goals as goal

pub fit-requires-clause-within : goal.fit-requires-clause-within
fit-requires-clause-within c =
    rw c.deref.ensures.value (registers_within (lists_of c.args.session.registers.items) c.requires.registers)

pub fit-requires-clause-each : goal.fit-requires-clause-each
fit-requires-clause-each c =
    let s = c.args.session in
    rw c.deref-2.ensures.value (inverted_moved (map diff_of c.reverse.new.self.items)
    (map diff_of c.invert.new.moves.items) c.invert.ensures (subst (AllByRecursion IsMove)
    (sym (turned s.past.items c.reverse.new.self.items c.reverse.ensures.items))
    (all_reverse IsMove (map diff_of s.past.items) c.requires.past)))

pub fit-requires-2-clause-within : goal.fit-requires-2-clause-within
fit-requires-2-clause-within c =
    rw c.deref-3.ensures.value (registers_within (lists_of c.args.session.registers.items) c.requires.registers)

pub returns-in_err-past_within-clause-answer : goal.returns-in_err-past_within-clause-answer
returns-in_err-past_within-clause-answer c =
    let s = c.args.session in
    let fault = c.in_err-past_within.field-0.0 in
    let p = err_from_is_err_and c.from_residual.result c.from_residual.ensures.1 in
    rw (p.1, p.2) (past_fails (content_of s) c.args.self.now fault
    (back_side (λ (t : List (List ℕ)) (ds : List Diff). FailsToFollow fault (FitAlong SESSION_CELLS t ds))
    s.registers.items c.deref.result.now c.invert.new.moves.items c.deref-2.result.now c.reverse.new.self.items
    s.past.items c.deref.ensures.value c.deref-2.ensures.value c.reverse.ensures.items c.invert.ensures
    c.in_err-past_within.ensures))

pub returns-in_err-future_within-clause-answer : goal.returns-in_err-future_within-clause-answer
returns-in_err-future_within-clause-answer c =
    let s = c.args.session in
    let fault = c.in_err-future_within.field-0.0 in
    let p = err_from_is_err_and c.from_residual-in_err-future_within.result
    c.from_residual-in_err-future_within.ensures.1 in
    rw (p.1, p.2) (future_fails (content_of s) c.args.self.now fault
    (ahead_side (λ (t : List (List ℕ)) (ds : List Diff). FailsToFollow fault (FitAlong SESSION_CELLS t ds))
    s.registers.items c.deref-3.result.now s.future.items c.deref-4.result.now
    c.deref-3.ensures.value c.deref-4.ensures.value c.in_err-future_within.ensures))

-- the past is again as it was, turned round
past_is : (c : After-len-2) → map diff_of c.invert-2.new.moves.items ≡ reverse (map diff_of c.args.session.past.items)
past_is c = inverted_twice c.args.session.past.items c.reverse.new.self.items c.invert.new.moves.items
    c.invert-2.new.moves.items c.reverse.ensures.items c.invert.ensures c.invert-2.ensures

-- how many changes the session has
counted : (c : After-len-2) → c.len.result + c.len-2.result
    ≡ length (map diff_of c.args.session.past.items) + length (map diff_of c.args.session.future.items)
counted c = omega (
  arith,
  c.len.ensures,
  c.len-2.ensures,
  inverted_count c.args.session.past.items c.invert-2.new.moves.items (past_is c),
  c.args.session.future.ok,
  c.invert-2.new.moves.ok,
  length-map c.args.session.future.items diff_of,
)

-- what the tests of both sides say
past_made : (c : After-len-2) → MakesChanges c.self.inside.limit (lists_of c.args.session.registers.items)
    (map inverse (reverse (map diff_of c.args.session.past.items))) c.in_ok-past_within.past_within
past_made c =
    let s = c.args.session in
    back_side (λ (t : List (List ℕ)) (ds : List Diff).
    MakesChanges c.self.inside.limit t ds c.in_ok-past_within.past_within) s.registers.items c.deref.result.now
    c.invert.new.moves.items c.deref-2.result.now c.reverse.new.self.items s.past.items
    c.deref.ensures.value c.deref-2.ensures.value c.reverse.ensures.items c.invert.ensures
    c.in_ok-past_within.ensures

future_made : (c : After-len-2) → MakesChanges c.self.inside.limit (lists_of c.args.session.registers.items)
    (map diff_of c.args.session.future.items) c.in_ok-future_within.future_within
future_made c =
    let s = c.args.session in
    ahead_side (λ (t : List (List ℕ)) (ds : List Diff).
    MakesChanges c.self.inside.limit t ds c.in_ok-future_within.future_within) s.registers.items c.deref-3.result.now
    s.future.items c.deref-4.result.now
    c.deref-3.ensures.value c.deref-4.ensures.value c.in_ok-future_within.ensures

pub returns-then-len-self-clause-answer : goal.returns-then-len-self-clause-answer
returns-then-len-self-clause-answer c =
    let s = content_of c.args.session in
    let e = c.self.inside in
    let g = (goal.at.returns-then-len-self-clause-answer c).After-len-2 in
    subst (IsTooDeep (Records s)) c.self.view_is
    (too_deep s c.requires (history e.limit e.depth e.registers.items e.past.items e.future.items)
    (follows s c.requires e.limit c.in_ok-past_within.past_within c.in_ok-future_within.future_within
    (past_made g) (future_made g)) (omega (arith, c.if-len-self.true, counted g)))

pub returns-then-not-both-clause-answer : goal.returns-then-not-both-clause-answer
returns-then-not-both-clause-answer c =
    let s = content_of c.args.session in
    let e = c.self.inside in
    let p = c.in_ok-past_within.past_within in
    let f = c.in_ok-future_within.future_within in
    let g = (goal.at.returns-then-not-both-clause-answer c).After-len-2 in
    let a = past_made g in
    let b = future_made g in
    let failed = sym (c.both.ensures ∙ ap (λ (x : Bool). x && c.are_within.result) c.both-changes_within.ensures)
    ∙ c.if-not-both.true in
    subst (IsTooMany (Records s)) c.self.view_is
    (too_many s c.requires (history e.limit e.depth e.registers.items e.past.items e.future.items)
    (follows s c.requires e.limit p f a b) (omega (arith, c.if-len-self.false, counted g))
    (λ now past future. not_three p f c.are_within.result failed (a.many past) (b.many future)
    (c.are_within.ensures.1 (subst (λ (us : List Union). AllLists (λ u. length u ≤ e.limit) (lists_of us))
    (sym c.deref-5.ensures.value) now))))

pub take_all-requires : goal.take_all-requires
take_all-requires c =
    let s = c.args.session in
    let e = c.self.inside in
    let passed = sym (c.both.ensures ∙ ap (λ (x : Bool). x && c.are_within.result) c.both-changes_within.ensures)
    ∙ c.if-not-both.false in
    let few = subst (λ (us : List Union). AllLists (λ u. length u ≤ e.limit) (lists_of us)) c.deref-5.ensures.value
    (c.are_within.ensures.0 (three c.in_ok-past_within.past_within c.in_ok-future_within.future_within
    c.are_within.result passed).2) in
    record {
      room = have_room e.limit (lists_of s.registers.items) e.registers.items
          (c.requires.count ∙ sym c.self.invariant.count) few c.self.invariant.registers_roomy;
    }

pub fill-requires-clause-each : goal.fill-requires-clause-each
fill-requires-clause-each c =
    subst (AllByRecursion IsMove) (sym (past_is (goal.at.fill-requires-clause-each c).After-len-2))
    (all_reverse IsMove (map diff_of c.args.session.past.items) c.requires.past)

-- what is known once everything was taken over
pub record Taken (limit depth : ℕ) (us us' : List Union) (past' future' : List Diff) (s : Content) : Type 0 where
  pub within : AllWithin limit (lists_of us')
  pub past : FitAlong limit (lists_of us') (map inverse past')
  pub future : FitAlong limit (lists_of us') future'
  pub bound : length past' + length future' ≤ depth
  pub restored : (past future : List Diff) → Restored (Records s) (history limit depth us past future)
      (history limit depth us' past' future')

taken : (c : goal.After-drop-registers-2) → Taken c.self.inside.limit c.self.inside.depth
    c.self.inside.registers.items c.take_all.new.unions.items c.fill.new.ring.items c.fill-2.new.ring.items
    (content_of c.args.session)
taken c =
    let s = c.args.session in
    let e = c.self.inside in
    let p = c.in_ok-past_within.past_within in
    let f = c.in_ok-future_within.future_within in
    let r = c.are_within.result in
    let us' = c.take_all.new.unions.items in
    let past' = c.fill.new.ring.items in
    let future' = c.fill-2.new.ring.items in
    let g = (goal.at.invariant_of-self c).After-len-2 in
    let a = past_made g in
    let b = future_made g in
    let kept : length (map diff_of s.past.items) + length (map diff_of s.future.items) ≤ e.depth =
    omega (arith, c.if-len-self.false, counted g) in
    let passed = sym (c.both.ensures ∙ ap (λ (x : Bool). x && r) c.both-changes_within.ensures) ∙ c.if-not-both.false in
    let few = λ (h : r ≡ true). subst (λ (us : List Union). AllLists (λ u. length u ≤ e.limit) (lists_of us))
    c.deref-5.ensures.value (c.are_within.ensures.0 h) in
    let lists = c.take_all.ensures.lists in
    let past_filled = ap (λ (b : Buffer Diff). b.items) c.fill.ensures ∙ past_is g in
    let future_is = ap (λ (b : Buffer Diff). b.items) c.fill-2.ensures in
    record {
      within = left_within e.limit e.depth e.registers.items us' past' future' (content_of s) c.requires lists
          past_filled future_is p f r passed a b few kept;
      past = left_past e.limit e.depth e.registers.items us' past' future' (content_of s) c.requires lists past_filled
          future_is p f r passed a b few kept;
      future = left_future e.limit e.depth e.registers.items us' past' future' (content_of s) c.requires lists
          past_filled future_is p f r passed a b few kept;
      bound = left_bound e.limit e.depth e.registers.items us' past' future' (content_of s) c.requires lists
          past_filled future_is p f r passed a b few kept;
      restored = left_restored e.limit e.depth e.registers.items us' past' future' (content_of s) c.requires lists
          past_filled future_is p f r passed a b few kept;
    }

pub returns-clause-answer : goal.returns-clause-answer
returns-clause-answer c =
    let e = c.self.inside in
    let new : History (List ℕ) = history e.limit e.depth c.take_all.new.unions.items c.fill.new.ring.items
    c.fill-2.new.ring.items in
    subst (λ (h : History (List ℕ)). Restored (Records (content_of c.args.session)) h new) c.self.view_is
    ((taken c).restored e.past.items e.future.items)

pub invariant_of-self : goal.invariant_of-self
invariant_of-self c =
    let i = c.self.invariant in
    let e = c.self.inside in
    let t = taken c in
    record {
      limit_bound = i.limit_bound;
      depth_most = i.depth_most;
      count = sym (keep_count e.registers.items c.take_all.new.unions.items c.take_all.ensures.rooms) ∙ i.count;
      past_room = ap (λ (b : Buffer Diff). b.capacity) c.fill.ensures ∙ i.past_room;
      future_room = ap (λ (b : Buffer Diff). b.capacity) c.fill-2.ensures ∙ i.future_room;
      depth_bound = t.bound;
      registers_within = t.within;
      past_fits = t.past;
      future_fits = t.future;
      registers_roomy = keep_room e.limit e.registers.items c.take_all.new.unions.items c.take_all.ensures.rooms
          i.registers_roomy;
      spare_roomy = i.spare_roomy;
    }

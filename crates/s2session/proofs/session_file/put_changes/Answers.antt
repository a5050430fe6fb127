use Rattle.std.proofs.Common.{◌≡◌, ℕ, ◌+◌, List, ◌++◌, length, take, flat_map, slice_get, Some, None, append_assoc}
use Rattle.std.proofs.Common.{sym, ap, ◌∙◌, arith}
use Rattle.std.proofs.lemmas.List.{flat_map_more, take_all}
use Rattle.std.proofs.lemmas.Option.{slice_get_within}
use Rattle.s2list.specs.Numbers.{number_text}
use Rattle.s2session.specs.Session.{move_text}
use Rattle.s2edit.proofs.Places.{take_one, none_past}
use Rattle.s2session.proofs.session_file.put_changes.Goals as goal

module _ {X : Type 0} (text : X → List ℕ) (xs : List X) (k : ℕ) (old head bytes : List ℕ)
    (so_far : bytes ≡ old ++ (head ++ flat_map text (take k xs))) where
  -- the texts of the first items and that of the next one
  one_more : (x : X) (more : List ℕ) → Some x ≡ slice_get xs k → more ≡ bytes ++ text x →
      more ≡ old ++ (head ++ flat_map text (take (k + 1) xs))
  one_more x more at e =
      e ∙ ap (λ (l : List ℕ). l ++ text x) (so_far ∙ sym (append_assoc old head (flat_map text (take k xs))))
      ∙ flat_map_more text (old ++ head) (take k xs) x
      ∙ ap (λ (ys : List X). (old ++ head) ++ flat_map text ys) (sym (take_one xs k x (sym at)))
      ∙ append_assoc old head (flat_map text (take (k + 1) xs))

  -- the texts of all items, once there is no next one
  no_more_left : None ≡ slice_get xs k → bytes ≡ old ++ (head ++ flat_map text xs)
  no_more_left at =
      so_far ∙ ap (λ (ys : List X). old ++ (head ++ flat_map text ys)) (take_all k xs (none_past xs k (sym at)))

pub overflow_add-k : goal.overflow_add-k
overflow_add-k g c =
    let below = slice_get_within (g.C.Changes.list c.args.changes.now) c.loop-change.k c.in-Some.change
    (sym c.in-Some.ensures) in
    omega (arith, below, c.count-count.ensures)

pub loop-change-preserved : goal.loop-change-preserved
loop-change-preserved g c =
    let changes = g.C.Changes.list c.args.changes.now in
    one_more move_text changes c.loop-change.k c.args.bytes.now.items (number_text (length changes))
    c.loop-change.bytes.items c.loop-change.invariant c.in-Some.change c.put_change.new.bytes.items c.in-Some.ensures
    c.in_ok-put_change.ensures

pub loop-change-smaller : goal.loop-change-smaller
loop-change-smaller g c =
    let below = slice_get_within (g.C.Changes.list c.args.changes.now) c.loop-change.k c.in-Some.change
    (sym c.in-Some.ensures) in
    omega (arith, below)

pub returns : goal.returns
returns g c =
    let changes = g.C.Changes.list c.args.changes.now in
    no_more_left move_text changes c.loop-change.k c.args.bytes.now.items (number_text (length changes))
    c.loop-change.bytes.items c.loop-change.invariant c.in_default.ensures

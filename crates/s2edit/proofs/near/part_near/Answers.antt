use Rattle.std.proofs.Common.{ℕ, ◌≡◌, true, ◌&&◌, List, ap, ◌∙◌, subst}
use Rattle.std.proofs.lemmas.Bool.{false≢true}
use Rattle.s2list.specs.Union.{has_leaf}
use Rattle.s2edit.proofs.PartLemmas.{part_from}
use Rattle.s2edit.proofs.near.part_near.Goals as goal

pub watch-requires : goal.watch-requires
watch-requires c = rw c.cells.ensures.value c.cells.ensures.local

pub returns : goal.returns
returns c =
    let u = c.args.union.now.cells in
    let grows = rw c.cells.ensures.value at c.in_ok-watch.ensures.grows in
    record {
      set = has_leaf c.watch.new.watched.items;
      watched = rw c.cells.ensures.value at c.in_ok-watch.ensures.watched;
      is_part = part_from (has_leaf c.watch.new.watched.items) u c.in_ok-part.part.cells c.cells.ensures.local
          c.in_ok-part.ensures.local
          (λ x. c.in_ok-part.ensures.leaves x ∙ ap (λ b. has_leaf u x && b) (c.normalise-watched.ensures.leaves x))
          (grows.uncut (λ k x h v w. absurd (false≢true
          (subst (λ (l : List ℕ). has_leaf l x ≡ true) c.new-beside.ensures.items w))));
    }

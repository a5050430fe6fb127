use Rattle.std.proofs.Common.{◌≡◌, ℕ, sym, ◌∙◌, length, take, rules}
use Rattle.std.proofs.lemmas.List.Sorted.{IsNonDecreasingBy-from_sort, All-permutation, list_any-IsPermutation}
use Rattle.s2cell.specs.Cell.{IsCell, covers}
use Rattle.s2list.specs.Union.{has_leaf}
use Rattle.s2list.proofs.Normal.{normal_from_local, normal_form_same}
use Rattle.s2list.proofs.PackedLocal.{local_from_packed}
use Rattle.s2room.specs.Normalising.{IsNormalisedIn}
use Rattle.s2room.proofs.normalising.normalise.Goals as goal

pub pack-requires-clause-readable : goal.pack-requires-clause-readable
pack-requires-clause-readable c = All-permutation IsCell c.args.ids.now c.sort_unstable.new.self
    c.sort_unstable.ensures.permutation c.requires

pub pack-requires-clause-order : goal.pack-requires-clause-order
pack-requires-clause-order c = IsNonDecreasingBy-from_sort (λ x. x) c.sort_unstable.new.self
    c.sort_unstable.ensures.sorted

pub returns : goal.returns
returns c =
    let sorted = c.sort_unstable.new.self in
    let front = take c.pack.result c.pack.new.list.out.now in
    let same = λ (x : ℕ). list_any-IsPermutation (λ n. covers n x) c.args.ids.now sorted
    c.sort_unstable.ensures.permutation in
    let len : length sorted ≡ length c.args.ids.now = c.sort_unstable.ensures.len in
    let within = c.pack.ensures.within in
    let is : IsNormalisedIn c.args.ids.now c.pack.new.list.out.now c.pack.result = record {
      within = rw len at within;
      same_length = c.pack.ensures.len ∙ len;
      normal = normal_form_same (has_leaf front) (has_leaf c.args.ids.now) front (λ x. c.pack.ensures.leaves x
          ∙ sym (same x))
          (normal_from_local front (local_from_packed front c.pack.ensures.packed));
    } in
    search rules

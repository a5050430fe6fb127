use Rattle.std.proofs.Common.{map}
use Rattle.s2edit.specs.Content.{diff_of}
use Rattle.s2edit.specs.Working.InTurn.{of_register}
use Rattle.s2edit.proofs.Watching.{all_watched, still_had}
use Rattle.s2edit.proofs.restore.parts.part_of.Goals as goal

pub returns : goal.returns
returns c = record {
  set = c.in_ok-part.ensures.set;
  watched = all_watched (of_register c.args.register (map diff_of c.args.moves.now))
      (λ w h. (rw c.deref.ensures.value at c.in_ok-part.ensures.watched) w
      (still_had c.in_ok-named.named.items c.sort_unstable.new.self.items c.sort_unstable.ensures.permutation w h))
      c.in_ok-named.ensures;
  is_part = c.in_ok-part.ensures.is_part;
}

use Rattle.std.proofs.Common.{◌≡◌, ◌≤◌, ℕ, ◌++◌, length, take, drop, get_or}
use Rattle.s2list.specs.Union.{Union}
use Rattle.s2edit.specs.Working.Chain.{lists_of}
use Rattle.s2edit.specs.Working.Following.{KeepRoom, HaveRoom}
use Rattle.s2edit.proofs.session.take_all.Given as goal

abbrev pub invariant-loop-i : goal.invariant-loop-i
invariant-loop-i l = record {
  lists : lists_of l.unions.items ≡ take l.i (lists_of l.fn.others.items) ++ drop l.i (lists_of l.fn.unions.items);
  rooms : KeepRoom l.fn.unions.items l.unions.items;
  count : length l.unions.items ≡ length l.fn.others.items;
  room : HaveRoom (lists_of l.fn.others.items) l.unions.items;
  left_count : length l.others.items ≡ length l.fn.others.items;
  left : (k : ℕ) (d : Union) → l.i ≤ k → get_or l.others.items k d ≡ get_or l.fn.others.items k d;
}

use Rattle.std.proofs.Common.{◌≡◌, [], ◌∷◌, ◌++◌, length, refl, arith}
use Rattle.s2union_c.proofs.Naming.{naming_start, naming_more, name_there, room_there, filled_more, filled_length}
use Rattle.s2union_c.proofs.token_lists.write_cells.Goals as goal

pub loop-start-init : goal.loop-start-init
loop-start-init c = ([], naming_start c.args.text.now, refl)

pub unreachable-requires : goal.unreachable-requires
unreachable-requires c =
    let v = c.loop-start.invariant in
    let named = name_there c.args.text.now c.loop-start.at c.loop-start.count v.0 c.in-Some.start c.in-Some.end
    c.requires.0 v.1
    c.in-Some.ensures c.requires.1 in
    c.in_default-cell_in.ensures named.0 named.1

pub bounds-out-count : goal.bounds-out-count
bounds-out-count c =
    let v = c.loop-start.invariant in
    let room = room_there c.args.text.now c.loop-start.at c.loop-start.count v.0 c.in-Some.start c.in-Some.end
    c.requires.0 v.1
    c.in-Some.ensures c.requires.1 in
    let most = c.requires.2 in
    let count = v.1.count_is in
    let len : length c.loop-start.out ≡ length c.args.out.now =
    filled_length c.args.out.now c.loop-start.out v.0 (omega arith) v.2 in
    omega arith

pub loop-start-preserved : goal.loop-start-preserved
loop-start-preserved c =
    let v = c.loop-start.invariant in
    let id = c.id.result in
    let room = room_there c.args.text.now c.loop-start.at c.loop-start.count v.0 c.in-Some.start c.in-Some.end
    c.requires.0 v.1
    c.in-Some.ensures c.requires.1 in
    let most = c.requires.2 in
    let same = c.id.ensures.value in (
      v.0 ++ id ∷ [],
      naming_more c.args.text.now c.loop-start.at c.loop-start.count v.0 c.in-Some.start c.in-Some.end id v.1
          c.in-Some.ensures
          (rw same c.in-Some-cell_in.ensures),
      filled_more c.args.out.now c.loop-start.out v.0 c.loop-start.count id v.1.count_is (omega arith) v.2,
    )

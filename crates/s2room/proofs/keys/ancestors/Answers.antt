use Rattle.std.proofs.Common.{◌≡◌, ◌+◌, ◌<◌, [], length, get_or, ◌∙◌, refl, ap, arith}
use Rattle.s2cell.specs.Cell.{first_leaf, size_of}
use Rattle.s2list.proofs.Checking.{packed_from_local}
use Rattle.s2list.proofs.Putting.{put_none}
use Rattle.s2room.proofs.Reaching.{reached_start, reached_step, puts_holders}
use Rattle.s2room.proofs.keys.ancestors.Goals as goal
use Rattle.s2room.proofs.keys.ancestors.Goals.{in-Some, in_default}

pub loop-k-init : goal.loop-k-init
loop-k-init g c =
    record {
      len = refl;
      rest = refl;
      put = λ local. ([], reached_start (g.C.Listed.ids c.args.cells.now), put_none c.args.out.now);
    }

pub loop-k-preserved : goal.loop-k-preserved
loop-k-preserved g c =
    let u = g.C.Listed.ids c.args.cells.now in
    let k = c.loop-k.k in
    let v = c.loop-k.invariant in
    let n = c.len-k-end.ensures in
    let h : k < length u = omega (arith, c.loop-k-test.true) in
    record {
      len = c.match-from_id.auto.out ∙ v.len;
      rest = elim c.match-from_id.branch [
        | in-Some w ↦ rw (w.out-is, w.n-is) (w.put_after-n.ensures.rest c.args.out.now
            (w.put-n.ensures.rest c.args.out.now (w.put_before-n.ensures.rest c.args.out.now v.rest)))
        | in_default w ↦ rw (w.out-is, w.n-is) v.rest
      ];
      put = λ local. elim c.match-from_id.branch [
        | in-Some w ↦
            let e : w.in-Some.cell ≡ get_or u k 0 = w.in-Some.ensures.1 ∙ c.id.ensures in
            let end : c.match-from_id.from ≡ first_leaf (get_or u k 0) + size_of (get_or u k 0) =
            w.from-is ∙ w.end_leaf-from.ensures.value ∙ ap (λ x. first_leaf x + size_of x) e in
            rw (end, w.out-is, w.n-is)
            (reached_step u k c.loop-k.from w.id_after.result c.args.out.now c.loop-k.out w.put_before-n.new.out
            w.put-n.new.out w.put_after-n.new.out c.loop-k.n w.put_before-n.result w.put-n.result w.put_after-n.result
            (packed_from_local u local) h w.id_after.ensures.next w.id_after.ensures.last
            (rw e at w.put_before-n.ensures.put) (rw (w.id-in-Some.ensures.value, e) at w.put-n.ensures.put)
            (rw e at w.put_after-n.ensures.put) (v.put local))
        | in_default w ↦ absurd (w.in_default.ensures (rw c.id.ensures (local.cells k 0 h)))
      ];
    }

pub returns-clause-put : goal.returns-clause-put
returns-clause-put g c local =
    let u = g.C.Listed.ids c.args.cells.now in
    let n = c.len-k-end.ensures in
    let most = c.loop-k.auto.k-end in
    let all : c.loop-k.k ≡ length u = omega (arith, c.loop-k-test.false) in
    let (list, reached, p) = c.loop-k.invariant.put local in
    puts_holders u list c.args.out.now c.loop-k.out c.loop-k.k c.loop-k.from c.loop-k.n (packed_from_local u local) all
    reached p

use Rattle.s2union_c.proofs.Shown.{places_next}
use Rattle.s2union_c.proofs.reading.put_places.Goals as goal

pub loop-k-preserved : goal.loop-k-preserved
loop-k-preserved c =
    let v = c.loop-k.invariant in
    record {
      front = places_next c.args.positions.now c.args.out.now c.loop-k.out c.loop-k.k _ c.to_place.result
          c.loop-k-test.true v.room v.front c.to_place.ensures;
      room = v.room;
    }

use Rattle.std.proofs.Common.{◌∙◌, ap, inl, inr, drop, length, refl, sym, arith, rules}
use Rattle.std.specs.Int.{w32}
use Rattle.std.proofs.lemmas.Bool.{false≢true}
use Rattle.std.proofs.lemmas.List.{length-append, length-drop, length-take-le}
use Rattle.std.proofs.lemmas.Slice.{drop-append-drop}
use Rattle.std.proofs.lemmas.Int.{to_z-of_z}
use mir.Val.{SFits}
use Rattle.s2list.specs.Union.{has_leaf}
use Rattle.s2union_c.specs.Working.Coverings.{covering_of}
use Rattle.s2list.proofs.Normal.{one_normal_form}
use Rattle.s2union_c.proofs.Covering.{covering_few, few_put, many_put}
use Rattle.s2union_c.proofs.Placed.{placed_any, placed_within}
use Rattle.s2union_c.proofs.coverings.cover.Goals as goal

pub returns-then-is_longer-clause-made : goal.returns-then-is_longer-clause-made
returns-then-is_longer-clause-made c local =
    inr ((refl, c.requires.len, refl), c.is_longer.ensures.longer local c.if-is_longer.true)

pub returns-then-is_longer-clause-any : goal.returns-then-is_longer-clause-any
returns-then-is_longer-clause-any c =
    inr (record { status_is = refl; len_is = c.requires.len; same_length = refl; rest = refl })

pub returns-then-n-bound-clause-made : goal.returns-then-n-bound-clause-made
returns-then-n-bound-clause-made c local =
    let (v, normal, few) = c.is_longer.ensures.rest local (λ t. false≢true (sym c.if-is_longer.false ∙ t)) in
    let more = many_put (covering_of c.args.side c.args.level (has_leaf c.args.ids.now)) c.args.bound
    c.put_covering-n.result _ c.put_covering-n.new.out (c.put_covering-n.ensures.made local)
    (omega (arith, c.if-n-bound.true)) v normal in
    absurd (omega arith)

pub returns-then-n-bound-clause-any : goal.returns-then-n-bound-clause-any
returns-then-n-bound-clause-any c =
    let within = length-take-le c.min-room.result c.args.out.now (omega arith) in
    inr (record {
      status_is = refl;
      len_is = c.requires.len;
      same_length = length-append c.put_covering-n.new.out (drop c.min-room.result c.args.out.now)
          ∙ omega (arith, c.put_covering-n.ensures.len, length-drop c.min-room.result c.args.out.now);
      rest = drop-append-drop c.min-room.result c.args.out.now c.put_covering-n.new.out c.args.bound (omega arith)
          (omega (arith, c.put_covering-n.ensures.len));
    })

pub returns-clause-made : goal.returns-clause-made
returns-clause-made c local =
    let fits : SFits w32 c.room_status.result = search rules in
    let put = few_put (covering_of c.args.side c.args.level (has_leaf c.args.ids.now)) c.args.bound
    c.put_covering-n.result _ c.put_covering-n.new.out (c.put_covering-n.ensures.made local)
    (omega (arith, c.if-n-bound.false)) in
    rw (to_z-of_z w32 c.room_status.result fits)
    (inl (placed_within c.args.out.now c.put_covering-n.new.out _ c.room_status.result put c.min-room.ensures
    (omega (arith, c.if-n-bound.false)) (omega (arith, c.if-n-bound.false)) refl c.room_status.ensures.fits
    c.room_status.ensures.short))

pub returns-clause-any : goal.returns-clause-any
returns-clause-any c =
    let fits : SFits w32 c.room_status.result = search rules in
    rw (to_z-of_z w32 c.room_status.result fits)
    (inl (placed_any c.args.out.now c.put_covering-n.new.out c.put_covering-n.result c.args.bound _
    c.room_status.result c.put_covering-n.ensures.len c.put_covering-n.ensures.rest c.min-room.ensures
    (omega (arith, c.if-n-bound.false)) refl c.room_status.ensures.fits c.room_status.ensures.short))

pub returns-clause-few : goal.returns-clause-few
returns-clause-few c local =
    let S = covering_of c.args.side c.args.level (has_leaf c.args.ids.now) in
    let put = few_put S c.args.bound c.put_covering-n.result _ c.put_covering-n.new.out
    (c.put_covering-n.ensures.made local) (omega (arith, c.if-n-bound.false)) in
    let (v, normal, few) = covering_few c.args.side c.args.level c.args.ids.now c.requires.level local in
    omega (arith, put.len_is, few, ap length (one_normal_form S put.list v put.is normal))

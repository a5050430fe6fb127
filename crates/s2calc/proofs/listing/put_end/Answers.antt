use Rattle.std.proofs.Common.{◌≡◌, ◌+◌, ◌-◌, ◌∷◌, ◌++◌, [], ◌∙◌, ap, arith, codes, take}
use Rattle.std.proofs.lemmas.Result.{IfErr-weaker, IfOk-weaker}
use Rattle.std.proofs.lemmas.Slice.{take-put_mid}
use borrow.Rule.Slice.PartMut.{put_mid}
use Rattle.s2calc.proofs.ListingLemmas.{listing_whole, listing_part}
use Rattle.s2calc.proofs.listing.put_end.Given.{Over}
use Rattle.s2calc.proofs.listing.put_end.Goals as goal
use Rattle.s2calc.proofs.listing.put_end.Goals.{After-emit}

-- what is handed on
ended : (g : Over) (c : After-emit g) →
    take (c.args.waiting + 4) (put_mid c.args.waiting (c.args.waiting + 4 - c.args.waiting) c.args.block.now
    c.copy_from_slice.new.self) ≡ take c.args.waiting c.args.block.now ++ (codes "end" ++ 10 ∷ [])
ended g c =
    let room = c.requires in
    let len = c.copy_from_slice.ensures.after in
    take-put_mid c.args.waiting (c.args.waiting + 4 - c.args.waiting) c.args.block.now c.copy_from_slice.new.self
    (c.args.waiting + 4) (rw c.copy_from_slice.ensures.after (omega arith)) (omega arith)
    ∙ ap (λ t. take c.args.waiting c.args.block.now ++ t) c.copy_from_slice.ensures.after

pub returns-clause-ok : goal.returns-clause-ok
returns-clause-ok g c = IfOk-weaker c.emit.result _ _
    (λ x q start cells u. listing_whole cells _ _ u (ended g c) q) c.emit.ensures.ok

pub returns-clause-err : goal.returns-clause-err
returns-clause-err g c = IfErr-weaker c.emit.result _ _
    (λ x q start cells u. listing_part cells _ _ u (ended g c) q) c.emit.ensures.err

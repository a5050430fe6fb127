use Rattle.std.proofs.Common.{ap, refl, sym, ◌+◌, ◌-◌, ◌^◌, min}
use Rattle.s2map.proofs.FewCells.{left_met}
use Rattle.s2map.specs.declared.TheConstants.{BOX_WORK}
use Rattle.s2map.proofs.few.WalkedRoughRegion.part_at.Goals as goal

pub returns-in-Out-clause-out : goal.returns-in-Out-clause-out
returns-in-Out-clause-out c e = c.in-Out.ensures.outside refl

pub returns-in-In-clause-inside : goal.returns-in-In-clause-inside
returns-in-In-clause-inside c e = c.in-In.ensures.inside refl

pub returns-in-Met-clause-across : goal.returns-in-Met-clause-across
returns-in-Met-clause-across c e =
    let shape = c.args.self.now.shape.now in
    let at = c.args.at.now in
    let none = c.in-Met.ensures.none in
    record {
      box = at.at.bounds;
      of = c.requires.0.of;
      met = sym c.in-Met.ensures.exact;
      work = ap (λ n. min (n + BOX_WORK) (2 ^ 64 - 1)) (left_met at.at.bounds shape at.known c.requires.1 (none refl));
    }

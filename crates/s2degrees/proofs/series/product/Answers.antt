use Rattle.std.proofs.Common.{◌*◌, ◌/◌, ◌^◌, refl, arith}
use Rattle.s2degrees.proofs.Steps.{product_near}
use Rattle.s2degrees.proofs.series.product.Goals as goal

pub returns-clause-near : goal.returns-clause-near
returns-clause-near c i p d e u v hp hu h k =
    let r = product_near (2 ^ 62) c.args.a c.args.b p d u v i e (omega arith) c.requires.b hp h.least h.most k.least
    k.most (c.args.a * c.args.b / 2 ^ 62) refl in
    record { least = r.0; most = r.1 }

use Rattle.std.proofs.Common.{◌≡◌, ◌-◌, ◌≤◌, min, ◌++◌, length, take, arith, ◌∙◌, ap}
use Rattle.std.proofs.lemmas.Result.{IfOk-at_ok}
use Rattle.s2calc.specs.declared.limits.TheConstants.{KEPT}
use Rattle.s2calc.proofs.LineLemmas.{kept_first}
use Rattle.s2calc.proofs.kept.Kept.keep.Goals as goal

pub returns : goal.returns
returns c =
    let old = c.self.inside.bytes.items in
    let more = c.args.more.now in
    let added : c.try_extend_from_slice.new.self.items ≡ old ++ take c.min-fit.result more =
    IfOk-at_ok _ c.unwrap.ensures c.try_extend_from_slice.ensures.ok in
    let len = c.len-room.ensures.value in
    let small : length old ≤ KEPT = omega (arith, c.len-room.ensures.fits, len) in
    let fit : c.min-fit.result ≡ min (length more) (KEPT - length old) = c.min-fit.ensures
    ∙ ap (λ n. min (length more) (KEPT - n)) len in
    added ∙ kept_first old more KEPT c.min-fit.result small fit ∙ ap (λ s. take KEPT (s ++ more)) c.self.view_is

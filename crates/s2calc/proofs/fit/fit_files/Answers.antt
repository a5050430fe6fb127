use Rattle.std.proofs.Common.{◌∙◌, sym, ap, length, map, refl, inr}
use Rattle.std.specs.Prelude.{string_bytes}
use Rattle.std.proofs.lemmas.List.{length-map}
use Rattle.std.proofs.lemmas.Result.{err_from_is_err_and}
use Rattle.s2calc.specs.declared.refusal.Refusal.TheVariants.{Memory}
use Rattle.s2calc.proofs.OverlayLemmas.{as_many}
use Rattle.s2calc.proofs.FitLemmas.{not_drawn}
use Rattle.s2calc.proofs.fit.fit_files.Goals as goal

pub draw-requires : goal.draw-requires
draw-requires g c =
    let names = c.args.names.now in
    c.requires ∙ sym (length-map names string_bytes)
    ∙ sym (as_many (map string_bytes names) _ _ _ c.in_ok-unions.ensures) ∙ ap length (sym c.as_slice.ensures.value)

pub returns-in_err-draw : goal.returns-in_err-draw
returns-in_err-draw g c =
    let p = err_from_is_err_and c.from_residual-in_err-draw.result c.from_residual-in_err-draw.ensures.1 in
    rw (p.1, p.2) (inr (Memory, not_drawn _ _ _ _ c.in_ok-unions.ensures, refl))

use Rattle.std.proofs.Common.{◌+◌, ◌∷◌, [], ◌++◌, take, drop, map, sym, ap, subst, ◌∙◌, rules}
use Rattle.std.specs.Prelude.{string_bytes}
use Rattle.std.proofs.lemmas.List.{take_more}
use Rattle.std.proofs.lemmas.Result.{err_from_is_err_and}
use Rattle.s2calc.specs.Overlay.{ReadsLayers}
use Rattle.s2calc.proofs.OverlayLemmas.{cut_round}
use Rattle.s2calc.proofs.FitLemmas.{read_more, not_read}
use Rattle.s2calc.proofs.fit.read_all.Goals as goal

pub loop-name-preserved : goal.loop-name-preserved
loop-name-preserved g c =
    let i = c.loop-name.name-index in
    let names = c.args.names.now in
    let name = c.name-item.result in
    let more = take_more names i name (search rules) ∙ ap (λ x. take i names ++ x ∷ []) (sym c.name-item.is) in
    let (cells, read, added) = c.in_ok-add_union.ensures in
    subst (λ l. ReadsLayers (map string_bytes l) (g.S.Shelf.files c.args.shelf.now) c.add_union.new.unions.items
    (g.S.Shelf.files c.add_union.new.shelf)) (sym more)
    (read_more string_bytes (take i names) name _ _ _ _ _ _ cells c.loop-name.invariant read c.as_str.ensures.value
    added)

pub returns-in_err-add_union : goal.returns-in_err-add_union
returns-in_err-add_union g c =
    let p = err_from_is_err_and c.from_residual.result c.from_residual.ensures.1 in
    let i = c.loop-name.name-index in
    let names = c.args.names.now in
    let name = c.name-item.result in
    rw (p.1, p.2) (not_read string_bytes names (take i names) (drop (i + 1) names) name _ _ _ _ _ _
    c.loop-name.invariant (sym (cut_round names i name (search rules) c.name-item.is)) c.as_str.ensures.value
    c.in_err-add_union.ensures)

use Rattle.std.proofs.Common.{◌+◌, ◌∷◌, [], ◌++◌, take, drop, length, sym, ap, refl, subst, ◌∙◌, inl, inr, rules, arith}
use Rattle.std.proofs.Common.{length-take}
use Rattle.std.specs.Prelude.{string_bytes}
use Rattle.std.proofs.lemmas.List.{take_all, take_more}
use Rattle.std.proofs.lemmas.Result.{err_from_is_err_and}
use Rattle.s2draw.specs.Overlay.{overlay_head}
use Rattle.s2calc.specs.declared.refusal.Refusal.TheVariants.{Memory}
use Rattle.s2calc.specs.Replies.{Says}
use Rattle.s2calc.proofs.OverlayLemmas.{InPicture, cut_round, grow, refused_at, stopped_first, stopped_last, finished}
use Rattle.s2calc.proofs.overlay.overlay_files.Goals as goal

pub loop-name-preserved : goal.loop-name-preserved
loop-name-preserved g c =
    let i = c.loop-name.name-index in
    let names = c.args.names.now in
    let name = c.name-item.result in
    let more = take_more names i name (search rules) ∙ ap (λ x. take i names ++ x ∷ []) (sym c.name-item.is) in
    let (cells, read, added) = c.in_ok-add_file.ensures in (
      omega arith,
      subst (λ l. InPicture string_bytes l (g.S.Shelf.files c.args.shelf.now) c.args.curve (overlay_head (length names))
          c.add_file.new.text.items (g.S.Shelf.files c.add_file.new.shelf)) (sym more)
          (grow string_bytes (take i names) name _ _ _ _ _ _ _ _ _ cells c.loop-name.invariant.1 read
          c.as_str.ensures.value (omega (arith, length-take i names)) added),
    )

pub returns-in_err-text : goal.returns-in_err-text
returns-in_err-text g c =
    let p = err_from_is_err_and c.from_residual.result c.from_residual.ensures.1 in
    rw (p.1, p.2) (inr (Memory, stopped_first _ _, refl))

pub returns-in_err-add_file : goal.returns-in_err-add_file
returns-in_err-add_file g c =
    let p = err_from_is_err_and c.from_residual-in_err-add_file.result
    c.from_residual-in_err-add_file.ensures.1 in
    let i = c.loop-name.name-index in
    let names = c.args.names.now in
    let name = c.name-item.result in
    rw (p.1, p.2) (inr (
      _,
      refused_at string_bytes names (take i names) (drop (i + 1) names) name _ _ _ c.args.curve _ _ _ _
          c.loop-name.invariant.1 (sym (cut_round names i name (search rules) c.name-item.is)) c.as_str.ensures.value
          c.in_err-add_file.ensures,
      refl,
    ))

pub returns-in_err-end_overlay : goal.returns-in_err-end_overlay
returns-in_err-end_overlay g c =
    let p = err_from_is_err_and c.from_residual-in_err-end_overlay.result
    c.from_residual-in_err-end_overlay.ensures.1 in
    let names = c.args.names.now in
    let all = take_all c.loop-name.name-index names (search rules) in
    rw (p.1, p.2) (inr (
      Memory,
      stopped_last string_bytes names _ _ c.args.curve _ _
          (subst (λ l. InPicture string_bytes l (g.S.Shelf.files c.args.shelf.now) c.args.curve
          (overlay_head (length names)) c.loop-name.text.items (g.S.Shelf.files c.loop-name.shelf)) all
          c.loop-name.invariant.1),
      refl,
    ))

pub returns : goal.returns
returns g c =
    let names = c.args.names.now in
    let all = take_all c.loop-name.name-index names (search rules) in
    let (layers, reads, e) = finished string_bytes names _ _ c.args.curve _ _
    (subst (λ l. InPicture string_bytes l (g.S.Shelf.files c.args.shelf.now) c.args.curve
    (overlay_head (length names)) c.loop-name.text.items (g.S.Shelf.files c.loop-name.shelf)) all
    c.loop-name.invariant.1) c.in_ok-end_overlay.ensures in
    inl (layers, reads, ap Says e)

-- Bytes that a run stored come back where a run finds them.
use Rattle.std.proofs.Common.{◌≡◌, ℕ, List, [], replicate, sym, ◌∙◌, arith}
use Rattle.s2shelf.specs.Shelf.{Files}
use Rattle.s2edit.specs.History.{untouched}
use Rattle.s2script.specs.declared.register.TheConstants.{REGISTERS}
use Rattle.s2calc.specs.LawsStored.{IsOrdinary}
use Rattle.s2calc.specs.Replies.{Reply}
use Rattle.s2calc.specs.World.{World, world}
use Rattle.s2calc.proofs.OrdinaryLemmas.{keeps_ordinary, new_ordinary, fits_file}
use Rattle.s2calc.proofs.StoredLemmas.{comes_back}
use Rattle.s2process.specs.Laws.{CarriesOut, GivesBack}

module _ (R W E F : Type 0) {S : Type 0} (files : S → Files) (opened : S → List ℕ → Type 0) where
  ordinary_then : (limit depth : ℕ) (old new : World) (line : List ℕ) (reply : Reply) →
      CarriesOut R W E F files opened limit depth old line reply new
      → IsOrdinary old.state × (old.state.limit ≡ limit) × (old.state.depth ≡ depth)
  ordinary_then limit depth old new line reply o =
      keeps_ordinary (world (untouched limit depth (replicate REGISTERS [])) (files o.runs.first)) old o.before
      o.earlier o.until (new_ordinary limit depth)

  pub gives_back : GivesBack R W E F files opened
  gives_back limit depth limit' depth' a b c d line line' name name' bytes reply few stores stored finds plain found =
      let (o, limit_is, depth_is) = ordinary_then limit depth a b line _ stores in
      let (o', limit_is', depth_is') = ordinary_then limit' depth' c d line' reply finds in (
        λ r s e f. comes_back.list a b c d line line' name name' bytes r s reply e f
            (fits_file a.state r o (omega (arith, limit_is, few))) stores.step stored finds.step plain found,
        λ e f same_limit same_depth. comes_back.state a b c d line line' name name' bytes reply e f o.kept stores.step
            stored finds.step plain found (limit_is' ∙ same_limit ∙ sym limit_is)
            (depth_is' ∙ same_depth ∙ sym depth_is),
      )

use Rattle.std.proofs.Common.{rules, string_bytes, tests}
use Rattle.std.proofs.lemmas.Iterator.{YieldsList-from_slice}
use Rattle.std.proofs.lemmas.Iterator.Search.{all_from_yields_List}
use Rattle.std.proofs.lemmas.List.Folds.{list_all-map}
use Rattle.s2script.specs.FileName.{is_name}
use Rattle.s2calc.proofs.overlay.all_are_names.Goals as goal

pub returns : goal.returns
returns c = rw list_all-map (all_from_yields_List (λ w. is_name (string_bytes w)) _ _ _ c.all.ensures.ran
    (YieldsList-from_slice c.args.names.now cc) (λ x b q k. search (rules, tests)))

use Rattle.std.proofs.Common.{is_some, rules, string_bytes, tests}
use Rattle.std.proofs.lemmas.Iterator.{YieldsList-from_slice}
use Rattle.std.proofs.lemmas.Iterator.Search.{all_from_yields_List}
use Rattle.std.proofs.lemmas.List.Folds.{list_all-map}
use Rattle.s2script.specs.Named.{cell_named}
use Rattle.s2calc.proofs.draw.all_name_cells.Goals as goal

pub returns : goal.returns
returns c = rw list_all-map (all_from_yields_List (λ w. is_some (cell_named (string_bytes w))) _ _ _ c.all.ensures.ran
    (YieldsList-from_slice c.args.words.now cc) (λ x b q k. search (rules, tests)))

use Rattle.std.proofs.Common.{◌≡◌, ◌<◌, Ok, Err, rules, subst, arith}
use Rattle.std.proofs.lemmas.Result.{MatchResult-weaker}
use Rattle.s2list.specs.Union.{has_leaf}
use Rattle.s2file.specs.declared.union_file.TheConstants.{MOST_SIZE}
use Rattle.s2calc.specs.declared.fetch.TheConstants.{BYTES_OF_A_UNION}
use Rattle.s2calc.specs.Fetch.{Reads}
use Rattle.s2calc.proofs.FetchLemmas.{union_found, no_union_found}
use Rattle.s2calc.proofs.fetch.fetch_union.Goals as goal

pub returns : goal.returns
returns g c =
    let old = g.S.Shelf.files c.args.shelf.now in
    let new = g.S.Shelf.files c.fetch.new.shelf in
    let name = c.args.name.now in
    let bytes = c.in_ok-bytes.bytes.items in
    let found = c.in_ok-bytes.ensures in
    let same : c.as_slice.result.now ≡ bytes = search rules in
    let longer : MOST_SIZE < BYTES_OF_A_UNION = omega arith in
    MatchResult-weaker c.read.result c.read.ensures
    (λ union known. (
      union_found old new name bytes BYTES_OF_A_UNION (has_leaf union.cells) longer found
          (subst (λ b. Reads b (Ok (has_leaf union.cells))) same known.0),
      known.1,
    ))
    (λ refusal known. no_union_found old new name bytes BYTES_OF_A_UNION refusal longer found
    (subst (λ b. Reads b (Err refusal)) same known))

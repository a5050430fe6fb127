use Rattle.std.proofs.Common.{◌∙◌}
use Rattle.s2cell.specs.Cell.{IsCell, level_of, place_of}
use Rattle.s2cell.proofs.Tokens.{IsToken-token_of}
use Rattle.s2cell.proofs.cell.CellId.token.Goals as goal

pub returns-clause-value : goal.returns-clause-value
returns-clause-value c =
    rw (c.from-text.ensures.0, c.token_len.ensures) at c.truncate.ensures.items ∙ c.write_digits.ensures.token

pub returns-clause-token : goal.returns-clause-token
returns-clause-token c =
    let i : IsCell c.args.self = (level_of c.args.self, place_of c.args.self, c.id.ensures.cell) in
    rw (returns-clause-value c) (IsToken-token_of i)

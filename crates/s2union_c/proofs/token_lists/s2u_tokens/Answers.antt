use Rattle.std.proofs.Common.{arith}
use Rattle.s2union_c.proofs.Joining.{tokens_few}
use Rattle.s2union_c.proofs.token_lists.s2u_tokens.Goals as goal

pub returns-then-need-text-clause-most : goal.returns-then-need-text-clause-most
returns-then-need-text-clause-most c =
    omega (arith, c.in-Some-tokens_len.ensures, tokens_few c.args.ids.now c.in_default.ensures)

pub returns-clause-most : goal.returns-clause-most
returns-clause-most c =
    omega (arith, c.in-Some-tokens_len.ensures, tokens_few c.args.ids.now c.in_default.ensures)

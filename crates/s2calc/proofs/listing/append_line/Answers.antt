use Rattle.std.proofs.Common.{◌≡◌, ◌+◌, ◌-◌, length, ap, refl, ◌∙◌, take, arith}
use Rattle.std.proofs.lemmas.Slice.{take-put_mid}
use Rattle.s2cell.specs.Token.{token_of}
use Rattle.s2cell.proofs.DigitTexts.{length-in_digits}
use Rattle.s2cell.proofs.Tokens.{length-token_of}
use Rattle.s2calc.proofs.ListingLemmas.{line_written}
use Rattle.s2calc.proofs.listing.append_line.Goals as goal

pub returns-clause-text : goal.returns-clause-text
returns-clause-text c =
    let cell = c.args.cell in
    let digits = c.write_digits.new.digits in
    let len : length digits ≡ 16 = ap length c.write_digits.ensures.digits ∙ length-in_digits 16 16 cell in
    let is : c.token_len.result ≡ length (token_of cell) = c.token_len.ensures in
    let most = length-token_of cell in
    let room = c.requires in
    line_written c.args.len c.token_len.result cell c.args.block.now digits _ (omega arith) (omega arith) (omega arith)
    (take-put_mid c.args.len (c.args.len + 16 - c.args.len) c.args.block.now digits (c.args.len + length digits)
    refl (omega arith)) (ap (λ n. take n digits) is ∙ c.write_digits.ensures.token)

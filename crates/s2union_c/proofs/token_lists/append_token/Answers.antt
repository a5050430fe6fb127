use Rattle.std.proofs.Common.{◌≡◌, ◌+◌, ◌-◌, ◌++◌, length, take, ap, refl, ◌∙◌, arith}
use Rattle.std.proofs.lemmas.Slice.{take-put_mid}
use Rattle.s2cell.specs.Token.{token_of}
use Rattle.s2cell.proofs.DigitTexts.{length-in_digits}
use Rattle.s2cell.proofs.Tokens.{length-token_of}
use Rattle.s2union_c.proofs.Pieces.{front_written}
use Rattle.s2union_c.proofs.token_lists.append_token.Goals as goal

pub returns-then-text-at-ge-DIGITS-clause-front : goal.returns-then-text-at-ge-DIGITS-clause-front
returns-then-text-at-ge-DIGITS-clause-front c =
    let cell = c.args.cell in
    let digits = c.write_digits.new.digits in
    let len : length digits ≡ 16 = ap length c.write_digits.ensures.digits ∙ length-in_digits 16 16 cell in
    let is : c.token_len.result ≡ length (token_of cell) = c.token_len.ensures in
    let most = length-token_of cell in
    let enough = c.if-text-at-ge-DIGITS.true in
    let room = c.requires in
    let whole = take-put_mid c.args.at (c.args.at + 16 - c.args.at) c.args.text.now digits (c.args.at + length digits)
    refl (omega arith) in
    front_written c.args.at c.token_len.result c.args.text.now digits _ (omega arith) (omega arith) whole
    ∙ ap (λ n. take c.args.at c.args.text.now ++ take n digits) is
    ∙ ap (λ t. take c.args.at c.args.text.now ++ t) c.write_digits.ensures.token

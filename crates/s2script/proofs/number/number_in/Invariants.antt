use Rattle.std.proofs.Common.{◌≡◌, ◌<◌, ◌^◌, true, take, fold}
use Rattle.std.specs.List.{list_all}
use Rattle.s2script.specs.Number.{is_decimal_digit, with_digit}
use Rattle.s2script.proofs.number.number_in.Given as goal

abbrev pub invariant-loop-digit : goal.invariant-loop-digit
invariant-loop-digit l = record {
  value : l.number ≡ fold with_digit 0 (take l.digit-index l.word);
  digits : list_all is_decimal_digit (take l.digit-index l.word) ≡ true;
  short : l.number < 10 ^ l.digit-index;
}

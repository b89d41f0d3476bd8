use Rattle.std.proofs.Common.{◌≡◌, ◌^◌, ◌<◌, take}
use Rattle.std.specs.Str.Parse.{digits_value, AllDigits}
use Rattle.hy_text.proofs.number.digits_number.Given as goal

abbrev pub invariant-loop-byte : goal.invariant-loop-byte
invariant-loop-byte l = record {
  value : l.number ≡ digits_value 10 (take l.byte-index l.word);
  digits : AllDigits 10 (take l.byte-index l.word);
  small : l.number < 2 ^ 64;
}

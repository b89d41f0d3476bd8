use Rattle.std.proofs.Common.{◌≡◌, take}
use Rattle.std.specs.List.{list_all}
use Rattle.hy_text.specs.Slot.{is_lower_digit}
use Rattle.hy_text.proofs.value.has_digits.Given as goal

abbrev pub invariant-loop-byte : goal.invariant-loop-byte
invariant-loop-byte l = l.all ≡ list_all is_lower_digit (take l.byte-index l.word)

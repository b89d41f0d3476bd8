-- A text without a bad byte, and of a key's length, is held as a key.
use Rattle.std.proofs.Common.{◌<◌, length, arith, sym, ◌∙◌}
use Rattle.std.proofs.lemmas.Bool.Decides.{nat_tests}
use Rattle.hy_record.proofs.Keys.{IsHeld-held_of}
use Rattle.hy_record.proofs.key.Key.read.Goals as goal

pub invariant_of-result : goal.invariant_of-result
invariant_of-result c =
    let some : 0 < length c.args.text.now = grind (arith, nat_tests) in
    rw c.padded.ensures (IsHeld-held_of c.args.text.now some c.if-text-gt-MAX_KEY.false (sym c.first_bad_place.ensures ∙ c.in-None.is))

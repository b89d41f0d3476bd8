-- One number more is one word more, with the separator before it.
use Rattle.std.proofs.Common.{append_assoc}
use Rattle.std.proofs.lemmas.List.{map_more}
use Rattle.std.specs.Fmt.{decimal}
use Rattle.hy_text.proofs.Spaced.{led_by-more}
use Rattle.hy_text.proofs.writing.push_numbers.Goals as goal

pub loop-number-preserved : goal.loop-number-preserved
loop-number-preserved c =
    rw (map_more decimal c.args.numbers.now c.loop-number.number-index 0 c.loop-number-test.true, c.in_ok-push_number.ensures.ok, c.in_ok-push.ensures.items, c.from.ensures, append_assoc)
    (led_by-more _ _ _ _ _ c.loop-number.invariant)

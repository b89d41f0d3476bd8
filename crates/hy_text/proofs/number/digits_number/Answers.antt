use Rattle.std.proofs.Common.{◌≡◌, ◌+◌, take, arith}
use Rattle.std.specs.Str.Parse.{digits_value}
use Rattle.std.proofs.lemmas.List.{take_all}
use Rattle.std.proofs.lemmas.Int.Digits.{digits_more, digits_value_more}
use Rattle.std.proofs.lemmas.Str.Parse.{digits_value-take-le}
use Rattle.hy_text.proofs.number.digits_number.Goals as goal
use Rattle.hy_text.proofs.Numbers.{AllDigits-at}

pub loop-byte-preserved : goal.loop-byte-preserved
loop-byte-preserved c =
    let i = c.loop-byte.byte-index in
    let word = c.args.word.now in
    let taken = c.in_ok-number.ensures in
    record {
      value = rw (digits_value_more 10 word i c.loop-byte-test.true, ← c.loop-byte.invariant.value) taken.1;
      digits = digits_more 10 word i c.loop-byte-test.true c.loop-byte.invariant.digits taken.0.0;
      small = omega (arith, taken.0.1, taken.1);
    }

pub returns : goal.returns
returns c =
    let whole : take c.loop-byte.byte-index c.args.word.now ≡ c.args.word.now = take_all _ _ c.loop-byte-test.false in
    let value : c.loop-byte.number ≡ digits_value 10 c.args.word.now = rw whole at c.loop-byte.invariant.value in
    ((rw whole at c.loop-byte.invariant.digits, omega (arith, value, c.loop-byte.invariant.small)), value)

pub returns-in_err-number : goal.returns-in_err-number
returns-in_err-number c =
    rw c.from_residual.ensures (λ has.
    let i = c.loop-byte.byte-index in
    let word = c.args.word.now in
    let more = digits_value_more 10 word i c.loop-byte-test.true in
    let below = digits_value-take-le 10 word (i + 1) (omega arith) in
    c.in_err-number.ensures (AllDigits-at word i has.0 c.loop-byte-test.true, omega (arith, more, below, has.1, c.loop-byte.invariant.value)))

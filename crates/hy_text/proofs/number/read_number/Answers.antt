use Rattle.std.proofs.Common.{◌≡◌, sym, arith}
use Rattle.std.specs.Str.Parse.{digits_value}
use Rattle.hy_text.proofs.Numbers.{HasDigits, number_of-digits, number_of-refused}
use Rattle.hy_text.proofs.number.read_number.Goals as goal

pub returns-in-Some-clause-value : goal.returns-in-Some-clause-value
returns-in-Some-clause-value c =
    let read = c.in-Some.ensures in
    let plain = c.is_plain.ensures.0 c.if-is_plain.true in
    let value : c.in-Some.number ≡ digits_value 10 c.args.word.now = read.1 in
    let has : HasDigits c.args.low c.args.high c.args.word.now = record {
      digits = read.0.0;
      filled = plain.0;
      plain = plain.1;
      low_end = omega (arith, value);
      high_end = omega (arith, value);
    } in
    rw value (sym (number_of-digits c.args.low c.args.high c.args.word.now read.0.1 has))

pub returns-in_default-clause-value : goal.returns-in_default-clause-value
returns-in_default-clause-value c = sym (number_of-refused c.args.low c.args.high c.args.word.now c.ranges.high.fits (λ has. omega (arith, has.high_end, c.in-Some.ensures.1)))

pub returns-in_default-2-clause-value : goal.returns-in_default-2-clause-value
returns-in_default-2-clause-value c = sym (number_of-refused c.args.low c.args.high c.args.word.now c.ranges.high.fits (λ has. omega (arith, has.low_end, c.in-Some.ensures.1)))

pub returns-in_default-3-clause-value : goal.returns-in_default-3-clause-value
returns-in_default-3-clause-value c = sym (number_of-refused c.args.low c.args.high c.args.word.now c.ranges.high.fits (λ has. let fine = c.is_plain.ensures.1 (has.filled, has.plain) in cc (fine, c.if-is_plain.false)))

pub returns-in_default-4-clause-value : goal.returns-in_default-4-clause-value
returns-in_default-4-clause-value c = sym (number_of-refused c.args.low c.args.high c.args.word.now c.ranges.high.fits (λ has. c.in_default.ensures (has.digits, omega (arith, has.high_end, c.ranges.high.fits))))

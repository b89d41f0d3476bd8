-- A word that is read moves its cloud from what is left to the set.
use Rattle.std.proofs.Common.{◌≡◌, true, false, Err, Ok, sym, arith}
use Rattle.std.specs.Prelude.{is_err}
use Rattle.std.proofs.lemmas.Grind.{common_steps}
use Rattle.hy_text.specs.Clouds.{as_set, rising_of}
use Rattle.hy_text.specs.Line.{first_word}
use Rattle.hy_text.specs.Slot.{end_of, number_of}
use Rattle.hy_text.proofs.Rising.{with_set-none, rising_goes_on, rising_fails, rising_ends, next_bit}
use Rattle.hy_text.proofs.clouds.read_rising.Goals as goal

pub loop-words-init : goal.loop-words-init
loop-words-init c = record { so_far = with_set-none (rising_of 0 c.args.last c.args.words.now); small = omega arith }

pub returns-in_err-cloud : goal.returns-in_err-cloud
returns-in_err-cloud c =
    let some : is_err (end_of c.loop-words.words) ≡ true = grind (arith, common_steps) in
    let read : number_of c.loop-words.least c.args.last (first_word c.loop-words.words) ≡ Err c.in_err-cloud.field-0.0 = grind (arith, common_steps) in
    let fault : as_set (rising_of 0 c.args.last c.args.words.now) ≡ Err c.in_err-cloud.field-0.0 =
    rising_fails c.loop-words.least c.args.last c.loop-words.words c.loop-words.clouds c.in_err-cloud.field-0.0 _ some read c.loop-words.invariant.so_far in
    grind (arith, common_steps, fault)

pub overflow_add-clouds : goal.overflow_add-clouds
overflow_add-clouds c =
    let next = next_bit c.loop-words.clouds c.loop-words.least c.in_ok-cloud.cloud c.loop-words.invariant.small (c.in_ok-cloud.ensures.range).0 (omega (arith, (c.in_ok-cloud.ensures.range).1)) in
    omega (arith, next.bit, next.within)

pub loop-words-preserved : goal.loop-words-preserved
loop-words-preserved c =
    let some : is_err (end_of c.loop-words.words) ≡ true = grind (arith, common_steps) in
    let read : number_of c.loop-words.least c.args.last (first_word c.loop-words.words) ≡ Ok c.in_ok-cloud.cloud = grind (arith, common_steps) in
    let next = next_bit c.loop-words.clouds c.loop-words.least c.in_ok-cloud.cloud c.loop-words.invariant.small (c.in_ok-cloud.ensures.range).0 (omega (arith, (c.in_ok-cloud.ensures.range).1)) in
    record {
      so_far = rw (next.bit, c.next_word.ensures.rest) (rising_goes_on c.loop-words.least c.args.last c.loop-words.words c.loop-words.clouds c.in_ok-cloud.cloud _ some read c.loop-words.invariant.so_far);
      small = rw next.bit next.small;
    }

pub returns : goal.returns
returns c =
    let none : is_err (end_of c.loop-words.words) ≡ false = grind (arith, common_steps) in
    sym (rising_ends c.loop-words.least c.args.last c.loop-words.words c.loop-words.clouds _ none c.loop-words.invariant.so_far)

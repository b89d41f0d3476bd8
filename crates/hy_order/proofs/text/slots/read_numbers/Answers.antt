-- A word that is read moves its number from what is left to what was read.
use Rattle.std.proofs.Common.{◌≡◌, true, false, Err, Ok, arith}
use Rattle.std.specs.Prelude.{is_err}
use Rattle.std.proofs.lemmas.Grind.{common_steps}
use Rattle.hy_base.specs.declared.limits.TheConstants.{MAX_COUNT}
use Rattle.hy_text.specs.Line.{first_word}
use Rattle.hy_text.specs.Slot.{end_of, number_of}
use Rattle.hy_order.specs.WordReaders.{numbers_of}
use Rattle.hy_order.proofs.Fronts.{numbers_go_on, numbers_fail, numbers_end}
use Rattle.hy_order.proofs.text.slots.read_numbers.Goals as goal

pub returns-in_err-number : goal.returns-in_err-number
returns-in_err-number c =
    let some : is_err (end_of c.loop-words.words) ≡ true = grind (arith, common_steps) in
    let read : number_of 1 MAX_COUNT (first_word c.loop-words.words) ≡ Err c.in_err-number.field-0.0 = grind (arith, common_steps) in
    let fault : numbers_of c.args.words.now ≡ Err c.in_err-number.field-0.0 =
    numbers_fail c.loop-words.numbers.items c.loop-words.words c.in_err-number.field-0.0 (numbers_of c.args.words.now) some read c.loop-words.invariant in
    grind (arith, common_steps, fault)

pub loop-words-preserved : goal.loop-words-preserved
loop-words-preserved c =
    let some : is_err (end_of c.loop-words.words) ≡ true = grind (arith, common_steps) in
    let read : number_of 1 MAX_COUNT (first_word c.loop-words.words) ≡ Ok c.in_ok-number.number = grind (arith, common_steps) in
    rw (c.in_ok-push.ensures.items, c.next_word.ensures.rest)
    (numbers_go_on c.loop-words.numbers.items c.loop-words.words c.in_ok-number.number (numbers_of c.args.words.now) some read c.loop-words.invariant)

pub returns : goal.returns
returns c =
    let none : is_err (end_of c.loop-words.words) ≡ false = grind (arith, common_steps) in
    rw c.of.ensures (numbers_end c.loop-words.numbers.items c.loop-words.words (numbers_of c.args.words.now) none c.loop-words.invariant)

-- The numbers so far, and those of the words that are left, are those of all words.
use Rattle.std.proofs.Common.{◌≡◌, length}
use Rattle.hy_order.specs.WordReaders.{numbers_of}
use Rattle.hy_base.proofs.Results.{with_front}
use Rattle.hy_order.proofs.text.slots.read_numbers.Given as goal

abbrev pub invariant-loop-words : goal.invariant-loop-words
invariant-loop-words l = with_front l.numbers.items (numbers_of l.words) ≡ numbers_of l.fn.words

abbrev pub decreases-loop-words : goal.decreases-loop-words
decreases-loop-words l = length l.words

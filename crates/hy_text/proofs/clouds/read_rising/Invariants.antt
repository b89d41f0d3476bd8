-- The set so far, and the clouds of the words that are left, are those of all words.
use Rattle.std.proofs.Common.{◌≡◌, ◌^◌, ◌<◌, length}
use Rattle.hy_text.specs.Clouds.{as_set, rising_of}
use Rattle.hy_text.proofs.Rising.{with_set}
use Rattle.hy_text.proofs.clouds.read_rising.Given as goal

abbrev pub invariant-loop-words : goal.invariant-loop-words
invariant-loop-words l = record {
  so_far : with_set l.clouds (rising_of l.least l.last l.words) ≡ as_set (rising_of 0 l.last l.fn.words);
  small : l.clouds < 2 ^ l.least;
}

abbrev pub decreases-loop-words : goal.decreases-loop-words
decreases-loop-words l = length l.words

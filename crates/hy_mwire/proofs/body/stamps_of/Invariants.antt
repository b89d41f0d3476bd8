use Rattle.std.proofs.Common.{◌≡◌, ◌-◌, length}
use Rattle.hy_mwire.specs.Reading.{stamps_at}
use Rattle.hy_mwire.proofs.Stamps.{with_front}
use Rattle.hy_mwire.proofs.body.stamps_of.Given as goal

abbrev pub invariant-loop : goal.invariant-loop
invariant-loop l = record {
  read : with_front l.stamps.items (stamps_at (l.count - l.counter) l.rest) ≡ stamps_at l.count l.bytes;
  count : length l.stamps.items ≡ l.counter;
}

use Rattle.std.proofs.Common.{◌≡◌, ◌*◌, take, length, All}
use Rattle.std.specs.List.{concat}
use Rattle.hy_record.specs.Hash.{HASH_SIZE, IsHash}
use Rattle.hy_record.proofs.record.reading.hashes_of.Given as goal

abbrev pub invariant-loop-i : goal.invariant-loop-i
invariant-loop-i l = record {
  read : concat l.hashes.items ≡ take (HASH_SIZE * l.i) l.bytes;
  count : length l.hashes.items ≡ l.i;
  sizes : All IsHash l.hashes.items;
}

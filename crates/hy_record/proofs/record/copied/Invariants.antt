use Rattle.std.proofs.Common.{◌≡◌, take, All}
use Rattle.hy_record.specs.Hash.{IsHash}
use Rattle.hy_record.proofs.record.copied.Given as goal

abbrev pub invariant-loop-hash : goal.invariant-loop-hash
invariant-loop-hash l = record { same : l.copy.items ≡ take l.hash-index l.hashes; sizes : All IsHash l.copy.items }

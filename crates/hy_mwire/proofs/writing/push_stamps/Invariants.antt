use Rattle.std.proofs.Common.{◌≡◌, ◌++◌, length, take, All}
use Rattle.std.specs.List.{flat_map}
use Rattle.byteorder.specs.Endian.{big_bytes}
use Rattle.hy_record.specs.Stamp.{IsStamp}
use Rattle.hy_record.specs.Spelling.{stamp_bytes}
use Rattle.hy_mwire.proofs.writing.push_stamps.Given as goal

abbrev pub invariant-loop-stamp : goal.invariant-loop-stamp
invariant-loop-stamp l = record {
  bytes : l.out.items ≡ l.fn.out.items ++ (big_bytes 2 (length l.stamps) ++ flat_map stamp_bytes (take l.stamp-index l.stamps));
  each : All IsStamp (take l.stamp-index l.stamps);
}

use Rattle.std.proofs.Common.{◌≡◌, ℕ, ◌+◌, ◌*◌, ◌≤◌, Bool, List, take, drop, length, vec_capacity, Some}
use Rattle.std.specs.Prelude.{flat_map, All}
use Rattle.hy_record.specs.Hash.{IsHash}
use Rattle.std.specs.List.{slice_get}
use Rattle.hy_record.specs.Stamp.{Timestamp}
use Rattle.hy_shared.specs.declared.event.Event.TheVariants.{Set}
use Rattle.hy_shared.specs.Rows.{hash_words}
use Rattle.hy_shared.proofs.shared.SharedMeta.read_row.Given as goal

abbrev pub invariant-loop-i : goal.invariant-loop-i
invariant-loop-i l = record {
  table : l.seat.table_id ≡ l.initial.seat.table_id;
  same : l.seat.me ≡ l.initial.seat.me;
  room : 10 ≤ vec_capacity l.hashes;
  many : length l.hashes.items ≡ l.i;
  sizes : All IsHash l.hashes.items;
  read : (place key : ℕ) (stamp : Timestamp) (applied : Bool) (words : List ℕ) → slice_get l.initial.seat.me.0.seen place ≡ Some (Set l.seen.row key stamp applied words) → length words ≡ 1 + 4 * l.count
      → flat_map hash_words l.hashes.items ≡ take (4 * l.i) (drop 1 words);
}

-- What a log has of records.
use Rattle.std.specs.Prelude.{◌≡◌, ℕ, Bool, List, Some}
use Rattle.std.specs.List.{slice_get}
use Rattle.hy_record.specs.Stamp.{Timestamp}
use Rattle.hy_record.specs.Record.{RecordValue, IsRecord, is_tombstone}
use Rattle.hy_shared.specs.declared.event.Event.{Event}
use Rattle.hy_shared.specs.declared.event.Event.TheVariants.{Set}
use Rattle.hy_shared.specs.Rows.{record_words}

-- the operation of the row has written this record to the key
pub record HasRecord (log : List Event) (key row : ℕ) (rec : RecordValue) : Type 0 where
  pub place : ℕ
  pub applied : Bool
  pub written : slice_get log place ≡ Some (Set row key rec.stamp applied (record_words rec))
  pub ruled : IsRecord rec

-- some operation has written a record of this timestamp to the key: a deletion, or a value
pub record HasKind (log : List Event) (key : ℕ) (stamp : Timestamp) (deletes : Bool) : Type 0 where
  pub row : ℕ
  pub rec : RecordValue
  pub written : HasRecord log key row rec
  pub stamp_is : rec.stamp ≡ stamp
  pub kind_is : is_tombstone rec.kind ≡ deletes

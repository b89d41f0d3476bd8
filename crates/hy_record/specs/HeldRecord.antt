-- How a record lies in memory.
use Rattle.hy_record.specs.declared.record.Record.TheInside.{Inside}
use Rattle.hy_record.specs.Record.{RecordValue, IsRecord}

-- what the fields stand for
abbrev pub value_of : Inside → RecordValue
value_of r = record { stamp = r.stamp; kind = r.kind; size = r.size; f = r.f; k = r.k; clouds = r.clouds; hashes = r.hashes.items }

-- the fields meet the rules of a record
abbrev pub IsHeldRecord : Inside → Type 0
IsHeldRecord r = IsRecord (value_of r)

-- Reading a record from left to right, with the first fault that is met.
use Rattle.std.specs.Prelude.{◌≡◌, ℕ, zero, suc, ◌-◌, ◌≤◌, IsTrue, Bool, ◌&&◌, ◌==◌, nat_lt, nat_le, List, [], ◌∷◌, length, take, drop, Option, Some, None, Result, Ok, Err, if◌then◌else◌}
use Rattle.byteorder.specs.Endian.{big_number}
use Rattle.hy_base.specs.Results.{◌>>=◌}
use Rattle.hy_base.specs.Results as results
use Rattle.hy_base.specs.declared.limits.TheConstants.{MAX_F, MAX_K, MAX_VALUE, SN_END}
use Rattle.hy_record.specs.declared.kind.Kind.{Kind}
use Rattle.hy_record.specs.declared.kind.Kind.TheVariants.{Tomb, Whole, Coded}
use Rattle.hy_record.specs.declared.record.fault.RecordFault.{RecordFault}
use Rattle.hy_record.specs.declared.record.fault.RecordFault.TheVariants as faults
use Rattle.hy_record.specs.declared.record.reading.Layout.{Layout}
use Rattle.hy_record.specs.declared.record.reading.Fields.{Fields}
use Rattle.hy_record.specs.Stamp.{Timestamp}
use Rattle.hy_record.specs.Hash.{HASH_SIZE}
use Rattle.hy_record.specs.Record.{RecordValue, is_part_count, is_cloud_list, hash_count}

-- the fault that an error of reading is; want of memory is none
abbrev pub fault_of : RecordFault → Option RecordFault
fault_of faults.NoMemory = None
fault_of fault = Some fault

-- what a function returned, as it is seen, is what reading gives, unless memory ran out
abbrev pub Gives : {X Y : Type 0} → (X → Y) → Result X RecordFault → Result Y RecordFault → Type 0
Gives view result read = results.Gives fault_of view result read

-- the same where no memory is taken
abbrev pub GivesExactly : {X Y : Type 0} → (X → Y) → Result X RecordFault → Result Y RecordFault → Type 0
GivesExactly view result read = results.Gives (λ fault. Some fault) view result read

-- the number in the first bytes, and the bytes after it; whole is the length of all that is read
abbrev pub number_at : ℕ → ℕ → List ℕ → Result (ℕ × List ℕ) RecordFault
number_at width whole bytes = if nat_lt (length bytes) width then Err (faults.Short whole) else Ok (big_number width bytes, drop width bytes)

-- the number, where it is as its rule says; its field is the one at this place
abbrev pub field_at : ℕ → ℕ → (ℕ → Bool) → ℕ → List ℕ → Result (ℕ × List ℕ) RecordFault
field_at width place rule whole bytes = do
  x ← number_at width whole bytes
  if rule x.0 then Ok x else Err (faults.BadShape place)

-- the version
unfoldable pub version_at : ℕ → List ℕ → Result (List ℕ) RecordFault
version_at whole [] = Err (faults.Short whole)
version_at whole (zero ∷ rest) = Err (faults.BadVersion 0)
version_at whole (suc zero ∷ rest) = Ok rest
version_at whole (suc (suc b) ∷ rest) = Err (faults.BadVersion (suc (suc b)))

-- the kind, and the bytes after it
unfoldable pub kind_at : ℕ → List ℕ → Result (Kind × List ℕ) RecordFault
kind_at whole [] = Err (faults.Short whole)
kind_at whole (zero ∷ rest) = Ok (Tomb, rest)
kind_at whole (suc zero ∷ rest) = Ok (Whole, rest)
kind_at whole (suc (suc zero) ∷ rest) = Ok (Coded, rest)
kind_at whole (suc (suc (suc b)) ∷ rest) = Err (faults.BadKind (suc (suc (suc b))))

-- a write's timestamp, which begins at place 2
unfoldable pub stamp_at : ℕ → List ℕ → Result (Timestamp × List ℕ) RecordFault
stamp_at whole bytes = do
  sn ← field_at 4 2 (λ sn. nat_lt 0 sn && nat_lt sn SN_END) whole bytes
  cid ← field_at 4 6 (λ cid. nat_lt 0 cid) whole sn.1
  Ok (record { sn = sn.0; cid = cid.0 }, cid.1)

-- the layout meets the rules of a value of this kind
pub record IsValueLayout (kind : Kind) (layout : Layout) : Type 0 where
  pub size : layout.size ≤ MAX_VALUE
  pub faults : layout.f ≤ MAX_F
  pub parts : IsTrue (is_part_count kind layout.k)
  pub few : layout.k ≤ MAX_K
  pub clouds : IsTrue (is_cloud_list layout.f layout.k layout.clouds)

-- a deletion lies in no cloud
abbrev pub no_layout : Layout
no_layout = record { size = 0; f = 0; k = 0; clouds = 0 }

-- the layout meets the rules of this kind
abbrev pub IsLayout : Kind → Layout → Type 0
IsLayout Tomb layout = layout ≡ no_layout
IsLayout Whole layout = IsValueLayout Whole layout
IsLayout Coded layout = IsValueLayout Coded layout

-- the layout of a value of this kind, which begins at place 10
unfoldable pub value_layout_at : Kind → ℕ → List ℕ → Result (Layout × List ℕ) RecordFault
value_layout_at kind whole bytes = do
  size ← field_at 4 10 (λ size. nat_le size MAX_VALUE) whole bytes
  f ← field_at 1 14 (λ f. nat_le f MAX_F) whole size.1
  k ← field_at 1 15 (λ k. is_part_count kind k) whole f.1
  clouds ← field_at 2 16 (λ clouds. is_cloud_list f.0 k.0 clouds) whole k.1
  Ok (record { size = size.0; f = f.0; k = k.0; clouds = clouds.0 }, clouds.1)

-- the layout of what this kind stands for
unfoldable pub layout_at : Kind → ℕ → List ℕ → Result (Layout × List ℕ) RecordFault
layout_at Tomb whole bytes = Ok (no_layout, bytes)
layout_at Whole whole bytes = value_layout_at Whole whole bytes
layout_at Coded whole bytes = value_layout_at Coded whole bytes

-- what all fields but the hashes say, and the bytes after them
unfoldable pub fields_at : ℕ → List ℕ → Result (Fields × List ℕ) RecordFault
fields_at whole bytes = do
  rest ← version_at whole bytes
  kind ← kind_at whole rest
  stamp ← stamp_at whole kind.1
  layout ← layout_at kind.0 whole stamp.1
  Ok (record { kind = kind.0; stamp = stamp.0; layout = layout.0 }, layout.1)

-- a hash
unfoldable pub hash_at : ℕ → List ℕ → Result (List ℕ × List ℕ) RecordFault
hash_at whole bytes = if nat_lt (length bytes) HASH_SIZE then Err (faults.Short whole) else Ok (take HASH_SIZE bytes, drop HASH_SIZE bytes)

-- so many hashes, one after another
unfoldable pub hashes_at : ℕ → ℕ → List ℕ → Result (List (List ℕ) × List ℕ) RecordFault
hashes_at zero whole bytes = Ok ([], bytes)
hashes_at (suc count) whole bytes = do
  first ← hash_at whole bytes
  others ← hashes_at count whole first.1
  Ok (first.0 ∷ others.0, others.1)

-- how many hashes are due after these fields
abbrev pub hashes_due : Fields → ℕ
hashes_due fields = hash_count fields.kind fields.layout.f fields.layout.k

-- the record of these fields and hashes
abbrev pub record_with : Fields → List (List ℕ) → RecordValue
record_with fields hashes = record { stamp = fields.stamp; kind = fields.kind; size = fields.layout.size; f = fields.layout.f; k = fields.layout.k; clouds = fields.layout.clouds; hashes = hashes }

-- the record of these fields, where the rest of all the bytes is its hashes
unfoldable pub ended_at : Fields → ℕ → List ℕ → Result RecordValue RecordFault
ended_at fields whole rest = do
  hashes ← hashes_at (hashes_due fields) whole rest
  if length hashes.1 == 0 then Ok (record_with fields hashes.0) else Err (faults.Extra (whole - length hashes.1))

-- the record that all of the bytes spell, or their first fault
unfoldable pub record_of : List ℕ → Result RecordValue RecordFault
record_of bytes = do
  fields ← fields_at (length bytes) bytes
  ended_at fields.0 (length bytes) fields.1

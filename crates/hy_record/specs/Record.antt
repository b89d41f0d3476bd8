-- Records: what the metadata service keeps of a key.
use Rattle.std.specs.Prelude.{◌≡◌, ◌≢◌, ℕ, ◌^◌, ◌<◌, ◌≤◌, Bool, true, false, not, ◌&&◌, ◌==◌, nat_lt, nat_le, List, [], length, All, IsTrue, Option, Some, None, slice_get, count_ones, if◌then◌else◌}
use Rattle.std.specs.Str.{bytes_eq}
use Rattle.sha2.specs.Sha256.{sha256}
use Rattle.hy_base.specs.Shape.{cloud_count, quorum_size, fragment_size}
use Rattle.hy_base.specs.declared.limits.TheConstants.{MAX_F, MAX_K, MAX_VALUE}
use Rattle.hy_record.specs.declared.kind.Kind.{Kind}
use Rattle.hy_record.specs.declared.kind.Kind.TheVariants.{Tomb, Whole, Coded}
use Rattle.hy_record.specs.Stamp.{Timestamp, IsStamp, IsWritten}
use Rattle.hy_record.specs.Hash.{IsHash}

-- when the value was written, and how it lies in the clouds
pub record RecordValue : Type 0 where
  pub stamp : Timestamp
  pub kind : Kind
  pub size : ℕ
  pub f : ℕ
  pub k : ℕ
  pub clouds : ℕ
  pub hashes : List (List ℕ)

-- the most bytes of a value of this kind
abbrev pub most_bytes : Kind → ℕ
most_bytes Tomb = 0
most_bytes Whole = MAX_VALUE
most_bytes Coded = MAX_VALUE

-- the most faulty clouds that a record of this kind bears
abbrev pub most_faults : Kind → ℕ
most_faults Tomb = 0
most_faults Whole = MAX_F
most_faults Coded = MAX_F

-- a value of this kind is cut into so many parts
abbrev pub is_part_count : Kind → ℕ → Bool
is_part_count Tomb k = k == 0
is_part_count Whole k = k == 1
is_part_count Coded k = nat_le 2 k && nat_le k MAX_K

-- the bits name a quorum of the store's clouds: bit i stands for cloud i
abbrev pub is_cloud_list : ℕ → ℕ → ℕ → Bool
is_cloud_list f k clouds = nat_lt clouds (2 ^ cloud_count f k) && (count_ones clouds == quorum_size f k)

-- the hashes of a record: none, that of the value, or one for each fragment
abbrev pub hash_count : Kind → ℕ → ℕ → ℕ
hash_count Tomb f k = 0
hash_count Whole f k = 1
hash_count Coded f k = cloud_count f k

-- the rules that each record meets
pub record IsRecord (r : RecordValue) : Type 0 where
  pub stamp : IsStamp r.stamp
  pub written : IsWritten r.stamp
  pub size : r.size ≤ most_bytes r.kind
  pub faults : r.f ≤ most_faults r.kind
  pub parts : IsTrue (is_part_count r.kind r.k)
  pub clouds : IsTrue (is_cloud_list r.f r.k r.clouds)
  pub hashes : length r.hashes ≡ hash_count r.kind r.f r.k
  pub sizes : All IsHash r.hashes

-- the record of a deletion
abbrev pub tombstone : Timestamp → RecordValue
tombstone stamp = record { stamp = stamp; kind = Tomb; size = 0; f = 0; k = 0; clouds = 0; hashes = [] }

-- a value that is cut into one part is stored whole
abbrev pub kind_of_parts : ℕ → Kind
kind_of_parts k = if k == 1 then Whole else Coded

-- the record of a value
abbrev pub record_of_value : Timestamp → ℕ → ℕ → ℕ → ℕ → List (List ℕ) → RecordValue
record_of_value stamp size f k clouds hashes = record { stamp = stamp; kind = kind_of_parts k; size = size; f = f; k = k; clouds = clouds; hashes = hashes }

abbrev pub hash_among : Kind → List (List ℕ) → ℕ → Option (List ℕ)
hash_among Tomb hashes i = None
hash_among Whole hashes i = slice_get hashes 0
hash_among Coded hashes i = slice_get hashes i

-- the hash of what this cloud holds; none for a deletion, or where there is no such cloud
abbrev pub hash_of : RecordValue → ℕ → Option (List ℕ)
hash_of r i = if nat_lt i (cloud_count r.f r.k) then hash_among r.kind r.hashes i else None

abbrev pub is_tombstone : Kind → Bool
is_tombstone Tomb = true
is_tombstone Whole = false
is_tombstone Coded = false

abbrev pub is_hash : Option (List ℕ) → List ℕ → Bool
is_hash None bytes = false
is_hash (Some hash) bytes = bytes_eq hash (sha256 bytes)

-- the bytes are what this cloud was given to hold, as a test
unfoldable pub is_valid_fragment : RecordValue → ℕ → List ℕ → Bool
is_valid_fragment r i bytes =
    not (is_tombstone r.kind) && nat_lt i (cloud_count r.f r.k) && (length bytes == fragment_size r.size r.k) && is_hash (hash_of r i) bytes

-- the bytes are what this cloud was given to hold
pub record IsValidFragment (r : RecordValue) (i : ℕ) (bytes : List ℕ) : Type 0 where
  pub value : r.kind ≢ Tomb
  pub cloud : i < cloud_count r.f r.k
  pub size : length bytes ≡ fragment_size r.size r.k
  pub hash : hash_of r i ≡ Some (sha256 bytes)

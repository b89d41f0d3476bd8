-- How a record is spelled: numbers stand with their highest byte first.
use Rattle.std.specs.Prelude.{◌≡◌, ℕ, ◌+◌, ◌*◌, List, [], ◌∷◌, ◌++◌}
use Rattle.std.specs.List.{concat}
use Rattle.byteorder.specs.Endian.{big_bytes}
use Rattle.hy_record.specs.declared.kind.Kind.{Kind}
use Rattle.hy_record.specs.declared.kind.Kind.TheVariants.{Tomb, Whole, Coded}
use Rattle.hy_record.specs.Stamp.{Timestamp}
use Rattle.hy_record.specs.Hash.{HASH_SIZE}
use Rattle.hy_record.specs.Record.{RecordValue, IsRecord, hash_count}

-- the number and the client, in four bytes each
abbrev pub stamp_bytes : Timestamp → List ℕ
stamp_bytes stamp = big_bytes 4 stamp.sn ++ big_bytes 4 stamp.cid

-- the bytes of the value, the faulty clouds, the parts, and the clouds
abbrev pub layout_bytes : ℕ → ℕ → ℕ → ℕ → List ℕ
layout_bytes size f k clouds = big_bytes 4 size ++ big_bytes 1 f ++ big_bytes 1 k ++ big_bytes 2 clouds

-- after the version: a deletion has its stamp, a whole value one hash, a coded one the hashes one after another
abbrev pub SpellsKind : Kind → List ℕ → RecordValue → Type 0
SpellsKind Tomb bytes r = bytes ≡ 0 ∷ stamp_bytes r.stamp
SpellsKind Whole bytes r = (hash : List ℕ) × (r.hashes ≡ hash ∷ []) × (bytes ≡ 1 ∷ stamp_bytes r.stamp ++ layout_bytes r.size r.f r.k r.clouds ++ hash)
SpellsKind Coded bytes r = bytes ≡ 2 ∷ stamp_bytes r.stamp ++ layout_bytes r.size r.f r.k r.clouds ++ concat r.hashes

-- the bytes spell the record: version 1, and what its kind has
abbrev pub SpellsRecord : List ℕ → RecordValue → Type 0
SpellsRecord [] r = ⊥
SpellsRecord (version ∷ bytes) r = (version ≡ 1) × IsRecord r × SpellsKind r.kind bytes r

-- the byte that names the kind
abbrev pub kind_byte : Kind → ℕ
kind_byte Tomb = 0
kind_byte Whole = 1
kind_byte Coded = 2

-- what stands after the stamp
abbrev pub value_bytes : Kind → RecordValue → List ℕ
value_bytes Tomb r = []
value_bytes Whole r = layout_bytes r.size r.f r.k r.clouds ++ concat r.hashes
value_bytes Coded r = layout_bytes r.size r.f r.k r.clouds ++ concat r.hashes

-- the one spelling of a record
abbrev pub record_bytes : RecordValue → List ℕ
record_bytes r = 1 ∷ kind_byte r.kind ∷ stamp_bytes r.stamp ++ value_bytes r.kind r

-- how many bytes the layout of a value of this kind has
abbrev pub layout_size : Kind → ℕ
layout_size Tomb = 0
layout_size Whole = 8
layout_size Coded = 8

-- how many bytes a spelling has: ten up to the end of the timestamp, then the layout, and the hashes
abbrev pub spelling_size : Kind → ℕ → ℕ → ℕ
spelling_size kind f k = 10 + layout_size kind + HASH_SIZE * hash_count kind f k

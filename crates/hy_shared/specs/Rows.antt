-- The words of a row: a record as a list of numbers below 2 ^ 64.
use Rattle.std.specs.Prelude.{◌≡◌, ◌≢◌, ℕ, ◌+◌, ◌*◌, ◌<◌, slice_index, List, [], ◌∷◌, flat_map}
use Rattle.byteorder.specs.Endian.{big_from}
use Rattle.hy_record.specs.declared.kind.Kind.TheVariants.{Tomb}
use Rattle.hy_record.specs.Stamp.{Timestamp}
use Rattle.hy_record.specs.Spelling.{kind_byte}
use Rattle.hy_record.specs.Record.{RecordValue, IsRecord}
use Rattle.hy_shared.specs.declared.layout.Layout.{Layout}

-- the first word: the size, the kind and the clouds
abbrev pub row_head : RecordValue → ℕ
row_head r = r.size * 4294967296 + kind_byte r.kind * 65536 + r.clouds

-- the four words of a hash, each of eight bytes, the highest first
abbrev pub hash_words : List ℕ → List ℕ
hash_words hash = big_from 0 8 hash ∷ big_from 8 8 hash ∷ big_from 16 8 hash ∷ big_from 24 8 hash ∷ []

-- the words of a record, but for its timestamp
abbrev pub record_words : RecordValue → List ℕ
record_words r = row_head r ∷ flat_map hash_words r.hashes

-- each number of the list is a byte
abbrev pub IsByteList : List ℕ → Type 0
IsByteList bytes = (i : ℕ) → slice_index bytes i < 256

-- the record is a deletion, or one of the table's shape
abbrev pub FitsLayout : Layout → RecordValue → Type 0
FitsLayout z r = r.kind ≢ Tomb → (r.f ≡ z.f) × (r.k ≡ z.k)

-- the words are those of a record of this timestamp
pub record IsRowOf (z : Layout) (stamp : Timestamp) (words : List ℕ) : Type 0 where
  pub rec : RecordValue
  pub words_are : words ≡ record_words rec
  pub ruled : IsRecord rec
  pub stamp_is : rec.stamp ≡ stamp
  pub fits : FitsLayout z rec

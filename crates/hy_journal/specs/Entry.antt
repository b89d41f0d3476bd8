-- The entries of a journal, and their bytes.
use Rattle.std.specs.Prelude.{◌≡◌, ◌≢◌, ℕ, ◌<◌, Bool, true, false, IsTrue, List, ◌∷◌, ◌++◌, length, drop, Option, Some, None, ⊤}
use Rattle.byteorder.specs.Endian.{big_bytes}
use Rattle.hy_record.specs.declared.message.MetaAsk.{MetaAsk}
use Rattle.hy_record.specs.declared.message.MetaAsk.TheVariants as asks
use Rattle.hy_record.specs.Record.{RecordValue, IsRecord}
use Rattle.hy_record.specs.Spelling.{record_bytes}
use Rattle.hy_record.specs.Stamp.{Timestamp}
use Rattle.hy_mwire.specs.declared.message.Message.{Message}
use Rattle.hy_mwire.specs.declared.message.Message.TheVariants as messages
use Rattle.hy_mwire.specs.Message.{IsAsk}
use Rattle.hy_mwire.specs.Frames.{ask_fields, frame_of}
use Rattle.hy_journal.specs.declared.entry.Entry.{Entry}
use Rattle.hy_journal.specs.declared.entry.Entry.TheVariants.{Join, Ask}

-- the request changes what a service keeps, so it is kept in the journal
unfoldable pub is_kept : MetaAsk → Bool
is_kept (asks.Read client op key) = false
is_kept (asks.Update client op key rec) = true
is_kept (asks.Watch client op key stamp) = false
is_kept (asks.Olds client op key) = false
is_kept (asks.Forget client op key stamps) = true
is_kept (asks.Swap client op key expected rec) = true

-- the parts of a swap are those of a watch at the timestamp that it expects, and of a record
abbrev pub IsSwap : ℕ → ℕ → List ℕ → Timestamp → RecordValue → Type 0
IsSwap client op key expected rec =
    IsAsk (asks.Watch client op key expected) × IsRecord rec

-- the parts of a request that can be kept
abbrev pub AreParts : MetaAsk → Type 0
AreParts (asks.Swap client op key expected rec) = IsSwap client op key expected rec
AreParts ask = IsAsk ask

-- what can be an entry
unfoldable pub IsEntry : Entry → Type 0
IsEntry Join = ⊤
IsEntry (Ask ask) = IsTrue (is_kept ask) × AreParts ask

-- the message that has the entry's bytes as its frame, unless it is a swap
abbrev pub message_of : Entry → Message
message_of Join = messages.Join
message_of (Ask ask) = messages.Ask ask

abbrev pub entry_if_kept : Bool → MetaAsk → Option Entry
entry_if_kept true ask = Some (Ask ask)
entry_if_kept false ask = None

-- the entry that has this message, if one does
abbrev pub entry_in : Message → Option Entry
entry_in messages.Join = Some Join
entry_in (messages.Ask ask) = entry_if_kept (is_kept ask) ask
entry_in _ = None

-- a length, the kind of a swap, and these bytes behind it
unfoldable pub swap_block : List ℕ → List ℕ → List ℕ
swap_block fields spelled =
    big_bytes 4 (length (7 ∷ fields ++ spelled)) ++ (7 ∷ fields ++ spelled)

-- the length of a swap, its kind, the parts of a watch at the timestamp that it expects, and the
-- record
abbrev pub swap_bytes : ℕ → ℕ → List ℕ → Timestamp → RecordValue → List ℕ
swap_bytes client op key expected rec =
    swap_block (ask_fields (asks.Watch client op key expected)) (record_bytes rec)

abbrev pub ask_bytes : MetaAsk → List ℕ
ask_bytes (asks.Swap client op key expected rec) = swap_bytes client op key expected rec
ask_bytes ask = frame_of (messages.Ask ask)

-- the length of the entry, and the entry
unfoldable pub entry_bytes : Entry → List ℕ
entry_bytes Join = frame_of messages.Join
entry_bytes (Ask ask) = ask_bytes ask

-- the entry and a gate behind it stand in front of the bytes; the entry has so many
pub record HasEntry (bytes : List ℕ) (entry : Entry) (size : ℕ) : Type 0 where
  pub known : IsEntry entry
  pub long : size ≡ length (entry_bytes entry)
  pub front : bytes ≡ entry_bytes entry ++ drop size bytes
  pub gate : size < length bytes

-- no entry with a gate behind it stands in front of the bytes
abbrev pub LacksEntry : List ℕ → Type 0
LacksEntry bytes = (entry : Entry) (gate : ℕ) (more : List ℕ) → IsEntry entry
    → bytes ≢ entry_bytes entry ++ gate ∷ more

-- The entry of a swap, as it is read.
use Rattle.std.specs.Prelude.{◌≡◌, ◌≢◌, ℕ, ◌+◌, ◌<◌, ◌≤◌, ◌^◌, List, ◌∷◌, ◌++◌, length, drop, Option, Some, None, slice_index_or}
use Rattle.byteorder.specs.Endian.{big_bytes}
use Rattle.hy_record.specs.declared.message.MetaAsk.TheVariants as asks
use Rattle.hy_record.specs.Record.{RecordValue}
use Rattle.hy_record.specs.Spelling.{SpellsRecord}
use Rattle.hy_record.specs.Stamp.{Timestamp}
use Rattle.hy_mwire.specs.declared.message.Message.{Message}
use Rattle.hy_mwire.specs.declared.message.Message.TheVariants as messages
use Rattle.hy_mwire.specs.Message.{IsAsk}
use Rattle.hy_mwire.specs.Frames.{ask_fields, frame_of}
use Rattle.hy_journal.specs.declared.swap.Watched.{Watched}
use Rattle.hy_journal.specs.Entry.{IsSwap, swap_bytes, swap_block}

-- the parts of a watch have so many bytes as the length of the key says, which stands behind eight
-- bytes
abbrev pub AreLong : List ℕ → Type 0
AreLong fields = length fields ≡ 17 + slice_index_or fields 8 0

-- the block of these fields and this spelling stands in front of the bytes, with a gate behind it
pub record HasBlock (bytes fields spelled : List ℕ) : Type 0 where
  pub long : AreLong fields
  pub front : bytes ≡ swap_block fields spelled ++ drop (5 + length fields + length spelled) bytes
  pub gate : 5 + length fields + length spelled < length bytes
  pub few : length fields ≤ 272
  pub small : 1 + length fields + length spelled < 2 ^ 32

-- no such block does
abbrev pub LacksBlock : List ℕ → Type 0
LacksBlock bytes = (fields spelled : List ℕ) (gate : ℕ) (more : List ℕ) → AreLong fields
    → 1 + length fields + length spelled < 2 ^ 32
    → bytes ≢ swap_block fields spelled ++ gate ∷ more

-- the watch that the message is, if it is one
abbrev pub watch_in : Message → Option Watched
watch_in (messages.Ask (asks.Watch client op key stamp)) =
    Some (record { client = client; op = op; key = key; stamp = stamp })
watch_in _ = None

-- the frame that a watch with these fields has
abbrev pub watch_frame : List ℕ → List ℕ
watch_frame fields = big_bytes 4 (length fields + 1) ++ (4 ∷ fields)

-- the bytes are the frame of the watch
abbrev pub HasWatch : List ℕ → Watched → Type 0
HasWatch frame watch = IsAsk (asks.Watch watch.client watch.op watch.key watch.stamp)
    × (frame ≡ frame_of (messages.Ask (asks.Watch watch.client watch.op watch.key watch.stamp)))

-- they are that of none
abbrev pub LacksWatch : List ℕ → Type 0
LacksWatch frame = (client op : ℕ) (key : List ℕ) (stamp : Timestamp)
    → IsAsk (asks.Watch client op key stamp)
    → frame ≢ frame_of (messages.Ask (asks.Watch client op key stamp))

-- the watch has these fields
abbrev pub HasFields : List ℕ → Watched → Type 0
HasFields fields watch = IsAsk (asks.Watch watch.client watch.op watch.key watch.stamp)
    × (fields ≡ ask_fields (asks.Watch watch.client watch.op watch.key watch.stamp))

-- no watch has these fields
abbrev pub LacksFields : List ℕ → Type 0
LacksFields fields = (client op : ℕ) (key : List ℕ) (stamp : Timestamp)
    → IsAsk (asks.Watch client op key stamp) → fields ≢ ask_fields (asks.Watch client op key stamp)

-- the bytes spell no record
abbrev pub LacksRecord : List ℕ → Type 0
LacksRecord spelled = (rec : RecordValue) → SpellsRecord spelled rec → ⊥

-- no swap with a gate behind it stands in front of the bytes
abbrev pub LacksSwap : List ℕ → Type 0
LacksSwap bytes = (client op : ℕ) (key : List ℕ) (expected : Timestamp) (rec : RecordValue)
    (gate : ℕ) (more : List ℕ) → IsSwap client op key expected rec
    → bytes ≢ swap_bytes client op key expected rec ++ gate ∷ more

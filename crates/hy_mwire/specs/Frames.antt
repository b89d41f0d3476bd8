-- The one frame of a message: a length, a byte that names its kind, and its parts. Numbers stand with their highest byte first.
use Rattle.std.specs.Prelude.{ℕ, ◌-◌, ◌^◌, min, List, [], ◌∷◌, ◌++◌, length, Option, Some, None}
use Rattle.std.specs.List.{flat_map}
use Rattle.byteorder.specs.Endian.{big_bytes}
use Rattle.hy_record.specs.declared.message.MetaAsk.{MetaAsk}
use Rattle.hy_record.specs.declared.message.MetaAsk.TheVariants as asks
use Rattle.hy_record.specs.declared.message.MetaSay.{MetaSay}
use Rattle.hy_record.specs.declared.message.MetaSay.TheVariants as says
use Rattle.hy_record.specs.Stamp.{Timestamp}
use Rattle.hy_record.specs.Record.{RecordValue}
use Rattle.hy_record.specs.Spelling.{stamp_bytes, record_bytes}
use Rattle.hy_mwire.specs.declared.message.Message.{Message}
use Rattle.hy_mwire.specs.declared.message.Message.TheVariants.{Join, Joined, Full, Ask, Say}
use Rattle.hy_mwire.specs.declared.kind.MessageKind.{MessageKind}
use Rattle.hy_mwire.specs.declared.kind.MessageKind.TheVariants as kinds
use Rattle.hy_mwire.specs.declared.kind.AskKind.{AskKind}
use Rattle.hy_mwire.specs.declared.kind.AskKind.TheVariants as ask_kinds
use Rattle.hy_mwire.specs.declared.kind.SayKind.{SayKind}
use Rattle.hy_mwire.specs.declared.kind.SayKind.TheVariants as say_kinds
use Rattle.hy_mwire.specs.Kind.{kind_byte}

-- the client and the number of the operation, and its key behind the key's length
abbrev pub operation_bytes : ℕ → ℕ → List ℕ → List ℕ
operation_bytes client op key = big_bytes 4 client ++ (big_bytes 4 op ++ (length key ∷ key))

-- how many timestamps there are, and then each
abbrev pub stamps_bytes : List Timestamp → List ℕ
stamps_bytes stamps = big_bytes 2 (length stamps) ++ flat_map stamp_bytes stamps

-- a byte that says whether there is a record, and then the record
abbrev pub found_bytes : Option RecordValue → List ℕ
found_bytes None = 0 ∷ []
found_bytes (Some rec) = 1 ∷ record_bytes rec

-- the kind of what is asked; a swap has no frame, and this stands for nothing there
abbrev pub ask_kind : MetaAsk → AskKind
ask_kind (asks.Read client op key) = ask_kinds.Read
ask_kind (asks.Update client op key rec) = ask_kinds.Update
ask_kind (asks.Watch client op key stamp) = ask_kinds.Watch
ask_kind (asks.Olds client op key) = ask_kinds.Olds
ask_kind (asks.Forget client op key stamps) = ask_kinds.Forget
ask_kind (asks.Swap client op key expected rec) = ask_kinds.Update

abbrev pub ask_fields : MetaAsk → List ℕ
ask_fields (asks.Read client op key) = operation_bytes client op key
ask_fields (asks.Update client op key rec) = operation_bytes client op key ++ record_bytes rec
ask_fields (asks.Watch client op key stamp) = operation_bytes client op key ++ stamp_bytes stamp
ask_fields (asks.Olds client op key) = operation_bytes client op key
ask_fields (asks.Forget client op key stamps) = operation_bytes client op key ++ stamps_bytes stamps
ask_fields (asks.Swap client op key expected rec) = []

-- the kind of what is answered; an answer to a swap has no frame
abbrev pub say_kind : MetaSay → SayKind
say_kind (says.Has client op key rec) = say_kinds.Has
say_kind (says.Applied client op key stamp) = say_kinds.Applied
say_kind (says.Kept client op key stamp) = say_kinds.Kept
say_kind (says.Fired client op key stamp) = say_kinds.Fired
say_kind (says.OldList client op key stamps) = say_kinds.OldList
say_kind (says.Forgot client op key) = say_kinds.Forgot
say_kind (says.Swapped client op key stamp) = say_kinds.Applied
say_kind (says.Changed client op key stamp) = say_kinds.Kept

abbrev pub say_fields : MetaSay → List ℕ
say_fields (says.Has client op key rec) = operation_bytes client op key ++ found_bytes rec
say_fields (says.Applied client op key stamp) = operation_bytes client op key ++ stamp_bytes stamp
say_fields (says.Kept client op key stamp) = operation_bytes client op key ++ stamp_bytes stamp
say_fields (says.Fired client op key stamp) = operation_bytes client op key ++ stamp_bytes stamp
say_fields (says.OldList client op key stamps) = operation_bytes client op key ++ stamps_bytes stamps
say_fields (says.Forgot client op key) = operation_bytes client op key
say_fields (says.Swapped client op key stamp) = []
say_fields (says.Changed client op key stamp) = []

-- the kind of the message
abbrev pub message_kind : Message → MessageKind
message_kind Join = kinds.Join
message_kind (Joined client) = kinds.Joined
message_kind Full = kinds.Full
message_kind (Ask ask) = kinds.Ask (ask_kind ask)
message_kind (Say say) = kinds.Say (say_kind say)

-- its parts
abbrev pub message_fields : Message → List ℕ
message_fields Join = []
message_fields (Joined client) = big_bytes 4 client
message_fields Full = []
message_fields (Ask ask) = ask_fields ask
message_fields (Say say) = say_fields say

-- what stands behind the length
abbrev pub body_of : Message → List ℕ
body_of message = kind_byte (message_kind message) ∷ message_fields message

-- the one frame of a message
unfoldable pub frame_of : Message → List ℕ
frame_of message = big_bytes 4 (length (body_of message)) ++ body_of message

-- the frames of these messages, one after another
abbrev pub frames_of : List Message → List ℕ
frames_of messages = flat_map frame_of messages

-- the place behind these messages, counted from the front of the stream
abbrev pub place_behind : List Message → ℕ
place_behind messages = min (length (frames_of messages)) (2 ^ 64 - 1)

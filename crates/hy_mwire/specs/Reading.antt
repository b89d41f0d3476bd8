-- Reading the fields of a message from left to right.
use Rattle.std.specs.Prelude.{ℕ, zero, suc, ◌==◌, nat_lt, List, [], ◌∷◌, ◌≡◌, length, take, drop, Option, Some, None, Result, Ok, Err, if◌then◌else◌}
use Rattle.std.specs.Result.{result_ok}
use Rattle.byteorder.specs.Endian.{big_number}
use Rattle.hy_record.specs.declared.stamps.TheConstants.{MAX_STAMPS}
use Rattle.hy_record.specs.declared.message.MetaAsk.TheVariants as asks
use Rattle.hy_record.specs.declared.message.MetaSay.TheVariants as says
use Rattle.hy_record.specs.Key.{key_of}
use Rattle.hy_record.specs.Stamp.{Timestamp, stamp_of}
use Rattle.hy_record.specs.Stamps.{is_rising}
use Rattle.hy_record.specs.Record.{RecordValue}
use Rattle.hy_record.specs.Reading.{record_of}
use Rattle.hy_mwire.specs.declared.body.BodyFault.{BodyFault}
use Rattle.hy_mwire.specs.declared.body.BodyFault.TheVariants as faults
use Rattle.hy_mwire.specs.declared.body.Operation.{Operation}
use Rattle.hy_mwire.specs.declared.body.TheConstants.{STAMP_SIZE}
use Rattle.hy_mwire.specs.declared.message.Message.{Message}
use Rattle.hy_mwire.specs.declared.message.Message.TheVariants.{Join, Joined, Full, Ask, Say}
use Rattle.hy_mwire.specs.declared.kind.MessageKind.{MessageKind}
use Rattle.hy_mwire.specs.declared.kind.MessageKind.TheVariants as kinds
use Rattle.hy_mwire.specs.declared.kind.AskKind.{AskKind}
use Rattle.hy_mwire.specs.declared.kind.AskKind.TheVariants as ask_kinds
use Rattle.hy_mwire.specs.declared.kind.SayKind.{SayKind}
use Rattle.hy_mwire.specs.declared.kind.SayKind.TheVariants as say_kinds

infixl 10 ◌>>=◌
abbrev pub ◌>>=◌ : {A B : Type 0} → Option A → (A → Option B) → Option B
(Some x) >>= f = f x
None >>= f = None

-- the fault is one that reading meets, unless memory ran out
abbrev pub Fails : {Y : Type 0} → BodyFault → Option Y → Type 0
Fails faults.Bad read = read ≡ None
Fails faults.NoMemory read = Unit {0}

-- what a function returned, as it is seen, is what reading gives, unless memory ran out
abbrev pub Gives : {X Y : Type 0} → (X → Y) → Result X BodyFault → Option Y → Type 0
Gives view (Ok x) read = read ≡ Some (view x)
Gives view (Err e) read = Fails e read

-- so many bytes, and those behind them
abbrev pub bytes_at : ℕ → List ℕ → Option (List ℕ × List ℕ)
bytes_at count bytes = if nat_lt (length bytes) count then None else Some (take count bytes, drop count bytes)

-- the number in the first bytes, and the bytes behind it
abbrev pub number_at : ℕ → List ℕ → Option (ℕ × List ℕ)
number_at width bytes = if nat_lt (length bytes) width then None else Some (big_number width bytes, drop width bytes)

-- the value, where nothing stands behind it
abbrev pub ended : {X : Type 0} → X → List ℕ → Option X
ended x [] = Some x
ended x (byte ∷ bytes) = None

-- a key behind its length
unfoldable pub key_at : List ℕ → Option (List ℕ × List ℕ)
key_at bytes = do
  size ← number_at 1 bytes
  front ← bytes_at size.0 size.1
  key ← result_ok (key_of front.0)
  Some (key, front.1)

-- the operation of a client on a key
unfoldable pub operation_at : List ℕ → Option (Operation × List ℕ)
operation_at bytes = do
  client ← number_at 4 bytes
  op ← number_at 4 client.1
  key ← key_at op.1
  Some (record { client = client.0; op = op.0; key = key.0 }, key.1)

-- a timestamp and nothing else
unfoldable pub stamp_in : List ℕ → Option Timestamp
stamp_in bytes = do
  sn ← number_at 4 bytes
  cid ← number_at 4 sn.1
  stamp ← stamp_of sn.0 cid.0
  ended stamp cid.1

-- so many timestamps
unfoldable pub stamps_at : ℕ → List ℕ → Option (List Timestamp × List ℕ)
stamps_at zero bytes = Some ([], bytes)
stamps_at (suc count) bytes = do
  front ← bytes_at STAMP_SIZE bytes
  first ← stamp_in front.0
  others ← stamps_at count front.1
  Some (first ∷ others.0, others.1)

-- a list of timestamps and nothing else
unfoldable pub stamps_in : List ℕ → Option (List Timestamp)
stamps_in bytes = do
  count ← number_at 2 bytes
  stamps ← if nat_lt MAX_STAMPS count.0 then None else stamps_at count.0 count.1
  if is_rising stamps.0 then ended stamps.0 stamps.1 else None

-- a record and nothing else
unfoldable pub record_in : List ℕ → Option RecordValue
record_in bytes = result_ok (record_of bytes)

-- whether there is a record, and the record
unfoldable pub found_in : List ℕ → Option (Option RecordValue)
found_in [] = None
found_in (zero ∷ bytes) = ended None bytes
found_in (suc zero ∷ bytes) = record_in bytes >>= λ rec. Some (Some rec)
found_in (suc (suc n) ∷ bytes) = None

-- the number of a client, at least 1, and nothing else
unfoldable pub joined_in : List ℕ → Option Message
joined_in bytes = do
  client ← number_at 4 bytes
  if client.0 == 0 then None else ended (Joined client.0) client.1

-- what is asked of this kind, for the operation
unfoldable pub ask_in : AskKind → Operation → List ℕ → Option Message
ask_in ask_kinds.Read o bytes = ended (Ask (asks.Read o.client o.op o.key)) bytes
ask_in ask_kinds.Update o bytes = record_in bytes >>= λ rec. Some (Ask (asks.Update o.client o.op o.key rec))
ask_in ask_kinds.Watch o bytes = stamp_in bytes >>= λ stamp. Some (Ask (asks.Watch o.client o.op o.key stamp))
ask_in ask_kinds.Olds o bytes = ended (Ask (asks.Olds o.client o.op o.key)) bytes
ask_in ask_kinds.Forget o bytes = stamps_in bytes >>= λ stamps. Some (Ask (asks.Forget o.client o.op o.key stamps))

-- what is answered of this kind, to the operation
unfoldable pub say_in : SayKind → Operation → List ℕ → Option Message
say_in say_kinds.Has o bytes = found_in bytes >>= λ rec. Some (Say (says.Has o.client o.op o.key rec))
say_in say_kinds.Applied o bytes = stamp_in bytes >>= λ stamp. Some (Say (says.Applied o.client o.op o.key stamp))
say_in say_kinds.Kept o bytes = stamp_in bytes >>= λ stamp. Some (Say (says.Kept o.client o.op o.key stamp))
say_in say_kinds.Fired o bytes = stamp_in bytes >>= λ stamp. Some (Say (says.Fired o.client o.op o.key stamp))
say_in say_kinds.OldList o bytes = stamps_in bytes >>= λ stamps. Some (Say (says.OldList o.client o.op o.key stamps))
say_in say_kinds.Forgot o bytes = ended (Say (says.Forgot o.client o.op o.key)) bytes

-- the message of this kind whose parts stand in the bytes
unfoldable pub message_in : MessageKind → List ℕ → Option Message
message_in kinds.Join bytes = ended Join bytes
message_in kinds.Joined bytes = joined_in bytes
message_in kinds.Full bytes = ended Full bytes
message_in (kinds.Ask kind) bytes = operation_at bytes >>= λ o. ask_in kind o.0 o.1
message_in (kinds.Say kind) bytes = operation_at bytes >>= λ o. say_in kind o.0 o.1

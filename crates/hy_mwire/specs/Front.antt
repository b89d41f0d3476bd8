-- What stands at the front of a stream, or of what is left of one.
use Rattle.std.specs.Prelude.{◌≡◌, ◌≢◌, ℕ, ◌+◌, ◌<◌, ◌≤◌, nat_lt, List, [], ◌∷◌, ◌++◌, length, take, drop, All, Option, Some, None, ◌⊎◌, if◌then◌else◌}
use Rattle.byteorder.specs.Endian.{big_bytes, big_number}
use Rattle.hy_mwire.specs.declared.front.TheConstants.{MAX_FRAME}
use Rattle.hy_mwire.specs.declared.message.Message.{Message}
use Rattle.hy_mwire.specs.declared.fault.FrameFault.{FrameFault}
use Rattle.hy_mwire.specs.declared.fault.FrameFault.TheVariants.{TooLong, BadKind, BadBody, NoMemory}
use Rattle.hy_mwire.specs.declared.kind.MessageKind.{MessageKind}
use Rattle.hy_mwire.specs.Kind.{kind_byte, kind_of}
use Rattle.hy_mwire.specs.Message.{IsMessage}
use Rattle.hy_mwire.specs.Frames.{body_of}
use Rattle.hy_mwire.specs.Reading.{message_in}

-- no whole frame, a message and the bytes of its frame, or a fault
pub data Front : Type 0 where
  partial : Front
  message : Message → ℕ → Front
  fault : FrameFault → Front

abbrev pub message_or : ℕ → ℕ → Option Message → Front
message_or place size (Some said) = message said size
message_or place size None = fault (BadBody place)

abbrev pub kind_or : ℕ → ℕ → ℕ → List ℕ → Option MessageKind → Front
kind_or place size byte fields (Some kind) = message_or place size (message_in kind fields)
kind_or place size byte fields None = fault (BadKind byte place)

-- what the whole frame at this place says, which has so many bytes and this body
abbrev pub judged : ℕ → ℕ → List ℕ → Front
judged place size [] = fault (BadBody place)
judged place size (byte ∷ fields) = kind_or place size byte fields (kind_of byte)

-- the frame at this place with this length, and the bytes behind the length
abbrev pub frame_at : ℕ → ℕ → List ℕ → Front
frame_at place size bytes =
    if nat_lt MAX_FRAME size then fault (TooLong size) else (if nat_lt (length bytes) size then partial else judged place (size + 4) (take size bytes))

-- what stands at the front of these bytes, which are those of a stream from this place on
unfoldable pub front_at : ℕ → List ℕ → Front
front_at place bytes = if nat_lt (length bytes) 4 then partial else frame_at place (big_number 4 bytes) (drop 4 bytes)

-- each number is a byte
abbrev pub AreBytes : List ℕ → Type 0
AreBytes bytes = All (λ byte. byte < 256) bytes

-- fewer bytes than a length, or than a length that a frame may have and what it says
abbrev pub IsPartial : List ℕ → Type 0
IsPartial bytes = (length bytes < 4) ⊎ ((big_number 4 bytes ≤ MAX_FRAME) × (length bytes < big_number 4 bytes + 4))

-- a whole frame with this body stands in front
pub record HasBody (bytes body : List ℕ) : Type 0 where
  pub size : length body ≤ MAX_FRAME
  pub begins : (later : List ℕ) × (bytes ≡ big_bytes 4 (length body) ++ (body ++ later))

-- no message has this body, though its first byte, if it has one, names a kind
abbrev pub IsUnreadable : List ℕ → Type 0
IsUnreadable body = ((body ≡ []) ⊎ ((kind : MessageKind) × (fields : List ℕ) × (body ≡ kind_byte kind ∷ fields))) × ((said : Message) → IsMessage said → body ≢ body_of said)

-- this is the fault in front of the bytes, which are those of a stream from this place on
abbrev pub IsFault : ℕ → List ℕ → FrameFault → Type 0
IsFault place bytes (TooLong size) = (4 ≤ length bytes) × (big_number 4 bytes ≡ size) × (MAX_FRAME < size)
IsFault place bytes (BadKind byte at) = (at ≡ place) × ((fields : List ℕ) × HasBody bytes (byte ∷ fields)) × ((kind : MessageKind) → kind_byte kind ≢ byte)
IsFault place bytes (BadBody at) = (at ≡ place) × (body : List ℕ) × HasBody bytes body × IsUnreadable body
IsFault place bytes NoMemory = ⊥

-- The frames of requests, one after another.
use Rattle.std.specs.Prelude.{◌≡◌, ◌≢◌, ℕ, ◌<◌, ◌≤◌, Bool, true, false, List, ◌++◌, length, drop, All, ⊤}
use Rattle.hy_mwire.specs.declared.message.Message.{Message}
use Rattle.hy_mwire.specs.declared.message.Message.TheVariants as messages
use Rattle.hy_mwire.specs.Message.{IsMessage}
use Rattle.hy_mwire.specs.Frames.{frame_of, frames_of}
use Rattle.hy_journal.specs.declared.fault.RequestsFault.{RequestsFault}
use Rattle.hy_journal.specs.declared.fault.RequestsFault.TheVariants as faults

-- a keeper serves a join, and what a client asks
abbrev pub is_request : Message → Bool
is_request messages.Join = true
is_request (messages.Joined client) = false
is_request messages.Full = false
is_request (messages.Ask ask) = true
is_request (messages.Say say) = false

-- a request that has a frame
abbrev pub IsRequest : Message → Type 0
IsRequest said = (is_request said ≡ true) × IsMessage said

-- the request's frame stands in front of the bytes; it has so many
pub record HasRequest (bytes : List ℕ) (said : Message) (size : ℕ) : Type 0 where
  pub known : IsRequest said
  pub long : size ≡ length (frame_of said)
  pub front : bytes ≡ frame_of said ++ drop size bytes
  pub some : 0 < size
  pub within : size ≤ length bytes

-- no request's frame stands in front of the bytes
abbrev pub LacksRequest : List ℕ → Type 0
LacksRequest bytes =
    (said : Message) (more : List ℕ) → IsRequest said → bytes ≢ frame_of said ++ more

-- the bytes are the frames of these requests
pub record AreRequests (bytes : List ℕ) (said : List Message) : Type 0 where
  pub frames : bytes ≡ frames_of said
  pub each : All IsRequest said

-- behind the frames of some requests, at this place, bytes follow that do not begin with one
pub record IsBadFrameAt (bytes : List ℕ) (place : ℕ) : Type 0 where
  pub said : List Message
  pub rest : List ℕ
  pub shape : bytes ≡ frames_of said ++ rest
  pub at : place ≡ length (frames_of said)
  pub each : All IsRequest said
  pub left : 0 < length rest
  pub lacks : LacksRequest rest

-- why the bytes are not read
abbrev pub RequestsCause : List ℕ → RequestsFault → Type 0
RequestsCause bytes (faults.BadFrame place) = IsBadFrameAt bytes place
RequestsCause bytes faults.NoMemory = ⊤

-- the bytes before this place are the frames of these requests
pub record IsReadTo (bytes : List ℕ) (said : List Message) (end : ℕ) : Type 0 where
  pub front : bytes ≡ frames_of said ++ drop end bytes
  pub at : end ≡ length (frames_of said)
  pub each : All IsRequest said
  pub within : end ≤ length bytes

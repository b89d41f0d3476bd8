-- Messages: what their parts can be.
use Rattle.std.specs.Prelude.{ℕ, ◌<◌, ◌^◌, List, All, IsTrue, Option, Some, None, ⊤}
use Rattle.hy_record.specs.declared.message.MetaAsk.{MetaAsk}
use Rattle.hy_record.specs.declared.message.MetaAsk.TheVariants as asks
use Rattle.hy_record.specs.declared.message.MetaSay.{MetaSay}
use Rattle.hy_record.specs.declared.message.MetaSay.TheVariants as says
use Rattle.hy_record.specs.Key.{is_key}
use Rattle.hy_record.specs.Stamp.{Timestamp, IsStamp}
use Rattle.hy_record.specs.Stamps.{IsStampList}
use Rattle.hy_record.specs.Record.{RecordValue, IsRecord}
use Rattle.hy_mwire.specs.declared.message.Message.{Message}
use Rattle.hy_mwire.specs.declared.message.Message.TheVariants.{Join, Joined, Full, Ask, Say}

-- an operation of a client on a key
pub record IsOperation (client op : ℕ) (key : List ℕ) : Type 0 where
  pub client_fits : client < 2 ^ 32
  pub number_fits : op < 2 ^ 32
  pub spelled : IsTrue (is_key key)

-- timestamps as they are listed
pub record AreStamps (stamps : List Timestamp) : Type 0 where
  pub listed : IsStampList stamps
  pub each : All IsStamp stamps

-- a record, or none
abbrev pub IsRecordIfAny : Option RecordValue → Type 0
IsRecordIfAny None = ⊤
IsRecordIfAny (Some rec) = IsRecord rec

-- the parts of what is asked in a frame
abbrev pub IsAsk : MetaAsk → Type 0
IsAsk (asks.Read client op key) = IsOperation client op key
IsAsk (asks.Update client op key rec) = IsOperation client op key × IsRecord rec
IsAsk (asks.Watch client op key stamp) = IsOperation client op key × IsStamp stamp
IsAsk (asks.Olds client op key) = IsOperation client op key
IsAsk (asks.Forget client op key stamps) = IsOperation client op key × AreStamps stamps
IsAsk (asks.Swap client op key expected rec) = ⊥

-- the parts of what is answered in one
abbrev pub IsSay : MetaSay → Type 0
IsSay (says.Has client op key rec) = IsOperation client op key × IsRecordIfAny rec
IsSay (says.Applied client op key stamp) = IsOperation client op key × IsStamp stamp
IsSay (says.Kept client op key stamp) = IsOperation client op key × IsStamp stamp
IsSay (says.Fired client op key stamp) = IsOperation client op key × IsStamp stamp
IsSay (says.OldList client op key stamps) = IsOperation client op key × AreStamps stamps
IsSay (says.Forgot client op key) = IsOperation client op key
IsSay (says.Swapped client op key stamp) = ⊥
IsSay (says.Changed client op key stamp) = ⊥

-- no frame carries a swap
abbrev pub IsFramedAsk : MetaAsk → Type 0
IsFramedAsk (asks.Swap client op key expected rec) = ⊥
IsFramedAsk _ = ⊤

-- nor what is answered to one
abbrev pub IsFramedSay : MetaSay → Type 0
IsFramedSay (says.Swapped client op key stamp) = ⊥
IsFramedSay (says.Changed client op key stamp) = ⊥
IsFramedSay _ = ⊤

-- a frame can carry it
abbrev pub IsFramed : Message → Type 0
IsFramed Join = ⊤
IsFramed (Joined client) = ⊤
IsFramed Full = ⊤
IsFramed (Ask ask) = IsFramedAsk ask
IsFramed (Say say) = IsFramedSay say

-- a client that joined has a number of at least 1, and no swap is sent
abbrev pub IsSendable : Message → Type 0
IsSendable Join = ⊤
IsSendable (Joined client) = 0 < client
IsSendable Full = ⊤
IsSendable (Ask ask) = IsFramedAsk ask
IsSendable (Say say) = IsFramedSay say

-- the parts of a message that has a frame
abbrev pub IsMessage : Message → Type 0
IsMessage Join = ⊤
IsMessage (Joined client) = (0 < client) × (client < 2 ^ 32)
IsMessage Full = ⊤
IsMessage (Ask ask) = IsAsk ask
IsMessage (Say say) = IsSay say

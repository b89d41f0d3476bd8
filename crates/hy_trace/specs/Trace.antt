-- Which lists of deeds are traces: each deed could come after those before it.
use Rattle.std.specs.Prelude.{◌≡◌, ◌≢◌, ℕ, ◌+◌, ◌⊎◌, Bool, true, false, List, [], ◌∷◌, Some, None, is_some}
use Rattle.hy_record.specs.declared.turn.Cue.{Cue}
use Rattle.hy_record.specs.declared.turn.Cue.TheVariants as cues
use Rattle.hy_record.specs.declared.cloud.CloudSay.{CloudSay}
use Rattle.hy_record.specs.declared.cloud.CloudSay.TheVariants.{Stored, Conflict, Body, Missing, Gone, Bad}
use Rattle.hy_protocol.specs.Inputs.{addresses}
use Rattle.hy_protocol.specs.Operations.{key_of, suits, replied}
use Rattle.hy_trace.specs.Deeds.{Params, Deed, Joined, Began, Handed, Served, Granted, Stopped, Nothing, Start, inputs_of, start_of, reply_of, begun}
use Rattle.hy_trace.specs.Messages.{Ask, Say, Request, Answer, IsSent, IsSentAt}

-- the input is an answer of the service that was made at this step, or no answer of it
abbrev pub IsMade : Params → List Deed → ℕ → Cue → Type 0
IsMade p before step (cues.Meta say) = IsSentAt p before step (Say say)
IsMade p before step (cues.Cloud reply) = Unit {0}
IsMade p before step cues.Tick = Unit {0}

-- the answer could be had: it is none that a client gives itself in a cloud's place
abbrev pub is_had : CloudSay → Bool
is_had (Stored fresh) = true
is_had Conflict = true
is_had (Body bytes) = true
is_had Missing = true
is_had Gone = true
is_had (Bad code) = false

-- the input is a message that was sent, an answer of a Byzantine cloud, one that could not be had, or a timeout
abbrev pub IsDelivered : Params → List Deed → Cue → Type 0
IsDelivered p before (cues.Meta say) = IsSent p before (Say say)
IsDelivered p before (cues.Cloud reply) = IsSent p before (Answer reply) ⊎ (p.is_liar reply.cloud ≡ true) ⊎ (is_had reply.say ≡ false)
IsDelivered p before cues.Tick = Unit {0}

-- the operation began, has no reply, and the input is for it and could be delivered
pub record Awaits (p : Params) (client op : ℕ) (cue : Cue) (before : List Deed) : Type 0 where
  pub start : Start
  pub began : start_of client op before ≡ Some start
  pub unfinished : replied p.f p.k client op start.action (inputs_of client op before) ≡ None
  pub own : addresses client op (key_of start.action) cue ≡ true
  pub delivered : IsDelivered p before cue

-- the client can begin its operation of this number: the next one, where all others have replied
pub record IsIdle (p : Params) (client op : ℕ) (before : List Deed) : Type 0 where
  pub number : op ≡ begun client before + 1
  pub fresh : start_of client op before ≡ None
  pub settled : (other : ℕ) → op ≢ other → is_some (start_of client other before) ≡ true → is_some (reply_of p client other before) ≡ true
  pub inputs : inputs_of client op before ≡ []

-- the deed can come next
abbrev pub Fits : Params → List Deed → Deed → Type 0
Fits p before (Began c o a) = IsIdle p c o before × (suits a ≡ true)
Fits p before (Handed c o made cue) = Awaits p c o cue before × IsMade p before made cue
Fits p before (Served ask) = IsSent p before (Ask ask)
Fits p before (Granted ask) = IsSent p before (Request ask) × (p.is_liar ask.cloud ≡ false)
Fits p before Joined = Unit {0}
Fits p before (Stopped c) = Unit {0}
Fits p before Nothing = Unit {0}

-- each deed could come after those before it
unfoldable pub IsTrace : Params → List Deed → Type 0
IsTrace p [] = Unit {0}
IsTrace p (deed ∷ before) = Fits p before deed × IsTrace p before

-- The messages of a trace: what each deed sends, and where each message stands among all, in the order in which they were sent.
use Rattle.std.specs.Prelude.{◌≡◌, ℕ, ◌+◌, ◌-◌, ◌⊎◌, nat_lt, nat_le, List, [], ◌∷◌, ◌++◌, length, map, slice_get, Option, Some, None, if◌then◌else◌}
use Rattle.hy_record.specs.declared.message.MetaAsk.{MetaAsk}
use Rattle.hy_record.specs.declared.message.MetaSay.{MetaSay}
use Rattle.hy_record.specs.declared.turn.Cue.{Cue}
use Rattle.hy_record.specs.declared.turn.Out.{Out}
use Rattle.hy_record.specs.declared.turn.Out.TheVariants as outs
use Rattle.hy_record.specs.declared.cloud.CloudAsk.{CloudAsk}
use Rattle.hy_record.specs.declared.cloud.CloudReply.{CloudReply}
use Rattle.hy_meta.specs.Meta.{service_answers}
use Rattle.hy_protocol.specs.Operations.{sends_of}
use Rattle.hy_protocol.specs.Cloud.{cloud_answer}
use Rattle.hy_trace.specs.Deeds.{Params, Deed, Joined, Began, Handed, Served, Granted, Stopped, Nothing, Start, served, granted, inputs_of, start_of}

-- a message in the network: a request to the service or its answer, a request to a cloud or its answer
pub data Message : Type 0 where
  Ask : (ask : MetaAsk) → Message
  Say : (say : MetaSay) → Message
  Request : (ask : CloudAsk) → Message
  Answer : (reply : CloudReply) → Message

-- what an operation sends, as a message
abbrev pub message_of : Out → Message
message_of (outs.Meta ask) = Ask ask
message_of (outs.Cloud ask) = Request ask

-- what an operation sends at the last of these inputs, where it began
abbrev pub sent_after : Params → ℕ → ℕ → List Cue → Option Start → List Message
sent_after p client op inputs None = []
sent_after p client op inputs (Some start) = map message_of (sends_of p.f p.k client op start.action inputs)

-- the answer of an honest cloud that served this before
abbrev pub answer_to : CloudAsk → List Deed → CloudReply
answer_to ask before =
    record {
      client = ask.client;
      op = ask.op;
      cloud = ask.cloud;
      key = ask.wish.key;
      stamp = ask.wish.stamp;
      say = cloud_answer (granted ask.cloud before) ask.wish;
    }

-- what is sent at a deed
unfoldable pub sent_at : Params → Deed → List Deed → List Message
sent_at p (Began c o a) before = map message_of (sends_of p.f p.k c o a [])
sent_at p (Handed c o made cue) before = sent_after p c o (cue ∷ inputs_of c o before) (start_of c o before)
sent_at p (Served ask) before = map Say (service_answers (served before) ask)
sent_at p (Granted ask) before = Answer (answer_to ask before) ∷ []
sent_at p Joined before = []
sent_at p (Stopped c) before = []
sent_at p Nothing before = []

-- all messages, in the order in which they were sent
unfoldable pub messages_of : Params → List Deed → List Message
messages_of p [] = []
messages_of p (deed ∷ before) = messages_of p before ++ sent_at p deed before

-- the message of a number: they are numbered from 1
abbrev pub message_at : ℕ → List Message → Option Message
message_at number messages = if nat_lt 0 number then slice_get messages (number - 1) else None

-- the step at which the message of this number was sent
unfoldable pub step_of : Params → ℕ → List Deed → ℕ
step_of p number [] = 0
step_of p number (deed ∷ before) =
    if nat_le number (length (messages_of p before)) then step_of p number before else length before + 1

-- the message is one of these
abbrev pub IsAmong : List Message → Message → Type 0
IsAmong [] message = ⊥
IsAmong (first ∷ others) message = (first ≡ message) ⊎ IsAmong others message

-- the message was sent
unfoldable pub IsSent : Params → List Deed → Message → Type 0
IsSent p [] message = ⊥
IsSent p (deed ∷ before) message = IsAmong (sent_at p deed before) message ⊎ IsSent p before message

-- the message was sent at this step
unfoldable pub IsSentAt : Params → List Deed → ℕ → Message → Type 0
IsSentAt p [] step message = ⊥
IsSentAt p (deed ∷ before) step message = ((step ≡ length before + 1) × IsAmong (sent_at p deed before) message) ⊎ IsSentAt p before step message

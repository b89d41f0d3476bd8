-- What a deed leads to.
use Rattle.std.specs.Prelude.{◌≡◌, ℕ, Bool, true, false, List, [], ◌∷◌, map, Option, Some, None}
use Rattle.std.specs.Option.{option_map}
use Rattle.hy_record.specs.declared.action.Reply.{Reply}
use Rattle.hy_record.specs.declared.message.MetaAsk.{MetaAsk}
use Rattle.hy_record.specs.declared.message.MetaAsk.TheVariants as asks
use Rattle.hy_record.specs.declared.message.MetaSay.{MetaSay}
use Rattle.hy_record.specs.declared.message.MetaSay.TheVariants as says
use Rattle.hy_record.specs.declared.turn.Cue.TheVariants as cues
use Rattle.hy_record.specs.Record.{RecordValue}
use Rattle.hy_record.specs.Stamp.{Timestamp}
use Rattle.hy_meta.specs.Service.{Attempt, attempt_of, applies, stamp_of_record, record_after}
use Rattle.hy_meta.specs.Meta.{service_answers}
use Rattle.hy_protocol.specs.Inputs.{has_of}
use Rattle.hy_trace.specs.Deeds.{Params, Deed, Joined, Began, Handed, Served, Granted, Stopped, Nothing, served, inputs_of, start_of, reply_after}
use Rattle.hy_trace.specs.Messages.{Message, Ask, Say, Request, Answer, sent_at}
use Rattle.hy_log.specs.declared.post.Post.{Post}
use Rattle.hy_log.specs.declared.post.Post.TheVariants as posts
use Rattle.hy_log.specs.declared.effects.Beginning.{Beginning}
use Rattle.hy_log.specs.declared.effects.Return.{Return}
use Rattle.hy_log.specs.declared.effects.Heard.{Heard}
use Rattle.hy_log.specs.declared.effects.Updated.{Updated}
use Rattle.hy_log.specs.declared.effects.Effects.{Effects}

-- a message as it is kept
abbrev pub post_of : Message → Post
post_of (Ask ask) = posts.Ask ask
post_of (Say say) = posts.Answer (cues.Meta say)
post_of (Request ask) = posts.Request ask
post_of (Answer reply) = posts.Answer (cues.Cloud reply)

-- what begins at a deed
abbrev pub beginning_at : Deed → Option Beginning
beginning_at (Began c o a) = Some (record { client = c; op = o; action = a })
beginning_at Joined = None
beginning_at (Handed c o made cue) = None
beginning_at (Served ask) = None
beginning_at (Granted ask) = None
beginning_at (Stopped c) = None
beginning_at Nothing = None

-- a reply, if there is one, as an operation's
abbrev pub return_with : ℕ → ℕ → Option Reply → Option Return
return_with c o None = None
return_with c o (Some reply) = Some (record { client = c; op = o; reply = reply })

-- what is returned at a deed
abbrev pub return_at : Params → Deed → List Deed → Option Return
return_at p (Handed c o made cue) before = return_with c o (reply_after p c o (cue ∷ inputs_of c o before) (start_of c o before))
return_at p (Began c o a) before = None
return_at p Joined before = None
return_at p (Served ask) before = None
return_at p (Granted ask) before = None
return_at p (Stopped c) before = None
return_at p Nothing before = None

-- a record that an operation was told, by an answer that was made at this step
abbrev pub heard_with : ℕ → ℕ → ℕ → Option (Option RecordValue) → Option Heard
heard_with c o made None = None
heard_with c o made (Some r) = Some (record { client = c; op = o; stamp = stamp_of_record r; made = made })

-- what an operation is told of the record at a deed
abbrev pub heard_at : Deed → Option Heard
heard_at (Handed c o made cue) = heard_with c o made (has_of cue)
heard_at (Began c o a) = None
heard_at Joined = None
heard_at (Served ask) = None
heard_at (Granted ask) = None
heard_at (Stopped c) = None
heard_at Nothing = None

-- an attempt that is served
abbrev pub updated_as : List MetaAsk → Attempt → Updated
updated_as before a =
    record {
      client = a.client;
      op = a.op;
      is_applied = applies (record_after before a.key) a;
      found = stamp_of_record (record_after before a.key);
    }

-- the answer is that a swap was applied
abbrev pub is_swapped : MetaSay → Bool
is_swapped (says.Swapped c o k s) = true
is_swapped (says.Changed c o k s) = false
is_swapped (says.Has c o k r) = false
is_swapped (says.Applied c o k s) = false
is_swapped (says.Kept c o k s) = false
is_swapped (says.Fired c o k s) = false
is_swapped (says.OldList c o k ss) = false
is_swapped (says.Forgot c o k) = false

-- what a swap that expects this timestamp found, by the answer to it
abbrev pub found_by : Timestamp → MetaSay → Timestamp
found_by expected (says.Changed c o k s) = s
found_by expected (says.Swapped c o k s) = expected
found_by expected (says.Has c o k r) = expected
found_by expected (says.Applied c o k s) = expected
found_by expected (says.Kept c o k s) = expected
found_by expected (says.Fired c o k s) = expected
found_by expected (says.OldList c o k ss) = expected
found_by expected (says.Forgot c o k) = expected

-- a swap of this operation that is answered so: one that is judged, or a repeat of it
abbrev pub answered_swap : ℕ → ℕ → Timestamp → List MetaSay → Option Updated
answered_swap c o expected [] = None
answered_swap c o expected (say ∷ later) =
    Some (record { client = c; op = o; is_applied = is_swapped say; found = found_by expected say })

-- the update or swap that the service serves by this request, and answers
abbrev pub updated_by : MetaAsk → List MetaAsk → Option Updated
updated_by (asks.Swap c o k expected r) before = answered_swap c o expected (service_answers before (asks.Swap c o k expected r))
updated_by (asks.Update c o k r) before = option_map (updated_as before) (attempt_of before (asks.Update c o k r))
updated_by (asks.Read c o k) before = None
updated_by (asks.Watch c o k stamp) before = None
updated_by (asks.Olds c o k) before = None
updated_by (asks.Forget c o k stamps) before = None

-- the update that the service serves at a deed
abbrev pub updated_at : Deed → List Deed → Option Updated
updated_at (Served ask) before = updated_by ask (served before)
updated_at (Began c o a) before = None
updated_at Joined before = None
updated_at (Handed c o made cue) before = None
updated_at (Granted ask) before = None
updated_at (Stopped c) before = None
updated_at Nothing before = None

-- the effects of a deed
pub record AreEffects (p : Params) (d : Deed) (t : List Deed) (e : Effects) : Type 0 where
  pub posts : e.posts.items ≡ map post_of (sent_at p d t)
  pub began : e.began ≡ beginning_at d
  pub returned : e.returned ≡ return_at p d t
  pub heard : e.heard ≡ heard_at d
  pub updated : e.updated ≡ updated_at d t

-- nothing is sent or told
pub record AreNone (e : Effects) : Type 0 where
  pub posts : e.posts.items ≡ []
  pub began : e.began ≡ None
  pub returned : e.returned ≡ None
  pub heard : e.heard ≡ None
  pub updated : e.updated ≡ None

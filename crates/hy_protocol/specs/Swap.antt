-- The conditional swap: a put whose update asks for a timestamp of the record. All is said of the inputs of one swap, the newest first.
use Rattle.std.specs.Prelude.{List, [], ◌∷◌, map, Option, Some, None, is_some, if◌then◌else◌}
use Rattle.std.specs.Option.{option_or}
use Rattle.hy_record.specs.declared.message.MetaAsk.{MetaAsk}
use Rattle.hy_record.specs.declared.message.MetaAsk.TheVariants as asks
use Rattle.hy_record.specs.declared.message.MetaSay.{MetaSay}
use Rattle.hy_record.specs.declared.message.MetaSay.TheVariants as says
use Rattle.hy_record.specs.declared.action.Reply.{Reply}
use Rattle.hy_record.specs.declared.action.Reply.TheVariants as told
use Rattle.hy_record.specs.Stamp.{Timestamp, stamp_eq}
use Rattle.hy_record.specs.Record.{RecordValue}
use Rattle.hy_meta.specs.Service.{stamp_of_record}
use Rattle.hy_record.specs.declared.turn.Cue.{Cue}
use Rattle.hy_record.specs.declared.turn.Cue.TheVariants as cues
use Rattle.hy_record.specs.declared.turn.Out.{Out}
use Rattle.hy_record.specs.declared.turn.Out.TheVariants as outs
use Rattle.hy_protocol.specs.declared.plan.PutPlan.{PutPlan}
use Rattle.hy_protocol.specs.Write.{first_has, update_of, record_at, exhausted_by, read_of, sends_by}

-- the record that the first answer told is not the expected one
abbrev pub changed_by : Timestamp → Option (Option RecordValue) → Option Reply
changed_by expected None = None
changed_by expected (Some held) = if stamp_eq (stamp_of_record held) expected then None else Some (told.Changed (stamp_of_record held))

-- what the service's answer to the swap of this record makes the reply
abbrev pub verdict_in : RecordValue → MetaSay → Option Reply
verdict_in r (says.Swapped c o k s) = Some (told.Swapped r.stamp)
verdict_in r (says.Changed c o k s) = Some (told.Changed s)
verdict_in r (says.Has c o k h) = None
verdict_in r (says.Applied c o k s) = None
verdict_in r (says.Kept c o k s) = None
verdict_in r (says.Fired c o k s) = None
verdict_in r (says.OldList c o k ss) = None
verdict_in r (says.Forgot c o k) = None

-- the swap of the record that was sent was answered
abbrev pub answered_by : Option RecordValue → Cue → Option Reply
answered_by None cue = None
answered_by (Some r) (cues.Meta say) = verdict_in r say
answered_by (Some r) (cues.Cloud reply) = None
answered_by (Some r) cues.Tick = None

-- the reply at this input
unfoldable pub swap_reply_at : PutPlan → Timestamp → Cue → List Cue → Option Reply
swap_reply_at plan expected cue before =
    option_or (answered_by (update_of plan before) cue)
    (option_or (changed_by expected (first_has (cue ∷ before))) (exhausted_by plan (first_has (cue ∷ before))))

-- the reply of the swap: the first that there was
unfoldable pub swap_reply : PutPlan → Timestamp → List Cue → Option Reply
swap_reply plan expected [] = None
swap_reply plan expected (cue ∷ before) = option_or (swap_reply plan expected before) (swap_reply_at plan expected cue before)

-- an update asks for the expected timestamp
abbrev pub ask_expecting : Timestamp → MetaAsk → MetaAsk
ask_expecting expected (asks.Update c o k r) = asks.Swap c o k expected r
ask_expecting expected (asks.Read c o k) = asks.Read c o k
ask_expecting expected (asks.Watch c o k s) = asks.Watch c o k s
ask_expecting expected (asks.Olds c o k) = asks.Olds c o k
ask_expecting expected (asks.Forget c o k ss) = asks.Forget c o k ss
ask_expecting expected (asks.Swap c o k s r) = asks.Swap c o k s r

abbrev pub expecting : Timestamp → Out → Out
expecting expected (outs.Meta ask) = outs.Meta (ask_expecting expected ask)
expecting expected (outs.Cloud ask) = outs.Cloud ask

-- what the swap sends at its last input: what a put sends, where it has no reply; in place of the update, the swap
unfoldable pub swap_sends : PutPlan → Timestamp → List Cue → List Out
swap_sends plan expected [] = read_of plan
swap_sends plan expected (cue ∷ before) =
    if is_some (swap_reply plan expected (cue ∷ before)) then []
    else map (expecting expected) (sends_by plan cue before (update_of plan before) (record_at plan (cue ∷ before)))

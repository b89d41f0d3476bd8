-- Worked inputs at the edges of the protocols: deletions, repeats, timeouts at each moment, the last timestamp, what is not for an operation, how far one is.
use Rattle.std.specs.Prelude.{◌≡◌, ℕ, true, false, List, [], ◌∷◌, Some, None}
use Rattle.hy_record.specs.declared.message.MetaAsk.TheVariants as asks
use Rattle.hy_record.specs.declared.message.MetaSay.TheVariants as says
use Rattle.hy_record.specs.declared.action.Action.TheVariants as asked
use Rattle.hy_record.specs.declared.action.Reply.TheVariants as told
use Rattle.hy_record.specs.declared.action.Phase.TheVariants as phases
use Rattle.hy_record.specs.Record.{tombstone}
use Rattle.hy_record.specs.declared.turn.Cue.{Cue}
use Rattle.hy_record.specs.declared.turn.Cue.TheVariants as cues
use Rattle.hy_record.specs.declared.turn.Out.TheVariants as outs
use Rattle.hy_record.specs.declared.cloud.CloudAct.TheVariants as acts
use Rattle.hy_record.specs.declared.cloud.CloudSay.TheVariants.{Stored, Body, Missing, Bad}
use Rattle.hy_code.specs.Fragments.{fragment_of}
use Rattle.hy_protocol.specs.declared.plan.PutPlan.{PutPlan}
use Rattle.hy_protocol.specs.Write.{value_record, own_stamp, write_sends, write_reply}
use Rattle.hy_protocol.specs.Read.{read_sends, read_reply, refresh_count}
use Rattle.hy_protocol.specs.Collect.{collect_sends}
use Rattle.hy_protocol.specs.Turns.{quiet_turn, put_turn, put_progress, get_progress, collect_progress_of}
use Rattle.hy_protocol.specs.Session.{Session, fresh_session, is_idle, is_running, takes, session_after, session_invoked, session_stopped, session_progress}
use Rattle.hy_protocol.specs.Rows.{a, stamp, said, wished, put, told_none, stored, fragment_to, get, told_record, missing, fired, collection, told_olds, gone}

-- client 2 deletes in the store of the worked put
abbrev pub deletion : PutPlan
deletion = record { client = 2; op = 1; key = a; value = None; f = 1; k = 1 }

-- it is told a deletion with this timestamp
abbrev pub told_deleted : ℕ → ℕ → Cue
told_deleted sn cid = cues.Meta (says.Has 2 1 a (Some (tombstone (stamp sn cid))))

abbrev pub applied : Cue
applied = cues.Meta (says.Applied 2 1 a (stamp 1 2))

-- a delete asks for its update at once, a write that is kept is done, the first answer counts, each timeout repeats what is awaited, and the last timestamp ends all
pub record WriteEdges : Type 0 where
  pub deletes : write_sends deletion (told_none ∷ []) ≡ outs.Meta (asks.Update 2 1 a (tombstone (stamp 1 2))) ∷ []
  pub deleted : write_reply deletion (applied ∷ told_none ∷ []) ≡ Some (told.Done (stamp 1 2))
  pub kept : write_reply deletion (cues.Meta (says.Kept 2 1 a (stamp 5 1)) ∷ told_none ∷ []) ≡ Some (told.Done (stamp 1 2))
  pub above_the_record : write_sends deletion (told_deleted 7 9 ∷ []) ≡ outs.Meta (asks.Update 2 1 a (tombstone (stamp 8 2))) ∷ []
  pub exhausted : write_reply deletion (told_deleted 4294967294 1 ∷ []) ≡ Some (told.Exhausted (stamp 4294967294 1))
  pub nothing_sent : write_sends deletion (told_deleted 4294967294 1 ∷ []) ≡ []
  pub second_answer : write_sends put (told_deleted 7 9 ∷ told_none ∷ []) ≡ []
  pub first_answer_counts : own_stamp put (told_deleted 7 9 ∷ told_none ∷ []) ≡ Some (stamp 1 2)
  pub early_timeout : write_sends put (cues.Tick ∷ []) ≡ outs.Meta (asks.Read 2 1 a) ∷ []
  pub late_timeout :
      write_sends put (cues.Tick ∷ stored 2 ∷ stored 0 ∷ told_none ∷ [])
      ≡ outs.Meta (asks.Update 2 1 a (value_record (stamp 1 2) (1 ∷ []) 1 1 (0 ∷ 2 ∷ []))) ∷ []
  pub timeout_after_the_reply : write_sends put (cues.Tick ∷ applied ∷ stored 2 ∷ stored 0 ∷ told_none ∷ []) ≡ []
  pub early_ack : write_sends put (stored 0 ∷ told_none ∷ stored 1 ∷ []) ≡ []
  pub ack_of_another_timestamp : write_sends put (said 2 1 (stamp 3 2) (Stored true) ∷ stored 0 ∷ told_none ∷ []) ≡ []
  pub failed_store : write_sends put (said 2 1 (stamp 1 2) (Bad 0) ∷ stored 0 ∷ told_none ∷ []) ≡ []
  pub ack_of_no_cloud : write_sends put (stored 3 ∷ stored 0 ∷ told_none ∷ []) ≡ []

-- client 2 puts three bytes into two clouds, of which both are needed, in two parts
abbrev pub coded : PutPlan
coded = record { client = 2; op = 1; key = a; value = Some (1 ∷ 2 ∷ 3 ∷ []); f = 0; k = 2 }

-- each cloud gets the fragment of its own number
pub record CodedEdges : Type 0 where
  pub fragments :
      write_sends coded (told_none ∷ [])
      ≡ wished 2 0 (stamp 1 2) (acts.Put (fragment_of (1 ∷ 2 ∷ 3 ∷ []) 2 0)) ∷ wished 2 1 (stamp 1 2) (acts.Put (fragment_of (1 ∷ 2 ∷ 3 ∷ []) 2 1)) ∷ []
  pub one_of_two : write_sends coded (stored 0 ∷ told_none ∷ []) ≡ []
  pub both :
      write_sends coded (stored 1 ∷ stored 0 ∷ told_none ∷ [])
      ≡ outs.Meta (asks.Update 2 1 a (value_record (stamp 1 2) (1 ∷ 2 ∷ 3 ∷ []) 0 2 (0 ∷ 1 ∷ []))) ∷ []

-- an answer with a body of another length
abbrev pub cut_body : ℕ → Cue
cut_body cloud = said 1 cloud (stamp 1 2) (Body [])

-- a get asks again at a timeout before its version, asks the next holder at one between, watches where all holders failed, and asks for the record behind the news
pub record ReadEdges : Type 0 where
  pub early_timeout : read_sends get (cues.Tick ∷ []) ≡ outs.Meta (asks.Read 1 1 a) ∷ []
  pub timeout_is_a_failure : read_sends get (cues.Tick ∷ told_record ∷ []) ≡ wished 1 1 (stamp 1 2) acts.Get ∷ []
  pub timeouts_end_in_a_watch :
      read_sends get (cues.Tick ∷ cues.Tick ∷ told_record ∷ [])
      ≡ outs.Meta (asks.Watch 1 1 a (stamp 1 2)) ∷ wished 1 0 (stamp 1 2) acts.Get ∷ wished 1 1 (stamp 1 2) acts.Get ∷ []
  pub watches_again :
      read_sends get (cues.Tick ∷ cues.Tick ∷ cues.Tick ∷ told_record ∷ [])
      ≡ outs.Meta (asks.Watch 1 1 a (stamp 1 2)) ∷ wished 1 0 (stamp 1 2) acts.Get ∷ wished 1 1 (stamp 1 2) acts.Get ∷ []
  pub timeout_behind_the_news : read_sends get (cues.Tick ∷ fired ∷ told_record ∷ []) ≡ outs.Meta (asks.Read 1 1 a) ∷ []
  pub cut_body_is_a_failure : read_sends get (cut_body 0 ∷ told_record ∷ []) ≡ wished 1 1 (stamp 1 2) acts.Get ∷ []
  pub cut_body_is_no_value : read_reply (cut_body 0 ∷ told_record ∷ []) ≡ None
  pub foreign_cloud_is_no_failure : read_sends get (missing 2 ∷ told_record ∷ []) ≡ []
  pub older_record : read_sends get (cues.Meta (says.Has 1 1 a None) ∷ told_record ∷ []) ≡ []
  pub newer_deletion : read_reply (cues.Meta (says.Has 1 1 a (Some (tombstone (stamp 2 1)))) ∷ told_record ∷ []) ≡ Some (told.Absent (stamp 2 1))
  pub news_of_another_version : refresh_count (cues.Meta (says.Fired 1 1 a (stamp 9 9)) ∷ told_record ∷ []) ≡ 0

-- a collection asks again at a timeout before its list, deletes again at one between, and forgets again at one behind
pub record CollectEdges : Type 0 where
  pub early_timeout : collect_sends collection (cues.Tick ∷ []) ≡ outs.Meta (asks.Olds 1 1 a) ∷ []
  pub timeout : collect_sends collection (cues.Tick ∷ gone 1 ∷ told_olds ∷ []) ≡ wished 1 0 (stamp 1 2) acts.Delete ∷ wished 1 2 (stamp 1 2) acts.Delete ∷ []
  pub late_timeout : collect_sends collection (cues.Tick ∷ gone 2 ∷ gone 0 ∷ told_olds ∷ []) ≡ outs.Meta (asks.Forget 1 1 a (stamp 1 2 ∷ [])) ∷ []
  pub repeated_gone : collect_sends collection (gone 0 ∷ gone 0 ∷ told_olds ∷ []) ≡ []
  pub early_gone : collect_sends collection (gone 2 ∷ told_olds ∷ gone 0 ∷ []) ≡ []

-- what is for another operation, client or key does nothing, and an operation tells what it awaits
pub record TurnEdges : Type 0 where
  pub other_operation : put_turn put (cues.Meta (says.Has 2 2 a None) ∷ []) ≡ quiet_turn
  pub other_client : put_turn put (cues.Meta (says.Has 1 1 a None) ∷ []) ≡ quiet_turn
  pub other_key : put_turn put (cues.Meta (says.Has 2 1 (98 ∷ []) None) ∷ []) ≡ quiet_turn
  pub awaits_the_record : put_progress put [] ≡ record { phase = phases.Read; have = 0; need = 1 }
  pub awaits_clouds : put_progress put (stored 0 ∷ told_none ∷ []) ≡ record { phase = phases.Store; have = 1; need = 2 }
  pub awaits_the_update : put_progress put (stored 2 ∷ stored 0 ∷ told_none ∷ []) ≡ record { phase = phases.Update; have = 0; need = 1 }
  pub stands_at_the_reply : put_progress put (stored 1 ∷ applied ∷ stored 2 ∷ stored 0 ∷ told_none ∷ []) ≡ record { phase = phases.Update; have = 0; need = 1 }
  pub fetches : get_progress get (missing 0 ∷ told_record ∷ []) ≡ record { phase = phases.Fetch; have = 0; need = 1 }
  pub watches : get_progress get (missing 1 ∷ missing 0 ∷ told_record ∷ []) ≡ record { phase = phases.Watch; have = 0; need = 1 }
  pub rereads : get_progress get (fired ∷ missing 1 ∷ missing 0 ∷ told_record ∷ []) ≡ record { phase = phases.Reread; have = 0; need = 1 }
  pub drops : collect_progress_of collection (gone 0 ∷ told_olds ∷ []) ≡ record { phase = phases.Drop; have = 0; need = 1 }
  pub forgets : collect_progress_of collection (gone 2 ∷ gone 0 ∷ told_olds ∷ []) ≡ record { phase = phases.Forget; have = 0; need = 1 }

-- client 2 of the store of the worked put, which was asked to delete
abbrev pub deleting : Session
deleting = session_invoked (fresh_session 1 1 2) (asked.Delete a)

-- a client runs one operation at a time, takes what is for it until its reply, and nothing behind a crash
pub record SessionEdges : Type 0 where
  pub begins : is_idle (fresh_session 1 1 2) ≡ true
  pub busy : is_idle deleting ≡ false
  pub runs : is_running deleting ≡ true
  pub takes_its_own : takes deleting told_none ≡ true
  pub passes_over_others : takes deleting (cues.Meta (says.Has 2 2 a None)) ≡ false
  pub idle_again : is_idle (session_after (session_after deleting told_none) applied) ≡ true
  pub takes_nothing_then : takes (session_after (session_after deleting told_none) applied) told_none ≡ false
  pub tells_nothing_then : session_progress (session_after (session_after deleting told_none) applied) ≡ None
  pub stopped : takes (session_stopped deleting) told_none ≡ false
  pub begins_no_more : is_idle (session_stopped (fresh_session 1 1 2)) ≡ false

-- Worked inputs: what each operation sends and replies at them, and what a cloud answers, computed from the definitions.
use Rattle.std.specs.Prelude.{◌≡◌, ℕ, true, false, List, [], ◌∷◌, Some, None}
use Rattle.hy_record.specs.declared.message.MetaAsk.TheVariants as asks
use Rattle.hy_record.specs.declared.message.MetaSay.TheVariants as says
use Rattle.hy_record.specs.declared.action.Reply.TheVariants as told
use Rattle.hy_record.specs.Stamp.{Timestamp}
use Rattle.hy_record.specs.Record.{RecordValue}
use Rattle.hy_record.specs.declared.turn.Cue.{Cue}
use Rattle.hy_record.specs.declared.turn.Cue.TheVariants as cues
use Rattle.hy_record.specs.declared.turn.Out.{Out}
use Rattle.hy_record.specs.declared.turn.Out.TheVariants as outs
use Rattle.hy_record.specs.declared.cloud.CloudAct.{CloudAct}
use Rattle.hy_record.specs.declared.cloud.CloudAct.TheVariants as acts
use Rattle.hy_record.specs.declared.cloud.CloudSay.{CloudSay}
use Rattle.hy_record.specs.declared.cloud.CloudSay.TheVariants.{Stored, Conflict, Body, Missing, Gone}
use Rattle.hy_record.specs.declared.cloud.Wish.{Wish}
use Rattle.hy_code.specs.Fragments.{fragment_of}
use Rattle.hy_protocol.specs.declared.plan.PutPlan.{PutPlan}
use Rattle.hy_protocol.specs.declared.plan.GetPlan.{GetPlan}
use Rattle.hy_protocol.specs.declared.plan.CollectPlan.{CollectPlan}
use Rattle.hy_protocol.specs.Write.{value_record, write_sends, write_reply}
use Rattle.hy_protocol.specs.Swap.{swap_sends, swap_reply}
use Rattle.hy_protocol.specs.Read.{read_sends, read_reply, refresh_count}
use Rattle.hy_protocol.specs.Collect.{collect_sends, collect_reply}
use Rattle.hy_protocol.specs.Cloud.{cloud_answer}

abbrev pub stamp : ℕ → ℕ → Timestamp
stamp sn cid = record { sn = sn; cid = cid }

-- the key `a`
abbrev pub a : List ℕ
a = 97 ∷ []

-- what a cloud says to operation 1 of this client about a timestamp
abbrev pub said : ℕ → ℕ → Timestamp → CloudSay → Cue
said client cloud about say = cues.Cloud (record { client = client; op = 1; cloud = cloud; key = a; stamp = about; say = say })

-- what operation 1 of this client asks of a cloud about a timestamp
abbrev pub wished : ℕ → ℕ → Timestamp → CloudAct → Out
wished client cloud about act = outs.Cloud (record { client = client; op = 1; cloud = cloud; wish = record { key = a; stamp = about; act = act } })

-- client 2 puts the byte 1 into three clouds, of which a quorum is two
abbrev pub put : PutPlan
put = record { client = 2; op = 1; key = a; value = Some (1 ∷ []); f = 1; k = 1 }

-- it is told that there is no record, and clouds store the fragment
abbrev pub told_none : Cue
told_none = cues.Meta (says.Has 2 1 a None)

abbrev pub stored : ℕ → Cue
stored cloud = said 2 cloud (stamp 1 2) (Stored true)

-- the fragment of this cloud
abbrev pub fragment_to : ℕ → Out
fragment_to cloud = wished 2 cloud (stamp 1 2) (acts.Put (fragment_of (1 ∷ []) 1 cloud))

-- a put asks for the record, sends its fragments to a quorum under the next timestamp of its client, and then one update, whatever is repeated
pub record PutRow : Type 0 where
  pub start : write_sends put [] ≡ outs.Meta (asks.Read 2 1 a) ∷ []
  pub fragments : write_sends put (told_none ∷ []) ≡ fragment_to 0 ∷ fragment_to 1 ∷ []
  pub one_ack : write_sends put (stored 0 ∷ told_none ∷ []) ≡ []
  pub repeated_ack : write_sends put (stored 0 ∷ stored 0 ∷ told_none ∷ []) ≡ []
  pub timeout : write_sends put (cues.Tick ∷ stored 0 ∷ told_none ∷ []) ≡ fragment_to 1 ∷ fragment_to 2 ∷ []
  pub quorum :
      write_sends put (stored 2 ∷ stored 0 ∷ told_none ∷ [])
      ≡ outs.Meta (asks.Update 2 1 a (value_record (stamp 1 2) (1 ∷ []) 1 1 (0 ∷ 2 ∷ []))) ∷ []
  pub late_ack : write_sends put (stored 1 ∷ stored 2 ∷ stored 0 ∷ told_none ∷ []) ≡ []
  pub unanswered : write_reply put (stored 1 ∷ stored 2 ∷ stored 0 ∷ told_none ∷ []) ≡ None
  pub reply :
      write_reply put (cues.Meta (says.Applied 2 1 a (stamp 1 2)) ∷ stored 2 ∷ stored 0 ∷ told_none ∷ [])
      ≡ Some (told.Done (stamp 1 2))
  pub unasked : write_reply put (cues.Meta (says.Applied 2 1 a (stamp 1 2)) ∷ stored 0 ∷ told_none ∷ []) ≡ None

-- client 2 swaps under the key `_a` where there is no record: into one cloud, of which a quorum is that
abbrev pub cell : List ℕ
cell = 95 ∷ 97 ∷ []

abbrev pub swap : PutPlan
swap = record { client = 2; op = 1; key = cell; value = Some (1 ∷ []); f = 0; k = 1 }

abbrev pub told_none_there : Cue
told_none_there = cues.Meta (says.Has 2 1 cell None)

abbrev pub told_other : Cue
told_other = cues.Meta (says.Has 2 1 cell (Some (value_record (stamp 1 1) (2 ∷ []) 0 1 (0 ∷ []))))

abbrev pub cell_stored : Cue
cell_stored = cues.Cloud (record { client = 2; op = 1; cloud = 0; key = cell; stamp = stamp 1 2; say = Stored true })

-- a swap sends what a put does, and in place of the update one that asks for the expected timestamp; where the record is another it replies at once
pub record SwapRow : Type 0 where
  pub start : swap_sends swap (stamp 0 0) [] ≡ outs.Meta (asks.Read 2 1 cell) ∷ []
  pub fragment :
      swap_sends swap (stamp 0 0) (told_none_there ∷ [])
      ≡ outs.Cloud (record { client = 2; op = 1; cloud = 0; wish = record { key = cell; stamp = stamp 1 2; act = acts.Put (fragment_of (1 ∷ []) 1 0) } }) ∷ []
  pub asks_expecting :
      swap_sends swap (stamp 0 0) (cell_stored ∷ told_none_there ∷ [])
      ≡ outs.Meta (asks.Swap 2 1 cell (stamp 0 0) (value_record (stamp 1 2) (1 ∷ []) 0 1 (0 ∷ []))) ∷ []
  pub swapped :
      swap_reply swap (stamp 0 0) (cues.Meta (says.Swapped 2 1 cell (stamp 1 2)) ∷ cell_stored ∷ told_none_there ∷ [])
      ≡ Some (told.Swapped (stamp 1 2))
  pub changed_later :
      swap_reply swap (stamp 0 0) (cues.Meta (says.Changed 2 1 cell (stamp 1 1)) ∷ cell_stored ∷ told_none_there ∷ [])
      ≡ Some (told.Changed (stamp 1 1))
  pub no_update_answer : swap_reply swap (stamp 0 0) (cues.Meta (says.Applied 2 1 cell (stamp 1 2)) ∷ cell_stored ∷ told_none_there ∷ []) ≡ None
  pub unasked : swap_reply swap (stamp 0 0) (cues.Meta (says.Swapped 2 1 cell (stamp 1 2)) ∷ told_none_there ∷ []) ≡ None
  pub changed_at_once : swap_reply swap (stamp 0 0) (told_other ∷ []) ≡ Some (told.Changed (stamp 1 1))
  pub silent : swap_sends swap (stamp 0 0) (told_other ∷ []) ≡ []
  pub stays_silent : swap_sends swap (stamp 0 0) (cues.Tick ∷ told_other ∷ []) ≡ []
  pub stays_changed : swap_reply swap (stamp 0 0) (cues.Meta (says.Swapped 2 1 cell (stamp 1 2)) ∷ told_other ∷ []) ≡ Some (told.Changed (stamp 1 1))

-- client 1 gets the value of a record that lists clouds 0 and 1
abbrev pub get : GetPlan
get = record { client = 1; op = 1; key = a }

abbrev pub rec : RecordValue
rec = value_record (stamp 1 2) (1 ∷ []) 1 1 (0 ∷ 1 ∷ [])

abbrev pub told_record : Cue
told_record = cues.Meta (says.Has 1 1 a (Some rec))

-- a cloud has no object, and the record is superseded
abbrev pub missing : ℕ → Cue
missing cloud = said 1 cloud (stamp 1 2) Missing

abbrev pub fired : Cue
fired = cues.Meta (says.Fired 1 1 a (stamp 1 2))

-- a get asks the first holder, then the next, then watches the record and asks all, and on the first news asks for the record again
pub record GetRow : Type 0 where
  pub start : read_sends get [] ≡ outs.Meta (asks.Read 1 1 a) ∷ []
  pub absent : read_reply (cues.Meta (says.Has 1 1 a None) ∷ []) ≡ Some (told.Absent (stamp 0 0))
  pub first_holder : read_sends get (told_record ∷ []) ≡ wished 1 0 (stamp 1 2) acts.Get ∷ []
  pub next_holder : read_sends get (missing 0 ∷ told_record ∷ []) ≡ wished 1 1 (stamp 1 2) acts.Get ∷ []
  pub repeated_miss : read_sends get (missing 0 ∷ missing 0 ∷ told_record ∷ []) ≡ []
  pub all_missed :
      read_sends get (missing 1 ∷ missing 0 ∷ told_record ∷ [])
      ≡ outs.Meta (asks.Watch 1 1 a (stamp 1 2)) ∷ wished 1 0 (stamp 1 2) acts.Get ∷ wished 1 1 (stamp 1 2) acts.Get ∷ []
  pub news : read_sends get (fired ∷ missing 1 ∷ missing 0 ∷ told_record ∷ []) ≡ outs.Meta (asks.Read 1 1 a) ∷ []
  pub repeated_news : read_sends get (fired ∷ fired ∷ missing 1 ∷ missing 0 ∷ told_record ∷ []) ≡ []
  pub refreshed_once : refresh_count (fired ∷ fired ∷ missing 1 ∷ missing 0 ∷ told_record ∷ []) ≡ 1

-- client 1 collects from three clouds, of which two acknowledgements are enough
abbrev pub collection : CollectPlan
collection = record { client = 1; op = 1; key = a; f = 1; k = 1 }

abbrev pub told_olds : Cue
told_olds = cues.Meta (says.OldList 1 1 a (stamp 1 2 ∷ []))

abbrev pub gone : ℕ → Cue
gone cloud = said 1 cloud (stamp 1 2) Gone

-- a collection deletes what is superseded from all clouds, and has it forgotten when all but f have acknowledged
pub record CollectRow : Type 0 where
  pub deletes :
      collect_sends collection (told_olds ∷ [])
      ≡ wished 1 0 (stamp 1 2) acts.Delete ∷ wished 1 1 (stamp 1 2) acts.Delete ∷ wished 1 2 (stamp 1 2) acts.Delete ∷ []
  pub one_gone : collect_sends collection (gone 0 ∷ told_olds ∷ []) ≡ []
  pub forgets : collect_sends collection (gone 2 ∷ gone 0 ∷ told_olds ∷ []) ≡ outs.Meta (asks.Forget 1 1 a (stamp 1 2 ∷ [])) ∷ []
  pub reply :
      collect_reply collection (cues.Meta (says.Forgot 1 1 a) ∷ gone 2 ∷ gone 0 ∷ told_olds ∷ [])
      ≡ Some (told.Collected 1)
  pub nothing : collect_reply collection (cues.Meta (says.OldList 1 1 a []) ∷ []) ≡ Some (told.Collected 0)

-- a request about the timestamp of this number
abbrev pub about : ℕ → CloudAct → Wish
about sn act = record { key = a; stamp = stamp sn 1; act = act }

-- an honest cloud holds the first bytes under each name until they are deleted
pub record CloudRow : Type 0 where
  pub first : cloud_answer [] (about 1 (acts.Put (7 ∷ []))) ≡ Stored true
  pub same : cloud_answer (about 1 (acts.Put (7 ∷ [])) ∷ []) (about 1 (acts.Put (7 ∷ []))) ≡ Stored false
  pub other : cloud_answer (about 1 (acts.Put (7 ∷ [])) ∷ []) (about 1 (acts.Put (8 ∷ []))) ≡ Conflict
  pub kept : cloud_answer (about 1 (acts.Put (8 ∷ [])) ∷ about 1 (acts.Put (7 ∷ [])) ∷ []) (about 1 acts.Get) ≡ Body (7 ∷ [])
  pub other_name : cloud_answer (about 1 (acts.Put (7 ∷ [])) ∷ []) (about 2 acts.Get) ≡ Missing
  pub deleted : cloud_answer (about 1 acts.Delete ∷ about 1 (acts.Put (7 ∷ [])) ∷ []) (about 1 acts.Get) ≡ Missing
  pub gone_again : cloud_answer [] (about 1 acts.Delete) ≡ Gone

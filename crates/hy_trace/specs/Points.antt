-- The point of an operation: the moment of the trace at which it takes effect.
use Rattle.std.specs.Prelude.{ℕ, ◌+◌, Bool, true, false, ◌&&◌, ◌||◌, ◌==◌, not, nat_lt, List, [], ◌∷◌, length, Option, Some, None, if◌then◌else◌}
use Rattle.std.specs.Option.{option_or, option_map}
use Rattle.hy_record.specs.declared.message.MetaAsk.{MetaAsk}
use Rattle.hy_record.specs.Stamp.{Timestamp, stamp_lt}
use Rattle.hy_record.specs.Key.{key_eq}
use Rattle.hy_record.specs.Record.{RecordValue}
use Rattle.hy_meta.specs.Service.{Attempt, attempt_of, applies, stamp_of_record, record_after}
use Rattle.hy_protocol.specs.Inputs.{has_of}
use Rattle.hy_protocol.specs.Read.{Version, version_of}
use Rattle.hy_trace.specs.Deeds.{Deed, Joined, Began, Handed, Served, Granted, Stopped, Nothing, served, inputs_of}

-- a moment of a trace: at a step, or just before it
pub record Point : Type 0 where
  pub step : ℕ
  pub is_just_before : Bool

-- the first moment is before the second
unfoldable pub is_earlier : Point → Point → Bool
is_earlier a b = nat_lt a.step b.step || (a.step == b.step && a.is_just_before && not b.is_just_before)

-- where the version's answer was made, after an input that tells this record or none, and was made at this step
abbrev pub newer_made : Option Version → Option (Option RecordValue) → ℕ → ℕ → ℕ
newer_made version None made old = old
newer_made None (Some r) made old = made
newer_made (Some v) (Some r) made old = if stamp_lt (stamp_of_record v.rec) (stamp_of_record r) then made else old

-- the step at which the service made the answer that gave a read its version
unfoldable pub version_made : ℕ → ℕ → List Deed → ℕ
version_made client op [] = 0
version_made client op (Handed c o made cue ∷ before) =
    if c == client && o == op
    then newer_made (version_of (inputs_of client op before)) (has_of cue) made (version_made client op before)
    else version_made client op before
version_made client op (Served ask ∷ before) = version_made client op before
version_made client op (Joined ∷ before) = version_made client op before
version_made client op (Began c o a ∷ before) = version_made client op before
version_made client op (Granted ask ∷ before) = version_made client op before
version_made client op (Stopped c ∷ before) = version_made client op before
version_made client op (Nothing ∷ before) = version_made client op before

-- the point of a read: the step at which the service made the answer that gave its version
abbrev pub read_point : ℕ → ℕ → List Deed → Point
read_point client op t = record { step = version_made client op t; is_just_before = false }

-- an update or a judged swap that the service served: whose it was, at which step, and whether it was applied
pub record Update : Type 0 where
  pub client : ℕ
  pub op : ℕ
  pub key : List ℕ
  pub stamp : Timestamp
  pub step : ℕ
  pub is_applied : Bool

-- an attempt on the service that was served after these deeds
abbrev pub update_as : List Deed → Attempt → Update
update_as before a =
    record {
      client = a.client;
      op = a.op;
      key = a.key;
      stamp = a.rec.stamp;
      step = length before + 1;
      is_applied = applies (record_after (served before) a.key) a;
    }

-- the update that the service serves by this request
abbrev pub update_by : MetaAsk → List Deed → Option Update
update_by ask before = option_map (update_as before) (attempt_of (served before) ask)

-- the update that the service serves at the deed
abbrev pub update_at : Deed → List Deed → Option Update
update_at (Served ask) before = update_by ask before
update_at Joined before = None
update_at (Began c o a) before = None
update_at (Handed c o made cue) before = None
update_at (Granted ask) before = None
update_at (Stopped c) before = None
update_at Nothing before = None

-- the update, where it passes the test
abbrev pub passing : (Update → Bool) → Option Update → Option Update
passing test None = None
passing test (Some u) = if test u then Some u else None

-- the first update that passes the test
unfoldable pub first_update : (Update → Bool) → List Deed → Option Update
first_update test [] = None
first_update test (deed ∷ before) = option_or (first_update test before) (passing test (update_at deed before))

-- an update of this operation
abbrev pub is_own : ℕ → ℕ → Update → Bool
is_own client op u = u.client == client && u.op == op

-- an applied update of the key with a greater timestamp
abbrev pub overwrites : List ℕ → Timestamp → Update → Bool
overwrites key stamp u = u.is_applied && key_eq u.key key && stamp_lt stamp u.stamp

-- just before the update
abbrev pub just_before : Option Update → Point
just_before None = record { step = 0; is_just_before = true }
just_before (Some u) = record { step = u.step; is_just_before = true }

-- the point of a write whose first update was this: there, where it was applied; else just before the first applied update of its key
-- with a greater timestamp
abbrev pub point_by : Option Update → List Deed → Point
point_by None t = record { step = 0; is_just_before = true }
point_by (Some u) t =
    if u.is_applied then record { step = u.step; is_just_before = false }
    else just_before (first_update (overwrites u.key u.stamp) t)

-- the point of a write
unfoldable pub write_point : ℕ → ℕ → List Deed → Point
write_point client op t = point_by (first_update (is_own client op) t) t

-- the point of a swap that found another record: where it was judged; else where the answer was made that told that record
abbrev pub changed_by : Option Update → ℕ → ℕ → List Deed → Point
changed_by None client op t = read_point client op t
changed_by (Some u) client op t = record { step = u.step; is_just_before = false }

unfoldable pub changed_point : ℕ → ℕ → List Deed → Point
changed_point client op t = changed_by (first_update (is_own client op) t) client op t

-- what was attempted is of the operation, and was applied
abbrev pub is_applied_own : Option Attempt → List MetaAsk → ℕ → ℕ → Bool
is_applied_own None before client op = false
is_applied_own (Some a) before client op = a.client == client && a.op == op && applies (record_after before a.key) a

-- an update of the operation was applied
unfoldable pub was_applied : List MetaAsk → ℕ → ℕ → Bool
was_applied [] client op = false
was_applied (ask ∷ before) client op = is_applied_own (attempt_of before ask) before client op || was_applied before client op

-- what was attempted is on the key, and was applied
abbrev pub is_applied_on : Option Attempt → List MetaAsk → List ℕ → Bool
is_applied_on None before key = false
is_applied_on (Some a) before key = key_eq a.key key && applies (record_after before key) a

-- how many updates of the key were applied
unfoldable pub applied_count : List MetaAsk → List ℕ → ℕ
applied_count [] key = 0
applied_count (ask ∷ before) key =
    if is_applied_on (attempt_of before ask) before key then applied_count before key + 1 else applied_count before key

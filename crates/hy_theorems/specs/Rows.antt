-- Worked schedules that meet the premises of the laws.
use Rattle.std.specs.Prelude.{◌≡◌, ℕ, false, List, [], ◌∷◌, ◌++◌, Some, reverse}
use Rattle.hy_record.specs.declared.action.Action.TheVariants as asked
use Rattle.hy_base.specs.Shape.{IsShape}
use Rattle.hy_record.specs.Record.{RecordValue, is_tombstone}
use Rattle.hy_meta.specs.Service.{record_after}
use Rattle.hy_protocol.specs.Write.{value_record}
use Rattle.hy_protocol.specs.Read.{refresh_count}
use Rattle.hy_order.specs.declared.held.Held.{Held}
use Rattle.hy_trace.specs.declared.step.Step.{Step}
use Rattle.hy_trace.specs.declared.step.Step.TheVariants as steps
use Rattle.hy_trace.specs.Deeds.{Params, Deed, Start, served, inputs_of}
use Rattle.hy_trace.specs.Messages.{IsSent}
use Rattle.hy_trace.specs.Schedule.{trace_of}
use Rattle.hy_trace.specs.Points.{applied_count}
use Rattle.hy_trace.specs.Hashed.{IsCollisionFree, ArePutBytes}
use Rattle.hy_trace.specs.Held.{HasLiars, held_of}
use Rattle.hy_trace.specs.Rows.{one_cloud, first_lies, a, stamp, gives, put_begins, stored}
use Rattle.hy_theorems.specs.Deleting.{deletion}
use Rattle.hy_theorems.specs.Writing.{IsWriting}
use Rattle.hy_theorems.specs.Starving.{IsGet, IsStarvedGet}

-- the trace of these steps, the first of which stands first
abbrev pub trace : Params → List Step → List Deed
trace p schedule = trace_of p (reverse schedule)

-- a put, a delete and a get of a key, one after the other
abbrev pub put_delete_get : List Step
put_delete_get =
    put_begins ++ gives (1 ∷ 2 ∷ 3 ∷ 4 ∷ 5 ∷ 6 ∷ [])
    ++ steps.Invoke 1 (asked.Delete a) ∷ gives (7 ∷ 8 ∷ 9 ∷ 10 ∷ [])
    ++ steps.Invoke 1 (asked.Get a) ∷ gives (11 ∷ 12 ∷ [])

-- a put to which a Byzantine cloud gave a false acknowledgement
abbrev pub put_upon_a_lie : List Step
put_upon_a_lie = put_begins ++ gives (1 ∷ 2 ∷ 4 ∷ 5 ∷ []) ++ steps.Lie stored ∷ gives (6 ∷ 7 ∷ [])

-- client 1 has put a value
abbrev pub put_done : List Step
put_done = steps.Join ∷ steps.Join ∷ steps.Invoke 1 (asked.Put a (1 ∷ [])) ∷ gives (1 ∷ 2 ∷ 3 ∷ 4 ∷ 5 ∷ 6 ∷ [])

-- client 2 reads its record, client 1 puts another value, and collects: the first value is deleted
abbrev pub collected : List Step
collected =
    put_done
    ++ steps.Invoke 2 (asked.Get a) ∷ gives (7 ∷ 8 ∷ [])
    ++ steps.Invoke 1 (asked.Put a (2 ∷ [])) ∷ gives (10 ∷ 11 ∷ 12 ∷ 13 ∷ 14 ∷ 15 ∷ [])
    ++ steps.Invoke 1 (asked.Collect a) ∷ gives (16 ∷ 17 ∷ 18 ∷ 19 ∷ 20 ∷ 21 ∷ [])

-- and client 2 is told that the cloud holds nothing
abbrev pub starved : List Step
starved = collected ++ gives (9 ∷ 22 ∷ [])

-- it watches the record, and is told that it was superseded
abbrev pub refreshed : List Step
refreshed = starved ++ gives (23 ∷ 25 ∷ [])

-- the get of client 2, which began when the first value had been put
abbrev pub get_start : Start
get_start = record { action = asked.Get a; before = trace one_cloud put_done }

-- the record of a value that these clouds hold
abbrev pub first_record : List ℕ → ℕ → RecordValue
first_record clouds f = value_record (stamp 1 1) (1 ∷ []) f 1 clouds

-- each premise of a law is met
pub record PremisesAreMet : Type 0 where
  -- of the linearizability of reports
  pub shape : IsShape 0 1
  pub free : IsCollisionFree one_cloud (trace one_cloud put_delete_get)
  pub bytes : ArePutBytes (trace one_cloud put_delete_get)
  -- of durability: one Byzantine cloud of three, which lied, and a value that is the current one
  pub liars : HasLiars first_lies 1
  pub current : record_after (served (trace first_lies put_upon_a_lie)) a ≡ Some (first_record (0 ∷ 1 ∷ []) 1)
  pub value : is_tombstone (first_record (0 ∷ 1 ∷ []) 1).kind ≡ false
  pub reported : (held : Held) × (held_of first_lies (trace first_lies put_upon_a_lie) a ≡ Some held)
  -- of the timestamps of writes
  pub writing : IsWriting one_cloud 1 1 a (stamp 1 1) (trace one_cloud put_done)
  -- of deletions
  pub deleted : IsSent one_cloud (trace one_cloud collected) (deletion 1 3 0 a (stamp 1 1))
  -- of refreshes: as many as updates were applied since
  pub get : IsGet 2 1 a get_start (trace one_cloud refreshed)
  pub refreshes : refresh_count (inputs_of 2 1 (trace one_cloud refreshed)) ≡ 1
  pub before : applied_count (served get_start.before) a ≡ 1
  pub since : applied_count (served (trace one_cloud refreshed)) a ≡ 2
  -- of starved reads
  pub none_lies : HasLiars one_cloud 0
  pub starves : IsStarvedGet one_cloud 2 1 a (first_record (0 ∷ []) 0) (trace one_cloud starved)

-- What is promised of a run, at each moment of it.
use Rattle.std.specs.Prelude.{◌≡◌, ℕ, ◌+◌, ◌≤◌, true, false, List, ◌++◌, length, Contains, Some}
use Rattle.hy_record.specs.Clouds.{set_of}
use Rattle.hy_record.specs.Record.{RecordValue, is_tombstone}
use Rattle.hy_record.specs.Stamp.{Timestamp, stamp_lt}
use Rattle.hy_meta.specs.Service.{record_after, record_stamp}
use Rattle.hy_protocol.specs.Read.{refresh_count}
use Rattle.hy_order.specs.declared.held.Held.{Held}
use Rattle.hy_trace.specs.declared.step.Step.{Step}
use Rattle.hy_trace.specs.Deeds.{Params, Deed, Start, served, inputs_of}
use Rattle.hy_trace.specs.Messages.{IsSent}
use Rattle.hy_trace.specs.Points.{applied_count}
use Rattle.hy_trace.specs.Held.{HasLiars, holders_of}
use Rattle.hy_trace.specs.Schedule.{trace_of}
use Rattle.hy_theorems.specs.Deleting.{deletion}
use Rattle.hy_theorems.specs.Starving.{IsGet, IsStarvedGet}

-- with at most f Byzantine clouds, each current version with a value is held, with valid bytes, by k honest clouds of
-- its list
abbrev pub StaysRetrievable : Params → List Deed → Type 0
StaysRetrievable p t =
    HasLiars p p.f → (key : List ℕ) (r : RecordValue) → record_after (served t) key ≡ Some r →
    is_tombstone r.kind ≡ false → p.k ≤ length (holders_of p t key r)

-- with at most f Byzantine clouds, where each honest cloud of its list has answered a pending get, the record that it
-- follows was superseded
abbrev pub StarvesOnlyOld : Params → List Deed → Type 0
StarvesOnlyOld p t =
    HasLiars p p.f → (client op : ℕ) (key : List ℕ) (r : RecordValue) → IsStarvedGet p client op key r t →
    stamp_lt r.stamp (record_stamp (served t) key) ≡ true

-- a get refreshes at most as often as updates of its key were applied since it began
abbrev pub RefreshesAtMost : Params → List Deed → Type 0
RefreshesAtMost p t =
    (client op : ℕ) (key : List ℕ) (start : Start) → IsGet client op key start t →
    refresh_count (inputs_of client op t) + applied_count (served start.before) key ≤ applied_count (served t) key

-- a deletion that was asked for is of a timestamp below that of the record
abbrev pub DeletesOnlyOld : Params → List Deed → Type 0
DeletesOnlyOld p t =
    (client op cloud : ℕ) (key : List ℕ) (stamp : Timestamp) → IsSent p t (deletion client op cloud key stamp) →
    stamp_lt stamp (record_stamp (served t) key) ≡ true

-- it holds of the trace, and of each that came before it
abbrev pub AtEachMoment : (List Deed → Type 0) → List Deed → Type 0
AtEachMoment holds t = (later earlier : List Deed) → later ++ earlier ≡ t → holds earlier

-- what is promised of a run of these steps: after each of them, and so in the middle of a `Do` too
pub record KeepsPromises (p : Params) (steps : List Step) : Type 0 where
  pub retrievable : AtEachMoment (StaysRetrievable p) (trace_of p steps)
  pub starved : AtEachMoment (StarvesOnlyOld p) (trace_of p steps)
  pub refreshes : AtEachMoment (RefreshesAtMost p) (trace_of p steps)
  pub deletions : AtEachMoment (DeletesOnlyOld p) (trace_of p steps)

-- each current version with a value is listed, with the clouds that hold it
abbrev pub ListsCurrent : Params → List Deed → List Held → Type 0
ListsCurrent p t copies =
    (key : List ℕ) (r : RecordValue) → record_after (served t) key ≡ Some r → is_tombstone r.kind ≡ false →
    Contains copies (record { key = key; stamp = r.stamp; clouds = set_of (holders_of p t key r) })

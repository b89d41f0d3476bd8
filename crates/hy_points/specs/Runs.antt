-- Runs: operations that begin, read, write and return, each at steps of its own.
use Rattle.std.specs.Prelude.{◌≡◌, ℕ, ◌+◌, ◌<◌, ◌≤◌, Bool, true, false, List, Option, Some, None, ◌⊎◌}
use Rattle.hy_record.specs.Stamp.{Timestamp, stamp_lt, stamp_eq, next_stamp}
use Rattle.hy_points.specs.declared.point.ActKind.{ActKind}
use Rattle.hy_points.specs.declared.point.ActKind.TheVariants.{Put, Get, Delete, Swap}
use Rattle.hy_points.specs.declared.point.Point.{Point}
use Rattle.hy_points.specs.declared.point.Point.TheVariants.{Begin, Ask, Set, Try, End}
use Rattle.hy_points.specs.Atomic.{no_stamp, writes}

-- an operation reads at a step, and finds this timestamp
pub record Reading : Type 0 where
  pub step : ℕ
  pub found : Timestamp

-- it writes at a step
pub record Writing : Type 0 where
  pub step : ℕ
  pub stamp : Timestamp
  pub is_applied : Bool

-- it tries to write at a step, and finds this timestamp
pub record Trial : Type 0 where
  pub step : ℕ
  pub stamp : Timestamp
  pub found : Timestamp

-- an operation, and the steps at which it begins, reads, writes or tries to, and returns
pub record Run : Type 0 where
  pub op : ℕ
  pub client : ℕ
  pub key : List ℕ
  pub act : ActKind
  pub begun : ℕ
  pub asked : Option Reading
  pub set : Option Writing
  pub tried : Option Trial
  pub ended : Option ℕ

-- the point is the operation's at this step
abbrev pub IsPointOf : Run → ℕ → Point → Type 0
IsPointOf run step (Begin op client key act) = (op ≡ run.op) × (client ≡ run.client) × (key ≡ run.key) × (act ≡ run.act) × (step ≡ run.begun)
IsPointOf run step (Ask op found) = (op ≡ run.op) × (run.asked ≡ Some (record { step = step; found = found }))
IsPointOf run step (Set op stamp applied) = (op ≡ run.op) × (run.set ≡ Some (record { step = step; stamp = stamp; is_applied = applied }))
IsPointOf run step (Try op stamp found) = (op ≡ run.op) × (run.tried ≡ Some (record { step = step; stamp = stamp; found = found }))
IsPointOf run step (End op) = (op ≡ run.op) × (run.ended ≡ Some step)

-- it returns where it has read, or written, or tried to, or has no timestamp to write, or found what it does not expect
abbrev pub MayReturn : Run → ActKind → Type 0
MayReturn run Get = (r : Reading) × (run.asked ≡ Some r)
MayReturn run Put = ((w : Writing) × (run.set ≡ Some w)) ⊎ ((r : Reading) × (run.asked ≡ Some r) × (next_stamp r.found run.client ≡ None))
MayReturn run Delete = ((w : Writing) × (run.set ≡ Some w)) ⊎ ((r : Reading) × (run.asked ≡ Some r) × (next_stamp r.found run.client ≡ None))
MayReturn run (Swap expected) = ((t : Trial) × (run.tried ≡ Some t)) ⊎ ((r : Reading) × (run.asked ≡ Some r) × ((stamp_eq expected r.found ≡ false) ⊎ (next_stamp r.found run.client ≡ None)))

-- a reading that finds the record, of which this is the timestamp after each step
pub record ReadsWell (record_at : List ℕ → ℕ → Timestamp) (run : Run) (r : Reading) : Type 0 where
  pub begun : run.begun < r.step
  pub finds : (before : ℕ) → before + 1 ≡ r.step → r.found ≡ record_at run.key before
  pub ended : (end : ℕ) → run.ended ≡ Some end → r.step < end
  pub set : (w : Writing) → run.set ≡ Some w → r.step < w.step
  pub tried : (t : Trial) → run.tried ≡ Some t → r.step < t.step

-- a writing with the next timestamp above what was read, which is applied where the record is below it
pub record WritesWell (record_at : List ℕ → ℕ → Timestamp) (run : Run) (w : Writing) : Type 0 where
  pub is_write : writes run.act ≡ true
  pub reading : Reading
  pub asked : run.asked ≡ Some reading
  pub next : next_stamp reading.found run.client ≡ Some w.stamp
  pub applies : (before : ℕ) → before + 1 ≡ w.step → w.is_applied ≡ stamp_lt (record_at run.key before) w.stamp
  pub ended : (end : ℕ) → run.ended ≡ Some end → w.step < end

-- a try with the next timestamp above what the swap expects and read, which finds the record
pub record TriesWell (record_at : List ℕ → ℕ → Timestamp) (run : Run) (t : Trial) : Type 0 where
  pub expected : Timestamp
  pub is_swap : run.act ≡ Swap expected
  pub reading : Reading
  pub asked : run.asked ≡ Some reading
  pub as_expected : reading.found ≡ expected
  pub next : next_stamp expected run.client ≡ Some t.stamp
  pub finds : (before : ℕ) → before + 1 ≡ t.step → t.found ≡ record_at run.key before
  pub ended : (end : ℕ) → run.ended ≡ Some end → t.step < end

-- the run makes the record of its key at a step: by an applied writing, or by a try that found what it expects
abbrev pub Raises : Run → ℕ → Timestamp → Type 0
Raises run step stamp =
    (run.set ≡ Some (record { step = step; stamp = stamp; is_applied = true }))
    ⊎ ((found : Timestamp) × (run.act ≡ Swap found) × (run.tried ≡ Some (record { step = step; stamp = stamp; found = found })))

-- the record of the key was made at this step or before
pub record IsRaised (Is : Run → Type 0) (key : List ℕ) (step : ℕ) (stamp : Timestamp) : Type 0 where
  pub run : Run
  pub is : Is run
  pub key_is : run.key ≡ key
  pub at : ℕ
  pub raises : Raises run at stamp
  pub within : at ≤ step

-- the operations run one by one at each client, over a record that is the greatest of those that they made;
-- what is written is not tried, and the other way
pub record AreRuns (record_at : List ℕ → ℕ → Timestamp) (Is : Run → Type 0) : Type 0 where
  pub numbers : (a b : Run) → Is a → Is b → a.op ≡ b.op → a ≡ b
  pub in_turn : (a b : Run) → Is a → Is b → a.client ≡ b.client → a.begun < b.begun → (end : ℕ) × (a.ended ≡ Some end) × (end < b.begun)
  pub reads : (run : Run) (r : Reading) → Is run → run.asked ≡ Some r → ReadsWell record_at run r
  pub sets : (run : Run) (w : Writing) → Is run → run.set ≡ Some w → WritesWell record_at run w
  pub ends : (run : Run) (end : ℕ) → Is run → run.ended ≡ Some end → (run.begun < end) × MayReturn run run.act
  pub tries : (run : Run) (t : Trial) → Is run → run.tried ≡ Some t → TriesWell record_at run t
  pub apart : (a b : Run) (w : Writing) (t : Trial) → Is a → Is b → a.set ≡ Some w → b.tried ≡ Some t → a.key ≡ b.key → ⊥
  pub low : (run : Run) (at : ℕ) (stamp : Timestamp) (step : ℕ) → Is run → Raises run at stamp → at ≤ step → stamp_lt (record_at run.key step) stamp ≡ false
  pub from : (key : List ℕ) (step : ℕ) → (record_at key step ≡ no_stamp) ⊎ IsRaised Is key step (record_at key step)

-- A disk in memory: what its writes and syncs make of its file, and of the files that a crash may
-- leave.
use Rattle.std.specs.Prelude.{All, ◌≡◌, ◌⊎◌, ℕ, Bool, false, ◌&&◌, nat_le, nat_lt, ◌+◌, ◌-◌, ◌/◌, ◌^◌, Contains, ◌<◌, ◌≤◌, min, List, [], ◌∷◌, length, take, drop, vec_len, vec_capacity, Result, Ok, Err}
use Rattle.std.specs.Global.{Vec}
use Rattle.hy_base.specs.Faults.{Rose, next_count, FailsNext}
use Rattle.hy_base.specs.declared.failure.Failed.{Failed}
use Rattle.hy_disk.specs.Disk.{written, TornFrom}
use Rattle.hy_disk.specs.declared.past.Mark.{Mark}
use Rattle.hy_disk.specs.declared.past.Mark.TheVariants.{Write, Sync}
use Rattle.hy_disk.specs.declared.past.Past.{Past}

-- a write or a sync that succeeded
pub data Step : Type 0 where
  wrote : ℕ → List ℕ → Step
  synced : Step

-- Steps are listed newest first.

-- what a read gives after these steps
unfoldable pub contents_after : List Step → List ℕ
contents_after [] = []
contents_after (wrote place bytes ∷ before) = written place bytes (contents_after before)
contents_after (synced ∷ before) = contents_after before

-- a crash after these steps may leave the file
unfoldable pub MayLeave : List Step → List ℕ → Type 0
MayLeave [] c = c ≡ []
MayLeave (wrote place bytes ∷ before) c = TornFrom place (length bytes) (MayLeave before) c
MayLeave (synced ∷ before) c = c ≡ contents_after before

-- a crash might have left it after these steps, or after a beginning of them that has at least t
unfoldable pub LeftSince : List Step → ℕ → List ℕ → Type 0
LeftSince [] t c = MayLeave [] c
LeftSince (step ∷ before) t c =
    MayLeave (step ∷ before) c ⊎ ((t ≤ length before) × LeftSince before t c)

-- the bytes that the writes wrote
unfoldable pub total_written : List Step → ℕ
total_written [] = 0
total_written (wrote place bytes ∷ before) = length bytes + total_written before
total_written (synced ∷ before) = total_written before

-- the steps, the room, the numbers of the calls that fail, and the counts of calls and of faults
pub record DiskValue : Type 0 where
  pub steps : List Step
  pub room : ℕ
  pub failing : List ℕ
  pub calls : ℕ
  pub faults : ℕ

-- an empty file with this room before the first call
abbrev pub fresh_disk : ℕ → List ℕ → DiskValue
fresh_disk room failing =
    record { steps = []; room = room; failing = failing; calls = 0; faults = 0 }

-- the record of steps has no place for one more
abbrev pub IsPastFull : DiskValue → Type 0
IsPastFull disk = disk.room / 8 ≤ length disk.steps

-- there is room for a write of n bytes at this place: in the file, in the record of what was
-- written, and in that of the steps
abbrev pub has_room : DiskValue → ℕ → ℕ → Bool
has_room disk place n =
    nat_le (place + n) disk.room && nat_le (total_written disk.steps + n) disk.room
    && nat_lt (length disk.steps) (disk.room / 8)

-- there is none
abbrev pub LacksRoom : DiskValue → ℕ → ℕ → Type 0
LacksRoom disk place n = has_room disk place n ≡ false

-- the next call fails: its number says so
abbrev pub FailsByNumber : DiskValue → Type 0
FailsByNumber disk = FailsNext disk.failing disk.calls

-- the disk after a call that failed
abbrev pub after_fault : DiskValue → DiskValue
after_fault disk = record disk { calls = next_count disk.calls; faults = next_count disk.faults }

-- the disk after a call that changes nothing
abbrev pub after_look : {A : Type 0} → DiskValue → Result A Failed → DiskValue
after_look disk (Ok value) = record disk { calls = next_count disk.calls }
after_look disk (Err failed) = after_fault disk

-- the disk after this step
abbrev pub after_step : DiskValue → Step → Result Unit Failed → DiskValue
after_step disk step (Ok done) =
    record disk { steps = step ∷ disk.steps; calls = next_count disk.calls }
after_step disk step (Err failed) = after_fault disk

-- how many bytes a read at this place gives that does not fail
abbrev pub given_count : DiskValue → ℕ → ℕ → ℕ
given_count disk place room = min room (length (contents_after disk.steps) - place)

-- a number of a call that fails is above the first count and not above the second
abbrev pub FailsWithin : List ℕ → ℕ → ℕ → Type 0
FailsWithin failing from to = (n : ℕ) × Contains failing n × (from < n) × (n ≤ to)

-- each of these numbers of calls is one that the count of calls can have before it stands still
abbrev pub AreSmall : List ℕ → Type 0
AreSmall failing = All (λ n. n < 2 ^ 64 - 1) failing

-- the room suffices for so many writes and syncs more, so many bytes in them, and a file that ends
-- at this place
pub record Suffices (disk : DiskValue) (steps bytes end : ℕ) : Type 0 where
  pub file : end ≤ disk.room
  pub written : total_written disk.steps + bytes ≤ disk.room
  pub marks : length disk.steps + steps ≤ disk.room / 8

-- The disk after some calls that tried at most so many writes and syncs, with at most so many
-- bytes, all before this place: where the room suffices, the count of faults rose exactly where a
-- call has a number of those that fail.
pub record Reach (old new : DiskValue) (steps bytes end : ℕ) : Type 0 where
  pub room : new.room ≡ old.room
  pub failing : new.failing ≡ old.failing
  pub calls : old.calls ≤ new.calls
  pub stays : old.faults ≤ new.faults
  pub marks : length new.steps ≤ length old.steps + steps
  pub written : total_written new.steps ≤ total_written old.steps + bytes
  pub sound : Suffices old steps bytes end → AreSmall old.failing
      → (new.faults ≡ old.faults) ⊎ FailsWithin old.failing old.calls new.calls
  pub faulty : FailsWithin old.failing old.calls new.calls → Rose old.faults new.faults
  -- the count of faults rose by one for each call at most
  pub slow : Suffices old steps bytes end → AreSmall old.failing
      → new.faults + old.calls ≤ old.faults + new.calls

-- ---- how the steps lie in memory

-- the bytes of all marks
unfoldable pub marked : List Mark → ℕ
marked [] = 0
marked (Write place size ∷ marks) = size + marked marks
marked (Sync ∷ marks) = marked marks

-- the steps of these marks, oldest first, over what they wrote, behind the steps before them
unfoldable pub laid : List Mark → List ℕ → List Step → List Step
laid [] bytes before = before
laid (Write place size ∷ marks) bytes before =
    laid marks (drop size bytes) (wrote place (take size bytes) ∷ before)
laid (Sync ∷ marks) bytes before = laid marks bytes (synced ∷ before)

abbrev pub steps_of : Past → List Step
steps_of past = laid past.marks.items past.bytes.items []

-- the file is what the steps made, and memory for the room was taken before
pub record IsReserved (file : Vec ℕ) (past : Past) (room : ℕ) : Type 0 where
  pub made : file.items ≡ contents_after (steps_of past)
  pub marked : marked past.marks.items ≡ length past.bytes.items
  pub file_fits : vec_len file ≤ room
  pub bytes_fit : vec_len past.bytes ≤ room
  pub marks_fit : vec_len past.marks ≤ room / 8
  pub room_for_file : room ≤ vec_capacity file
  pub room_for_bytes : room ≤ vec_capacity past.bytes
  pub room_for_marks : room / 8 ≤ vec_capacity past.marks

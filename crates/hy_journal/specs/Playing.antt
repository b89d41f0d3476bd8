-- How far a keeper over a disk in memory has come with requests.
use Rattle.std.specs.Prelude.{◌≡◌, ◌⊎◌, ℕ, ◌+◌, ◌-◌, ◌*◌, ◌^◌, ◌<◌, ◌≤◌, List, [], ◌∷◌, ◌++◌, length, Contains}
use Rattle.hy_base.specs.declared.limits.TheConstants.{MAX_INPUT}
use Rattle.hy_record.specs.declared.message.MetaAsk.{MetaAsk}
use Rattle.hy_mwire.specs.declared.message.Message.{Message}
use Rattle.hy_mwire.specs.Frames.{frame_of, frames_of}
use Rattle.hy_disk.specs.MemDisk.{DiskValue, Suffices, AreSmall, MayLeave, contents_after, total_written}
use Rattle.hy_journal.specs.declared.kept.TheConstants.{KEPT_ROOM}
use Rattle.hy_journal.specs.declared.entry.Entry.{Entry}
use Rattle.hy_journal.specs.declared.keeper.Keeper.{Keeper}
use Rattle.hy_journal.specs.File.{blocks, Holds, IsWithOrWithout}
use Rattle.hy_journal.specs.Fold.{asks_of, sessions_of}
use Rattle.hy_journal.specs.Keeper.{Stands, disk_of}
use Rattle.hy_journal.specs.Requests.{IsRequest}
use Rattle.hy_journal.specs.Kept.{added, served_with, says_of, IsStop, left_after, Kept}

-- what a read gives
abbrev pub file_of : DiskValue → List ℕ
file_of disk = contents_after disk.steps

-- what a crash may leave
abbrev pub files_of : DiskValue → List ℕ → Type 0
files_of disk = MayLeave disk.steps

-- the number of the call that fails, the entries, the requests served, how many entries were tried,
-- how many bytes the requests had, and how often the disk was opened again
pub record Place : Type 0 where
  pub stop : ℕ
  pub entries : List Entry
  pub served : List MetaAsk
  pub count : ℕ
  pub bytes : ℕ
  pub again : ℕ

-- the number of the call that fails, from here
abbrev pub left_at : Place → DiskValue → ℕ
left_at place disk = place.stop - disk.calls

-- the disk has the room and the number, and was used within these bounds
pub record IsUsed (place : Place) (disk : DiskValue) : Type 0 where
  pub room : disk.room ≡ KEPT_ROOM
  pub failing : disk.failing ≡ place.stop ∷ []
  pub small : place.stop < 2 ^ 32
  pub steps : length disk.steps ≤ 3 + 4 * place.count + 3 * place.again
  pub written : total_written disk.steps ≤ 1 + place.bytes + 2 * place.count + place.again
  pub faults : disk.faults ≤ 4 * place.again
  pub once : place.again ≤ 1
  pub waits : 0 < left_at place disk → place.again ≡ 0

-- the entries and the bytes are few
pub record IsFew (place : Place) : Type 0 where
  pub file : length (blocks place.entries) ≤ place.bytes + place.count
  pub five : 5 * place.count ≤ place.bytes
  pub many : 17 * place.count ≤ place.bytes + 12 * sessions_of place.entries + 12 * place.again
  pub within : place.bytes ≤ MAX_INPUT

-- the keeper is at this place
pub record IsAt (place : Place) (keeper : Keeper DiskValue) : Type 0 where
  pub stands : Stands file_of files_of keeper place.entries place.served
  pub used : IsUsed place (disk_of keeper)
  pub few : IsFew place

-- the request is within the limit, from a place where the keeper is
pub record IsReady (keeper : Keeper DiskValue) (request : Message) : Type 0 where
  pub place : Place
  pub at : IsAt place keeper
  pub known : IsRequest request
  pub fits : place.bytes + length (frame_of request) ≤ MAX_INPUT

-- no call fails that opens the disk again
pub record CanReopen (disk : DiskValue) : Type 0 where
  pub entries : List Entry
  pub more : List Entry
  pub holds : Holds entries more (files_of disk)
  pub suffices : Suffices disk 3 1 1
  pub few : disk.faults ≤ 4
  pub small : AreSmall disk.failing
  pub past : (n : ℕ) → Contains disk.failing n → n ≤ disk.calls

-- the request was answered: this was put behind the output
pub record IsAnswered (place next : Place) (left left_next : ℕ) (request : Message)
    (before output : List ℕ) : Type 0 where
  pub other : ¬ IsStop left (added place.entries request)
  pub output_is : output ≡ before ++ frames_of (says_of place.entries place.served request)
  pub entries_are : next.entries ≡ place.entries ++ added place.entries request
  pub served_are : next.served ≡ served_with place.served request
  pub left_is : left_next ≡ left_after left (added place.entries request)

-- the call failed in the request's, and nothing was answered
pub record IsLost (place next : Place) (left left_next : ℕ) (request : Message)
    (before output : List ℕ) : Type 0 where
  pub stop : IsStop left (added place.entries request)
  pub output_is : output ≡ before
  pub found : IsWithOrWithout place.entries (added place.entries request) next.entries
  pub served_are : next.served ≡ asks_of next.entries
  pub left_is : left_next ≡ 0

-- from this place the request brought the keeper to a next one
pub record GoesTo (place : Place) (old new : Keeper DiskValue) (request : Message)
    (before output : List ℕ) : Type 0 where
  pub next : Place
  pub at : IsAt next new
  pub same : next.stop ≡ place.stop
  pub longer : next.bytes ≡ place.bytes + length (frame_of request)
  pub moved : IsAnswered place next (left_at place (disk_of old)) (left_at next (disk_of new)) request before output
      ⊎ IsLost place next (left_at place (disk_of old)) (left_at next (disk_of new)) request before output

-- wherever the keeper was, the request brought it on
abbrev pub GoesOn : Keeper DiskValue → Keeper DiskValue → Message → List ℕ → List ℕ → Type 0
GoesOn old new request before output = (place : Place) → IsAt place old → IsRequest request
    → place.bytes + length (frame_of request) ≤ MAX_INPUT → GoesTo place old new request before output

-- the requests brought the keeper of a new disk here, with this output
pub record IsPlayed (stop : ℕ) (keeper : Keeper DiskValue) (requests : List Message)
    (output : List ℕ) : Type 0 where
  pub place : Place
  pub at : IsAt place keeper
  pub same : place.stop ≡ stop
  pub long : place.bytes ≡ length (frames_of requests)
  pub goes : (more : List Message) (rest : List ℕ)
      → Kept (left_at place (disk_of keeper)) place.entries place.served more rest
      → Kept (stop - 4) [] [] (requests ++ more) (output ++ rest)

-- What a keeper stands for.
use Rattle.std.specs.Prelude.{◌≡◌, ◌⊎◌, ℕ, ◌+◌, ◌<◌, ◌≤◌, Bool, true, false, List, [], ◌∷◌, ◌++◌, length, drop, All, ⊤, ◌-◌, ◌^◌, min, if◌then◌else◌}
use Rattle.hy_record.specs.declared.message.MetaAsk.{MetaAsk}
use Rattle.hy_meta.specs.declared.service.Service.{Service}
use Rattle.hy_meta.specs.Held.{Serves}
use Rattle.hy_disk.specs.Disk.{OnlyFile}
use Rattle.hy_journal.specs.declared.limits.TheConstants.{MAX_JOURNAL}
use Rattle.hy_journal.specs.declared.entry.Entry.{Entry}
use Rattle.hy_journal.specs.declared.state.State.{State}
use Rattle.hy_journal.specs.declared.keeper.Keeper.{Keeper}
use Rattle.hy_journal.specs.declared.fault.OpenFault.{OpenFault}
use Rattle.hy_journal.specs.declared.fault.OpenFault.TheVariants as faults
use Rattle.hy_journal.specs.declared.fault.KeepFault.{KeepFault}
use Rattle.hy_journal.specs.declared.fault.KeepFault.TheVariants as keep_faults
use Rattle.hy_base.specs.Faults.{Rose}
use Rattle.hy_journal.specs.Entry.{is_kept, IsEntry, entry_bytes}
use Rattle.hy_journal.specs.File.{blocks, IsNew, IsJournal, Recovers, IsBadAt, IsWithOrWithout}
use Rattle.hy_journal.specs.Fold.{asks_of, sessions_of, kept_asks}

-- the file has these entries, on the disk too, and the next one goes behind its closed gate
pub record IsSettled (entries : List Entry) (end : ℕ) (file : List ℕ)
    (may_leave : List ℕ → Type 0) : Type 0 where
  pub journal : IsJournal entries file
  pub behind : end ≡ length (blocks entries) + 1
  pub durable : OnlyFile file may_leave

-- the entry can be added: these are its bytes and the closed gate behind it
pub record CanAppend (entries : List Entry) (entry : Entry) (end : ℕ) (bytes file : List ℕ)
    (may_leave : List ℕ → Type 0) : Type 0 where
  pub settled : IsSettled entries end file may_leave
  pub known : IsEntry entry
  pub spelled : bytes ≡ entry_bytes entry ++ 0 ∷ []
  pub within : end + length bytes ≤ MAX_JOURNAL

-- the service and the count of sessions are those after these entries, where these requests were
-- served
pub record FoldsTo (entries : List Entry) (served : List MetaAsk) (service : Service)
    (given : ℕ) : Type 0 where
  pub serves : Serves service served
  pub kept : kept_asks served ≡ asks_of entries
  pub sessions : given ≡ sessions_of entries

abbrev pub IsFolded : List Entry → List MetaAsk → State → Type 0
IsFolded entries served state = FoldsTo entries served state.service state.given

abbrev pub disk_of : {D : Type 0} → Keeper D → D
disk_of keeper = keeper.disk

-- a call answered a fault of the disk
abbrev pub is_broken : {D : Type 0} → Keeper D → Bool
is_broken keeper = keeper.broken

-- the keeper stands for these entries; since the last opening it served these requests, newest
-- first, behind those of the entries that the opening found
pub record Stands {D : Type 0} (contents : D → List ℕ) (may_leave : D → List ℕ → Type 0)
    (keeper : Keeper D) (entries : List Entry) (served : List MetaAsk) : Type 0 where
  pub sound : is_broken keeper ≡ false
  pub settled : IsSettled entries keeper.state.end (contents keeper.disk) (may_leave keeper.disk)
  pub folded : IsFolded entries served keeper.state

-- why a file is not opened
abbrev pub OpenCause : List ℕ → OpenFault → Type 0
OpenCause file (faults.TooLong size) = (size ≡ length file) × (MAX_JOURNAL < size)
OpenCause file (faults.BadEntry place) = IsBadAt file place
OpenCause file faults.DiskFault = ⊤
OpenCause file faults.NoMemory = ⊤

-- the service, the sessions and the end are those of all entries of the file
pub record Replays (file : List ℕ) (service : Service) (given end : ℕ) : Type 0 where
  pub entries : List Entry
  pub journal : IsJournal entries file
  pub behind : end ≡ length (blocks entries) + 1
  pub folded : FoldsTo entries (asks_of entries) service given

abbrev pub IsReplayed : List ℕ → State → Type 0
IsReplayed file state = Replays file state.service state.given state.end

-- they are those of the first entries of the file, and a gate stands before the end
pub record ReplaysTo (file : List ℕ) (service : Service) (given end : ℕ) : Type 0 where
  pub entries : List Entry
  pub front : file ≡ blocks entries ++ drop (length (blocks entries)) file
  pub each : All IsEntry entries
  pub behind : end ≡ length (blocks entries) + 1
  pub gate : end ≤ length file
  pub folded : FoldsTo entries (asks_of entries) service given

abbrev pub IsReplayedTo : List ℕ → State → Type 0
IsReplayedTo file state = ReplaysTo file state.service state.given state.end

-- a file that was found so is now one of the entries that it had, of which the service, the
-- sessions and the end are
pub record Opens (found now : List ℕ) (may_leave : List ℕ → Type 0) (service : Service)
    (given end : ℕ) : Type 0 where
  pub entries : List Entry
  pub recovers : Recovers entries found
  pub settled : IsSettled entries end now may_leave
  pub folded : FoldsTo entries (asks_of entries) service given

abbrev pub OpensAs : List ℕ → List ℕ → (List ℕ → Type 0) → State → Type 0
OpensAs found now may_leave state = Opens found now may_leave state.service state.given state.end

-- what a crash leaves while a file that was found so is opened: what it might leave before; or a
-- new file where it was new
abbrev pub OpenLeaves : List ℕ → (List ℕ → Type 0) → List ℕ → Type 0
OpenLeaves found files file = files file ⊎ (IsNew file × IsNew found)

-- the keeper stands for the entries of a file that was found so
pub record OpenFinds {D : Type 0} (contents : D → List ℕ) (may_leave : D → List ℕ → Type 0)
    (found : List ℕ) (keeper : Keeper D) : Type 0 where
  pub entries : List Entry
  pub recovers : Recovers entries found
  pub stands : Stands contents may_leave keeper entries (asks_of entries)

-- the end of the journal after these entries and one of these bytes more, with the gate behind it
abbrev pub end_with : List Entry → List ℕ → ℕ
end_with entries bytes = length (blocks entries) + 1 + length bytes + 1

-- the journal has room for the entry, or has not: where it would end is known
abbrev pub EndsAt : List Entry → List Entry → ℕ → Type 0
EndsAt entries [] end = ⊥
EndsAt entries (entry ∷ more) end = end ≡ end_with entries (entry_bytes entry)

-- what was refused left all as it was
pub record IsSame {D : Type 0} (contents : D → List ℕ) (may_leave : D → List ℕ → Type 0)
    (old new : Keeper D) : Type 0 where
  pub disk : disk_of new ≡ disk_of old
  pub broken : is_broken new ≡ is_broken old
  pub stands : (entries : List Entry) (served : List MetaAsk)
      → Stands contents may_leave old entries served → Stands contents may_leave new entries served

-- why a call was not served that would have added these entries, and what it left
abbrev pub KeepCause : {D : Type 0} → (D → List ℕ) → (D → List ℕ → Type 0) → (D → ℕ) → Keeper D
    → Keeper D → List Entry → KeepFault → Type 0
KeepCause contents may_leave faults old new added keep_faults.Broken = (is_broken old ≡ true)
    × (new ≡ old)
KeepCause contents may_leave faults old new added keep_faults.SessionsFull = new ≡ old
KeepCause contents may_leave faults old new added (keep_faults.Full end) =
    (new ≡ old) × (MAX_JOURNAL < end)
    × ((entries : List Entry) (served : List MetaAsk)
    → Stands contents may_leave old entries served → EndsAt entries added end)
KeepCause contents may_leave faults old new added keep_faults.NoMemory =
    IsSame contents may_leave old new
KeepCause contents may_leave faults old new added keep_faults.DiskFault =
    (is_broken new ≡ true) × Rose (faults (disk_of old)) (faults (disk_of new))
    × ((entries : List Entry) (served : List MetaAsk)
    → Stands contents may_leave old entries served
    → (end : ℕ) × EndsAt entries added end × (end ≤ MAX_JOURNAL))

-- the fault tells nothing of the file
abbrev pub IsOutside : OpenFault → Type 0
IsOutside (faults.TooLong size) = ⊥
IsOutside (faults.BadEntry place) = ⊥
IsOutside faults.DiskFault = ⊤
IsOutside faults.NoMemory = ⊤

-- the keeper stands for the entries, with these more or without them
pub record FindsSome {D : Type 0} (contents : D → List ℕ) (may_leave : D → List ℕ → Type 0)
    (entries more : List Entry) (keeper : Keeper D) : Type 0 where
  pub found : List Entry
  pub is : IsWithOrWithout entries more found
  pub stands : Stands contents may_leave keeper found (asks_of found)

-- a count of calls after so many more; at its last value it stands still
abbrev pub calls_after : ℕ → ℕ → ℕ
calls_after more count = min (count + more) (2 ^ 64 - 1)

-- the count once a request was served: four calls more for one that is kept
abbrev pub calls_with : MetaAsk → ℕ → ℕ
calls_with ask count = if is_kept ask then calls_after 4 count else count

-- the calls of the disk that add this entry at most: four writes and syncs, with the entry's bytes
-- and two gates
abbrev pub AddsAtMost : {D : Type 0} → (D → D → ℕ → ℕ → ℕ → Type 0) → D → D → List Entry
    → List Entry → Type 0
AddsAtMost reach old new entries [] = reach old new 0 0 0
AddsAtMost reach old new entries (entry ∷ more) = reach old new 4
    (length (entry_bytes entry) + 2) (end_with entries (entry_bytes entry))

-- What happened to a disk since its file was new: openings, the calls of their keepers, and
-- crashes.
use Rattle.std.specs.Prelude.{◌≡◌, ℕ, ◌+◌, ◌<◌, List, [], ◌∷◌, ◌++◌, All, ⊤}
use Rattle.hy_base.specs.declared.limits.TheConstants.{MAX_SESSIONS}
use Rattle.hy_journal.specs.declared.entry.Entry.{Entry}
use Rattle.hy_journal.specs.declared.entry.Entry.TheVariants.{Join, Ask}
use Rattle.hy_journal.specs.File.{IsWithOrWithout}
use Rattle.hy_journal.specs.Fold.{sessions_of}

-- an opening answered a keeper of these entries; a call that adds an entry answered; or it answered
-- a fault of the disk, or was cut off by a crash
pub data Event : Type 0 where
  opened : List Entry → Event
  answered : Entry → Event
  cut_off : Entry → Event

-- Events are listed newest first.

-- the entries that the last opening found, and those that were answered since
unfoldable pub known : List Event → List Entry
known [] = []
known (opened entries ∷ before) = entries
known (answered entry ∷ before) = known before ++ entry ∷ []
known (cut_off entry ∷ before) = known before

-- the entry of the call that was cut off since, if one was
unfoldable pub doubtful : List Event → List Entry
doubtful [] = []
doubtful (opened entries ∷ before) = []
doubtful (answered entry ∷ before) = []
doubtful (cut_off entry ∷ before) = entry ∷ []

-- a session is given only while there are ids
abbrev pub CanAnswer : List Entry → Entry → Type 0
CanAnswer entries Join = sessions_of entries < MAX_SESSIONS
CanAnswer entries (Ask ask) = ⊤

-- each opening found what was known, with the doubtful entry or without it, and no keeper went on
-- after a call that was cut off
unfoldable pub IsHistory : List Event → Type 0
IsHistory [] = ⊤
IsHistory (opened entries ∷ before) = IsWithOrWithout (known before) (doubtful before) entries
    × IsHistory before
IsHistory (answered entry ∷ before) = CanAnswer (known before) entry × (doubtful before ≡ [])
    × IsHistory before
IsHistory (cut_off entry ∷ before) = (doubtful before ≡ []) × IsHistory before

-- the ids that were answered
unfoldable pub ids_of : List Event → List ℕ
ids_of [] = []
ids_of (opened entries ∷ before) = ids_of before
ids_of (answered Join ∷ before) = (sessions_of (known before) + 1) ∷ ids_of before
ids_of (answered (Ask ask) ∷ before) = ids_of before
ids_of (cut_off entry ∷ before) = ids_of before

-- each number is below those before it
unfoldable pub IsFalling : List ℕ → Type 0
IsFalling [] = ⊤
IsFalling (n ∷ ns) = All (λ m. m < n) ns × IsFalling ns

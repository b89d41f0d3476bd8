-- What a keeper over a disk in memory answers to requests, where one call of the disk fails.
use Rattle.std.specs.Prelude.{◌≡◌, ◌≢◌, ◌⊎◌, ℕ, ◌-◌, ◌<◌, ◌≤◌, nat_lt, List, [], ◌∷◌, ◌++◌, map, Result, Ok, Err, if◌then◌else◌}
use Rattle.hy_base.specs.declared.limits.TheConstants.{MAX_SESSIONS}
use Rattle.hy_record.specs.declared.message.MetaAsk.{MetaAsk}
use Rattle.hy_meta.specs.declared.meta.SessionsFull.{SessionsFull}
use Rattle.hy_meta.specs.Meta.{service_answers}
use Rattle.hy_meta.specs.Sessions.{next_session}
use Rattle.hy_mwire.specs.declared.message.Message.{Message}
use Rattle.hy_mwire.specs.declared.message.Message.TheVariants as messages
use Rattle.hy_mwire.specs.Frames.{frames_of}
use Rattle.hy_journal.specs.declared.entry.Entry.{Entry}
use Rattle.hy_journal.specs.declared.entry.Entry.TheVariants.{Join}
use Rattle.hy_journal.specs.File.{IsWithOrWithout}
use Rattle.hy_journal.specs.Fold.{asks_of, sessions_of, entries_of}

-- a join is answered by the id of the session, or that none is left
abbrev pub session_says : Result ℕ SessionsFull → List Message
session_says (Ok id) = messages.Joined id ∷ []
session_says (Err full) = messages.Full ∷ []

-- what is answered to a request, behind these entries and these requests that were served
abbrev pub says_of : List Entry → List MetaAsk → Message → List Message
says_of entries served messages.Join = session_says (next_session (sessions_of entries))
says_of entries served (messages.Ask ask) = map messages.Say (service_answers served ask)
says_of entries served _ = []

-- the entry that a request adds behind these entries, if it adds one
abbrev pub added : List Entry → Message → List Entry
added entries messages.Join = if nat_lt (sessions_of entries) MAX_SESSIONS then Join ∷ [] else []
added entries (messages.Ask ask) = entries_of ask
added entries _ = []

-- the requests served with this one
abbrev pub served_with : List MetaAsk → Message → List MetaAsk
served_with served (messages.Ask ask) = ask ∷ served
served_with served _ = served

-- The call of the disk that fails is counted from here; 0 is for none.

-- it is one of the four that add the entry
pub record IsStop (left : ℕ) (more : List Entry) : Type 0 where
  pub adds : more ≢ []
  pub some : 0 < left
  pub near : left ≤ 4

-- where it stands once these entries were added
abbrev pub left_after : ℕ → List Entry → ℕ
left_after left [] = left
left_after left (entry ∷ more) = left - 4

-- Each request has its answers in the output, by the entries and the requests served before it, but
-- the one in whose call the call of the disk fails: from there on the keeper stands for the entries
-- before, with that request's or without it.
unfoldable pub Kept : ℕ → List Entry → List MetaAsk → List Message → List ℕ → Type 0
Kept left entries served [] output = output ≡ []
Kept left entries served (request ∷ requests) output =
    (IsStop left (added entries request)
    × ((found : List Entry) × IsWithOrWithout entries (added entries request) found
    × Kept 0 found (asks_of found) requests output))
    ⊎ (¬ IsStop left (added entries request)
    × ((rest : List ℕ) × (output ≡ frames_of (says_of entries served request) ++ rest)
    × Kept (left_after left (added entries request)) (entries ++ added entries request)
    (served_with served request) requests rest))

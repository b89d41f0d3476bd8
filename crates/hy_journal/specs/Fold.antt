-- What a list of entries stands for: the requests that a service served, and the sessions that it
-- gave.
use Rattle.std.specs.Prelude.{ℕ, List, [], ◌∷◌, if◌then◌else◌}
use Rattle.hy_record.specs.declared.message.MetaAsk.{MetaAsk}
use Rattle.hy_meta.specs.Sessions.{sessions_after}
use Rattle.hy_journal.specs.declared.entry.Entry.{Entry}
use Rattle.hy_journal.specs.declared.entry.Entry.TheVariants.{Join, Ask}
use Rattle.hy_journal.specs.Entry.{is_kept}

-- the requests after an entry more; these are listed newest first
abbrev pub asks_with : List MetaAsk → Entry → List MetaAsk
asks_with before Join = before
asks_with before (Ask ask) = ask ∷ before

-- the sessions after an entry more
abbrev pub sessions_with : ℕ → Entry → ℕ
sessions_with given Join = sessions_after given
sessions_with given (Ask ask) = given

unfoldable pub asks_after : List MetaAsk → List Entry → List MetaAsk
asks_after before [] = before
asks_after before (entry ∷ entries) = asks_after (asks_with before entry) entries

unfoldable pub sessions_after_all : ℕ → List Entry → ℕ
sessions_after_all given [] = given
sessions_after_all given (entry ∷ entries) = sessions_after_all (sessions_with given entry) entries

-- the requests of these entries, newest first
abbrev pub asks_of : List Entry → List MetaAsk
asks_of entries = asks_after [] entries

-- how many ids of sessions were given after these entries: one for each that is a join, and 4,096
-- at most
abbrev pub sessions_of : List Entry → ℕ
sessions_of entries = sessions_after_all 0 entries

-- the requests among these that are kept
unfoldable pub kept_asks : List MetaAsk → List MetaAsk
kept_asks [] = []
kept_asks (ask ∷ before) = if is_kept ask then ask ∷ kept_asks before else kept_asks before

-- the entry of a request, if it is kept
abbrev pub entries_of : MetaAsk → List Entry
entries_of ask = if is_kept ask then Ask ask ∷ [] else []

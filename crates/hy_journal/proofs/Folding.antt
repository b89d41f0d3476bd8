-- One entry more.
use Rattle.std.proofs.Common.{◌≡◌, ℕ, List, [], ◌∷◌, ◌++◌, refl}
use Rattle.hy_record.specs.declared.message.MetaAsk.{MetaAsk}
use Rattle.hy_journal.specs.declared.entry.Entry.{Entry}
use Rattle.hy_journal.specs.Fold.{asks_with, sessions_with, asks_after, sessions_after_all}

pub asks-push : (before : List MetaAsk) (entries : List Entry) (entry : Entry)
    → asks_after before (entries ++ entry ∷ []) ≡ asks_with (asks_after before entries) entry
unfolding asks_after
asks-push before [] entry = refl
asks-push before (e ∷ entries) entry = asks-push (asks_with before e) entries entry

pub sessions-push : (given : ℕ) (entries : List Entry) (entry : Entry)
    → sessions_after_all given (entries ++ entry ∷ []) ≡ sessions_with (sessions_after_all given entries) entry
unfolding sessions_after_all
sessions-push given [] entry = refl
sessions-push given (e ∷ entries) entry = sessions-push (sessions_with given e) entries entry

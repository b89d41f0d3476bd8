-- Phases in a text: each has a word.
use Rattle.std.specs.Prelude.{ℕ, List, [], ◌∷◌, codes, Result}
use Rattle.hy_base.specs.declared.fault.Cause.{Cause}
use Rattle.hy_record.specs.declared.action.Phase.{Phase}
use Rattle.hy_record.specs.declared.action.Phase.TheVariants.{Read, Store, Update, Fetch, Watch, Reread, Olds, Drop, Forget}
use Rattle.hy_text.specs.Table.{value_named}

-- the word of a phase
abbrev pub phase_word : Phase → List ℕ
phase_word Read = codes "read"
phase_word Store = codes "store"
phase_word Update = codes "update"
phase_word Fetch = codes "fetch"
phase_word Watch = codes "watch"
phase_word Reread = codes "reread"
phase_word Olds = codes "olds"
phase_word Drop = codes "drop"
phase_word Forget = codes "forget"

-- all phases
abbrev pub phases : List Phase
phases = Read ∷ Store ∷ Update ∷ Fetch ∷ Watch ∷ Reread ∷ Olds ∷ Drop ∷ Forget ∷ []

-- the slot of a phase
abbrev pub phase_of : List ℕ → Result Phase Cause
phase_of word = value_named phase_word phases word

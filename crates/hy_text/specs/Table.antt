-- Words of a table: each value has a word of its own.
use Rattle.std.specs.Prelude.{ℕ, List, [], ◌∷◌, Result, Ok, Err, if◌then◌else◌}
use Rattle.std.specs.Str.{bytes_eq}
use Rattle.hy_base.specs.declared.fault.Cause.{Cause}
use Rattle.hy_base.specs.declared.fault.Cause.TheVariants.{BadWord}

-- the slot of a word of a table: the first of the values whose word it is
unfoldable pub value_named : {A : Type 0} → (A → List ℕ) → List A → List ℕ → Result A Cause
value_named word_of [] word = Err BadWord
value_named word_of (value ∷ values) word = if bytes_eq word (word_of value) then Ok value else value_named word_of values word

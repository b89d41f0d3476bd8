-- The answers of Byzantine clouds in a schedule: a word, and the bytes of a body.
use Rattle.std.specs.Prelude.{◌≡◌, ℕ, true, List, [], ◌∷◌, codes, Result, Ok}
use Rattle.hy_base.specs.Results.{◌>>=◌}
use Rattle.hy_base.specs.declared.fault.Cause.{Cause}
use Rattle.hy_base.specs.declared.limits.TheConstants.{MAX_TEXT_VALUE}
use Rattle.hy_record.specs.declared.cloud.CloudSay.{CloudSay}
use Rattle.hy_record.specs.declared.cloud.CloudSay.TheVariants as says
use Rattle.hy_text.specs.Action.{IsTextValue}
use Rattle.hy_text.specs.Line.{first_word, later_words}
use Rattle.hy_text.specs.Slot.{value_of, value_word}
use Rattle.hy_text.specs.Table.{value_named}
use Rattle.hy_sched.specs.declared.say.SayKind.{SayKind}
use Rattle.hy_sched.specs.declared.say.SayKind.TheVariants.{Stored, Conflict, Body, Missing, Gone, Bad}
use Rattle.hy_sched.specs.declared.say.TheConstants.{BAD_STATUS}

-- the word of a kind of answers
abbrev pub say_word : SayKind → List ℕ
say_word Stored = codes "stored"
say_word Conflict = codes "conflict"
say_word Body = codes "body"
say_word Missing = codes "missing"
say_word Gone = codes "gone"
say_word Bad = codes "bad"

-- all kinds of answers
abbrev pub say_kinds : List SayKind
say_kinds = Stored ∷ Conflict ∷ Body ∷ Missing ∷ Gone ∷ Bad ∷ []

-- the words of an answer
abbrev pub say_words : CloudSay → List (List ℕ)
say_words (says.Stored fresh) = say_word Stored ∷ []
say_words says.Conflict = say_word Conflict ∷ []
say_words (says.Body value) = say_word Body ∷ value_word value ∷ []
say_words says.Missing = say_word Missing ∷ []
say_words says.Gone = say_word Gone ∷ []
say_words (says.Bad status) = say_word Bad ∷ []

-- a schedule can tell the answer: what is stored is fresh, a body is short, and a bad answer has the one status
abbrev pub IsTextSay : CloudSay → Type 0
IsTextSay (says.Stored fresh) = fresh ≡ true
IsTextSay says.Conflict = Unit {0}
IsTextSay (says.Body value) = IsTextValue value
IsTextSay says.Missing = Unit {0}
IsTextSay says.Gone = Unit {0}
IsTextSay (says.Bad status) = status ≡ BAD_STATUS

-- an answer of a kind, with the words after that of the kind
unfoldable pub say_by : SayKind → List (List ℕ) → Result (CloudSay × List (List ℕ)) Cause
say_by Stored words = Ok (says.Stored true, words)
say_by Conflict words = Ok (says.Conflict, words)
say_by Body words = value_of MAX_TEXT_VALUE (first_word words) >>= λ value. Ok (says.Body value, later_words words)
say_by Missing words = Ok (says.Missing, words)
say_by Gone words = Ok (says.Gone, words)
say_by Bad words = Ok (says.Bad BAD_STATUS, words)

-- an answer
unfoldable pub say_from : List (List ℕ) → Result (CloudSay × List (List ℕ)) Cause
say_from words = value_named say_word say_kinds (first_word words) >>= λ kind. say_by kind (later_words words)

-- Actions in a text: a verb, the key, and what a put or a swap has besides.
use Rattle.std.specs.Prelude.{ℕ, ◌≤◌, Bool, true, false, not, IsTrue, List, [], ◌∷◌, ◌++◌, length, codes, Result, Ok, Err, if◌then◌else◌}
use Rattle.hex.specs.Hex.{IsBytes}
use Rattle.hy_base.specs.Results.{◌>>=◌}
use Rattle.hy_base.specs.declared.fault.Cause.{Cause}
use Rattle.hy_base.specs.declared.fault.Cause.TheVariants.{BadKey}
use Rattle.hy_base.specs.declared.limits.TheConstants.{MAX_TEXT_VALUE}
use Rattle.hy_record.specs.Key.{is_key, is_cell}
use Rattle.hy_record.specs.declared.action.Action.{Action}
use Rattle.hy_record.specs.declared.action.Action.TheVariants as asked
use Rattle.hy_text.specs.Line.{first_word, later_words}
use Rattle.hy_text.specs.Slot.{key_word, value_of, value_word}
use Rattle.hy_text.specs.Stamp.{stamp_from, stamp_words, IsStampWithin}
use Rattle.hy_text.specs.Table.{value_named}
use Rattle.hy_text.specs.declared.action.Verb.{Verb}
use Rattle.hy_text.specs.declared.action.Verb.TheVariants.{Put, Get, Delete, Collect, Swap}
use Rattle.hy_text.specs.declared.action.Verbs.{Verbs}
use Rattle.hy_text.specs.declared.action.Verbs.TheVariants.{All, WithoutSwaps, OfValues}

-- the word of a verb
abbrev pub verb_word : Verb → List ℕ
verb_word Put = codes "put"
verb_word Get = codes "get"
verb_word Delete = codes "delete"
verb_word Collect = codes "collect"
verb_word Swap = codes "swap"

-- the verbs that a text has
abbrev pub verbs_in : Verbs → List Verb
verbs_in All = Put ∷ Get ∷ Delete ∷ Collect ∷ Swap ∷ []
verbs_in WithoutSwaps = Put ∷ Get ∷ Delete ∷ Collect ∷ []
verbs_in OfValues = Put ∷ Get ∷ Delete ∷ []

-- the slot of a verb of such a text
abbrev pub verb_of : Verbs → List ℕ → Result Verb Cause
verb_of verbs word = value_named verb_word (verbs_in verbs) word

-- a key of the kind that the verb takes: swaps alone write a compare-and-swap key, and write no other
abbrev pub is_key_of : Verb → List ℕ → Bool
is_key_of Put key = not (is_cell key)
is_key_of Delete key = not (is_cell key)
is_key_of Swap key = is_cell key
is_key_of Get key = true
is_key_of Collect key = true

-- the slot of a key of the kind that the verb takes
unfoldable pub key_for : Verb → List ℕ → Result (List ℕ) Cause
key_for verb word = key_word word >>= λ key. if is_key_of verb key then Ok key else Err BadKey

-- the words of an action
abbrev pub action_words : Action → List (List ℕ)
action_words (asked.Put key value) = verb_word Put ∷ key ∷ value_word value ∷ []
action_words (asked.Get key) = verb_word Get ∷ key ∷ []
action_words (asked.Delete key) = verb_word Delete ∷ key ∷ []
action_words (asked.Collect key) = verb_word Collect ∷ key ∷ []
action_words (asked.Swap key expected value) = verb_word Swap ∷ key ∷ (stamp_words expected ++ (value_word value ∷ []))

-- the verb of an action
abbrev pub action_verb : Action → Verb
action_verb (asked.Put key value) = Put
action_verb (asked.Get key) = Get
action_verb (asked.Delete key) = Delete
action_verb (asked.Collect key) = Collect
action_verb (asked.Swap key expected value) = Swap

-- a text has the verb
abbrev pub has_verb : Verbs → Verb → Bool
has_verb All verb = true
has_verb WithoutSwaps Put = true
has_verb WithoutSwaps Get = true
has_verb WithoutSwaps Delete = true
has_verb WithoutSwaps Collect = true
has_verb WithoutSwaps Swap = false
has_verb OfValues Put = true
has_verb OfValues Get = true
has_verb OfValues Delete = true
has_verb OfValues Collect = false
has_verb OfValues Swap = false

-- the value has no more bytes than a text may give it
pub record IsTextValue (value : List ℕ) : Type 0 where
  pub short : length value ≤ MAX_TEXT_VALUE
  pub bytes : IsBytes value

-- the text spells a key, of the kind that the verb takes
pub record IsTextKey (verb : Verb) (text : List ℕ) : Type 0 where
  pub key : IsTrue (is_key text)
  pub kind : IsTrue (is_key_of verb text)

-- what the action carries is in range, where the client of the timestamp that a swap expects is at most the last one
abbrev pub IsTextAction : ℕ → Action → Type 0
IsTextAction last (asked.Put key value) = IsTextKey Put key × IsTextValue value
IsTextAction last (asked.Get key) = IsTextKey Get key
IsTextAction last (asked.Delete key) = IsTextKey Delete key
IsTextAction last (asked.Collect key) = IsTextKey Collect key
IsTextAction last (asked.Swap key expected value) = IsTextKey Swap key × IsStampWithin 0 last expected × IsTextValue value

-- the expected timestamp and the value of a swap on a key
unfoldable pub swap_by : ℕ → List ℕ → List (List ℕ) → Result (Action × List (List ℕ)) Cause
swap_by last key words =
    stamp_from 0 last words >>= λ expected.
    value_of MAX_TEXT_VALUE (first_word expected.1) >>= λ value.
    Ok (asked.Swap key expected.0 value, later_words expected.1)

-- the action of a verb on a key, with the words after the key
unfoldable pub action_by : ℕ → Verb → List ℕ → List (List ℕ) → Result (Action × List (List ℕ)) Cause
action_by last Put key words = value_of MAX_TEXT_VALUE (first_word words) >>= λ value. Ok (asked.Put key value, later_words words)
action_by last Get key words = Ok (asked.Get key, words)
action_by last Delete key words = Ok (asked.Delete key, words)
action_by last Collect key words = Ok (asked.Collect key, words)
action_by last Swap key words = swap_by last key words

-- an action, of one of these verbs
unfoldable pub action_from : Verbs → ℕ → List (List ℕ) → Result (Action × List (List ℕ)) Cause
action_from verbs last words =
    verb_of verbs (first_word words) >>= λ verb.
    key_for verb (first_word (later_words words)) >>= λ key.
    action_by last verb key (later_words (later_words words))

-- Readers of several words: they answer a value and the words that are left, or why the first word that does not fit does not.
use Rattle.std.specs.Prelude.{ℕ, ◌+◌, ◌-◌, min, Bool, true, if◌then◌else◌, List, [], ◌∷◌, codes, Option, Some, None, Result, Ok, Err}
use Rattle.std.specs.Cmp.Lexicographic.{slice_cmp}
use Rattle.std.specs.Ordering.{nat_cmp, is_lt}
use Rattle.std.specs.Str.{bytes_eq}
use Rattle.hy_base.specs.declared.fault.Cause.{Cause}
use Rattle.hy_base.specs.declared.fault.Cause.TheVariants.{BadWord, BadKey}
use Rattle.hy_base.specs.declared.limits.TheConstants.{MAX_COUNT, MAX_N, MAX_TEXT_VALUE}
use Rattle.hy_record.specs.Stamp.{Timestamp}
use Rattle.hy_record.specs.declared.action.Action.{Action}
use Rattle.hy_record.specs.declared.action.Action.TheVariants as asked
use Rattle.hy_record.specs.declared.action.Reply.{Reply}
use Rattle.hy_record.specs.declared.action.Reply.TheVariants as told
use Rattle.hy_record.specs.declared.action.Phase.{Phase}
use Rattle.hy_text.specs.Clouds.{cloud_set_of}
use Rattle.hy_text.specs.Line.{first_word, later_words}
use Rattle.hy_base.specs.Results.{◌>>=◌}
use Rattle.hy_text.specs.Phase.{phase_of}
use Rattle.hy_text.specs.Slot.{number_of, value_of, key_word}
use Rattle.hy_text.specs.Stamp.{stamp_from}
use Rattle.hy_order.specs.History.{is_phase_of}
use Rattle.hy_order.specs.declared.operation.End.{End}
use Rattle.hy_order.specs.declared.operation.End.TheVariants.{Replied, Pending}
use Rattle.hy_order.specs.declared.report.TheConstants.{LAST_STEP}

-- ---- slots

-- the slot of the number after the last one; the last number of all has none after it
abbrev pub number_after : ℕ → List ℕ → Result ℕ Cause
number_after last word = number_of (last + 1) (min (last + 1) MAX_COUNT) word

-- the slot of the key that is due
abbrev pub due_key : List ℕ → List ℕ → Result (Unit {0}) Cause
due_key key word = if bytes_eq word key then Ok tt else Err BadKey

-- the key is above the last one, where there is one
abbrev pub is_above : Option (List ℕ) → List ℕ → Bool
is_above None key = true
is_above (Some last) key = is_lt (slice_cmp nat_cmp last key)

-- the slot of a key above the last one
abbrev pub key_above : Option (List ℕ) → List ℕ → Result (List ℕ) Cause
key_above last word = key_word word >>= λ key. if is_above last key then Ok key else Err BadKey

-- the slot of a set of clouds that a store can have
abbrev pub store_clouds_of : List ℕ → Result ℕ Cause
store_clouds_of word = cloud_set_of (MAX_N - 1) word

-- the slot of a phase that the action can be in
unfoldable pub phase_word_of : Action → List ℕ → Result Phase Cause
phase_word_of action word = phase_of word >>= λ at. if is_phase_of action at then Ok at else Err BadWord

-- ---- groups of words

-- a timestamp, of any numbers that one can have
abbrev pub any_stamp_from : List (List ℕ) → Result (Timestamp × List (List ℕ)) Cause
any_stamp_from words = stamp_from 0 MAX_COUNT words

-- the reply of a put or a delete
unfoldable pub write_reply_from : List (List ℕ) → Result (Reply × List (List ℕ)) Cause
write_reply_from words =
    if bytes_eq (first_word words) (codes "done") then (any_stamp_from (later_words words) >>= λ stamp. Ok (told.Done stamp.0, stamp.1))
    else if bytes_eq (first_word words) (codes "exhausted") then (any_stamp_from (later_words words) >>= λ stamp. Ok (told.Exhausted stamp.0, stamp.1))
    else Err BadWord

-- the value that a get was told, after its keyword
unfoldable pub value_from : List (List ℕ) → Result (Reply × List (List ℕ)) Cause
value_from words =
    value_of MAX_TEXT_VALUE (first_word words) >>= λ value.
    any_stamp_from (later_words words) >>= λ stamp.
    Ok (told.Value value stamp.0, stamp.1)

-- the reply of a get
unfoldable pub get_reply_from : List (List ℕ) → Result (Reply × List (List ℕ)) Cause
get_reply_from words =
    if bytes_eq (first_word words) (codes "value") then value_from (later_words words)
    else if bytes_eq (first_word words) (codes "none") then (any_stamp_from (later_words words) >>= λ stamp. Ok (told.Absent stamp.0, stamp.1))
    else Err BadWord

-- the reply of a collection
unfoldable pub collect_reply_from : List (List ℕ) → Result (Reply × List (List ℕ)) Cause
collect_reply_from words =
    if bytes_eq (first_word words) (codes "collected") then
    (number_of 0 MAX_COUNT (first_word (later_words words)) >>= λ count. Ok (told.Collected count, later_words (later_words words)))
    else Err BadWord

-- the reply of a swap
unfoldable pub swap_reply_from : List (List ℕ) → Result (Reply × List (List ℕ)) Cause
swap_reply_from words =
    if bytes_eq (first_word words) (codes "swapped") then (any_stamp_from (later_words words) >>= λ stamp. Ok (told.Swapped stamp.0, stamp.1))
    else if bytes_eq (first_word words) (codes "changed") then (any_stamp_from (later_words words) >>= λ stamp. Ok (told.Changed stamp.0, stamp.1))
    else if bytes_eq (first_word words) (codes "exhausted") then (any_stamp_from (later_words words) >>= λ stamp. Ok (told.Exhausted stamp.0, stamp.1))
    else Err BadWord

-- a reply that the action can have
abbrev pub reply_from : Action → List (List ℕ) → Result (Reply × List (List ℕ)) Cause
reply_from (asked.Put key value) words = write_reply_from words
reply_from (asked.Get key) words = get_reply_from words
reply_from (asked.Delete key) words = write_reply_from words
reply_from (asked.Collect key) words = collect_reply_from words
reply_from (asked.Swap key expected value) words = swap_reply_from words

-- the end of an operation that has no reply yet, after its dash
unfoldable pub pending_from : Action → List (List ℕ) → Result (End × List (List ℕ)) Cause
pending_from action words =
    phase_word_of action (first_word words) >>= λ at.
    number_of 0 MAX_COUNT (first_word (later_words words)) >>= λ have.
    number_of 0 MAX_COUNT (first_word (later_words (later_words words))) >>= λ need.
    Ok (Pending at have need, later_words (later_words (later_words words)))

-- the end of an operation that was invoked at this step and has a reply: the word that tells when, and the words after it
unfoldable pub replied_from : Action → ℕ → List ℕ → List (List ℕ) → Result (End × List (List ℕ)) Cause
replied_from action invoked word words =
    number_of (invoked + 1) LAST_STEP word >>= λ at.
    reply_from action words >>= λ reply.
    Ok (Replied at reply.0, reply.1)

-- the end of an operation that was invoked at this step
unfoldable pub end_from : Action → ℕ → List (List ℕ) → Result (End × List (List ℕ)) Cause
end_from action invoked words =
    if bytes_eq (first_word words) (codes "-") then pending_from action (later_words words)
    else replied_from action invoked (first_word words) (later_words words)

-- the numbers that an order lists: all words that are left
unfoldable pub numbers_of : List (List ℕ) → Result (List ℕ) Cause
numbers_of [] = Ok []
numbers_of (word ∷ words) = number_of 1 MAX_COUNT word >>= λ number. numbers_of words >>= λ numbers. Ok (number ∷ numbers)

-- How a reply of a store is told.
use Rattle.std.specs.Prelude.{◌≡◌, ℕ, List, [], ◌∷◌, ◌++◌, length, Result, Ok, Err, codes}
use Rattle.std.specs.Fmt.{decimal}
use Rattle.hy_record.specs.Stamp.{Timestamp}
use Rattle.hy_record.specs.declared.action.Reply.{Reply}
use Rattle.hy_record.specs.declared.action.Reply.TheVariants as replies
use Rattle.hy_text.specs.Line.{line_text}
use Rattle.hy_text.specs.Stamp.{stamp_words}
use Rattle.hy_top.specs.declared.status.Status.{Status}
use Rattle.hy_top.specs.declared.status.Status.TheVariants.{NoMemory, Exhausted}

-- a put or a delete was done, with this timestamp
abbrev pub done_line : Timestamp → List ℕ
done_line stamp = line_text (codes "done" ∷ stamp_words stamp)

-- a swap was done, with this timestamp
abbrev pub swapped_line : Timestamp → List ℕ
swapped_line stamp = line_text (codes "swapped" ∷ stamp_words stamp)

-- a swap found a record with this timestamp, and not the one that it expected
abbrev pub changed_line : Timestamp → List ℕ
changed_line stamp = line_text (codes "changed" ∷ stamp_words stamp)

-- the key is absent, with this timestamp
abbrev pub none_line : Timestamp → List ℕ
none_line stamp = line_text (codes "none" ∷ stamp_words stamp)

-- how many superseded versions were deleted
abbrev pub collected_line : ℕ → List ℕ
collected_line count = line_text (codes "collected" ∷ decimal count ∷ [])

-- how many bytes the value of the key has, and its timestamp
abbrev pub value_line : ℕ → Timestamp → List ℕ
value_line size stamp = line_text (codes "value" ∷ decimal size ∷ stamp_words stamp)

-- the value of the key, behind its line
abbrev pub value_text : List ℕ → Timestamp → List ℕ
value_text value stamp = value_line (length value) stamp ++ value

-- the output that tells a reply; where there is no timestamp left, it is a refusal
abbrev pub reply_told : Reply → Result (List ℕ) Status
reply_told (replies.Done stamp) = Ok (done_line stamp)
reply_told (replies.Exhausted stamp) = Err (Exhausted stamp)
reply_told (replies.Value value stamp) = Ok (value_text value stamp)
reply_told (replies.Absent stamp) = Ok (none_line stamp)
reply_told (replies.Collected count) = Ok (collected_line count)
reply_told (replies.Swapped stamp) = Ok (swapped_line stamp)
reply_told (replies.Changed stamp) = Ok (changed_line stamp)

-- a reply was told so, unless memory ran out
abbrev pub TellsReply : Reply → Result (List ℕ) Status → Type 0
TellsReply reply (Err NoMemory) = Unit {0}
TellsReply reply answer = answer ≡ reply_told reply

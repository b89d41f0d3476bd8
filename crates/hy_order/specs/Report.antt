-- The text of a report: rows of words, line by line.
use Rattle.std.specs.Prelude.{ℕ, List, [], ◌∷◌, ◌++◌, length, map, codes}
use Rattle.std.specs.Fmt.{decimal}
use Rattle.hy_record.specs.declared.action.Reply.{Reply}
use Rattle.hy_record.specs.declared.action.Reply.TheVariants as told
use Rattle.hy_text.specs.Action.{action_words}
use Rattle.hy_text.specs.Clouds.{cloud_word}
use Rattle.hy_text.specs.Line.{text_of}
use Rattle.hy_text.specs.Phase.{phase_word}
use Rattle.hy_text.specs.Slot.{value_word}
use Rattle.hy_text.specs.Stamp.{stamp_words}
use Rattle.hy_order.specs.declared.held.Held.{Held}
use Rattle.hy_order.specs.declared.operation.End.{End}
use Rattle.hy_order.specs.declared.operation.End.TheVariants.{Replied, Pending}
use Rattle.hy_order.specs.declared.operation.Operation.{Operation}
use Rattle.hy_order.specs.declared.order.Order.{Order}
use Rattle.hy_order.specs.declared.report.Report.{Report}
use Rattle.hy_record.specs.Clouds.{clouds_of}

-- the words of a reply
abbrev pub reply_words : Reply → List (List ℕ)
reply_words (told.Done stamp) = codes "done" ∷ stamp_words stamp
reply_words (told.Exhausted stamp) = codes "exhausted" ∷ stamp_words stamp
reply_words (told.Value value stamp) = codes "value" ∷ value_word value ∷ stamp_words stamp
reply_words (told.Absent stamp) = codes "none" ∷ stamp_words stamp
reply_words (told.Collected count) = codes "collected" ∷ decimal count ∷ []
reply_words (told.Swapped stamp) = codes "swapped" ∷ stamp_words stamp
reply_words (told.Changed stamp) = codes "changed" ∷ stamp_words stamp

-- the words of an end: where it replied and what, or a dash, the phase, and what it has and needs
abbrev pub end_words : End → List (List ℕ)
end_words (Replied at reply) = decimal at ∷ reply_words reply
end_words (Pending at have need) = codes "-" ∷ phase_word at ∷ decimal have ∷ decimal need ∷ []

-- the line of an operation
abbrev pub operation_row : Operation → List (List ℕ)
operation_row op =
    codes "op" ∷ decimal op.number ∷ decimal op.client ∷ (action_words op.action ++ (decimal op.invoked ∷ end_words op.end))

-- the line of an order
abbrev pub order_row : Order → List (List ℕ)
order_row order = codes "order" ∷ order.key ∷ map decimal order.ops

-- the line of the retrievable copies of a key
abbrev pub held_row : Held → List (List ℕ)
held_row held = codes "held" ∷ held.key ∷ (stamp_words held.stamp ++ cloud_word (clouds_of held.clouds) ∷ [])

-- the last line: how many operations and how many orders stand above
abbrev pub end_row : Report → List (List ℕ)
end_row report = codes "end" ∷ decimal (length report.history) ∷ decimal (length report.orders) ∷ []

-- the lines of a report
abbrev pub report_rows : Report → List (List (List ℕ))
report_rows report =
    map operation_row report.history ++ (map order_row report.orders ++ (map held_row report.held ++ end_row report ∷ []))

-- the text of a report
abbrev pub report_text : Report → List ℕ
report_text report = text_of (report_rows report)

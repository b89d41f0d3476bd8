-- Reading the text of a report: the report, or the first fault.
use Rattle.std.specs.Prelude.{ℕ, ◌+◌, Bool, true, false, List, [], ◌∷◌, length, map, codes, Option, Some, None, Result, Ok, Err}
use Rattle.std.specs.Str.{bytes_eq}
use Rattle.hy_base.specs.declared.fault.Cause.{Cause}
use Rattle.hy_base.specs.declared.fault.Cause.TheVariants.{BadWord, NoEnd}
use Rattle.hy_base.specs.declared.fault.TextFault.{TextFault}
use Rattle.hy_base.specs.Results.{◌>>=◌}
use Rattle.hy_base.specs.declared.limits.TheConstants.{MAX_COUNT}
use Rattle.hy_text.specs.Action.{action_from}
use Rattle.hy_text.specs.declared.action.Verbs.TheVariants.{All}
use Rattle.hy_text.specs.Kind.{Kind, items_from, item_from, nothing_in}
use Rattle.hy_text.specs.OpenLine.{OpenLine, Rest, opened}
use Rattle.hy_text.specs.Line.{lines_of, first_word, later_words}
use Rattle.hy_text.specs.Slot.{keyword, number_of, end_of}
use Rattle.hy_order.specs.declared.held.Held.{Held}
use Rattle.hy_order.specs.declared.operation.Operation.{Operation}
use Rattle.hy_order.specs.declared.order.Order.{Order}
use Rattle.hy_order.specs.declared.report.Report.{Report}
use Rattle.hy_order.specs.declared.report.TheConstants.{LAST_STEP}
use Rattle.hy_order.specs.Keys.{register_keys, sorted_keys}
use Rattle.hy_order.specs.WordReaders.{number_after, due_key, key_above, store_clouds_of, any_stamp_from, end_from, numbers_of}

-- ---- the words of a line

-- the words of an operation, after the keyword; the last number and the last step stand before
unfoldable pub operation_of_words : ℕ → ℕ → List (List ℕ) → Result Operation Cause
operation_of_words last step words =
    number_after last (first_word words) >>= λ number.
    number_of 1 MAX_COUNT (first_word (later_words words)) >>= λ client.
    action_from All MAX_COUNT (later_words (later_words words)) >>= λ action.
    number_of (step + 1) LAST_STEP (first_word action.1) >>= λ invoked.
    end_from action.0 invoked (later_words action.1) >>= λ end.
    end_of end.1 >>= λ _.
    Ok (record { number = number; client = client; action = action.0; invoked = invoked; end = end.0 })

-- the words of an order of the key that is due, after the keyword
unfoldable pub order_of_words : List ℕ → List (List ℕ) → Result Order Cause
order_of_words key words =
    due_key key (first_word words) >>= λ _.
    numbers_of (later_words words) >>= λ numbers.
    Ok (record { key = key; ops = numbers })

-- the words of the retrievable copies of a key, after the keyword; the last key stands before
unfoldable pub held_of_words : Option (List ℕ) → List (List ℕ) → Result Held Cause
held_of_words last words =
    key_above last (first_word words) >>= λ key.
    any_stamp_from (later_words words) >>= λ stamp.
    store_clouds_of (first_word stamp.1) >>= λ clouds.
    end_of (later_words stamp.1) >>= λ _.
    Ok (record { key = key; stamp = stamp.0; clouds = clouds })

-- the words of the last line, after the keyword: how many operations and how many orders stand above
unfoldable pub counts_of_words : ℕ → ℕ → List (List ℕ) → Result (Unit {0}) Cause
counts_of_words ops orders words =
    number_of ops ops (first_word words) >>= λ _.
    number_of orders orders (first_word (later_words words)) >>= λ _.
    end_of (later_words (later_words words))

-- ---- the kinds of lines

-- what stands before an operation: the number and the step of the one before it
pub record Before : Type 0 where
  pub number : ℕ
  pub step : ℕ

-- the lines of operations
abbrev pub operation_lines : Kind Before Operation
operation_lines = record {
  is_due = λ before word. bytes_eq word (codes "op");
  read = λ before word words. operation_of_words before.number before.step words;
  next = λ before op. record { number = op.number; step = op.invoked };
}

-- whether a key is due
abbrev pub is_key_due : List (List ℕ) → Bool
is_key_due [] = false
is_key_due (key ∷ keys) = true

-- the line of an order of the first key that is due
abbrev pub order_due : List (List ℕ) → List ℕ → List (List ℕ) → Result Order Cause
order_due [] word words = Err BadWord
order_due (key ∷ keys) word words = keyword (codes "order") word >>= λ _. order_of_words key words

-- the lines of orders, one for each key that is due
abbrev pub order_lines : Kind (List (List ℕ)) Order
order_lines = record {
  is_due = λ keys word. is_key_due keys;
  read = λ keys word words. order_due keys word words;
  next = λ keys order. later_words keys;
}

-- the lines of retrievable copies
abbrev pub held_lines : Kind (Option (List ℕ)) Held
held_lines = record {
  is_due = λ last word. bytes_eq word (codes "held");
  read = λ last word words. held_of_words last words;
  next = λ last held. Some held.key;
}

-- how many operations and how many orders stand above the last line
pub record Counts : Type 0 where
  pub operations : ℕ
  pub orders : ℕ

-- the last line
abbrev pub end_line : Kind Counts (Unit {0})
end_line = record {
  is_due = λ counts word. true;
  read = λ counts word words. keyword (codes "end") word >>= λ _. counts_of_words counts.operations counts.orders words;
  next = λ counts u. counts;
}

-- ---- the whole text

-- the last line, and no line after it
abbrev pub last_of : Counts → ℕ → List OpenLine → Result (Unit {0}) TextFault
last_of counts number lines = item_from NoEnd end_line counts number lines >>= λ last. nothing_in last.1.number last.1.lines

-- the lines of a report
unfoldable pub report_at : Rest → Result Report TextFault
report_at rest =
    items_from operation_lines (record { number = 0; step = 0 }) rest.number rest.lines >>= λ history.
    items_from order_lines (sorted_keys (register_keys history.0)) history.1.number history.1.lines >>= λ orders.
    items_from held_lines None orders.1.number orders.1.lines >>= λ held.
    last_of (record { operations = length history.0; orders = length orders.0 }) held.1.number held.1.lines >>= λ _.
    Ok (record { history = history.0; orders = orders.0; held = held.0 })

-- the report that the text is, or the first fault of the text
unfoldable pub report_of : List ℕ → Result Report TextFault
report_of text = report_at (record { number = 1; lines = map opened (lines_of text) })

-- The two laws of the text of a report: what is read is spelled so, and what is spelled so is read.
use Rattle.std.proofs.Common.{◌≡◌, ℕ, suc, ◌+◌, ◌-◌, ◌^◌, ◌<◌, ◌≤◌, true, false, IsTrue, List, [], ◌∷◌, ◌++◌, length, map, Option, Some, None, Result, Ok, Err, refl, sym, ap, subst, ◌∙◌, arith, length-append, append-nil}
use Rattle.std.specs.Prelude.{codes, IfOk}
use Rattle.std.specs.List.{AllByRecursion, list_all}
use Rattle.std.specs.Fmt.{decimal}
use Rattle.std.specs.Cmp.Lexicographic.{slice_cmp}
use Rattle.std.specs.declared.cmp.Ordering.{Ordering}
use Rattle.std.specs.declared.cmp.Ordering.TheVariants.{Less, Equal, Greater}
use Rattle.std.specs.Ordering.{nat_cmp, match_ordering}
use Rattle.std.proofs.lemmas.Bool.{and_from}
use Rattle.std.proofs.lemmas.List.{length-map}
use Rattle.hy_base.specs.declared.fault.Cause.TheVariants.{NoEnd}
use Rattle.hy_base.specs.declared.fault.TextError.{TextError}
use Rattle.hy_base.specs.declared.fault.TextError.TheVariants as errors
use Rattle.hy_base.specs.declared.fault.TextFault.{TextFault}
use Rattle.hy_record.specs.Clouds.{clouds_of}
use Rattle.hy_record.specs.Key.{is_key}
use Rattle.hy_record.specs.Stamp.{Timestamp}
use Rattle.hy_record.specs.declared.action.Action.{Action}
use Rattle.hy_record.specs.declared.action.Action.TheVariants as asked
use Rattle.hy_record.specs.declared.action.Reply.{Reply}
use Rattle.hy_record.specs.declared.action.Reply.TheVariants as told
use Rattle.hy_text.specs.Gives.{GivesText, at_line, next_number}
use Rattle.hy_text.specs.Line.{Line, lines_of, first_word, later_words, is_word, is_row}
use Rattle.hy_base.specs.Results.{◌>>=◌}
use Rattle.hy_text.specs.Slot.{keyword, number_of, end_of}
use Rattle.hy_text.proofs.Numbers.{number_again}
use Rattle.hy_text.proofs.Printed.{is_word-decimal, is_word-key, is_word-value_word}
use Rattle.hy_text.proofs.Rows.{lines_of-text_of}
use Rattle.hy_base.proofs.Results.{bind_ok, ok_is}
use Rattle.hy_text.proofs.Slots.{keyword_takes, end_takes, at_line_ok}
use Rattle.hy_base.specs.declared.limits.TheConstants.{MAX_COUNT, MAX_N}
use Rattle.hy_text.specs.Action.{IsTextAction}
use Rattle.hy_text.specs.Clouds.{cloud_word}
use Rattle.hy_text.specs.Stamp.{stamp_words}
use Rattle.hy_order.specs.declared.held.Held.{Held}
use Rattle.hy_order.specs.declared.operation.End.{End}
use Rattle.hy_order.specs.declared.operation.End.TheVariants.{Replied, Pending}
use Rattle.hy_order.specs.declared.operation.Operation.{Operation}
use Rattle.hy_order.specs.declared.order.Order.{Order}
use Rattle.hy_order.specs.declared.report.Report.{Report}
use Rattle.hy_order.specs.History.{IsNumberedFrom}
use Rattle.hy_order.specs.Keys.{insert_key, sorted_keys, register_key, register_keys}
use Rattle.hy_text.specs.Kind.{is_next_due, item_in, items_from, item_from, nothing_in}
use Rattle.hy_text.specs.OpenLine.{OpenLine, Rest, opened}
use Rattle.hy_order.specs.Report.{operation_row, order_row, held_row, end_row, report_rows, report_text, reply_words, end_words}
use Rattle.hy_order.specs.ReportRanges.{IsReport, IsTextStamp, IsTextReply, IsTextEnd, IsTextOperation, AreTextOperations, IsTextNumber, IsTextHeld}
use Rattle.hy_order.specs.ReportReading.{Before, Counts, counts_of_words, operation_lines, order_lines, held_lines, end_line, last_of, report_at, report_of}
use Rattle.hy_order.proofs.HeldRows.{FitsAbove, helds_take, rising, ranges_taken, helds_fit, held_again}
use Rattle.hy_text.proofs.ItemRows.{rows_in, all_ended, line_of_row, lines_written, lines_written-rows, text_of-rows, item_ok, state_after, items_again, none_left}
use Rattle.hy_order.proofs.OperationRows.{FitsAfter, own_keys, operations_take, operations_from_fits, operations_fit, operation_again}
use Rattle.hy_order.proofs.OrderRows.{FitsKeys, AreKeys, no_key_due, orders_take, keys_taken, numbers_taken, orders_fit, order_again}
use Rattle.hy_text.proofs.CloudWords.{is_word-clouds}
use Rattle.hy_text.proofs.Groups.{number_first, phase_again, stamp_is_row, action_is_row}

-- ---- the last line

counts_take : (ops orders : ℕ) (words : List (List ℕ)) (u : Unit {0}) → ops < 2 ^ 64 → orders < 2 ^ 64 → counts_of_words ops orders words ≡ Ok u → words ≡ decimal ops ∷ decimal orders ∷ []
unfolding counts_of_words
counts_take ops orders words u few_ops few_orders e =
    let one = bind_ok (number_of ops ops (first_word words)) (λ _. number_of orders orders (first_word (later_words words)) >>= λ _. end_of (later_words (later_words words))) u e in
    let two = bind_ok (number_of orders orders (first_word (later_words words))) (λ _. end_of (later_words (later_words words))) u one.2 in
    let a = number_first ops ops words one.0 few_ops one.1 in
    let b = number_first orders orders (later_words words) two.0 few_orders two.1 in
    let same_ops : one.0 ≡ ops = omega (arith, a.low_end, a.high_end) in
    let same_orders : two.0 ≡ orders = omega (arith, b.low_end, b.high_end) in
    a.row ∙ ap (λ (n : ℕ). decimal n ∷ later_words words) same_ops
    ∙ ap (λ (ws : List (List ℕ)). decimal ops ∷ ws) (b.row ∙ ap (λ (n : ℕ). decimal n ∷ later_words (later_words words)) same_orders ∙ ap (λ (ws : List (List ℕ)). decimal orders ∷ ws) (end_takes _ u two.2))

-- the lines are the last line alone, with its end
record IsLast (ops orders : ℕ) (lines : List OpenLine) : Type 0 where
  rows : rows_in lines ≡ (codes "end" ∷ decimal ops ∷ decimal orders ∷ []) ∷ []
  ended : all_ended lines ≡ true

last_take : (counts : Counts) (number : ℕ) (lines : List OpenLine) (u : Unit {0}) → counts.operations < 2 ^ 64 → counts.orders < 2 ^ 64 → last_of counts number lines ≡ Ok u → IsLast counts.operations counts.orders lines
last_take counts number [] u few_ops few_orders e = absurd cc
last_take counts number (line ∷ lines) u few_ops few_orders e =
    let last = bind_ok (item_from NoEnd end_line counts number (line ∷ lines)) (λ last. nothing_in last.1.number last.1.lines) u e in
    let here = bind_ok (at_line number (item_in end_line counts line)) (λ v. Ok (v, record { number = next_number number; lines = lines })) last.0 last.1 in
    let parts = item_ok end_line counts line here.0 (at_line_ok number (item_in end_line counts line) here.0 here.1) in
    let word = bind_ok (keyword (codes "end") line.keyword) (λ _. counts_of_words counts.operations counts.orders line.words) here.0 parts.1 in
    let row : line.keyword ∷ line.words ≡ codes "end" ∷ decimal counts.operations ∷ decimal counts.orders ∷ [] =
    ap (λ (w : List ℕ). w ∷ line.words) (keyword_takes (codes "end") line.keyword word.0 word.1)
    ∙ ap (λ (ws : List (List ℕ)). codes "end" ∷ ws) (counts_take counts.operations counts.orders line.words here.0 few_ops few_orders word.2) in
    let rest : Rest = record { number = next_number number; lines = lines } in
    let left : lines ≡ last.0.1.lines = ap (λ (x : Unit {0} × Rest). x.1.lines) (ok_is (here.0, rest) last.0 here.2) in
    let none : lines ≡ [] = left ∙ none_left last.0.1.number last.0.1.lines u last.2 in
    record {
      rows = ap (λ (row : List (List ℕ)). row ∷ rows_in lines) row ∙ ap (λ (ls : List OpenLine). (codes "end" ∷ decimal counts.operations ∷ decimal counts.orders ∷ []) ∷ rows_in ls) none;
      ended = and_from line.ended (all_ended lines) parts.0 (ap all_ended none);
    }

last_again : (ops orders number : ℕ) → ops < 2 ^ 64 → orders < 2 ^ 64 → last_of (record { operations = ops; orders = orders }) number (line_of_row (codes "end" ∷ decimal ops ∷ decimal orders ∷ []) ∷ []) ≡ Ok tt
unfolding counts_of_words
last_again ops orders number few_ops few_orders =
    let same_ops : ops ≤ ops = omega arith in
    let same_orders : orders ≤ orders = omega arith in
    rw (number_again ops ops ops few_ops same_ops same_ops, number_again orders orders orders few_orders same_orders same_orders) refl

-- ---- keys

key_is : (action : Action) (key : List ℕ) → IsTextAction MAX_COUNT action → register_key action ≡ Some key → IsTrue (is_key key)
key_is (asked.Put own value) key fits e = let same : own ≡ key = cc in subst (λ (k : List ℕ). IsTrue (is_key k)) same fits.0.key
key_is (asked.Get own) key fits e = let same : own ≡ key = cc in subst (λ (k : List ℕ). IsTrue (is_key k)) same fits.key
key_is (asked.Delete own) key fits e = let same : own ≡ key = cc in subst (λ (k : List ℕ). IsTrue (is_key k)) same fits.key
key_is (asked.Collect own) key fits e = absurd cc
key_is (asked.Swap own expected value) key fits e = let same : own ≡ key = cc in subst (λ (k : List ℕ). IsTrue (is_key k)) same fits.0.key

with_key : (key : Option (List ℕ)) (op : Operation) (ops : List Operation) → register_key op.action ≡ key → ((k : List ℕ) → key ≡ Some k → IsTrue (is_key k)) → AreKeys (register_keys ops) → AreKeys (register_keys (op ∷ ops))
with_key None op ops e is are = rw e are
with_key (Some key) op ops e is are = rw e (is key refl, are)

register_keys_are : (step : ℕ) (ops : List Operation) → AreTextOperations step ops → AreKeys (register_keys ops)
register_keys_are step [] range = tt
register_keys_are step (op ∷ ops) range =
    with_key (register_key op.action) op ops refl (λ key e. key_is op.action key range.0.action e) (register_keys_are op.invoked ops range.1)

insert_key_are : (key : List ℕ) (keys : List (List ℕ)) → IsTrue (is_key key) → AreKeys keys → AreKeys (insert_key key keys)
insert_key_are key [] is are = (is, tt)
insert_key_are key (first ∷ keys) is are = by (slice_cmp nat_cmp key first) (insert_key_are key keys is are.1)
  where
    by : (o : Ordering) → AreKeys (insert_key key keys) → AreKeys (match_ordering o (key ∷ first ∷ keys) (first ∷ keys) (first ∷ insert_key key keys))
    by Less more = (is, are)
    by Equal more = are
    by Greater more = (are.0, more)

sorted_keys_are : (keys : List (List ℕ)) → AreKeys keys → AreKeys (sorted_keys keys)
sorted_keys_are [] are = tt
sorted_keys_are (key ∷ keys) are = insert_key_are key (sorted_keys keys) are.0 (sorted_keys_are keys are.1)

insert_key-length : (key : List ℕ) (keys : List (List ℕ)) → length (insert_key key keys) ≤ suc (length keys)
insert_key-length key [] = omega arith
insert_key-length key (first ∷ keys) = by (slice_cmp nat_cmp key first) (insert_key-length key keys)
  where
    by : (o : Ordering) → length (insert_key key keys) ≤ suc (length keys) → length (match_ordering o (key ∷ first ∷ keys) (first ∷ keys) (first ∷ insert_key key keys)) ≤ suc (suc (length keys))
    by Less more = omega arith
    by Equal more = omega arith
    by Greater more = omega arith

sorted_keys-length : (keys : List (List ℕ)) → length (sorted_keys keys) ≤ length keys
sorted_keys-length [] = omega arith
sorted_keys-length (key ∷ keys) = let one = insert_key-length key (sorted_keys keys) in let more = sorted_keys-length keys in omega arith

with_key-length : (key : Option (List ℕ)) (op : Operation) (ops : List Operation) → register_key op.action ≡ key → length (register_keys ops) ≤ length ops → length (register_keys (op ∷ ops)) ≤ suc (length ops)
with_key-length None op ops e few = rw e (omega arith)
with_key-length (Some key) op ops e few = rw e (omega arith)

register_keys-length : (ops : List Operation) → length (register_keys ops) ≤ length ops
register_keys-length [] = omega arith
register_keys-length (op ∷ ops) = with_key-length (register_key op.action) op ops refl (register_keys-length ops)

-- numbered operations in range are no more than there are numbers
numbered-length : (number step : ℕ) (ops : List Operation) → IsNumberedFrom (number + 1) ops → AreTextOperations step ops → number ≤ MAX_COUNT → number + length ops ≤ MAX_COUNT
numbered-length number step [] numbered range within = omega arith
numbered-length number step (op ∷ ops) numbered range within =
    let same : op.number ≡ number + 1 = numbered.0 in
    let high : op.number ≤ MAX_COUNT = range.0.number in
    let more = numbered-length (number + 1) op.invoked ops numbered.1 range.1 (omega arith) in
    omega arith

-- where the last line stands after the orders, no key is due any more
no_keys_left : (keys : List (List ℕ)) (lines : List OpenLine) (rows : List (List (List ℕ))) (row : List (List ℕ)) → rows_in lines ≡ rows ++ row ∷ [] → is_next_due order_lines keys lines ≡ false → keys ≡ []
no_keys_left keys [] [] row e other = absurd cc
no_keys_left keys [] (first ∷ rows) row e other = absurd cc
no_keys_left [] (line ∷ lines) rows row e other = refl
no_keys_left (key ∷ keys) (line ∷ lines) rows row e other = absurd cc

-- ---- what is read is the text of a report

-- the lines are those of the text of a report
record AreReportLines (lines : List OpenLine) (report : Report) : Type 0 where
  rows : rows_in lines ≡ report_rows report
  ended : all_ended lines ≡ true
  fits : IsReport report

report_lines_take : (number : ℕ) (lines : List OpenLine) (report : Report) → report_at (record { number = number; lines = lines }) ≡ Ok report → AreReportLines lines report
unfolding report_at
report_lines_take number lines report e =
    let history = bind_ok (items_from operation_lines (record { number = 0; step = 0 }) number lines) _ report e in
    let ops : List Operation = history.0.0 in
    let after_ops : Rest = history.0.1 in
    let keys : List (List ℕ) = sorted_keys (register_keys ops) in
    let orders = bind_ok (items_from order_lines keys after_ops.number after_ops.lines) _ report history.2 in
    let after_orders : Rest = orders.0.1 in
    let held = bind_ok (items_from held_lines None after_orders.number after_orders.lines) _ report orders.2 in
    let after_held : Rest = held.0.1 in
    let counts : Counts = record { operations = length ops; orders = length orders.0.0 } in
    let last = bind_ok (last_of counts after_held.number after_held.lines) (λ _. Ok (record { history = ops; orders = orders.0.0; held = held.0.0 })) report held.2 in
    let h = operations_take number lines history.0 history.1 in
    let all = operations_from_fits (record { number = 0; step = 0 }) ops h.fits in
    let are = sorted_keys_are (register_keys ops) (register_keys_are 0 ops all.range) in
    let o = orders_take keys after_ops.number after_ops.lines orders.0 are orders.1 in
    let c = helds_take after_orders.number after_orders.lines held.0 held.1 in
    let few_ops : length ops ≤ MAX_COUNT = omega (arith, numbered-length 0 0 ops all.numbered all.range (omega arith)) in
    let taken = keys_taken keys orders.0.0 o.fits in
    let sum : length keys ≡ length (map (λ (order : Order). order.key) orders.0.0) + length (state_after order_lines keys orders.0.0) = ap length taken ∙ length-append (map (λ (order : Order). order.key) orders.0.0) (state_after order_lines keys orders.0.0) in
    let few_orders : length orders.0.0 ≤ MAX_COUNT =
    omega (arith, sum, length-map orders.0.0 (λ (order : Order). order.key), sorted_keys-length (register_keys ops), register_keys-length ops) in
    let l = last_take counts after_held.number after_held.lines last.0 (omega (arith, few_ops)) (omega (arith, few_orders)) last.1 in
    let end : List (List ℕ) = codes "end" ∷ decimal (length ops) ∷ decimal (length orders.0.0) ∷ [] in
    let held_rows : rows_in after_orders.lines ≡ map held_row held.0.0 ++ end ∷ [] = c.rows ∙ ap (λ (rows : List (List (List ℕ))). map held_row held.0.0 ++ rows) l.rows in
    let none = no_keys_left (state_after order_lines keys orders.0.0) after_orders.lines (map held_row held.0.0) end held_rows o.other in
    let keys_are : map (λ (order : Order). order.key) orders.0.0 ≡ keys =
    sym (taken ∙ ap (λ (ks : List (List ℕ)). map (λ (order : Order). order.key) orders.0.0 ++ ks) none ∙ append-nil (map (λ (order : Order). order.key) orders.0.0)) in
    subst (AreReportLines lines) (ok_is (record { history = ops; orders = orders.0.0; held = held.0.0 }) report last.2)
    (record {
      rows = h.rows ∙ ap (λ (rows : List (List (List ℕ))). map operation_row ops ++ rows) (o.rows ∙ ap (λ (rows : List (List (List ℕ))). map order_row orders.0.0 ++ rows) held_rows);
      ended = h.ended (o.ended (c.ended l.ended));
      fits = record {
        history = record { numbered = all.numbered; keys = own_keys 0 ops all.range; ends = all.ends };
        operations = all.range;
        keys = keys_are;
        orders = numbers_taken keys orders.0.0 o.fits;
        copies = ranges_taken None held.0.0 c.fits;
        rising = rising held.0.0 c.fits;
      };
    })

-- what is read is the text of a report
pub report_takes : (text : List ℕ) (report : Report) → report_of text ≡ Ok report → IsReport report × (text ≡ report_text report)
unfolding report_of
report_takes text report e =
    let all = report_lines_take 1 (map opened (lines_of text)) report e in
    (all.fits, text_of-rows text (report_rows report) all.rows all.ended)

-- ---- each line of a report is a row

stamps_are_words : (stamp : Timestamp) → IsTextStamp stamp → list_all is_word (stamp_words stamp) ≡ true
stamps_are_words stamp fits = rw (is_word-decimal stamp.sn (omega (arith, fits.number_high)), is_word-decimal stamp.cid (omega (arith, fits.client_high))) refl

reply_is_row : (reply : Reply) → IsTextReply reply → list_all is_word (reply_words reply) ≡ true
reply_is_row (told.Done stamp) fits = stamps_are_words stamp fits
reply_is_row (told.Exhausted stamp) fits = stamps_are_words stamp fits
reply_is_row (told.Value value stamp) fits = rw (is_word-value_word value) (stamps_are_words stamp fits.1)
reply_is_row (told.Absent stamp) fits = stamps_are_words stamp fits
reply_is_row (told.Swapped stamp) fits = stamps_are_words stamp fits
reply_is_row (told.Changed stamp) fits = stamps_are_words stamp fits
reply_is_row (told.Collected count) fits = rw (is_word-decimal count (omega (arith, fits))) refl

end_is_row : (invoked : ℕ) (end : End) → IsTextEnd invoked end → list_all is_word (end_words end) ≡ true
end_is_row invoked (Replied at reply) fits = rw (is_word-decimal at (omega (arith, fits.1))) (reply_is_row reply fits.2)
end_is_row invoked (Pending at have need) fits = rw ((phase_again at).1, is_word-decimal have (omega (arith, fits.0)), is_word-decimal need (omega (arith, fits.1))) refl

operation_is_row : (step : ℕ) (op : Operation) → IsTextOperation step op → is_row (operation_row op) ≡ true
operation_is_row step op fits =
    let invoked : list_all is_word (decimal op.invoked ∷ end_words op.end) ≡ true = rw (is_word-decimal op.invoked (omega (arith, fits.invoked_high))) (end_is_row op.invoked op.end fits.end) in
    rw (is_word-decimal op.number (omega (arith, fits.number)), is_word-decimal op.client (omega (arith, fits.client_high))) (action_is_row MAX_COUNT op.action (decimal op.invoked ∷ end_words op.end) (omega arith) fits.action invoked)

operations_are_rows : (step : ℕ) (ops : List Operation) (rest : List (List (List ℕ))) → AreTextOperations step ops → list_all is_row rest ≡ true → list_all is_row (map operation_row ops ++ rest) ≡ true
operations_are_rows step [] rest fits more = more
operations_are_rows step (op ∷ ops) rest fits more = and_from (is_row (operation_row op)) _ (operation_is_row step op fits.0) (operations_are_rows op.invoked ops rest fits.1 more)

numbers_are_words : (numbers : List ℕ) → AllByRecursion IsTextNumber numbers → list_all is_word (map decimal numbers) ≡ true
numbers_are_words [] fits = refl
numbers_are_words (number ∷ numbers) fits = and_from (is_word (decimal number)) _ (is_word-decimal number (omega (arith, fits.0.1))) (numbers_are_words numbers fits.1)

orders_are_rows : (orders : List Order) (rest : List (List (List ℕ))) → AreKeys (map (λ (order : Order). order.key) orders) → AllByRecursion (λ (order : Order). AllByRecursion IsTextNumber order.ops) orders → list_all is_row rest ≡ true
    → list_all is_row (map order_row orders ++ rest) ≡ true
orders_are_rows [] rest are numbers more = more
orders_are_rows (order ∷ orders) rest are numbers more =
    let row : is_row (order_row order) ≡ true = rw (is_word-key order.key are.0) (numbers_are_words order.ops numbers.0) in
    and_from (is_row (order_row order)) _ row (orders_are_rows orders rest are.1 numbers.1 more)

helds_are_rows : (helds : List Held) (rest : List (List (List ℕ))) → AllByRecursion IsTextHeld helds → list_all is_row rest ≡ true → list_all is_row (map held_row helds ++ rest) ≡ true
helds_are_rows [] rest fits more = more
helds_are_rows (held ∷ helds) rest fits more =
    let clouds : list_all is_word (cloud_word (clouds_of held.clouds) ∷ []) ≡ true = rw (is_word-clouds (MAX_N - 1) held.clouds (omega arith) fits.0.clouds).0 refl in
    let row : is_row (held_row held) ≡ true = rw (is_word-key held.key fits.0.key) (stamp_is_row 0 MAX_COUNT held.stamp (cloud_word (clouds_of held.clouds) ∷ []) (omega arith) fits.0.stamp clouds) in
    and_from (is_row (held_row held)) _ row (helds_are_rows helds rest fits.1 more)

-- ---- the text of a report is read

abbrev held_written : List Held → List OpenLine → List OpenLine
held_written helds left = map (λ (held : Held). line_of_row (held_row held)) helds ++ left

abbrev orders_written : List Order → List OpenLine → List OpenLine
orders_written orders left = map (λ (order : Order). line_of_row (order_row order)) orders ++ left

abbrev end_written : ℕ → ℕ → List OpenLine
end_written ops orders = line_of_row (codes "end" ∷ decimal ops ∷ decimal orders ∷ []) ∷ []

no_operation_due : (before : Before) (orders : List Order) (helds : List Held) (a b : ℕ) → is_next_due operation_lines before (orders_written orders (held_written helds (end_written a b))) ≡ false
no_operation_due before [] [] a b = refl
no_operation_due before [] (held ∷ helds) a b = refl
no_operation_due before (order ∷ orders) helds a b = refl

report_lines_again : (report : Report) → IsReport report → report_at (record { number = 1; lines = lines_written (report_rows report) }) ≡ Ok report
unfolding report_at
report_lines_again report is =
    let ops : List Operation = report.history in
    let keys : List (List ℕ) = sorted_keys (register_keys ops) in
    let start : Before = record { number = 0; step = 0 } in
    let few_ops : length ops ≤ MAX_COUNT = omega (arith, numbered-length 0 0 ops is.history.numbered is.operations (omega arith)) in
    let few_orders : length report.orders ≤ MAX_COUNT =
    omega (arith, ap length is.keys, length-map report.orders (λ (order : Order). order.key), sorted_keys-length (register_keys ops), register_keys-length ops) in
    let end : List OpenLine = end_written (length ops) (length report.orders) in
    let left_orders : List OpenLine = held_written report.held end in
    let left_ops : List OpenLine = orders_written report.orders left_orders in
    let fit_orders = orders_fit keys report.orders is.keys is.orders in
    let no_key : is_next_due order_lines (state_after order_lines keys report.orders) left_orders ≡ false = rw fit_orders.1 (no_key_due left_orders) in
    let h = items_again operation_lines operation_row FitsAfter operation_again start 1 ops left_ops (operations_fit start ops is.history.numbered is.history.ends is.operations)
    (no_operation_due (state_after operation_lines start ops) report.orders report.held (length ops) (length report.orders)) in
    let o = items_again order_lines order_row FitsKeys order_again keys h.0 report.orders left_orders fit_orders.0 no_key in
    let c = items_again held_lines held_row FitsAbove held_again None o.0 report.held end (helds_fit report.held is.copies is.rising) refl in
    let l = last_again (length ops) (length report.orders) c.0 (omega (arith, few_ops)) (omega (arith, few_orders)) in
    let lines : lines_written (report_rows report) ≡ map (λ (op : Operation). line_of_row (operation_row op)) ops ++ left_ops =
    lines_written-rows operation_row ops (map order_row report.orders ++ (map held_row report.held ++ end_row report ∷ []))
    ∙ ap (λ (ls : List OpenLine). map (λ (op : Operation). line_of_row (operation_row op)) ops ++ ls)
    (lines_written-rows order_row report.orders (map held_row report.held ++ end_row report ∷ []) ∙ ap (λ (ls : List OpenLine). orders_written report.orders ls) (lines_written-rows held_row report.held (end_row report ∷ []))) in
    rw (lines, h.1, o.1, c.1, l) refl

-- the text of a report is read
pub report_again : (report : Report) → IsReport report → report_of (report_text report) ≡ Ok report
unfolding report_of
report_again report is =
    let are = subst AreKeys (sym is.keys) (sorted_keys_are (register_keys report.history) (register_keys_are 0 report.history is.operations)) in
    let few_ops : length report.history ≤ MAX_COUNT = omega (arith, numbered-length 0 0 report.history is.history.numbered is.operations (omega arith)) in
    let few_orders : length report.orders ≤ MAX_COUNT =
    omega (arith, ap length is.keys, length-map report.orders (λ (order : Order). order.key), sorted_keys-length (register_keys report.history), register_keys-length report.history) in
    let end : list_all is_row (end_row report ∷ []) ≡ true = rw (is_word-decimal (length report.history) (omega (arith, few_ops)), is_word-decimal (length report.orders) (omega (arith, few_orders))) refl in
    let rows = lines_of-text_of (report_rows report)
    (operations_are_rows 0 report.history _ is.operations (orders_are_rows report.orders _ are is.orders (helds_are_rows report.held _ is.copies end))) in
    ap (λ (lines : List Line). report_at (record { number = 1; lines = map opened lines })) rows ∙ report_lines_again report is

-- ---- the reader's clauses

-- what is read is the text of the report
pub is_found : (text : List ℕ) (result : Result Report TextError) → GivesText result (report_of text) → IfOk result (λ report. IsReport report × (text ≡ report_text report))
is_found text (Ok report) gives = report_takes text report gives
is_found text (Err error) gives = tt

-- the text of a report has no fault
pub is_refused : (text : List ℕ) (fault : TextFault) → GivesText (Err (errors.Fault fault)) (report_of text) → (report : Report) → IsReport report → text ≡ report_text report → ⊥
is_refused text fault gives report is spelled =
    let read : report_of text ≡ Ok report = ap report_of spelled ∙ report_again report is in
    absurd cc

-- The first violation that keeps an order of a key from being a linearization.
use Rattle.std.specs.Prelude.{ℕ, ◌==◌, Bool, true, false, ◌&&◌, not, if◌then◌else◌, List, [], ◌∷◌, ◌++◌, Option, Some, None, is_none}
use Rattle.std.specs.List.{find, list_any}
use Rattle.std.specs.Option.{option_map, option_or, option_map_or}
use Rattle.std.specs.Str.{bytes_eq}
use Rattle.hy_record.specs.Stamp.{Timestamp, stamp_eq}
use Rattle.hy_record.specs.declared.action.Action.{Action}
use Rattle.hy_record.specs.declared.action.Action.TheVariants as asked
use Rattle.hy_record.specs.declared.action.Reply.TheVariants as told
use Rattle.hy_order.specs.declared.verdict.Verdict.{Verdict}
use Rattle.hy_order.specs.declared.verdict.Verdict.TheVariants.{Legal, Missing, Stranger, Twice, Early, Wrong}
use Rattle.hy_order.specs.declared.operation.End.{End}
use Rattle.hy_order.specs.declared.operation.End.TheVariants.{Replied, Pending}
use Rattle.hy_order.specs.declared.operation.Operation.{Operation}
use Rattle.hy_order.specs.declared.order.Order.{Order}
use Rattle.hy_order.specs.Linearization.{is_of_key, is_finished, may_be_listed, returned_before, Register, no_register, register_after, operation_at, listed}

-- the number stands in the list
abbrev pub is_listed : List ℕ → ℕ → Bool
is_listed numbers number = list_any (λ other. other == number) numbers

-- the number of the first finished operation of the key that the order does not list: the least such, in a history
abbrev pub missing_number : List Operation → List ℕ → List ℕ → Option ℕ
missing_number history key order =
    option_map (λ (op : Operation). op.number) (find (λ op. (is_of_key key op && is_finished op.end) && not (is_listed order op.number)) history)

-- there is an operation, and an order of the key may list it
abbrev pub is_member : List ℕ → Option Operation → Bool
is_member key None = false
is_member key (Some op) = is_of_key key op && may_be_listed op.action op.end

-- the first listed number that is of no operation, or of one that an order of the key may not list
abbrev pub stranger_number : List Operation → List ℕ → List ℕ → Option ℕ
stranger_number history key order = find (λ number. not (is_member key (operation_at history number))) order

-- the first number that is among the earlier ones, to which each number is added when it is passed
abbrev pub repeated_after : List ℕ → List ℕ → Option ℕ
repeated_after earlier [] = None
repeated_after earlier (number ∷ later) =
    if is_listed earlier number then Some number else repeated_after (earlier ++ number ∷ []) later

-- the first listed number that stands earlier too
abbrev pub repeated_number : List ℕ → Option ℕ
repeated_number order = repeated_after [] order

-- the number of the first operation that returned before the step
abbrev pub returned_number : ℕ → List Operation → Option ℕ
returned_number step ops = option_map (λ (op : Operation). op.number) (find (λ op. returned_before step op.end) ops)

-- for the first operation after which one stands that returned before it was invoked: the number of the first such one, and its own
abbrev pub early_numbers : List Operation → Option (ℕ × ℕ)
early_numbers [] = None
early_numbers (op ∷ later) =
    option_or (option_map (λ earlier. (earlier, op.number)) (returned_number op.invoked later)) (early_numbers later)

-- the value is this one
abbrev pub is_held : Option (List ℕ) → List ℕ → Bool
is_held None value = false
is_held (Some held) value = bytes_eq held value

-- the timestamp is that of the register, where that is known
abbrev pub is_stamp_of : Option Timestamp → Timestamp → Bool
is_stamp_of None stamp = true
is_stamp_of (Some held) stamp = stamp_eq held stamp

-- a reply that tells a value or its absence tells what the register holds
abbrev pub tells_value : Register → End → Bool
tells_value held (Replied at (told.Value value stamp)) = is_held held.value value
tells_value held (Replied at (told.Absent stamp)) = is_none held.value
tells_value held (Replied at (told.Done stamp)) = true
tells_value held (Replied at (told.Exhausted stamp)) = true
tells_value held (Replied at (told.Collected count)) = true
tells_value held (Replied at (told.Swapped stamp)) = true
tells_value held (Replied at (told.Changed stamp)) = true
tells_value held (Pending phase have need) = true

-- a swap with this end finds the register as it says: of the expected timestamp; or of the one that it replied, which is another
abbrev pub finds_stamp : Register → Timestamp → End → Bool
finds_stamp held expected (Replied at (told.Swapped stamp)) = is_stamp_of held.stamp expected
finds_stamp held expected (Replied at (told.Changed stamp)) = not (stamp_eq stamp expected) && is_stamp_of held.stamp stamp
finds_stamp held expected (Replied at (told.Done stamp)) = true
finds_stamp held expected (Replied at (told.Exhausted stamp)) = true
finds_stamp held expected (Replied at (told.Value value stamp)) = true
finds_stamp held expected (Replied at (told.Absent stamp)) = true
finds_stamp held expected (Replied at (told.Collected count)) = true
finds_stamp held expected (Pending phase have need) = is_stamp_of held.stamp expected

-- the operation tells what the register holds: a get its value, a swap its timestamp
abbrev pub tells_register : Register → Action → End → Bool
tells_register held (asked.Put key value) end = tells_value held end
tells_register held (asked.Delete key) end = tells_value held end
tells_register held (asked.Get key) end = tells_value held end
tells_register held (asked.Collect key) end = tells_value held end
tells_register held (asked.Swap key expected value) end = finds_stamp held expected end

-- the number of the first operation that does not tell what the register holds at its place
abbrev pub wrong_number : Register → List Operation → Option ℕ
wrong_number held [] = None
wrong_number held (op ∷ later) =
    if tells_register held op.action op.end then wrong_number (register_after op.action op.end held) later else Some op.number

-- the first violation of an order of the key, in the order of the verdicts
unfoldable pub first_violation : List Operation → List ℕ → List ℕ → Verdict
first_violation history key order =
    option_map_or Missing (missing_number history key order)
    (option_map_or Stranger (stranger_number history key order)
    (option_map_or Twice (repeated_number order)
    (option_map_or (λ (pair : ℕ × ℕ). Early pair.0 pair.1) (early_numbers (listed history order))
    (option_map_or Wrong (wrong_number no_register (listed history order)) Legal))))

-- the verdict of an order without a violation
abbrev pub is_legal : Verdict → Bool
is_legal Legal = true
is_legal (Missing number) = false
is_legal (Stranger number) = false
is_legal (Twice number) = false
is_legal (Early earlier later) = false
is_legal (Wrong number) = false

-- the violation of an order, with its key; none of a legal one
abbrev pub illegal_order : List ℕ → Verdict → Option (List ℕ × Verdict)
illegal_order key verdict = if is_legal verdict then None else Some (key, verdict)

-- the key of the first order that has a violation, and its first violation
abbrev pub first_illegal : List Operation → List Order → Option (List ℕ × Verdict)
first_illegal history [] = None
first_illegal history (order ∷ orders) =
    option_or (illegal_order order.key (first_violation history order.key order.ops)) (first_illegal history orders)

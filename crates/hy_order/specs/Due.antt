-- Which operations name a key that a report has an order of.
use Rattle.std.specs.Prelude.{ℕ, Bool, false, List, Option, Some, None}
use Rattle.std.specs.Str.{bytes_eq}
use Rattle.hy_order.specs.declared.operation.Operation.{Operation}
use Rattle.hy_order.specs.Keys.{register_key}

-- it is the key
abbrev pub is_key : List ℕ → Option (List ℕ) → Bool
is_key key None = false
is_key key (Some other) = bytes_eq other key

-- there is an operation, and it puts, gets, deletes or swaps the key
abbrev pub names_key : List ℕ → Option Operation → Bool
names_key key None = false
names_key key (Some op) = is_key key (register_key op.action)

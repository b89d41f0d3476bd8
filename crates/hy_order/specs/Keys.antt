-- The keys that have registers, and keys in byte order.
use Rattle.std.specs.Prelude.{ℕ, List, [], ◌∷◌, Option, Some, None}
use Rattle.std.specs.List.{filter_map}
use Rattle.std.specs.Ordering.{nat_cmp, match_ordering}
use Rattle.std.specs.Cmp.Lexicographic.{slice_cmp}
use Rattle.hy_record.specs.declared.action.Action.{Action}
use Rattle.hy_record.specs.declared.action.Action.TheVariants as asked
use Rattle.hy_order.specs.declared.operation.Operation.{Operation}

-- the key of a put, a get, a delete or a swap
abbrev pub register_key : Action → Option (List ℕ)
register_key (asked.Put key value) = Some key
register_key (asked.Get key) = Some key
register_key (asked.Delete key) = Some key
register_key (asked.Swap key expected value) = Some key
register_key (asked.Collect key) = None

-- the keys that a put, a get, a delete or a swap of the history names, in the order of the history
abbrev pub register_keys : List Operation → List (List ℕ)
register_keys ops = filter_map (λ (op : Operation). register_key op.action) ops

-- a key in front of the first that is above it, or nowhere where it is there
abbrev pub insert_key : List ℕ → List (List ℕ) → List (List ℕ)
insert_key key [] = key ∷ []
insert_key key (first ∷ keys) =
    match_ordering (slice_cmp nat_cmp key first) (key ∷ first ∷ keys) (first ∷ keys) (first ∷ insert_key key keys)

-- the keys in increasing order, each once
abbrev pub sorted_keys : List (List ℕ) → List (List ℕ)
sorted_keys [] = []
sorted_keys (key ∷ keys) = insert_key key (sorted_keys keys)

-- What stands under each key, once an operation was added.
use Rattle.std.proofs.Common.{◌≡◌, ℕ, Bool, true, false, cond, List, [], ◌∷◌, ◌++◌, map, Option, Some, None, Vec, unwrap_or, refl, sym, ap, ◌∙◌}
use Rattle.std.proofs.lemmas.List.{append-nil, map-append}
use Rattle.std.proofs.lemmas.Map.Text.{is_eq-slice_cmp}
use Rattle.std.specs.Borrow.{Bor}
use Rattle.std.specs.BTreeMap.{is_at}
use Rattle.std.specs.Cmp.Lexicographic.{slice_cmp, bytes_decides}
use Rattle.std.specs.List.{filter}
use Rattle.std.specs.Map.{lookup}
use Rattle.std.specs.Option.{option_map_or}
use Rattle.std.specs.Ordering.{nat_cmp}
use Rattle.std.specs.Str.{bytes_eq}
use Rattle.hy_order.specs.declared.operation.Operation.{Operation}
use Rattle.hy_order.specs.History.{key_of_action}
use Rattle.hy_order.specs.Index.{operations_under}
use Rattle.hy_order.specs.Linearization.{is_of_key}

abbrev under : {Z : Type 0} → Option (Vec (Bor Operation) Z) → List Operation
under {Z} found = option_map_or (λ (ops : Vec (Bor Operation) Z). map (λ (op : Bor Operation). op.now) ops.items) found []

-- a list with one operation more than stood under the key, which is empty where nothing stood there
pub operations_under-more : {Z : Type 0} (old : List (List ℕ × Vec (Bor Operation) Z)) (op : Bor Operation) (key : List ℕ) (empty ops new : Vec (Bor Operation) Z)
    → empty.items ≡ [] → ops ≡ unwrap_or (lookup (is_at (slice_cmp nat_cmp key)) old) empty → new.items ≡ ops.items ++ op ∷ []
    → map (λ (op : Bor Operation). op.now) new.items ≡ operations_under old key ++ op.now ∷ []
operations_under-more {Z} old op key empty ops new none is more =
    ap (map (λ (op : Bor Operation). op.now)) more
    ∙ map-append (λ (op : Bor Operation). op.now) ops.items (op ∷ [])
    ∙ ap (λ (ops : Vec (Bor Operation) Z). map (λ (op : Bor Operation). op.now) ops.items ++ op.now ∷ []) is
    ∙ ap (λ ops. ops ++ op.now ∷ []) (at (lookup (is_at (slice_cmp nat_cmp key)) old))
  where
    at : (found : Option (Vec (Bor Operation) Z)) → map (λ (op : Bor Operation). op.now) (unwrap_or found empty).items ≡ under found
    at None = ap (map (λ (op : Bor Operation). op.now)) none
    at (Some ops) = refl

-- the operation stands under its key after those that stood there, and under each other key stands what stood there
pub operations_under-added : {Z : Type 0} (old new : List (List ℕ × Vec (Bor Operation) Z)) (op : Operation) (ops : Vec (Bor Operation) Z) (key : List ℕ)
    → lookup (is_at (slice_cmp nat_cmp key)) new ≡ cond (is_at (slice_cmp nat_cmp (key_of_action op.action)) key) (Some ops) (lookup (is_at (slice_cmp nat_cmp key)) old)
    → map (λ (op : Bor Operation). op.now) ops.items ≡ operations_under old (key_of_action op.action) ++ op ∷ []
    → operations_under new key ≡ operations_under old key ++ filter (is_of_key key) (op ∷ [])
operations_under-added {Z} old new op ops key update more =
    ap under update
    ∙ ap (λ b. under (cond b (Some ops) (lookup (is_at (slice_cmp nat_cmp key)) old))) (is_eq-slice_cmp (key_of_action op.action) key)
    ∙ at (bytes_eq (key_of_action op.action) key) refl
  where
    at : (b : Bool) → bytes_eq (key_of_action op.action) key ≡ b → under (cond b (Some ops) (lookup (is_at (slice_cmp nat_cmp key)) old)) ≡ operations_under old key ++ cond b (op ∷ []) []
    at true is = more ∙ ap (λ key. operations_under old key ++ op ∷ []) ((bytes_decides (key_of_action op.action) key).0 is)
    at false is = sym (append-nil (operations_under old key))

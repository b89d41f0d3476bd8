-- The orders that the log tells are those of the trace's report.
use Rattle.std.proofs.Common.{◌≡◌, ℕ, ◌+◌, ◌<◌, List, [], ◌∷◌, ◌++◌, length, map, reverse, get_or, take, Option, Some, None, unwrap_or, refl, sym, ap, subst, ◌∙◌, arith}
use Rattle.std.specs.BTreeSet as set
use Rattle.std.specs.Cmp.Lexicographic.{slice_cmp}
use Rattle.std.specs.List.Sorted.{IsStrictlySortedBy}
use Rattle.std.specs.Map as maps
use Rattle.std.specs.Ordering.{nat_cmp, match_ordering}
use Rattle.std.proofs.lemmas.List.{map-append, take_at, get_or-append-add, length-append}
use Rattle.std.proofs.Math.Seq.{take-length}
use Rattle.std.proofs.lemmas.Map.Keys.{IsDistinct-from_sorted}
use Rattle.hy_order.specs.declared.operation.Operation.{Operation}
use Rattle.hy_order.specs.declared.order.Order.{Order}
use Rattle.hy_order.specs.Keys.{insert_key, sorted_keys}
use Rattle.hy_order.specs.Keys.{register_key, register_keys}
use Rattle.hy_order.proofs.DueKeys.{due-there, due-absent}
use Rattle.hy_trace.specs.Deeds.{Params, Deed}
use Rattle.hy_trace.specs.History.{Begun, begun_of, operation_of, history_of}
use Rattle.hy_trace.specs.Order.{Mark, is_behind, sorted_marks, marks_of, op_of, number_of, linearization_of}
use Rattle.hy_trace.specs.Report.{order_of, keys_of}
use Rattle.hy_trace.specs.Trace.{IsTrace}
use Rattle.hy_theorems.proofs.Listing.{reverse-more}
use Rattle.hy_theorems.proofs.Placed.{orders-same}
use Rattle.hy_log.specs.declared.course.Course.{Course}
use Rattle.hy_log.specs.declared.log.Started.{Started}
use Rattle.hy_log.specs.declared.place.Place.{Place}
use Rattle.hy_log.specs.Kept.{Posted}
use Rattle.hy_log.specs.Courses.{AreCourses}
use Rattle.hy_log.specs.Log.{LogKeeps}
use Rattle.hy_log.specs.Orders.{added, course_place, number_at, order_line, placed_from, places_at, with_place}
use Rattle.hy_log.proofs.EntryLemmas.{keys_of-insert_entry, entries_from_lookups}
use Rattle.hy_log.proofs.Filling.{filled, filled-step, filled-are}
use Rattle.hy_log.proofs.Sorting.{entry_of_mark, placed-sorted}
use Rattle.hy_log.proofs.Spreading.{marks-spread}
use Rattle.hy_log.proofs.Telling.{start_line, started-begun}

abbrev Entries : Type 0
Entries = List (List ℕ × List (Place × ℕ))

-- ---- the keys

insert_key-set : (keys : List (List ℕ)) (key : List ℕ) → set.insert_key (slice_cmp nat_cmp) keys key ≡ insert_key key keys
insert_key-set [] key = refl
insert_key-set (first ∷ keys) key = ap (λ later. match_ordering (slice_cmp nat_cmp key first) (key ∷ first ∷ keys) (first ∷ keys) (first ∷ later)) (insert_key-set keys key)

take-all : {A : Type 0} (xs : List A) (n : ℕ) → length xs ≡ n → take n xs ≡ xs
take-all xs n is = ap (λ m. take m xs) (sym is) ∙ take-length xs

module _ (ops : List Operation) (op : Operation) where
  abbrev more : List Operation
  more = ops ++ op ∷ []

  within : length ops < length more
  within = let n = length-append ops (op ∷ []) in omega (arith, n)

  here : op ≡ get_or more (length ops) op
  here = let e : length ops ≡ length ops + 0 = omega arith in sym (ap (λ (n : ℕ). get_or more n op) e ∙ get_or-append-add ops (op ∷ []) 0 op)

  before : take (length ops) more ≡ ops
  before = take_at ops (op ∷ []) (length ops) refl

  whole : take (length ops + 1) more ≡ more
  whole = take-all more (length ops + 1) (length-append ops (op ∷ []))

  pub keys-more : (key : List ℕ) → register_key op.action ≡ Some key → insert_key key (sorted_keys (register_keys ops)) ≡ sorted_keys (register_keys more)
  keys-more key names =
      due-there more (length ops) op within here key (sorted_keys (register_keys ops)) (insert_key key (sorted_keys (register_keys ops))) names
      (ap (λ (x : List Operation). sorted_keys (register_keys x)) (sym before)) (sym (insert_key-set (sorted_keys (register_keys ops)) key))
      ∙ ap (λ (x : List Operation). sorted_keys (register_keys x)) whole

  pub keys-same : register_key op.action ≡ None → register_keys more ≡ register_keys ops
  keys-same none =
      ap register_keys (sym whole) ∙ due-absent more (length ops) op within here none ∙ ap register_keys before

filled-keys : (p : Params) (t : List Deed) (courses : List (List Course)) (ops : List Begun) → maps.keys_of (filled courses ops) ≡ sorted_keys (register_keys (map (operation_of p t) (reverse ops)))
filled-keys p t courses [] = refl
filled-keys p t courses (b ∷ ops) =
    ap maps.keys_of (filled-step courses b ops)
    ∙ by_key (register_key b.start.action) refl (filled-keys p t courses ops)
    ∙ ap (λ (x : List Operation). sorted_keys (register_keys x)) (sym joined)
  where
    joined : map (operation_of p t) (reverse (b ∷ ops)) ≡ map (operation_of p t) (reverse ops) ++ operation_of p t b ∷ []
    joined = ap (map (operation_of p t)) (reverse-more b ops) ∙ map-append (operation_of p t) (reverse ops) (b ∷ [])

    by_key : (o : Option (List ℕ)) → register_key b.start.action ≡ o → maps.keys_of (filled courses ops) ≡ sorted_keys (register_keys (map (operation_of p t) (reverse ops))) →
        maps.keys_of (with_place o (course_place courses (start_line b)) (length ops + 1) (filled courses ops)) ≡ sorted_keys (register_keys (map (operation_of p t) (reverse ops) ++ operation_of p t b ∷ []))
    by_key None is so_far = so_far ∙ ap sorted_keys (sym (keys-same (map (operation_of p t) (reverse ops)) (operation_of p t b) is))
    by_key (Some key) is so_far =
        keys_of-insert_entry (filled courses ops) key (added (course_place courses (start_line b)) (length ops + 1) (places_at (filled courses ops) key))
        ∙ ap (insert_key key) so_far ∙ keys-more (map (operation_of p t) (reverse ops)) (operation_of p t b) key is

-- ---- the orders

pub map-same : {A B : Type 0} (f g : A → B) (xs : List A) → ((x : A) → f x ≡ g x) → map f xs ≡ map g xs
map-same f g [] each = refl
map-same f g (x ∷ xs) each = ap (λ y. y ∷ map f xs) (each x) ∙ ap (λ ys. g x ∷ ys) (map-same f g xs each)

map-twice : {A B C : Type 0} (g : B → C) (f : A → B) (xs : List A) → map g (map f xs) ≡ map (λ x. g (f x)) xs
map-twice g f [] = refl
map-twice g f (x ∷ xs) = ap (λ ys. g (f x) ∷ ys) (map-twice g f xs)

numbers-of : (ms : List Mark) → map number_at (map entry_of_mark ms) ≡ map number_of (map op_of ms)
numbers-of [] = refl
numbers-of (m ∷ ms) = ap (λ ns. m.op.number ∷ ns) (numbers-of ms)

module _ (p : Params) (t : List Deed) (trace : IsTrace p t) (courses : List (List Course)) (are : AreCourses p t courses) where
  abbrev entries : Entries
  entries = filled courses (begun_of t)

  -- the numbers that stand under a key are its order
  order-is : (key : List ℕ) → map number_at (places_at entries key) ≡ linearization_of p t key
  unfolding linearization_of
  order-is key =
      ap (map number_at) (filled-are p t trace courses are key ∙ placed-sorted (marks_of p t key) (marks-spread p t trace key))
      ∙ numbers-of (sorted_marks is_behind (marks_of p t key))
      ∙ ap (λ (ms : List Mark). map number_of (map op_of ms)) (sym (orders-same p t trace key))

  line-is : (key : List ℕ) → order_line (key, places_at entries key) ≡ order_of p t key
  line-is key = let made : List ℕ → Order = λ ops. record { key = key; ops = ops } in ap made (order-is key)

  pub orders-are : IsStrictlySortedBy (slice_cmp nat_cmp) (maps.keys_of entries) → map order_line entries ≡ map (order_of p t) (keys_of p t)
  unfolding history_of
  orders-are sorted =
      ap (map order_line) (entries_from_lookups (places_at entries) entries (IsDistinct-from_sorted (slice_cmp nat_cmp) (maps.keys_of entries) sorted) (λ q v found. ap (λ o. unwrap_or o []) found))
      ∙ map-twice order_line (λ key. (key, places_at entries key)) (maps.keys_of entries)
      ∙ map-same (λ key. order_line (key, places_at entries key)) (order_of p t) (maps.keys_of entries) line-is
      ∙ ap (map (order_of p t)) (filled-keys p t courses (begun_of t))

-- what the log tells are the orders of the trace
pub told-orders : (p : Params) (t : List Deed) (posts : List Posted) (starts : List Started) (courses : List (List Course)) (steps : ℕ) (keys : Entries) → IsTrace p t → LogKeeps p t posts starts courses steps →
    keys ≡ placed_from courses 1 [] starts → IsStrictlySortedBy (slice_cmp nat_cmp) (maps.keys_of keys) → map order_line keys ≡ map (order_of p t) (keys_of p t)
told-orders p t posts starts courses steps keys trace keeps are sorted =
    let is : keys ≡ filled courses (begun_of t) = are ∙ ap (placed_from courses 1 []) (keeps.starts_are ∙ started-begun t) in
    ap (map order_line) is ∙ orders-are p t trace courses (keeps.courses_are trace) (subst (λ (x : Entries). IsStrictlySortedBy (slice_cmp nat_cmp) (maps.keys_of x)) is sorted)

-- What the log lists for each key are the marks of the key, each at its place.
use Rattle.std.proofs.Common.{◌≡◌, ℕ, ◌+◌, Bool, true, false, cond, List, [], ◌∷◌, ◌++◌, length, map, reverse, take, Option, Some, None, unwrap_or, refl, sym, ap, ◌∙◌, inl, inr, arith}
use Rattle.std.specs.BTreeMap.{insert_entry, is_at}
use Rattle.std.specs.Cmp.Lexicographic.{slice_cmp}
use Rattle.std.specs.List.{AllByRecursion, filter_map, cons_option}
use Rattle.std.specs.Option.{option_map}
use Rattle.std.specs.Ordering.{nat_cmp}
use Rattle.std.proofs.lemmas.Bool.{false≢true}
use Rattle.std.proofs.lemmas.List.{length-map, length-reverse, map-append}
use Rattle.hy_record.specs.declared.action.Action.{Action}
use Rattle.hy_record.specs.declared.action.Action.TheVariants as asked
use Rattle.hy_record.specs.Key.{key_eq}
use Rattle.hy_record.proofs.Order.{key_eq-true, key_eq-same}
use Rattle.hy_meta.proofs.Rising.{cases_bool}
use Rattle.hy_protocol.specs.Operations.{key_of}
use Rattle.hy_order.specs.declared.operation.Operation.{Operation}
use Rattle.hy_order.specs.Keys.{register_key}
use Rattle.hy_trace.specs.Deeds.{Params, Deed, Joined, Began, Handed, Served, Granted, Stopped, Nothing, start_of}
use Rattle.hy_trace.specs.History.{Begun, begun_of, operation_of}
use Rattle.hy_trace.specs.Order.{Mark, mark_by, mark_of, marks_of}
use Rattle.hy_trace.specs.Trace.{IsTrace}
use Rattle.hy_theorems.proofs.Beginnings.{begun-are}
use Rattle.hy_theorems.proofs.Histories.{AreNumbered}
use Rattle.hy_theorems.proofs.Listing.{reverse-more}
use Rattle.hy_theorems.proofs.Marks.{mark-is}
use Rattle.hy_log.specs.declared.course.Course.{Course}
use Rattle.hy_log.specs.declared.log.Started.{Started}
use Rattle.hy_log.specs.declared.place.Place.{Place}
use Rattle.hy_log.specs.Courses.{AreCourses}
use Rattle.hy_log.specs.Orders.{place_cmp, course_place, added, places_at, with_places, with_place, with_operation, placed_from}
use Rattle.hy_log.proofs.EntryLemmas.{lookup-insert_entry_same, lookup-insert_entry_other}
use Rattle.hy_log.proofs.Marking.{place_of_mark, mark-place}
use Rattle.hy_log.proofs.Sorting.{placed}
use Rattle.hy_log.proofs.Telling.{start_line}
use Rattle.std.proofs.lemmas.Map.Lookups.{exact_bytes}
use Rattle.std.specs.Cmp.{Equal-is}

-- ---- operation by operation

pub filled-joined : (courses : List (List Course)) (number : ℕ) (keys : List (List ℕ × List (Place × ℕ))) (first later : List Started) →
    placed_from courses number keys (first ++ later) ≡ placed_from courses (number + length first) (placed_from courses number keys first) later
filled-joined courses number keys [] later = let e : number ≡ number + 0 = omega arith in ap (λ (n : ℕ). placed_from courses n keys later) e
filled-joined courses number keys (s ∷ first) later =
    let e : number + 1 + length first ≡ number + length (s ∷ first) = omega arith in
    filled-joined courses (number + 1) (with_operation courses number s keys) first later
    ∙ ap (λ (n : ℕ). placed_from courses n (placed_from courses (number + 1) (with_operation courses number s keys) first) later) e

-- one operation more
pub filled-more : (courses : List (List Course)) (starts : List Started) (place number : ℕ) (s : Started) (keys more : List (List ℕ × List (Place × ℕ))) →
    place + 1 ≡ number → length (take place starts) ≡ place → take (place + 1) starts ≡ take place starts ++ s ∷ [] →
    keys ≡ placed_from courses 1 [] (take place starts) → more ≡ with_operation courses number s keys → more ≡ placed_from courses 1 [] (take (place + 1) starts)
filled-more courses starts place number s keys more number_is count taken keys_are more_is =
    let at : 1 + length (take place starts) ≡ number = omega (arith, count, number_is) in
    more_is ∙ ap (with_operation courses number s) keys_are
    ∙ sym (ap (placed_from courses 1 []) taken ∙ filled-joined courses 1 [] (take place starts) (s ∷ [])
    ∙ ap (λ (n : ℕ). with_operation courses n s (placed_from courses 1 [] (take place starts))) at)

-- ---- what stands under a key

places_at-same : (keys : List (List ℕ × List (Place × ℕ))) (key : List ℕ) (places : List (Place × ℕ)) → places_at (with_places keys key places) key ≡ places
places_at-same keys key places = ap (λ (found : Option (List (Place × ℕ))). unwrap_or found []) (lookup-insert_entry_same keys key places)

other-key : (k key : List ℕ) → key_eq k key ≡ false → is_at (slice_cmp nat_cmp key) k ≡ false
other-key k key other =
    elim (cases_bool (is_at (slice_cmp nat_cmp key) k)) [
      | inr apart ↦ apart
      | inl same ↦
          let is : key ≡ k = exact_bytes key k ((Equal-is (slice_cmp nat_cmp key k)).0 same) in
          absurd (false≢true (sym other ∙ ap (λ (x : List ℕ). key_eq k x) is ∙ key_eq-same k))
    ]

places_at-other : (keys : List (List ℕ × List (Place × ℕ))) (k key : List ℕ) (places : List (Place × ℕ)) → key_eq k key ≡ false → places_at (with_places keys k places) key ≡ places_at keys key
places_at-other keys k key places other = ap (λ (found : Option (List (Place × ℕ))). unwrap_or found []) (lookup-insert_entry_other keys k key places (other-key k key other))

-- each operation has the number of those before it, and one
begun-numbered : (t : List Deed) → AreNumbered (begun_of t)
unfolding begun_of
begun-numbered [] = tt
begun-numbered (Began c o a ∷ t) = (refl, begun-numbered t)
begun-numbered (Joined ∷ t) = begun-numbered t
begun-numbered (Handed c o w cue ∷ t) = begun-numbered t
begun-numbered (Served ask ∷ t) = begun-numbered t
begun-numbered (Granted ask ∷ t) = begun-numbered t
begun-numbered (Stopped c ∷ t) = begun-numbered t
begun-numbered (Nothing ∷ t) = begun-numbered t

-- the keys with their operations after these began, the last first
abbrev pub filled : List (List Course) → List Begun → List (List ℕ × List (Place × ℕ))
filled courses ops = placed_from courses 1 [] (map start_line (reverse ops))

pub filled-step : (courses : List (List Course)) (b : Begun) (ops : List Begun) → filled courses (b ∷ ops) ≡ with_operation courses (length ops + 1) (start_line b) (filled courses ops)
filled-step courses b ops =
    let count : length (map start_line (reverse ops)) ≡ length ops = length-map (reverse ops) start_line ∙ length-reverse ops in
    let number : 1 + length (map start_line (reverse ops)) ≡ length ops + 1 = omega (arith, count) in
    ap (placed_from courses 1 []) (ap (map start_line) (reverse-more b ops) ∙ map-append start_line (reverse ops) (b ∷ []))
    ∙ filled-joined courses 1 [] (map start_line (reverse ops)) (start_line b ∷ [])
    ∙ ap (λ (n : ℕ). with_operation courses n (start_line b) (filled courses ops)) number

never : {A : Type 0} (test : Bool) → cond {A = Option A} test None None ≡ None
never true = refl
never false = refl

-- a collection has no mark
unlisted : (p : Params) (t : List Deed) (key : List ℕ) (b : Begun) (k : List ℕ) → b.start.action ≡ asked.Collect k → mark_of p t key b ≡ None
unfolding mark_of
unlisted p t key b k is = ap (λ (a : Action). cond (key_eq (key_of a) key) (mark_by p t b a) None) is ∙ never (key_eq k key)

module _ (p : Params) (t : List Deed) (trace : IsTrace p t) (courses : List (List Course)) (are : AreCourses p t courses) (key : List ℕ) where
  -- what is added for an operation is its mark at its place
  added-mark : (b : Begun) (n : ℕ) (o : Option Mark) (rest : List Mark) → (n ≡ (operation_of p t b).number) → ((m : Mark) → o ≡ Some m → m.op ≡ operation_of p t b) →
      added (option_map place_of_mark o) n (placed rest) ≡ placed (cons_option o rest)
  added-mark b n None rest number op_is = refl
  added-mark b n (Some m) rest number op_is =
      ap (λ (x : ℕ). insert_entry place_cmp (placed rest) (place_of_mark m) x) (number ∙ ap (λ (x : Operation). x.number) (sym (op_is m refl)))

  abbrev one : Begun → ℕ → List (List ℕ × List (Place × ℕ)) → List (Place × ℕ)
  one b n keys = places_at (with_operation courses n (start_line b) keys) key

  -- under the key of an operation it is added, and under each other key nothing changes
  one-named : (b : Begun) (n : ℕ) (keys : List (List ℕ × List (Place × ℕ))) (rest : List Mark) → register_key b.start.action ≡ Some (key_of b.start.action) → n ≡ (operation_of p t b).number →
      start_of b.client b.op t ≡ Some b.start → places_at keys key ≡ placed rest → one b n keys ≡ placed (cons_option (mark_of p t key b) rest)
  unfolding mark_of
  one-named b n keys rest names number began so_far =
      ap (λ (k : Option (List ℕ)). places_at (with_place k (course_place courses (start_line b)) n keys) key) names
      ∙ elim (cases_bool (key_eq (key_of b.start.action) key)) [
        | inl same ↦
            let is : key_of b.start.action ≡ key = key_eq-true (key_of b.start.action) key same in
            ap (λ (k : List ℕ). places_at (with_places keys k (added (course_place courses (start_line b)) n (places_at keys k))) key) is
            ∙ places_at-same keys key (added (course_place courses (start_line b)) n (places_at keys key))
            ∙ ap (λ (o : Option Place). added o n (places_at keys key)) (mark-place p t courses key b are same)
            ∙ ap (added (option_map place_of_mark (mark_of p t key b)) n) so_far
            ∙ added-mark b n (mark_of p t key b) rest number (λ m is_mark. (mark-is p t trace key b m began is_mark).op_is)
        | inr other ↦
            places_at-other keys (key_of b.start.action) key (added (course_place courses (start_line b)) n (places_at keys (key_of b.start.action))) other
            ∙ so_far ∙ rw other refl
      ]

  one-more : (b : Begun) (n : ℕ) (keys : List (List ℕ × List (Place × ℕ))) (rest : List Mark) (a : Action) → b.start.action ≡ a → n ≡ (operation_of p t b).number →
      start_of b.client b.op t ≡ Some b.start → places_at keys key ≡ placed rest → one b n keys ≡ placed (cons_option (mark_of p t key b) rest)
  one-more b n keys rest (asked.Put k value) action number began so_far = one-named b n keys rest (ap register_key action ∙ ap (λ (x : Action). Some (key_of x)) (sym action)) number began so_far
  one-more b n keys rest (asked.Get k) action number began so_far = one-named b n keys rest (ap register_key action ∙ ap (λ (x : Action). Some (key_of x)) (sym action)) number began so_far
  one-more b n keys rest (asked.Delete k) action number began so_far = one-named b n keys rest (ap register_key action ∙ ap (λ (x : Action). Some (key_of x)) (sym action)) number began so_far
  one-more b n keys rest (asked.Swap k e v) action number began so_far = one-named b n keys rest (ap register_key action ∙ ap (λ (x : Action). Some (key_of x)) (sym action)) number began so_far
  one-more b n keys rest (asked.Collect k) action number began so_far =
      ap (λ (x : Action). places_at (with_place (register_key x) (course_place courses (start_line b)) n keys) key) action ∙ so_far
      ∙ ap (λ (o : Option Mark). placed (cons_option o rest)) (sym (unlisted p t key b k action))

  filled-marks : (ops : List Begun) → AreNumbered ops → AllByRecursion (λ b. start_of b.client b.op t ≡ Some b.start) ops → places_at (filled courses ops) key ≡ placed (filter_map (mark_of p t key) ops)
  filled-marks [] numbered began = refl
  filled-marks (b ∷ ops) numbered began =
      ap (λ (keys : List (List ℕ × List (Place × ℕ))). places_at keys key) (filled-step courses b ops)
      ∙ one-more b (length ops + 1) (filled courses ops) (filter_map (mark_of p t key) ops) b.start.action refl (ap (λ (n : ℕ). n + 1) (sym numbered.0)) began.0 (filled-marks ops numbered.1 began.1)

  -- under each key stand its marks
  pub filled-are : places_at (filled courses (begun_of t)) key ≡ placed (marks_of p t key)
  filled-are = filled-marks (begun_of t) (begun-numbered t) (begun-are p t trace).0

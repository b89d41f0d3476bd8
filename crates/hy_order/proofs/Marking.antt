-- The marks of an order, and what they tell of the operations that it lists.
use Rattle.std.proofs.Common.{◌≡◌, ℕ, ◌+◌, ◌-◌, ◌<◌, ◌≤◌, Bool, true, false, ◌==◌, ◌&&◌, ◌||◌, not, cond, List, [], ◌∷◌, ◌++◌, Option, Some, None, option_map, refl, sym, ap, ◌∙◌, subst, arith, length, get_or, take, drop}
use Rattle.std.specs.Prelude.{slice_index}
use Rattle.std.proofs.lemmas.List.{drop_more, take_more}
use Rattle.std.proofs.lemmas.Bool.{cond-false, cond-true}
use Rattle.std.proofs.lemmas.Bool.Decides.{nat_tests}
use Rattle.std.proofs.lemmas.List.Folds.{list_any-append}
use Rattle.std.specs.List.{AllByRecursion, filter, find}
use Rattle.hy_order.specs.declared.operation.Operation.{Operation}
use Rattle.hy_order.specs.Checking.{AreBelow, AreMarked, ArePlaces, IsPlace, is_marked, unlisted_number}
use Rattle.hy_order.specs.History.{IsNumberedFrom}
use Rattle.hy_order.specs.Linearization.{is_of_key, is_finished, operation_at}
use Rattle.hy_order.specs.Violation.{is_listed, is_member, missing_number, repeated_after, stranger_number}

-- ---- the operations of a key that are not marked

-- the first element that passes two tests is the first of those that pass one which passes the other
find-filter : {X : Type 0} (p q : X → Bool) (xs : List X) → find p (filter q xs) ≡ find (λ x. q x && p x) xs
find-filter p q [] = refl
find-filter p q (x ∷ xs) = at (find-filter p q xs) (q x)
  where
    at : find p (filter q xs) ≡ find (λ x. q x && p x) xs → (b : Bool) → find p (cond b (x ∷ filter q xs) (filter q xs)) ≡ cond (b && p x) (Some x) (find (λ x. q x && p x) xs)
    at later true = ap (cond (p x) (Some x)) later
    at later false = later

-- two tests that agree on each element find the same one
find_same : {X : Type 0} (p q : X → Bool) (xs : List X) → AllByRecursion (λ x. p x ≡ q x) xs → find p xs ≡ find q xs
find_same p q [] same = refl
find_same p q (x ∷ xs) same =
    ap (λ b. cond b (Some x) (find p xs)) same.0 ∙ ap (cond (q x) (Some x)) (find_same p q xs same.1)

and_apart : (a b c : Bool) → (a && (b && c)) ≡ ((a && b) && c)
and_apart true b c = refl
and_apart false b c = refl

all : {X : Type 0} {P : X → Type 0} → ((x : X) → P x) → (xs : List X) → AllByRecursion P xs
all holds [] = tt
all holds (x ∷ xs) = (holds x, all holds xs)

-- the first unlisted operation of the key is the first of the history that is of the key and unlisted
find-due : (history : List Operation) (key : List ℕ) (is_among : ℕ → Bool) → find (λ (op : Operation). is_finished op.end && not (is_among op.number)) (filter (is_of_key key) history)
    ≡ find (λ op. (is_of_key key op && is_finished op.end) && not (is_among op.number)) history
find-due history key is_among =
    find-filter (λ (op : Operation). is_finished op.end && not (is_among op.number)) (is_of_key key) history
    ∙ find_same _ _ history (all (λ op. and_apart (is_of_key key op) (is_finished op.end) (not (is_among op.number))) history)

-- what is not marked, among the operations of the key, is missing
module _ (key numbers marks : List ℕ) (order : ℕ) (are : AreMarked numbers order marks) where
  agrees : (first : ℕ) (ops : List Operation) → 1 ≤ first → first + length ops ≤ length marks + 1 → IsNumberedFrom first ops
      → AllByRecursion (λ op. ((is_of_key key op && is_finished op.end) && not (is_marked marks order op.number)) ≡ ((is_of_key key op && is_finished op.end) && not (is_listed numbers op.number))) ops
  agrees first [] low high numbered = tt
  agrees first (op ∷ ops) low high numbered = (
    ap (λ b. (is_of_key key op && is_finished op.end) && not b) (are op.number (omega arith, omega arith)),
    agrees (first + 1) ops (omega arith) (omega arith) numbered.1,
  )

  pub unlisted-missing : (history : List Operation) → length marks ≡ length history → IsNumberedFrom 1 history
      → unlisted_number (is_marked marks order) (filter (is_of_key key) history) ≡ missing_number history key numbers
  unlisted-missing history count numbered =
      ap (option_map (λ (op : Operation). op.number))
      (find-due history key (is_marked marks order) ∙ find_same _ _ history (agrees 1 history (omega arith) (omega arith) numbered))

-- where the key has no operation, none is missing
pub missing-none : (history : List Operation) (key numbers : List ℕ) → filter (is_of_key key) history ≡ [] → missing_number history key numbers ≡ None
missing-none history key numbers none =
    sym (ap (option_map (λ (op : Operation). op.number)) (find-due history key (is_listed numbers)))
    ∙ ap (unlisted_number (is_listed numbers)) none

-- ---- the numbers of operations

in_range : (first number count : ℕ) (op next : Operation) (found : Option Operation) (b : Bool) → (next.number == number) ≡ b → next.number ≡ first
    → cond b (Some next) found ≡ Some op → (found ≡ Some op → (first + 1 ≤ number) × (number < first + 1 + count)) → (first ≤ number) × (number < first + (count + 1))
in_range first number count op next found true same is found_is later =
    let e : next.number ≡ number = grind (arith, nat_tests) in (omega arith, omega arith)
in_range first number count op next found false other is found_is later =
    let range = later found_is in (omega (arith, range.0), omega (arith, range.1))

-- the operation of a number is one of those that are numbered from here on
operation_at-range : (first : ℕ) (ops : List Operation) (number : ℕ) (op : Operation) → IsNumberedFrom first ops → operation_at ops number ≡ Some op → (first ≤ number) × (number < first + length ops)
operation_at-range first [] number op numbered is = absurd cc
operation_at-range first (next ∷ ops) number op numbered is =
    let range = in_range first number (length ops) op next (operation_at ops number) (next.number == number) refl numbered.0 is (operation_at-range (first + 1) ops number op numbered.1) in
    (range.0, omega (arith, range.1))

member-place : (history : List Operation) (key : List ℕ) (number : ℕ) (found : Option Operation) → IsNumberedFrom 1 history → operation_at history number ≡ found → is_member key found ≡ true → IsPlace (length history) number
member-place history key number None numbered is member = absurd cc
member-place history key number (Some op) numbered is member =
    let range = operation_at-range 1 history number op numbered is in (range.0, omega (arith, range.1))

none_first : (number : ℕ) (later : Option ℕ) (b : Bool) → cond (not b) (Some number) later ≡ None → (b ≡ true) × (later ≡ None)
none_first number later true none = (refl, none)
none_first number later false none = absurd cc

-- where no number is a stranger's, each is that of an operation
pub places-members : (history : List Operation) (key numbers : List ℕ) → IsNumberedFrom 1 history → stranger_number history key numbers ≡ None → ArePlaces (length history) numbers
places-members history key [] numbered none = tt
places-members history key (number ∷ numbers) numbered none =
    let parts = none_first number (stranger_number history key numbers) (is_member key (operation_at history number)) none in
    (member-place history key number (operation_at history number) numbered refl parts.0, places-members history key numbers numbered parts.1)

-- ---- one number after the other

-- where each mark is below the order's, it has marked nothing
pub AreMarked-none : (order : ℕ) (marks : List ℕ) → AreBelow order marks → AreMarked [] order marks
AreMarked-none order marks below number place =
    let here : slice_index marks (number - 1) < order = below (number - 1) in
    grind (arith, nat_tests)

-- the list at the place of one number more
module _ (numbers : List ℕ) (place : ℕ) (within : place < length numbers) where
  abbrev number : ℕ
  number = get_or numbers place 0

  pub listed-next : (other : ℕ) → is_listed (take (place + 1) numbers) other ≡ (is_listed (take place numbers) other || (number == other))
  listed-next other =
      ap (λ numbers. is_listed numbers other) (take_more numbers place 0 within)
      ∙ list_any-append (λ listed. listed == other) (take place numbers) (number ∷ [])
      ∙ ap (λ b. is_listed (take place numbers) other || b) (or_nothing (number == other))
    where
      or_nothing : (a : Bool) → (a || false) ≡ a
      or_nothing true = refl
      or_nothing false = refl

  pub AreMarked-next : (order : ℕ) (old new : List ℕ) → length new ≡ length old → AreMarked (take place numbers) order old
      → ((other : ℕ) → IsPlace (length old) other → is_marked new order other ≡ (is_marked old order other || (number == other)))
      → AreMarked (take (place + 1) numbers) order new
  AreMarked-next order old new same are more other is_place =
      let is_old : IsPlace (length old) other = subst (λ (count : ℕ). IsPlace count other) same is_place in
      more other is_old ∙ ap (λ b. b || (number == other)) (are other is_old) ∙ sym (listed-next other)

  -- a number that was not among the earlier ones is passed
  pub repeated_after-next : is_listed (take place numbers) number ≡ false → repeated_after (take (place + 1) numbers) (drop (place + 1) numbers) ≡ repeated_after (take place numbers) (drop place numbers)
  repeated_after-next absent =
      ap (λ earlier. repeated_after earlier (drop (place + 1) numbers)) (take_more numbers place 0 within)
      ∙ sym (cond-false (is_listed (take place numbers) number) (Some number) (repeated_after (take place numbers ++ number ∷ []) (drop (place + 1) numbers)) absent)
      ∙ ap (repeated_after (take place numbers)) (sym (drop_more numbers place 0 within))

  -- a number that was among the earlier ones is the first that stands earlier too
  pub repeated_after-here : is_listed (take place numbers) number ≡ true → repeated_after (take place numbers) (drop place numbers) ≡ Some number
  repeated_after-here present =
      ap (repeated_after (take place numbers)) (drop_more numbers place 0 within)
      ∙ cond-true (is_listed (take place numbers) number) (Some number) (repeated_after (take place numbers ++ number ∷ []) (drop (place + 1) numbers)) present

-- Marks that several orders leave, one number and one order after the other.
use Rattle.std.proofs.Common.{◌≡◌, ℕ, zero, suc, ◌+◌, ◌<◌, Bool, true, false, ◌==◌, ◌||◌, List, [], ◌∷◌, ◌++◌, refl, sym, ap, ◌∙◌, subst, arith, length, get_or, take, drop}
use Rattle.std.proofs.lemmas.Bool.{or_parts}
use Rattle.std.proofs.lemmas.List.{take_more}
use Rattle.std.proofs.lemmas.List.Folds.{list_any-append}
use Rattle.std.specs.List.{AllByRecursion}
use Rattle.hy_order.specs.declared.operation.Operation.{Operation}
use Rattle.hy_order.specs.declared.order.Order.{Order}
use Rattle.hy_order.specs.Checking.{AreBelow, ArePlaces, IsPlace, is_marked}
use Rattle.hy_order.specs.Plain.{AreAlsoMarked, AreSound, IsSound, is_listed_among}
use Rattle.hy_order.specs.Violation.{is_listed, repeated_after}
use Rattle.hy_order.proofs.Marking.{AreMarked-none, listed-next, repeated_after-next}

or_apart : (a b c : Bool) → ((a || b) || c) ≡ (a || (b || c))
or_apart true b c = refl
or_apart false b c = refl

or_nothing : (a : Bool) → (a || false) ≡ a
or_nothing true = refl
or_nothing false = refl

each_at : (P : ℕ → Type 0) (numbers : List ℕ) (place : ℕ) → AllByRecursion P numbers → place < length numbers → P (get_or numbers place 0)
each_at P [] place all within = absurd (omega arith)
each_at P (number ∷ numbers) zero all within = all.0
each_at P (number ∷ numbers) (suc place) all within = each_at P numbers place all.1 (omega arith)

each_more : {X : Type 0} (P : X → Type 0) (xs : List X) (x : X) → AllByRecursion P xs → P x → AllByRecursion P (xs ++ x ∷ [])
each_more P [] x all holds = (holds, tt)
each_more P (first ∷ xs) x all holds = (all.0, each_more P xs x all.1 holds)

-- ---- one number more

pub AreAlsoMarked-none : (marks : List ℕ) → AreAlsoMarked [] marks marks
AreAlsoMarked-none marks number is_place = sym (or_nothing (is_marked marks 1 number))

module _ (numbers : List ℕ) (place : ℕ) (within : place < length numbers) where
  pub AreAlsoMarked-next : (first old new : List ℕ) → length new ≡ length old → AreAlsoMarked (take place numbers) first old
      → ((other : ℕ) → IsPlace (length old) other → is_marked new 1 other ≡ (is_marked old 1 other || (get_or numbers place 0 == other)))
      → AreAlsoMarked (take (place + 1) numbers) first new
  AreAlsoMarked-next first old new same are more other is_place =
      let is_old : IsPlace (length old) other = subst (λ (count : ℕ). IsPlace count other) same is_place in
      more other is_old
      ∙ ap (λ b. b || (get_or numbers place 0 == other)) (are other is_old)
      ∙ or_apart (is_marked first 1 other) (is_listed (take place numbers) other) (get_or numbers place 0 == other)
      ∙ ap (λ b. is_marked first 1 other || b) (sym (listed-next numbers place within other))

  -- a number that is not marked is not among the earlier ones
  pub repeated_after-new : (first old : List ℕ) → AreAlsoMarked (take place numbers) first old → ArePlaces (length old) numbers → is_marked old 1 (get_or numbers place 0) ≡ false
      → repeated_after (take (place + 1) numbers) (drop (place + 1) numbers) ≡ repeated_after (take place numbers) (drop place numbers)
  repeated_after-new first old are places unmarked =
      let here : IsPlace (length old) (get_or numbers place 0) = each_at (IsPlace (length old)) numbers place places within in
      repeated_after-next numbers place within
      (or_parts (is_marked first 1 (get_or numbers place 0)) (is_listed (take place numbers) (get_or numbers place 0))
      (sym (are (get_or numbers place 0) here) ∙ unmarked)).1

-- ---- one order more

pub AreSound-none : (ops : List Operation) (marks : List ℕ) → AreBelow 1 marks → AreSound ops [] marks
AreSound-none ops marks below = record { sound = tt; marked = λ number is_place. AreMarked-none 1 marks below number is_place }

pub AreSound-next : (ops : List Operation) (orders : List Order) (place : ℕ) (order : Order) (old new : List ℕ) → place < length orders → order ≡ get_or orders place order
    → length new ≡ length old → AreSound ops (take place orders) old → AreAlsoMarked order.ops old new → IsSound ops order → AreSound ops (take (place + 1) orders) new
AreSound-next ops orders place order old new within is same sound more holds =
    let up_to_here : take (place + 1) orders ≡ take place orders ++ order ∷ [] =
    take_more orders place order within ∙ ap (λ order. take place orders ++ order ∷ []) (sym is) in
    subst (λ orders. AreSound ops orders new) (sym up_to_here) (record {
      sound = each_more (IsSound ops) (take place orders) order sound.sound holds;
      marked = λ number is_place.
          let is_old : IsPlace (length old) number = subst (λ (count : ℕ). IsPlace count number) same is_place in
          more number is_place
          ∙ ap (λ b. b || is_listed order.ops number) (sound.marked number is_old)
          ∙ sym (list_any-append (λ (order : Order). is_listed order.ops number) (take place orders) (order ∷ [])
          ∙ ap (λ b. is_listed_among (take place orders) number || b) (or_nothing (is_listed order.ops number)));
    })

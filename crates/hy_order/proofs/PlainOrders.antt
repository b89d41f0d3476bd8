-- Sound orders under rising keys are legal, where no finished operation was left out.
use Rattle.std.proofs.Common.{◌≡◌, ℕ, ◌+◌, ◌≤◌, Bool, true, false, ◌==◌, ◌&&◌, ◌||◌, not, List, [], ◌∷◌, length, Option, Some, None, refl, sym, ap, subst, ◌∙◌, inl, inr, arith, eqb, eq-eqb, ne_eqb, Ordering}
use Rattle.std.proofs.lemmas.Bool.{and_parts, or_cases, cond-true, cond-false, not-false, eqb-true, false≢true, leb-true}
use Rattle.std.proofs.lemmas.Cmp.{nat_list_cmp_total}
use Rattle.std.specs.Cmp.Lexicographic.{bytes_decides, slice_cmp}
use Rattle.std.specs.declared.cmp.Ordering.TheVariants.{Less, Equal, Greater}
use Rattle.std.specs.List.{AllByRecursion, list_all, list_any}
use Rattle.std.specs.Option.{option_map}
use Rattle.std.specs.Ordering.{nat_cmp, is_lt, ordering_reverse}
use Rattle.hy_order.specs.declared.operation.Operation.{Operation}
use Rattle.hy_order.specs.declared.order.Order.{Order}
use Rattle.hy_order.specs.declared.verdict.Verdict.TheVariants.{Legal}
use Rattle.hy_order.specs.Checking.{IsPlace, is_marked}
use Rattle.hy_order.specs.History.{IsNumberedFrom, key_of_action}
use Rattle.hy_order.specs.Linearization.{is_of_key, is_finished, operation_at}
use Rattle.hy_order.specs.Plain.{AreSound, IsSound, are_rising, is_listed_among}
use Rattle.hy_order.specs.Violation.{first_illegal, is_listed, is_member, missing_number}
use Rattle.hy_order.proofs.Elements.{each}
use Rattle.hy_order.proofs.Illegal.{illegal-later}
use Rattle.hy_order.proofs.Legal.{find_none, find_none_from}
use Rattle.hy_order.proofs.Verdicts.{Legal-first}

-- ---- what holds of each element

pairs : {X : Type 0} (P Q : X → Type 0) (xs : List X) → AllByRecursion P xs → AllByRecursion Q xs → AllByRecursion (λ x. P x × Q x) xs
pairs P Q [] all every = tt
pairs P Q (x ∷ xs) all every = ((all.0, every.0), pairs P Q xs all.1 every.1)

transposed : {X Y : Type 0} (P : X → Y → Type 0) (xs : List X) (ys : List Y) → AllByRecursion (λ x. AllByRecursion (P x) ys) xs → AllByRecursion (λ y. AllByRecursion (λ x. P x y) xs) ys
transposed P xs [] all = tt
transposed P xs (y ∷ ys) all = (each (λ x both. both.0) xs all, transposed P xs ys (each (λ x both. both.1) xs all))

passes : {X : Type 0} (p : X → Bool) (xs : List X) → list_all p xs ≡ true → AllByRecursion (λ x. p x ≡ true) xs
passes p [] all = tt
passes p (x ∷ xs) all = let parts = and_parts _ _ all in (parts.0, passes p xs parts.1)

fails_all : {X : Type 0} (p : X → Bool) (xs : List X) → AllByRecursion (λ x. p x ≡ false) xs → list_any p xs ≡ false
fails_all p [] none = refl
fails_all p (x ∷ xs) none = ap (λ b. b || list_any p xs) none.0 ∙ fails_all p xs none.1

or_left : (a b : Bool) → a ≡ true → (a || b) ≡ true
or_left a b h = ap (λ x. x || b) h

or_right : (a b : Bool) → b ≡ true → (a || b) ≡ true
or_right true b h = refl
or_right false b h = h

at_listed : (P : ℕ → Type 0) (numbers : List ℕ) (number : ℕ) → AllByRecursion P numbers → is_listed numbers number ≡ true → P number
at_listed P [] number all there = absurd (false≢true there)
at_listed P (first ∷ numbers) number all there =
    elim (or_cases (eqb first number) (is_listed numbers number) there) [
      | inl same ↦ subst P (eqb-true first number same) all.0
      | inr later ↦ at_listed P numbers number all.1 later
    ]

-- ---- each operation is found by its number

not_below : (first : ℕ) (ops : List Operation) → IsNumberedFrom first ops → AllByRecursion (λ op. first ≤ op.number) ops
not_below first [] numbered = tt
not_below first (op ∷ ops) numbered =
    let here : op.number ≡ first = numbered.0 in
    (omega (arith, here), each (λ later le. let l : first + 1 ≤ later.number = le in omega (arith, l)) ops (not_below (first + 1) ops numbered.1))

own : (first : ℕ) (ops : List Operation) → IsNumberedFrom first ops → AllByRecursion (λ op. operation_at ops op.number ≡ Some op) ops
own first [] numbered = tt
own first (op ∷ ops) numbered =
    let here : op.number ≡ first = numbered.0 in (
      cond-true (op.number == op.number) (Some op) (operation_at ops op.number) (eq-eqb op.number op.number refl),
      each (λ later parts.
          let le : first + 1 ≤ later.number = parts.0 in
          cond-false (op.number == later.number) (Some op) (operation_at ops later.number) (ne_eqb _ _ (λ same. omega (arith, le, here, same))) ∙ parts.1)
          ops (pairs _ _ ops (not_below (first + 1) ops numbered.1) (own (first + 1) ops numbered.1)),
    )

-- ---- rising keys

less : (o : Ordering) → is_lt o ≡ true → o ≡ Less
less Less is = refl
less Equal is = absurd (false≢true is)
less Greater is = absurd (false≢true is)

not_below_itself : (key : List ℕ) → slice_cmp nat_cmp key key ≡ Less → ⊥
not_below_itself key below =
    let turned : slice_cmp nat_cmp key key ≡ ordering_reverse (slice_cmp nat_cmp key key) = nat_list_cmp_total.antisymm key key in
    let greater : Less ≡ Greater = sym below ∙ turned ∙ ap ordering_reverse below in
    cc

above : (last : List ℕ) (orders : List Order) → are_rising (Some last) orders ≡ true → AllByRecursion (λ order. slice_cmp nat_cmp last order.key ≡ Less) orders
above last [] rising = tt
above last (order ∷ orders) rising =
    let parts = and_parts _ _ rising in
    let first : slice_cmp nat_cmp last order.key ≡ Less = less (slice_cmp nat_cmp last order.key) parts.0 in
    (first, each (λ later next. nat_list_cmp_total.trans last order.key later.key first next) orders (above order.key orders parts.1))

-- ---- an operation that sound orders list is listed by that of its key

module _ (ops : List Operation) (op : Operation) (found : operation_at ops op.number ≡ Some op) where
  of_key : (key : List ℕ) → is_of_key key op ≡ true → key_of_action op.action ≡ key
  of_key key is = (bytes_decides (key_of_action op.action) key).0 is

  lists_own : (order : Order) → IsSound ops order → is_listed order.ops op.number ≡ true → is_of_key order.key op ≡ true
  lists_own order sound there =
      let known : AllByRecursion (λ number. not (is_member order.key (operation_at ops number)) ≡ false) order.ops = find_none _ order.ops sound.stranger in
      let member : is_member order.key (operation_at ops op.number) ≡ true =
      not-false _ (at_listed (λ number. not (is_member order.key (operation_at ops number)) ≡ false) order.ops op.number known there) in
      (and_parts _ _ (sym (ap (is_member order.key) found) ∙ member)).0

  among : (orders : List Order) → AllByRecursion (IsSound ops) orders → is_listed_among orders op.number ≡ true → list_any (λ (order : Order). is_of_key order.key op) orders ≡ true
  among [] sound there = there
  among (order ∷ orders) sound there =
      elim (or_cases (is_listed order.ops op.number) (is_listed_among orders op.number) there) [
        | inl here ↦ or_left _ _ (lists_own order sound.0 here)
        | inr later ↦ or_right _ _ (among orders sound.1 later)
      ]

  other_key : (key : List ℕ) (order : Order) → key_of_action op.action ≡ key → slice_cmp nat_cmp key order.key ≡ Less → (b : Bool) → is_of_key order.key op ≡ b → b ≡ false
  other_key key order is below true same =
      absurd (not_below_itself key (subst (λ k. slice_cmp nat_cmp key k ≡ Less) (sym (of_key order.key same) ∙ is) below))
  other_key key order is below false same = refl

  none_of_key : (key : List ℕ) (orders : List Order) → are_rising (Some key) orders ≡ true → key_of_action op.action ≡ key → AllByRecursion (λ order. is_of_key order.key op ≡ false) orders
  none_of_key key orders rising is =
      each (λ order below. other_key key order is below (is_of_key order.key op) refl) orders (above key orders rising)

  listed_by_key : (last : Option (List ℕ)) (orders : List Order) → are_rising last orders ≡ true → AllByRecursion (IsSound ops) orders → is_listed_among orders op.number ≡ true
      → AllByRecursion (λ order. is_of_key order.key op ≡ true → is_listed order.ops op.number ≡ true) orders
  listed_by_key last [] rising sound there = tt
  listed_by_key last (order ∷ orders) rising sound there =
      let later_rise : are_rising (Some order.key) orders ≡ true = (and_parts _ _ rising).1 in
      elim (or_cases (is_listed order.ops op.number) (is_listed_among orders op.number) there) [
        | inl here ↦ (
          λ is. here,
          each (λ later other is. absurd (false≢true (sym other ∙ is))) orders
              (none_of_key order.key orders later_rise (of_key order.key (lists_own order sound.0 here))),
        )
        | inr later ↦ (
          λ is. absurd (false≢true (
              sym (fails_all (λ (order : Order). is_of_key order.key op) orders (none_of_key order.key orders later_rise (of_key order.key is)))
              ∙ among orders sound.1 later)),
          listed_by_key (Some order.key) orders later_rise sound.1 later,
        )
      ]

-- ---- no operation is missed

unfinished : (a b c : Bool) → not b ≡ true → ((a && b) && c) ≡ false
unfinished true true c not_b = absurd (false≢true not_b)
unfinished false true c not_b = refl
unfinished true false c not_b = refl
unfinished false false c not_b = refl

known : (a b c : Bool) → (a ≡ true → c ≡ true) → ((a && b) && not c) ≡ false
known false b c lists = refl
known true b c lists = ap (λ c. b && not c) (lists refl) ∙ none b
  where
    none : (b : Bool) → (b && false) ≡ false
    none true = refl
    none false = refl

marked_place : (marks : List ℕ) (number : ℕ) → is_marked marks 1 number ≡ true → IsPlace (length marks) number
marked_place marks number is =
    let parts = and_parts _ _ (and_parts _ _ is).0 in
    (leb-true 1 number parts.0, leb-true number (length marks) parts.1)

not_missed : (ops : List Operation) (orders : List Order) (marks : List ℕ) → AreSound ops orders marks → are_rising None orders ≡ true
    → (op : Operation) → operation_at ops op.number ≡ Some op → (not (is_finished op.end) || is_marked marks 1 op.number) ≡ true
    → AllByRecursion (λ order. ((is_of_key order.key op && is_finished op.end) && not (is_listed order.ops op.number)) ≡ false) orders
not_missed ops orders marks sound rising op found done =
    elim (or_cases (not (is_finished op.end)) (is_marked marks 1 op.number) done) [
      | inl not_finished ↦ each (λ order _. unfinished (is_of_key order.key op) (is_finished op.end) (not (is_listed order.ops op.number)) not_finished) orders sound.sound
      | inr marked ↦
          let there : is_listed_among orders op.number ≡ true = sym (sound.marked op.number (marked_place marks op.number marked)) ∙ marked in
          each (λ order lists. known (is_of_key order.key op) (is_finished op.end) (is_listed order.ops op.number) lists) orders
          (listed_by_key ops op found None orders rising sound.sound there)
    ]

legal_orders : (ops : List Operation) (orders : List Order) → AllByRecursion (IsSound ops) orders → AllByRecursion (λ order. missing_number ops order.key order.ops ≡ None) orders → first_illegal ops orders ≡ None
legal_orders ops [] sound complete = refl
legal_orders ops (order ∷ orders) sound complete =
    illegal-later ops order orders Legal
    (Legal-first ops order.key order.ops complete.0 sound.0.stranger sound.0.twice sound.0.early sound.0.wrong) refl
    ∙ legal_orders ops orders sound.1 complete.1

pub plainly_legal : (ops : List Operation) (orders : List Order) (marks : List ℕ) → IsNumberedFrom 1 ops → AreSound ops orders marks → are_rising None orders ≡ true
    → list_all (λ op. not (is_finished op.end) || is_marked marks 1 op.number) ops ≡ true → first_illegal ops orders ≡ None
plainly_legal ops orders marks numbered sound rising finished =
    let each_op = each (λ op parts. not_missed ops orders marks sound rising op parts.0 parts.1) ops
    (pairs _ _ ops (own 1 ops numbered) (passes (λ op. not (is_finished op.end) || is_marked marks 1 op.number) ops finished)) in
    legal_orders ops orders sound.sound
    (each (λ order none. ap (option_map (λ (op : Operation). op.number)) (find_none_from _ ops none)) orders
    (transposed (λ (op : Operation) (order : Order). ((is_of_key order.key op && is_finished op.end) && not (is_listed order.ops op.number)) ≡ false) ops orders each_op))

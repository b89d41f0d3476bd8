-- An order has no violation exactly where it is a linearization.
use Rattle.std.proofs.Common.{◌≡◌, ◌≢◌, ℕ, suc, Bool, true, false, ◌&&◌, ◌||◌, not, cond, IsTrue, ◌↔◌, nat_eq, List, [], ◌∷◌, ◌++◌, Option, Some, None, is_none, Contains, refl, sym, ap, ◌∙◌, inl, inr, arith, eqb}
use Rattle.std.proofs.lemmas.Bool.{and_from, and_left, and_right, and_parts, and_cases, or_cases, or_parts, or_from, cond-true, cond-false, not-false, not_from_true, eqb-true, eq-eqb, false≢true, cases_Bool}
use Rattle.std.proofs.lemmas.List.Folds.{list_any-append, list_any_at}
use Rattle.std.specs.Cmp.Lexicographic.{bytes_decides}
use Rattle.std.specs.List.{AllByRecursion, IsDistinct, find}
use Rattle.std.specs.Option.{option_map, option_or, option_map_or}
use Rattle.hy_record.specs.Stamp.{Timestamp, stamp_eq}
use Rattle.hy_record.specs.declared.action.Action.{Action}
use Rattle.hy_record.specs.declared.action.Action.TheVariants as asked
use Rattle.hy_record.specs.declared.action.Reply.TheVariants as told
use Rattle.hy_record.proofs.Order.{stamp_eq-true, stamp_eq-same}
use Rattle.hy_order.specs.declared.verdict.Verdict.{Verdict}
use Rattle.hy_order.specs.declared.verdict.Verdict.TheVariants.{Legal, Missing, Stranger, Twice, Early, Wrong}
use Rattle.hy_order.specs.declared.operation.End.{End}
use Rattle.hy_order.specs.declared.operation.End.TheVariants.{Replied, Pending}
use Rattle.hy_order.specs.declared.operation.Operation.{Operation}
use Rattle.hy_order.specs.Linearization.{is_of_key, is_finished, Register, no_register, register_after, operation_at, listed, IsMember, IsStampOf, FindsStamp, TellsValue, TellsRegister, ReadsRegister, RespectsRealTime, IsLinearization}
use Rattle.hy_order.proofs.Elements.{each}
use Rattle.hy_order.specs.Violation.{is_listed, missing_number, is_member, stranger_number, repeated_after, early_numbers, is_held, is_stamp_of, tells_value, finds_stamp, tells_register, wrong_number, first_violation}

-- where a choice gives nothing
cond_none : {X : Type 0} (b : Bool) (x : X) (rest : Option X) → cond b (Some x) rest ≡ None → (b ≡ false) × (rest ≡ None)
cond_none true x rest none = cc
cond_none false x rest none = (refl, none)

cond_none_from : {X : Type 0} (b : Bool) (x : X) (rest : Option X) → b ≡ false → rest ≡ None → cond b (Some x) rest ≡ None
cond_none_from b x rest fails none = cond-false b (Some x) rest fails ∙ none

-- nothing is found exactly where each element fails the test
pub find_none : {X : Type 0} (p : X → Bool) (xs : List X) → find p xs ≡ None → AllByRecursion (λ x. p x ≡ false) xs
find_none p [] none = tt
find_none p (x ∷ xs) none = let parts = cond_none (p x) x (find p xs) none in (parts.0, find_none p xs parts.1)

pub find_none_from : {X : Type 0} (p : X → Bool) (xs : List X) → AllByRecursion (λ x. p x ≡ false) xs → find p xs ≡ None
find_none_from p [] all = refl
find_none_from p (x ∷ xs) all = cond_none_from (p x) x (find p xs) all.0 (find_none_from p xs all.1)

option_map_none : {X Y : Type 0} (f : X → Y) (o : Option X) → option_map f o ≡ None → o ≡ None
option_map_none f None none = refl
option_map_none f (Some x) none = cc

option_or_none : {X : Type 0} (o p : Option X) → option_or o p ≡ None → (o ≡ None) × (p ≡ None)
option_or_none None p none = (refl, none)
option_or_none (Some x) p none = cc

-- a number is listed exactly where the list contains it
Contains-listed : (numbers : List ℕ) (number : ℕ) → is_listed numbers number ≡ true → Contains numbers number
Contains-listed [] number there = absurd (false≢true there)
Contains-listed (first ∷ numbers) number there =
    elim (or_cases (eqb first number) (is_listed numbers number) there) [
      | inl same ↦ (0, omega arith, eqb-true first number same)
      | inr later ↦ let found = Contains-listed numbers number later in (suc found.0, omega (arith, found.1), found.2)
    ]

listed-Contains : (numbers : List ℕ) (number : ℕ) → Contains numbers number → is_listed numbers number ≡ true
listed-Contains numbers number there =
    list_any_at (λ other. eqb other number) numbers there.0 number there.1 (eq-eqb _ _ there.2)

-- nothing is missing exactly where each finished operation of the key is listed
module _ (key order : List ℕ) where
  abbrev is_due : Operation → Bool
  is_due op = is_of_key key op && is_finished op.end

  complete-op : (op : Operation) → (is_due op && not (is_listed order op.number)) ≡ false → IsTrue (is_due op) → Contains order op.number
  complete-op op fails due =
      Contains-listed order op.number (elim (and_cases (is_due op) (not (is_listed order op.number)) fails) [
        | inl undue ↦ absurd (false≢true (sym undue ∙ due))
        | inr known ↦ not-false _ known
      ])

  complete-op_from : (op : Operation) → (IsTrue (is_due op) → Contains order op.number) → (is_due op && not (is_listed order op.number)) ≡ false
  complete-op_from op there =
      elim (cases_Bool (is_due op)) [
        | inl due ↦ and_right (is_due op) _ (not_from_true _ (listed-Contains order op.number (there due)))
        | inr undue ↦ and_left _ _ undue
      ]

  complete : (history : List Operation) → missing_number history key order ≡ None → AllByRecursion (λ op. IsTrue (is_of_key key op && is_finished op.end) → Contains order op.number) history
  complete history none = each complete-op history (find_none _ history (option_map_none _ _ none))

  complete_from : (history : List Operation) → AllByRecursion (λ op. IsTrue (is_of_key key op && is_finished op.end) → Contains order op.number) history → missing_number history key order ≡ None
  complete_from history all = ap (option_map (λ (op : Operation). op.number)) (find_none_from _ history (each complete-op_from history all))

-- there is no stranger exactly where each listed number is that of a member
member-op : (history : List Operation) (key : List ℕ) (number : ℕ) (found : Option Operation) → operation_at history number ≡ found → is_member key found ≡ true → IsMember history key number
member-op history key number None is there = absurd (false≢true there)
member-op history key number (Some op) is there = let parts = and_parts _ _ there in (op, is, parts.0, parts.1)

members : (history : List Operation) (key order : List ℕ) → stranger_number history key order ≡ None → AllByRecursion (IsMember history key) order
members history key order none =
    each (λ number fails. member-op history key number (operation_at history number) refl (not-false _ fails)) order (find_none _ order none)

members_from : (history : List Operation) (key order : List ℕ) → AllByRecursion (IsMember history key) order → stranger_number history key order ≡ None
members_from history key order all =
    find_none_from _ order (each (λ number member. not_from_true _ (ap (is_member key) member.1 ∙ and_from _ _ member.2 member.3)) order all)

-- no number is repeated exactly where all differ, also from the earlier ones
record IsFresh (earlier order : List ℕ) : Type 0 where
  apart : AllByRecursion (λ number. is_listed earlier number ≡ false) order
  distinct : IsDistinct nat_eq order

fresh_more : (earlier : List ℕ) (number : ℕ) (order : List ℕ) → is_listed earlier number ≡ false → IsFresh (earlier ++ number ∷ []) order → IsFresh earlier (number ∷ order)
unfolding IsDistinct
fresh_more earlier number order new fresh =
    let parts : AllByRecursion (λ other. (is_listed earlier other ≡ false) × ((eqb number other || false) ≡ false)) order =
    each (λ other absent. or_parts _ _ (sym (list_any-append _ earlier (number ∷ [])) ∙ absent)) order fresh.apart in
    record {
      apart = (new, each (λ other both. both.0) order parts);
      distinct = (each (λ other both. (or_parts _ _ both.1).0) order parts, fresh.distinct);
    }

fresh_more_from : (earlier : List ℕ) (number : ℕ) (order : List ℕ) → IsFresh earlier (number ∷ order) → IsFresh (earlier ++ number ∷ []) order
unfolding IsDistinct
fresh_more_from earlier number order fresh = record {
  apart = both_apart order fresh.apart.1 fresh.distinct.0;
  distinct = fresh.distinct.1;
}
  where
    both_apart : (order : List ℕ) → AllByRecursion (λ other. is_listed earlier other ≡ false) order → AllByRecursion (λ other. nat_eq number other ≡ false) order → AllByRecursion (λ other. is_listed (earlier ++ number ∷ []) other ≡ false) order
    both_apart [] apart other = tt
    both_apart (x ∷ xs) apart other =
        (list_any-append _ earlier (number ∷ []) ∙ or_from _ _ apart.0 (or_from _ _ other.0 refl), both_apart xs apart.1 other.1)

fresh : (earlier order : List ℕ) → repeated_after earlier order ≡ None → IsFresh earlier order
unfolding IsDistinct
fresh earlier [] none = record { apart = tt; distinct = tt }
fresh earlier (number ∷ order) none =
    let parts = cond_none (is_listed earlier number) number (repeated_after (earlier ++ number ∷ []) order) none in
    fresh_more earlier number order parts.0 (fresh (earlier ++ number ∷ []) order parts.1)

fresh_from : (earlier order : List ℕ) → IsFresh earlier order → repeated_after earlier order ≡ None
fresh_from earlier [] known = refl
fresh_from earlier (number ∷ order) known =
    cond_none_from (is_listed earlier number) number (repeated_after (earlier ++ number ∷ []) order) known.apart.0
    (fresh_from (earlier ++ number ∷ []) order (fresh_more_from earlier number order known))

apart_from_none : (order : List ℕ) → AllByRecursion (λ number. is_listed [] number ≡ false) order
apart_from_none [] = tt
apart_from_none (number ∷ order) = (refl, apart_from_none order)

-- no pair is early exactly where real time is respected
real_time : (ops : List Operation) → early_numbers ops ≡ None → RespectsRealTime ops
real_time [] none = tt
real_time (op ∷ later) none =
    let parts = option_or_none _ _ none in
    (find_none _ later (option_map_none _ _ (option_map_none _ _ parts.0)), real_time later parts.1)

real_time_from : (ops : List Operation) → RespectsRealTime ops → early_numbers ops ≡ None
real_time_from [] respects = refl
real_time_from (op ∷ later) respects =
    ap (λ found. option_or (option_map (λ earlier. (earlier, op.number)) (option_map (λ (next : Operation). next.number) found)) (early_numbers later)) (find_none_from _ later respects.0)
    ∙ real_time_from later respects.1

-- no operation is wrong exactly where each tells what the register holds
holds : (held : Option (List ℕ)) (value : List ℕ) → is_held held value ≡ true → held ≡ Some value
holds None value there = absurd (false≢true there)
holds (Some held) value there = ap Some ((bytes_decides held value).0 there)

absent : (held : Option (List ℕ)) → is_none held ≡ true → held ≡ None
absent None there = refl
absent (Some held) there = absurd (false≢true there)

stamp_is : (held : Option Timestamp) (stamp : Timestamp) → is_stamp_of held stamp ≡ true → IsStampOf held stamp
stamp_is None stamp there = tt
stamp_is (Some held) stamp there = stamp_eq-true held stamp there

stamp_is_from : (held : Option Timestamp) (stamp : Timestamp) → IsStampOf held stamp → is_stamp_of held stamp ≡ true
stamp_is_from None stamp known = refl
stamp_is_from (Some held) stamp known = ap (λ (held : Timestamp). stamp_eq held stamp) known ∙ stamp_eq-same stamp

other_stamp : (a b : Timestamp) → not (stamp_eq a b) ≡ true → a ≢ b
other_stamp a b other same =
    let equal : stamp_eq a b ≡ true = ap (λ (a : Timestamp). stamp_eq a b) same ∙ stamp_eq-same b in
    false≢true (sym (ap not equal) ∙ other)

other_stamp_from : (a b : Timestamp) → a ≢ b → not (stamp_eq a b) ≡ true
other_stamp_from a b other =
    elim (cases_Bool (stamp_eq a b)) [
      | inl same ↦ absurd (other (stamp_eq-true a b same))
      | inr apart ↦ ap not apart
    ]

value_tells : (held : Register) (end : End) → tells_value held end ≡ true → TellsValue held end
value_tells held (Replied at (told.Value value stamp)) there = holds held.value value there
value_tells held (Replied at (told.Absent stamp)) there = absent held.value there
value_tells held (Replied at (told.Done stamp)) there = tt
value_tells held (Replied at (told.Exhausted stamp)) there = tt
value_tells held (Replied at (told.Collected count)) there = tt
value_tells held (Replied at (told.Swapped stamp)) there = tt
value_tells held (Replied at (told.Changed stamp)) there = tt
value_tells held (Pending phase have need) there = tt

value_tells_from : (held : Register) (end : End) → TellsValue held end → tells_value held end ≡ true
value_tells_from held (Replied at (told.Value value stamp)) known = ap (λ held. is_held held value) known ∙ (bytes_decides value value).1 refl
value_tells_from held (Replied at (told.Absent stamp)) known = ap is_none known
value_tells_from held (Replied at (told.Done stamp)) known = refl
value_tells_from held (Replied at (told.Exhausted stamp)) known = refl
value_tells_from held (Replied at (told.Collected count)) known = refl
value_tells_from held (Replied at (told.Swapped stamp)) known = refl
value_tells_from held (Replied at (told.Changed stamp)) known = refl
value_tells_from held (Pending phase have need) known = refl

stamp_found : (held : Register) (expected : Timestamp) (end : End) → finds_stamp held expected end ≡ true → FindsStamp held expected end
stamp_found held expected (Replied at (told.Swapped stamp)) there = stamp_is held.stamp expected there
stamp_found held expected (Replied at (told.Changed stamp)) there =
    let parts = and_parts (not (stamp_eq stamp expected)) (is_stamp_of held.stamp stamp) there in
    (other_stamp stamp expected parts.0, stamp_is held.stamp stamp parts.1)
stamp_found held expected (Replied at (told.Done stamp)) there = tt
stamp_found held expected (Replied at (told.Exhausted stamp)) there = tt
stamp_found held expected (Replied at (told.Value value stamp)) there = tt
stamp_found held expected (Replied at (told.Absent stamp)) there = tt
stamp_found held expected (Replied at (told.Collected count)) there = tt
stamp_found held expected (Pending phase have need) there = stamp_is held.stamp expected there

stamp_found_from : (held : Register) (expected : Timestamp) (end : End) → FindsStamp held expected end → finds_stamp held expected end ≡ true
stamp_found_from held expected (Replied at (told.Swapped stamp)) known = stamp_is_from held.stamp expected known
stamp_found_from held expected (Replied at (told.Changed stamp)) known =
    and_from (not (stamp_eq stamp expected)) (is_stamp_of held.stamp stamp) (other_stamp_from stamp expected known.0) (stamp_is_from held.stamp stamp known.1)
stamp_found_from held expected (Replied at (told.Done stamp)) known = refl
stamp_found_from held expected (Replied at (told.Exhausted stamp)) known = refl
stamp_found_from held expected (Replied at (told.Value value stamp)) known = refl
stamp_found_from held expected (Replied at (told.Absent stamp)) known = refl
stamp_found_from held expected (Replied at (told.Collected count)) known = refl
stamp_found_from held expected (Pending phase have need) known = stamp_is_from held.stamp expected known

tells : (held : Register) (action : Action) (end : End) → tells_register held action end ≡ true → TellsRegister held action end
tells held (asked.Put key value) end there = value_tells held end there
tells held (asked.Delete key) end there = value_tells held end there
tells held (asked.Get key) end there = value_tells held end there
tells held (asked.Collect key) end there = value_tells held end there
tells held (asked.Swap key expected value) end there = stamp_found held expected end there

tells_from : (held : Register) (action : Action) (end : End) → TellsRegister held action end → tells_register held action end ≡ true
tells_from held (asked.Put key value) end known = value_tells_from held end known
tells_from held (asked.Delete key) end known = value_tells_from held end known
tells_from held (asked.Get key) end known = value_tells_from held end known
tells_from held (asked.Collect key) end known = value_tells_from held end known
tells_from held (asked.Swap key expected value) end known = stamp_found_from held expected end known

cond_else_none : {X : Type 0} (b : Bool) (x : X) (rest : Option X) → cond b rest (Some x) ≡ None → (b ≡ true) × (rest ≡ None)
cond_else_none true x rest none = (refl, none)
cond_else_none false x rest none = cc

reads : (held : Register) (ops : List Operation) → wrong_number held ops ≡ None → ReadsRegister held ops
reads held [] none = tt
reads held (op ∷ later) none =
    let after : Register = register_after op.action op.end held in
    let parts = cond_else_none (tells_register held op.action op.end) op.number (wrong_number after later) none in
    (tells held op.action op.end parts.0, reads after later parts.1)

reads_from : (held : Register) (ops : List Operation) → ReadsRegister held ops → wrong_number held ops ≡ None
reads_from held [] known = refl
reads_from held (op ∷ later) known =
    cond-true (tells_register held op.action op.end) _ _ (tells_from held op.action op.end known.0) ∙ reads_from (register_after op.action op.end held) later known.1

-- each find of the chain gave nothing
record FindsNothing (history : List Operation) (key order : List ℕ) : Type 0 where
  missing : missing_number history key order ≡ None
  stranger : stranger_number history key order ≡ None
  twice : repeated_after [] order ≡ None
  early : early_numbers (listed history order) ≡ None
  wrong : wrong_number no_register (listed history order) ≡ None

legal_chain : (missing stranger twice : Option ℕ) (early : Option (ℕ × ℕ)) (wrong : Option ℕ) →
    option_map_or Missing missing (option_map_or Stranger stranger (option_map_or Twice twice (option_map_or (λ (pair : ℕ × ℕ). Early pair.0 pair.1) early (option_map_or Wrong wrong Legal)))) ≡ Legal
    → (missing ≡ None) × (stranger ≡ None) × (twice ≡ None) × (early ≡ None) × (wrong ≡ None)
legal_chain (Some a) stranger twice early wrong legal = cc
legal_chain None (Some a) twice early wrong legal = cc
legal_chain None None (Some a) early wrong legal = cc
legal_chain None None None (Some a) wrong legal = cc
legal_chain None None None None (Some a) legal = cc
legal_chain None None None None None legal = (refl, refl, refl, refl, refl)

legal_chain_from : (missing stranger twice : Option ℕ) (early : Option (ℕ × ℕ)) (wrong : Option ℕ) →
    missing ≡ None → stranger ≡ None → twice ≡ None → early ≡ None → wrong ≡ None
    → option_map_or Missing missing (option_map_or Stranger stranger (option_map_or Twice twice (option_map_or (λ (pair : ℕ × ℕ). Early pair.0 pair.1) early (option_map_or Wrong wrong Legal)))) ≡ Legal
legal_chain_from missing stranger twice early wrong e1 e2 e3 e4 e5 = rw (e1, e2, e3, e4, e5)

finds_nothing : (history : List Operation) (key order : List ℕ) → first_violation history key order ≡ Legal → FindsNothing history key order
unfolding first_violation
finds_nothing history key order legal =
    let parts = legal_chain (missing_number history key order) (stranger_number history key order) (repeated_after [] order) (early_numbers (listed history order)) (wrong_number no_register (listed history order)) legal in
    record { missing = parts.0; stranger = parts.1; twice = parts.2; early = parts.3; wrong = parts.4 }

finds_nothing_legal : (history : List Operation) (key order : List ℕ) → FindsNothing history key order → first_violation history key order ≡ Legal
unfolding first_violation
finds_nothing_legal history key order nothing =
    legal_chain_from (missing_number history key order) (stranger_number history key order) (repeated_after [] order) (early_numbers (listed history order)) (wrong_number no_register (listed history order))
    nothing.missing nothing.stranger nothing.twice nothing.early nothing.wrong

-- an order has no violation exactly where it is a linearization
pub Legal-IsLinearization : (history : List Operation) (key order : List ℕ) → (first_violation history key order ≡ Legal) ↔ IsLinearization history key order
Legal-IsLinearization history key order = (
  λ legal.
      let nothing : FindsNothing history key order = finds_nothing history key order legal in
      record {
        complete = complete key order history nothing.missing;
        members = members history key order nothing.stranger;
        distinct = (fresh [] order nothing.twice).distinct;
        real_time = real_time (listed history order) nothing.early;
        reads = reads no_register (listed history order) nothing.wrong;
      },
  λ known. finds_nothing_legal history key order (record {
    missing = complete_from key order history known.complete;
    stranger = members_from history key order known.members;
    twice = fresh_from [] order (record { apart = apart_from_none order; distinct = known.distinct });
    early = real_time_from (listed history order) known.real_time;
    wrong = reads_from no_register (listed history order) known.reads;
  }),
)

-- the verdict that names the first violation is Legal exactly where the order is a linearization
pub Legal-verdict : (history : List Operation) (key order : List ℕ) (verdict : Verdict) → verdict ≡ first_violation history key order → (verdict ≡ Legal) ↔ IsLinearization history key order
Legal-verdict history key order verdict is =
    let both = Legal-IsLinearization history key order in
    (λ legal. both.0 (sym is ∙ legal), λ known. is ∙ both.1 known)

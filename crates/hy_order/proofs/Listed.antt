-- Listed operations, taken one by one from the front or from the back.
use Rattle.std.proofs.Common.{◌≡◌, ℕ, ◌+◌, ◌-◌, ◌^◌, ◌<◌, ◌≤◌, Bool, true, false, ◌||◌, cond, ltb, min, List, [], ◌∷◌, length, map, Option, Some, None, option_map, is_some, refl, sym, ap, ◌∙◌, arith, get_or, take, drop}
use Rattle.std.proofs.lemmas.Bool.{cond-true, cond-false, lt-ltb, le-ltb}
use Rattle.std.proofs.lemmas.List.{drop_more, drop-map, take_rest}
use Rattle.std.specs.Borrow.{Bor}
use Rattle.std.specs.List.{find}
use Rattle.std.specs.Option.{option_or}
use Rattle.hy_order.specs.declared.operation.End.{End}
use Rattle.hy_order.specs.declared.operation.End.TheVariants.{Replied, Pending}
use Rattle.hy_order.specs.declared.operation.Operation.{Operation}
use Rattle.hy_order.specs.Linearization.{returned_before}
use Rattle.hy_order.specs.Checking.{early_part, return_step}
use Rattle.hy_order.specs.Violation.{early_numbers, returned_number}

-- the step of the earliest return
abbrev pub earliest_return : List Operation → ℕ
earliest_return [] = 18446744073709551615
earliest_return (op ∷ later) = min (return_step op.end) (earliest_return later)

-- a return before the step is one of which the earliest is before it
returned_before-return_step : (step : ℕ) (end : End) → step < 2 ^ 64 → returned_before step end ≡ ltb (return_step end) step
returned_before-return_step step (Replied at reply) within = refl
returned_before-return_step step (Pending phase have need) within = sym (le-ltb 18446744073709551615 step (omega arith))

min_before : (a b step : ℕ) → ltb (min a b) step ≡ (ltb a step || ltb b step)
min_before a b step = grind arith

is_some-find : {X : Type 0} (p : X → Bool) (x : X) (xs : List X) → is_some (find p (x ∷ xs)) ≡ (p x || is_some (find p xs))
is_some-find p x xs = at (p x)
  where
    at : (b : Bool) → is_some (cond b (Some x) (find p xs)) ≡ (b || is_some (find p xs))
    at true = refl
    at false = refl

pub earliest_return-before : (step : ℕ) (ops : List Operation) → step < 2 ^ 64 → ltb (earliest_return ops) step ≡ is_some (find (λ next. returned_before step next.end) ops)
earliest_return-before step [] within = le-ltb 18446744073709551615 step (omega arith)
earliest_return-before step (op ∷ later) within =
    min_before (return_step op.end) (earliest_return later) step
    ∙ ap (λ b. b || ltb (earliest_return later) step) (sym (returned_before-return_step step op.end within))
    ∙ ap (λ b. returned_before step op.end || b) (earliest_return-before step later within)
    ∙ sym (is_some-find (λ next. returned_before step next.end) op later)

module _ (ops : List Operation) (place next earliest : ℕ) (op : Operation) (is_next : next ≡ place + 1) (within : place < length ops) (is : op ≡ get_or ops place op) (earliest_is : earliest ≡ earliest_return (drop next ops)) where
  from_here : drop place ops ≡ op ∷ drop next ops
  from_here =
      drop_more ops place op within ∙ ap (λ op. op ∷ drop (place + 1) ops) (sym is) ∙ ap (λ next. op ∷ drop next ops) (sym is_next)

  -- the earliest return, with that of one operation more in front
  pub earliest_return-more : min earliest (return_step op.end) ≡ earliest_return (drop place ops)
  earliest_return-more =
      let same : min earliest (return_step op.end) ≡ min (return_step op.end) (earliest_return (drop next ops)) = omega (arith, earliest_is) in
      same ∙ ap earliest_return (sym from_here)

  early_part-at : op.invoked < 2 ^ 64 → early_part (drop place ops) ≡ cond (ltb earliest op.invoked) (drop place ops) (early_part (drop next ops))
  early_part-at small =
      let test : ltb earliest op.invoked ≡ is_some (find (λ later. returned_before op.invoked later.end) (drop next ops)) =
      ap (λ earliest. ltb earliest op.invoked) earliest_is ∙ earliest_return-before op.invoked (drop next ops) small in
      ap early_part from_here
      ∙ ap (λ b. cond b (op ∷ drop next ops) (early_part (drop next ops))) (sym test)
      ∙ ap (λ part. cond (ltb earliest op.invoked) part (early_part (drop next ops))) (sym from_here)

  -- the operation is early where one after it returned before its invocation
  pub early_part-here : op.invoked < 2 ^ 64 → earliest < op.invoked → drop place ops ≡ early_part (drop place ops)
  early_part-here small early = sym (early_part-at small ∙ cond-true _ _ _ (lt-ltb _ _ early))

  -- and otherwise the early part is that of the operations after it
  pub early_part-later : (part : List Operation) → op.invoked < 2 ^ 64 → op.invoked ≤ earliest → part ≡ early_part (drop next ops) → part ≡ early_part (drop place ops)
  early_part-later part small late is_part = is_part ∙ sym (early_part-at small ∙ cond-false _ _ _ (le-ltb _ _ late))

-- the early numbers are those of the first operation of the early part
first_pair : List Operation → Option (ℕ × ℕ)
first_pair [] = None
first_pair (op ∷ later) = option_map (λ earlier. (earlier, op.number)) (returned_number op.invoked later)

early_numbers-first : (op : Operation) (later : List Operation) (found : Option Operation) → find (λ next. returned_before op.invoked next.end) later ≡ found → early_numbers later ≡ first_pair (early_part later)
    → early_numbers (op ∷ later) ≡ first_pair (early_part (op ∷ later))
unfolding first_pair
early_numbers-first op later None is rest =
    ap (λ found. option_or (option_map (λ earlier. (earlier, op.number)) (option_map (λ (next : Operation). next.number) found)) (early_numbers later)) is
    ∙ rest
    ∙ sym (ap (λ found. first_pair (cond (is_some found) (op ∷ later) (early_part later))) is)
early_numbers-first op later (Some next) is rest =
    ap (λ found. option_or (option_map (λ earlier. (earlier, op.number)) (option_map (λ (next : Operation). next.number) found)) (early_numbers later)) is
    ∙ sym (ap (option_map (λ earlier. (earlier, op.number))) (ap (option_map (λ (next : Operation). next.number)) is))
    ∙ sym (ap (λ found. first_pair (cond (is_some found) (op ∷ later) (early_part later))) is)

early_numbers-part : (ops : List Operation) → early_numbers ops ≡ first_pair (early_part ops)
unfolding first_pair
early_numbers-part [] = refl
early_numbers-part (op ∷ later) = early_numbers-first op later (find (λ next. returned_before op.invoked next.end) later) refl (early_numbers-part later)

pub early_numbers-none : (ops : List Operation) → early_part ops ≡ [] → early_numbers ops ≡ None
unfolding first_pair
early_numbers-none ops none = early_numbers-part ops ∙ ap first_pair none

pub early_numbers-at : (ops : List Operation) (op : Operation) (later : List Operation) → early_part ops ≡ op ∷ later → early_numbers ops ≡ option_map (λ earlier. (earlier, op.number)) (returned_number op.invoked later)
unfolding first_pair
early_numbers-at ops op later is = early_numbers-part ops ∙ ap first_pair is

-- the operations behind references
abbrev pub targets : List (Bor Operation) → List Operation
targets ops = map (λ (op : Bor Operation). op.now) ops

-- the early part, read from the references that begin at its place
pub early_part-targets : (ops : List (Bor Operation)) (start : ℕ) (rest : List (Bor Operation)) → drop start (targets ops) ≡ early_part (targets ops) → take (length ops - start) (drop start ops) ≡ rest
    → early_part (targets ops) ≡ targets rest
early_part-targets ops start rest part cut =
    sym part ∙ drop-map (λ (op : Bor Operation). op.now) start ops ∙ ap targets (sym (take_rest ops start) ∙ cut)

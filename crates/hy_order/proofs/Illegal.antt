-- No order of a report is illegal exactly where each is a linearization.
use Rattle.std.proofs.Common.{◌≡◌, ℕ, true, false, ◌↔◌, List, [], ◌∷◌, Option, Some, None, cond, refl, sym, ap, ◌∙◌}
use Rattle.std.specs.List.{AllByRecursion}
use Rattle.std.specs.Option.{option_or}
use Rattle.hy_order.specs.declared.verdict.Verdict.{Verdict}
use Rattle.hy_order.specs.declared.verdict.Verdict.TheVariants.{Legal, Missing, Stranger, Twice, Early, Wrong}
use Rattle.hy_order.specs.declared.operation.Operation.{Operation}
use Rattle.hy_order.specs.declared.order.Order.{Order}
use Rattle.hy_order.specs.Linearization.{IsLinearized}
use Rattle.hy_order.specs.Violation.{first_violation, is_legal, illegal_order, first_illegal}
use Rattle.hy_order.proofs.Legal.{Legal-IsLinearization}

legal_verdict : (verdict : Verdict) (key : List ℕ) (rest : Option (List ℕ × Verdict)) → option_or (illegal_order key verdict) rest ≡ None → (verdict ≡ Legal) × (rest ≡ None)
legal_verdict Legal key rest none = (refl, none)
legal_verdict (Missing number) key rest none = cc
legal_verdict (Stranger number) key rest none = cc
legal_verdict (Twice number) key rest none = cc
legal_verdict (Early earlier later) key rest none = cc
legal_verdict (Wrong number) key rest none = cc

linearized : (history : List Operation) (orders : List Order) → first_illegal history orders ≡ None → AllByRecursion (IsLinearized history) orders
linearized history [] none = tt
linearized history (order ∷ orders) none =
    let parts = legal_verdict (first_violation history order.key order.ops) order.key (first_illegal history orders) none in
    ((Legal-IsLinearization history order.key order.ops).0 parts.0, linearized history orders parts.1)

linearized_from : (history : List Operation) (orders : List Order) → AllByRecursion (IsLinearized history) orders → first_illegal history orders ≡ None
linearized_from history [] all = refl
linearized_from history (order ∷ orders) all =
    ap (λ verdict. option_or (illegal_order order.key verdict) (first_illegal history orders)) ((Legal-IsLinearization history order.key order.ops).1 all.0)
    ∙ linearized_from history orders all.1

pub none_illegal : (history : List Operation) (orders : List Order) → (first_illegal history orders ≡ None) ↔ AllByRecursion (IsLinearized history) orders
none_illegal history orders = (linearized history orders, linearized_from history orders)

-- what is found in an order stands at the front of what is found in it and those after it
pub illegal-first : (history : List Operation) (order : Order) (orders : List Order) (verdict : Verdict) → verdict ≡ first_violation history order.key order.ops → is_legal verdict ≡ false
    → first_illegal history (order ∷ orders) ≡ Some (order.key, verdict)
illegal-first history order orders verdict is illegal =
    ap (λ verdict. option_or (illegal_order order.key verdict) (first_illegal history orders)) (sym is)
    ∙ ap (λ legal. option_or (cond legal None (Some (order.key, verdict))) (first_illegal history orders)) illegal

pub illegal-later : (history : List Operation) (order : Order) (orders : List Order) (verdict : Verdict) → verdict ≡ first_violation history order.key order.ops → is_legal verdict ≡ true
    → first_illegal history (order ∷ orders) ≡ first_illegal history orders
illegal-later history order orders verdict is legal =
    ap (λ verdict. option_or (illegal_order order.key verdict) (first_illegal history orders)) (sym is)
    ∙ ap (λ legal. option_or (cond legal None (Some (order.key, verdict))) (first_illegal history orders)) legal

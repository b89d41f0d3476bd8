-- A log has two invocations and returns at most for each row.
use Rattle.std.proofs.Common.{◌≡◌, ℕ, zero, suc, ◌+◌, ◌*◌, ◌/◌, ◌<◌, ◌≤◌, Bool, true, false, cond, eqb, ltb, List, [], ◌∷◌, ◌++◌, length, map, Option, Some, None, is_some, refl, sym, ap, ◌∙◌, subst, inl, inr, arith, append_assoc, append-nil, eqb-true, eq-eqb, div-lt_iff_lt-mul}
use Rattle.std.specs.Option.{option_or}
use Rattle.std.specs.List.{AllByRecursion}
use Rattle.std.proofs.lemmas.Bool.{both_ways}
use Rattle.std.proofs.lemmas.Bool.Decides.{nat_tests}
use Rattle.std.proofs.lemmas.Option.{none-some}
use Rattle.hy_points.specs.declared.point.Point.{Point}
use Rattle.hy_points.specs.declared.point.Point.TheVariants as point
use Rattle.hy_points.specs.Lookups.{first_from, beginning_at, ending_at, beginning, ending, has_ended}
use Rattle.hy_points.specs.Atomic.{Continues, Fits, IsAtomicLog}
use Rattle.hy_shared.specs.declared.layout.Layout.{Layout}
use Rattle.hy_shared.specs.declared.event.Event.{Event}
use Rattle.hy_shared.specs.declared.event.Event.TheVariants.{Begin, Ask, Set, End}
use Rattle.hy_shared.specs.Layout.{IsLayout}
use Rattle.hy_shared.specs.Events.{point_of, points_of, row_in, weight_of, event_number}
use Rattle.hy_shared.specs.Rule.{IsWithin}
use Rattle.hy_shared.proofs.LogMore.{first-more}

-- ---- points of one kind, of which an operation has one at most

-- how many points are of a kind
abbrev pub count : (Point → ℕ) → List Point → ℕ
count kind [] = 0
count kind (p ∷ ps) = kind p + count kind ps

count-more : (kind : Point → ℕ) (ps : List Point) (p : Point) → count kind (ps ++ p ∷ []) ≡ count kind ps + kind p
count-more kind [] p = omega arith
count-more kind (q ∷ ps) p = let r = count-more kind ps p in omega (arith, r)

module _ {A : Type 0} (kind : Point → ℕ) (pick : ℕ → Point → Option A)
    (few : (p : Point) → kind p ≤ 1)
    (silent : (n : ℕ) (p : Point) → pick n p ≡ None → kind p ≡ 0)
    (fresh : (before : List Point) (p : Point) (n : ℕ) (x : A) → Fits before p → pick n p ≡ Some x → first_from pick 0 before ≡ None) where
  one-at-most : (before later : List Point) → Continues Fits before later → count kind before ≤ 1 → (first_from pick 0 before ≡ None → count kind before ≡ 0) → count kind (before ++ later) ≤ 1
  one-at-most before [] fits upto none = subst (λ l. count kind l ≤ 1) (sym (append-nil before)) upto
  one-at-most before (q ∷ later) fits upto none =
      let next = by_pick (pick (0 + length before) q) refl in
      subst (λ l. count kind l ≤ 1) (append_assoc before (q ∷ []) later) (one-at-most (before ++ q ∷ []) later fits.1 next.0 next.1)
    where
      more : count kind (before ++ q ∷ []) ≡ count kind before + kind q
      more = count-more kind before q

      firsts : first_from pick 0 (before ++ q ∷ []) ≡ option_or (first_from pick 0 before) (pick (0 + length before) q)
      firsts = first-more pick 0 before q

      or-right : (a : Option A) → option_or a None ≡ None → a ≡ None
      or-right None e = refl
      or-right (Some x) e = e

      by_pick : (o : Option A) → pick (0 + length before) q ≡ o → (count kind (before ++ q ∷ []) ≤ 1) × (first_from pick 0 (before ++ q ∷ []) ≡ None → count kind (before ++ q ∷ []) ≡ 0)
      by_pick None is =
          let zero_ = silent (0 + length before) q is in (
            omega (arith, more, zero_, upto),
            λ e. let first : first_from pick 0 before ≡ None = or-right (first_from pick 0 before) (ap (option_or (first_from pick 0 before)) (sym is) ∙ sym firsts ∙ e) in
                let old = none first in omega (arith, more, zero_, old),
          )
      by_pick (Some x) is =
          let first : first_from pick 0 before ≡ None = fresh before q (0 + length before) x fits.0 is in
          let old = none first in let one = few q in (
            omega (arith, more, old, one),
            λ e. absurd (none-some x (sym e ∙ firsts ∙ ap (λ o. option_or o (pick (0 + length before) q)) first ∙ is)),
          )

-- ---- invocations and returns

abbrev pub begins_of : ℕ → Point → ℕ
begins_of op (point.Begin o client key act) = cond (eqb o op) 1 0
begins_of op (point.Ask o found) = 0
begins_of op (point.Set o stamp applied) = 0
begins_of op (point.Try o stamp found) = 0
begins_of op (point.End o) = 0

abbrev pub ends_of : ℕ → Point → ℕ
ends_of op (point.Begin o client key act) = 0
ends_of op (point.Ask o found) = 0
ends_of op (point.Set o stamp applied) = 0
ends_of op (point.Try o stamp found) = 0
ends_of op (point.End o) = cond (eqb o op) 1 0

abbrev one_if : Bool → ℕ
one_if b = cond b 1 0

one-or-none : (b : Bool) → one_if b ≤ 1
one-or-none true = omega arith
one-or-none false = omega arith

none-of : {A : Type 0} (b : Bool) (x : A) → cond b (Some x) None ≡ None → one_if b ≡ 0
none-of true x e = absurd (none-some x (sym e))
none-of false x e = refl

test-of : {A : Type 0} (b : Bool) (x y : A) → cond b (Some x) None ≡ Some y → b ≡ true
test-of true x y e = refl
test-of false x y e = absurd (none-some y e)

not-some : {A : Type 0} (o : Option A) → is_some o ≡ false → o ≡ None
not-some None e = refl
not-some (Some x) e = absurd (both_ways true e refl)

begins-few : (op : ℕ) (p : Point) → begins_of op p ≤ 1
begins-few op (point.Begin o client key act) = one-or-none (eqb o op)
begins-few op (point.Ask o found) = omega arith
begins-few op (point.Set o stamp applied) = omega arith
begins-few op (point.Try o stamp found) = omega arith
begins-few op (point.End o) = omega arith

begins-silent : (op n : ℕ) (p : Point) → beginning_at op n p ≡ None → begins_of op p ≡ 0
begins-silent op n (point.Begin o client key act) e = none-of (eqb o op) _ e
begins-silent op n (point.Ask o found) e = refl
begins-silent op n (point.Set o stamp applied) e = refl
begins-silent op n (point.Try o stamp found) e = refl
begins-silent op n (point.End o) e = refl

begins-fresh : (op : ℕ) (before : List Point) (p : Point) (n : ℕ) (x : Rattle.hy_points.specs.Lookups.Beginning) → Fits before p → beginning_at op n p ≡ Some x → first_from (beginning_at op) 0 before ≡ None
unfolding beginning
begins-fresh op before (point.Begin o client key act) n x fits e = subst (λ k. first_from (beginning_at k) 0 before ≡ None) (eqb-true o op (test-of (eqb o op) _ x e)) fits.is_new
begins-fresh op before (point.Ask o found) n x fits e = absurd (none-some x e)
begins-fresh op before (point.Set o stamp applied) n x fits e = absurd (none-some x e)
begins-fresh op before (point.Try o stamp found) n x fits e = absurd (none-some x e)
begins-fresh op before (point.End o) n x fits e = absurd (none-some x e)

ends-few : (op : ℕ) (p : Point) → ends_of op p ≤ 1
ends-few op (point.Begin o client key act) = omega arith
ends-few op (point.Ask o found) = omega arith
ends-few op (point.Set o stamp applied) = omega arith
ends-few op (point.Try o stamp found) = omega arith
ends-few op (point.End o) = one-or-none (eqb o op)

ends-silent : (op n : ℕ) (p : Point) → ending_at op n p ≡ None → ends_of op p ≡ 0
ends-silent op n (point.Begin o client key act) e = refl
ends-silent op n (point.Ask o found) e = refl
ends-silent op n (point.Set o stamp applied) e = refl
ends-silent op n (point.Try o stamp found) e = refl
ends-silent op n (point.End o) e = none-of (eqb o op) n e

ends-fresh : (op : ℕ) (before : List Point) (p : Point) (n x : ℕ) → Fits before p → ending_at op n p ≡ Some x → first_from (ending_at op) 0 before ≡ None
unfolding ending
ends-fresh op before (point.Begin o client key act) n x fits e = absurd (none-some x e)
ends-fresh op before (point.Ask o found) n x fits e = absurd (none-some x e)
ends-fresh op before (point.Set o stamp applied) n x fits e = absurd (none-some x e)
ends-fresh op before (point.Try o stamp found) n x fits e = absurd (none-some x e)
ends-fresh op before (point.End o) n x fits e = subst (λ k. first_from (ending_at k) 0 before ≡ None) (eqb-true o op (test-of (eqb o op) n x e)) (not-some _ fits.runs.not_ended)

begun-once : (ps : List Point) → IsAtomicLog ps → (op : ℕ) → count (begins_of op) ps ≤ 1
unfolding IsAtomicLog
begun-once ps atomic op = one-at-most (begins_of op) (beginning_at op) (begins-few op) (begins-silent op) (begins-fresh op) [] ps atomic (omega arith) (λ e. refl)

ended-once : (ps : List Point) → IsAtomicLog ps → (op : ℕ) → count (ends_of op) ps ≤ 1
unfolding IsAtomicLog
ended-once ps atomic op = one-at-most (ends_of op) (ending_at op) (ends-few op) (ends-silent op) (ends-fresh op) [] ps atomic (omega arith) (λ e. refl)

-- ---- events of the rows below a bound

abbrev below : ℕ → List Event → ℕ
below n [] = 0
below n (e ∷ es) = cond (ltb (row_in e) n) (weight_of e) 0 + below n es

at-row : (n : ℕ) (e : Event) → cond (ltb (row_in e) (suc n)) (weight_of e) 0 ≡ cond (ltb (row_in e) n) (weight_of e) 0 + (begins_of n (point_of e) + ends_of n (point_of e))
at-row n (Begin row client key act) = grind (arith, nat_tests)
at-row n (Ask row found) = grind (arith, nat_tests)
at-row n (Set row key stamp applied words) = grind (arith, nat_tests)
at-row n (End row stamp) = grind (arith, nat_tests)

below-suc : (n : ℕ) (es : List Event) → below (suc n) es ≡ below n es + (count (begins_of n) (points_of es) + count (ends_of n) (points_of es))
below-suc n [] = refl
below-suc n (e ∷ es) = let h = at-row n e in let t = below-suc n es in omega (arith, h, t)

below-zero : (es : List Event) → below 0 es ≡ 0
below-zero [] = refl
below-zero (e ∷ es) = let h : ltb (row_in e) 0 ≡ false = grind (arith, nat_tests) in let r = below-zero es in rw h (omega (arith, r))

below-twice : (es : List Event) → IsAtomicLog (points_of es) → (n : ℕ) → below n es ≤ 2 * n
below-twice es atomic zero = let e = below-zero es in omega (arith, e)
below-twice es atomic (suc n) =
    let e = below-suc n es in let r = below-twice es atomic n in
    let b = begun-once (points_of es) atomic n in let d = ended-once (points_of es) atomic n in omega (arith, e, r, b, d)

below-all : (n : ℕ) (es : List Event) → AllByRecursion (λ e. row_in e < n) es → below n es ≡ event_number es
below-all n [] all = refl
below-all n (e ∷ es) all = let h : ltb (row_in e) n ≡ true = Rattle.std.proofs.Common.lt-ltb (row_in e) n all.0 in rw h (ap (λ k. weight_of e + k) (below-all n es all.1))

rows-below : (z : Layout) (given : ℕ) → IsLayout z → given ≤ z.clients → (es : List Event) → AllByRecursion (IsWithin z given) es → AllByRecursion (λ e. row_in e < z.clients * z.ops) es
rows-below z given good few [] all = tt
rows-below z given good few (e ∷ es) all =
    let client = all.0.client in let some_op = good.some_op in
    ((div-lt_iff_lt-mul {k = z.ops} {x = row_in e} {y = z.clients} (omega (arith, some_op))).0 (omega (arith, client, few)), rows-below z given good few es all.1)

-- the events of a table are few
pub few-events : (z : Layout) (given : ℕ) → IsLayout z → given ≤ z.clients → (es : List Event) → IsAtomicLog (points_of es) → AllByRecursion (IsWithin z given) es → event_number es ≤ 16777214
few-events z given good few es atomic within =
    let n : ℕ = z.clients * z.ops in let rows = good.rows in
    let all = below-all n es (rows-below z given good few es within) in let twice = below-twice es atomic n in omega (arith, all, twice, rows)

-- Steps that answer a value or a fault: what is known where the last answers a value, and where one fails.
use Rattle.std.proofs.Common.{◌≡◌, List, [], ◌∷◌, ◌++◌, Option, Some, None, Result, Ok, Err, refl, sym, ap, append_assoc}
use Rattle.std.specs.Prelude.{IfSome}
use Rattle.hy_base.specs.Results.{◌>>=◌, Fails}

-- the value of the first step, where both answered one
pub bind_ok : {A B E : Type 0} (read : Result A E) (next : A → Result B E) (y : B) → (read >>= next) ≡ Ok y → (x : A) × (read ≡ Ok x) × (next x ≡ Ok y)
bind_ok (Ok x) next y e = (x, refl, e)
bind_ok (Err fault) next y e = absurd cc

abbrev answer : {A E : Type 0} → A → Result A E
answer x = Ok x

-- two answers that are the same have the same value
pub ok_is : {A E : Type 0} (x y : A) → answer {E = E} x ≡ answer y → x ≡ y
ok_is x y e = cc

-- where the first step fails, all fails so
pub bind_fails : {A B D E : Type 0} (fault_of : E → Option D) (error : E) (read : Result A D) (next : A → Result B D) → Fails fault_of error read → Fails fault_of error (read >>= next)
bind_fails {A = A} {B = B} {D = D} fault_of error read next fails = by (fault_of error) fails
  where
    by : (fault : Option D) → IfSome fault (λ f. read ≡ Err f) → IfSome fault (λ f. (read >>= next) ≡ Err f)
    by None e = tt
    by (Some fault) e = ap (λ (r : Result A D). r >>= next) e

-- ---- one item after another

-- the items that were read before, and those that are still read
abbrev pub with_front : {A E : Type 0} → List A → Result (List A) E → Result (List A) E
with_front front later = later >>= λ items. Ok (front ++ items)

-- an item that is read moves from what is still read to what was read before
pub with_front-more : {A E : Type 0} (front : List A) (item : A) (later : Result (List A) E) → with_front front (later >>= λ items. Ok (item ∷ items)) ≡ with_front (front ++ item ∷ []) later
with_front-more {A = A} front item (Ok items) = ap (λ (all : List A). Ok all) (sym (append_assoc front (item ∷ []) items))
with_front-more front item (Err fault) = refl

-- the same where something is left behind the items
abbrev pub with_items : {A R E : Type 0} → List A → Result (List A × R) E → Result (List A × R) E
with_items front later = later >>= λ more. Ok (front ++ more.0, more.1)

pub with_items-more : {A R E : Type 0} (front : List A) (item : A) (later : Result (List A × R) E) → with_items front (later >>= λ more. Ok (item ∷ more.0, more.1)) ≡ with_items (front ++ item ∷ []) later
with_items-more {A = A} front item (Ok more) = ap (λ (all : List A). Ok (all, more.1)) (sym (append_assoc front (item ∷ []) more.0))
with_items-more front item (Err fault) = refl

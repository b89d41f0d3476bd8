-- The values of the fields of a name, as a loop finds them.
use Rattle.std.proofs.Common.{◌≡◌, ℕ, Bool, true, false, cond, List, [], ◌∷◌, ◌++◌, refl, ap, ◌∙◌}
use Rattle.std.specs.Prelude.{map, filter}
use Rattle.hy_cwire.specs.declared.fields.Named.{Named}
use Rattle.hy_cwire.specs.declared.fields.Named.TheVariants.{None, One, Several}
use Rattle.hy_cwire.specs.Lengths.{Pair, has_name, values_named}
use Rattle.hy_cwire.specs.Named.{IsNamed}

-- a field of the name adds its value
pub values-push : (name : List ℕ) (fields : List Pair) (one : Pair) → has_name name one ≡ true → values_named name (fields ++ one ∷ []) ≡ values_named name fields ++ one.1 ∷ []
unfolding values_named
values-push name [] one is = rw is refl
values-push name (f ∷ fields) one is = at (has_name name f) (values-push name fields one is)
  where
    at : (b : Bool) → values_named name (fields ++ one ∷ []) ≡ values_named name fields ++ one.1 ∷ []
        → map (λ (field : Pair). field.1) (cond b (f ∷ filter (has_name name) (fields ++ one ∷ [])) (filter (has_name name) (fields ++ one ∷ []))) ≡ map (λ (field : Pair). field.1) (cond b (f ∷ filter (has_name name) fields) (filter (has_name name) fields)) ++ one.1 ∷ []
    at true later = ap (λ (l : List (List ℕ)). f.1 ∷ l) later
    at false later = later

-- another field adds none
pub values-other : (name : List ℕ) (fields : List Pair) (one : Pair) → has_name name one ≡ false → values_named name (fields ++ one ∷ []) ≡ values_named name fields
unfolding values_named
values-other name [] one is = rw is refl
values-other name (f ∷ fields) one is = at (has_name name f) (values-other name fields one is)
  where
    at : (b : Bool) → values_named name (fields ++ one ∷ []) ≡ values_named name fields
        → map (λ (field : Pair). field.1) (cond b (f ∷ filter (has_name name) (fields ++ one ∷ [])) (filter (has_name name) (fields ++ one ∷ []))) ≡ map (λ (field : Pair). field.1) (cond b (f ∷ filter (has_name name) fields) (filter (has_name name) fields))
    at true later = ap (λ (l : List (List ℕ)). f.1 ∷ l) later
    at false later = later

-- what follows keeps the values before it
pub values-append : (name : List ℕ) (fields more : List Pair) → values_named name (fields ++ more) ≡ values_named name fields ++ values_named name more
unfolding values_named
values-append name [] more = refl
values-append name (f ∷ fields) more = at (has_name name f) (values-append name fields more)
  where
    at : (b : Bool) → values_named name (fields ++ more) ≡ values_named name fields ++ values_named name more
        → map (λ (field : Pair). field.1) (cond b (f ∷ filter (has_name name) (fields ++ more)) (filter (has_name name) (fields ++ more))) ≡ map (λ (field : Pair). field.1) (cond b (f ∷ filter (has_name name) fields) (filter (has_name name) fields)) ++ values_named name more
    at true later = ap (λ (l : List (List ℕ)). f.1 ∷ l) later
    at false later = later

pub values-nil : (name : List ℕ) → values_named name [] ≡ []
unfolding values_named
values-nil name = refl

some_value : (values : List (List ℕ)) (found : Named) → IsNamed values found → (found ≡ None → ⊥) → (first : List ℕ) × (more : List (List ℕ)) × (values ≡ first ∷ more)
some_value values None is other = absurd (other refl)
some_value values (One value) is other = (value.now, [], is)
some_value values Several is other = (is.0, is.1 ∷ is.2, is.3)

-- a second field of the name
pub two-values : (name : List ℕ) (fields : List Pair) (before : List Pair) (one : Pair) (after : List Pair) (found : Named) → fields ≡ (before ++ one ∷ []) ++ after → has_name name one ≡ true → IsNamed (values_named name before) found → (found ≡ None → ⊥)
    → IsNamed (values_named name fields) Several
two-values name fields before one after found parts is named other =
    let s = some_value (values_named name before) found named other in
    let push : values_named name (before ++ one ∷ []) ≡ values_named name before ++ one.1 ∷ [] = values-push name before one is in
    let all : values_named name fields ≡ ((s.0 ∷ s.1) ++ one.1 ∷ []) ++ values_named name after =
    ap (values_named name) parts ∙ values-append name (before ++ one ∷ []) after ∙ ap (λ (v : List (List ℕ)). v ++ values_named name after) (push ∙ ap (λ (v : List (List ℕ)). v ++ one.1 ∷ []) s.2) in
    at s.1 all
  where
    at : (more : List (List ℕ)) → values_named name fields ≡ (((some_value (values_named name before) found named other).0 ∷ more) ++ one.1 ∷ []) ++ values_named name after → IsNamed (values_named name fields) Several
    at [] same = (_, one.1, values_named name after, same)
    at (second ∷ more) same = (_, second, (more ++ one.1 ∷ []) ++ values_named name after, same)

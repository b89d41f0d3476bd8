-- Elements of lists: in a reversed list, in a sorted one, by their numbers.
use Rattle.std.proofs.Common.{◌≡◌, ◌≢◌, ℕ, suc, ◌+◌, ◌≤◌, true, false, List, [], ◌∷◌, ◌++◌, length, map, reverse, Option, Some, None, refl, sym, ap, subst, ◌∙◌, inl, inr, arith}
use Rattle.std.specs.Prelude.{◌⊎◌, ◌==◌, nat_eq, Contains}
use Rattle.std.specs.List.{AllByRecursion, IsDistinct, filter_map, cons_option}
use Rattle.std.proofs.lemmas.Bool.{eq-eqb, ne_eqb}
use Rattle.std.proofs.lemmas.Grind.{reverse_onto}
use Rattle.hy_meta.proofs.Rising.{cases_bool}
use Rattle.hy_order.specs.declared.operation.Operation.{Operation}
use Rattle.hy_order.specs.History.{IsNumberedFrom}
use Rattle.hy_order.specs.Linearization.{operation_at, listed}
use Rattle.hy_trace.specs.Order.{Mark, is_behind, insert_mark, sorted_marks, number_of}
use Rattle.hy_theorems.proofs.Ordering.{op_of, all-inserted, all-sorted}

-- the element is one of these
abbrev pub IsIn : {A : Type 0} → List A → A → Type 0
IsIn [] x = ⊥
IsIn (first ∷ others) x = (first ≡ x) ⊎ IsIn others x

pub in-contains : {A : Type 0} (xs : List A) (x : A) → IsIn xs x → Contains xs x
in-contains [] x is = absurd is
in-contains (first ∷ others) x (inl is) = (0, omega arith, is)
in-contains (first ∷ others) x (inr later) = let c = in-contains others x later in let less = c.1 in (suc c.0, omega (arith, less), c.2)

pub in-map : {A B : Type 0} (f : A → B) (xs : List A) (x : A) → IsIn xs x → IsIn (map f xs) (f x)
in-map f [] x is = absurd is
in-map f (first ∷ others) x (inl is) = inl (ap f is)
in-map f (first ∷ others) x (inr later) = inr (in-map f others x later)

in-front : {A : Type 0} (xs ys : List A) (x : A) → IsIn xs x → IsIn (xs ++ ys) x
in-front [] ys x is = absurd is
in-front (first ∷ others) ys x (inl is) = inl is
in-front (first ∷ others) ys x (inr later) = inr (in-front others ys x later)

in-behind : {A : Type 0} (xs ys : List A) (x : A) → IsIn ys x → IsIn (xs ++ ys) x
in-behind [] ys x is = is
in-behind (first ∷ others) ys x is = inr (in-behind others ys x is)

pub reverse-more : {A : Type 0} (x : A) (xs : List A) → reverse (x ∷ xs) ≡ reverse xs ++ x ∷ []
reverse-more x xs = reverse_onto xs x []

pub in-reverse : {A : Type 0} (xs : List A) (x : A) → IsIn xs x → IsIn (reverse xs) x
in-reverse [] x is = absurd is
in-reverse (first ∷ others) x (inl is) = subst (λ (ys : List _). IsIn ys x) (sym (reverse-more first others)) (in-behind (reverse others) (first ∷ []) x (inl is))
in-reverse (first ∷ others) x (inr later) = subst (λ (ys : List _). IsIn ys x) (sym (reverse-more first others)) (in-front (reverse others) (first ∷ []) x (in-reverse others x later))

pub all-in : {A : Type 0} (P : A → Type 0) (xs : List A) → ((x : A) → IsIn xs x → P x) → AllByRecursion P xs
all-in P [] each = tt
all-in P (x ∷ xs) each = (each x (inl refl), all-in P xs (λ y is. each y (inr is)))

all-front-back : {A : Type 0} (P : A → Type 0) (xs : List A) (x : A) → AllByRecursion P xs → P x → AllByRecursion P (xs ++ x ∷ [])
all-front-back P [] x all one = (one, tt)
all-front-back P (first ∷ others) x all one = (all.0, all-front-back P others x all.1 one)

pub all-reverse : {A : Type 0} (P : A → Type 0) (xs : List A) → AllByRecursion P xs → AllByRecursion P (reverse xs)
all-reverse P [] all = tt
all-reverse P (x ∷ xs) all = subst (λ (ys : List _). AllByRecursion P ys) (sym (reverse-more x xs)) (all-front-back P (reverse xs) x (all-reverse P xs all.1) all.0)

pub all-over : {A B : Type 0} (P : B → Type 0) (f : A → B) (xs : List A) → AllByRecursion (λ x. P (f x)) xs → AllByRecursion P (map f xs)
all-over P f [] all = tt
all-over P f (x ∷ xs) all = (all.0, all-over P f xs all.1)

-- operations by their numbers

pub numbered-more : (n : ℕ) (ops : List Operation) (op : Operation) → IsNumberedFrom n ops → op.number ≡ n + length ops → IsNumberedFrom n (ops ++ op ∷ [])
numbered-more n [] op numbered is = (omega (arith, is), tt)
numbered-more n (first ∷ others) op numbered is = (numbered.0, numbered-more (n + 1) others op numbered.1 (omega (arith, is)))

numbered-low : (n : ℕ) (ops : List Operation) (op : Operation) → IsNumberedFrom n ops → IsIn ops op → n ≤ op.number
numbered-low n [] op numbered is = absurd is
numbered-low n (first ∷ others) op numbered (inl is) = let here = numbered.0 in let same = ap number_of is in omega (arith, here, same)
numbered-low n (first ∷ others) op numbered (inr later) = let low = numbered-low (n + 1) others op numbered.1 later in omega (arith, low)

pub found-numbered : (n : ℕ) (ops : List Operation) (op : Operation) → IsNumberedFrom n ops → IsIn ops op → operation_at ops op.number ≡ Some op
found-numbered n [] op numbered is = absurd is
found-numbered n (first ∷ others) op numbered (inl is) = let same : (first.number == op.number) ≡ true = eq-eqb first.number op.number (ap number_of is) in rw same (ap Some is)
found-numbered n (first ∷ others) op numbered (inr later) =
    let here = numbered.0 in
    let low = numbered-low (n + 1) others op numbered.1 later in
    let apart : (first.number == op.number) ≡ false = ne_eqb first.number op.number (λ same. omega (arith, here, low, same)) in
    rw apart (found-numbered (n + 1) others op numbered.1 later)

-- the operations of a list, found by their numbers
pub listed-all : (history ops : List Operation) → AllByRecursion (λ op. operation_at history op.number ≡ Some op) ops → listed history (map number_of ops) ≡ ops
listed-all history [] all = refl
listed-all history (op ∷ ops) all = (let first : operation_at history op.number ≡ Some op = all.0 in rw first (ap (λ (rest : List Operation). op ∷ rest) (listed-all history ops all.1)))

-- marks

pub in-picked : {A B : Type 0} (f : A → Option B) (xs : List A) (x : A) (y : B) → IsIn xs x → f x ≡ Some y → IsIn (filter_map f xs) y
in-picked f [] x y is made = absurd is
in-picked f (first ∷ others) x y (inl is) made = rw (ap f is ∙ made) (inl refl)
in-picked f (first ∷ others) x y (inr later) made = by_first (f first) (in-picked f others x y later made)
  where
    by_first : (o : Option _) → IsIn (filter_map f others) y → IsIn (cons_option o (filter_map f others)) y
    by_first None is = is
    by_first (Some z) is = inr is

in-inserted : (m : Mark) (ms : List Mark) (x : Mark) → (m ≡ x) ⊎ IsIn ms x → IsIn (insert_mark is_behind m ms) x
unfolding insert_mark
in-inserted m [] x (inl is) = inl is
in-inserted m [] x (inr is) = absurd is
in-inserted m (first ∷ others) x which =
    elim (cases_bool (is_behind m first)) [
      | inr before ↦ rw before (at_front which)
      | inl behind ↦ rw behind (further which (λ (w : (m ≡ x) ⊎ IsIn others x). in-inserted m others x w))
    ]
  where
    at_front : (m ≡ x) ⊎ IsIn (first ∷ others) x → IsIn (m ∷ first ∷ others) x
    at_front (inl is) = inl is
    at_front (inr is) = inr is

    further : (m ≡ x) ⊎ IsIn (first ∷ others) x → ((m ≡ x) ⊎ IsIn others x → IsIn (insert_mark is_behind m others) x) → IsIn (first ∷ insert_mark is_behind m others) x
    further (inl is) rest = inr (rest (inl is))
    further (inr (inl is)) rest = inl is
    further (inr (inr later)) rest = inr (rest (inr later))

pub in-sorted : (ms : List Mark) (x : Mark) → IsIn ms x → IsIn (sorted_marks is_behind ms) x
unfolding sorted_marks
in-sorted [] x is = is
in-sorted (m ∷ ms) x (inl is) = in-inserted m (sorted_marks is_behind ms) x (inl is)
in-sorted (m ∷ ms) x (inr later) = in-inserted m (sorted_marks is_behind ms) x (inr (in-sorted ms x later))

-- marks of operations with different numbers
abbrev pub IsOther : Mark → Mark → Type 0
IsOther a b = a.op.number ≢ b.op.number

abbrev pub AreOther : List Mark → Type 0
AreOther [] = Unit {0}
AreOther (m ∷ ms) = AllByRecursion (IsOther m) ms × AreOther ms

other-inserted : (m : Mark) (ms : List Mark) → AllByRecursion (IsOther m) ms → AreOther ms → AreOther (insert_mark is_behind m ms)
unfolding insert_mark
other-inserted m [] one all = (tt, tt)
other-inserted m (first ∷ others) one all =
    elim (cases_bool (is_behind m first)) [
      | inl behind ↦ rw behind (all-inserted (IsOther first) m others (λ e. one.0 (sym e)) all.0, other-inserted m others one.1 all.1)
      | inr before ↦ rw before (one, all)
    ]

pub other-sorted : (ms : List Mark) → AreOther ms → AreOther (sorted_marks is_behind ms)
unfolding sorted_marks
other-sorted [] apart = tt
other-sorted (m ∷ ms) apart = other-inserted m (sorted_marks is_behind ms) (all-sorted (IsOther m) ms apart.0) (other-sorted ms apart.1)

none-equal : (m : Mark) (ms : List Mark) → AllByRecursion (IsOther m) ms → AllByRecursion (λ y. nat_eq m.op.number y ≡ false) (map number_of (map op_of ms))
none-equal m [] all = tt
none-equal m (x ∷ ms) all = (ne_eqb m.op.number x.op.number all.0, none-equal m ms all.1)

pub other-distinct : (ms : List Mark) → AreOther ms → IsDistinct nat_eq (map number_of (map op_of ms))
unfolding IsDistinct
other-distinct [] apart = tt
other-distinct (m ∷ ms) apart = (none-equal m ms apart.0, other-distinct ms apart.1)

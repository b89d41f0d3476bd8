-- Keys in order, each once: they are the same for lists of the same keys.
use Rattle.std.proofs.Common.{◌≡◌, ℕ, List, [], ◌∷◌, map, Option, Some, None, refl, sym, ap, subst, ◌∙◌, inl, inr}
use Rattle.std.specs.Prelude.{◌⊎◌}
use Rattle.std.specs.List.{AllByRecursion, filter_map, cons_option}
use Rattle.std.specs.Cmp.Lexicographic.{slice_cmp}
use Rattle.std.specs.Ordering.{nat_cmp, match_ordering, ordering_reverse}
use Rattle.std.specs.declared.cmp.Ordering.{Ordering}
use Rattle.std.specs.declared.cmp.Ordering.TheVariants.{Less, Equal, Greater}
use Rattle.std.proofs.lemmas.Cmp.{nat_list_cmp_total}
use Rattle.std.proofs.lemmas.Map.Lookups.{exact_bytes}
use Rattle.hy_order.specs.Keys.{insert_key, sorted_keys}
use Rattle.hy_points.proofs.Listing.{IsIn, AllPairs}
use Rattle.hy_points.proofs.OneOrder.{all-of, all-in, AreAmong, one-order}
use Rattle.hy_points.proofs.Sorting.{all-each}

-- ---- what is picked, and what is mapped

pub picked-in : {A B : Type 0} (f : A → Option B) (xs : List A) (x : A) (y : B) → IsIn xs x → f x ≡ Some y → IsIn (filter_map f xs) y
picked-in f [] x y is made = absurd is
picked-in f (first ∷ others) x y (inl is) made = subst (λ (o : Option _). IsIn (cons_option o (filter_map f others)) y) (sym (ap f is ∙ made)) (inl refl)
picked-in f (first ∷ others) x y (inr later) made = by_first (f first) (picked-in f others x y later made)
  where
    by_first : (o : Option _) → IsIn (filter_map f others) y → IsIn (cons_option o (filter_map f others)) y
    by_first None is = is
    by_first (Some z) is = inr is

pub of-picked : {A B : Type 0} (f : A → Option B) (xs : List A) (y : B) → IsIn (filter_map f xs) y → (x : A) × IsIn xs x × (f x ≡ Some y)
of-picked f [] y is = absurd is
of-picked f (first ∷ others) y is = by_first (f first) refl is (of-picked f others y)
  where
    by_first : (o : Option _) → f first ≡ o → IsIn (cons_option o (filter_map f others)) y → (IsIn (filter_map f others) y → (x : _) × IsIn others x × (f x ≡ Some y)) → (x : _) × IsIn (first ∷ others) x × (f x ≡ Some y)
    by_first None made later rest = (let x = rest later in (x.0, inr x.1, x.2))
    by_first (Some z) made (inl here) rest = (first, inl refl, made ∙ ap Some here)
    by_first (Some z) made (inr later) rest = (let x = rest later in (x.0, inr x.1, x.2))

pub of-mapped : {A B : Type 0} (f : A → B) (xs : List A) (y : B) → IsIn (map f xs) y → (x : A) × IsIn xs x × (f x ≡ y)
of-mapped f [] y is = absurd is
of-mapped f (first ∷ others) y (inl is) = (first, inl refl, is)
of-mapped f (first ∷ others) y (inr later) = (let x = of-mapped f others y later in (x.0, inr x.1, x.2))

-- ---- keys in order

abbrev cmp : List ℕ → List ℕ → Ordering
cmp a b = slice_cmp nat_cmp a b

abbrev IsBelow : List ℕ → List ℕ → Type 0
IsBelow a b = cmp a b ≡ Less

one-way : (a b : List ℕ) → IsBelow a b → IsBelow b a → ⊥
one-way a b less more = (let turned : Less ≡ Greater = sym less ∙ (nat_list_cmp_total.antisymm a b ∙ ap ordering_reverse more) in cc)

-- an insertion, by where the key stands beside the first
placed : (o : Ordering) (P : List (List ℕ) → Type 0) (less equal greater : List (List ℕ)) → (o ≡ Less → P less) → (o ≡ Equal → P equal) → (o ≡ Greater → P greater) → P (match_ordering o less equal greater)
placed Less P less equal greater a b c = a refl
placed Equal P less equal greater a b c = b refl
placed Greater P less equal greater a b c = c refl

all-inserted : (P : List ℕ → Type 0) (key : List ℕ) (keys : List (List ℕ)) → P key → AllByRecursion P keys → AllByRecursion P (insert_key key keys)
all-inserted P key [] one all = (one, tt)
all-inserted P key (first ∷ keys) one all =
    placed (cmp key first) (AllByRecursion P) (key ∷ first ∷ keys) (first ∷ keys) (first ∷ insert_key key keys)
    (λ less. (one, all)) (λ same. all) (λ above. (all.0, all-inserted P key keys one all.1))

in-inserted : (key : List ℕ) (keys : List (List ℕ)) (x : List ℕ) → (key ≡ x) ⊎ IsIn keys x → IsIn (insert_key key keys) x
in-inserted key [] x is = is
in-inserted key (first ∷ keys) x is =
    placed (cmp key first) (λ (ks : List (List ℕ)). IsIn ks x) (key ∷ first ∷ keys) (first ∷ keys) (first ∷ insert_key key keys)
    (λ less. is) (λ same. at_first (exact_bytes key first same) is) (λ above. further is (in-inserted key keys x))
  where
    at_first : key ≡ first → (key ≡ x) ⊎ IsIn (first ∷ keys) x → IsIn (first ∷ keys) x
    at_first same (inl here) = inl (sym same ∙ here)
    at_first same (inr there) = there

    further : (key ≡ x) ⊎ IsIn (first ∷ keys) x → ((key ≡ x) ⊎ IsIn keys x → IsIn (insert_key key keys) x) → IsIn (first ∷ insert_key key keys) x
    further (inl here) rest = inr (rest (inl here))
    further (inr (inl here)) rest = inl here
    further (inr (inr later)) rest = inr (rest (inr later))

pairs-inserted : (key : List ℕ) (keys : List (List ℕ)) → AllPairs IsBelow keys → AllPairs IsBelow (insert_key key keys)
pairs-inserted key [] pairs = (tt, tt)
pairs-inserted key (first ∷ keys) pairs =
    placed (cmp key first) (AllPairs IsBelow) (key ∷ first ∷ keys) (first ∷ keys) (first ∷ insert_key key keys)
    (λ less. ((less, all-each (IsBelow first) (IsBelow key) keys (λ k below. nat_list_cmp_total.trans key first k less below) pairs.0), pairs))
    (λ same. pairs)
    (λ above. (all-inserted (IsBelow first) key keys (nat_list_cmp_total.antisymm first key ∙ ap ordering_reverse above) pairs.0, pairs-inserted key keys pairs.1))

sorted-pairs : (keys : List (List ℕ)) → AllPairs IsBelow (sorted_keys keys)
sorted-pairs [] = tt
sorted-pairs (key ∷ keys) = pairs-inserted key (sorted_keys keys) (sorted-pairs keys)

in-sorted : (keys : List (List ℕ)) → AreAmong keys (sorted_keys keys)
in-sorted [] x is = is
in-sorted (key ∷ keys) x (inl here) = in-inserted key (sorted_keys keys) x (inl here)
in-sorted (key ∷ keys) x (inr later) = in-inserted key (sorted_keys keys) x (inr (in-sorted keys x later))

all-sorted : (P : List ℕ → Type 0) (keys : List (List ℕ)) → AllByRecursion P keys → AllByRecursion P (sorted_keys keys)
all-sorted P [] all = tt
all-sorted P (key ∷ keys) all = all-inserted P key (sorted_keys keys) all.0 (all-sorted P keys all.1)

of-sorted : (keys : List (List ℕ)) → AreAmong (sorted_keys keys) keys
of-sorted keys x is = all-of (IsIn keys) (sorted_keys keys) x (all-sorted (IsIn keys) keys (all-in (IsIn keys) keys (λ y there. there))) is

-- lists of the same keys, in order
pub keys-same : (keys others : List (List ℕ)) → AreAmong keys others → AreAmong others keys → sorted_keys keys ≡ sorted_keys others
keys-same keys others there back =
    one-order IsBelow one-way (sorted_keys keys) (sorted_keys others) (sorted-pairs keys) (sorted-pairs others)
    (λ x is. in-sorted others x (there x (of-sorted keys x is)))
    (λ x is. in-sorted keys x (back x (of-sorted others x is)))

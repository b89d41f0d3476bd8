-- The keys that are due, taken from the operations one by one.
use Rattle.std.proofs.Common.{◌≡◌, ℕ, zero, suc, ◌+◌, ◌<◌, Bool, true, false, ◌||◌, List, [], ◌∷◌, ◌++◌, inl, inr, length, get_or, take, Option, Some, None, refl, sym, ap, subst, ◌∙◌, append-nil}
use Rattle.std.proofs.lemmas.Bool.{false≢true, or_cases}
use Rattle.std.proofs.lemmas.Cmp.{nat_list_cmp_total}
use Rattle.std.proofs.lemmas.List.{take_more}
use Rattle.std.proofs.lemmas.List.Elements.{filter_map-append}
use Rattle.std.proofs.lemmas.Map.Lookups.{exact_bytes}
use Rattle.std.specs.BTreeSet as set
use Rattle.std.specs.Cmp.Lexicographic.{bytes_decides, slice_cmp}
use Rattle.std.specs.List.{cons_option, list_any, slice_get}
use Rattle.std.specs.Ordering.{nat_cmp, match_ordering, ordering_reverse}
use Rattle.std.specs.Str.{bytes_eq}
use Rattle.std.specs.declared.cmp.Ordering.{Ordering}
use Rattle.std.specs.declared.cmp.Ordering.TheVariants.{Less, Equal, Greater}
use Rattle.hy_order.specs.declared.operation.Operation.{Operation}
use Rattle.hy_order.specs.Due.{is_key, names_key}
use Rattle.hy_order.specs.Keys.{insert_key, sorted_keys, register_key, register_keys}

-- a set takes a key as a sorted list does
pub insert_key-set : (keys : List (List ℕ)) (key : List ℕ) → set.insert_key (slice_cmp nat_cmp) keys key ≡ insert_key key keys
insert_key-set [] key = refl
insert_key-set (first ∷ keys) key = ap (λ later. match_ordering (slice_cmp nat_cmp key first) (key ∷ first ∷ keys) (first ∷ keys) (first ∷ later)) (insert_key-set keys key)

-- ---- two keys are put among others in either order

abbrev cmp : List ℕ → List ℕ → Ordering
cmp a b = slice_cmp nat_cmp a b

above : (a b : List ℕ) → cmp a b ≡ Less → cmp b a ≡ Greater
above a b less = nat_list_cmp_total.antisymm b a ∙ ap ordering_reverse less

insert_key-below : (key first : List ℕ) (keys : List (List ℕ)) → cmp key first ≡ Less → insert_key key (first ∷ keys) ≡ key ∷ first ∷ keys
insert_key-below key first keys less = rw less refl

insert_key-same : (key first : List ℕ) (keys : List (List ℕ)) → cmp key first ≡ Equal → insert_key key (first ∷ keys) ≡ first ∷ keys
insert_key-same key first keys same = rw same refl

insert_key-above : (key first : List ℕ) (keys : List (List ℕ)) → cmp key first ≡ Greater → insert_key key (first ∷ keys) ≡ first ∷ insert_key key keys
insert_key-above key first keys greater = rw greater refl

swap_above : (a b first : List ℕ) (keys : List (List ℕ)) (o : Ordering) → cmp a b ≡ Less → cmp b first ≡ Greater → cmp a first ≡ o
    → insert_key a (insert_key b keys) ≡ insert_key b (insert_key a keys) → insert_key a (insert_key b (first ∷ keys)) ≡ insert_key b (insert_key a (first ∷ keys))
swap_above a b first keys Less less later is more =
    ap (insert_key a) (insert_key-above b first keys later) ∙ insert_key-below a first (insert_key b keys) is
    ∙ sym (ap (insert_key b) (insert_key-below a first keys is) ∙ insert_key-above b a (first ∷ keys) (above a b less) ∙ ap (λ ks. a ∷ ks) (insert_key-above b first keys later))
swap_above a b first keys Equal less later is more =
    ap (insert_key a) (insert_key-above b first keys later) ∙ insert_key-same a first (insert_key b keys) is
    ∙ sym (ap (insert_key b) (insert_key-same a first keys is) ∙ insert_key-above b first keys later)
swap_above a b first keys Greater less later is more =
    ap (insert_key a) (insert_key-above b first keys later) ∙ insert_key-above a first (insert_key b keys) is ∙ ap (λ ks. first ∷ ks) more
    ∙ sym (ap (insert_key b) (insert_key-above a first keys is) ∙ insert_key-above b first (insert_key a keys) later)

swap_first : (a b first : List ℕ) (keys : List (List ℕ)) (o : Ordering) → cmp a b ≡ Less → cmp b first ≡ o
    → insert_key a (insert_key b keys) ≡ insert_key b (insert_key a keys) → insert_key a (insert_key b (first ∷ keys)) ≡ insert_key b (insert_key a (first ∷ keys))
swap_first a b first keys Less less is more =
    let low : cmp a first ≡ Less = nat_list_cmp_total.trans a b first less is in
    ap (insert_key a) (insert_key-below b first keys is) ∙ insert_key-below a b (first ∷ keys) less
    ∙ sym (ap (insert_key b) (insert_key-below a first keys low) ∙ insert_key-above b a (first ∷ keys) (above a b less) ∙ ap (λ ks. a ∷ ks) (insert_key-below b first keys is))
swap_first a b first keys Equal less is more =
    let low : cmp a first ≡ Less = subst (λ k. cmp a k ≡ Less) (exact_bytes b first is) less in
    ap (insert_key a) (insert_key-same b first keys is) ∙ insert_key-below a first keys low
    ∙ sym (ap (insert_key b) (insert_key-below a first keys low) ∙ insert_key-above b a (first ∷ keys) (above a b less) ∙ ap (λ ks. a ∷ ks) (insert_key-same b first keys is))
swap_first a b first keys Greater less is more = swap_above a b first keys (cmp a first) less is refl more

swap_less : (a b : List ℕ) (keys : List (List ℕ)) → cmp a b ≡ Less → insert_key a (insert_key b keys) ≡ insert_key b (insert_key a keys)
swap_less a b [] less = insert_key-below a b [] less ∙ sym (insert_key-above b a [] (above a b less))
swap_less a b (first ∷ keys) less = swap_first a b first keys (cmp b first) less refl (swap_less a b keys less)

swap : (a b : List ℕ) (keys : List (List ℕ)) (o : Ordering) → cmp a b ≡ o → insert_key a (insert_key b keys) ≡ insert_key b (insert_key a keys)
swap a b keys Less is = swap_less a b keys is
swap a b keys Equal is = let same : a ≡ b = exact_bytes a b is in subst (λ k. insert_key a (insert_key k keys) ≡ insert_key k (insert_key a keys)) same refl
swap a b keys Greater is = sym (swap_less b a keys (nat_list_cmp_total.antisymm b a ∙ ap ordering_reverse is))

pub sorted_keys-more : (keys : List (List ℕ)) (key : List ℕ) → sorted_keys (keys ++ key ∷ []) ≡ insert_key key (sorted_keys keys)
sorted_keys-more [] key = refl
sorted_keys-more (first ∷ keys) key = ap (insert_key first) (sorted_keys-more keys key) ∙ swap first key (sorted_keys keys) (cmp first key) refl

-- ---- a key that was named before changes nothing

same_key : (key : List ℕ) → cmp key key ≡ Equal
same_key key = at (cmp key key) refl
  where
    at : (o : Ordering) → cmp key key ≡ o → o ≡ Equal
    at Less is = absurd (let greater : Less ≡ Greater = sym is ∙ above key key is in cc)
    at Equal is = refl
    at Greater is =
        absurd (let turned : Greater ≡ Less = sym is ∙ nat_list_cmp_total.antisymm key key ∙ ap ordering_reverse is in cc)

-- a key is put among others twice as once
insert_key-again : (key : List ℕ) (keys : List (List ℕ)) → insert_key key (insert_key key keys) ≡ insert_key key keys
insert_key-again key [] = insert_key-same key key [] (same_key key)
insert_key-again key (first ∷ keys) = at (cmp key first) refl (insert_key-again key keys)
  where
    at : (o : Ordering) → cmp key first ≡ o → insert_key key (insert_key key keys) ≡ insert_key key keys → insert_key key (insert_key key (first ∷ keys)) ≡ insert_key key (first ∷ keys)
    at Less is more =
        ap (insert_key key) (insert_key-below key first keys is) ∙ insert_key-same key key (first ∷ keys) (same_key key) ∙ sym (insert_key-below key first keys is)
    at Equal is more = ap (insert_key key) (insert_key-same key first keys is)
    at Greater is more =
        ap (insert_key key) (insert_key-above key first keys is) ∙ insert_key-above key first (insert_key key keys) is ∙ ap (λ ks. first ∷ ks) more
        ∙ sym (insert_key-above key first keys is)

pub sorted_keys-named : (keys : List (List ℕ)) (key : List ℕ) → list_any (λ other. bytes_eq other key) keys ≡ true → insert_key key (sorted_keys keys) ≡ sorted_keys keys
sorted_keys-named [] key there = absurd (false≢true there)
sorted_keys-named (first ∷ keys) key there =
    elim (or_cases (bytes_eq first key) (list_any (λ other. bytes_eq other key) keys) there) [
      | inl same ↦
          let is : first ≡ key = (bytes_decides first key).0 same in
          subst (λ k. insert_key k (insert_key first (sorted_keys keys)) ≡ insert_key first (sorted_keys keys)) is (insert_key-again first (sorted_keys keys))
      | inr later ↦ swap key first (sorted_keys keys) (cmp key first) refl ∙ ap (insert_key first) (sorted_keys-named keys key later)
    ]

or_right : (a b : Bool) → b ≡ true → (a || b) ≡ true
or_right true b h = refl
or_right false b h = h

-- an operation that names the key is among those that do
pub named-there : (ops : List Operation) (place : ℕ) (key : List ℕ) → names_key key (slice_get ops place) ≡ true → list_any (λ other. bytes_eq other key) (register_keys ops) ≡ true
named-there [] place key is = absurd (false≢true is)
named-there (op ∷ ops) zero key is = at (register_key op.action) is
  where
    at : (found : Option (List ℕ)) → is_key key found ≡ true → list_any (λ other. bytes_eq other key) (cons_option found (register_keys ops)) ≡ true
    at None is = absurd (false≢true is)
    at (Some other) is = ap (λ b. b || list_any (λ other. bytes_eq other key) (register_keys ops)) is
named-there (op ∷ ops) (suc place) key is = at (register_key op.action) (named-there ops place key is)
  where
    at : (found : Option (List ℕ)) → list_any (λ other. bytes_eq other key) (register_keys ops) ≡ true → list_any (λ other. bytes_eq other key) (cons_option found (register_keys ops)) ≡ true
    at None there = there
    at (Some other) there = or_right (bytes_eq other key) (list_any (λ other. bytes_eq other key) (register_keys ops)) there

-- ---- one operation more

module _ (ops : List Operation) (place : ℕ) (op : Operation) (within : place < length ops) (is : op ≡ get_or ops place op) where
  up_to_here : take (place + 1) ops ≡ take place ops ++ op ∷ []
  up_to_here = take_more ops place op within ∙ ap (λ op. take place ops ++ op ∷ []) (sym is)

  keys_up_to_here : register_keys (take (place + 1) ops) ≡ register_keys (take place ops) ++ register_keys (op ∷ [])
  keys_up_to_here = ap register_keys up_to_here ∙ filter_map-append (λ (op : Operation). register_key op.action) (take place ops) (op ∷ [])

  pub due-there : (key : List ℕ) (keys new : List (List ℕ)) → register_key op.action ≡ Some key → keys ≡ sorted_keys (register_keys (take place ops))
      → new ≡ set.insert_key (slice_cmp nat_cmp) keys key → new ≡ sorted_keys (register_keys (take (place + 1) ops))
  due-there key keys new names so_far is_new =
      let one : register_keys (op ∷ []) ≡ key ∷ [] = rw names refl in
      is_new ∙ insert_key-set keys key ∙ ap (insert_key key) so_far ∙ sym (sorted_keys-more (register_keys (take place ops)) key)
      ∙ ap sorted_keys (sym (keys_up_to_here ∙ ap (λ ks. register_keys (take place ops) ++ ks) one))

  pub due-absent : register_key op.action ≡ None → register_keys (take (place + 1) ops) ≡ register_keys (take place ops)
  due-absent none =
      let no_key : register_keys (op ∷ []) ≡ [] = rw none refl in
      keys_up_to_here ∙ ap (λ ks. register_keys (take place ops) ++ ks) no_key ∙ append-nil (register_keys (take place ops))

  pub due-again : (key : List ℕ) → register_key op.action ≡ Some key → list_any (λ other. bytes_eq other key) (register_keys (take place ops)) ≡ true
      → sorted_keys (register_keys (take place ops)) ≡ sorted_keys (register_keys (take (place + 1) ops))
  due-again key names there =
      let one : register_keys (op ∷ []) ≡ key ∷ [] = rw names refl in
      sym (ap sorted_keys (keys_up_to_here ∙ ap (λ ks. register_keys (take place ops) ++ ks) one) ∙ sorted_keys-more (register_keys (take place ops)) key ∙ sorted_keys-named (register_keys (take place ops)) key there)

-- A sorted list of keys with what stands at them, and what an entry put at a key changes.
use Rattle.std.proofs.Common.{◌≡◌, ℕ, Bool, true, false, cond, List, [], ◌∷◌, map, Some, None, refl, ap, sym, ◌∙◌, subst}
use Rattle.std.proofs.lemmas.Cmp.{tied_itself, nat_list_cmp_total, eq_by_cmp_equiv}
use Rattle.std.proofs.lemmas.Map.{lookup-none}
use Rattle.std.proofs.lemmas.Map.Entries.{none_past_head}
use Rattle.std.proofs.lemmas.Map.Keys.{IsDistinct-tail}
use Rattle.std.proofs.lemmas.Map.Lookups.{exact_bytes}
use Rattle.std.specs.BTreeMap.{insert_entry, is_at}
use Rattle.std.specs.Cmp.Lexicographic.{slice_cmp}
use Rattle.std.specs.declared.cmp.Ordering.{Ordering}
use Rattle.std.specs.declared.cmp.Ordering.TheVariants.{Less, Equal, Greater}
use Rattle.std.specs.List.{IsDistinct}
use Rattle.std.specs.Map.{lookup, keys_of}
use Rattle.std.specs.Ordering.{nat_cmp, match_ordering, is_eq, eq_by_cmp}
use Rattle.hy_order.specs.Keys.{insert_key}

abbrev key_cmp : List ℕ → List ℕ → Ordering
key_cmp = slice_cmp nat_cmp

-- the keys after an entry was put at one
pub keys_of-insert_entry : {X : Type 0} (es : List (List ℕ × X)) (k : List ℕ) (v : X) → keys_of (insert_entry key_cmp es k v) ≡ insert_key k (keys_of es)
keys_of-insert_entry [] k v = refl
keys_of-insert_entry (e ∷ es) k v =
    elim (key_cmp k e.0) as (λ o. keys_of (match_ordering o ((k, v) ∷ e ∷ es) ((e.0, v) ∷ es) (e ∷ insert_entry key_cmp es k v))
    ≡ match_ordering o (k ∷ e.0 ∷ keys_of es) (e.0 ∷ keys_of es) (e.0 ∷ insert_key k (keys_of es)))
    [ Less ↦ refl | Equal ↦ refl | Greater ↦ ap (λ ks. e.0 ∷ ks) (keys_of-insert_entry es k v) ]

at_itself : (k : List ℕ) → is_at (key_cmp k) k ≡ true
at_itself k = ap is_eq (tied_itself nat_list_cmp_total k)

-- what stands at the key itself
pub lookup-insert_entry_same : {X : Type 0} (es : List (List ℕ × X)) (k : List ℕ) (v : X) → lookup (is_at (key_cmp k)) (insert_entry key_cmp es k v) ≡ Some v
lookup-insert_entry_same [] k v = rw (at_itself k) refl
lookup-insert_entry_same {X} (e ∷ es) k v = by_order (lookup-insert_entry_same es k v) (key_cmp k e.0) refl
  where
    by_order : lookup (is_at (key_cmp k)) (insert_entry key_cmp es k v) ≡ Some v → (o : Ordering) → key_cmp k e.0 ≡ o → lookup (is_at (key_cmp k)) (match_ordering o ((k, v) ∷ e ∷ es) ((e.0, v) ∷ es) (e ∷ insert_entry key_cmp es k v)) ≡ Some v
    by_order rest Less is = rw (at_itself k) refl
    by_order rest Equal is = rw is refl
    by_order rest Greater is = rw is rest

-- what stands at another key
pub lookup-insert_entry_other : {X : Type 0} (es : List (List ℕ × X)) (k q : List ℕ) (v : X) → is_at (key_cmp q) k ≡ false → lookup (is_at (key_cmp q)) (insert_entry key_cmp es k v) ≡ lookup (is_at (key_cmp q)) es
lookup-insert_entry_other [] k q v other = rw other refl
lookup-insert_entry_other {X} (e ∷ es) k q v other = by_order (lookup-insert_entry_other es k q v other) (key_cmp k e.0) refl
  where
    by_order : lookup (is_at (key_cmp q)) (insert_entry key_cmp es k v) ≡ lookup (is_at (key_cmp q)) es → (o : Ordering) → key_cmp k e.0 ≡ o → lookup (is_at (key_cmp q)) (match_ordering o ((k, v) ∷ e ∷ es) ((e.0, v) ∷ es) (e ∷ insert_entry key_cmp es k v)) ≡ lookup (is_at (key_cmp q)) (e ∷ es)
    by_order rest Less is = rw other refl
    by_order rest Equal is = let apart : is_at (key_cmp q) e.0 ≡ false = subst (λ x. is_at (key_cmp q) x ≡ false) (exact_bytes k e.0 is) other in rw apart refl
    by_order rest Greater is = ap (cond (is_at (key_cmp q) e.0) (Some e.1)) rest

-- a list whose look-ups are a function of the key is this function, at its keys
pub entries_from_lookups : {X : Type 0} (f : List ℕ → X) (es : List (List ℕ × X)) → IsDistinct (eq_by_cmp key_cmp) (keys_of es)
    → ((q : List ℕ) (v : X) → lookup (is_at (key_cmp q)) es ≡ Some v → f q ≡ v) → es ≡ map (λ k. (k, f k)) (keys_of es)
entries_from_lookups f [] distinct found = refl
entries_from_lookups {X} f (e ∷ es) distinct found =
    let head : f e.0 ≡ e.1 = found e.0 e.1 (rw (at_itself e.0) refl) in
    let tail : es ≡ map (λ k. (k, f k)) (keys_of es) =
    entries_from_lookups f es (IsDistinct-tail (eq_by_cmp key_cmp) e.0 (keys_of es) distinct) (λ q v is. found q v (behind q v is (is_at (key_cmp q) e.0) refl)) in
    ap (λ x. (e.0, x) ∷ es) (sym head) ∙ ap (λ xs. (e.0, f e.0) ∷ xs) tail
  where
    behind : (q : List ℕ) (v : X) → lookup (is_at (key_cmp q)) es ≡ Some v → (b : Bool) → is_at (key_cmp q) e.0 ≡ b → cond b (Some e.1) (lookup (is_at (key_cmp q)) es) ≡ Some v
    behind q v is false at = is
    behind q v is true at =
        let none : lookup (is_at (key_cmp q)) es ≡ None = lookup-none (is_at (key_cmp q)) es (none_past_head (eq_by_cmp_equiv nat_list_cmp_total) q e es distinct at) in
        let never : None ≡ Some v = sym none ∙ is in cc

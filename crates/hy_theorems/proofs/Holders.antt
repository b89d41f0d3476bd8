-- With at most f Byzantine clouds, k honest clouds hold the current version.
use Rattle.std.proofs.Common.{◌≡◌, ℕ, ◌+◌, ◌≤◌, ◌<◌, Bool, true, false, cond, not, filter, List, [], ◌∷◌, length, Option, Some, None, refl, sym, ap, subst, ◌∙◌, inl, inr, arith}
use Rattle.std.specs.Prelude.{◌&&◌, ◌==◌, ◌⊎◌, nat_lt}
use Rattle.std.specs.Int.{bit_at}
use Rattle.std.specs.List.{AllByRecursion, range_with_len}
use Rattle.std.proofs.lemmas.Bool.{eq-eqb, lt-ltb, false≢true, true≢false}
use Rattle.std.proofs.lemmas.Slice.Eq.{bytes_eq-Decides}
use Rattle.sha2.specs.Sha256.{sha256}
use Rattle.hy_record.specs.declared.kind.Kind.TheVariants.{Tomb}
use Rattle.hy_record.specs.Stamp.{Timestamp}
use Rattle.hy_base.specs.Shape.{IsShape, cloud_count, fragment_size}
use Rattle.hy_record.specs.Clouds.{clouds_of}
use Rattle.hy_record.specs.Record.{RecordValue, hash_of}
use Rattle.hy_meta.specs.Service.{record_after}
use Rattle.hy_code.specs.Fragments.{fragment_of}
use Rattle.hy_code.proofs.FragmentLaws.{length-fragment_of}
use Rattle.hy_protocol.specs.Cloud.{bytes_held}
use Rattle.hy_protocol.specs.Write.{value_record}
use Rattle.hy_record.specs.Record.{is_tombstone, is_hash, is_valid_fragment}
use Rattle.hy_trace.specs.Deeds.{Params, Deed, served, granted}
use Rattle.hy_trace.specs.Trace.{IsTrace}
use Rattle.hy_theorems.specs.Retrieval.{IsHolder, IsRetrievable}
use Rattle.hy_record.specs.Clouds.{set_of}
use Rattle.hy_trace.specs.Held.{held_by, held_with, held_of, holds_valid, holders_of, HasLiars}
use Rattle.hy_order.specs.declared.held.Held.{Held}
use Rattle.std.proofs.lemmas.Option.{none-some, same_Some}
use Rattle.hy_theorems.proofs.Ordering.{all-each}
use Rattle.hy_theorems.proofs.Values.{hash-of}
use Rattle.hy_theorems.proofs.Told.{value-not}
use Rattle.hy_theorems.proofs.Masks.{clouds-of-set, more-pass, enough-honest, clouds-within}
use Rattle.hy_theorems.proofs.Retrievable.{retrievable}

and-true : (a b c d : Bool) → a ≡ true → b ≡ true → c ≡ true → d ≡ true → (a && b && c && d) ≡ true
and-true a b c d one two three four = rw (one, two, three, four) refl

-- the fragment of a value is valid under its record
pub own-valid : (x : Timestamp) (v : List ℕ) (f k : ℕ) (list : List ℕ) (cloud : ℕ) → IsShape f k → cloud < cloud_count f k → is_valid_fragment (value_record x v f k list) cloud (fragment_of v k cloud) ≡ true
unfolding is_valid_fragment value_record
own-valid x v f k list cloud shape within =
    let r = value_record x v f k list in
    and-true (not (is_tombstone r.kind)) (nat_lt cloud (cloud_count r.f r.k)) (length (fragment_of v k cloud) == fragment_size r.size r.k) (is_hash (hash_of r cloud) (fragment_of v k cloud))
    (ap not (value-not x v f k list)) inside sized hashed
  where
    inside : nat_lt cloud (cloud_count (value_record x v f k list).f (value_record x v f k list).k) ≡ true
    inside = lt-ltb cloud (cloud_count f k) within

    sized : (length (fragment_of v k cloud) == fragment_size (value_record x v f k list).size (value_record x v f k list).k) ≡ true
    sized = eq-eqb (length (fragment_of v k cloud)) (fragment_size (length v) k) (length-fragment_of v k cloud)

    hashed : is_hash (hash_of (value_record x v f k list) cloud) (fragment_of v k cloud) ≡ true
    hashed = ap (λ (o : Option (List ℕ)). is_hash o (fragment_of v k cloud)) (hash-of x v f k list cloud shape within) ∙ (bytes_eq-Decides (sha256 (fragment_of v k cloud)) (sha256 (fragment_of v k cloud))).1 refl

tomb-tests : (r : RecordValue) → r.kind ≡ Tomb → is_tombstone r.kind ≡ true
tomb-tests r is = ap is_tombstone is

-- an honest holder of the list passes the test
holder-passes : (p : Params) (t : List Deed) (key : List ℕ) (r : RecordValue) (v list : List ℕ) (cloud : ℕ) → IsShape p.f p.k → r ≡ value_record r.stamp v p.f p.k list → cloud < cloud_count p.f p.k → (p.is_liar cloud ≡ true) ⊎ (bytes_held (granted cloud t) key r.stamp ≡ Some (fragment_of v p.k cloud)) → not (p.is_liar cloud) ≡ true → holds_valid p t key r cloud ≡ true
unfolding holds_valid
holder-passes p t key r v list cloud shape is within (inl liar) honest = absurd (false≢true (sym (ap not liar) ∙ honest))
holder-passes p t key r v list cloud shape is within (inr held) honest =
    let valid : is_valid_fragment r cloud (fragment_of v p.k cloud) ≡ true = ap (λ (x : RecordValue). is_valid_fragment x cloud (fragment_of v p.k cloud)) is ∙ own-valid r.stamp v p.f p.k list cloud shape within in
    rw (honest, held) valid

-- of a record that can be retrieved
by-holders : (p : Params) (t : List Deed) (key : List ℕ) (r : RecordValue) → IsShape p.f p.k → HasLiars p p.f → is_tombstone r.kind ≡ false → IsRetrievable p t key r → p.k ≤ length (holders_of p t key r)
unfolding holders_of
by-holders p t key r shape liars value (inl tomb) = absurd (true≢false (sym (tomb-tests r tomb) ∙ value))
by-holders p t key r shape liars value (inr of) =
    let n = cloud_count p.f p.k in
    let list = clouds_of r.clouds in
    let few : n ≤ 16 = omega (arith, shape.faults, shape.parts) in
    let low : AllByRecursion (λ cloud. cloud < n) list = all-each (IsHolder p t key r.stamp of.value) (λ cloud. cloud < n) list (λ cloud h. h.0) of.holders in
    let same : list ≡ filter (λ cloud. bit_at r.clouds cloud == 1) (range_with_len 0 n) = clouds-within r.clouds n few low in
    let enough : p.f + p.k ≤ length (filter (λ cloud. bit_at r.clouds cloud == 1) (range_with_len 0 n)) = subst (λ (xs : List ℕ). p.f + p.k ≤ length xs) same of.quorum in
    let honest : p.k ≤ length (filter (λ cloud. not (p.is_liar cloud)) list) = subst (λ (xs : List ℕ). p.k ≤ length (filter (λ cloud. not (p.is_liar cloud)) xs)) (sym same) (enough-honest p.is_liar (λ cloud. bit_at r.clouds cloud == 1) p.f p.k n liars enough) in
    let more : length (filter (λ cloud. not (p.is_liar cloud)) list) ≤ length (filter (holds_valid p t key r) list) =
    more-pass (λ cloud. not (p.is_liar cloud)) (holds_valid p t key r) list
    (all-each (IsHolder p t key r.stamp of.value) (λ cloud. not (p.is_liar cloud) ≡ true → holds_valid p t key r cloud ≡ true) list (λ cloud h honest_. holder-passes p t key r of.value list cloud shape of.record_is h.0 h.1 honest_) of.holders) in
    omega (arith, honest, more)

pub enough-holders : (p : Params) (t : List Deed) → IsTrace p t → IsShape p.f p.k → HasLiars p p.f → (key : List ℕ) (r : RecordValue) → record_after (served t) key ≡ Some r → is_tombstone r.kind ≡ false → p.k ≤ length (holders_of p t key r)
enough-holders p t trace shape liars key r is value = by-holders p t key r shape liars value (retrievable p t trace shape key r is)

filter-both : (p q : ℕ → Bool) (xs : List ℕ) → filter p (filter q xs) ≡ filter (λ x. q x && p x) xs
filter-both p q [] = refl
filter-both p q (x ∷ xs) = by_test (q x) (filter-both p q xs)
  where
    by_test : (b : Bool) → filter p (filter q xs) ≡ filter (λ x. q x && p x) xs → filter p (cond b (x ∷ filter q xs) (filter q xs)) ≡ cond (b && p x) (x ∷ filter (λ x. q x && p x) xs) (filter (λ x. q x && p x) xs)
    by_test true is = ap (λ (ys : List ℕ). cond (p x) (x ∷ ys) ys) is
    by_test false is = is

-- the set that a report tells lists the holders
holders-listed : (p : Params) (t : List Deed) (key : List ℕ) (r : RecordValue) → clouds_of (set_of (holders_of p t key r)) ≡ holders_of p t key r
unfolding holders_of clouds_of
holders-listed p t key r =
    let both_ = filter-both (holds_valid p t key r) (λ cloud. bit_at r.clouds cloud == 1) (range_with_len 0 16) in
    ap (λ (xs : List ℕ). clouds_of (set_of xs)) both_ ∙ (clouds-of-set (λ x. (bit_at r.clouds x == 1) && holds_valid p t key r x) 16 (omega arith) ∙ sym both_)

pub held-enough : (p : Params) (t : List Deed) → IsTrace p t → IsShape p.f p.k → HasLiars p p.f → (key : List ℕ) (held : Held) → held_of p t key ≡ Some held → p.k ≤ length (clouds_of held.clouds)
held-enough p t trace shape liars key held is = by_record (record_after (served t) key) refl is
  where
    by_kind : (r : RecordValue) → record_after (served t) key ≡ Some r → (b : Bool) → is_tombstone r.kind ≡ b → held_by p t key r b ≡ Some held → p.k ≤ length (clouds_of held.clouds)
    by_kind r rec_is true kind e = absurd (none-some held e)
    by_kind r rec_is false kind e =
        let made = same_Some (record { key = key; stamp = r.stamp; clouds = set_of (holders_of p t key r) }) held e in
        let enough : p.k ≤ length (clouds_of (set_of (holders_of p t key r))) = subst (λ (xs : List ℕ). p.k ≤ length xs) (sym (holders-listed p t key r)) (enough-holders p t trace shape liars key r rec_is kind) in
        subst (λ (h : Held). p.k ≤ length (clouds_of h.clouds)) made enough

    by_record : (o : Option RecordValue) → record_after (served t) key ≡ o → held_with p t key o ≡ Some held → p.k ≤ length (clouds_of held.clouds)
    by_record None rec_is e = absurd (none-some held e)
    by_record (Some r) rec_is e = by_kind r rec_is (is_tombstone r.kind) refl e

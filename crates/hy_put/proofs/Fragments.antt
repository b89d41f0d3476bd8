-- The fragments of a value: what is sent of them, and their hashes.
use Rattle.std.proofs.Common.{◌≡◌, ◌≢◌, ℕ, zero, suc, ◌+◌, ◌<◌, Bool, true, false, List, [], ◌∷◌, ◌++◌, refl, sym, ap, ◌∙◌, inl, inr, arith}
use Rattle.std.specs.Prelude.{◌==◌, filter, map, slice_index_or}
use Rattle.std.specs.List.{range_with_len}
use Rattle.std.proofs.Math.Nat.{zero-add}
use Rattle.std.proofs.lemmas.Bool.Decides.{nat_tests}
use Rattle.std.proofs.lemmas.List.{map-append}
use Rattle.std.proofs.lemmas.List.FromFn.{get_or-map-range_with_len}
use Rattle.sha2.specs.Sha256.{sha256}
use Rattle.hy_code.specs.Fragments.{fragment_of}
use Rattle.hy_record.specs.Stamp.{Timestamp}
use Rattle.hy_base.specs.Shape.{cloud_count}
use Rattle.hy_record.specs.declared.turn.Out.{Out}
use Rattle.hy_record.specs.declared.turn.Out.TheVariants as outs
use Rattle.hy_record.specs.declared.cloud.CloudAct.TheVariants as acts
use Rattle.hy_protocol.specs.Write.{hashes_of}
use Rattle.hy_operation.specs.declared.issuer.Issuer.{Issuer}
use Rattle.hy_operation.proofs.Filters.{filter-passes, filter-skips}
use Rattle.hy_put.specs.Contents.{put_to, puts_of}

-- maps of what agrees on these numbers
pub map-agrees : (f g : ℕ → List ℕ) (a n : ℕ) → ((i : ℕ) → i < a + n → f i ≡ g i) → map f (range_with_len a n) ≡ map g (range_with_len a n)
map-agrees f g a zero same = refl
map-agrees f g a (suc n) same = ap (λ (x : List ℕ). x ∷ map f (range_with_len (a + 1) n)) (same a (omega arith)) ∙ ap (λ (xs : List (List ℕ)). g a ∷ xs) (map-agrees f g (a + 1) n (λ i l. same i (omega (arith, l))))

-- the fragment at a cloud's place
pub fragment-at : (f : ℕ → List ℕ) (n i : ℕ) → i < n → slice_index_or (map f (range_with_len 0 n)) i [] ≡ f i
fragment-at f n i within = get_or-map-range_with_len f 0 n i i [] within (zero-add i)

-- one more cloud to send its fragment
pub puts-more : (issuer : Issuer) (fragments : List (List ℕ)) (stamp : Timestamp) (p : ℕ → Bool) (i : ℕ) (before after : List Out) (out : Out) (bytes : List ℕ) → p i ≡ true → before ≡ puts_of issuer fragments stamp (filter p (range_with_len 0 i)) → bytes ≡ slice_index_or fragments i []
    → out ≡ put_to issuer stamp i bytes → after ≡ before ++ out ∷ [] → after ≡ puts_of issuer fragments stamp (filter p (range_with_len 0 (i + 1)))
puts-more issuer fragments stamp p i before after out bytes taken was same sent is =
    is ∙ ap (λ (o : Out). before ++ o ∷ []) (sent ∙ ap (put_to issuer stamp i) same)
    ∙ ap (λ (xs : List Out). xs ++ puts_of issuer fragments stamp (i ∷ [])) was
    ∙ sym (ap (puts_of issuer fragments stamp) (filter-passes p i taken) ∙ map-append (λ (cloud : ℕ). put_to issuer stamp cloud (slice_index_or fragments cloud [])) (filter p (range_with_len 0 i)) (i ∷ []))

-- one more cloud that is sent nothing
pub puts-same : (issuer : Issuer) (fragments : List (List ℕ)) (stamp : Timestamp) (p : ℕ → Bool) (i : ℕ) (before : List Out) → p i ≡ false → before ≡ puts_of issuer fragments stamp (filter p (range_with_len 0 i)) → before ≡ puts_of issuer fragments stamp (filter p (range_with_len 0 (i + 1)))
puts-same issuer fragments stamp p i before left_out was = was ∙ sym (ap (puts_of issuer fragments stamp) (filter-skips p i left_out))

-- a value that is stored whole has one hash
pub hashes-whole : (value : List ℕ) (f k : ℕ) (hashes : List (List ℕ)) → k ≡ 1 → hashes ≡ sha256 value ∷ [] → hashes ≡ hashes_of value f k
unfolding hashes_of
hashes-whole value f k hashes one is = let whole : (k == 1) ≡ true = grind (arith, nat_tests, one) in rw whole is

-- a value that is cut has one for each fragment
pub hashes-coded : (value : List ℕ) (f k : ℕ) (hashes fragments : List (List ℕ)) → k ≢ 1 → fragments ≡ map (fragment_of value k) (range_with_len 0 (cloud_count f k))
    → hashes ≡ map (λ cloud. sha256 (slice_index_or fragments cloud [])) (range_with_len 0 (cloud_count f k)) → hashes ≡ hashes_of value f k
unfolding hashes_of
hashes-coded value f k hashes fragments more are is =
    let coded : (k == 1) ≡ false = grind (arith, nat_tests, more) in
    rw coded (is ∙ ap (λ (fs : List (List ℕ)). map (λ cloud. sha256 (slice_index_or fs cloud [])) (range_with_len 0 (cloud_count f k))) are
    ∙ map-agrees (λ cloud. sha256 (slice_index_or (map (fragment_of value k) (range_with_len 0 (cloud_count f k))) cloud [])) (λ cloud. sha256 (fragment_of value k cloud)) 0 (cloud_count f k)
    (λ i l. ap sha256 (fragment-at (fragment_of value k) (cloud_count f k) i (omega (arith, l)))))

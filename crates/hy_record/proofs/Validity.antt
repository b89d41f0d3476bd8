-- The test of a fragment is that of the rule.
use Rattle.std.proofs.Common.{◌≡◌, ℕ, Bool, true, false, List, length, Option, Some, None, refl, sym, ap, ◌∙◌, arith}
use Rattle.std.specs.Prelude.{◌≢◌, ◌==◌, ◌↔◌, ◌&&◌, not, nat_lt, IsTrue}
use Rattle.std.proofs.lemmas.Bool.{eqb-true, false≢true, lt-ltb, ltb-true}
use Rattle.std.proofs.lemmas.Bool.Decides.{nat_tests}
use Rattle.std.proofs.lemmas.Slice.Eq.{bytes_eq-Decides}
use Rattle.sha2.specs.Sha256.{sha256}
use Rattle.hy_record.specs.declared.kind.Kind.{Kind}
use Rattle.hy_record.specs.declared.kind.Kind.TheVariants.{Tomb, Whole, Coded}
use Rattle.hy_base.specs.Shape.{cloud_count, fragment_size}
use Rattle.hy_record.specs.Record.{RecordValue, hash_of, is_hash, is_tombstone, is_valid_fragment, IsValidFragment}

all-four : (a b c d : Bool) → (a && b && c && d) ≡ true → (a ≡ true) × (b ≡ true) × (c ≡ true) × (d ≡ true)
all-four true true true d e = (refl, refl, refl, e)
all-four true true false d e = absurd (false≢true e)
all-four true false c d e = absurd (false≢true e)
all-four false b c d e = absurd (false≢true e)

four-true : (a b c d : Bool) → a ≡ true → b ≡ true → c ≡ true → d ≡ true → (a && b && c && d) ≡ true
four-true a b c d p q r s = rw (p, q, r, s) refl

written : (kind : Kind) → kind ≢ Tomb → not (is_tombstone kind) ≡ true
written Tomb other = absurd (other refl)
written Whole other = refl
written Coded other = refl

hash-is : (o : Option (List ℕ)) (bytes : List ℕ) → is_hash o bytes ≡ true → o ≡ Some (sha256 bytes)
hash-is None bytes e = absurd (false≢true e)
hash-is (Some hash) bytes e = ap Some ((bytes_eq-Decides hash (sha256 bytes)).0 e)

-- bytes that pass the test are valid
pub test-valid : (r : RecordValue) (i : ℕ) (bytes : List ℕ) → is_valid_fragment r i bytes ≡ true → IsValidFragment r i bytes
unfolding is_valid_fragment
test-valid r i bytes on =
    let tests = all-four (not (is_tombstone r.kind)) (nat_lt i (cloud_count r.f r.k)) (length bytes == fragment_size r.size r.k) (is_hash (hash_of r i) bytes) on in
    record {
      value = λ e. false≢true (sym (ap (λ (kind : Kind). not (is_tombstone kind)) e) ∙ tests.0);
      cloud = ltb-true i (cloud_count r.f r.k) tests.1;
      size = eqb-true (length bytes) (fragment_size r.size r.k) tests.2;
      hash = hash-is (hash_of r i) bytes tests.3;
    }

-- valid bytes pass the test
pub valid-test : (r : RecordValue) (i : ℕ) (bytes : List ℕ) → IsValidFragment r i bytes → is_valid_fragment r i bytes ≡ true
unfolding is_valid_fragment
valid-test r i bytes v =
    let inside : nat_lt i (cloud_count r.f r.k) ≡ true = lt-ltb i (cloud_count r.f r.k) v.cloud in
    let sized : (length bytes == fragment_size r.size r.k) ≡ true = (let e = v.size in grind (arith, nat_tests, e)) in
    let hashed : is_hash (hash_of r i) bytes ≡ true = ap (λ (o : Option (List ℕ)). is_hash o bytes) v.hash ∙ (bytes_eq-Decides (sha256 bytes) (sha256 bytes)).1 refl in
    four-true (not (is_tombstone r.kind)) (nat_lt i (cloud_count r.f r.k)) (length bytes == fragment_size r.size r.k) (is_hash (hash_of r i) bytes) (written r.kind v.value) inside sized hashed

tested : (b c : Bool) → (b ≡ true → c ≡ true) → (c ≡ true → b ≡ true) → b ≡ c
tested true c forth back = sym (forth refl)
tested false true forth back = back refl
tested false false forth back = refl

-- an answer that says whether the bytes are valid is that of the test
pub verdict-is-test : (r : RecordValue) (i : ℕ) (bytes : List ℕ) (b : Bool) → (IsTrue b ↔ IsValidFragment r i bytes) → b ≡ is_valid_fragment r i bytes
verdict-is-test r i bytes b same = tested b (is_valid_fragment r i bytes) (λ e. valid-test r i bytes (same.0 e)) (λ e. same.1 (test-valid r i bytes e))

-- Words tell the record.
use Rattle.std.proofs.Common.{◌≡◌, ◌≢◌, ℕ, zero, suc, ◌+◌, ◌^◌, ◌<◌, ◌≤◌, Bool, true, false, eqb-true, ltb, ltb-true, List, [], ◌∷◌, length, drop, slice_index, IsTrue, refl, sym, ap, ◌∙◌, subst, arith}
use Rattle.std.specs.Prelude.{flat_map, All}
use Rattle.std.proofs.lemmas.Nat.{same_from_place}
use Rattle.std.proofs.lemmas.Bool.{ltb-false}
use Rattle.std.proofs.lemmas.List.{ext_get_or}
use Rattle.std.proofs.lemmas.List.Elements.{All-head, All-tail}
use Rattle.byteorder.specs.Endian.{big_from}
use Rattle.byteorder.specs.Numbers.{big_from-lt}
use Rattle.hy_record.specs.Hash.{IsHash}
use Rattle.hy_record.specs.Spelling.{kind_byte}
use Rattle.hy_record.specs.declared.kind.Kind.{Kind}
use Rattle.hy_record.specs.declared.kind.Kind.TheVariants.{Tomb, Whole, Coded}
use Rattle.hy_record.specs.Record.{RecordValue, IsRecord, hash_count, is_part_count, most_faults}
use Rattle.hy_shared.specs.declared.layout.Layout.{Layout}
use Rattle.hy_shared.specs.Rows.{hash_words, record_words, FitsLayout, IsByteList, row_head}
use Rattle.hy_shared.proofs.RowWords.{head-size, head-kind, head-clouds}
use Rattle.hy_shared.proofs.RowReading.{kind-small, clouds-small}

-- numbers of as many bytes are one where the bytes are
bytes-same : (n i : ℕ) (a b : List ℕ) → IsByteList a → IsByteList b → big_from i n a ≡ big_from i n b → (k : ℕ) → k < n → slice_index a (i + k) ≡ slice_index b (i + k)
bytes-same zero i a b p q same k less = absurd (omega (arith, less))
bytes-same (suc n) i a b p q same zero less =
    let both = same_from_place (slice_index a i) (big_from (suc i) n a) (slice_index b i) (big_from (suc i) n b) (256 ^ n) (big_from-lt (suc i) n a p) (big_from-lt (suc i) n b q) same in
    let here : i + zero ≡ i = omega arith in
    ap (slice_index a) here ∙ both.0 ∙ sym (ap (slice_index b) here)
bytes-same (suc n) i a b p q same (suc k) less =
    let both = same_from_place (slice_index a i) (big_from (suc i) n a) (slice_index b i) (big_from (suc i) n b) (256 ^ n) (big_from-lt (suc i) n a p) (big_from-lt (suc i) n b q) same in
    let here : i + suc k ≡ suc i + k = omega arith in
    ap (slice_index a) here ∙ bytes-same n (suc i) a b p q both.1 k (omega (arith, less)) ∙ sym (ap (slice_index b) here)

-- the eight bytes from a place, each by its own place
eight-same : (p : ℕ) (a b : List ℕ) → IsByteList a → IsByteList b → big_from p 8 a ≡ big_from p 8 b → (i : ℕ) → p ≤ i → i < p + 8 → slice_index a i ≡ slice_index b i
eight-same p a b byte_a byte_b same i from below =
    let d = difference p i from in
    let less : d.0 < 8 = let e = d.1 in omega (arith, e, below) in
    ap (slice_index a) (sym d.1) ∙ bytes-same 8 p a b byte_a byte_b same d.0 less ∙ sym (ap (slice_index b) (sym d.1))
  where
    difference : (p i : ℕ) → p ≤ i → (d : ℕ) × (p + d ≡ i)
    difference zero i le = (i, omega arith)
    difference (suc p) zero le = absurd (omega (arith, le))
    difference (suc p) (suc i) le = let d = difference p i (omega (arith, le)) in let e = d.1 in (d.0, omega (arith, e))

-- hashes are one where their words are
hash-same : (a b : List ℕ) → IsHash a → IsHash b → IsByteList a → IsByteList b → hash_words a ≡ hash_words b → a ≡ b
hash-same a b size_a size_b byte_a byte_b same =
    let long = size_a.size in
    ext_get_or 0 a b (size_a.size ∙ sym size_b.size) (λ i less.
    let first = ap (λ l. slice_index l 0) same in
    let second = ap (λ l. slice_index l 1) same in
    let third = ap (λ l. slice_index l 2) same in
    let fourth = ap (λ l. slice_index l 3) same in
    by_eight i (omega (arith, less, long)) first second third fourth)
  where
    by_eight : (i : ℕ) → i < 32 → big_from 0 8 a ≡ big_from 0 8 b → big_from 8 8 a ≡ big_from 8 8 b → big_from 16 8 a ≡ big_from 16 8 b → big_from 24 8 a ≡ big_from 24 8 b
        → slice_index a i ≡ slice_index b i
    by_eight i less first second third fourth = test (ltb i 8) refl (ltb i 16) refl (ltb i 24) refl
      where
        test : (x : Bool) → ltb i 8 ≡ x → (y : Bool) → ltb i 16 ≡ y → (z : Bool) → ltb i 24 ≡ z → slice_index a i ≡ slice_index b i
        test true is y y_is z z_is = let l = ltb-true i 8 is in eight-same 0 a b byte_a byte_b first i (omega arith) (omega (arith, l))
        test false is true y_is z z_is = let n = ltb-false i 8 is in let l = ltb-true i 16 y_is in eight-same 8 a b byte_a byte_b second i n (omega (arith, l))
        test false is false y_is true z_is = let n = ltb-false i 16 y_is in let l = ltb-true i 24 z_is in eight-same 16 a b byte_a byte_b third i n (omega (arith, l))
        test false is false y_is false z_is = let n = ltb-false i 24 z_is in eight-same 24 a b byte_a byte_b fourth i n (omega (arith, less))

-- lists of as many hashes are one where their words are
hashes-same : (hs gs : List (List ℕ)) → length hs ≡ length gs → All IsHash hs → All IsHash gs → All IsByteList hs → All IsByteList gs → flat_map hash_words hs ≡ flat_map hash_words gs → hs ≡ gs
hashes-same [] [] long p q r s same = refl
hashes-same [] (b ∷ gs) long p q r s same = absurd (omega (arith, long))
hashes-same (a ∷ hs) [] long p q r s same = absurd (omega (arith, long))
hashes-same (a ∷ hs) (b ∷ gs) long p q r s same =
    let word : (i : ℕ) → slice_index (flat_map hash_words (a ∷ hs)) i ≡ slice_index (flat_map hash_words (b ∷ gs)) i = λ i. ap (λ l. slice_index l i) same in
    let front : hash_words a ≡ hash_words b =
    (let w0 = word 0 in let w1 = word 1 in let w2 = word 2 in let w3 = word 3 in λ i. w0 i ∷ w1 i ∷ w2 i ∷ w3 i ∷ []) in
    let first = hash-same a b (All-head IsHash a hs p) (All-head IsHash b gs q) (All-head IsByteList a hs r) (All-head IsByteList b gs s) front in
    let rest = hashes-same hs gs (let l = long in omega (arith, l)) (All-tail IsHash a hs p) (All-tail IsHash b gs q) (All-tail IsByteList a hs r) (All-tail IsByteList b gs s) (ap (drop 4) same) in
    λ i. first i ∷ rest i

kind-same : (a b : Kind) → kind_byte a ≡ kind_byte b → a ≡ b
kind-same Tomb Tomb e = refl
kind-same Tomb Whole e = absurd (omega (arith, e))
kind-same Tomb Coded e = absurd (omega (arith, e))
kind-same Whole Tomb e = absurd (omega (arith, e))
kind-same Whole Whole e = refl
kind-same Whole Coded e = absurd (omega (arith, e))
kind-same Coded Tomb e = absurd (omega (arith, e))
kind-same Coded Whole e = absurd (omega (arith, e))
kind-same Coded Coded e = refl

whole-apart : Whole ≡ Tomb → ⊥
whole-apart e = cc

coded-apart : Coded ≡ Tomb → ⊥
coded-apart e = cc

-- records of one kind that fit one table have one shape
shape-same : (z : Layout) (kind : Kind) (f k g m : ℕ) → f ≤ most_faults kind → g ≤ most_faults kind → IsTrue (is_part_count kind k) → IsTrue (is_part_count kind m)
    → (kind ≢ Tomb → (f ≡ z.f) × (k ≡ z.k)) → (kind ≢ Tomb → (g ≡ z.f) × (m ≡ z.k)) → (f ≡ g) × (k ≡ m)
shape-same z Tomb f k g m few few' parts parts' fits fits' = (omega (arith, few, few'), eqb-true k 0 parts ∙ sym (eqb-true m 0 parts'))
shape-same z Whole f k g m few few' parts parts' fits fits' = let a = fits whole-apart in let b = fits' whole-apart in (a.0 ∙ sym b.0, a.1 ∙ sym b.1)
shape-same z Coded f k g m few few' parts parts' fits fits' = let a = fits coded-apart in let b = fits' coded-apart in (a.0 ∙ sym b.0, a.1 ∙ sym b.1)

pub tells : (z : Layout) (a b : RecordValue) → IsRecord a → IsRecord b → FitsLayout z a → FitsLayout z b → All IsByteList a.hashes → All IsByteList b.hashes → a.stamp ≡ b.stamp → record_words a ≡ record_words b → a ≡ b
tells z a b ruled_a ruled_b fits_a fits_b byte_a byte_b stamp words =
    let head : row_head a ≡ row_head b = ap (λ l. slice_index l 0) words in
    let size = sym (head-size (row_head a) a.size (kind_byte a.kind) a.clouds (kind-small a.kind) (clouds-small a ruled_a) refl) ∙ head-size (row_head a) b.size (kind_byte b.kind) b.clouds (kind-small b.kind) (clouds-small b ruled_b) head in
    let number = sym (head-kind (row_head a) a.size (kind_byte a.kind) a.clouds (kind-small a.kind) (clouds-small a ruled_a) refl) ∙ head-kind (row_head a) b.size (kind_byte b.kind) b.clouds (kind-small b.kind) (clouds-small b ruled_b) head in
    let clouds = sym (head-clouds (row_head a) a.size (kind_byte a.kind) a.clouds (kind-small a.kind) (clouds-small a ruled_a) refl) ∙ head-clouds (row_head a) b.size (kind_byte b.kind) b.clouds (kind-small b.kind) (clouds-small b ruled_b) head in
    let kind = kind-same a.kind b.kind number in
    let faults_b = subst (λ kd. b.f ≤ most_faults kd) (sym kind) ruled_b.faults in
    let parts_b = subst (λ kd. IsTrue (is_part_count kd b.k)) (sym kind) ruled_b.parts in
    let fits_b' : a.kind ≢ Tomb → (b.f ≡ z.f) × (b.k ≡ z.k) = λ value. fits_b (λ tomb. value (kind ∙ tomb)) in
    let shape = shape-same z a.kind a.f a.k b.f b.k ruled_a.faults faults_b ruled_a.parts parts_b fits_a fits_b' in
    let count : length a.hashes ≡ length b.hashes = ruled_a.hashes ∙ (λ i. hash_count (kind i) (shape.0 i) (shape.1 i)) ∙ sym ruled_b.hashes in
    let hashes = hashes-same a.hashes b.hashes count ruled_a.sizes ruled_b.sizes byte_a byte_b (ap (drop 1) words) in
    λ i. record { stamp = stamp i; kind = kind i; size = size i; f = shape.0 i; k = shape.1 i; clouds = clouds i; hashes = hashes i }

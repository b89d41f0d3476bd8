-- The words of a record, one by one.
use Rattle.std.proofs.Common.{◌≡◌, ◌≢◌, ℕ, zero, suc, ◌+◌, ◌-◌, ◌*◌, ◌/◌, ◌%◌, ◌^◌, ◌<◌, ◌≤◌, Bool, true, false, cond, List, [], ◌∷◌, ◌++◌, length, drop, slice_index, IsTrue, Option, Some, None, refl, sym, ap, ◌∙◌, subst, arith, get_or-drop, div-add-mod', mod-lt, eqb, eqb-true, ltb, lt-ltb, take, append-nil, append_assoc, shr-shr, w64}
use Rattle.std.specs.Int.{to_be_bytes}
use Rattle.std.proofs.lemmas.List.{take_more}
use Rattle.byteorder.specs.Numbers.{big_number-reads_back}
use Rattle.std.specs.Prelude.{flat_map}
use Rattle.std.specs.List.{slice_get}
use Rattle.std.proofs.lemmas.Option.{none-some, same_Some}
use Rattle.byteorder.specs.Endian.{big_from, big_number, big_bytes}
use Rattle.hy_record.specs.declared.kind.Kind.{Kind}
use Rattle.hy_record.specs.declared.kind.Kind.TheVariants.{Tomb, Whole, Coded}
use Rattle.hy_record.specs.Record.{RecordValue, IsRecord, hash_count, is_part_count, hash_of, hash_among}
use Rattle.hy_base.specs.Shape.{cloud_count}
use Rattle.hy_shared.specs.Rows.{hash_words, record_words}
use Rattle.hy_shared.proofs.Storing.{hashes-words}

-- ---- numbers in bytes further on

pub big-drop : (k i n : ℕ) (xs : List ℕ) → big_from i n (drop k xs) ≡ big_from (k + i) n xs
big-drop k i zero xs = refl
big-drop k i (suc n) xs =
    let head : slice_index (drop k xs) i ≡ slice_index xs (k + i) = get_or-drop k xs i 0 in
    let rest : big_from (suc i) n (drop k xs) ≡ big_from (suc (k + i)) n xs = big-drop k (suc i) n xs ∙ ap (λ j. big_from j n xs) (let e : k + suc i ≡ suc (k + i) = omega arith in e) in
    (λ j. head j * 256 ^ n + rest j)

-- ---- the words of hashes

first-four : (r : ℕ) (h rest : List ℕ) → r < 4 → slice_index (hash_words h ++ rest) r ≡ big_from (8 * r) 8 h
first-four zero h rest less = refl
first-four (suc zero) h rest less = refl
first-four (suc (suc zero)) h rest less = refl
first-four (suc (suc (suc zero))) h rest less = refl
first-four (suc (suc (suc (suc r)))) h rest less = absurd (omega (arith, less))

words-at : (hashes : List (List ℕ)) (q r : ℕ) (hash : List ℕ) → slice_get hashes q ≡ Some hash → r < 4 → slice_index (flat_map hash_words hashes) (q * 4 + r) ≡ big_from (8 * r) 8 hash
words-at [] q r hash at less = absurd (none-some hash at)
words-at (h ∷ hs) zero r hash at less =
    ap (slice_index (flat_map hash_words (h ∷ hs))) (let e : zero * 4 + r ≡ r = omega arith in e) ∙ first-four r h (flat_map hash_words hs) less ∙ ap (big_from (8 * r) 8) (same_Some h hash at)
words-at (h ∷ hs) (suc q) r hash at less =
    ap (slice_index (flat_map hash_words (h ∷ hs))) (let e : suc q * 4 + r ≡ suc (suc (suc (suc (q * 4 + r)))) = omega arith in e) ∙ words-at hs q r hash at less

-- the word at a place behind the first
pub word-at : (rec : RecordValue) (i : ℕ) (hash : List ℕ) → 0 < i → slice_get rec.hashes ((i - 1) / 4) ≡ Some hash → big_number 8 (drop (8 * ((i - 1) % 4)) hash) ≡ slice_index (record_words rec) i
word-at rec zero hash some_ at = absurd (omega (arith, some_))
word-at rec (suc m) hash some_ at =
    let less : suc m - 1 ≡ m = omega arith in
    let at' : slice_get rec.hashes (m / 4) ≡ Some hash = ap (λ k. slice_get rec.hashes (k / 4)) (sym less) ∙ at in
    let low : m % 4 < 4 = mod-lt m (omega arith) in
    let whole : m / 4 * 4 + m % 4 ≡ m = div-add-mod' m 4 in
    big-drop (8 * ((suc m - 1) % 4)) 0 8 hash
    ∙ ap (λ k. big_from k 8 hash) (let e : 8 * (m % 4) + 0 ≡ 8 * (m % 4) = omega arith in ap (λ k. 8 * (k % 4) + 0) less ∙ e)
    ∙ sym (words-at rec.hashes (m / 4) (m % 4) hash at' low)
    ∙ ap (slice_index (flat_map hash_words rec.hashes)) whole

pub words-count : (rec : RecordValue) → length (record_words rec) ≡ 1 + 4 * length rec.hashes
words-count rec = let h = hashes-words rec.hashes in omega (arith, h)

-- the place of a word's hash
pub hash-within : (rec : RecordValue) (i : ℕ) → 0 < i → i < length (record_words rec) → (i - 1) / 4 < length rec.hashes
hash-within rec i some_ less =
    let count = words-count rec in let whole = div-add-mod' (i - 1) 4 in omega (arith, count, whole, less, some_)

-- ---- hashes

few-hashes : (kind : Kind) (f k : ℕ) → f ≤ 3 → IsTrue (is_part_count kind k) → hash_count kind f k ≤ 10
few-hashes Tomb f k few parts = omega arith
few-hashes Whole f k few parts = omega arith
few-hashes Coded f k few parts = let most = Rattle.std.proofs.Common.leb-true k 4 (Rattle.std.proofs.lemmas.Bool.and_parts (Rattle.std.proofs.Common.leb 2 k) (Rattle.std.proofs.Common.leb k 4) parts).1 in omega (arith, few, most)

faults-few : (kind : Kind) (f : ℕ) → f ≤ Rattle.hy_record.specs.Record.most_faults kind → f ≤ 3
faults-few Tomb f le = omega (arith, le)
faults-few Whole f le = omega (arith, le)
faults-few Coded f le = omega (arith, le)

-- a record has ten hashes at most
pub hashes-few : (rec : RecordValue) → IsRecord rec → length rec.hashes ≤ 10
hashes-few rec ruled = let count = ruled.hashes in let few = few-hashes rec.kind rec.f rec.k (faults-few rec.kind rec.f ruled.faults) ruled.parts in omega (arith, count, few)

found-hash : (kind : Kind) (f k : ℕ) (hashes : List (List ℕ)) (i : ℕ) → length hashes ≡ hash_count kind f k → IsTrue (is_part_count kind k) → i < length hashes
    → (cond (ltb i (cloud_count f k)) (hash_among kind hashes i) None) ≡ slice_get hashes i
found-hash Tomb f k hashes i count parts less = absurd (omega (arith, count, less))
found-hash Whole f k hashes i count parts less =
    let one : k ≡ 1 = eqb-true k 1 parts in
    let none : i ≡ 0 = omega (arith, count, less) in
    ap (λ b. cond b (slice_get hashes 0) None) (lt-ltb i (cloud_count f k) (omega (arith, one, none))) ∙ ap (slice_get hashes) (sym none)
found-hash Coded f k hashes i count parts less = ap (λ b. cond b (slice_get hashes i) None) (lt-ltb i (cloud_count f k) (omega (arith, count, less)))

-- the hash that a cloud holds is that of its place
pub hash-is : (rec : RecordValue) → IsRecord rec → (i : ℕ) → i < length rec.hashes → hash_of rec i ≡ slice_get rec.hashes i
hash-is rec ruled i less = found-hash rec.kind rec.f rec.k rec.hashes i ruled.hashes ruled.parts less

pub get-some : {A : Type 0} (xs : List A) (i : ℕ) → i < length xs → (x : A) × (slice_get xs i ≡ Some x)
get-some [] i less = absurd (omega (arith, less))
get-some (x ∷ xs) zero less = (x, refl)
get-some (x ∷ xs) (suc i) less = get-some xs i (omega (arith, less))

-- ---- from words to bytes

-- the number in the bytes of a number
pub number-of-bytes : (n : ℕ) (bytes : List ℕ) → n < 2 ^ 64 → bytes ≡ to_be_bytes w64 n → big_from 0 8 bytes ≡ n
number-of-bytes n bytes small is =
    ap (big_from 0 8) (is ∙ sym (append-nil (big_bytes 8 n))) ∙ big_number-reads_back 8 n [] small

pub four-words : (a b c d e f g h : ℕ) → a ≡ e → b ≡ f → c ≡ g → d ≡ h → a ∷ b ∷ c ∷ d ∷ [] ≡ e ∷ f ∷ g ∷ h ∷ []
four-words a b c d e f g h p q r s = λ i. p i ∷ q i ∷ r i ∷ s i ∷ []

-- four more words of a list
pub four-more : (ws : List ℕ) (i n : ℕ) → n ≡ 4 * i → n + 4 ≤ length ws
    → take (4 * (i + 1)) ws ≡ take (4 * i) ws ++ (slice_index ws n ∷ slice_index ws (n + 1) ∷ slice_index ws (n + 2) ∷ slice_index ws (n + 3) ∷ [])
four-more ws i n is room =
    let next : 4 * (i + 1) ≡ n + 1 + 1 + 1 + 1 = omega (arith, is) in
    ap (λ k. take k ws) next
    ∙ take_more ws (n + 1 + 1 + 1) 0 (omega (arith, room))
    ∙ ap (λ l. l ++ slice_index ws (n + 1 + 1 + 1) ∷ []) (take_more ws (n + 1 + 1) 0 (omega (arith, room)) ∙ ap (λ l. l ++ slice_index ws (n + 1 + 1) ∷ []) (take_more ws (n + 1) 0 (omega (arith, room)) ∙ ap (λ l. l ++ slice_index ws (n + 1) ∷ []) (take_more ws n 0 (omega (arith, room)))))
    ∙ append_assoc (take n ws ++ slice_index ws n ∷ [] ++ slice_index ws (n + 1) ∷ []) (slice_index ws (n + 1 + 1) ∷ []) (slice_index ws (n + 1 + 1 + 1) ∷ [])
    ∙ append_assoc (take n ws ++ slice_index ws n ∷ []) (slice_index ws (n + 1) ∷ []) (slice_index ws (n + 1 + 1) ∷ slice_index ws (n + 1 + 1 + 1) ∷ [])
    ∙ append_assoc (take n ws) (slice_index ws n ∷ []) (slice_index ws (n + 1) ∷ slice_index ws (n + 1 + 1) ∷ slice_index ws (n + 1 + 1 + 1) ∷ [])
    ∙ (let two : n + 1 + 1 ≡ n + 2 = omega arith in let three : n + 1 + 1 + 1 ≡ n + 3 = omega arith in
    λ j. take (is j) ws ++ (slice_index ws n ∷ slice_index ws (n + 1) ∷ slice_index ws (two j) ∷ slice_index ws (three j) ∷ []))

-- ---- the first word

-- the parts of a first word
pub head-sum : (w : ℕ) → w / 4294967296 * 4294967296 + w / 65536 % 65536 * 65536 + w % 65536 ≡ w
head-sum w =
    let low : w / 65536 * 65536 + w % 65536 ≡ w = div-add-mod' w 65536 in
    let high : w / 65536 / 65536 * 65536 + w / 65536 % 65536 ≡ w / 65536 = div-add-mod' (w / 65536) 65536 in
    let top : w / 65536 / 65536 ≡ w / 4294967296 = shr-shr w 16 16 in
    sums (w / 4294967296) (w / 65536 % 65536) (w / 65536) (w % 65536) w (subst (λ q. q * 65536 + w / 65536 % 65536 ≡ w / 65536) top high) low
  where
    sums : (a b q r w : ℕ) → a * 65536 + b ≡ q → q * 65536 + r ≡ w → a * 4294967296 + b * 65536 + r ≡ w
    sums a b q r w e f = omega (arith, e, f)

-- the kind in it
pub head-kind : (w size kind clouds : ℕ) → kind < 65536 → clouds < 65536 → w ≡ size * 4294967296 + kind * 65536 + clouds → w / 65536 % 65536 ≡ kind
head-kind w size kind clouds less low is =
    let sum = head-sum w in
    let a : w / 65536 % 65536 < 65536 = mod-lt (w / 65536) (omega arith) in
    let b : w % 65536 < 65536 = mod-lt w (omega arith) in
    middle (w / 4294967296) (w / 65536 % 65536) (w % 65536) size kind clouds a b less low (sum ∙ is)
  where
    middle : (a b r c d s : ℕ) → b < 65536 → r < 65536 → d < 65536 → s < 65536 → a * 4294967296 + b * 65536 + r ≡ c * 4294967296 + d * 65536 + s → b ≡ d
    middle a b r c d s p q t u e = omega (arith, p, q, t, u, e)

-- the size in it
pub head-size : (w size kind clouds : ℕ) → kind < 65536 → clouds < 65536 → w ≡ size * 4294967296 + kind * 65536 + clouds → w / 4294967296 ≡ size
head-size w size kind clouds less low is =
    let sum = head-sum w in
    let a : w / 65536 % 65536 < 65536 = mod-lt (w / 65536) (omega arith) in
    let b : w % 65536 < 65536 = mod-lt w (omega arith) in
    top (w / 4294967296) (w / 65536 % 65536) (w % 65536) size kind clouds a b less low (sum ∙ is)
  where
    top : (a b r c d s : ℕ) → b < 65536 → r < 65536 → d < 65536 → s < 65536 → a * 4294967296 + b * 65536 + r ≡ c * 4294967296 + d * 65536 + s → a ≡ c
    top a b r c d s p q t u e = omega (arith, p, q, t, u, e)

-- the clouds in it
pub head-clouds : (w size kind clouds : ℕ) → kind < 65536 → clouds < 65536 → w ≡ size * 4294967296 + kind * 65536 + clouds → w % 65536 ≡ clouds
head-clouds w size kind clouds less low is =
    let sum = head-sum w in
    let a : w / 65536 % 65536 < 65536 = mod-lt (w / 65536) (omega arith) in
    let b : w % 65536 < 65536 = mod-lt w (omega arith) in
    last (w / 4294967296) (w / 65536 % 65536) (w % 65536) size kind clouds a b less low (sum ∙ is)
  where
    last : (a b r c d s : ℕ) → b < 65536 → r < 65536 → d < 65536 → s < 65536 → a * 4294967296 + b * 65536 + r ≡ c * 4294967296 + d * 65536 + s → r ≡ s
    last a b r c d s p q t u e = omega (arith, p, q, t, u, e)

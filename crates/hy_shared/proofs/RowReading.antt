-- The record that the words of a row are.
use Rattle.std.proofs.Common.{◌≡◌, ◌≢◌, ℕ, zero, suc, ◌+◌, ◌*◌, ◌/◌, ◌%◌, ◌^◌, ◌<◌, ◌≤◌, Bool, true, false, cond, eqb, eqb-true, ltb, ltb-true, leb, leb-true, List, [], ◌∷◌, ◌++◌, length, take, drop, slice_index, IsTrue, Some, None, refl, sym, ap, ◌∙◌, subst, arith, take_all, append-nil, length-drop, get_or-drop}
use Rattle.std.proofs.lemmas.Option.{none-some, same_Some}
use Rattle.std.proofs.lemmas.List.Concat.{flat_map-append}
use Rattle.std.specs.Prelude.{flat_map, count_ones}
use Rattle.std.specs.List.{slice_get}
use Rattle.std.proofs.lemmas.Bool.{and_parts}
use Rattle.std.proofs.lemmas.List.{nil_from_length}
use Rattle.std.proofs.lemmas.Nat.{pow_below}
use Rattle.hy_record.specs.Stamp.{Timestamp}
use Rattle.hy_record.specs.declared.kind.Kind.{Kind}
use Rattle.hy_record.specs.declared.kind.Kind.TheVariants.{Tomb, Whole, Coded}
use Rattle.hy_record.specs.Spelling.{kind_byte}
use Rattle.hy_record.specs.Record.{RecordValue, IsRecord, hash_count, is_part_count, is_cloud_list, kind_of_parts, most_faults, most_bytes}
use Rattle.hy_base.specs.Shape.{cloud_count}
use Rattle.hy_shared.specs.declared.layout.Layout.{Layout}
use Rattle.hy_shared.specs.declared.event.Event.{Event}
use Rattle.hy_shared.specs.declared.event.Event.TheVariants.{Set}
use Rattle.hy_shared.specs.Rows.{row_head, hash_words, record_words, FitsLayout}
use Rattle.hy_shared.specs.declared.said.Seen.{Seen}
use Rattle.hy_shared.specs.Rule.{IsWithin}
use Rattle.hy_shared.specs.Sessions.{SessionValue}
use Rattle.hy_shared.specs.Answers.{IsWordOf, Looks}
use Rattle.hy_shared.proofs.Lists.{all-at}
use Rattle.hy_shared.specs.declared.found.Found.{Found}
use Rattle.hy_base.specs.declared.limits.TheConstants.{MAX_VALUE}
use Rattle.hy_shared.specs.Recorded.{HasRecord}
use Rattle.hy_shared.specs.Found.{IsWritten, HasWritten, Reads, seen_of}
use Rattle.hy_shared.proofs.RowWords.{head-sum, head-kind, head-size, head-clouds, words-count, get-some, four-words, four-more}
use Rattle.hy_shared.proofs.Storing.{hashes-words}

-- ---- what the rules of a record say of its first word

pub kind-small : (kind : Kind) → kind_byte kind < 65536
kind-small Tomb = omega arith
kind-small Whole = omega arith
kind-small Coded = omega arith

few-clouds : (kind : Kind) (f k : ℕ) → f ≤ most_faults kind → IsTrue (is_part_count kind k) → 2 * f + k < 16
few-clouds Tomb f k le parts = let z = eqb-true k 0 parts in omega (arith, le, z)
few-clouds Whole f k le parts = let z = eqb-true k 1 parts in omega (arith, le, z)
few-clouds Coded f k le parts = let m = leb-true k 4 (and_parts (leb 2 k) (leb k 4) parts).1 in omega (arith, le, m)

pub clouds-small : (r : RecordValue) → IsRecord r → r.clouds < 65536
clouds-small r ruled =
    let below = ltb-true r.clouds (2 ^ cloud_count r.f r.k) (and_parts (ltb r.clouds (2 ^ cloud_count r.f r.k)) (eqb (count_ones r.clouds) (r.f + r.k)) ruled.clouds).0 in
    let top : 2 ^ cloud_count r.f r.k < 2 ^ 16 = pow_below (cloud_count r.f r.k) 16 (few-clouds r.kind r.f r.k ruled.faults ruled.parts) in
    omega (arith, below, top)

-- the kind that the first word names
pub kind-read : (r : RecordValue) → IsRecord r → (head : ℕ) → head ≡ row_head r → head / 65536 % 65536 ≡ kind_byte r.kind
kind-read r ruled head is = head-kind head r.size (kind_byte r.kind) r.clouds (kind-small r.kind) (clouds-small r ruled) is

tomb-of : (kind : Kind) → kind_byte kind ≡ 0 → kind ≡ Tomb
tomb-of Tomb e = refl
tomb-of Whole e = absurd (omega (arith, e))
tomb-of Coded e = absurd (omega (arith, e))

not-tomb : (kind : Kind) → (kind_byte kind ≡ 0 → ⊥) → kind ≢ Tomb
not-tomb kind other e = other (ap kind_byte e)

-- ---- a deletion

tomb-words : (size f k clouds : ℕ) (hashes : List (List ℕ)) → size ≤ 0 → f ≤ 0 → eqb k 0 ≡ true → IsTrue (is_cloud_list f k clouds) → length hashes ≡ 0
    → (size * 4294967296 + 0 + clouds) ∷ flat_map hash_words hashes ≡ 0 ∷ []
tomb-words size f k clouds hashes small few none list_ count =
    let f_is : f ≡ 0 = omega (arith, few) in let k_is = eqb-true k 0 none in
    let below = ltb-true clouds (2 ^ cloud_count f k) (and_parts (ltb clouds (2 ^ cloud_count f k)) (eqb (count_ones clouds) (f + k)) list_).0 in
    let one : 2 ^ cloud_count f k ≡ 1 = ap (λ n. 2 ^ n) (let e : cloud_count f k ≡ 0 = omega (arith, f_is, k_is) in e) in
    let head : size * 4294967296 + 0 + clouds ≡ 0 = omega (arith, small, below, one) in
    let nil : hashes ≡ [] = nil_from_length hashes count in
    (λ i. head i ∷ flat_map hash_words (nil i))

tomb-record : (r : RecordValue) → IsRecord r → r.kind ≡ Tomb → record_words r ≡ 0 ∷ []
tomb-record r ruled tomb =
    let at : (kind : Kind) → kind ≡ Tomb → r.size ≤ most_bytes kind → r.f ≤ most_faults kind → IsTrue (is_part_count kind r.k) → length r.hashes ≡ hash_count kind r.f r.k
    → (r.size * 4294967296 + kind_byte kind * 65536 + r.clouds) ∷ flat_map hash_words r.hashes ≡ 0 ∷ [] =
    λ kind is. subst (λ (kd : Kind). r.size ≤ most_bytes kd → r.f ≤ most_faults kd → IsTrue (is_part_count kd r.k) → length r.hashes ≡ hash_count kd r.f r.k
    → (r.size * 4294967296 + kind_byte kd * 65536 + r.clouds) ∷ flat_map hash_words r.hashes ≡ 0 ∷ []) (sym is)
    (λ size faults parts count. tomb-words r.size r.f r.k r.clouds r.hashes size faults parts ruled.clouds count) in
    at r.kind tomb ruled.size ruled.faults ruled.parts ruled.hashes

first-word : (r : RecordValue) (words : List ℕ) → words ≡ record_words r → slice_get words 0 ≡ Some (row_head r)
first-word r words is = ap (λ l. slice_get l 0) is

-- the writing is one of these words
pub written-as : (z : Layout) (log : List Event) (key row : ℕ) (stamp : Timestamp) (words target : List ℕ) → words ≡ target → IsWritten z log key row stamp words → IsWritten z log key row stamp target
written-as z log key row stamp words target same w = subst (IsWritten z log key row stamp) same w

pub tomb-written : (z : Layout) (log : List Event) (key row : ℕ) (stamp : Timestamp) (head : ℕ) → HasWritten z log key row stamp → IsWordOf log row 0 head → head / 65536 % 65536 ≡ 0 → IsWritten z log key row stamp (0 ∷ [])
tomb-written z log key row stamp head has word none =
    let r = has.1.3.rec in
    let head_is : head ≡ row_head r = word has.1.0 key stamp has.1.1 has.0 (row_head r) has.1.2 (first-word r has.0 has.1.3.words_are) in
    let tomb = tomb-of r.kind (sym (kind-read r has.1.3.ruled head head_is) ∙ none) in
    written-as z log key row stamp has.0 (0 ∷ []) (has.1.3.words_are ∙ tomb-record r has.1.3.ruled tomb) has.1

-- ---- a value

kind-by-parts : (kind : Kind) (k : ℕ) → kind ≢ Tomb → IsTrue (is_part_count kind k) → kind_of_parts k ≡ kind
kind-by-parts Tomb k value parts = absurd (value refl)
kind-by-parts Whole k value parts = ap (λ b. cond b Whole Coded) parts
kind-by-parts Coded k value parts = by_test (eqb k 1) refl
  where
    by_test : (b : Bool) → eqb k 1 ≡ b → kind_of_parts k ≡ Coded
    by_test false e = ap (λ b. cond b Whole Coded) e
    by_test true e = absurd (let one = eqb-true k 1 e in let m = leb-true 2 k (and_parts (leb 2 k) (leb k 4) parts).0 in omega (arith, one, m))

pub value-written : (z : Layout) (log : List Event) (key row : ℕ) (stamp : Timestamp) (head count : ℕ) (hashes : List (List ℕ)) → HasWritten z log key row stamp → IsWordOf log row 0 head → (head / 65536 % 65536 ≡ 0 → ⊥)
    → count ≡ hash_count (kind_of_parts z.k) z.f z.k
    → ((place key : ℕ) (stamp : Timestamp) (applied : Bool) (words : List ℕ) → slice_get log place ≡ Some (Set row key stamp applied words) → length words ≡ 1 + 4 * count → flat_map hash_words hashes ≡ take (4 * count) (drop 1 words))
    → IsWritten z log key row stamp ((head / 4294967296 * 4294967296 + kind_byte (kind_of_parts z.k) * 65536 + head % 65536) ∷ flat_map hash_words hashes)
value-written z log key row stamp head count hashes has word some_ count_is read =
    let r = has.1.3.rec in
    let ruled = has.1.3.ruled in
    let head_is : head ≡ row_head r = word has.1.0 key stamp has.1.1 has.0 (row_head r) has.1.2 (first-word r has.0 has.1.3.words_are) in
    let byte = kind-read r ruled head head_is in
    let value : r.kind ≢ Tomb = not-tomb r.kind (λ e. some_ (byte ∙ e)) in
    let same = has.1.3.fits value in
    let kind : kind_of_parts z.k ≡ r.kind = ap kind_of_parts (sym same.1) ∙ kind-by-parts r.kind r.k value ruled.parts in
    let kind_number = ap kind_byte kind in
    let hashes_are : length r.hashes ≡ count =
    ruled.hashes ∙ sym (ap (λ (kd : Kind). hash_count kd r.f r.k) kind) ∙ (λ i. hash_count (kind_of_parts z.k) (same.0 i) (same.1 i)) ∙ sym count_is in
    let counted = words-count r in
    let long : length has.0 ≡ 1 + 4 * count = ap length has.1.3.words_are ∙ (let c : length (record_words r) ≡ 1 + 4 * count = omega (arith, counted, hashes_are) in c) in
    let all_ : flat_map hash_words hashes ≡ flat_map hash_words r.hashes =
    read has.1.0 key stamp has.1.1 has.0 has.1.2 long ∙ ap (λ l. take (4 * count) (drop 1 l)) has.1.3.words_are
    ∙ take_all (4 * count) (flat_map hash_words r.hashes) (let h = hashes-words r.hashes in omega (arith, h, hashes_are)) in
    let sum = head-sum head in
    let first : head / 4294967296 * 4294967296 + kind_byte (kind_of_parts z.k) * 65536 + head % 65536 ≡ row_head r =
    ap (λ n. head / 4294967296 * 4294967296 + n * 65536 + head % 65536) (kind_number ∙ sym byte) ∙ sum ∙ head_is in
    written-as z log key row stamp has.0 ((head / 4294967296 * 4294967296 + kind_byte (kind_of_parts z.k) * 65536 + head % 65536) ∷ flat_map hash_words hashes) (has.1.3.words_are ∙ sym (λ i. first i ∷ all_ i)) has.1

-- ---- four more words are one more hash

get-index : (xs : List ℕ) (i v : ℕ) → slice_get xs i ≡ Some v → slice_index xs i ≡ v
get-index [] i v at = absurd (none-some v at)
get-index (x ∷ xs) zero v at = same_Some x v at
get-index (x ∷ xs) (suc i) v at = get-index xs i v at

-- a word that was read is the word
word-is : (log : List Event) (row i n place key : ℕ) (stamp : Timestamp) (applied : Bool) (words : List ℕ) → slice_get log place ≡ Some (Set row key stamp applied words) → i < length words → IsWordOf log row i n → n ≡ slice_index words i
word-is log row i n place key stamp applied words at less word = let v = get-some words i less in word place key stamp applied words v.0 at v.1 ∙ sym (get-index words i v.0 v.1)

pub hash-more : (log : List Event) (row place key : ℕ) (stamp : Timestamp) (applied : Bool) (words : List ℕ) (hashes : List (List ℕ)) (hash : List ℕ) (i count a b c d : ℕ)
    → slice_get log place ≡ Some (Set row key stamp applied words) → length words ≡ 1 + 4 * count → i < count → flat_map hash_words hashes ≡ take (4 * i) (drop 1 words)
    → IsWordOf log row (1 + 4 * i) a → IsWordOf log row (2 + 4 * i) b → IsWordOf log row (3 + 4 * i) c → IsWordOf log row (4 + 4 * i) d → hash_words hash ≡ a ∷ b ∷ c ∷ d ∷ []
    → flat_map hash_words (hashes ++ hash ∷ []) ≡ take (4 * (i + 1)) (drop 1 words)
hash-more log row place key stamp applied words hashes hash i count a b c d at long less so_far in_a in_b in_c in_d is =
    let n : ℕ = 4 * i in
    let ws : List ℕ = drop 1 words in
    let shorter = length-drop 1 words in
    let word : (k m : ℕ) → k ≡ 1 + m → slice_index words k ≡ slice_index ws m = λ k m e. ap (slice_index words) e ∙ sym (get_or-drop 1 words m 0) in
    let a_is = word-is log row (1 + n) a place key stamp applied words at (omega (arith, long, less)) in_a ∙ word (1 + n) n refl in
    let b_is = word-is log row (2 + n) b place key stamp applied words at (omega (arith, long, less)) in_b ∙ word (2 + n) (n + 1) (omega arith) in
    let c_is = word-is log row (3 + n) c place key stamp applied words at (omega (arith, long, less)) in_c ∙ word (3 + n) (n + 2) (omega arith) in
    let d_is = word-is log row (4 + n) d place key stamp applied words at (omega (arith, long, less)) in_d ∙ word (4 + n) (n + 3) (omega arith) in
    flat_map-append hash_words hashes (hash ∷ [])
    ∙ (λ j. so_far j ++ append-nil (hash_words hash) j)
    ∙ ap (λ l. take n ws ++ l) (is ∙ four-words a b c d (slice_index ws n) (slice_index ws (n + 1)) (slice_index ws (n + 2)) (slice_index ws (n + 3)) a_is b_is c_is d_is)
    ∙ sym (four-more ws i n refl (omega (arith, long, less, shorter)))

-- what was looked up is a writing of a record
pub looked-written : (before after : SessionValue) (seen : Seen) → (l : Looks before (Some seen) after) → HasWritten before.table.layout after.seen l.running.key seen.row seen.stamp
looked-written before after seen l =
    let w = l.written.2 in
    let made = all-at (IsWithin before.table.layout before.table.layout.clients) after.seen w.0 (Set seen.row l.running.key seen.stamp w.1 w.2) l.sees.within w.3 in
    (w.2, (w.0, w.1, w.3, made.made.recorded))

-- ---- what was read is a record

-- what the rules of a record say of a value's size and clouds
pub record ReadsValue (z : Layout) (stamp : Timestamp) (head : ℕ) : Type 0 where
  pub stamped : Rattle.hy_record.specs.Stamp.IsWritten stamp
  pub size : head / 4294967296 ≤ MAX_VALUE
  pub clouds : IsTrue (is_cloud_list z.f z.k (head % 65536))

few-bytes : (kind : Kind) → most_bytes kind ≤ MAX_VALUE
few-bytes Tomb = omega arith
few-bytes Whole = omega arith
few-bytes Coded = omega arith

pub reads-value : (z : Layout) (log : List Event) (key row : ℕ) (stamp : Timestamp) (head : ℕ) → HasWritten z log key row stamp → IsWordOf log row 0 head → (head / 65536 % 65536 ≡ 0 → ⊥) → ReadsValue z stamp head
reads-value z log key row stamp head has word some_ =
    let r = has.1.3.rec in
    let ruled = has.1.3.ruled in
    let head_is : head ≡ row_head r = word has.1.0 key stamp has.1.1 has.0 (row_head r) has.1.2 (first-word r has.0 has.1.3.words_are) in
    let byte = kind-read r ruled head head_is in
    let value : r.kind ≢ Tomb = not-tomb r.kind (λ e. some_ (byte ∙ e)) in
    let same = has.1.3.fits value in
    let size = head-size head r.size (kind_byte r.kind) r.clouds (kind-small r.kind) (clouds-small r ruled) head_is in
    let clouds = head-clouds head r.size (kind_byte r.kind) r.clouds (kind-small r.kind) (clouds-small r ruled) head_is in
    let small = ruled.size in
    let most = few-bytes r.kind in
    record {
      stamped = subst Rattle.hy_record.specs.Stamp.IsWritten has.1.3.stamp_is ruled.written;
      size = omega (arith, size, small, most);
      clouds = subst (λ (q : ℕ × ℕ × ℕ). IsTrue (is_cloud_list q.0 q.1 q.2)) (λ i. (same.0 i, same.1 i, sym clouds i)) ruled.clouds;
    }

-- a record of a row has a timestamp that was written
pub stamped : (z : Layout) (log : List Event) (key row : ℕ) (stamp : Timestamp) → HasWritten z log key row stamp → Rattle.hy_record.specs.Stamp.IsWritten stamp
stamped z log key row stamp has = subst Rattle.hy_record.specs.Stamp.IsWritten has.1.3.stamp_is has.1.3.ruled.written

-- the log has the record of these words
pub has-record : (log : List Event) (z : Layout) (key row : ℕ) (stamp : Timestamp) (rec : RecordValue) → IsWritten z log key row stamp (record_words rec) → rec.stamp ≡ stamp → IsRecord rec → HasRecord log key row rec
has-record log z key row stamp rec w same ruled = record {
  place = w.0;
  applied = w.1;
  written = w.2 ∙ ap (λ (s : Timestamp). Some (Set row key s w.1 (record_words rec))) (sym same);
  ruled = ruled;
}

-- nothing was found
pub reads-none : (before after : SessionValue) → Looks before None after → Reads before None after
reads-none before after l = record { running = l.running; ran = l.ran; sees = l.sees; begun = l.begun; runs = l.runs; recorded = tt }

-- what was found, with the record that was read of its row
pub reads-some : (z : Layout) (before after later : SessionValue) (seen : Seen) (found : Found) → (l : Looks before (Some seen) after) → after ≡ later → seen ≡ seen_of found → (key : ℕ) → l.running.key ≡ key → z ≡ after.table.layout
    → HasRecord after.seen key seen.row found.rec → FitsLayout z found.rec → Reads before (Some found) later
reads-some z before after later seen found l after_is seen_is key key_is layout written fits =
    let written' = subst (λ (k : ℕ). HasRecord after.seen k seen.row found.rec) (sym key_is) written in
    let fits' = subst (λ (y : Layout). FitsLayout y found.rec) layout fits in
    let both = subst (λ (q : Seen × SessionValue). (m : Looks before (Some q.0) q.1) × HasRecord q.1.seen m.running.key q.0.row found.rec × FitsLayout q.1.table.layout found.rec) (λ i. (seen_is i, after_is i)) (l, written', fits') in
    let m : Looks before (Some (seen_of found)) later = both.0 in
    record { running = m.running; ran = m.ran; sees = m.sees; begun = m.begun; runs = m.runs; recorded = record { row_in = m.written.1; written = both.1; fits = both.2 } }

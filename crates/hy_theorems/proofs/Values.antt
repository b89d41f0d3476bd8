-- What a read answers is the value of a put, where no two strings that were hashed collide.
use Rattle.std.proofs.Common.{◌≡◌, ℕ, zero, suc, ◌+◌, ◌≤◌, ◌<◌, Bool, true, false, cond, not, List, [], ◌∷◌, length, map, Option, Some, None, refl, sym, ap, subst, ◌∙◌, inl, inr, arith}
use Rattle.std.specs.Prelude.{◌&&◌, ◌==◌, nat_lt, take, slice_get}
use Rattle.std.specs.Option.{option_map}
use Rattle.std.specs.List.{AllByRecursion, range_with_len, filter_map, cons_option}
use Rattle.std.proofs.lemmas.Option.{none-some, same_Some, cond_some, slice_get-map}
use Rattle.std.proofs.lemmas.Bool.{eqb-true, lt-ltb}
use Rattle.std.proofs.lemmas.List.{length-take-le}
use Rattle.std.proofs.lemmas.Slice.Eq.{bytes_eq-Decides}
use Rattle.sha2.specs.Sha256.{sha256}
use Rattle.hy_protocol.specs.Operations.{value_of}
use Rattle.hy_record.specs.Stamp.{Timestamp, stamp_eq, stamp_lt}
use Rattle.hy_base.specs.Shape.{IsShape, cloud_count, fragment_size}
use Rattle.hy_record.specs.Record.{RecordValue, hash_of}
use Rattle.hy_meta.specs.Service.{stamp_of_record}
use Rattle.hy_meta.proofs.Rising.{cases_bool, both}
use Rattle.hy_gf.specs.Gf.{IsElement}
use Rattle.hy_code.specs.declared.pick.Pick.{Pick}
use Rattle.hy_code.specs.Fragments.{fragment_of, rebuilt_value, clouds}
use Rattle.hy_code.specs.Polynomial.{AreElements, AreDifferent, Differs}
use Rattle.hy_code.proofs.FragmentLaws.{fragment_of-one}
use Rattle.hy_code.proofs.AnyParts.{any_parts}
use Rattle.hy_record.specs.declared.turn.Cue.{Cue}
use Rattle.hy_record.specs.declared.turn.Cue.TheVariants as cues
use Rattle.hy_record.specs.declared.cloud.CloudReply.{CloudReply}
use Rattle.hy_record.specs.declared.cloud.CloudSay.{CloudSay}
use Rattle.hy_record.specs.declared.cloud.CloudSay.TheVariants.{Stored, Conflict, Body, Missing, Gone, Bad}
use Rattle.hy_protocol.specs.Inputs.{has_of}
use Rattle.hy_protocol.specs.Write.{value_record, hashes_of}
use Rattle.hy_protocol.specs.Read.{Version, version_of, newer_version, valid_bytes, valid_in, first_valid, valid_picks}
use Rattle.hy_record.specs.Record.{is_valid_fragment, is_tombstone, is_hash}
use Rattle.hy_trace.specs.Deeds.{Params, Deed, Start, inputs_of, start_of}
pub use Rattle.hy_trace.specs.Hashed.{IsPutFragment, IsHandedBody, IsHashed, IsCollisionFree}
use Rattle.hy_trace.proofs.Growth.{or-cases}
use Rattle.hy_trace.proofs.Heard.{IsInput}
use Rattle.hy_theorems.proofs.Speaking.{all-taken}

-- a valid answer of the cloud
pub record IsValidInput (r : RecordValue) (cloud : ℕ) (inputs : List Cue) (bytes : List ℕ) : Type 0 where
  pub reply : CloudReply
  pub input : IsInput inputs (cues.Cloud reply)
  pub body : reply.say ≡ Body bytes
  pub valid : is_valid_fragment r cloud bytes ≡ true

valid-say : (r : RecordValue) (cloud : ℕ) (say : CloudSay) (bytes : List ℕ) → valid_bytes r cloud say ≡ Some bytes → (say ≡ Body bytes) × (is_valid_fragment r cloud bytes ≡ true)
valid-say r cloud (Body b) bytes is =
    let parts = cond_some (is_valid_fragment r cloud b) b bytes is in
    (ap Body parts.1, subst (λ (x : List ℕ). is_valid_fragment r cloud x ≡ true) parts.1 parts.0)
valid-say r cloud (Stored fresh) bytes is = absurd (none-some bytes is)
valid-say r cloud Conflict bytes is = absurd (none-some bytes is)
valid-say r cloud Missing bytes is = absurd (none-some bytes is)
valid-say r cloud Gone bytes is = absurd (none-some bytes is)
valid-say r cloud (Bad code) bytes is = absurd (none-some bytes is)

cond-some : {A : Type 0} (b : Bool) (o : Option A) (x : A) → cond b o None ≡ Some x → o ≡ Some x
cond-some true o x is = is
cond-some false o x is = absurd (none-some x is)

valid-now : (r : RecordValue) (cloud : ℕ) (cue : Cue) (before : List Cue) (bytes : List ℕ) → valid_in r cloud cue ≡ Some bytes → IsValidInput r cloud (cue ∷ before) bytes
valid-now r cloud (cues.Cloud reply) before bytes is =
    let parts = valid-say r cloud reply.say bytes (cond-some (reply.cloud == cloud && stamp_eq reply.stamp r.stamp) (valid_bytes r cloud reply.say) bytes is) in
    record { reply = reply; input = inl refl; body = parts.0; valid = parts.1 }
valid-now r cloud (cues.Meta say) before bytes is = absurd (none-some bytes is)
valid-now r cloud cues.Tick before bytes is = absurd (none-some bytes is)

first-valid : (r : RecordValue) (cloud : ℕ) (inputs : List Cue) (bytes : List ℕ) → first_valid r cloud inputs ≡ Some bytes → IsValidInput r cloud inputs bytes
unfolding first_valid
first-valid r cloud [] bytes is = absurd (none-some bytes is)
first-valid r cloud (cue ∷ before) bytes is =
    elim (or-cases (first_valid r cloud before) (valid_in r cloud cue) bytes is) [
      | inl was ↦ let v = first-valid r cloud before bytes was in record { reply = v.reply; input = inr v.input; body = v.body; valid = v.valid }
      | inr now ↦ valid-now r cloud cue before bytes now.1
    ]

-- inputs after the version are inputs
pub since-inputs : (inputs : List Cue) (v : Version) (cue : Cue) → version_of inputs ≡ Some v → IsInput v.since cue → IsInput inputs cue
unfolding version_of
since-inputs [] v cue is input = absurd (none-some v is)
since-inputs (first ∷ before) v cue is input = by_version (λ w was older. since-inputs before w cue was older) (version_of before) (has_of first) refl is
  where
    same : (w : Version) → w ≡ v → IsInput w.since cue
    same w e = subst (λ (x : Version). IsInput x.since cue) (sym e) input

    longer : ((w : Version) → version_of before ≡ Some w → IsInput w.since cue → IsInput before cue) → (w : Version) → version_of before ≡ Some w → IsInput (first ∷ w.since) cue → IsInput (first ∷ before) cue
    longer older w was (inl e) = inl e
    longer older w was (inr i) = inr (older w was i)

    by_version : ((w : Version) → version_of before ≡ Some w → IsInput w.since cue → IsInput before cue) → (o : Option Version) (has : Option (Option RecordValue)) → version_of before ≡ o → newer_version o first has ≡ Some v → IsInput (first ∷ before) cue
    by_version older None None was e = absurd (none-some v e)
    by_version older None (Some r) was e = absurd (same (record { rec = r; since = [] }) (same_Some _ v e))
    by_version older (Some w) None was e = longer older w was (same (record { rec = w.rec; since = first ∷ w.since }) (same_Some _ v e))
    by_version older (Some w) (Some r) was e =
        elim (cases_bool (stamp_lt (stamp_of_record w.rec) (stamp_of_record r))) [
          | inl above ↦ absurd (same (record { rec = r; since = [] }) (same_Some _ v (rw above at e)))
          | inr not_above ↦ longer older w was (same (record { rec = w.rec; since = first ∷ w.since }) (same_Some _ v (rw not_above at e)))
        ]

got-range : (a n i : ℕ) → i < n → slice_get (range_with_len a n) i ≡ Some (a + i)
got-range a zero i within = absurd (omega (arith, within))
got-range a (suc n) zero within = ap Some (omega arith)
got-range a (suc n) (suc i) within = got-range (a + 1) n i (omega (arith, within)) ∙ ap Some (omega arith)

few-clouds : (f k : ℕ) → IsShape f k → cloud_count f k ≤ 10
few-clouds f k shape = omega (arith, shape.faults, shape.parts)

-- the hash of a value's record for a cloud is that of the value's fragment
pub hash-of : (x : Timestamp) (v : List ℕ) (f k : ℕ) (list : List ℕ) (cloud : ℕ) → IsShape f k → cloud < cloud_count f k → hash_of (value_record x v f k list) cloud ≡ Some (sha256 (fragment_of v k cloud))
unfolding value_record hashes_of
hash-of x v f k list cloud shape within =
    let inside : nat_lt cloud (cloud_count f k) ≡ true = lt-ltb cloud (cloud_count f k) within in
    elim (cases_bool (k == 1)) [
      | inl whole ↦
          let one : k ≡ 1 = eqb-true k 1 whole in
          let small : cloud < 256 = (let few = few-clouds f k shape in omega (arith, few, within)) in
          let same : v ≡ fragment_of v k cloud = sym (fragment_of-one v cloud small) ∙ ap (λ (y : ℕ). fragment_of v y cloud) (sym one) in
          rw (inside, whole) (ap (λ (y : List ℕ). Some (sha256 y)) same)
      | inr coded ↦ rw (inside, coded) (slice_get-map (λ i. sha256 (fragment_of v k i)) (range_with_len 0 (cloud_count f k)) cloud ∙ ap (option_map (λ i. sha256 (fragment_of v k i))) (got-range 0 (cloud_count f k) cloud within ∙ ap Some (omega arith)))
    ]

is-hash : (o : Option (List ℕ)) (h bytes : List ℕ) → o ≡ Some h → is_hash o bytes ≡ true → h ≡ sha256 bytes
is-hash None h bytes is test = absurd (none-some h is)
is-hash (Some g) h bytes is test = sym (same_Some g h is) ∙ (bytes_eq-Decides g (sha256 bytes)).0 test

-- a valid answer under the record of a put is the fragment of its value
module _ (p : Params) (t : List Deed) (shape : IsShape p.f p.k) (free : IsCollisionFree p t) (b n : ℕ) (s : Start) (began : start_of b n t ≡ Some s) (v : List ℕ) (stores : value_of s.action ≡ Some v) (x : Timestamp) (list : List ℕ) where
  abbrev pub rec : RecordValue
  rec = value_record x v p.f p.k list

  shape-of : (rec.f ≡ p.f) × (rec.k ≡ p.k) × (rec.size ≡ length v)
  unfolding value_record
  shape-of = (refl, refl, refl)

  valid-fragment : (c o cloud : ℕ) (bytes : List ℕ) → cloud < cloud_count p.f p.k → IsValidInput rec cloud (inputs_of c o t) bytes → bytes ≡ fragment_of v p.k cloud
  unfolding is_valid_fragment
  valid-fragment c o cloud bytes within valid =
      let tests = both (not (is_tombstone rec.kind) && nat_lt cloud (cloud_count rec.f rec.k) && (length bytes == fragment_size rec.size rec.k)) (is_hash (hash_of rec cloud) bytes) valid.valid in
      let hash : sha256 (fragment_of v p.k cloud) ≡ sha256 bytes = is-hash (hash_of rec cloud) (sha256 (fragment_of v p.k cloud)) bytes (hash-of x v p.f p.k list cloud shape within) tests.1 in
      let put : IsHashed p t (fragment_of v p.k cloud) = inl (record { client = b; op = n; start = s; began = began; value = v; stores = stores; cloud = cloud; within = within; is = refl }) in
      let got : IsHashed p t bytes = inr (record { client = c; op = o; reply = valid.reply; input = valid.input; body = valid.body }) in
      sym (free (fragment_of v p.k cloud) bytes put got hash)

-- picks of the value's fragments
abbrev pub IsPickOf : List ℕ → ℕ → ℕ → Pick → Type 0
IsPickOf v k n pick = (pick.cloud < n) × (pick.bytes ≡ fragment_of v k pick.cloud)

picked-all : (h : ℕ → Option (List ℕ)) (P : Pick → Type 0) (a n : ℕ) → ((cloud : ℕ) (bytes : List ℕ) → a ≤ cloud → cloud < a + n → h cloud ≡ Some bytes → P (record { cloud = cloud; bytes = bytes })) →
    AllByRecursion P (filter_map (λ cloud. option_map (λ bytes. record { cloud = cloud; bytes = bytes }) (h cloud)) (range_with_len a n))
picked-all h P a zero each = tt
picked-all h P a (suc n) each =
    by_first (h a) refl (filter_map (λ cloud. option_map (λ bytes. record { cloud = cloud; bytes = bytes }) (h cloud)) (range_with_len (a + 1) n)) (picked-all h P (a + 1) n (λ cloud bytes low high is. each cloud bytes (omega (arith, low)) (omega (arith, high)) is))
  where
    by_first : (o : Option (List ℕ)) → h a ≡ o → (rest : List Pick) → AllByRecursion P rest → AllByRecursion P (cons_option (option_map (λ bytes. record { cloud = a; bytes = bytes }) o) rest)
    by_first None is others rest = rest
    by_first (Some bytes) is others rest = (each a bytes (omega arith) (omega arith) is, rest)

-- picks by rising clouds, from this one on
abbrev pub AreRising : ℕ → List Pick → Type 0
AreRising a [] = Unit {0}
AreRising a (pick ∷ picks) = (a ≤ pick.cloud) × AreRising (pick.cloud + 1) picks

rising-lower : (a b : ℕ) (picks : List Pick) → a ≤ b → AreRising b picks → AreRising a picks
rising-lower a b [] le rising = tt
rising-lower a b (pick ∷ picks) le rising = (omega (arith, le, rising.0), rising.1)

rising-differs : (a x : ℕ) (picks : List Pick) → x < a → AreRising a picks → Differs x (clouds picks)
rising-differs a x [] less rising = tt
rising-differs a x (pick ∷ picks) less rising = ((λ e. omega (arith, less, rising.0, e)), rising-differs (pick.cloud + 1) x picks (omega (arith, less, rising.0)) rising.1)

rising-different : (a : ℕ) (picks : List Pick) → AreRising a picks → AreDifferent (clouds picks)
rising-different a [] rising = tt
rising-different a (pick ∷ picks) rising = (rising-differs (pick.cloud + 1) pick.cloud picks (omega arith) rising.1, rising-different (pick.cloud + 1) picks rising.1)

rising-taken : (a m : ℕ) (picks : List Pick) → AreRising a picks → AreRising a (take m picks)
rising-taken a zero picks rising = tt
rising-taken a (suc m) [] rising = tt
rising-taken a (suc m) (pick ∷ picks) rising = (rising.0, rising-taken (pick.cloud + 1) m picks rising.1)

picked-rising : (h : ℕ → Option (List ℕ)) (a n : ℕ) → AreRising a (filter_map (λ cloud. option_map (λ bytes. record { cloud = cloud; bytes = bytes }) (h cloud)) (range_with_len a n))
picked-rising h a zero = tt
picked-rising h a (suc n) = by_first (h a) (filter_map (λ cloud. option_map (λ bytes. record { cloud = cloud; bytes = bytes }) (h cloud)) (range_with_len (a + 1) n)) (picked-rising h (a + 1) n)
  where
    by_first : (o : Option (List ℕ)) (rest : List Pick) → AreRising (a + 1) rest → AreRising a (cons_option (option_map (λ bytes. record { cloud = a; bytes = bytes }) o) rest)
    by_first None rest rising = rising-lower a (a + 1) rest (omega arith) rising
    by_first (Some bytes) rest rising = (omega arith, rising)

pick-elements : (v : List ℕ) (k n : ℕ) (picks : List Pick) → n ≤ 256 → AllByRecursion (IsPickOf v k n) picks → AreElements IsElement (clouds picks)
pick-elements v k n [] few all = tt
pick-elements v k n (pick ∷ picks) few all = (omega (arith, few, all.0.0), pick-elements v k n picks few all.1)

pick-fragments : (v : List ℕ) (k n : ℕ) (picks : List Pick) → AllByRecursion (IsPickOf v k n) picks → map (λ pick. pick.bytes) picks ≡ map (fragment_of v k) (clouds picks)
pick-fragments v k n [] all = refl
pick-fragments v k n (pick ∷ picks) all = (let rest = pick-fragments v k n picks all.1 in let first = all.0.1 in cc)

-- a value is rebuilt from the first of its fragments
rebuilt-is : (v : List ℕ) (k n : ℕ) (picks : List Pick) → AreElements IsElement v → 1 ≤ k → k ≤ 256 → n ≤ 256 → AllByRecursion (IsPickOf v k n) picks → AreRising 0 picks → k ≤ length picks → rebuilt_value (length v) k (take k picks) ≡ v
rebuilt-is v k n picks elements low high few all rising enough =
    let taken = all-taken (IsPickOf v k n) k picks all in
    any_parts v k (take k picks) elements low high (record {
      count = length-take-le k picks enough;
      numbers = pick-elements v k n (take k picks) few taken;
      different = rising-different 0 (take k picks) (rising-taken 0 k picks rising);
      fragments = pick-fragments v k n (take k picks) taken;
    })

-- what a read rebuilds under the record of a put is the value
module _ (p : Params) (t : List Deed) (shape : IsShape p.f p.k) (free : IsCollisionFree p t) (b n : ℕ) (s : Start) (began : start_of b n t ≡ Some s) (v : List ℕ) (stores : value_of s.action ≡ Some v) (elements : AreElements IsElement v) (x : Timestamp) (list : List ℕ) (c o : ℕ) (inputs : List Cue) (handed : (cue : Cue) → IsInput inputs cue → IsInput (inputs_of c o t) cue) (w : Version) (is : version_of inputs ≡ Some w) where
  picks-are : AllByRecursion (IsPickOf v p.k (cloud_count p.f p.k)) (valid_picks (value_record x v p.f p.k list) w.since)
  unfolding valid_picks value_record
  picks-are =
      picked-all (λ cloud. first_valid (value_record x v p.f p.k list) cloud w.since) (IsPickOf v p.k (cloud_count p.f p.k)) 0 (cloud_count p.f p.k)
      (λ cloud bytes low high first. (
      let within : cloud < cloud_count p.f p.k = omega (arith, high) in
      let valid = first-valid (value_record x v p.f p.k list) cloud w.since bytes first in
      (within, valid-fragment p t shape free b n s began v stores x list c o cloud bytes within (record { reply = valid.reply; input = handed (cues.Cloud valid.reply) (since-inputs inputs w (cues.Cloud valid.reply) is valid.input); body = valid.body; valid = valid.valid }))))

  picks-rise : AreRising 0 (valid_picks (value_record x v p.f p.k list) w.since)
  unfolding valid_picks value_record
  picks-rise = picked-rising (λ cloud. first_valid (value_record x v p.f p.k list) cloud w.since) 0 (cloud_count p.f p.k)

  pub rebuilt-value : p.k ≤ length (valid_picks (value_record x v p.f p.k list) w.since) → rebuilt_value (length v) p.k (take p.k (valid_picks (value_record x v p.f p.k list) w.since)) ≡ v
  rebuilt-value enough =
      let few = few-clouds p.f p.k shape in
      rebuilt-is v p.k (cloud_count p.f p.k) (valid_picks (value_record x v p.f p.k list) w.since) elements shape.some (omega (arith, few)) (omega (arith, few)) picks-are picks-rise enough

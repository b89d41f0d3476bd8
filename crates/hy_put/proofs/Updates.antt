-- The update of a put: what it lists, and that it is the one that is sent.
use Rattle.std.proofs.Common.{◌≡◌, ℕ, zero, suc, ◌+◌, ◌≤◌, ◌<◌, Bool, true, false, List, [], ◌∷◌, length, Option, Some, None, refl, sym, ap, subst, ◌∙◌, inl, inr, arith}
use Rattle.std.specs.Prelude.{◌==◌, ◌⊎◌, ◌&&◌, ◌||◌, nat_lt, nat_le, All, filter, map, is_some, slice_get, if◌then◌else◌}
use Rattle.std.specs.Option.{option_or, option_and_then, option_map}
use Rattle.std.specs.List.{list_any, range_with_len}
use Rattle.std.proofs.lemmas.Bool.{false≢true, eqb-true, lt-ltb, leb-true}
use Rattle.std.proofs.lemmas.Bool.Decides.{nat_tests}
use Rattle.std.proofs.lemmas.Option.{none-some, same_Some, cond_some, slice_get-map}
use Rattle.std.proofs.lemmas.List.Elements.{All-nil, All-cons, All-map, All-weaker, All-filter}
use Rattle.sha2.specs.Sha256.{sha256}
use Rattle.hy_base.specs.Shape.{IsShape, cloud_count, quorum_size}
use Rattle.hy_code.specs.Fragments.{fragment_of}
use Rattle.hy_code.proofs.FragmentLaws.{fragment_of-one}
use Rattle.hy_record.specs.declared.message.MetaAsk.TheVariants as asks
use Rattle.hy_record.specs.declared.cloud.CloudReply.{CloudReply}
use Rattle.hy_record.specs.declared.turn.Cue.{Cue}
use Rattle.hy_record.specs.declared.turn.Cue.TheVariants as cues
use Rattle.hy_record.specs.declared.turn.Out.{Out}
use Rattle.hy_record.specs.declared.turn.Out.TheVariants as outs
use Rattle.hy_record.specs.Clouds.{clouds_of, set_of}
use Rattle.hy_record.specs.Stamp.{Timestamp, stamp_eq}
use Rattle.hy_record.specs.Record.{RecordValue, hash_of}
use Rattle.hy_meta.proofs.Rising.{cases_bool, both}
use Rattle.hy_protocol.specs.declared.plan.PutPlan.{PutPlan}
use Rattle.hy_protocol.specs.Inputs.{has_of, is_tick, is_answer, is_stored}
use Rattle.hy_protocol.specs.Write.{first_has, since_has, own_stamp, acknowledging_clouds, hashes_of, value_record, record_with, record_at, update_of, write_reply, write_sends, puts_to, read_of, update_with, missing_so_far, earlier_sends, sends_by}
use Rattle.hy_operation.proofs.Filters.{filter-one-more, filter-passed}
use Rattle.hy_operation.proofs.Sets.{clouds-of-set}
use Rattle.hy_put.specs.Updates.{IsRecordOfPut}
use Rattle.hy_put.proofs.Further.{has-more, since-more, update-more, own-upon, none-to-write, none-left, record-own, acknowledged, acks-none, acks-more}

-- ---- the hashes

got-range : (a n i : ℕ) → i < n → slice_get (range_with_len a n) i ≡ Some (a + i)
got-range a zero i within = absurd (omega (arith, within))
got-range a (suc n) zero within = ap Some (omega arith)
got-range a (suc n) (suc i) within = got-range (a + 1) n i (omega (arith, within)) ∙ ap Some (omega arith)

clouds-few : (f k : ℕ) → IsShape f k → cloud_count f k ≤ 10
clouds-few f k shape = omega (arith, shape.faults, shape.parts)

-- the hash of a value's record for a cloud is that of the value's fragment
hash-of : (x : Timestamp) (v : List ℕ) (f k : ℕ) (list : List ℕ) (cloud : ℕ) → IsShape f k → cloud < cloud_count f k → hash_of (value_record x v f k list) cloud ≡ Some (sha256 (fragment_of v k cloud))
unfolding value_record hashes_of
hash-of x v f k list cloud shape within =
    let inside : nat_lt cloud (cloud_count f k) ≡ true = lt-ltb cloud (cloud_count f k) within in
    elim (cases_bool (k == 1)) [
      | inl whole ↦
          let one : k ≡ 1 = eqb-true k 1 whole in
          let small : cloud < 256 = (let few = clouds-few f k shape in omega (arith, few, within)) in
          let same : v ≡ fragment_of v k cloud = sym (fragment_of-one v cloud small) ∙ ap (λ (y : ℕ). fragment_of v y cloud) (sym one) in
          rw (inside, whole) (ap (λ (y : List ℕ). Some (sha256 y)) same)
      | inr coded ↦ rw (inside, coded) (slice_get-map (λ i. sha256 (fragment_of v k i)) (range_with_len 0 (cloud_count f k)) cloud ∙ ap (option_map (λ i. sha256 (fragment_of v k i))) (got-range 0 (cloud_count f k) cloud within ∙ ap Some (omega arith)))
    ]

-- ---- the clouds

-- what acknowledged after the first answer is among the inputs
since-any : (test : Cue → Bool) (own : List Cue) → list_any test (since_has own) ≡ true → list_any test own ≡ true
unfolding since_has
since-any test [] any = any
since-any test (cue ∷ own) any =
    elim (cases_bool (is_some (first_has own))) [
      | inl there ↦ by_test (test cue) (rw there at any) (λ rest. since-any test own rest)
      | inr none ↦ absurd (false≢true (rw none at any))
    ]
  where
    by_test : (b : Bool) → (b || list_any test (since_has own)) ≡ true → (list_any test (since_has own) ≡ true → list_any test own ≡ true) → (b || list_any test own) ≡ true
    by_test true e next = refl
    by_test false e next = next e

-- an input is the answer of one cloud at most
one-cloud : (stamp : Timestamp) (cue : Cue) → (cloud : ℕ) × ((i : ℕ) → is_answer is_stored stamp i cue ≡ true → cloud ≡ i)
one-cloud stamp (cues.Cloud reply) = (reply.cloud, λ i e. eqb-true reply.cloud i (both (reply.cloud == i) (stamp_eq reply.stamp stamp) (both (reply.cloud == i && stamp_eq reply.stamp stamp) (is_stored reply.say) e).0).0)
one-cloud stamp (cues.Meta say) = (0, λ i e. absurd (false≢true e))
one-cloud stamp cues.Tick = (0, λ i e. absurd (false≢true e))

-- so one more cloud acknowledges at most
acks-grow : (plan : PutPlan) (stamp : Timestamp) (cue : Cue) (own : List Cue) → is_some (first_has own) ≡ true → length (acknowledging_clouds plan stamp (cue ∷ own)) ≤ length (acknowledging_clouds plan stamp own) + 1
unfolding acknowledging_clouds
acks-grow plan stamp cue own there =
    let grows = filter-one-more (acknowledged stamp own) (λ i. is_answer is_stored stamp i cue || acknowledged stamp own i) (one-cloud stamp cue).0 0 (cloud_count plan.f plan.k) (λ i l e. by_or (is_answer is_stored stamp i cue) (acknowledged stamp own i) e i ((one-cloud stamp cue).1 i)) in
    subst (λ (xs : List ℕ). length xs ≤ length (acknowledging_clouds plan stamp own) + 1) (sym (acks-more plan stamp cue own there)) grows
  where
    by_or : (a b : Bool) → (a || b) ≡ true → (i : ℕ) → (a ≡ true → (one-cloud stamp cue).0 ≡ i) → (b ≡ true) ⊎ ((one-cloud stamp cue).0 ≡ i)
    by_or true b e i at_it = inr (at_it refl)
    by_or false b e i at_it = inl e

-- where the record could not be written before, a quorum has acknowledged now at most
acks-most : (plan : PutPlan) (value : List ℕ) (stamp : Timestamp) (cue : Cue) (own : List Cue) → plan.value ≡ Some value → record_at plan own ≡ None → own_stamp plan (cue ∷ own) ≡ Some stamp → length (acknowledging_clouds plan stamp (cue ∷ own)) ≤ quorum_size plan.f plan.k
unfolding record_with
acks-most plan value stamp cue own of none is = by_has (first_has own) refl
  where
    few : (n : ℕ) (r : RecordValue) → (if nat_le (quorum_size plan.f plan.k) n then Some r else None) ≡ None → n < quorum_size plan.f plan.k
    few n r e =
        elim (cases_bool (nat_le (quorum_size plan.f plan.k) n)) [
          | inl enough ↦ absurd (none-some r (sym (rw enough at e)))
          | inr low ↦ grind (arith, nat_tests, low)
        ]

    by_has : (o : Option (Option RecordValue)) → first_has own ≡ o → length (acknowledging_clouds plan stamp (cue ∷ own)) ≤ quorum_size plan.f plan.k
    by_has None has = subst (λ (xs : List ℕ). length xs ≤ quorum_size plan.f plan.k) (sym (acks-none plan stamp (cue ∷ own) (since-more cue own ∙ rw has refl))) (omega arith)
    by_has (Some held) has =
        let same : own_stamp plan own ≡ Some stamp = own-upon plan own held has ∙ sym (own-upon plan (cue ∷ own) held (has-more cue own ∙ rw has refl)) ∙ is in
        let unmade : record_with plan own (Some value) stamp ≡ None = ap (λ (o : Option (List ℕ)). record_with plan own o stamp) (sym of) ∙ sym (record-own plan own stamp same) ∙ none in
        let low = few (length (acknowledging_clouds plan stamp own)) (value_record stamp value plan.f plan.k (acknowledging_clouds plan stamp own)) unmade in
        let grows = acks-grow plan stamp cue own (ap is_some has) in
        omega (arith, low, grows)

-- ---- the update

unsent-unmade : (plan : PutPlan) (own : List Cue) → update_of plan own ≡ None → record_at plan own ≡ None
unfolding first_has
unsent-unmade plan [] none = none-to-write plan [] refl
unsent-unmade plan (cue ∷ own) none = now (update_of plan own) (record_at plan (cue ∷ own)) (sym (update-more plan cue own) ∙ none)
  where
    now : (o p : Option RecordValue) → option_or o p ≡ None → p ≡ None
    now None p e = e
    now (Some x) p e = absurd (none-some x (sym e))

-- the record of a quorum, at the input that made it
made : (plan : PutPlan) (value : List ℕ) (stamp : Timestamp) (own : List Cue) → IsShape plan.f plan.k → own_stamp plan own ≡ Some stamp → length (acknowledging_clouds plan stamp own) ≡ quorum_size plan.f plan.k
    → IsRecordOfPut plan value own (value_record stamp value plan.f plan.k (acknowledging_clouds plan stamp own))
unfolding value_record acknowledging_clouds
made plan value stamp own shape is enough =
    let few : cloud_count plan.f plan.k ≤ 16 = (let ten = clouds-few plan.f plan.k shape in omega (arith, ten)) in
    let clouds : clouds_of (set_of (acknowledging_clouds plan stamp own)) ≡ acknowledging_clouds plan stamp own = clouds-of-set (acknowledged stamp own) (cloud_count plan.f plan.k) few in
    record {
      stamp = is;
      quorum = ap length clouds ∙ enough;
      acknowledged = subst (λ (xs : List ℕ). All (λ cloud. list_any (is_answer is_stored stamp cloud) own ≡ true) xs) (sym clouds)
          (All-weaker (λ cloud. acknowledged stamp own cloud ≡ true) (λ cloud. list_any (is_answer is_stored stamp cloud) own ≡ true) (λ cloud e. since-any (is_answer is_stored stamp cloud) own e) (acknowledging_clouds plan stamp own) (filter-passed (acknowledged stamp own) 0 (cloud_count plan.f plan.k)));
      hashes = λ cloud within. hash-of stamp value plan.f plan.k (acknowledging_clouds plan stamp own) cloud shape within;
    }

first-made : (plan : PutPlan) (value : List ℕ) (cue : Cue) (own : List Cue) (r : RecordValue) → IsShape plan.f plan.k → plan.value ≡ Some value → update_of plan own ≡ None → record_at plan (cue ∷ own) ≡ Some r → IsRecordOfPut plan value (cue ∷ own) r
unfolding record_with
first-made plan value cue own r shape of none is = by_stamp (own_stamp plan (cue ∷ own)) refl
  where
    by_stamp : (o : Option Timestamp) → own_stamp plan (cue ∷ own) ≡ o → IsRecordOfPut plan value (cue ∷ own) r
    by_stamp None e = absurd (none-some r (sym (none-left plan (cue ∷ own) e) ∙ is))
    by_stamp (Some x) e =
        let list = acknowledging_clouds plan x (cue ∷ own) in
        let by_value : record_with plan (cue ∷ own) (Some value) x ≡ Some r = ap (λ (o : Option (List ℕ)). record_with plan (cue ∷ own) o x) (sym of) ∙ sym (record-own plan (cue ∷ own) x e) ∙ is in
        let parts = cond_some (nat_le (quorum_size plan.f plan.k) (length list)) (value_record x value plan.f plan.k list) r by_value in
        let least = leb-true (quorum_size plan.f plan.k) (length list) parts.0 in
        let most = acks-most plan value x cue own of (unsent-unmade plan own none) e in
        subst (λ (y : RecordValue). IsRecordOfPut plan value (cue ∷ own) y) parts.1 (made plan value x (cue ∷ own) shape e (omega (arith, least, most)))

-- it stays so
own-stays : (plan : PutPlan) (stamp : Timestamp) (cue : Cue) (own : List Cue) → own_stamp plan own ≡ Some stamp → own_stamp plan (cue ∷ own) ≡ Some stamp
unfolding own_stamp
own-stays plan stamp cue own is = by_has (first_has own) refl
  where
    by_has : (o : Option (Option RecordValue)) → first_has own ≡ o → own_stamp plan (cue ∷ own) ≡ Some stamp
    by_has None has = absurd (none-some stamp (rw has at is))
    by_has (Some held) has = own-upon plan (cue ∷ own) held (has-more cue own ∙ rw has refl) ∙ sym (own-upon plan own held has) ∙ is

still-made : (plan : PutPlan) (value : List ℕ) (cue : Cue) (own : List Cue) (r : RecordValue) → IsRecordOfPut plan value own r → IsRecordOfPut plan value (cue ∷ own) r
still-made plan value cue own r q = record {
  stamp = own-stays plan r.stamp cue own q.stamp;
  quorum = q.quorum;
  acknowledged = All-weaker (λ cloud. list_any (is_answer is_stored r.stamp cloud) own ≡ true) (λ cloud. list_any (is_answer is_stored r.stamp cloud) (cue ∷ own) ≡ true) (λ cloud e. later (is_answer is_stored r.stamp cloud cue) (list_any (is_answer is_stored r.stamp cloud) own) e) (clouds_of r.clouds) q.acknowledged;
  hashes = q.hashes;
}
  where
    later : (a b : Bool) → b ≡ true → (a || b) ≡ true
    later true b e = refl
    later false b e = e

pub update-made : (plan : PutPlan) (value : List ℕ) (own : List Cue) (r : RecordValue) → IsShape plan.f plan.k → plan.value ≡ Some value → update_of plan own ≡ Some r → IsRecordOfPut plan value own r
unfolding update_of
update-made plan value [] r shape of is = absurd (none-some r is)
update-made plan value (cue ∷ own) r shape of is = by_update (update_of plan own) refl (λ x e. update-made plan value own x shape of e)
  where
    by_update : (o : Option RecordValue) → update_of plan own ≡ o → ((x : RecordValue) → update_of plan own ≡ Some x → IsRecordOfPut plan value own x) → IsRecordOfPut plan value (cue ∷ own) r
    by_update None was before = first-made plan value cue own r shape of was (rw was at is)
    by_update (Some x) was before = subst (λ (y : RecordValue). IsRecordOfPut plan value (cue ∷ own) y) (same_Some x r (rw was at is)) (still-made plan value cue own x (before x was))

-- ---- what is sent

-- the message is no update, or it is to this record
abbrev pub UpdatesTo : Option RecordValue → Out → Type 0
UpdatesTo update (outs.Cloud ask) = Unit {0}
UpdatesTo update (outs.Meta (asks.Update c o k r)) = update ≡ Some r
UpdatesTo update (outs.Meta (asks.Read c o k)) = Unit {0}
UpdatesTo update (outs.Meta (asks.Watch c o k s)) = Unit {0}
UpdatesTo update (outs.Meta (asks.Olds c o k)) = Unit {0}
UpdatesTo update (outs.Meta (asks.Forget c o k ss)) = Unit {0}
UpdatesTo update (outs.Meta (asks.Swap c o k s r)) = Unit {0}

puts-none : (plan : PutPlan) (update : Option RecordValue) (value : Option (List ℕ)) (stamp : Option Timestamp) (clouds : List ℕ) → All (UpdatesTo update) (puts_to plan value stamp clouds)
puts-none plan update (Some value) (Some stamp) clouds = All-map (UpdatesTo update) _ clouds (all clouds)
  where
    all : (xs : List ℕ) → All (λ (x : ℕ). Unit {0}) xs
    all [] = All-nil (λ (x : ℕ). Unit {0})
    all (x ∷ xs) = All-cons (λ (x : ℕ). Unit {0}) x xs tt (all xs)
puts-none plan update (Some value) None clouds = All-nil _
puts-none plan update None stamp clouds = All-nil _

read-none : (plan : PutPlan) (update : Option RecordValue) → All (UpdatesTo update) (read_of plan)
read-none plan update = All-cons (UpdatesTo update) _ [] tt (All-nil _)

update-own : (plan : PutPlan) (update : Option RecordValue) (r : RecordValue) → update ≡ Some r → All (UpdatesTo update) (update_with plan r)
update-own plan update r is = All-cons (UpdatesTo update) _ [] is (All-nil _)

if-all : (update : Option RecordValue) (b : Bool) (xs : List Out) → All (UpdatesTo update) xs → All (UpdatesTo update) (if b then xs else [])
if-all update true xs all = all
if-all update false xs all = All-nil _

earlier-none : (plan : PutPlan) (update : Option RecordValue) (cue : Cue) (own : List Cue) (has : Option (Option RecordValue)) → All (UpdatesTo update) (earlier_sends plan cue own has)
earlier-none plan update cue own None = by_has (is_some (has_of cue))
  where
    by_has : (b : Bool) → All (UpdatesTo update) (if b then puts_to plan plan.value (own_stamp plan (cue ∷ own)) (range_with_len 0 (quorum_size plan.f plan.k)) else if is_tick cue then read_of plan else [])
    by_has true = puts-none plan update plan.value (own_stamp plan (cue ∷ own)) (range_with_len 0 (quorum_size plan.f plan.k))
    by_has false = if-all update (is_tick cue) (read_of plan) (read-none plan update)
earlier-none plan update cue own (Some held) = if-all update (is_tick cue) _ (puts-none plan update plan.value (own_stamp plan own) (missing_so_far plan own (own_stamp plan own)))

-- every update that is sent is to the record of the write
pub sends-update : (plan : PutPlan) (own : List Cue) → All (UpdatesTo (update_of plan own)) (write_sends plan own)
unfolding write_sends update_of
sends-update plan [] = read-none plan None
sends-update plan (cue ∷ own) = by_reply (is_some (write_reply plan own))
  where
    by_update : (before now : Option RecordValue) → All (UpdatesTo (option_or before now)) (sends_by plan cue own before now)
    by_update (Some r) now = if-all (Some r) (is_tick cue) (update_with plan r) (update-own plan (Some r) r refl)
    by_update None (Some r) = update-own plan (Some r) r refl
    by_update None None = earlier-none plan None cue own (first_has own)

    by_reply : (b : Bool) → All (UpdatesTo (option_or (update_of plan own) (record_at plan (cue ∷ own)))) (if b then [] else sends_by plan cue own (update_of plan own) (record_at plan (cue ∷ own)))
    by_reply true = All-nil _
    by_reply false = by_update (update_of plan own) (record_at plan (cue ∷ own))

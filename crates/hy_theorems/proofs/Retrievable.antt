-- The value of each key's record is held by each honest cloud of its list.
use Rattle.std.proofs.Common.{◌≡◌, ℕ, ◌+◌, ◌≤◌, ◌<◌, Bool, true, false, filter, List, [], ◌∷◌, length, Option, Some, None, refl, sym, ap, subst, ◌∙◌, inl, inr, arith}
use Rattle.std.specs.Prelude.{◌&&◌, ◌||◌, ◌==◌, ◌⊎◌, nat_le, is_some}
use Rattle.std.specs.Option.{option_and_then}
use Rattle.std.specs.List.{AllByRecursion, list_any, range_with_len}
use Rattle.std.proofs.lemmas.Option.{none-some, same_Some, cond_some}
use Rattle.std.proofs.lemmas.Bool.{eqb-true, false≢true, leb-true, both_ways}
use Rattle.hy_record.specs.Stamp.{Timestamp, stamp_eq, stamp_lt}
use Rattle.hy_record.specs.Key.{key_eq}
use Rattle.hy_base.specs.Shape.{IsShape, cloud_count, quorum_size}
use Rattle.hy_record.specs.Clouds.{clouds_of}
use Rattle.hy_record.specs.Clouds.{set_of}
use Rattle.hy_theorems.proofs.Masks.{clouds-of-set, range-low}
use Rattle.hy_record.specs.Record.{RecordValue}
use Rattle.hy_record.proofs.Order.{key_eq-true, stamp_eq-true, stamp_lt-same}
use Rattle.hy_meta.specs.Service.{record_after, record_stamp, stamp_of_record}
use Rattle.hy_meta.proofs.Rising.{cases_bool, both}
use Rattle.hy_code.specs.Fragments.{fragment_of}
use Rattle.hy_record.specs.declared.turn.Cue.{Cue}
use Rattle.hy_record.specs.declared.turn.Cue.TheVariants as cues
use Rattle.hy_record.specs.declared.cloud.CloudReply.{CloudReply}
use Rattle.hy_protocol.specs.Inputs.{addresses, is_stored, is_answer}
use Rattle.hy_protocol.specs.Cloud.{bytes_held}
use Rattle.hy_protocol.specs.declared.plan.PutPlan.{PutPlan}
use Rattle.hy_protocol.specs.Write.{first_has, since_has, own_stamp, acknowledging_clouds, value_record, record_with, record_at, update_of}
use Rattle.hy_trace.specs.Deeds.{Params, Deed, Start, served, granted, inputs_of, start_of}
use Rattle.hy_trace.specs.Messages.{Answer}
use Rattle.hy_protocol.specs.Operations.{key_of, write_plan}
use Rattle.hy_record.specs.declared.cloud.CloudSay.{CloudSay}
use Rattle.hy_record.specs.declared.cloud.CloudSay.TheVariants.{Stored, Conflict, Body, Missing, Gone, Bad}
use Rattle.hy_trace.specs.Trace.{IsTrace, is_had}
pub use Rattle.hy_theorems.specs.Retrieval.{IsHolder, IsRetrievable}
use Rattle.hy_trace.proofs.Growth.{or-cases, start-same}
use Rattle.hy_meta.proofs.Lasting.{applied-tried}
use Rattle.hy_theorems.specs.Writing.{change_value}
use Rattle.hy_theorems.proofs.Writes.{key_of-write, change-same, update-own}
use Rattle.hy_trace.proofs.Heard.{IsInput, inputs-heard}
use Rattle.hy_theorems.proofs.Meaning.{all-weaken, IsUpdating, IsPutting, WasOld, was-below}
use Rattle.hy_theorems.proofs.Speaking.{record-applied, all-filtered}
use Rattle.hy_theorems.proofs.Invariant.{trace-holds, by-means}
use Rattle.hy_theorems.proofs.Apart.{IsWriting, stamps-differ}
use Rattle.hy_theorems.proofs.Told.{IsRecordOf, update-is}
use Rattle.hy_theorems.proofs.Ordering.{all-both}
use Rattle.hy_theorems.proofs.Durable.{IsKept, held-put, stored-held}

-- the cloud acknowledged the timestamp
pub record IsAcknowledged (stamp : Timestamp) (inputs : List Cue) (cloud : ℕ) : Type 0 where
  pub reply : CloudReply
  pub input : IsInput inputs (cues.Cloud reply)
  pub cloud_is : reply.cloud ≡ cloud
  pub stamp_is : reply.stamp ≡ stamp
  pub stored : is_stored reply.say ≡ true

either : (a b : Bool) → (a || b) ≡ true → (a ≡ true) ⊎ (b ≡ true)
either true b is = inl refl
either false b is = inr is

answer-acknowledged : (stamp : Timestamp) (cloud : ℕ) (cue : Cue) (inputs : List Cue) → IsInput inputs cue → is_answer is_stored stamp cloud cue ≡ true → IsAcknowledged stamp inputs cloud
answer-acknowledged stamp cloud (cues.Cloud reply) inputs input is =
    let outer = both (reply.cloud == cloud && stamp_eq reply.stamp stamp) (is_stored reply.say) is in
    let inner = both (reply.cloud == cloud) (stamp_eq reply.stamp stamp) outer.0 in
    record { reply = reply; input = input; cloud_is = eqb-true reply.cloud cloud inner.0; stamp_is = stamp_eq-true reply.stamp stamp inner.1; stored = outer.1 }
answer-acknowledged stamp cloud (cues.Meta say) inputs input is = absurd (false≢true is)
answer-acknowledged stamp cloud cues.Tick inputs input is = absurd (false≢true is)

any-acknowledged : (stamp : Timestamp) (cloud : ℕ) (some all : List Cue) → ((cue : Cue) → IsInput some cue → IsInput all cue) → list_any (is_answer is_stored stamp cloud) some ≡ true → IsAcknowledged stamp all cloud
any-acknowledged stamp cloud [] all within is = absurd (false≢true is)
any-acknowledged stamp cloud (cue ∷ some) all within is =
    elim (either (is_answer is_stored stamp cloud cue) (list_any (is_answer is_stored stamp cloud) some) is) [
      | inl first ↦ answer-acknowledged stamp cloud cue all (within cue (inl refl)) first
      | inr later ↦ any-acknowledged stamp cloud some all (λ x i. within x (inr i)) later
    ]

behind-within : (inputs : List Cue) (cue : Cue) → IsInput (since_has inputs) cue → IsInput inputs cue
unfolding since_has
behind-within [] cue i = i
behind-within (first ∷ before) cue i =
    elim (cases_bool (is_some (first_has before))) [
      | inl some ↦ elim (rw some at i) [ inl is ↦ inl is | inr later ↦ inr (behind-within before cue later) ]
      | inr none ↦ absurd (rw none at i)
    ]

all-acknowledged : (plan : PutPlan) (stamp : Timestamp) (inputs : List Cue) → AllByRecursion (IsAcknowledged stamp inputs) (acknowledging_clouds plan stamp inputs)
unfolding acknowledging_clouds
all-acknowledged plan stamp inputs =
    all-filtered (λ cloud. list_any (is_answer is_stored stamp cloud) (since_has inputs)) (IsAcknowledged stamp inputs) (range_with_len 0 (cloud_count plan.f plan.k))
    (λ cloud is. any-acknowledged stamp cloud (since_has inputs) inputs (λ x i. behind-within inputs x i) is)

-- the record that a put sent lists a quorum of clouds that acknowledged
pub record IsQuorumRecord (p : Params) (value : List ℕ) (inputs : List Cue) (r : RecordValue) : Type 0 where
  pub list : List ℕ
  pub is : r ≡ value_record r.stamp value p.f p.k list
  pub enough : quorum_size p.f p.k ≤ length list
  pub acknowledged : AllByRecursion (IsAcknowledged r.stamp inputs) list
  pub test : ℕ → Bool
  pub chosen : list ≡ filter test (range_with_len 0 (cloud_count p.f p.k))

longer : (stamp : Timestamp) (cue : Cue) (before : List Cue) (cloud : ℕ) → IsAcknowledged stamp before cloud → IsAcknowledged stamp (cue ∷ before) cloud
longer stamp cue before cloud a = record { reply = a.reply; input = inr a.input; cloud_is = a.cloud_is; stamp_is = a.stamp_is; stored = a.stored }

with-quorum : (p : Params) (c o : ℕ) (key v : List ℕ) (inputs : List Cue) (x : Timestamp) (r : RecordValue) → record_with (write_plan p.f p.k c o key (Some v)) inputs (Some v) x ≡ Some r → IsQuorumRecord p v inputs r
unfolding record_with value_record acknowledging_clouds
with-quorum p c o key v inputs x r is =
    let list = acknowledging_clouds (write_plan p.f p.k c o key (Some v)) x inputs in
    let parts = cond_some (nat_le (quorum_size p.f p.k) (length list)) (value_record x v p.f p.k list) r is in
    subst (λ (y : RecordValue). IsQuorumRecord p v inputs y) parts.1
    (record { list = list; is = refl; enough = leb-true (quorum_size p.f p.k) (length list) parts.0; acknowledged = all-acknowledged (write_plan p.f p.k c o key (Some v)) x inputs; test = λ cloud. list_any (is_answer is_stored x cloud) (since_has inputs); chosen = refl })

at-quorum : (p : Params) (c o : ℕ) (key v : List ℕ) (inputs : List Cue) (stamp : Option Timestamp) (r : RecordValue) → option_and_then (record_with (write_plan p.f p.k c o key (Some v)) inputs (Some v)) stamp ≡ Some r → IsQuorumRecord p v inputs r
at-quorum p c o key v inputs None r is = absurd (none-some r is)
at-quorum p c o key v inputs (Some x) r is = with-quorum p c o key v inputs x r is

pub update-quorum : (p : Params) (c o : ℕ) (key v : List ℕ) (inputs : List Cue) (r : RecordValue) → update_of (write_plan p.f p.k c o key (Some v)) inputs ≡ Some r → IsQuorumRecord p v inputs r
unfolding update_of record_at
update-quorum p c o key v [] r is = absurd (none-some r is)
update-quorum p c o key v (cue ∷ before) r is =
    elim (or-cases (update_of (write_plan p.f p.k c o key (Some v)) before) (record_at (write_plan p.f p.k c o key (Some v)) (cue ∷ before)) r is) [
      | inl was ↦ let q = update-quorum p c o key v before r was in record { list = q.list; is = q.is; enough = q.enough; acknowledged = all-weaken (IsAcknowledged r.stamp before) (IsAcknowledged r.stamp (cue ∷ before)) q.list (λ i a. longer r.stamp cue before i a) q.acknowledged; test = q.test; chosen = q.chosen }
      | inr now ↦ at-quorum p c o key v (cue ∷ before) (own_stamp (write_plan p.f p.k c o key (Some v)) (cue ∷ before)) r now.1
    ]

mask-of : (x : Timestamp) (v : List ℕ) (f k : ℕ) (list : List ℕ) → (value_record x v f k list).clouds ≡ set_of list
unfolding value_record
mask-of x v f k list = refl

-- the clouds of the record are those that acknowledged
pub listed-clouds : (p : Params) (v : List ℕ) (inputs : List Cue) (r : RecordValue) → IsShape p.f p.k → (q : IsQuorumRecord p v inputs r) → clouds_of r.clouds ≡ q.list
listed-clouds p v inputs r shape q =
    let few : cloud_count p.f p.k ≤ 16 = omega (arith, shape.faults, shape.parts) in
    ap (λ (x : RecordValue). clouds_of x.clouds) q.is ∙ (ap clouds_of (mask-of r.stamp v p.f p.k q.list ∙ ap set_of q.chosen) ∙ (clouds-of-set q.test (cloud_count p.f p.k) few ∙ sym q.chosen))

pub listed-low : (p : Params) (v : List ℕ) (inputs : List Cue) (r : RecordValue) → (q : IsQuorumRecord p v inputs r) → AllByRecursion (λ cloud. cloud < cloud_count p.f p.k) q.list
listed-low p v inputs r q = subst (λ (xs : List ℕ). AllByRecursion (λ cloud. cloud < cloud_count p.f p.k) xs) (sym q.chosen) (all-weaken (λ cloud. cloud < 0 + cloud_count p.f p.k) (λ cloud. cloud < cloud_count p.f p.k) (filter q.test (range_with_len 0 (cloud_count p.f p.k))) (λ cloud less. omega (arith, less)) (range-low q.test 0 (cloud_count p.f p.k)))

name-key : (c o b n : ℕ) (k key : List ℕ) → (b == c && n == o && key_eq k key) ≡ true → k ≡ key
name-key c o b n k key is = key_eq-true k key (both (b == c && n == o) (key_eq k key) is).1

-- what a cloud holds under a record's name is the fragment of the record's value
pub own-fragment : (p : Params) (t : List Deed) (key : List ℕ) (e : Option Timestamp) (r : RecordValue) → IsTrace p t → (c o : ℕ) (v : List ℕ) (u : IsUpdating p c o key e r t) → change_value u.change ≡ Some v → (cloud : ℕ) (bytes : List ℕ) → (b n : ℕ) × IsPutting p b n cloud key r.stamp bytes t → bytes ≡ fragment_of v p.k cloud
own-fragment p t key e r trace c o v u value_is cloud bytes put =
    let q = put.2 in
    let first : IsWriting p c o key r.stamp t = record { start = u.start; began = u.began; change = u.change; action_is = u.action_is; met = u.met; own = update-own (write_plan p.f p.k c o key (change_value u.change)) (inputs_of c o t) r u.update } in
    let second : IsWriting p put.0 put.1 key r.stamp t = record { start = q.start; began = q.began; change = q.change; action_is = q.action_is; met = q.met; own = q.own } in
    let one = stamps-differ p t c o put.0 put.1 key r.stamp trace first second in
    let began : start_of c o t ≡ Some q.start = ap (λ (x : ℕ). start_of x o t) one.0 ∙ (ap (λ (x : ℕ). start_of put.0 x t) one.1 ∙ q.began) in
    let changes : u.change ≡ q.change = change-same key key u.change q.change (sym u.action_is ∙ (ap (λ (s : Start). s.action) (start-same c o t u.start q.start u.began began) ∙ q.action_is)) in
    let values : Some v ≡ Some q.value = sym value_is ∙ (ap change_value changes ∙ q.stores) in
    q.bytes_are ∙ ap (λ (x : List ℕ). fragment_of x p.k cloud) (sym (same_Some v q.value values))

-- an acknowledgement could be had
stored-had : (say : CloudSay) → is_stored say ≡ true → is_had say ≡ true
stored-had (Stored fresh) is = refl
stored-had Conflict is = refl
stored-had (Body bytes) is = refl
stored-had Missing is = refl
stored-had Gone is = refl
stored-had (Bad code) is = absurd (false≢true is)

-- an honest cloud that acknowledged a write's timestamp holds something under its name, or that was superseded
pub acknowledged-kept : (p : Params) (t : List Deed) (key : List ℕ) (e : Option Timestamp) (r : RecordValue) → IsTrace p t → (c o : ℕ) (u : IsUpdating p c o key e r t) → (cloud : ℕ) → IsAcknowledged r.stamp (inputs_of c o t) cloud → (p.is_liar cloud ≡ true) ⊎ IsKept t cloud key r.stamp
unfolding addresses
acknowledged-kept p t key e r trace c o u cloud a =
    let h = inputs-heard p c o (cues.Cloud a.reply) t trace a.input in
    let same_start = start-same c o t h.start u.start h.began u.began in
    let key_is : a.reply.key ≡ key = name-key c o a.reply.client a.reply.op a.reply.key (key_of h.start.action) h.own ∙ (ap (λ (s : Start). key_of s.action) same_start ∙ (ap key_of u.action_is ∙ key_of-write key u.change)) in
    elim h.delivered [
      | inr other ↦ elim other [
        | inl liar ↦ inl (subst (λ (i : ℕ). p.is_liar i ≡ true) a.cloud_is liar)
        | inr lost ↦ absurd (false≢true (sym lost ∙ stored-had a.reply.say a.stored))
      ]
      | inl sent ↦
          let kept : IsKept t a.reply.cloud a.reply.key a.reply.stamp = stored-held p t trace (Answer a.reply) sent a.stored in
          inr (subst (λ (x : Timestamp). IsKept t cloud key x) a.stamp_is (subst (λ (x : List ℕ). IsKept t cloud x a.reply.stamp) key_is (subst (λ (x : ℕ). IsKept t x a.reply.key a.reply.stamp) a.cloud_is kept)))
    ]

module _ (p : Params) (t : List Deed) (trace : IsTrace p t) (shape : IsShape p.f p.k) (key : List ℕ) (r : RecordValue) (is : record_after (served t) key ≡ Some r) where
  not-old : WasOld (served t) key r.stamp → ⊥
  unfolding record_stamp
  not-old old = both_ways (stamp_lt r.stamp r.stamp) (stamp_lt-same r.stamp) (ap (λ (o : Option RecordValue). stamp_lt r.stamp (stamp_of_record o)) (sym is) ∙ was-below (served t) key r.stamp old)

  holder-or-liar : (c o : ℕ) (e : Option Timestamp) (v : List ℕ) (u : IsUpdating p c o key e r t) → change_value u.change ≡ Some v → (cloud : ℕ) → IsAcknowledged r.stamp (inputs_of c o t) cloud → (p.is_liar cloud ≡ true) ⊎ (bytes_held (granted cloud t) key r.stamp ≡ Some (fragment_of v p.k cloud))
  holder-or-liar c o e v u value_is cloud a =
      elim (acknowledged-kept p t key e r trace c o u cloud a) [
        | inl liar ↦ inl liar
        | inr kept ↦ elim kept [
          | inl old ↦ absurd (not-old old)
          | inr held ↦ inr (held.1 ∙ ap Some (own-fragment p t key e r trace c o v u value_is cloud held.0 (held-put p cloud key r.stamp held.0 t trace held.1)))
        ]
      ]

  holder : (c o : ℕ) (e : Option Timestamp) (v : List ℕ) (u : IsUpdating p c o key e r t) → change_value u.change ≡ Some v → (cloud : ℕ) → cloud < cloud_count p.f p.k → IsAcknowledged r.stamp (inputs_of c o t) cloud → IsHolder p t key r.stamp v cloud
  holder c o e v u value_is cloud within a = (within, holder-or-liar c o e v u value_is cloud a)

  by-value : (c o : ℕ) (e : Option Timestamp) (u : IsUpdating p c o key e r t) (value : Option (List ℕ)) → change_value u.change ≡ value → IsRetrievable p t key r
  unfolding update_of
  by-value c o e u None value_is = inl (ap (λ (x : RecordValue). x.kind) (subst (λ (v : Option (List ℕ)). IsRecordOf p v r) value_is (update-is p c o key (change_value u.change) (inputs_of c o t) r u.update)))
  by-value c o e u (Some v) value_is =
      let q = update-quorum p c o key v (inputs_of c o t) r (ap (λ (x : Option (List ℕ)). update_of (write_plan p.f p.k c o key x) (inputs_of c o t)) (sym value_is) ∙ u.update) in
      let same : clouds_of r.clouds ≡ q.list = listed-clouds p v (inputs_of c o t) r shape q in
      let Listed : List ℕ → Type 0 = λ xs. (r ≡ value_record r.stamp v p.f p.k xs) × (quorum_size p.f p.k ≤ length xs) × AllByRecursion (IsHolder p t key r.stamp v) xs in
      let holders = all-both (λ cloud. cloud < cloud_count p.f p.k) (IsAcknowledged r.stamp (inputs_of c o t)) (IsHolder p t key r.stamp v) q.list (λ cloud within a. holder c o e v u value_is cloud within a) (listed-low p v (inputs_of c o t) r q) q.acknowledged in
      let all : Listed (clouds_of r.clouds) = subst Listed (sym same) (q.is, q.enough, holders) in
      inr (record { value = v; record_is = all.0; quorum = all.1; holders = all.2 })

  -- the record of a key is that of a delete, or its value can be retrieved
  pub retrievable : IsRetrievable p t key r
  retrievable =
      let of = record-applied t key r is in
      let a = of.0 in
      let meant : IsUpdating p a.client a.op key a.expected a.rec t = by-means p t a a.client a.op key trace (trace-holds p t trace) (applied-tried (served t) a of.1) (refl, refl, of.2) in
      let u : IsUpdating p a.client a.op key a.expected r t = subst (λ (x : RecordValue). IsUpdating p a.client a.op key a.expected x t) of.3 meant in
      by-value a.client a.op a.expected u (change_value u.change) refl

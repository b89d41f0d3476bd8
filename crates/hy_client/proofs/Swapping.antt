-- One more input of a swap: what the put that it hands inputs to knows of all of them.
use Rattle.std.proofs.Common.{◌≡◌, ℕ, Bool, true, false, List, [], ◌∷◌, ◌++◌, ◌+◌, ◌-◌, ◌<◌, length, get_or, take, drop, set, arith, Option, Some, None, refl, sym, ap, ◌∙◌}
use Rattle.std.specs.Prelude.{not, is_some, map, if◌then◌else◌}
use Rattle.std.specs.List.{list_any, range_with_len}
use Rattle.std.specs.Option.{option_or, option_and_then}
use Rattle.std.proofs.lemmas.List.{take_more_set, map_more, drop_more, drop-set-lt, length-drop}
use Rattle.std.proofs.lemmas.Grind.{drop_more_same}
use Rattle.std.proofs.lemmas.Option.{none-some}
use Rattle.hy_base.specs.Shape.{cloud_count, quorum_size}
use Rattle.hy_record.specs.Stamp.{Timestamp}
use Rattle.hy_record.specs.Record.{RecordValue}
use Rattle.hy_record.specs.declared.turn.Cue.{Cue}
use Rattle.hy_record.specs.declared.turn.Out.{Out}
use Rattle.hy_protocol.specs.declared.plan.PutPlan.{PutPlan}
use Rattle.hy_protocol.specs.Inputs.{has_of, is_tick, is_stored, is_answer}
use Rattle.hy_protocol.specs.Write.{first_has, since_has, own_stamp, acknowledging_clouds, record_with, record_at, update_of, acknowledged_so_far, missing_so_far, puts_to, read_of, earlier_sends, sends_by}
use Rattle.hy_protocol.specs.Progress.{write_progress, update_progress, progress_since_has}
use Rattle.hy_operation.proofs.Filters.{filter-agrees}
use Rattle.hy_put.proofs.Further.{has-more, since-more, update-more, none-to-write}
use Rattle.hy_client.specs.Swapping.{TellsSame}

-- ---- lists that tell a write the same

-- of the clouds, and so of what it can write
abbrev pub IsStoredAlike : List Cue → List Cue → Type 0
IsStoredAlike xs ys = (stamp : Timestamp) (cloud : ℕ) → list_any (is_answer is_stored stamp cloud) (since_has xs) ≡ list_any (is_answer is_stored stamp cloud) (since_has ys)

acks-same : (plan : PutPlan) (stamp : Timestamp) (xs ys : List Cue) → IsStoredAlike xs ys → acknowledging_clouds plan stamp xs ≡ acknowledging_clouds plan stamp ys
unfolding acknowledging_clouds
acks-same plan stamp xs ys stored = filter-agrees _ _ 0 (cloud_count plan.f plan.k) (λ i l. stored stamp i)

missing-same : (plan : PutPlan) (stamp : Option Timestamp) (xs ys : List Cue) → IsStoredAlike xs ys → missing_so_far plan xs stamp ≡ missing_so_far plan ys stamp
missing-same plan None xs ys stored = refl
missing-same plan (Some stamp) xs ys stored = filter-agrees _ _ 0 (cloud_count plan.f plan.k) (λ i l. ap not (stored stamp i))

own-same : (plan : PutPlan) (xs ys : List Cue) → first_has xs ≡ first_has ys → own_stamp plan xs ≡ own_stamp plan ys
unfolding own_stamp
own-same plan xs ys has = rw has refl

record-same : (plan : PutPlan) (xs ys : List Cue) → first_has xs ≡ first_has ys → IsStoredAlike xs ys → record_at plan xs ≡ record_at plan ys
unfolding record_at record_with
record-same plan xs ys has stored = rw (own-same plan xs ys has) (by_stamp (own_stamp plan ys))
  where
    by_value : (value : Option (List ℕ)) (stamp : Timestamp) → record_with plan xs value stamp ≡ record_with plan ys value stamp
    by_value None stamp = refl
    by_value (Some v) stamp = rw (acks-same plan stamp xs ys stored) refl

    by_stamp : (o : Option Timestamp) → option_and_then (record_with plan xs plan.value) o ≡ option_and_then (record_with plan ys plan.value) o
    by_stamp None = refl
    by_stamp (Some stamp) = by_value plan.value stamp

pub progress-same : (plan : PutPlan) (xs ys : List Cue) → TellsSame plan xs ys → write_progress plan xs ≡ write_progress plan ys
unfolding write_progress
progress-same plan xs ys same = rw same.has (by_has (first_has ys))
  where
    acked : (o : Option Timestamp) → acknowledged_so_far plan xs o ≡ acknowledged_so_far plan ys o
    acked None = refl
    acked (Some stamp) = acks-same plan stamp xs ys same.stored

    by_update : (value : Option (List ℕ)) (o : Option RecordValue) → update_progress plan xs value o ≡ update_progress plan ys value o
    by_update None o = refl
    by_update (Some v) (Some r) = refl
    by_update (Some v) None = rw (own-same plan xs ys same.has, acked (own_stamp plan ys)) refl

    by_has : (o : Option (Option RecordValue)) → progress_since_has plan xs o ≡ progress_since_has plan ys o
    by_has None = refl
    by_has (Some held) = rw same.update (by_update plan.value (update_of plan ys))

-- both lists with one input more
has-grows : (plan : PutPlan) (xs ys : List Cue) (cue : Cue) → TellsSame plan xs ys → first_has (cue ∷ xs) ≡ first_has (cue ∷ ys)
has-grows plan xs ys cue same = has-more cue xs ∙ ap (λ (o : Option (Option RecordValue)). option_or o (has_of cue)) same.has ∙ sym (has-more cue ys)

stored-grows : (plan : PutPlan) (xs ys : List Cue) (cue : Cue) → TellsSame plan xs ys → IsStoredAlike (cue ∷ xs) (cue ∷ ys)
stored-grows plan xs ys cue same = λ stamp cloud. rw (since-more cue xs, since-more cue ys, same.has) (by_has (is_some (first_has ys)) stamp cloud)
  where
    by_has : (b : Bool) (stamp : Timestamp) (cloud : ℕ) → list_any (is_answer is_stored stamp cloud) (if b then cue ∷ since_has xs else []) ≡ list_any (is_answer is_stored stamp cloud) (if b then cue ∷ since_has ys else [])
    by_has true stamp cloud = rw (same.stored stamp cloud) refl
    by_has false stamp cloud = refl

record-grows : (plan : PutPlan) (xs ys : List Cue) (cue : Cue) → TellsSame plan xs ys → record_at plan (cue ∷ xs) ≡ record_at plan (cue ∷ ys)
record-grows plan xs ys cue same = record-same plan (cue ∷ xs) (cue ∷ ys) (has-grows plan xs ys cue same) (stored-grows plan xs ys cue same)

pub same-grows : (plan : PutPlan) (xs ys : List Cue) (cue : Cue) → TellsSame plan xs ys → TellsSame plan (cue ∷ xs) (cue ∷ ys)
same-grows plan xs ys cue same = record {
  has = has-grows plan xs ys cue same;
  stored = stored-grows plan xs ys cue same;
  update = update-more plan cue xs ∙ ap (λ (o : Option RecordValue). option_or o (record_at plan (cue ∷ xs))) same.update ∙ ap (λ (o : Option RecordValue). option_or (update_of plan ys) o) (record-grows plan xs ys cue same) ∙ sym (update-more plan cue ys);
}

-- what a write sends
pub sends-same : (plan : PutPlan) (xs ys : List Cue) (cue : Cue) → TellsSame plan xs ys → sends_by plan cue xs (update_of plan xs) (record_at plan (cue ∷ xs)) ≡ sends_by plan cue ys (update_of plan ys) (record_at plan (cue ∷ ys))
sends-same plan xs ys cue same = rw (same.update, record-grows plan xs ys cue same) (by_update (update_of plan ys) (record_at plan (cue ∷ ys)))
  where
    by_has : (o : Option (Option RecordValue)) → earlier_sends plan cue xs o ≡ earlier_sends plan cue ys o
    by_has None = ap (λ (o : Option Timestamp). if is_some (has_of cue) then puts_to plan plan.value o (range_with_len 0 (quorum_size plan.f plan.k)) else if is_tick cue then read_of plan else []) (own-same plan (cue ∷ xs) (cue ∷ ys) (has-grows plan xs ys cue same))
    by_has (Some held) = rw (own-same plan xs ys same.has, missing-same plan (own_stamp plan ys) xs ys same.stored) refl

    by_update : (before now : Option RecordValue) → sends_by plan cue xs before now ≡ sends_by plan cue ys before now
    by_update (Some r) now = refl
    by_update None (Some r) = refl
    by_update None None = rw same.has (by_has (first_has ys))

-- ---- an input that tells a write nothing

-- it is no first record, no timeout, and no acknowledgement of a cloud
pub record IsCalm (cue : Cue) : Type 0 where
  pub has : has_of cue ≡ None
  pub tick : is_tick cue ≡ false
  pub stored : (stamp : Timestamp) (cloud : ℕ) → is_answer is_stored stamp cloud cue ≡ false

pub has-calm : (cue : Cue) (own : List Cue) → has_of cue ≡ None → first_has (cue ∷ own) ≡ first_has own
has-calm cue own none = has-more cue own ∙ rw none (kept (first_has own))
  where
    kept : (o : Option (Option RecordValue)) → option_or o None ≡ o
    kept None = refl
    kept (Some held) = refl

pub since-none : (own : List Cue) → first_has own ≡ None → since_has own ≡ []
unfolding first_has since_has
since-none [] none = refl
since-none (cue ∷ own) none = rw (before (first_has own) none) refl
  where
    before : (o : Option (Option RecordValue)) → option_or o (has_of cue) ≡ None → o ≡ None
    before None e = refl
    before (Some held) e = absurd (none-some held (sym e))

stored-calm : (cue : Cue) (own : List Cue) → IsCalm cue → IsStoredAlike (cue ∷ own) own
stored-calm cue own calm = λ stamp cloud. by_has (first_has own) refl stamp cloud
  where
    by_has : (o : Option (Option RecordValue)) → first_has own ≡ o → (stamp : Timestamp) (cloud : ℕ) → list_any (is_answer is_stored stamp cloud) (since_has (cue ∷ own)) ≡ list_any (is_answer is_stored stamp cloud) (since_has own)
    by_has None has stamp cloud = rw (since-more cue own, has, since-none own has) refl
    by_has (Some held) has stamp cloud = rw (since-more cue own, has, calm.stored stamp cloud) refl

-- the record that could be sent was sent
sent-first : (plan : PutPlan) (own : List Cue) → option_or (update_of plan own) (record_at plan own) ≡ update_of plan own
unfolding update_of first_has
sent-first plan [] = none-to-write plan [] refl
sent-first plan (cue ∷ own) = twice (update_of plan own) (record_at plan (cue ∷ own))
  where
    twice : (o p : Option RecordValue) → option_or (option_or o p) p ≡ option_or o p
    twice None None = refl
    twice None (Some r) = refl
    twice (Some r) p = refl

record-calm : (plan : PutPlan) (cue : Cue) (own : List Cue) → IsCalm cue → record_at plan (cue ∷ own) ≡ record_at plan own
record-calm plan cue own calm = record-same plan (cue ∷ own) own (has-calm cue own calm.has) (stored-calm cue own calm)

update-calm : (plan : PutPlan) (cue : Cue) (own : List Cue) → IsCalm cue → update_of plan (cue ∷ own) ≡ update_of plan own
update-calm plan cue own calm = update-more plan cue own ∙ ap (λ (o : Option RecordValue). option_or (update_of plan own) o) (record-calm plan cue own calm) ∙ sent-first plan own

pub same-calm : (plan : PutPlan) (xs ys : List Cue) (cue : Cue) → IsCalm cue → TellsSame plan xs ys → TellsSame plan xs (cue ∷ ys)
same-calm plan xs ys cue calm same = record {
  has = same.has ∙ sym (has-calm cue ys calm.has);
  stored = λ stamp cloud. same.stored stamp cloud ∙ sym (stored-calm cue ys calm stamp cloud);
  update = same.update ∙ sym (update-calm plan cue ys calm);
}

-- a write sends nothing at it
pub sends-calm : (plan : PutPlan) (cue : Cue) (own : List Cue) → IsCalm cue → sends_by plan cue own (update_of plan own) (record_at plan (cue ∷ own)) ≡ []
sends-calm plan cue own calm = rw (record-calm plan cue own calm) (by_update (update_of plan own) (record_at plan own) (sent-first plan own))
  where
    by_has : (o : Option (Option RecordValue)) → earlier_sends plan cue own o ≡ []
    by_has None = rw (calm.has, calm.tick) refl
    by_has (Some held) = rw calm.tick refl

    by_update : (o p : Option RecordValue) → option_or o p ≡ o → sends_by plan cue own o p ≡ []
    by_update (Some r) p e = rw calm.tick refl
    by_update None (Some r) e = absurd (none-some r (sym e))
    by_update None None e = by_has (first_has own)

-- ---- the messages, each asking for the expected timestamp

pub each-expects : (f : Out → Out) (xs now : List Out) (i : ℕ) (d y : Out) → i < length xs → take i now ≡ map f (take i xs) → drop i now ≡ drop i xs → y ≡ f (get_or now i d)
    → (take (i + 1) (set now i y) ≡ map f (take (i + 1) xs)) × (drop (i + 1) (set now i y) ≡ drop (i + 1) xs)
each-expects f xs now i d y there done left is =
    let lengths : length now - i ≡ length xs - i = sym (length-drop i now) ∙ ap length left ∙ length-drop i xs in
    let inside : i < length now = omega (arith, there, lengths) in
    let same : get_or now i d ≡ get_or xs i d = first (get_or now i d) (get_or xs i d) (drop (i + 1) now) (drop (i + 1) xs) (sym (drop_more now i d inside) ∙ left ∙ drop_more xs i d there) in
    (take_more_set now i y inside ∙ ap (λ (os : List Out). os ++ y ∷ []) done ∙ ap (λ (o : Out). map f (take i xs) ++ o ∷ []) (is ∙ ap f same) ∙ sym (map_more f xs i d there), drop-set-lt (i + 1) now i y (omega arith) ∙ drop_more_same now xs i left)
  where
    first : (a b : Out) (xs ys : List Out) → a ∷ xs ≡ b ∷ ys → a ≡ b
    first a b xs ys e = ap (λ (os : List Out). get_or os 0 a) e

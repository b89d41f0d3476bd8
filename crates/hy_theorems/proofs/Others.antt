-- What reads and collections send.
use Rattle.std.proofs.Common.{◌≡◌, ℕ, zero, suc, ◌+◌, ◌-◌, List, [], ◌∷◌, ◌++◌, Option, Some, None, refl, subst, inl, inr}
use Rattle.std.specs.Prelude.{◌&&◌, nat_lt, nat_le, ◌==◌, not, take, slice_get, is_some}
use Rattle.std.specs.List.{AllByRecursion}
use Rattle.std.proofs.lemmas.Option.{none-some, same_Some}
use Rattle.hy_record.specs.declared.message.MetaAsk.TheVariants as asks
use Rattle.hy_record.specs.Stamp.{Timestamp, stamp_lt}
use Rattle.hy_record.specs.Record.{RecordValue}
use Rattle.hy_record.specs.Clouds.{clouds_of}
use Rattle.hy_meta.specs.Service.{stamp_of_record}
use Rattle.hy_record.specs.declared.turn.Cue.{Cue}
use Rattle.hy_record.specs.declared.turn.Out.{Out}
use Rattle.hy_record.specs.declared.turn.Out.TheVariants as outs
use Rattle.hy_record.specs.declared.cloud.CloudAct.TheVariants as acts
use Rattle.hy_protocol.specs.Inputs.{has_of, is_tick, is_fired}
use Rattle.hy_protocol.specs.declared.plan.GetPlan.{GetPlan}
use Rattle.hy_protocol.specs.Read.{Version, version_of, read_reply, read_sends, gets_from, watch_all, get_at, sends_at_rise, sends_since, first_gets, sends_to_version, has_fired, failed_attempts}
use Rattle.hy_protocol.specs.declared.plan.CollectPlan.{CollectPlan}
use Rattle.hy_protocol.specs.Collect.{first_olds, forget_of, forget_at, collect_reply, collect_sends, deletes, earlier_collect_sends, collect_sends_by}
use Rattle.hy_trace.proofs.Growth.{or-first}
use Rattle.hy_trace.proofs.Heard.{IsToldBy, told-later, version-told}
use Rattle.hy_theorems.proofs.Listing.{IsIn}
use Rattle.hy_theorems.proofs.Writes.{all-mapped, all-cond}

pub all-joined : {A : Type 0} (P : A → Type 0) (xs ys : List A) → AllByRecursion P xs → AllByRecursion P ys → AllByRecursion P (xs ++ ys)
all-joined P [] ys first second = second
all-joined P (x ∷ xs) ys first second = (first.0, all-joined P xs ys first.1 second)

in-taken : (n : ℕ) (xs : List ℕ) (x : ℕ) → IsIn (take n xs) x → IsIn xs x
in-taken zero xs x is = absurd is
in-taken (suc n) [] x is = absurd is
in-taken (suc n) (first ∷ others) x (inl is) = inl is
in-taken (suc n) (first ∷ others) x (inr later) = inr (in-taken n others x later)

in-got : (xs : List ℕ) (i x : ℕ) → slice_get xs i ≡ Some x → IsIn xs x
in-got [] i x is = absurd (none-some x is)
in-got (first ∷ others) zero x is = inl (same_Some first x is)
in-got (first ∷ others) (suc i) x is = inr (in-got others i x is)

-- each message that a read sends is a read, a watch, or a get from a cloud of the list of a record that it was told
module _ (plan : GetPlan) (P : Out → Type 0) (reads : P (outs.Meta (asks.Read plan.client plan.op plan.key))) (watches : (s : Timestamp) → P (outs.Meta (asks.Watch plan.client plan.op plan.key s))) where
  abbrev pub Gets : RecordValue → Type 0
  Gets r = (cloud : ℕ) → IsIn (clouds_of r.clouds) cloud → P (outs.Cloud (record { client = plan.client; op = plan.op; cloud = cloud; wish = record { key = plan.key; stamp = r.stamp; act = acts.Get } }))

  abbrev pub GetsOf : Option RecordValue → Type 0
  GetsOf held = (r : RecordValue) → held ≡ Some r → Gets r

  gets-all : (r : RecordValue) (clouds : List ℕ) → Gets r → ((cloud : ℕ) → IsIn clouds cloud → IsIn (clouds_of r.clouds) cloud) → AllByRecursion P (gets_from plan r.stamp clouds)
  gets-all r [] gets within = tt
  gets-all r (cloud ∷ clouds) gets within = (gets cloud (within cloud (inl refl)), gets-all r clouds gets (λ x is. within x (inr is)))

  watch-all : (r : RecordValue) → Gets r → AllByRecursion P (watch_all plan r)
  watch-all r gets = (watches r.stamp, gets-all r (clouds_of r.clouds) gets (λ x is. is))

  at-all : (r : RecordValue) (cloud : Option ℕ) → ((x : ℕ) → cloud ≡ Some x → IsIn (clouds_of r.clouds) x) → Gets r → AllByRecursion P (get_at plan r cloud)
  at-all r None within gets = tt
  at-all r (Some cloud) within gets = (gets cloud (within cloud refl), tt)

  rise-all : (r : RecordValue) (cue : Cue) (old new : ℕ) → Gets r → AllByRecursion P (sends_at_rise plan r (is_tick cue) old new)
  rise-all r cue old new gets =
      all-cond P (nat_lt old new) _ _ (all-cond P (nat_le new r.f) _ _ (at-all r (slice_get (clouds_of r.clouds) (r.k + new - 1)) (λ x is. in-got (clouds_of r.clouds) (r.k + new - 1) x is) gets) (all-cond P (new == r.f + 1) _ _ (watch-all r gets) (all-cond P (is_tick cue) _ _ (watch-all r gets) tt))) tt

  behind-all : (held : Option RecordValue) (cue : Cue) (since : List Cue) → GetsOf held → AllByRecursion P (sends_since plan held cue since)
  behind-all None cue since gets = tt
  behind-all (Some r) cue since gets = all-cond P (has_fired r since && is_tick cue) _ _ (reads, tt) (all-cond P (not (has_fired r since) && is_fired r.stamp cue) _ _ (reads, tt) (rise-all r cue (failed_attempts r since) (failed_attempts r (cue ∷ since)) (gets r refl)))

  first-all : (held : Option RecordValue) → GetsOf held → AllByRecursion P (first_gets plan held)
  first-all None gets = tt
  first-all (Some r) gets = gets-all r (take r.k (clouds_of r.clouds)) (gets r refl) (λ x is. in-taken r.k (clouds_of r.clouds) x is)

  version-all : (cue : Cue) (old new : Option Version) → ((v : Version) → old ≡ Some v → GetsOf v.rec) → ((v : Version) → new ≡ Some v → GetsOf v.rec) → AllByRecursion P (sends_to_version plan cue old new)
  version-all cue old None was now = all-cond P (is_tick cue) _ _ (reads, tt) tt
  version-all cue None (Some new) was now = first-all new.rec (now new refl)
  version-all cue (Some old) (Some new) was now = all-cond P (stamp_lt (stamp_of_record old.rec) (stamp_of_record new.rec)) _ _ (first-all new.rec (now new refl)) (behind-all old.rec cue old.since (was old refl))

  pub read-sends-all : (inputs : List Cue) → ((r : RecordValue) → IsToldBy has_of inputs (Some r) → Gets r) → AllByRecursion P (read_sends plan inputs)
  unfolding read_sends
  read-sends-all [] gets = (reads, tt)
  read-sends-all (cue ∷ before) gets =
      all-cond P (is_some (read_reply (cue ∷ before))) _ _ tt
      (version-all cue (version_of before) (version_of (cue ∷ before))
      (λ v is r held. gets r (subst (λ (x : Option RecordValue). IsToldBy has_of (cue ∷ before) x) held (told-later has_of cue before v.rec (version-told before v is))))
      (λ v is r held. gets r (subst (λ (x : Option RecordValue). IsToldBy has_of (cue ∷ before) x) held (version-told (cue ∷ before) v is))))

-- each message that a collection sends asks for superseded timestamps, has them forgotten, or deletes one of them
module _ (plan : CollectPlan) (P : Out → Type 0) (olds : P (outs.Meta (asks.Olds plan.client plan.op plan.key))) (forgets : (ss : List Timestamp) → P (outs.Meta (asks.Forget plan.client plan.op plan.key ss))) where
  abbrev pub Deleted : Timestamp → Type 0
  Deleted s = (cloud : ℕ) → P (outs.Cloud (record { client = plan.client; op = plan.op; cloud = cloud; wish = record { key = plan.key; stamp = s; act = acts.Delete } }))

  abbrev pub Deletes : List Cue → Type 0
  Deletes inputs = (ss : List Timestamp) → first_olds inputs ≡ Some ss → AllByRecursion Deleted ss

  deletes-all : (inputs : List Cue) (ss : List Timestamp) → AllByRecursion Deleted ss → AllByRecursion P (deletes plan inputs ss)
  deletes-all inputs [] each = tt
  deletes-all inputs (s ∷ ss) each = all-joined P _ _ (all-mapped P _ _ (λ cloud. each.0 cloud)) (deletes-all inputs ss each.1)

  earlier-collect-all : (cue : Cue) (before : List Cue) (old now : Option (List Timestamp)) → first_olds before ≡ old → first_olds (cue ∷ before) ≡ now → Deletes (cue ∷ before) → AllByRecursion P (earlier_collect_sends plan cue before old now)
  unfolding first_olds
  earlier-collect-all cue before None None was is each = all-cond P (is_tick cue) _ _ (olds, tt) tt
  earlier-collect-all cue before None (Some ss) was is each = deletes-all (cue ∷ before) ss (each ss is)
  earlier-collect-all cue before (Some ss) now was is each = all-cond P (is_tick cue) _ _ (deletes-all before ss (each ss (or-first (first_olds before) _ ss was))) tt

  collect-all : (cue : Cue) (before : List Cue) (old now : Option (List Timestamp)) → Deletes (cue ∷ before) → AllByRecursion P (collect_sends_by plan cue before old now)
  collect-all cue before (Some ss) now each = all-cond P (is_tick cue) _ _ (forgets ss, tt) tt
  collect-all cue before None (Some ss) each = (forgets ss, tt)
  collect-all cue before None None each = earlier-collect-all cue before (first_olds before) (first_olds (cue ∷ before)) refl refl each

  pub collect-sends-all : (inputs : List Cue) → Deletes inputs → AllByRecursion P (collect_sends plan inputs)
  unfolding collect_sends
  collect-sends-all [] each = (olds, tt)
  collect-sends-all (cue ∷ before) each = all-cond P (is_some (collect_reply plan before)) _ _ tt (collect-all cue before (forget_of plan before) (forget_at plan (cue ∷ before)) each)

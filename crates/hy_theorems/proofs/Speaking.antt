-- What operations and the service send means what it should.
use Rattle.std.proofs.Common.{◌≡◌, ◌≤◌, ℕ, zero, suc, Bool, true, false, List, [], ◌∷◌, map, Option, Some, None, refl, sym, ap, subst, ◌∙◌, inl, inr}
use Rattle.std.specs.Prelude.{◌&&◌, ◌==◌, not, filter, take, is_some}
use Rattle.std.specs.List.{AllByRecursion}
use Rattle.hy_record.specs.Clouds.{clouds_of}
use Rattle.hy_code.specs.Fragments.{fragment_of}
use Rattle.hy_record.specs.declared.message.MetaAsk.{MetaAsk}
use Rattle.hy_record.specs.declared.message.MetaAsk.TheVariants as asks
use Rattle.hy_record.specs.declared.action.Action.{Action}
use Rattle.hy_record.specs.declared.action.Action.TheVariants as asked
use Rattle.hy_record.specs.declared.stamps.TheConstants.{MAX_STAMPS}
use Rattle.hy_record.specs.Stamp.{Timestamp, stamp_lt}
use Rattle.hy_record.specs.Key.{key_eq}
use Rattle.hy_record.specs.Record.{RecordValue}
use Rattle.hy_record.proofs.Order.{key_eq-true, stamp_lt-le}
use Rattle.hy_meta.specs.declared.watcher.Watcher.{Watcher}
use Rattle.hy_meta.specs.Service.{Attempt, attempt_of, is_judged, applies, record_after, record_stamp, is_old, known_stamps, old_list}
use Rattle.hy_meta.specs.Watches.{fired, watches_of, is_passed, fired_watches}
use Rattle.hy_meta.specs.Meta.{judged_answer, Judged, last_swap, repeated_answer, fired_by, service_answers}
use Rattle.hy_meta.proofs.Lasting.{stamp-is, attempt-own, applied-tried}
use Rattle.hy_meta.proofs.Writes.{record-of_attempt}
use Rattle.hy_meta.proofs.Rising.{cases_bool, both}
use Rattle.hy_record.specs.declared.turn.Cue.{Cue}
use Rattle.hy_protocol.specs.Write.{own_stamp, update_of, write_sends}
use Rattle.hy_protocol.specs.Swap.{swap_sends}
use Rattle.hy_protocol.specs.Collect.{first_olds}
use Rattle.hy_trace.specs.Deeds.{Params, Deed, Served, Start, served, inputs_of, start_of}
use Rattle.hy_trace.specs.Messages.{Ask, Say, message_of}
use Rattle.hy_protocol.specs.Operations.{key_of, write_plan, read_plan, collect_plan, sends_of}
use Rattle.hy_protocol.specs.Inputs.{has_of}
use Rattle.hy_trace.proofs.Heard.{IsToldBy}
use Rattle.hy_trace.proofs.Growth.{top, top-rises, start-keeps, floor-below}
use Rattle.hy_theorems.specs.Writing.{Change, Puts, Deletes, Swaps, change_value, change_expected, change_action, IsMet}
use Rattle.hy_theorems.proofs.Listing.{IsIn}
use Rattle.hy_theorems.proofs.Writes.{key_of-write, all-map, write-sends-all, swap-sends-all}
use Rattle.hy_theorems.proofs.Others.{read-sends-all, collect-sends-all}
use Rattle.hy_theorems.proofs.Meaning.{Meaning, IsBegun, IsUpdating, IsPutting, IsOfUpdate, AreOld, WasOld, all-weaken, old-keeps, of_update-keeps}

-- a write with these inputs
module _ (p : Params) (c o : ℕ) (t : List Deed) (s : Start) (inputs : List Cue) (began : start_of c o t ≡ Some s) (handed : inputs_of c o t ≡ inputs) where
  begun : (key : List ℕ) → key_of s.action ≡ key → IsBegun c o key t
  begun key is = record { start = s; began = began; key_is = is }

  -- the record that a write sent, and the fragments
  updating : (key : List ℕ) (change : Change) (r : RecordValue) → s.action ≡ change_action key change → IsMet (change_expected change) inputs → update_of (write_plan p.f p.k c o key (change_value change)) inputs ≡ Some r → IsUpdating p c o key (change_expected change) r t
  updating key change r is met sent = record {
    start = s;
    began = began;
    change = change;
    action_is = is;
    expects = refl;
    met = subst (λ (x : List Cue). IsMet (change_expected change) x) (sym handed) met;
    update = ap (update_of (write_plan p.f p.k c o key (change_value change))) handed ∙ sent;
  }

  putting : (key : List ℕ) (change : Change) (stamp : Timestamp) (v : List ℕ) (cloud : ℕ) → s.action ≡ change_action key change → IsMet (change_expected change) inputs → own_stamp (write_plan p.f p.k c o key (change_value change)) inputs ≡ Some stamp → change_value change ≡ Some v → IsPutting p c o cloud key stamp (fragment_of v p.k cloud) t
  putting key change stamp v cloud is met own stores = record {
    start = s;
    began = began;
    change = change;
    action_is = is;
    met = subst (λ (x : List Cue). IsMet (change_expected change) x) (sym handed) met;
    value = v;
    stores = stores;
    own = ap (own_stamp (write_plan p.f p.k c o key (change_value change))) handed ∙ own;
    bytes_are = refl;
  }

  -- a put or a delete
  write-speaks : (key : List ℕ) (change : Change) → s.action ≡ change_action key change → change_expected change ≡ None → AllByRecursion (λ out. Meaning p t (message_of out)) (write_sends (write_plan p.f p.k c o key (change_value change)) inputs)
  write-speaks key change is free =
      let plan = write_plan p.f p.k c o key (change_value change) in
      let met : IsMet (change_expected change) inputs = subst (λ (x : Option Timestamp). IsMet x inputs) (sym free) tt in
      write-sends-all plan (λ out. Meaning p t (message_of out)) (begun key (ap key_of is ∙ key_of-write key change)) inputs
      (λ r sent. subst (λ (x : Option Timestamp). IsUpdating p c o key x r t) free (updating key change r is met sent))
      (λ stamp v cloud own put. putting key change stamp v cloud is met own put)

  -- a swap
  swap-speaks : (key : List ℕ) (expected : Timestamp) (v : List ℕ) → s.action ≡ asked.Swap key expected v → AllByRecursion (λ out. Meaning p t (message_of out)) (swap_sends (write_plan p.f p.k c o key (Some v)) expected inputs)
  swap-speaks key expected v is =
      swap-sends-all (write_plan p.f p.k c o key (Some v)) expected (λ out. Meaning p t (message_of out)) (begun key (ap key_of is)) inputs
      (λ r met sent. updating key (Swaps expected v) r is met sent)
      (λ stamp w cloud met own put. putting key (Swaps expected v) stamp w cloud is met own put)

  -- each message of an operation means what it should
  pub operation-speaks : ((ss : List Timestamp) → first_olds inputs ≡ Some ss → AreOld t (key_of s.action) ss) → ((r : RecordValue) → IsToldBy has_of inputs (Some r) → IsOfUpdate t (key_of s.action) (Some r)) → (a : Action) → s.action ≡ a → AllByRecursion (Meaning p t) (map message_of (sends_of p.f p.k c o a inputs))
  unfolding sends_of
  operation-speaks olds told (asked.Put key v) is = all-map (Meaning p t) message_of _ (write-speaks key (Puts v) is refl)
  operation-speaks olds told (asked.Delete key) is = all-map (Meaning p t) message_of _ (write-speaks key Deletes is refl)
  operation-speaks olds told (asked.Swap key expected v) is = all-map (Meaning p t) message_of _ (swap-speaks key expected v is)
  operation-speaks olds told (asked.Get key) is_get = all-map (Meaning p t) message_of _ (read-sends-all (read_plan c o key) (λ out. Meaning p t (message_of out)) (begun key (ap key_of is_get)) (λ stamp. tt) inputs
      (λ r is cloud listed. (
      let of : IsOfUpdate t key (Some r) = subst (λ (k : List ℕ). IsOfUpdate t k (Some r)) (ap key_of is_get) (told r is) in
      record { attempt = of.0; tried = applied-tried (served t) of.0 of.1; key_is = of.2; stamp_is = ap (λ (x : RecordValue). x.stamp) of.3; listed = subst (λ (x : RecordValue). IsIn (clouds_of x.clouds) cloud) (sym of.3) listed })))
  operation-speaks olds told (asked.Collect key) is = all-map (Meaning p t) message_of _
      (collect-sends-all (collect_plan p.f p.k c o key) (λ out. Meaning p t (message_of out)) tt (λ ss. tt) inputs
      (λ ss listed. all-weaken (λ x. WasOld (served t) key x) _ ss (λ x was cloud. was) (subst (λ (k : List ℕ). AreOld t k ss) (ap key_of is) (olds ss listed))))

-- a record is that of an attempt that was applied
pub record-applied : (t : List Deed) (k : List ℕ) (r : RecordValue) → record_after (served t) k ≡ Some r → IsOfUpdate t k (Some r)
record-applied t k r is = (let of = record-of_attempt (served t) k r is in (of.attempt, of.applied, of.key_is, of.rec_is))

pub all-filtered : {A : Type 0} (test : A → Bool) (P : A → Type 0) (xs : List A) → ((x : A) → test x ≡ true → P x) → AllByRecursion P (filter test xs)
all-filtered test P [] each = tt
all-filtered test P (x ∷ xs) each =
    elim (cases_bool (test x)) [
      | inl passes ↦ rw passes (each x passes, all-filtered test P xs each)
      | inr fails ↦ rw fails (all-filtered test P xs each)
    ]

pub all-taken : {A : Type 0} (P : A → Type 0) (n : ℕ) (xs : List A) → AllByRecursion P xs → AllByRecursion P (take n xs)
all-taken P zero xs all = tt
all-taken P (suc n) [] all = tt
all-taken P (suc n) (x ∷ xs) all = (all.0, all-taken P n xs all.1)

-- what the service lists was superseded
listed-old : (requests : List MetaAsk) (k : List ℕ) → AllByRecursion (λ s. WasOld requests k s) (old_list requests k)
unfolding old_list
listed-old requests k =
    all-taken (λ s. WasOld requests k s) MAX_STAMPS _ (all-filtered (λ s. is_old requests k s) (λ s. WasOld requests k s) (known_stamps requests k) (λ s old. record { later = []; before = requests; all = refl; old = old }))

fired-mean : (p : Params) (t : List Deed) (ws : List Watcher) → AllByRecursion (λ w. stamp_lt w.stamp (top t w.key) ≡ true) ws → AllByRecursion (Meaning p t) (map Say (map fired ws))
fired-mean p t [] all = tt
fired-mean p t (w ∷ ws) all = (all.0, fired-mean p t ws all.1)

-- the watches that fire are of timestamps below that of the update
fired-below : (before : List MetaAsk) (k : List ℕ) (s : Timestamp) → AllByRecursion (λ w. (k ≡ w.key) × (stamp_lt w.stamp s ≡ true)) (fired_watches before k s)
unfolding fired_watches is_passed
fired-below before k s =
    all-filtered (λ w. is_passed before k s w) (λ w. (k ≡ w.key) × (stamp_lt w.stamp s ≡ true)) (watches_of before)
    (λ w is. (let outer = both (key_eq w.key k && not (stamp_lt w.stamp (record_stamp before k))) (stamp_lt w.stamp s) is in let inner = both (key_eq w.key k) (not (stamp_lt w.stamp (record_stamp before k))) outer.0 in (sym (key_eq-true w.key k inner.0), outer.1)))

-- where an attempt is applied, it is the record
pub applied-top : (ask : MetaAsk) (before : List MetaAsk) (a : Attempt) → attempt_of before ask ≡ Some a → applies (record_after before a.key) a ≡ true → record_stamp (ask ∷ before) a.key ≡ a.rec.stamp
applied-top ask before a is applied = stamp-is (ask ∷ before) a.key (Some a.rec) (attempt-own ask before a is ∙ rw applied refl)

-- the watches that it fires are below it
fired-says : (p : Params) (t : List Deed) (ask : MetaAsk) (a : Attempt) → attempt_of (served t) ask ≡ Some a → applies (record_after (served t) a.key) a ≡ true → AllByRecursion (Meaning p (Served ask ∷ t)) (map Say (map fired (fired_watches (served t) a.key a.rec.stamp)))
unfolding served
fired-says p t ask a is applied =
    let k = a.key in
    let x = a.rec.stamp in
    fired-mean p (Served ask ∷ t) (fired_watches (served t) k x)
    (all-weaken (λ w. (k ≡ w.key) × (stamp_lt w.stamp x ≡ true)) (λ w. stamp_lt w.stamp (top (Served ask ∷ t) w.key) ≡ true) (fired_watches (served t) k x)
    (λ w below. subst (λ (y : List ℕ). stamp_lt w.stamp (top (Served ask ∷ t) y) ≡ true) below.0 (ap (λ (y : Timestamp). stamp_lt w.stamp y) (applied-top ask (served t) a is applied) ∙ below.1))
    (fired-below (served t) k x))

fired-by-mean : (p : Params) (t : List Deed) (ask : MetaAsk) (a : Attempt) → attempt_of (served t) ask ≡ Some a → AllByRecursion (Meaning p (Served ask ∷ t)) (map Say (fired_by (served t) a))
fired-by-mean p t ask a is =
    elim (cases_bool (applies (record_after (served t) a.key) a)) [
      | inl applied ↦ rw applied (fired-says p t ask a is applied)
      | inr refused ↦ rw refused tt
    ]

-- what a swap is answered that is judged, where the number of one that is refused is not above that of the record
judged-means : (p : Params) (t : List Deed) (ask : MetaAsk) (a : Attempt) → attempt_of (served t) ask ≡ Some a → (applies (record_after (served t) a.key) a ≡ false → a.rec.stamp.sn ≤ (top t a.key).sn) → Meaning p (Served ask ∷ t) (Say (judged_answer (served t) a))
unfolding judged_answer served
judged-means p t ask a is number =
    elim (cases_bool (applies (record_after (served t) a.key) a)) [
      | inl applied ↦ rw applied (a, inl (is, applied), (refl, refl, refl))
      | inr refused ↦ rw refused (a, inl is, (refl, refl, refl), top-rises (Served ask) t a.key, number refused)
    ]

repeat-means : (p : Params) (t : List Deed) (ask : MetaAsk) (op : ℕ) (last : Option Judged) → ((j : Judged) → last ≡ Some j → Meaning p (Served ask ∷ t) (Say j.say)) → AllByRecursion (Meaning p (Served ask ∷ t)) (map Say (repeated_answer last op))
repeat-means p t ask op None means = tt
repeat-means p t ask op (Some j) means =
    elim (cases_bool (j.op == op)) [
      | inl same ↦ rw same (means j refl, tt)
      | inr other ↦ rw other tt
    ]

-- each answer of the service means what it should
pub service-speaks : (p : Params) (t : List Deed) (ask : MetaAsk) → Meaning p t (Ask ask) →
    ((client : ℕ) (j : Judged) → last_swap (served t) client ≡ Some j → Meaning p (Served ask ∷ t) (Say j.say)) →
    ((a : Attempt) → attempt_of (served t) ask ≡ Some a → is_some a.expected ≡ true → applies (record_after (served t) a.key) a ≡ false → a.rec.stamp.sn ≤ (top t a.key).sn) →
    AllByRecursion (Meaning p (Served ask ∷ t)) (map Say (service_answers (served t) ask))
unfolding service_answers served record_stamp
service-speaks p t (asks.Read c o k) b repeats numbers =
    let d = Served (asks.Read c o k) in (
      record {
        start = b.start;
        began = start-keeps c o d t b.start b.began;
        key_is = b.key_is;
        above = floor-below c o t b.start k b.began;
        below = top-rises d t k;
        written = of_update (record_after (served t) k) refl;
        seen = record { later = asks.Read c o k ∷ []; before = served t; all = refl; is = refl };
      },
      tt,
    )
  where
    of_update : (r : Option RecordValue) → record_after (served t) k ≡ r → IsOfUpdate (Served (asks.Read c o k) ∷ t) k r
    of_update None is = tt
    of_update (Some r) is = of_update-keeps (Served (asks.Read c o k)) t k (Some r) (record-applied t k r is)
service-speaks p t (asks.Update c o k r) means repeats numbers =
    let a : Attempt = record { client = c; op = o; key = k; rec = r; expected = None } in
    elim (cases_bool (stamp_lt (record_stamp (served t) k) r.stamp)) [
      | inl above ↦ rw above ((a, inl refl, (refl, refl, refl), refl), fired-says p t (asks.Update c o k r) a refl above)
      | inr not_above ↦ rw not_above ((a, inl refl, (refl, refl, refl), refl), tt)
    ]
service-speaks p t (asks.Swap c o k e r) means repeats numbers =
    let a : Attempt = record { client = c; op = o; key = k; rec = r; expected = Some e } in
    elim (cases_bool (is_judged (served t) c o)) [
      | inl judged ↦ (
          let is : attempt_of (served t) (asks.Swap c o k e r) ≡ Some a = rw judged refl in
          rw judged (judged-means p t (asks.Swap c o k e r) a is (numbers a is refl), fired-by-mean p t (asks.Swap c o k e r) a is))
      | inr repeated ↦ rw repeated (repeat-means p t (asks.Swap c o k e r) o (last_swap (served t) c) (repeats c))
    ]
service-speaks p t (asks.Watch c o k s) means repeats numbers =
    elim (cases_bool (stamp_lt s (record_stamp (served t) k))) [
      | inl due ↦ rw due (stamp_lt-le s (top t k) (top (Served (asks.Watch c o k s) ∷ t) k) due (top-rises (Served (asks.Watch c o k s)) t k), tt)
      | inr waits ↦ rw waits tt
    ]
service-speaks p t (asks.Olds c o k) means repeats numbers =
    (all-weaken (λ s. WasOld (served t) k s) (λ s. WasOld (served (Served (asks.Olds c o k) ∷ t)) k s) (old_list (served t) k) (λ s was. old-keeps (Served (asks.Olds c o k)) t k s was) (listed-old (served t) k), tt)
service-speaks p t (asks.Forget c o k ss) means repeats numbers = (tt, tt)

-- What holds of every trace: each message means what it should, and the record is not below what an operation replied.
use Rattle.std.proofs.Common.{◌≡◌, ◌+◌, ◌≤◌, ℕ, Bool, true, false, cond, List, [], ◌∷◌, Option, Some, None, refl, sym, ap, subst, ◌∙◌, inl, inr, arith}
use Rattle.std.specs.Prelude.{◌&&◌, ◌==◌, length, not, is_some}
use Rattle.std.specs.List.{AllByRecursion}
use Rattle.std.specs.Option.{option_or}
use Rattle.std.proofs.lemmas.Option.{none-some, same_Some, cond_some}
use Rattle.std.proofs.lemmas.Bool.{eq-eqb, eqb-true, both_ways}
use Rattle.hy_record.specs.declared.message.MetaAsk.{MetaAsk}
use Rattle.hy_record.specs.declared.message.MetaAsk.TheVariants as asks
use Rattle.hy_record.specs.declared.message.MetaSay.TheVariants as says
use Rattle.hy_record.specs.declared.action.Action.{Action}
use Rattle.hy_record.specs.declared.action.Action.TheVariants as asked
use Rattle.hy_record.specs.declared.action.Reply.{Reply}
use Rattle.hy_record.specs.declared.action.Reply.TheVariants as told
use Rattle.hy_record.specs.Stamp.{Timestamp, next_stamp, stamp_lt, stamp_eq}
use Rattle.hy_record.specs.Key.{is_cell}
use Rattle.hy_record.proofs.Order.{stamp_eq-same}
use Rattle.hy_record.specs.Record.{RecordValue}
use Rattle.hy_meta.specs.Service.{Attempt, is_judged, is_expected, applies, stamp_of_record, record_after, record_stamp}
use Rattle.hy_meta.specs.Run.{IsTried}
use Rattle.hy_meta.specs.Meta.{judged_answer, Judged, last_swap, service_answers}
use Rattle.hy_meta.proofs.Lasting.{applied-below, tried-below, applied-tried}
use Rattle.hy_meta.proofs.Rising.{cases_bool, both}
use Rattle.hy_record.specs.declared.turn.Cue.{Cue}
use Rattle.hy_protocol.specs.Inputs.{addresses, has_of, is_forgot}
use Rattle.hy_protocol.specs.declared.plan.PutPlan.{PutPlan}
use Rattle.hy_protocol.specs.Write.{first_has, stamp_upon, exhausted_by, update_of, write_reply, write_reply_at}
use Rattle.hy_protocol.specs.Swap.{changed_by, answered_by, swap_reply, swap_reply_at}
use Rattle.hy_protocol.specs.Read.{Version, version_of, answer_for, answer_of, read_reply}
use Rattle.hy_record.specs.Record.{is_tombstone}
use Rattle.hy_protocol.specs.Collect.{collect_reply, first_olds, forget_of, collected_by, nothing_by}
use Rattle.hy_trace.specs.Deeds.{Params, Deed, Joined, Began, Handed, Served, Granted, Stopped, Nothing, Start, served, inputs_of, start_of, start_at}
use Rattle.hy_trace.specs.Messages.{Message, Ask, Say, sent_at, IsSent}
use Rattle.hy_protocol.specs.Operations.{key_of, suits, write_plan, collect_plan, replied}
use Rattle.hy_trace.specs.Trace.{IsDelivered, Awaits, Fits, IsTrace}
use Rattle.hy_trace.proofs.Growth.{some-is, Le, le-trans, or-cases, or-second, top, top-rises, start-keeps, start-same, inputs-step, all-among}
use Rattle.hy_theorems.specs.Writing.{Change, Puts, Deletes, Swaps, change_value, change_expected, change_action, IsMet}
use Rattle.hy_theorems.proofs.Writes.{key_of-write, change-same, update-own, own-has, reply-cases}
use Rattle.hy_theorems.proofs.Numbers.{le-number, next-number, AreNext, number-was}
use Rattle.hy_trace.proofs.Heard.{IsInput, IsToldBy, inputs-heard, has-told, version-told, olds-told, said-has, said-olds, said-answer, said-verdict}
use Rattle.hy_theorems.proofs.Meaning.{WasStamp, IsOfUpdate, of_update-keeps, Meaning, IsUpdating, IsBy, IsUpdated, IsSwapped, IsRefused, IsReading, AreOld, ask_with, attempt-ask, tried-asked, asked-sent, meaning-keeps}
use Rattle.hy_theorems.proofs.Speaking.{operation-speaks, service-speaks}

-- a finished operation's timestamp is not above this one
abbrev pub IsCovered : Reply → Timestamp → Type 0
IsCovered (told.Done s) top = Le s top
IsCovered (told.Value v s) top = Le s top
IsCovered (told.Absent s) top = Le s top
IsCovered (told.Exhausted s) top = Unit {0}
IsCovered (told.Collected n) top = Unit {0}
IsCovered (told.Swapped s) top = Le s top
IsCovered (told.Changed s) top = Le s top

pub covered-rises : (reply : Reply) (a b : Timestamp) → Le a b → IsCovered reply a → IsCovered reply b
covered-rises (told.Done s) a b le c = le-trans s a b c le
covered-rises (told.Value v s) a b le c = le-trans s a b c le
covered-rises (told.Absent s) a b le c = le-trans s a b c le
covered-rises (told.Exhausted s) a b le c = tt
covered-rises (told.Collected n) a b le c = tt
covered-rises (told.Swapped s) a b le c = le-trans s a b c le
covered-rises (told.Changed s) a b le c = le-trans s a b c le

-- what holds of every trace
pub record Holds (p : Params) (t : List Deed) : Type 0 where
  pub said : (m : Message) → IsSent p t m → Meaning p t m
  pub done : (c o : ℕ) (s : Start) (reply : Reply) → start_of c o t ≡ Some s → replied p.f p.k c o s.action (inputs_of c o t) ≡ Some reply → IsCovered reply (top t (key_of s.action))

not-false : (b : Bool) → not b ≡ true → b ≡ false
not-false true is = sym is
not-false false is = refl

-- what was attempted had been sent by a write
pub attempt-means : (p : Params) (t : List Deed) (a : Attempt) (e : Option Timestamp) → a.expected ≡ e → Meaning p t (Ask (ask_with a e)) → IsUpdating p a.client a.op a.key a.expected a.rec t
attempt-means p t a None is means = subst (λ (x : Option Timestamp). IsUpdating p a.client a.op a.key x a.rec t) (sym is) means
attempt-means p t a (Some e) is means = subst (λ (x : Option Timestamp). IsUpdating p a.client a.op a.key x a.rec t) (sym is) means

pub tried-means : (p : Params) (t : List Deed) (a : Attempt) → IsTrace p t → Holds p t → IsTried (served t) a → IsUpdating p a.client a.op a.key a.expected a.rec t
tried-means p t a trace holds tried =
    attempt-means p t a a.expected refl (holds.said (Ask (ask_with a a.expected)) (asked-sent p t (ask_with a a.expected) trace (tried-asked (served t) a tried)))

-- the same, of the operation that is named
pub by-means : (p : Params) (t : List Deed) (a : Attempt) (c o : ℕ) (key : List ℕ) → IsTrace p t → Holds p t → IsTried (served t) a → IsBy c o key a → IsUpdating p c o key a.expected a.rec t
by-means p t a c o key trace holds tried by =
    subst (λ (k : List ℕ). IsUpdating p c o k a.expected a.rec t) by.2
    (subst (λ (n : ℕ). IsUpdating p c n a.key a.expected a.rec t) by.1 (subst (λ (b : ℕ). IsUpdating p b a.op a.key a.expected a.rec t) by.0 (tried-means p t a trace holds tried)))

-- the update of a write is one
pub update-same : (p : Params) (t : List Deed) (c o : ℕ) (key : List ℕ) (change : Change) (s : Start) (r q : RecordValue) (expected : Option Timestamp) → start_of c o t ≡ Some s → s.action ≡ change_action key change →
    update_of (write_plan p.f p.k c o key (change_value change)) (inputs_of c o t) ≡ Some r → IsUpdating p c o key expected q t → q ≡ r
update-same p t c o key change s r q expected began is update u =
    let same : u.start ≡ s = start-same c o t u.start s u.began began in
    let changes : u.change ≡ change = change-same key key u.change change (sym u.action_is ∙ ap (λ (x : Start). x.action) same ∙ is) in
    same_Some q r (sym u.update ∙ ap (λ (v : Change). update_of (write_plan p.f p.k c o key (change_value v)) (inputs_of c o t)) changes ∙ update)

-- a write whose update was served is not above the record
pub updated-below : (p : Params) (t : List Deed) (c o : ℕ) (key : List ℕ) (change : Change) (s : Start) (r : RecordValue) → IsTrace p t → Holds p t → start_of c o t ≡ Some s → s.action ≡ change_action key change →
    update_of (write_plan p.f p.k c o key (change_value change)) (inputs_of c o t) ≡ Some r → IsUpdated t c o key → Le r.stamp (top t key)
updated-below p t c o key change s r trace holds began is update u =
    let meant : IsUpdating p c o key u.0.expected u.0.rec t = by-means p t u.0 c o key trace holds u.1 u.2 in
    let same : u.0.rec ≡ r = update-same p t c o key change s r u.0.rec u.0.expected began is update meant in
    subst (λ (x : RecordValue). Le x.stamp (top t key)) same (subst (λ (k : List ℕ). Le u.0.rec.stamp (top t k)) u.2.2 (tried-below (served t) u.0 u.3 u.1))

-- nor is a swap that was applied
swapped-below : (p : Params) (t : List Deed) (c o : ℕ) (key : List ℕ) (change : Change) (s : Start) (r : RecordValue) → IsTrace p t → Holds p t → start_of c o t ≡ Some s → s.action ≡ change_action key change →
    update_of (write_plan p.f p.k c o key (change_value change)) (inputs_of c o t) ≡ Some r → IsSwapped t c o key → Le r.stamp (top t key)
swapped-below p t c o key change s r trace holds began is update u =
    let meant : IsUpdating p c o key u.0.expected u.0.rec t = by-means p t u.0 c o key trace holds (applied-tried (served t) u.0 u.1) u.2 in
    let same : u.0.rec ≡ r = update-same p t c o key change s r u.0.rec u.0.expected began is update meant in
    subst (λ (x : RecordValue). Le x.stamp (top t key)) same (subst (λ (k : List ℕ). Le u.0.rec.stamp (top t k)) u.2.2 (applied-below (served t) u.0 u.1))

-- a record that an operation was told is not above the record
pub told-reading : (p : Params) (t : List Deed) (c o : ℕ) (key : List ℕ) (cue : Cue) (r : Option RecordValue) → Holds p t → has_of cue ≡ Some r → addresses c o key cue ≡ true → IsDelivered p t cue → IsReading c o key r t
told-reading p t c o key cue r holds tells own delivered = holds.said (Say (says.Has c o key r)) (said-has p t c o key cue r tells own delivered)

-- an input that the operation is handed, or was handed
pub heard-now : (p : Params) (t : List Deed) (c o : ℕ) (s : Start) (new cue : Cue) → IsTrace p t → start_of c o t ≡ Some s → addresses c o (key_of s.action) new ≡ true → IsDelivered p t new → IsInput (new ∷ inputs_of c o t) cue →
    (addresses c o (key_of s.action) cue ≡ true) × IsDelivered p t cue
heard-now p t c o s new cue trace began own delivered (inl is) = subst (λ (x : Cue). (addresses c o (key_of s.action) x ≡ true) × IsDelivered p t x) is (own, delivered)
heard-now p t c o s new cue trace began own delivered (inr older) =
    let h = inputs-heard p c o cue t trace older in
    (subst (λ (x : Start). addresses c o (key_of x.action) cue ≡ true) (start-same c o t h.start s h.began began) h.own, h.delivered)

answer-covered : (r : Option RecordValue) (since : List Cue) (reply : Reply) (top : Timestamp) → Le (stamp_of_record r) top → answer_for r since ≡ Some reply → IsCovered reply top
unfolding answer_for
answer-covered None since reply top below is = subst (λ (x : Reply). IsCovered x top) (same_Some (told.Absent (record { sn = 0; cid = 0 })) reply is) below
answer-covered (Some r) since reply top below is =
    elim (cases_bool (is_tombstone r.kind)) [
      | inl tomb ↦ subst (λ (x : Reply). IsCovered x top) (same_Some (told.Absent r.stamp) reply (rw tomb at is)) below
      | inr value ↦ subst (λ (x : Reply). IsCovered x top) (cond_some _ (told.Value _ r.stamp) reply (rw value at is)).1 below
    ]

by-forget : (o : Option (List Timestamp)) (cue : Cue) (reply : Reply) (top : Timestamp) → collected_by o cue ≡ Some reply → IsCovered reply top
by-forget None cue reply top is = absurd (none-some reply is)
by-forget (Some ss) cue reply top is = subst (λ (x : Reply). IsCovered x top) (cond_some (is_forgot cue) (told.Collected (length ss)) reply is).1 tt

by-none : (o : Option (List Timestamp)) (reply : Reply) (top : Timestamp) → nothing_by o ≡ Some reply → IsCovered reply top
by-none None reply top is = absurd (none-some reply is)
by-none (Some []) reply top is = subst (λ (x : Reply). IsCovered x top) (same_Some (told.Collected 0) reply is) tt
by-none (Some (s ∷ ss)) reply top is = absurd (none-some reply is)

collected-covered : (forget olds : Option (List Timestamp)) (cue : Cue) (reply : Reply) (top : Timestamp) → option_or (collected_by forget cue) (nothing_by olds) ≡ Some reply → IsCovered reply top
collected-covered forget olds cue reply top is =
    elim (or-cases (collected_by forget cue) (nothing_by olds) reply is) [
      | inl forgot ↦ by-forget forget cue reply top forgot
      | inr empty ↦ by-none olds reply top empty.1
    ]

-- a reply that comes now is not above the record
module _ (p : Params) (t : List Deed) (c o : ℕ) (s : Start) (cue : Cue) (trace : IsTrace p t) (holds : Holds p t) (began : start_of c o t ≡ Some s) (own : addresses c o (key_of s.action) cue ≡ true) (delivered : IsDelivered p t cue) where
  write-covered : (key : List ℕ) (change : Change) (reply : Reply) → s.action ≡ change_action key change → key_of s.action ≡ key → write_reply_at (write_plan p.f p.k c o key (change_value change)) cue (inputs_of c o t) ≡ Some reply → IsCovered reply (top t key)
  write-covered key change reply is key_is now =
      elim (reply-cases (write_plan p.f p.k c o key (change_value change)) cue (inputs_of c o t) reply now) [
        | inl done ↦
            let heard = said-answer p t c o key cue done.2 (subst (λ (k : List ℕ). addresses c o k cue ≡ true) key_is own) delivered in
            let updated : IsUpdated t c o key = elim heard.1 [ inl applied ↦ holds.said (Say (says.Applied c o key heard.0)) applied | inr kept ↦ holds.said (Say (says.Kept c o key heard.0)) kept ] in
            subst (λ (x : Reply). IsCovered x (top t key)) done.3 (updated-below p t c o key change s done.0 trace holds began is done.1 updated)
        | inr exhausted ↦ subst (λ (x : Reply). IsCovered x (top t key)) exhausted.1 tt
      ]

  -- the reply of a swap
  swap-covered : (key : List ℕ) (expected : Timestamp) (v : List ℕ) (reply : Reply) → s.action ≡ asked.Swap key expected v → swap_reply (write_plan p.f p.k c o key (Some v)) expected (inputs_of c o t) ≡ None → swap_reply_at (write_plan p.f p.k c o key (Some v)) expected cue (inputs_of c o t) ≡ Some reply → IsCovered reply (top t key)
  unfolding swap_reply_at
  swap-covered key expected v reply is pending now =
      let plan = write_plan p.f p.k c o key (Some v) in
      let own_key : addresses c o key cue ≡ true = subst (λ (k : List ℕ). addresses c o k cue ≡ true) (ap key_of is) own in
      elim (or-cases (answered_by (update_of plan (inputs_of c o t)) cue) _ reply now) [
        | inl answered ↦ by_update own_key (update_of plan (inputs_of c o t)) refl answered
        | inr rest ↦ elim (or-cases (changed_by expected (first_has (cue ∷ inputs_of c o t))) (exhausted_by plan (first_has (cue ∷ inputs_of c o t))) reply rest.1) [
          | inl changed ↦ by_has (first_has (cue ∷ inputs_of c o t)) refl changed
          | inr ended ↦ by_end plan (first_has (cue ∷ inputs_of c o t)) ended.1
        ]
      ]
    where
      by_update : addresses c o key cue ≡ true → (u : Option RecordValue) → update_of (write_plan p.f p.k c o key (Some v)) (inputs_of c o t) ≡ u → answered_by u cue ≡ Some reply → IsCovered reply (top t key)
      by_update own_key None was e = absurd (none-some reply e)
      by_update own_key (Some r) was e =
          let heard = said-verdict p t c o key cue r reply e own_key delivered in
          elim heard.1 [
            | inl swapped ↦ subst (λ (x : Reply). IsCovered x (top t key)) swapped.1 (swapped-below p t c o key (Swaps expected v) s r trace holds began is was (holds.said (Say (says.Swapped c o key heard.0)) swapped.0))
            | inr changed ↦ (let refused : IsRefused t c o key heard.0 = holds.said (Say (says.Changed c o key heard.0)) changed.0 in subst (λ (x : Reply). IsCovered x (top t key)) changed.1 refused.3)
          ]

      by_has : (h : Option (Option RecordValue)) → first_has (cue ∷ inputs_of c o t) ≡ h → changed_by expected h ≡ Some reply → IsCovered reply (top t key)
      by_has None has e = absurd (none-some reply e)
      by_has (Some held) has e = by_test (stamp_eq (stamp_of_record held) expected) e
        where
          told_ : Le (stamp_of_record held) (top t key)
          told_ =
              let b = has-told (cue ∷ inputs_of c o t) held has in
              let h = heard-now p t c o s cue b.cue trace began own delivered b.input in
              subst (λ (k : List ℕ). Le (stamp_of_record held) (top t k)) (ap key_of is) (told-reading p t c o (key_of s.action) b.cue held holds b.tells h.0 h.1).below

          by_test : (b : Bool) → cond b None (Some (told.Changed (stamp_of_record held))) ≡ Some reply → IsCovered reply (top t key)
          by_test true e = absurd (none-some reply e)
          by_test false e = subst (λ (x : Reply). IsCovered x (top t key)) (same_Some (told.Changed (stamp_of_record held)) reply e) told_

      by_end : (plan : PutPlan) (h : Option (Option RecordValue)) → exhausted_by plan h ≡ Some reply → IsCovered reply (top t key)
      by_end plan None e = absurd (none-some reply e)
      by_end plan (Some held) e = by_next (is_some (stamp_upon plan.client held)) e
        where
          by_next : (b : Bool) → cond b None (Some (told.Exhausted (stamp_of_record held))) ≡ Some reply → IsCovered reply (top t key)
          by_next true e = absurd (none-some reply e)
          by_next false e = subst (λ (x : Reply). IsCovered x (top t key)) (same_Some (told.Exhausted (stamp_of_record held)) reply e) tt

  read-covered : (reply : Reply) (v : Option Version) → version_of (cue ∷ inputs_of c o t) ≡ v → answer_of v ≡ Some reply → IsCovered reply (top t (key_of s.action))
  read-covered reply None is now = absurd (none-some reply now)
  read-covered reply (Some v) is now =
      let b = version-told (cue ∷ inputs_of c o t) v is in
      let h = heard-now p t c o s cue b.cue trace began own delivered b.input in
      answer-covered v.rec v.since reply (top t (key_of s.action)) (told-reading p t c o (key_of s.action) b.cue v.rec holds b.tells h.0 h.1).below now

  pub reply-covered : (reply : Reply) (a : Action) → s.action ≡ a → replied p.f p.k c o a (inputs_of c o t) ≡ None → replied p.f p.k c o a (cue ∷ inputs_of c o t) ≡ Some reply → IsCovered reply (top t (key_of a))
  unfolding replied write_reply read_reply collect_reply swap_reply
  reply-covered reply (asked.Swap key expected v) is was now = swap-covered key expected v reply is was (or-second (swap_reply (write_plan p.f p.k c o key (Some v)) expected (inputs_of c o t)) _ reply was now)
  reply-covered reply (asked.Put key v) is was now = write-covered key (Puts v) reply is (ap key_of is) (or-second (write_reply (write_plan p.f p.k c o key (Some v)) (inputs_of c o t)) _ reply was now)
  reply-covered reply (asked.Delete key) is was now = write-covered key Deletes reply is (ap key_of is) (or-second (write_reply (write_plan p.f p.k c o key None) (inputs_of c o t)) _ reply was now)
  reply-covered reply (asked.Get key) is was now = subst (λ (k : List ℕ). IsCovered reply (top t k)) (ap key_of is) (read-covered reply (version_of (cue ∷ inputs_of c o t)) refl (or-second (read_reply (inputs_of c o t)) _ reply was now))
  reply-covered reply (asked.Collect key) is was now = collected-covered (forget_of (collect_plan p.f p.k c o key) (inputs_of c o t)) (first_olds (cue ∷ inputs_of c o t)) cue reply (top t key) (or-second (collect_reply (collect_plan p.f p.k c o key) (inputs_of c o t)) _ reply was now)

module _ (p : Params) (d : Deed) (t : List Deed) (trace : IsTrace p t) (fits : Fits p t d) (holds : Holds p t) where
  -- superseded timestamps that an operation was told
  olds-heard : (c o : ℕ) (cue : Cue) (awaits : Awaits p c o cue t) (ss : List Timestamp) → first_olds (cue ∷ inputs_of c o t) ≡ Some ss → AreOld (d ∷ t) (key_of awaits.start.action) ss
  olds-heard c o cue awaits ss is =
      let b = olds-told (cue ∷ inputs_of c o t) ss is in
      let h = heard-now p t c o awaits.start cue b.cue trace awaits.began awaits.own awaits.delivered b.input in
      let key = key_of awaits.start.action in
      let said : IsSent p t (Say (says.OldList c o key ss)) = said-olds p t c o key b.cue ss b.tells h.0 h.1 in
      meaning-keeps p d t (Say (says.OldList c o key ss)) fits (holds.said (Say (says.OldList c o key ss)) said)

  -- a record that an operation was told is that of an update
  record-heard : (c o : ℕ) (cue : Cue) (awaits : Awaits p c o cue t) (r : RecordValue) → IsToldBy has_of (cue ∷ inputs_of c o t) (Some r) → IsOfUpdate (d ∷ t) (key_of awaits.start.action) (Some r)
  record-heard c o cue awaits r b =
      let h = heard-now p t c o awaits.start cue b.cue trace awaits.began awaits.own awaits.delivered b.input in
      of_update-keeps d t (key_of awaits.start.action) (Some r) (told-reading p t c o (key_of awaits.start.action) b.cue (Some r) holds b.tells h.0 h.1).written

same-numbers : (c o : ℕ) → (c == c && o == o) ≡ true
same-numbers c o = rw (eq-eqb c c refl, eq-eqb o o refl) refl

started : (c o : ℕ) (a : Action) (t : List Deed) → start_of c o t ≡ None → start_of c o (Began c o a ∷ t) ≡ Some (record { action = a; before = t })
unfolding start_of
started c o a t fresh = rw (fresh, same-numbers c o) refl

handed : (c o w : ℕ) (cue : Cue) (t : List Deed) → inputs_of c o (Handed c o w cue ∷ t) ≡ cue ∷ inputs_of c o t
unfolding inputs_of
handed c o w cue t = rw (same-numbers c o) refl

not-handed : (c o b n : ℕ) (a : Action) (t : List Deed) → inputs_of c o (Began b n a ∷ t) ≡ inputs_of c o t
unfolding inputs_of
not-handed c o b n a t = refl

-- each operation that began was asked for a key of its own kind
pub start-suits : (p : Params) (c o : ℕ) (t : List Deed) (s : Start) → IsTrace p t → start_of c o t ≡ Some s → suits s.action ≡ true
unfolding IsTrace start_of
start-suits p c o [] s trace is = absurd (none-some s is)
start-suits p c o (d ∷ t) s trace is =
    elim (or-cases (start_of c o t) (start_at c o d t) s is) [
      | inl was ↦ start-suits p c o t s trace.1 was
      | inr now ↦ by_deed d trace.0 now.1
    ]
  where
    by_deed : (d : Deed) → Fits p t d → start_at c o d t ≡ Some s → suits s.action ≡ true
    by_deed (Began b n a) fits e = (let parts = cond_some (b == c && n == o) (record { action = a; before = t }) s e in subst (λ (x : Start). suits x.action ≡ true) parts.1 fits.1)
    by_deed Joined fits e = absurd (none-some s e)
    by_deed (Handed b n w cue) fits e = absurd (none-some s e)
    by_deed (Served ask) fits e = absurd (none-some s e)
    by_deed (Granted ask) fits e = absurd (none-some s e)
    by_deed (Stopped b) fits e = absurd (none-some s e)
    by_deed Nothing fits e = absurd (none-some s e)

-- on a cell key each attempt is a swap, and has the number after the one that it expects
module _ (p : Params) (t : List Deed) (trace : IsTrace p t) (holds : Holds p t) where
  pub updating-next : (c o : ℕ) (key : List ℕ) (expected : Option Timestamp) (r : RecordValue) → is_cell key ≡ true → IsUpdating p c o key expected r t → (e : Timestamp) × (expected ≡ Some e) × (r.stamp.sn ≡ e.sn + 1)
  updating-next c o key expected r cell u = by_change u.change refl
    where
      fit : suits u.start.action ≡ true
      fit = start-suits p c o t u.start trace u.began

      by_change : (change : Change) → u.change ≡ change → (e : Timestamp) × (expected ≡ Some e) × (r.stamp.sn ≡ e.sn + 1)
      by_change (Puts v) is = absurd (both_ways (is_cell key) (not-false (is_cell key) (sym (ap suits (u.action_is ∙ ap (change_action key) is)) ∙ fit)) cell)
      by_change Deletes is = absurd (both_ways (is_cell key) (not-false (is_cell key) (sym (ap suits (u.action_is ∙ ap (change_action key) is)) ∙ fit)) cell)
      by_change (Swaps e v) is =
          let met : IsMet (Some e) (inputs_of c o t) = subst (λ (x : Change). IsMet (change_expected x) (inputs_of c o t)) is u.met in
          let plan = write_plan p.f p.k c o key (change_value u.change) in
          let has = own-has plan (inputs_of c o t) r.stamp (update-own plan (inputs_of c o t) r u.update) in
          let held : has.0 ≡ met.0 = same_Some has.0 met.0 (sym has.1 ∙ met.1) in
          let next : next_stamp e c ≡ Some r.stamp = ap (λ (x : Timestamp). next_stamp x c) (sym (ap stamp_of_record held ∙ met.2)) ∙ has.2 in
          (e, sym u.expects ∙ ap change_expected is, next-number e r.stamp c next)

  pub cells-next : (key : List ℕ) → is_cell key ≡ true → AreNext (served t) key
  cells-next key cell a tried own = updating-next a.client a.op a.key a.expected a.rec (ap is_cell own ∙ cell) (tried-means p t a trace holds tried)

  -- a swap expects a timestamp that the record had
  pub expected-seen : (c o : ℕ) (key : List ℕ) (e : Timestamp) (r : RecordValue) → IsUpdating p c o key (Some e) r t → WasStamp (served t) key e
  expected-seen c o key e r u =
      let met : IsMet (Some e) (inputs_of c o t) = subst (λ (x : Option Timestamp). IsMet x (inputs_of c o t)) u.expects u.met in
      let b = has-told (inputs_of c o t) met.0 met.1 in
      let h = inputs-heard p c o b.cue t trace b.input in
      let key_is : key_of h.start.action ≡ key = ap (λ (x : Start). key_of x.action) (start-same c o t h.start u.start h.began u.began) ∙ (ap key_of u.action_is ∙ key_of-write key u.change) in
      let reading : IsReading c o key met.0 t = subst (λ (k : List ℕ). IsReading c o k met.0 t) key_is (told-reading p t c o (key_of h.start.action) b.cue met.0 holds b.tells h.own h.delivered) in
      subst (λ (x : Timestamp). WasStamp (served t) key x) met.2 reading.seen

  -- a swap writes a cell key
  pub swap-cell : (c o : ℕ) (key : List ℕ) (e : Timestamp) (r : RecordValue) → IsUpdating p c o key (Some e) r t → is_cell key ≡ true
  swap-cell c o key e r u = by_change u.change refl
    where
      by_change : (change : Change) → u.change ≡ change → is_cell key ≡ true
      by_change (Puts v) is = absurd (none-some e (sym (ap change_expected is) ∙ u.expects))
      by_change Deletes is = absurd (none-some e (sym (ap change_expected is) ∙ u.expects))
      by_change (Swaps d v) is = sym (ap suits (u.action_is ∙ ap (change_action key) is)) ∙ start-suits p c o t u.start trace u.began

  -- a swap that is refused has no number above that of the record
  pub refused-number : (a : Attempt) (e : Timestamp) → a.expected ≡ Some e → IsUpdating p a.client a.op a.key a.expected a.rec t → applies (record_after (served t) a.key) a ≡ false → a.rec.stamp.sn ≤ (top t a.key).sn
  unfolding record_stamp
  refused-number a e is u refused =
      let v : IsUpdating p a.client a.op a.key (Some e) a.rec t = subst (λ (x : Option Timestamp). IsUpdating p a.client a.op a.key x a.rec t) is u in
      let cell = swap-cell a.client a.op a.key e a.rec v in
      let next = updating-next a.client a.op a.key (Some e) a.rec cell v in
      let same : e ≡ next.0 = same_Some e next.0 next.1 in
      let number : a.rec.stamp.sn ≡ e.sn + 1 = next.2 ∙ ap (λ (x : Timestamp). x.sn + 1) (sym same) in
      elim (number-was (served t) a.key e (cells-next a.key cell) (expected-seen a.client a.op a.key e a.rec v)) [
        | inr less ↦ omega (arith, less, number)
        | inl held ↦
            let met : is_expected a.expected (top t a.key) ≡ true = ap (λ (x : Option Timestamp). is_expected x (top t a.key)) is ∙ (ap (λ (x : Timestamp). stamp_eq x e) (sym held) ∙ stamp_eq-same e) in
            let low : stamp_lt (top t a.key) a.rec.stamp ≡ false = rw met at refused in
            le-number a.rec.stamp (top t a.key) low
      ]

-- the last swap of a client that was judged was answered
pub last-sent : (p : Params) (t : List Deed) (client : ℕ) (j : Judged) → last_swap (served t) client ≡ Some j → IsSent p t (Say j.say)
unfolding served last_swap IsSent sent_at service_answers
last-sent p [] client j is = absurd (none-some j is)
last-sent p (Joined ∷ t) client j is = inr (last-sent p t client j is)
last-sent p (Began c o a ∷ t) client j is = inr (last-sent p t client j is)
last-sent p (Handed c o w cue ∷ t) client j is = inr (last-sent p t client j is)
last-sent p (Granted ask ∷ t) client j is = inr (last-sent p t client j is)
last-sent p (Stopped c ∷ t) client j is = inr (last-sent p t client j is)
last-sent p (Nothing ∷ t) client j is = inr (last-sent p t client j is)
last-sent p (Served (asks.Read c o k) ∷ t) client j is = inr (last-sent p t client j is)
last-sent p (Served (asks.Update c o k r) ∷ t) client j is = inr (last-sent p t client j is)
last-sent p (Served (asks.Watch c o k s) ∷ t) client j is = inr (last-sent p t client j is)
last-sent p (Served (asks.Olds c o k) ∷ t) client j is = inr (last-sent p t client j is)
last-sent p (Served (asks.Forget c o k ss) ∷ t) client j is = inr (last-sent p t client j is)
last-sent p (Served (asks.Swap c o k e r) ∷ t) client j is =
    let a : Attempt = record { client = c; op = o; key = k; rec = r; expected = Some e } in
    elim (cases_bool (c == client && is_judged (served t) c o)) [
      | inr other ↦ inr (last-sent p t client j (rw other at is))
      | inl last ↦
          let judged = (both (c == client) (is_judged (served t) c o) last).1 in
          let say : judged_answer (served t) a ≡ j.say = ap (λ (x : Judged). x.say) (same_Some (record { op = o; say = judged_answer (served t) a }) j (rw last at is)) in
          inl (rw judged (inl (ap Say say)))
    ]

-- each message that is sent at a deed means what it should
speaks : (p : Params) (d : Deed) (t : List Deed) → IsTrace p t → Fits p t d → Holds p t → AllByRecursion (Meaning p (d ∷ t)) (sent_at p d t)
unfolding sent_at first_olds
speaks p Joined t trace fits holds = tt
speaks p (Stopped c) t trace fits holds = tt
speaks p Nothing t trace fits holds = tt
speaks p (Granted ask) t trace fits holds = (tt, tt)
speaks p (Served ask) t trace fits holds =
    service-speaks p t ask (holds.said (Ask ask) fits)
    (λ client j is. meaning-keeps p (Served ask) t (Say j.say) fits (holds.said (Say j.say) (last-sent p t client j is)))
    (λ a is some refused. (
    let e = some-is a.expected some in
    let means : Meaning p t (Ask (ask_with a a.expected)) = subst (λ (x : MetaAsk). Meaning p t (Ask x)) (attempt-ask (served t) ask a is) (holds.said (Ask ask) fits) in
    refused-number p t trace holds a e.0 e.1 (attempt-means p t a a.expected refl means) refused))
speaks p (Began c o a) t trace fits holds =
    operation-speaks p c o (Began c o a ∷ t) (record { action = a; before = t }) [] (started c o a t fits.0.fresh) (not-handed c o c o a t ∙ fits.0.inputs) (λ ss is. absurd (none-some ss is)) (λ r told. absurd told.input) a refl
speaks p (Handed c o w cue) t trace fits holds =
    rw fits.0.began
    (operation-speaks p c o (Handed c o w cue ∷ t) fits.0.start (cue ∷ inputs_of c o t) (start-keeps c o (Handed c o w cue) t fits.0.start fits.0.began) (handed c o w cue t)
    (λ ss is. olds-heard p (Handed c o w cue) t trace fits holds c o cue fits.0 ss is) (λ r told. record-heard p (Handed c o w cue) t trace fits holds c o cue fits.0 r told) fits.0.start.action refl)

none-replied : (p : Params) (c o : ℕ) (a : Action) (reply : Reply) → replied p.f p.k c o a [] ≡ Some reply → ⊥
unfolding replied write_reply read_reply collect_reply swap_reply
none-replied p c o (asked.Swap key e v) reply is = none-some reply is
none-replied p c o (asked.Put key v) reply is = none-some reply is
none-replied p c o (asked.Delete key) reply is = none-some reply is
none-replied p c o (asked.Get key) reply is = none-some reply is
none-replied p c o (asked.Collect key) reply is = none-some reply is

-- an operation that begins has no inputs yet
pub begins-empty : (p : Params) (c o : ℕ) (d : Deed) (t : List Deed) (s : Start) → Fits p t d → start_at c o d t ≡ Some s → inputs_of c o (d ∷ t) ≡ []
begins-empty p c o (Began b n a) t s fits is =
    let tests = (cond_some (b == c && n == o) (record { action = a; before = t }) s is).0 in
    let both_ = both (b == c) (n == o) tests in
    not-handed c o b n a t ∙ subst (λ (x : ℕ). inputs_of x o t ≡ []) (eqb-true b c both_.0) (subst (λ (y : ℕ). inputs_of b y t ≡ []) (eqb-true n o both_.1) fits.0.inputs)
begins-empty p c o Joined t s fits is = absurd (none-some s is)
begins-empty p c o (Handed b n w cue) t s fits is = absurd (none-some s is)
begins-empty p c o (Served ask) t s fits is = absurd (none-some s is)
begins-empty p c o (Granted ask) t s fits is = absurd (none-some s is)
begins-empty p c o (Stopped b) t s fits is = absurd (none-some s is)
begins-empty p c o Nothing t s fits is = absurd (none-some s is)

done-keeps : (p : Params) (d : Deed) (t : List Deed) → IsTrace p t → Fits p t d → Holds p t → (c o : ℕ) (s : Start) (reply : Reply) → start_of c o (d ∷ t) ≡ Some s → replied p.f p.k c o s.action (inputs_of c o (d ∷ t)) ≡ Some reply → IsCovered reply (top (d ∷ t) (key_of s.action))
unfolding start_of
done-keeps p d t trace fits holds c o s reply began is =
    elim (or-cases (start_of c o t) (start_at c o d t) s began) [
      | inr now ↦ absurd (none-replied p c o s.action reply (ap (replied p.f p.k c o s.action) (sym (begins-empty p c o d t s fits now.1)) ∙ is))
      | inl was ↦ elim (inputs-step p c o d t fits) [
        | inl same ↦ covered-rises reply (top t (key_of s.action)) (top (d ∷ t) (key_of s.action)) (top-rises d t (key_of s.action)) (holds.done c o s reply was (ap (replied p.f p.k c o s.action) (sym same) ∙ is))
        | inr more ↦
            let awaits = more.1 in
            let one : awaits.start ≡ s = start-same c o t awaits.start s awaits.began was in
            let unfinished : replied p.f p.k c o s.action (inputs_of c o t) ≡ None = ap (λ (x : Start). replied p.f p.k c o x.action (inputs_of c o t)) (sym one) ∙ awaits.unfinished in
            let own : addresses c o (key_of s.action) more.0 ≡ true = ap (λ (x : Start). addresses c o (key_of x.action) more.0) (sym one) ∙ awaits.own in
            covered-rises reply (top t (key_of s.action)) (top (d ∷ t) (key_of s.action)) (top-rises d t (key_of s.action))
            (reply-covered p t c o s more.0 trace holds was own awaits.delivered reply s.action refl unfinished (ap (replied p.f p.k c o s.action) (sym more.2) ∙ is))
      ]
    ]

said-keeps : (p : Params) (d : Deed) (t : List Deed) → IsTrace p t → Fits p t d → Holds p t → (m : Message) → IsSent p (d ∷ t) m → Meaning p (d ∷ t) m
unfolding IsSent
said-keeps p d t trace fits holds m (inl now) = all-among (Meaning p (d ∷ t)) (sent_at p d t) m (speaks p d t trace fits holds) now
said-keeps p d t trace fits holds m (inr was) = meaning-keeps p d t m fits (holds.said m was)

nothing-sent : (p : Params) (m : Message) → IsSent p [] m → ⊥
unfolding IsSent
nothing-sent p m sent = sent

none-began : (c o : ℕ) (s : Start) → start_of c o [] ≡ Some s → ⊥
unfolding start_of
none-began c o s is = none-some s is

-- of every trace this holds
pub trace-holds : (p : Params) (t : List Deed) → IsTrace p t → Holds p t
unfolding IsTrace
trace-holds p [] trace = record { said = λ m sent. absurd (nothing-sent p m sent); done = λ c o s reply began is. absurd (none-began c o s began) }
trace-holds p (d ∷ t) trace =
    let holds = trace-holds p t trace.1 in
    record { said = said-keeps p d t trace.1 trace.0 holds; done = done-keeps p d t trace.1 trace.0 holds }

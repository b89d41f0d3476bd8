-- One more input of a put, by its state.
use Rattle.std.proofs.Common.{◌≡◌, ℕ, zero, suc, ◌+◌, ◌≤◌, ◌<◌, Bool, true, false, List, [], ◌∷◌, length, Option, Some, None, refl, sym, ap, subst, ◌∙◌, arith}
use Rattle.std.specs.Prelude.{◌||◌, filter, is_some, if◌then◌else◌}
use Rattle.std.specs.List.{list_any, range_with_len}
use Rattle.hy_record.specs.declared.action.Reply.{Reply}
use Rattle.hy_record.specs.declared.action.Reply.TheVariants as told
use Rattle.hy_record.specs.declared.turn.Cue.{Cue}
use Rattle.hy_record.specs.declared.turn.Out.{Out}
use Rattle.hy_record.specs.declared.turn.Turn.{Turn}
use Rattle.hy_record.specs.Stamp.{Timestamp}
use Rattle.hy_base.specs.Shape.{cloud_count, quorum_size}
use Rattle.hy_record.specs.Record.{RecordValue, tombstone}
use Rattle.hy_meta.specs.Service.{stamp_of_record}
use Rattle.hy_protocol.specs.declared.plan.PutPlan.{PutPlan}
use Rattle.hy_protocol.specs.Inputs.{has_of, is_tick, is_update_answer, is_answer, is_stored}
use Rattle.hy_protocol.specs.Write.{first_has, since_has, stamp_upon, own_stamp, acknowledging_clouds, value_record, record_with, record_at, update_of, write_reply, puts_to, read_of, update_with, acknowledged_so_far, missing_so_far, earlier_sends}
use Rattle.hy_operation.specs.declared.marks.Marks.{Marks}
use Rattle.hy_operation.specs.declared.progress.Progress.{Progress}
use Rattle.hy_operation.specs.Marks.{is_marked, marked_below}
use Rattle.hy_operation.proofs.Inputs.{progress-after-reply}
use Rattle.hy_put.specs.declared.content.Content.{Content}
use Rattle.hy_put.specs.declared.state.Storing.{Storing}
use Rattle.hy_put.specs.declared.state.State.{State}
use Rattle.hy_put.specs.declared.state.State.TheVariants as at
use Rattle.hy_put.specs.declared.put.PutOp.{PutOp}
use Rattle.hy_put.specs.Contents.{storing_progress}
use Rattle.hy_put.specs.Standing.{Carries, IsReading, IsStoring, IsUpdating, HasReplied, TellsPut, StandsAt, StandsForOwn, Does}
use Rattle.hy_put.proofs.Further.{has-more, since-more, update-more, reply-more, sends-more, reply-stays, none-to-write, none-left, own-upon, record-by, few-no-record, enough-record, turn_with, turn-now, turn-late, acknowledged, acks-none, marks-are, marks-more}
use Rattle.hy_put.proofs.Told.{updating_progress, tells-updating, tells-storing, tells-at}
use Rattle.hy_put.proofs.ByContent.{within-of}
use Rattle.hy_protocol.specs.Progress.{write_progress}
use Rattle.hy_protocol.specs.Turns.{settled_progress}

-- no record was told, and none is told now
pub reading-goes : (plan : PutPlan) (m n : PutOp) (own : List Cue) (cue : Cue) (turn : Turn) → StandsForOwn plan m own → m.state ≡ at.Reading → n.state ≡ at.Reading → Carries plan n → has_of cue ≡ None
    → turn ≡ turn_with (if is_tick cue then read_of plan else []) None → Does plan own cue turn n
reading-goes plan m n own cue turn h was now carries none is =
    let r : IsReading plan own = subst (λ (s : State). StandsAt plan s own) was h.state in
    let has : first_has (cue ∷ own) ≡ None = has-more cue own ∙ rw (r.has, none) refl in
    let written : record_at plan (cue ∷ own) ≡ None = none-to-write plan (cue ∷ own) has in
    let silent : write_reply plan (cue ∷ own) ≡ None = reply-more plan cue own ∙ rw (r.reply, r.update, has) refl in
    record {
      does = turn-now plan own cue turn (if is_tick cue then read_of plan else []) None r.reply is (sends-more plan cue own ∙ rw (r.reply, r.update, written, r.has, none) refl) silent;
      stands = record {
        carries = carries;
        state = subst (λ (s : State). StandsAt plan s (cue ∷ own)) (sym now) (let i : IsReading plan (cue ∷ own) = record { has = has; update = update-more plan cue own ∙ rw (r.update, written) refl; reply = silent } in i);
      };
    }

-- the update was sent, and is not answered now
pub updating-goes : (plan : PutPlan) (m n : PutOp) (own : List Cue) (cue : Cue) (turn : Turn) (rec : RecordValue) → StandsForOwn plan m own → m.state ≡ at.Updating rec → n.state ≡ at.Updating rec → Carries plan n → is_update_answer cue ≡ false
    → turn ≡ turn_with (if is_tick cue then update_with plan rec else []) None → Does plan own cue turn n
updating-goes plan m n own cue turn rec h was now carries calm is =
    let u : IsUpdating plan rec own = subst (λ (s : State). StandsAt plan s own) was h.state in
    let has : first_has (cue ∷ own) ≡ Some u.held = has-more cue own ∙ rw u.has refl in
    let silent : write_reply plan (cue ∷ own) ≡ None = reply-more plan cue own ∙ rw (u.reply, u.update, has, calm, u.stamp) refl in
    record {
      does = turn-now plan own cue turn (if is_tick cue then update_with plan rec else []) None u.reply is (sends-more plan cue own ∙ rw (u.reply, u.update) refl) silent;
      stands = record {
        carries = carries;
        state = subst (λ (s : State). StandsAt plan s (cue ∷ own)) (sym now) (let i : IsUpdating plan rec (cue ∷ own) = record { held = u.held; has = has; stamp = u.stamp; update = update-more plan cue own ∙ rw u.update refl; reply = silent } in i);
      };
    }

-- the update is answered
pub updating-ends : (plan : PutPlan) (m n : PutOp) (own : List Cue) (cue : Cue) (turn : Turn) (rec : RecordValue) (progress : Progress) → StandsForOwn plan m own → m.state ≡ at.Updating rec → n.state ≡ at.Replied progress → progress ≡ updating_progress → Carries plan n
    → is_update_answer cue ≡ true → is_tick cue ≡ false → turn ≡ turn_with [] (Some (told.Done rec.stamp)) → Does plan own cue turn n
updating-ends plan m n own cue turn rec progress h was now far carries served calm is =
    let u : IsUpdating plan rec own = subst (λ (s : State). StandsAt plan s own) was h.state in
    let has : first_has (cue ∷ own) ≡ Some u.held = has-more cue own ∙ rw u.has refl in
    let update : update_of plan (cue ∷ own) ≡ Some rec = update-more plan cue own ∙ rw u.update refl in
    let done : write_reply plan (cue ∷ own) ≡ Some (told.Done rec.stamp) = reply-more plan cue own ∙ rw (u.reply, u.update, served) refl in
    let tells : TellsPut plan (cue ∷ own) updating_progress = tells-at plan own cue updating_progress u.reply (tells-updating plan (cue ∷ own) u.held rec has update) in
    record {
      does = turn-now plan own cue turn [] (Some (told.Done rec.stamp)) u.reply is (sends-more plan cue own ∙ rw (u.reply, u.update, calm) refl) done;
      stands = record {
        carries = carries;
        state = subst (λ (s : State). StandsAt plan s (cue ∷ own)) (sym now) (let i : HasReplied plan progress (cue ∷ own) = record { reply = ap is_some done; told = subst (λ (p : Progress). TellsPut plan (cue ∷ own) p) (sym far) tells } in i);
      };
    }

-- the reply is there
pub replied-goes : (plan : PutPlan) (m n : PutOp) (own : List Cue) (cue : Cue) (turn : Turn) (progress : Progress) → StandsForOwn plan m own → m.state ≡ at.Replied progress → n.state ≡ at.Replied progress → Carries plan n → turn ≡ turn_with [] None → Does plan own cue turn n
replied-goes plan m n own cue turn progress h was now carries is =
    let r : HasReplied plan progress own = subst (λ (s : State). StandsAt plan s own) was h.state in
    record {
      does = turn-late plan own cue turn r.reply is;
      stands = record {
        carries = carries;
        state = subst (λ (s : State). StandsAt plan s (cue ∷ own)) (sym now) (let i : HasReplied plan progress (cue ∷ own) = record { reply = reply-stays plan cue own r.reply; told = rw (progress-after-reply (write_reply plan) (write_progress plan) own cue r.reply) r.told } in i);
      };
    }

-- ---- while clouds store

-- too few clouds have stored still
pub storing-goes : (plan : PutPlan) (m n : PutOp) (own : List Cue) (cue : Cue) (turn : Turn) (s t : Storing) → StandsForOwn plan m own → m.state ≡ at.Storing s → n.state ≡ at.Storing t → Carries plan n → t.stamp ≡ s.stamp → cloud_count plan.f plan.k ≤ 16
    → ((i : ℕ) → i < 16 → is_marked t.acked i ≡ (is_answer is_stored s.stamp i cue || is_marked s.acked i)) → length (marked_below t.acked (cloud_count plan.f plan.k)) < quorum_size plan.f plan.k
    → ((held : Option RecordValue) → IsStoring plan s own → turn ≡ turn_with (earlier_sends plan cue own (Some held)) None) → Does plan own cue turn n
storing-goes plan m n own cue turn s t h was now carries same within marks few is =
    let i : IsStoring plan s own = subst (λ (x : State). StandsAt plan x own) was h.state in
    let there : is_some (first_has own) ≡ true = ap is_some i.has in
    let has : first_has (cue ∷ own) ≡ Some i.held = has-more cue own ∙ rw i.has refl in
    let next : since_has (cue ∷ own) ≡ cue ∷ since_has own = since-more cue own ∙ rw there refl in
    let acks = marks-more plan s.stamp cue own s.acked t.acked there within i.acked marks in
    let low : length (acknowledging_clouds plan s.stamp (cue ∷ own)) < quorum_size plan.f plan.k = subst (λ (xs : List ℕ). length xs < quorum_size plan.f plan.k) acks few in
    let written : record_at plan (cue ∷ own) ≡ None = record-by plan (cue ∷ own) i.held s.stamp has i.stamp ∙ few-no-record plan (cue ∷ own) plan.value s.stamp i.value low in
    let stamped : is_some (stamp_upon plan.client i.held) ≡ true = ap is_some i.stamp in
    let silent : write_reply plan (cue ∷ own) ≡ None = reply-more plan cue own ∙ rw (i.reply, i.update, has, stamped) refl in
    record {
      does = turn-now plan own cue turn (earlier_sends plan cue own (Some i.held)) None i.reply (is i.held i) (sends-more plan cue own ∙ rw (i.reply, i.update, written) (ap (λ (o : Option (Option RecordValue)). earlier_sends plan cue own o) i.has)) silent;
      stands = record {
        carries = carries;
        state = subst (λ (x : State). StandsAt plan x (cue ∷ own)) (sym now) (let j : IsStoring plan t (cue ∷ own) = record {
          value = i.value;
          held = i.held;
          has = has;
          stamp = i.stamp ∙ ap Some (sym same);
          acked = λ c l. marks c l ∙ ap (λ (b : Bool). is_answer is_stored s.stamp c cue || b) (i.acked c l) ∙ ap (λ (since : List Cue). list_any (is_answer is_stored s.stamp c) since) (sym next) ∙ ap (λ (x : Timestamp). list_any (is_answer is_stored x c) (since_has (cue ∷ own))) (sym same);
          few = subst (λ (x : Timestamp). length (acknowledging_clouds plan x (cue ∷ own)) < quorum_size plan.f plan.k) (sym same) low;
          update = update-more plan cue own ∙ rw (i.update, written) refl;
          reply = silent;
        } in j);
      };
    }

-- this acknowledgement makes the quorum
pub storing-ends : (plan : PutPlan) (m n : PutOp) (own : List Cue) (cue : Cue) (turn : Turn) (s : Storing) (acked : Marks) (value : List ℕ) (rec : RecordValue) → StandsForOwn plan m own → m.state ≡ at.Storing s → n.state ≡ at.Updating rec → Carries plan n → plan.value ≡ Some value → cloud_count plan.f plan.k ≤ 16
    → ((i : ℕ) → i < 16 → is_marked acked i ≡ (is_answer is_stored s.stamp i cue || is_marked s.acked i)) → length (marked_below acked (cloud_count plan.f plan.k)) ≡ quorum_size plan.f plan.k
    → rec ≡ value_record s.stamp value plan.f plan.k (marked_below acked (cloud_count plan.f plan.k))
    → turn ≡ turn_with (update_with plan rec) None → Does plan own cue turn n
storing-ends plan m n own cue turn s acked value rec h was now carries of within marks enough made is =
    let i : IsStoring plan s own = subst (λ (x : State). StandsAt plan x own) was h.state in
    let there : is_some (first_has own) ≡ true = ap is_some i.has in
    let has : first_has (cue ∷ own) ≡ Some i.held = has-more cue own ∙ rw i.has refl in
    let acks = marks-more plan s.stamp cue own s.acked acked there within i.acked marks in
    let high : quorum_size plan.f plan.k ≤ length (acknowledging_clouds plan s.stamp (cue ∷ own)) = (let e = ap length acks in omega (arith, e, enough)) in
    let written : record_at plan (cue ∷ own) ≡ Some rec =
    record-by plan (cue ∷ own) i.held s.stamp has i.stamp ∙ ap (λ (o : Option (List ℕ)). record_with plan (cue ∷ own) o s.stamp) of ∙ enough-record plan (cue ∷ own) value s.stamp high
    ∙ ap Some (ap (λ (cs : List ℕ). value_record s.stamp value plan.f plan.k cs) (sym acks) ∙ sym made) in
    let stamped : is_some (stamp_upon plan.client i.held) ≡ true = ap is_some i.stamp in
    let silent : write_reply plan (cue ∷ own) ≡ None = reply-more plan cue own ∙ rw (i.reply, i.update, has, stamped) refl in
    record {
      does = turn-now plan own cue turn (update_with plan rec) None i.reply is (sends-more plan cue own ∙ rw (i.reply, i.update, written) refl) silent;
      stands = record {
        carries = carries;
        state = subst (λ (x : State). StandsAt plan x (cue ∷ own)) (sym now) (let j : IsUpdating plan rec (cue ∷ own) = record { held = i.held; has = has; stamp = stamped; update = update-more plan cue own ∙ rw (i.update, written) refl; reply = silent } in j);
      };
    }

-- an input that is no acknowledgement, while clouds store
pub storing-quiet : (plan : PutPlan) (m n : PutOp) (own : List Cue) (cue : Cue) (turn : Turn) (s : Storing) → StandsForOwn plan m own → m.state ≡ at.Storing s → n.state ≡ at.Storing s → Carries plan n → ((i : ℕ) → is_answer is_stored s.stamp i cue ≡ false)
    → ((held : Option RecordValue) → IsStoring plan s own → turn ≡ turn_with (earlier_sends plan cue own (Some held)) None) → Does plan own cue turn n
storing-quiet plan m n own cue turn s h was now carries calm is =
    let i : IsStoring plan s own = subst (λ (x : State). StandsAt plan x own) was h.state in
    let within = within-of plan m h.carries i.value in
    storing-goes plan m n own cue turn s s h was now carries refl within (λ c l. ap (λ (b : Bool). b || is_marked s.acked c) (sym (calm c))) (subst (λ (xs : List ℕ). length xs < quorum_size plan.f plan.k) (sym (marks-are plan s.stamp own s.acked within i.acked)) i.few) is

-- ---- the first record that is told

none-marked : (marks : Marks) (a n : ℕ) → ((i : ℕ) → is_marked marks i ≡ false) → filter (λ cloud. is_marked marks cloud) (range_with_len a n) ≡ []
none-marked marks a zero blank = refl
none-marked marks a (suc n) blank = let here : is_marked marks a ≡ false = blank a in rw here (none-marked marks (a + 1) n blank)

-- no timestamp is left
pub reading-exhausts : (plan : PutPlan) (m n : PutOp) (own : List Cue) (cue : Cue) (turn : Turn) (held : Option RecordValue) (marks : Marks) (progress : Progress) → StandsForOwn plan m own → m.state ≡ at.Reading → n.state ≡ at.Replied progress → progress ≡ storing_progress m.content marks → ((i : ℕ) → is_marked marks i ≡ false)
    → Carries plan n → has_of cue ≡ Some held → stamp_upon plan.client held ≡ None → turn ≡ turn_with [] (Some (told.Exhausted (stamp_of_record held))) → Does plan own cue turn n
reading-exhausts plan m n own cue turn held marks progress h was now far blank carries tells none is =
    let r : IsReading plan own = subst (λ (s : State). StandsAt plan s own) was h.state in
    let has : first_has (cue ∷ own) ≡ Some held = has-more cue own ∙ rw (r.has, tells) refl in
    let stamp : own_stamp plan (cue ∷ own) ≡ None = own-upon plan (cue ∷ own) held has ∙ none in
    let written : record_at plan (cue ∷ own) ≡ None = none-left plan (cue ∷ own) stamp in
    let update : update_of plan (cue ∷ own) ≡ None = update-more plan cue own ∙ rw (r.update, written) refl in
    let count : length (marked_below marks (cloud_count plan.f plan.k)) ≡ length (acknowledged_so_far plan (cue ∷ own) (own_stamp plan (cue ∷ own))) =
    ap length (none-marked marks 0 (cloud_count plan.f plan.k) blank) ∙ sym (ap (λ (o : Option Timestamp). length (acknowledged_so_far plan (cue ∷ own) o)) stamp) in
    let reached : TellsPut plan (cue ∷ own) (storing_progress m.content marks) = tells-at plan own cue (storing_progress m.content marks) r.reply (tells-storing plan m.content marks (cue ∷ own) held h.carries.value has update count) in
    let done : write_reply plan (cue ∷ own) ≡ Some (told.Exhausted (stamp_of_record held)) = reply-more plan cue own ∙ rw (r.reply, r.update, has, none) refl in
    record {
      does = turn-now plan own cue turn [] (Some (told.Exhausted (stamp_of_record held))) r.reply is (sends-more plan cue own ∙ rw (r.reply, r.update, written, r.has, tells) (ap (λ (o : Option Timestamp). puts_to plan plan.value o (range_with_len 0 (quorum_size plan.f plan.k))) stamp ∙ unsent plan.value)) done;
      stands = record {
        carries = carries;
        state = subst (λ (s : State). StandsAt plan s (cue ∷ own)) (sym now) (let i : HasReplied plan progress (cue ∷ own) = record { reply = ap is_some done; told = subst (λ (p : Progress). TellsPut plan (cue ∷ own) p) (sym far) reached } in i);
      };
    }
  where
    unsent : (value : Option (List ℕ)) → puts_to plan value None (range_with_len 0 (quorum_size plan.f plan.k)) ≡ []
    unsent None = refl
    unsent (Some v) = refl

-- a delete, at the first record
pub reading-deletes : (plan : PutPlan) (m n : PutOp) (own : List Cue) (cue : Cue) (turn : Turn) (held : Option RecordValue) (stamp : Timestamp) → StandsForOwn plan m own → m.state ≡ at.Reading → n.state ≡ at.Updating (tombstone stamp) → Carries plan n → plan.value ≡ None → has_of cue ≡ Some held → stamp_upon plan.client held ≡ Some stamp
    → turn ≡ turn_with (update_with plan (tombstone stamp)) None → Does plan own cue turn n
unfolding record_with
reading-deletes plan m n own cue turn held stamp h was now carries none tells upon is =
    let r : IsReading plan own = subst (λ (s : State). StandsAt plan s own) was h.state in
    let has : first_has (cue ∷ own) ≡ Some held = has-more cue own ∙ rw (r.has, tells) refl in
    let written : record_at plan (cue ∷ own) ≡ Some (tombstone stamp) = record-by plan (cue ∷ own) held stamp has upon ∙ ap (λ (o : Option (List ℕ)). record_with plan (cue ∷ own) o stamp) none in
    let stamped : is_some (stamp_upon plan.client held) ≡ true = ap is_some upon in
    let silent : write_reply plan (cue ∷ own) ≡ None = reply-more plan cue own ∙ rw (r.reply, r.update, has, stamped) refl in
    record {
      does = turn-now plan own cue turn (update_with plan (tombstone stamp)) None r.reply is (sends-more plan cue own ∙ rw (r.reply, r.update, written) refl) silent;
      stands = record {
        carries = carries;
        state = subst (λ (x : State). StandsAt plan x (cue ∷ own)) (sym now) (let j : IsUpdating plan (tombstone stamp) (cue ∷ own) = record { held = held; has = has; stamp = stamped; update = update-more plan cue own ∙ rw (r.update, written) refl; reply = silent } in j);
      };
    }

-- a put, at the first record
pub reading-stores : (plan : PutPlan) (m n : PutOp) (own : List Cue) (cue : Cue) (turn : Turn) (held : Option RecordValue) (s : Storing) → StandsForOwn plan m own → m.state ≡ at.Reading → n.state ≡ at.Storing s → Carries plan n → is_some plan.value ≡ true → 0 < quorum_size plan.f plan.k → has_of cue ≡ Some held → stamp_upon plan.client held ≡ Some s.stamp
    → ((i : ℕ) → is_marked s.acked i ≡ false) → turn ≡ turn_with (puts_to plan plan.value (Some s.stamp) (range_with_len 0 (quorum_size plan.f plan.k))) None → Does plan own cue turn n
reading-stores plan m n own cue turn held s h was now carries there some tells upon blank is =
    let r : IsReading plan own = subst (λ (x : State). StandsAt plan x own) was h.state in
    let has : first_has (cue ∷ own) ≡ Some held = has-more cue own ∙ rw (r.has, tells) refl in
    let since : since_has (cue ∷ own) ≡ [] = since-more cue own ∙ rw r.has refl in
    let acks : acknowledging_clouds plan s.stamp (cue ∷ own) ≡ [] = acks-none plan s.stamp (cue ∷ own) since in
    let low : length (acknowledging_clouds plan s.stamp (cue ∷ own)) < quorum_size plan.f plan.k = subst (λ (xs : List ℕ). length xs < quorum_size plan.f plan.k) (sym acks) some in
    let written : record_at plan (cue ∷ own) ≡ None = record-by plan (cue ∷ own) held s.stamp has upon ∙ few-no-record plan (cue ∷ own) plan.value s.stamp there low in
    let stamped : is_some (stamp_upon plan.client held) ≡ true = ap is_some upon in
    let silent : write_reply plan (cue ∷ own) ≡ None = reply-more plan cue own ∙ rw (r.reply, r.update, has, stamped) refl in
    record {
      does = turn-now plan own cue turn (puts_to plan plan.value (Some s.stamp) (range_with_len 0 (quorum_size plan.f plan.k))) None r.reply is (sends-more plan cue own ∙ rw (r.reply, r.update, written, r.has, tells) (ap (λ (o : Option Timestamp). puts_to plan plan.value o (range_with_len 0 (quorum_size plan.f plan.k))) (own-upon plan (cue ∷ own) held has ∙ upon))) silent;
      stands = record {
        carries = carries;
        state = subst (λ (x : State). StandsAt plan x (cue ∷ own)) (sym now) (let j : IsStoring plan s (cue ∷ own) = record {
          value = there;
          held = held;
          has = has;
          stamp = upon;
          acked = λ c l. blank c ∙ sym (ap (λ (xs : List Cue). list_any (is_answer is_stored s.stamp c) xs) since);
          few = low;
          update = update-more plan cue own ∙ rw (r.update, written) refl;
          reply = silent;
        } in j);
      };
    }

-- ---- inputs that change nothing

pub idle-goes : (plan : PutPlan) (m n : PutOp) (own : List Cue) (cue : Cue) (turn : Turn) → StandsForOwn plan m own → n.state ≡ m.state → Carries plan n → has_of cue ≡ None → is_tick cue ≡ false → is_update_answer cue ≡ false → ((stamp : Timestamp) (i : ℕ) → is_answer is_stored stamp i cue ≡ false)
    → turn ≡ turn_with [] None → Does plan own cue turn n
idle-goes plan m n own cue turn h same carries none still unserved calm is = by_state m.state refl
  where
    quiet : (x : List Out) → turn ≡ turn_with (if is_tick cue then x else []) None
    quiet x = is ∙ sym (ap (λ (b : Bool). turn_with (if b then x else []) None) still)

    by_state : (s : State) → m.state ≡ s → Does plan own cue turn n
    by_state at.Reading was = reading-goes plan m n own cue turn h was (same ∙ was) carries none (quiet (read_of plan))
    by_state (at.Updating rec) was = updating-goes plan m n own cue turn rec h was (same ∙ was) carries unserved (quiet (update_with plan rec))
    by_state (at.Replied p) was = replied-goes plan m n own cue turn p h was (same ∙ was) carries is
    by_state (at.Storing s) was = storing-quiet plan m n own cue turn s h was (same ∙ was) carries (calm s.stamp) (λ held i. quiet (puts_to plan plan.value (own_stamp plan own) (missing_so_far plan own (own_stamp plan own))))

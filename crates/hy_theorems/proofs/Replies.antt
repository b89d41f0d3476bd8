-- What operations reply, and how far they are.
use Rattle.std.proofs.Common.{◌≡◌, ℕ, Bool, true, false, cond, List, [], ◌∷◌, Option, Some, None, refl, sym, ap, ◌∙◌, inl, inr}
use Rattle.std.specs.Prelude.{◌⊎◌, nat_lt}
use Rattle.std.proofs.lemmas.Option.{none-some, same_Some, cond_some}
use Rattle.std.proofs.lemmas.Bool.{false≢true}
use Rattle.hy_record.specs.declared.action.Action.{Action}
use Rattle.hy_record.specs.declared.action.Action.TheVariants as asked
use Rattle.hy_record.specs.declared.action.Reply.{Reply}
use Rattle.hy_record.specs.declared.action.Reply.TheVariants as told
use Rattle.hy_record.specs.declared.action.Phase.TheVariants as phases
use Rattle.hy_record.specs.Stamp.{Timestamp}
use Rattle.hy_record.specs.Record.{RecordValue}
use Rattle.hy_meta.specs.Service.{stamp_of_record}
use Rattle.hy_meta.proofs.Rising.{cases_bool}
use Rattle.hy_order.specs.History.{is_reply_of, is_phase_of}
use Rattle.hy_record.specs.declared.turn.Cue.{Cue}
use Rattle.hy_protocol.specs.declared.plan.PutPlan.{PutPlan}
use Rattle.hy_protocol.specs.Write.{own_stamp, first_has, update_of, write_reply, write_reply_at}
use Rattle.hy_protocol.specs.Read.{Version, version_of, answer_for, answer_of, read_reply, has_fired, failed_attempts}
use Rattle.hy_record.specs.Record.{is_tombstone}
use Rattle.hy_protocol.specs.declared.plan.CollectPlan.{CollectPlan}
use Rattle.hy_protocol.specs.Collect.{first_olds, forget_of, collected_by, nothing_by, collect_reply}
use Rattle.hy_protocol.specs.Progress.{update_progress, progress_since_has, write_progress, version_progress, progress_of_version, read_progress, deletion_progress, progress_since_olds, collect_progress, progress_of}
use Rattle.hy_trace.specs.Deeds.{Params}
use Rattle.hy_protocol.specs.Operations.{write_plan, collect_plan, replied}
use Rattle.hy_protocol.specs.Inputs.{is_update_answer}
use Rattle.hy_trace.specs.Order.{is_done}
use Rattle.hy_trace.specs.Hashed.{IsInput}
use Rattle.hy_trace.proofs.Growth.{or-cases}
use Rattle.hy_record.specs.declared.message.MetaSay.{MetaSay}
use Rattle.hy_record.specs.declared.message.MetaSay.TheVariants as says
use Rattle.hy_record.specs.declared.turn.Cue.TheVariants as cues
use Rattle.hy_protocol.specs.Swap.{verdict_in, answered_by}
use Rattle.hy_theorems.proofs.Writes.{own-keeps, update-own, reply-cases, SwapReplies, swap-replied}

-- a get that finished
abbrev pub is_read_reply : Reply → Bool
is_read_reply (told.Value v s) = true
is_read_reply (told.Absent s) = true
is_read_reply (told.Done s) = false
is_read_reply (told.Exhausted s) = false
is_read_reply (told.Collected n) = false
is_read_reply (told.Swapped s) = false
is_read_reply (told.Changed s) = false

-- a write replies Done with its timestamp, or that there is none left
pub write-replies : (plan : PutPlan) (inputs : List Cue) (reply : Reply) → write_reply plan inputs ≡ Some reply →
    ((x : Timestamp) × (own_stamp plan inputs ≡ Some x) × (told.Done x ≡ reply)) ⊎ ((x : Timestamp) × (told.Exhausted x ≡ reply))
unfolding write_reply
write-replies plan [] reply is = absurd (none-some reply is)
write-replies plan (cue ∷ before) reply is =
    elim (or-cases (write_reply plan before) (write_reply_at plan cue before) reply is) [
      | inl was ↦ elim (write-replies plan before reply was) [ inl done ↦ inl (done.0, own-keeps plan cue before done.0 done.1, done.2) | inr limit ↦ inr limit ]
      | inr now ↦ elim (reply-cases plan cue before reply now.1) [
        | inl done ↦ inl (done.0.stamp, own-keeps plan cue before done.0.stamp (update-own plan before done.0 done.1), done.3)
        | inr limit ↦ inr (stamp_of_record limit.0, limit.1)
      ]
    ]

answer-read : (r : Option RecordValue) (since : List Cue) (reply : Reply) → answer_for r since ≡ Some reply → is_read_reply reply ≡ true
unfolding answer_for
answer-read None since reply is = ap is_read_reply (sym (same_Some (told.Absent (record { sn = 0; cid = 0 })) reply is))
answer-read (Some r) since reply is =
    elim (cases_bool (is_tombstone r.kind)) [
      | inl tomb ↦ ap is_read_reply (sym (same_Some (told.Absent r.stamp) reply (rw tomb at is)))
      | inr value ↦ ap is_read_reply (sym (cond_some _ (told.Value _ r.stamp) reply (rw value at is)).1)
    ]

-- a read replies a value or its absence
pub read-replies : (inputs : List Cue) (reply : Reply) → read_reply inputs ≡ Some reply → is_read_reply reply ≡ true
unfolding read_reply
read-replies [] reply is = absurd (none-some reply is)
read-replies (cue ∷ before) reply is =
    elim (or-cases (read_reply before) (answer_of (version_of (cue ∷ before))) reply is) [
      | inl was ↦ read-replies before reply was
      | inr now ↦ by_version (version_of (cue ∷ before)) now.1
    ]
  where
    by_version : (v : Option Version) → answer_of v ≡ Some reply → is_read_reply reply ≡ true
    by_version None e = absurd (none-some reply e)
    by_version (Some v) e = answer-read v.rec v.since reply e

-- a collection replies a count
pub collect-replies : (plan : CollectPlan) (inputs : List Cue) (reply : Reply) → collect_reply plan inputs ≡ Some reply → (n : ℕ) × (told.Collected n ≡ reply)
unfolding collect_reply
collect-replies plan [] reply is = absurd (none-some reply is)
collect-replies plan (cue ∷ before) reply is =
    elim (or-cases (collect_reply plan before) _ reply is) [
      | inl was ↦ collect-replies plan before reply was
      | inr now ↦ elim (or-cases (collected_by (forget_of plan before) cue) (nothing_by (first_olds (cue ∷ before))) reply now.1) [
        | inl all ↦ by_forget (forget_of plan before) all
        | inr none ↦ by_olds (first_olds (cue ∷ before)) none.1
      ]
    ]
  where
    by_forget : (o : Option (List Timestamp)) → collected_by o cue ≡ Some reply → (n : ℕ) × (told.Collected n ≡ reply)
    by_forget None e = absurd (none-some reply e)
    by_forget (Some ss) e = (_, (cond_some _ (told.Collected _) reply e).1)

    by_olds : (o : Option (List Timestamp)) → nothing_by o ≡ Some reply → (n : ℕ) × (told.Collected n ≡ reply)
    by_olds None e = absurd (none-some reply e)
    by_olds (Some []) e = (0, same_Some (told.Collected 0) reply e)
    by_olds (Some (s ∷ ss)) e = absurd (none-some reply e)

by-read : (key : List ℕ) (reply : Reply) → is_read_reply reply ≡ true → is_reply_of (asked.Get key) reply ≡ true
by-read key (told.Value v s) is = refl
by-read key (told.Absent s) is = refl
by-read key (told.Done s) is = is
by-read key (told.Exhausted s) is = is
by-read key (told.Collected n) is = is
by-read key (told.Swapped s) is = is
by-read key (told.Changed s) is = is

-- a swap replies that it did what was asked, that it found another record, or that no timestamp is left
verdict-fits : (key v : List ℕ) (e : Timestamp) (r : RecordValue) (say : MetaSay) (reply : Reply) → verdict_in r say ≡ Some reply → is_reply_of (asked.Swap key e v) reply ≡ true
verdict-fits key v e r (says.Swapped c o k s) reply is = ap (is_reply_of (asked.Swap key e v)) (sym (same_Some (told.Swapped r.stamp) reply is))
verdict-fits key v e r (says.Changed c o k s) reply is = ap (is_reply_of (asked.Swap key e v)) (sym (same_Some (told.Changed s) reply is))
verdict-fits key v e r (says.Has c o k h) reply is = absurd (none-some reply is)
verdict-fits key v e r (says.Applied c o k s) reply is = absurd (none-some reply is)
verdict-fits key v e r (says.Kept c o k s) reply is = absurd (none-some reply is)
verdict-fits key v e r (says.Fired c o k s) reply is = absurd (none-some reply is)
verdict-fits key v e r (says.OldList c o k ss) reply is = absurd (none-some reply is)
verdict-fits key v e r (says.Forgot c o k) reply is = absurd (none-some reply is)

answer-fits : (key v : List ℕ) (e : Timestamp) (r : RecordValue) (cue : Cue) (reply : Reply) → answered_by (Some r) cue ≡ Some reply → is_reply_of (asked.Swap key e v) reply ≡ true
answer-fits key v e r (cues.Meta say) reply is = verdict-fits key v e r say reply is
answer-fits key v e r (cues.Cloud answer) reply is = absurd (none-some reply is)
answer-fits key v e r cues.Tick reply is = absurd (none-some reply is)

swap-fits : (plan : PutPlan) (key v : List ℕ) (e : Timestamp) (inputs : List Cue) (reply : Reply) → SwapReplies plan e inputs reply → is_reply_of (asked.Swap key e v) reply ≡ true
swap-fits plan key v e inputs reply (inl a) = answer-fits key v e a.rec a.cue reply a.answer
swap-fits plan key v e inputs reply (inr (inl changed)) = ap (is_reply_of (asked.Swap key e v)) (sym changed.reply_is)
swap-fits plan key v e inputs reply (inr (inr ended)) = ap (is_reply_of (asked.Swap key e v)) (sym ended.reply_is)

-- a reply is one that the action can have
pub reply-fits : (p : Params) (c o : ℕ) (a : Action) (inputs : List Cue) (reply : Reply) → replied p.f p.k c o a inputs ≡ Some reply → is_reply_of a reply ≡ true
unfolding replied
reply-fits p c o (asked.Put key v) inputs reply is =
    elim (write-replies (write_plan p.f p.k c o key (Some v)) inputs reply is) [ inl done ↦ ap (is_reply_of (asked.Put key v)) (sym done.2) | inr limit ↦ ap (is_reply_of (asked.Put key v)) (sym limit.1) ]
reply-fits p c o (asked.Delete key) inputs reply is =
    elim (write-replies (write_plan p.f p.k c o key None) inputs reply is) [ inl done ↦ ap (is_reply_of (asked.Delete key)) (sym done.2) | inr limit ↦ ap (is_reply_of (asked.Delete key)) (sym limit.1) ]
reply-fits p c o (asked.Swap key e v) inputs reply is = swap-fits (write_plan p.f p.k c o key (Some v)) key v e inputs reply (swap-replied (write_plan p.f p.k c o key (Some v)) e inputs reply is)
reply-fits p c o (asked.Get key) inputs reply is = by-read key reply (read-replies inputs reply is)
reply-fits p c o (asked.Collect key) inputs reply is = ap (is_reply_of (asked.Collect key)) (sym (collect-replies (collect_plan p.f p.k c o key) inputs reply is).1)

-- a phase is one that the action can be in
pub phase-fits : (p : Params) (c o : ℕ) (a : Action) (inputs : List Cue) → is_phase_of a (progress_of p.f p.k c o a inputs).phase ≡ true
unfolding progress_of write_progress read_progress collect_progress
phase-fits p c o (asked.Put key v) inputs = by_has (first_has inputs)
  where
    by_update : (n : ℕ) (u : Option RecordValue) → is_phase_of (asked.Put key v) (update_progress (write_plan p.f p.k c n key (Some v)) inputs (Some v) u).phase ≡ true
    by_update n None = refl
    by_update n (Some r) = refl

    by_has : (h : Option (Option RecordValue)) → is_phase_of (asked.Put key v) (progress_since_has (write_plan p.f p.k c o key (Some v)) inputs h).phase ≡ true
    by_has None = refl
    by_has (Some held) = by_update o (update_of (write_plan p.f p.k c o key (Some v)) inputs)
phase-fits p c o (asked.Swap key e v) inputs = by_has (first_has inputs)
  where
    by_update : (n : ℕ) (u : Option RecordValue) → is_phase_of (asked.Swap key e v) (update_progress (write_plan p.f p.k c n key (Some v)) inputs (Some v) u).phase ≡ true
    by_update n None = refl
    by_update n (Some r) = refl

    by_has : (h : Option (Option RecordValue)) → is_phase_of (asked.Swap key e v) (progress_since_has (write_plan p.f p.k c o key (Some v)) inputs h).phase ≡ true
    by_has None = refl
    by_has (Some held) = by_update o (update_of (write_plan p.f p.k c o key (Some v)) inputs)
phase-fits p c o (asked.Delete key) inputs = by_has (first_has inputs)
  where
    by_has : (h : Option (Option RecordValue)) → is_phase_of (asked.Delete key) (progress_since_has (write_plan p.f p.k c o key None) inputs h).phase ≡ true
    by_has None = refl
    by_has (Some held) = refl
phase-fits p c o (asked.Get key) inputs = by_version (version_of inputs)
  where
    by_tests : (a b : Bool) → is_phase_of (asked.Get key) (cond a phases.Reread (cond b phases.Watch phases.Fetch)) ≡ true
    by_tests true b = refl
    by_tests false true = refl
    by_tests false false = refl

    by_record : (r : Option RecordValue) (since : List Cue) → is_phase_of (asked.Get key) (version_progress r since).phase ≡ true
    by_record None since = refl
    by_record (Some r) since = by_tests (has_fired r since) (nat_lt r.f (failed_attempts r since))

    by_version : (v : Option Version) → is_phase_of (asked.Get key) (progress_of_version v).phase ≡ true
    by_version None = refl
    by_version (Some v) = by_record v.rec v.since
phase-fits p c o (asked.Collect key) inputs = by_olds (first_olds inputs)
  where
    by_forget : (n : ℕ) (ss : List Timestamp) (o : Option (List Timestamp)) → is_phase_of (asked.Collect key) (deletion_progress (collect_plan p.f p.k c n key) inputs ss o).phase ≡ true
    by_forget n ss None = refl
    by_forget n ss (Some sent) = refl

    by_olds : (told_ : Option (List Timestamp)) → is_phase_of (asked.Collect key) (progress_since_olds (collect_plan p.f p.k c o key) inputs told_).phase ≡ true
    by_olds None = refl
    by_olds (Some ss) = by_forget o ss (forget_of (collect_plan p.f p.k c o key) inputs)

-- a write that replied Done was handed an answer to its update
pub done-heard : (plan : PutPlan) (inputs : List Cue) (reply : Reply) → write_reply plan inputs ≡ Some reply → is_done reply ≡ true → (cue : Cue) × IsInput inputs cue × (is_update_answer cue ≡ true)
unfolding write_reply
done-heard plan [] reply is done = absurd (none-some reply is)
done-heard plan (cue ∷ before) reply is done =
    elim (or-cases (write_reply plan before) (write_reply_at plan cue before) reply is) [
      | inl was ↦ (let h = done-heard plan before reply was done in (h.0, inr h.1, h.2))
      | inr now ↦ elim (reply-cases plan cue before reply now.1) [
        | inl answered ↦ (cue, inl refl, answered.2)
        | inr exhausted ↦ absurd (false≢true (ap is_done exhausted.1 ∙ done))
      ]
    ]

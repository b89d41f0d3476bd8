-- One more input of a swap, by what it is.
use Rattle.std.proofs.Common.{◌≡◌, ℕ, ◌<◌, Bool, true, false, List, [], ◌∷◌, length, Option, Some, None, refl, sym, ap, subst, ◌∙◌, arith}
use Rattle.std.specs.Prelude.{not, is_some, map, if◌then◌else◌}
use Rattle.std.specs.Option.{option_or, option_map}
use Rattle.std.proofs.lemmas.Bool.{false≢true}
use Rattle.std.proofs.lemmas.Option.{none-some}
use Rattle.hy_base.specs.Shape.{IsShape, quorum_size}
use Rattle.hy_record.specs.Stamp.{Timestamp, stamp_eq, next_stamp}
use Rattle.hy_record.specs.Record.{RecordValue}
use Rattle.hy_record.specs.declared.action.Phase.{Phase}
use Rattle.hy_record.specs.declared.action.Phase.TheVariants as phases
use Rattle.hy_record.specs.declared.action.Reply.{Reply}
use Rattle.hy_record.specs.declared.action.Reply.TheVariants as told
use Rattle.hy_record.specs.declared.message.MetaSay.TheVariants as says
use Rattle.hy_record.specs.declared.turn.Cue.{Cue}
use Rattle.hy_record.specs.declared.turn.Cue.TheVariants as cues
use Rattle.hy_record.proofs.Order.{stamp_eq-true}
use Rattle.hy_meta.specs.Service.{stamp_of_record}
use Rattle.hy_protocol.specs.declared.plan.PutPlan.{PutPlan}
use Rattle.hy_protocol.specs.Inputs.{has_of, addresses, inputs_for}
use Rattle.hy_protocol.specs.Write.{first_has, since_has, own_stamp, acknowledging_clouds, acknowledged_so_far, record_at, update_of, exhausted_by, write_reply, sends_by}
use Rattle.hy_protocol.specs.Swap.{answered_by, changed_by, swap_reply_at, swap_reply, swap_sends, expecting}
use Rattle.hy_protocol.specs.Progress as protocol
use Rattle.hy_protocol.specs.Progress.{write_progress, update_progress, progress_since_has}
use Rattle.hy_protocol.specs.Turns.{settled_progress, put_progress}
use Rattle.hy_operation.specs.Progress.{Tells}
use Rattle.hy_operation.specs.declared.issuer.Issuer.{Issuer}
use Rattle.hy_operation.specs.declared.progress.Progress.{Progress}
use Rattle.hy_operation.proofs.Inputs.{inputs-own, progress-before-reply}
use Rattle.hy_put.specs.Standing as puts
use Rattle.hy_put.proofs.Further.{has-more, since-more, update-more, reply-more, none-to-write, none-left, own-upon, record-own, few-no-record, acks-none}
use Rattle.hy_put.proofs.Told.{updating_progress, tells-updating}
use Rattle.hy_put.proofs.Updates.{update-made}
use Rattle.hy_client.specs.Swapping.{TellsSame, verdict_at, IsOpen, TellsSwap, StandsAt, StandsForOwn, WhereOpen}
use Rattle.hy_client.specs.declared.swap.SwapOp.{SwapOp}
use Rattle.hy_client.proofs.Swapping.{has-calm, progress-same}

-- ---- the definitions, one input further

pub swap-reply-more : (plan : PutPlan) (expected : Timestamp) (cue : Cue) (own : List Cue) → swap_reply plan expected (cue ∷ own) ≡ option_or (swap_reply plan expected own) (swap_reply_at plan expected cue own)
unfolding swap_reply
swap-reply-more plan expected cue own = refl

pub swap-sends-more : (plan : PutPlan) (expected : Timestamp) (cue : Cue) (own : List Cue)
    → swap_sends plan expected (cue ∷ own) ≡ (if is_some (swap_reply plan expected (cue ∷ own)) then [] else map (expecting expected) (sends_by plan cue own (update_of plan own) (record_at plan (cue ∷ own))))
unfolding swap_sends
swap-sends-more plan expected cue own = refl

-- where there is no reply yet, it comes by the verdict, or where no timestamp is left
pub reply-now : (plan : PutPlan) (expected : Timestamp) (cue : Cue) (own : List Cue) → swap_reply plan expected own ≡ None
    → swap_reply plan expected (cue ∷ own) ≡ option_or (verdict_at plan expected cue own) (exhausted_by plan (first_has (cue ∷ own)))
unfolding swap_reply_at
reply-now plan expected cue own none = swap-reply-more plan expected cue own ∙ rw none (regroup (answered_by (update_of plan own) cue) (changed_by expected (first_has (cue ∷ own))) (exhausted_by plan (first_has (cue ∷ own))))
  where
    regroup : (a b c : Option Reply) → option_or a (option_or b c) ≡ option_or (option_or a b) c
    regroup None b c = refl
    regroup (Some x) b c = refl

right : (a b : Option Reply) → option_or a b ≡ None → b ≡ None
right None b e = e
right (Some x) b e = absurd (none-some x (sym e))

-- so without a reply the record that was told is the expected one, and a timestamp is left
unmet : (plan : PutPlan) (expected : Timestamp) (own : List Cue) → swap_reply plan expected own ≡ None → option_or (changed_by expected (first_has own)) (exhausted_by plan (first_has own)) ≡ None
unfolding first_has swap_reply_at
unmet plan expected [] none = refl
unmet plan expected (cue ∷ own) none = right _ _ (right _ _ (sym (swap-reply-more plan expected cue own) ∙ none))

met : (plan : PutPlan) (expected : Timestamp) (own : List Cue) → swap_reply plan expected own ≡ None → changed_by expected (first_has own) ≡ None
met plan expected own none = left (changed_by expected (first_has own)) _ (unmet plan expected own none)
  where
    left : (a b : Option Reply) → option_or a b ≡ None → a ≡ None
    left None b e = refl
    left (Some x) b e = absurd (none-some x (sym e))

pub unexhausted : (plan : PutPlan) (expected : Timestamp) (own : List Cue) → swap_reply plan expected own ≡ None → exhausted_by plan (first_has own) ≡ None
unexhausted plan expected own none = right (changed_by expected (first_has own)) _ (unmet plan expected own none)

unsent : (plan : PutPlan) (own : List Cue) → first_has own ≡ None → update_of plan own ≡ None
unfolding update_of
unsent plan [] none = refl
unsent plan (cue ∷ own) none = rw (unsent plan own (before (first_has own) (sym (has-more cue own) ∙ none))) (none-to-write plan (cue ∷ own) none)
  where
    before : (o : Option (Option RecordValue)) → option_or o (has_of cue) ≡ None → o ≡ None
    before None e = refl
    before (Some held) e = absurd (none-some held (sym e))

-- ---- what the swap knows

pub opened : (plan : PutPlan) (expected : Timestamp) (m : SwapOp) (own : List Cue) → StandsForOwn plan expected m own → m.replied ≡ None → IsOpen plan expected m.put own
opened plan expected m own h none = subst (λ (o : Option Progress). StandsAt plan expected m.put o own) none h.state

-- how far the put is, and so the swap
pub put-progress-is : (plan : PutPlan) (handed own : List Cue) → inputs_for plan.client plan.op plan.key handed ≡ handed → TellsSame plan handed own → write_reply plan handed ≡ None → put_progress plan handed ≡ write_progress plan own
unfolding put_progress settled_progress
put-progress-is plan handed own each same none = ap (settled_progress (write_reply plan) (write_progress plan)) each ∙ settled handed none ∙ progress-same plan handed own same
  where
    before : (o p : Option Reply) → option_or o p ≡ None → o ≡ None
    before None p e = refl
    before (Some x) p e = absurd (none-some x (sym e))

    settled : (cs : List Cue) → write_reply plan cs ≡ None → settled_progress (write_reply plan) (write_progress plan) cs ≡ write_progress plan cs
    settled [] e = refl
    settled (cue ∷ cs) e = progress-before-reply (write_reply plan) (write_progress plan) cs cue (before (write_reply plan cs) _ (sym (reply-more plan cue cs) ∙ e))

-- and where the put replied at this input
pub put-progress-at : (plan : PutPlan) (handed own : List Cue) (cue : Cue) → inputs_for plan.client plan.op plan.key handed ≡ handed → addresses plan.client plan.op plan.key cue ≡ true → write_reply plan handed ≡ None → TellsSame plan (cue ∷ handed) (cue ∷ own)
    → put_progress plan (cue ∷ handed) ≡ write_progress plan (cue ∷ own)
unfolding put_progress
put-progress-at plan handed own cue each mine unended same =
    ap (settled_progress (write_reply plan) (write_progress plan)) (inputs-own plan.client plan.op plan.key handed cue mine ∙ ap (λ (cs : List Cue). cue ∷ cs) each)
    ∙ progress-before-reply (write_reply plan) (write_progress plan) handed cue unended ∙ progress-same plan (cue ∷ handed) (cue ∷ own) same

swap-settled : (plan : PutPlan) (expected : Timestamp) (own : List Cue) → swap_reply plan expected own ≡ None → settled_progress (swap_reply plan expected) (write_progress plan) own ≡ write_progress plan own
unfolding settled_progress
swap-settled plan expected [] none = refl
swap-settled plan expected (cue ∷ own) none = progress-before-reply (swap_reply plan expected) (write_progress plan) own cue (before (swap_reply plan expected own) _ (sym (swap-reply-more plan expected cue own) ∙ none))
  where
    before : (o p : Option Reply) → option_or o p ≡ None → o ≡ None
    before None p e = refl
    before (Some x) p e = absurd (none-some x (sym e))

-- without a reply
pub open-told : (plan : PutPlan) (expected : Timestamp) (m : SwapOp) (own : List Cue) (progress : Progress) → StandsForOwn plan expected m own → m.replied ≡ None
    → ((p : PutPlan) (handed : List Cue) → puts.StandsForInputs p m.put handed → Tells progress (put_progress p handed)) → TellsSwap plan expected own progress
open-told plan expected m own progress h none tells =
    let o = opened plan expected m own h none in
    subst (λ (p : protocol.Progress). Tells progress p) (put-progress-is plan o.handed own o.each o.same o.unended ∙ sym (swap-settled plan expected own o.reply)) (tells plan o.handed o.stands)

-- its phase is that of the put
phase-is : (plan : PutPlan) (expected : Timestamp) (m : SwapOp) (own : List Cue) (phase : Phase) → StandsForOwn plan expected m own → m.replied ≡ None
    → ((p : PutPlan) (handed : List Cue) → puts.StandsForInputs p m.put handed → phase ≡ (put_progress p handed).phase) → phase ≡ (write_progress plan own).phase
phase-is plan expected m own phase h none is =
    let o = opened plan expected m own h none in
    is plan o.handed o.stands ∙ ap (λ (p : protocol.Progress). p.phase) (put-progress-is plan o.handed own o.each o.same o.unended)

abbrev pub reads : Phase → Bool
reads phases.Read = true
reads phases.Store = false
reads phases.Update = false
reads phases.Fetch = false
reads phases.Watch = false
reads phases.Reread = false
reads phases.Olds = false
reads phases.Drop = false
reads phases.Forget = false

abbrev pub updates : Phase → Bool
updates phases.Update = true
updates phases.Read = false
updates phases.Store = false
updates phases.Fetch = false
updates phases.Watch = false
updates phases.Reread = false
updates phases.Olds = false
updates phases.Drop = false
updates phases.Forget = false

reads-not : (phase : Phase) → (phase ≡ phases.Read → ⊥) → reads phase ≡ false
reads-not phases.Read other = absurd (other refl)
reads-not phases.Store other = refl
reads-not phases.Update other = refl
reads-not phases.Fetch other = refl
reads-not phases.Watch other = refl
reads-not phases.Reread other = refl
reads-not phases.Olds other = refl
reads-not phases.Drop other = refl
reads-not phases.Forget other = refl

updates-not : (phase : Phase) → (phase ≡ phases.Update → ⊥) → updates phase ≡ false
updates-not phases.Update other = absurd (other refl)
updates-not phases.Read other = refl
updates-not phases.Store other = refl
updates-not phases.Fetch other = refl
updates-not phases.Watch other = refl
updates-not phases.Reread other = refl
updates-not phases.Olds other = refl
updates-not phases.Drop other = refl
updates-not phases.Forget other = refl

reads-is : (plan : PutPlan) (own : List Cue) → reads (write_progress plan own).phase ≡ not (is_some (first_has own))
unfolding write_progress
reads-is plan own = by_has (first_has own)
  where
    by_update : (value : Option (List ℕ)) (o : Option RecordValue) → reads (update_progress plan own value o).phase ≡ false
    by_update None o = refl
    by_update (Some v) (Some r) = refl
    by_update (Some v) None = refl

    by_has : (o : Option (Option RecordValue)) → reads (progress_since_has plan own o).phase ≡ not (is_some o)
    by_has None = refl
    by_has (Some held) = by_update plan.value (update_of plan own)

updates-is : (plan : PutPlan) (own : List Cue) → is_some plan.value ≡ true → updates (write_progress plan own).phase ≡ is_some (update_of plan own)
unfolding write_progress
updates-is plan own there = by_has (first_has own) refl
  where
    by_update : (value : Option (List ℕ)) (o : Option RecordValue) → is_some value ≡ true → updates (update_progress plan own value o).phase ≡ is_some o
    by_update None o e = absurd (false≢true e)
    by_update (Some v) (Some r) e = refl
    by_update (Some v) None e = refl

    by_has : (o : Option (Option RecordValue)) → first_has own ≡ o → updates (progress_since_has plan own o).phase ≡ is_some (update_of plan own)
    by_has None has = sym (ap is_some (unsent plan own has))
    by_has (Some held) has = by_update plan.value (update_of plan own) there

-- whether no record was told, and whether the swap was sent
module _ (m : SwapOp) (phase : Phase) (is : (p : PutPlan) (handed : List Cue) → puts.StandsForInputs p m.put handed → phase ≡ (put_progress p handed).phase) where
  pub is-reading : phase ≡ phases.Read → WhereOpen m (λ plan expected own. true ≡ not (is_some (first_has own)))
  is-reading at = λ none plan expected own h. sym (ap reads at) ∙ ap reads (phase-is plan expected m own phase h none is) ∙ reads-is plan own

  pub is-past-reading : (phase ≡ phases.Read → ⊥) → WhereOpen m (λ plan expected own. false ≡ not (is_some (first_has own)))
  is-past-reading other = λ none plan expected own h. sym (reads-not phase other) ∙ ap reads (phase-is plan expected m own phase h none is) ∙ reads-is plan own

  pub is-updating : phase ≡ phases.Update → WhereOpen m (λ plan expected own. true ≡ is_some (update_of plan own))
  is-updating at = λ none plan expected own h. sym (ap updates at) ∙ ap updates (phase-is plan expected m own phase h none is) ∙ updates-is plan own h.value

  pub is-not-updating : (phase ≡ phases.Update → ⊥) → WhereOpen m (λ plan expected own. false ≡ is_some (update_of plan own))
  is-not-updating other = λ none plan expected own h. sym (updates-not phase other) ∙ ap updates (phase-is plan expected m own phase h none is) ∙ updates-is plan own h.value

-- ---- the verdict

-- an answer that tells no record
verdict-told : (plan : PutPlan) (expected : Timestamp) (cue : Cue) (own : List Cue) → has_of cue ≡ None → swap_reply plan expected own ≡ None → verdict_at plan expected cue own ≡ answered_by (update_of plan own) cue
verdict-told plan expected cue own no_record none =
    ap (λ (o : Option Reply). option_or (answered_by (update_of plan own) cue) o) (ap (changed_by expected) (has-calm cue own no_record) ∙ met plan expected own none) ∙ alone (answered_by (update_of plan own) cue)
  where
    alone : (o : Option Reply) → option_or o None ≡ o
    alone None = refl
    alone (Some x) = refl

-- one that is no answer on the swap
pub verdict-silent : (m : SwapOp) (cue : Cue) → has_of cue ≡ None → ((r : RecordValue) → answered_by (Some r) cue ≡ None) → WhereOpen m (λ plan expected own. None ≡ verdict_at plan expected cue own)
verdict-silent m cue no_record silent = λ none plan expected own h. sym (verdict-told plan expected cue own no_record (opened plan expected m own h none).reply ∙ by_update (update_of plan own))
  where
    by_update : (o : Option RecordValue) → answered_by o cue ≡ None
    by_update None = refl
    by_update (Some r) = silent r

pub verdict-swapped : (m : SwapOp) (c o : ℕ) (k : List ℕ) (s : Timestamp) (result : Option Reply) → WhereOpen m (λ plan expected own. result ≡ option_map (λ r. told.Swapped r.stamp) (update_of plan own))
    → WhereOpen m (λ plan expected own. result ≡ verdict_at plan expected (cues.Meta (says.Swapped c o k s)) own)
verdict-swapped m c o k s result is = λ none plan expected own h. is none plan expected own h ∙ sym (verdict-told plan expected (cues.Meta (says.Swapped c o k s)) own refl (opened plan expected m own h none).reply ∙ by_update (update_of plan own))
  where
    by_update : (u : Option RecordValue) → answered_by u (cues.Meta (says.Swapped c o k s)) ≡ option_map (λ r. told.Swapped r.stamp) u
    by_update None = refl
    by_update (Some r) = refl

pub verdict-changed : (m : SwapOp) (c o : ℕ) (k : List ℕ) (s : Timestamp) (result : Option Reply) → WhereOpen m (λ plan expected own. result ≡ option_map (λ r. told.Changed s) (update_of plan own))
    → WhereOpen m (λ plan expected own. result ≡ verdict_at plan expected (cues.Meta (says.Changed c o k s)) own)
verdict-changed m c o k s result is = λ none plan expected own h. is none plan expected own h ∙ sym (verdict-told plan expected (cues.Meta (says.Changed c o k s)) own refl (opened plan expected m own h none).reply ∙ by_update (update_of plan own))
  where
    by_update : (u : Option RecordValue) → answered_by u (cues.Meta (says.Changed c o k s)) ≡ option_map (λ r. told.Changed s) u
    by_update None = refl
    by_update (Some r) = refl

-- a record that is told
verdict-has : (plan : PutPlan) (expected : Timestamp) (own : List Cue) (c o : ℕ) (k : List ℕ) (held : Option RecordValue) → swap_reply plan expected own ≡ None
    → verdict_at plan expected (cues.Meta (says.Has c o k held)) own ≡ (if is_some (first_has own) then None else changed_by expected (Some held))
verdict-has plan expected own c o k held none = rw (unanswered (update_of plan own), has-more (cues.Meta (says.Has c o k held)) own) (by_has (first_has own) (met plan expected own none))
  where
    unanswered : (u : Option RecordValue) → answered_by u (cues.Meta (says.Has c o k held)) ≡ None
    unanswered None = refl
    unanswered (Some r) = refl

    by_has : (first : Option (Option RecordValue)) → changed_by expected first ≡ None → changed_by expected (option_or first (Some held)) ≡ (if is_some first then None else changed_by expected (Some held))
    by_has None e = refl
    by_has (Some earlier) e = e

pub flip : (b c : Bool) → b ≡ not c → c ≡ not b
flip true true e = absurd (false≢true (sym e))
flip true false e = refl
flip false true e = refl
flip false false e = absurd (false≢true e)

-- a later record, the expected one, and another
module _ (m : SwapOp) (c o : ℕ) (k : List ℕ) (held : Option RecordValue) (awaits : Bool) (is : WhereOpen m (λ plan expected own. awaits ≡ not (is_some (first_has own)))) where
  pub later-record : awaits ≡ false → WhereOpen m (λ plan expected own. None ≡ verdict_at plan expected (cues.Meta (says.Has c o k held)) own)
  later-record late none plan expected own h =
      let there : is_some (first_has own) ≡ true = flip awaits (is_some (first_has own)) (is none plan expected own h) ∙ ap not late in
      sym (verdict-has plan expected own c o k held (opened plan expected m own h none).reply ∙ rw there refl)

  pub expected-record : awaits ≡ true → stamp_eq (stamp_of_record held) m.expected ≡ true → WhereOpen m (λ plan expected own. None ≡ verdict_at plan expected (cues.Meta (says.Has c o k held)) own)
  expected-record first same none plan expected own h =
      let missing : is_some (first_has own) ≡ false = flip awaits (is_some (first_has own)) (is none plan expected own h) ∙ ap not first in
      let met_it : stamp_eq (stamp_of_record held) expected ≡ true = subst (λ (t : Timestamp). stamp_eq (stamp_of_record held) t ≡ true) h.seeks same in
      sym (verdict-has plan expected own c o k held (opened plan expected m own h none).reply ∙ rw (missing, met_it) refl)

  pub other-record : awaits ≡ true → stamp_eq (stamp_of_record held) m.expected ≡ false → WhereOpen m (λ plan expected own. Some (told.Changed (stamp_of_record held)) ≡ verdict_at plan expected (cues.Meta (says.Has c o k held)) own)
  other-record first other none plan expected own h =
      let missing : is_some (first_has own) ≡ false = flip awaits (is_some (first_has own)) (is none plan expected own h) ∙ ap not first in
      let unmet_it : stamp_eq (stamp_of_record held) expected ≡ false = subst (λ (t : Timestamp). stamp_eq (stamp_of_record held) t ≡ false) h.seeks other in
      sym (verdict-has plan expected own c o k held (opened plan expected m own h none).reply ∙ rw (missing, unmet_it) refl)

-- the timestamp of the record that was sent is the next one upon the expected one
sent-stamp : (plan : PutPlan) (expected : Timestamp) (own : List Cue) (r : RecordValue) → IsShape plan.f plan.k → is_some plan.value ≡ true → swap_reply plan expected own ≡ None → update_of plan own ≡ Some r → next_stamp expected plan.client ≡ Some r.stamp
sent-stamp plan expected own r shape there none sent = by_has (first_has own) refl (met plan expected own none)
  where
    own-of : (value : Option (List ℕ)) → plan.value ≡ value → is_some value ≡ true → own_stamp plan own ≡ Some r.stamp
    own-of None of e = absurd (false≢true e)
    own-of (Some v) of e = (update-made plan v own r shape of sent).stamp

    by_test : (held : Option RecordValue) (b : Bool) → stamp_eq (stamp_of_record held) expected ≡ b → (if b then None else Some (told.Changed (stamp_of_record held))) ≡ None → stamp_of_record held ≡ expected
    by_test held true same e = stamp_eq-true (stamp_of_record held) expected same
    by_test held false same e = absurd (none-some (told.Changed (stamp_of_record held)) (sym e))

    by_has : (o : Option (Option RecordValue)) → first_has own ≡ o → changed_by expected o ≡ None → next_stamp expected plan.client ≡ Some r.stamp
    by_has None has e = absurd (none-some r (sym (unsent plan own has) ∙ sent))
    by_has (Some held) has e = ap (λ (t : Timestamp). next_stamp t plan.client) (sym (by_test held (stamp_eq (stamp_of_record held) expected) refl e)) ∙ sym (own-upon plan own held has) ∙ own-of plan.value refl there

pub done-told : (m : SwapOp) (after : Option Timestamp) (awaits : Bool) → WhereOpen m (λ plan expected own. awaits ≡ is_some (update_of plan own)) → awaits ≡ true → after ≡ next_stamp m.expected m.issuer.client
    → WhereOpen m (λ plan expected own. option_map (λ t. told.Swapped t) after ≡ option_map (λ r. told.Swapped r.stamp) (update_of plan own))
done-told m after awaits is there next none plan expected own h = by_update (update_of plan own) refl (sym (is none plan expected own h) ∙ there)
  where
    by_update : (u : Option RecordValue) → update_of plan own ≡ u → is_some u ≡ true → option_map (λ t. told.Swapped t) after ≡ option_map (λ r. told.Swapped r.stamp) u
    by_update None sent e = absurd (false≢true e)
    by_update (Some r) sent e =
        let stamp : after ≡ Some r.stamp = next ∙ ap (λ (t : Timestamp). next_stamp t m.issuer.client) h.seeks ∙ ap (λ (i : Issuer). next_stamp expected i.client) h.issuer ∙ sent-stamp plan expected own r h.shape h.value (opened plan expected m own h none).reply sent in
        rw stamp refl

-- how far the swap is at the verdict: where it found another record, and where it was sent
pub told-at-first : (m : SwapOp) (need : ℕ) (awaits : Bool) → WhereOpen m (λ plan expected own. awaits ≡ not (is_some (first_has own))) → awaits ≡ true → need ≡ m.quorum
    → (cue : Cue) (reply : Reply) → WhereOpen m (λ plan expected own. verdict_at plan expected cue own ≡ Some reply → Tells (record { phase = phases.Store; have = 0; need = need }) (write_progress plan (cue ∷ own)))
unfolding write_progress acknowledging_clouds
told-at-first m need awaits is first count cue reply none plan expected own h verdict = by_first (first_has own) refl (flip awaits (is_some (first_has own)) (is none plan expected own h) ∙ ap not first)
  where
    nothing : first_has own ≡ None → since_has (cue ∷ own) ≡ []
    nothing before = since-more cue own ∙ rw before refl

    acked : first_has own ≡ None → (o : Option Timestamp) → length (acknowledged_so_far plan (cue ∷ own) o) ≡ 0
    acked before None = refl
    acked before (Some stamp) = ap length (acks-none plan stamp (cue ∷ own) (nothing before))

    few : 0 < quorum_size plan.f plan.k
    few = let some = h.shape.some in omega (arith, some)

    unwritten : first_has own ≡ None → (o : Option Timestamp) → own_stamp plan (cue ∷ own) ≡ o → record_at plan (cue ∷ own) ≡ None
    unwritten before None stamp = none-left plan (cue ∷ own) stamp
    unwritten before (Some t) stamp = record-own plan (cue ∷ own) t stamp ∙ few-no-record plan (cue ∷ own) plan.value t h.value (subst (λ (n : ℕ). n < quorum_size plan.f plan.k) (sym (acked before (Some t))) few)

    unsent-still : first_has own ≡ None → update_of plan (cue ∷ own) ≡ None
    unsent-still before = update-more plan cue own ∙ rw (unsent plan own before) (unwritten before (own_stamp plan (cue ∷ own)) refl)

    changed : first_has own ≡ None → changed_by expected (first_has (cue ∷ own)) ≡ Some reply
    changed before = rw (unsent plan own before) at verdict

    by_value : (value : Option (List ℕ)) → is_some value ≡ true → first_has own ≡ None → Tells (record { phase = phases.Store; have = 0; need = need }) (update_progress plan (cue ∷ own) value None)
    by_value None e before = absurd (false≢true e)
    by_value (Some v) e before = record { phase = refl; have = sym (acked before (own_stamp plan (cue ∷ own))); need = count ∙ h.quorum }

    by_has : first_has own ≡ None → (o : Option (Option RecordValue)) → first_has (cue ∷ own) ≡ o → changed_by expected o ≡ Some reply → Tells (record { phase = phases.Store; have = 0; need = need }) (progress_since_has plan (cue ∷ own) o)
    by_has before None has e = absurd (none-some reply e)
    by_has before (Some held) has e = rw (unsent-still before) (by_value plan.value h.value before)

    by_first : (o : Option (Option RecordValue)) → first_has own ≡ o → is_some o ≡ false → Tells (record { phase = phases.Store; have = 0; need = need }) (progress_since_has plan (cue ∷ own) (first_has (cue ∷ own)))
    by_first None before e = by_has before (first_has (cue ∷ own)) refl (changed before)
    by_first (Some held) before e = absurd (false≢true (sym e))

pub told-at-answer : (m : SwapOp) (awaits : Bool) → WhereOpen m (λ plan expected own. awaits ≡ not (is_some (first_has own))) → awaits ≡ false
    → (cue : Cue) (reply : Reply) → WhereOpen m (λ plan expected own. verdict_at plan expected cue own ≡ Some reply → Tells updating_progress (write_progress plan (cue ∷ own)))
told-at-answer m awaits is late cue reply none plan expected own h verdict = by_first (first_has own) refl (flip awaits (is_some (first_has own)) (is none plan expected own h) ∙ ap not late)
  where
    o : IsOpen plan expected m.put own
    o = opened plan expected m own h none

    has-still : (held : Option RecordValue) → first_has own ≡ Some held → first_has (cue ∷ own) ≡ Some held
    has-still held has = has-more cue own ∙ rw has refl

    by_update : (held : Option RecordValue) → first_has (cue ∷ own) ≡ Some held → (u : Option RecordValue) → update_of plan own ≡ u → option_or (answered_by u cue) None ≡ Some reply → Tells updating_progress (write_progress plan (cue ∷ own))
    by_update held has None sent e = absurd (none-some reply e)
    by_update held has (Some r) sent e = tells-updating plan (cue ∷ own) held r has (update-more plan cue own ∙ rw sent refl)

    by_first : (first : Option (Option RecordValue)) → first_has own ≡ first → is_some first ≡ true → Tells updating_progress (write_progress plan (cue ∷ own))
    by_first None has e = absurd (false≢true e)
    by_first (Some held) has e =
        let unchanged : changed_by expected (first_has (cue ∷ own)) ≡ None = ap (changed_by expected) (has-still held has ∙ sym has) ∙ met plan expected own o.reply in
        by_update held (has-still held has) (update_of plan own) refl (rw unchanged at verdict)

-- A step of a swap: after its reply, at an answer on an update, at the service's verdict, and at an input that its put is handed.
use Rattle.std.proofs.Common.{◌≡◌, true, false, List, [], ◌∷◌, Option, Some, None, Result, Ok, Err, refl, sym, ap, subst, ◌∙◌}
use Rattle.std.specs.Prelude.{is_some, map, IfOk, OnOk, OnErr}
use Rattle.std.specs.Option.{option_or}
use Rattle.std.proofs.lemmas.Bool.{false≢true}
use Rattle.hy_base.specs.declared.failure.NoMemory.{NoMemory}
use Rattle.hy_base.specs.Shape.{IsShape, quorum_size}
use Rattle.hy_record.specs.Stamp.{Timestamp}
use Rattle.hy_record.specs.Record.{RecordValue}
use Rattle.hy_record.specs.declared.action.Reply.{Reply}
use Rattle.hy_record.specs.declared.message.MetaSay.TheVariants as says
use Rattle.hy_record.specs.declared.turn.Cue.{Cue}
use Rattle.hy_record.specs.declared.turn.Cue.TheVariants as cues
use Rattle.hy_record.specs.declared.turn.Out.{Out}
use Rattle.hy_record.specs.declared.turn.Turn.{Turn}
use Rattle.hy_protocol.specs.declared.plan.PutPlan.{PutPlan}
use Rattle.hy_protocol.specs.Inputs.{is_update_answer, addresses, inputs_for}
use Rattle.hy_protocol.specs.Write.{first_has, record_at, update_of, exhausted_by, done_by, write_reply, write_sends, sends_by}
use Rattle.hy_protocol.specs.Swap.{answered_by, swap_reply, swap_sends, expecting}
use Rattle.hy_protocol.specs.Progress as protocol
use Rattle.hy_protocol.specs.Progress.{write_progress}
use Rattle.hy_protocol.specs.Turns.{quiet_turn, own_turn, put_turn, swap_turn, turn_of, settled_progress, put_progress, swap_progress}
use Rattle.hy_operation.specs.Progress.{Tells}
use Rattle.hy_operation.specs.declared.issuer.Issuer.{Issuer}
use Rattle.hy_operation.specs.declared.progress.Progress.{Progress}
use Rattle.hy_operation.proofs.Inputs.{inputs-own, inputs-foreign, turn-own, turn-foreign, turn-before-reply, turn-after-reply, progress-before-reply, progress-after-reply}
use Rattle.hy_put.specs.Standing as puts
use Rattle.hy_put.specs.declared.put.PutOp.{PutOp}
use Rattle.hy_put.proofs.Further.{turn_with, reply-more, sends-more}
use Rattle.hy_client.specs.Swapping.{TellsSame, verdict_at, IsOpen, TellsSwap, HasReplied, StandsAt, StandsForOwn, WhereOpen, IsFor, Takes, Passes, StandsForInputs}
use Rattle.hy_client.specs.declared.swap.SwapOp.{SwapOp}
use Rattle.hy_client.proofs.Swapping.{IsCalm, has-calm, same-grows, same-calm, sends-same, sends-calm}
use Rattle.hy_client.proofs.Swaps.{swap-reply-more, swap-sends-more, reply-now, unexhausted, opened, put-progress-at, verdict-silent}

-- what no step changes
pub record Keeps (m n : SwapOp) : Type 0 where
  pub issuer : n.issuer ≡ m.issuer
  pub seeks : n.expected ≡ m.expected
  pub quorum : n.quorum ≡ m.quorum

stand : (plan : PutPlan) (expected : Timestamp) (m n : SwapOp) (own later : List Cue) → StandsForOwn plan expected m own → Keeps m n → StandsAt plan expected n.put n.replied later → StandsForOwn plan expected n later
stand plan expected m n own later h keeps state = record {
  issuer = keeps.issuer ∙ h.issuer;
  seeks = keeps.seeks ∙ h.seeks;
  shape = h.shape;
  value = h.value;
  quorum = keeps.quorum ∙ h.quorum;
  state = state;
}

stand-open : (plan : PutPlan) (expected : Timestamp) (m n : SwapOp) (own later : List Cue) → StandsForOwn plan expected m own → Keeps m n → n.replied ≡ None → IsOpen plan expected n.put later → StandsForOwn plan expected n later
stand-open plan expected m n own later h keeps none o = stand plan expected m n own later h keeps (subst (λ (r : Option Progress). StandsAt plan expected n.put r later) (sym none) o)

stand-replied : (plan : PutPlan) (expected : Timestamp) (m n : SwapOp) (own later : List Cue) (progress : Progress) → StandsForOwn plan expected m own → Keeps m n → n.replied ≡ Some progress → HasReplied plan expected progress later → StandsForOwn plan expected n later
stand-replied plan expected m n own later progress h keeps there r = stand plan expected m n own later h keeps (subst (λ (o : Option Progress). StandsAt plan expected n.put o later) (sym there) r)

-- ---- after the reply

pub unreplied : (o : Option Progress) → is_some o ≡ false → o ≡ None
unreplied None e = refl
unreplied (Some progress) e = absurd (false≢true (sym e))

reply-kept : (plan : PutPlan) (expected : Timestamp) (cue : Cue) (own : List Cue) → is_some (swap_reply plan expected own) ≡ true → is_some (swap_reply plan expected (cue ∷ own)) ≡ true
reply-kept plan expected cue own there = ap is_some (swap-reply-more plan expected cue own) ∙ kept (swap_reply plan expected own) _ there
  where
    kept : (o p : Option Reply) → is_some o ≡ true → is_some (option_or o p) ≡ true
    kept None p e = absurd (false≢true e)
    kept (Some x) p e = refl

pub late : (m : SwapOp) (cue : Cue) (turn : Turn) → is_some m.replied ≡ true → turn ≡ quiet_turn → Takes m m cue (Ok turn)
late m cue turn there is own_input plan expected own h = by_state m.replied refl there
  where
    by_state : (o : Option Progress) → m.replied ≡ o → is_some o ≡ true → (turn ≡ own_turn (swap_sends plan expected) (swap_reply plan expected) (cue ∷ own)) × StandsForOwn plan expected m (cue ∷ own)
    by_state None state e = absurd (false≢true e)
    by_state (Some progress) state e =
        let r : HasReplied plan expected progress own = subst (λ (o : Option Progress). StandsAt plan expected m.put o own) state h.state in
        let still = reply-kept plan expected cue own r.reply in
        let sent : swap_sends plan expected (cue ∷ own) ≡ [] = swap-sends-more plan expected cue own ∙ rw still refl in
        let after : HasReplied plan expected progress (cue ∷ own) = record {
          reply = still;
          told = subst (λ (p : protocol.Progress). Tells progress p) (sym (progress-after-reply (swap_reply plan expected) (write_progress plan) own cue r.reply)) r.told;
        } in (
          is ∙ ap (λ (s : List Out). turn_with s None) (sym sent) ∙ sym (turn-after-reply (swap_sends plan expected) (swap_reply plan expected) own cue r.reply),
          stand-replied plan expected m m own (cue ∷ own) progress h (record { issuer = refl; seeks = refl; quorum = refl }) state after,
        )

-- ---- the turn where there was no reply

-- it comes now
turn-replies : (plan : PutPlan) (expected : Timestamp) (cue : Cue) (own : List Cue) (turn : Turn) (reply : Reply) → swap_reply plan expected own ≡ None → swap_reply plan expected (cue ∷ own) ≡ Some reply → turn ≡ turn_with [] (Some reply)
    → turn ≡ own_turn (swap_sends plan expected) (swap_reply plan expected) (cue ∷ own)
turn-replies plan expected cue own turn reply none now is =
    let sent : swap_sends plan expected (cue ∷ own) ≡ [] = swap-sends-more plan expected cue own ∙ rw now refl in
    is ∙ ap (λ (s : List Out). turn_with s (Some reply)) (sym sent) ∙ ap (λ (r : Option Reply). turn_with (swap_sends plan expected (cue ∷ own)) r) (sym now) ∙ sym (turn-before-reply (swap_sends plan expected) (swap_reply plan expected) own cue none)

-- it does not
turn-sends : (plan : PutPlan) (expected : Timestamp) (cue : Cue) (own : List Cue) (turn : Turn) (sent : List Out) → swap_reply plan expected own ≡ None → swap_reply plan expected (cue ∷ own) ≡ None
    → map (expecting expected) (sends_by plan cue own (update_of plan own) (record_at plan (cue ∷ own))) ≡ sent → turn ≡ turn_with sent None → turn ≡ own_turn (swap_sends plan expected) (swap_reply plan expected) (cue ∷ own)
turn-sends plan expected cue own turn sent none now are is =
    let sends : swap_sends plan expected (cue ∷ own) ≡ sent = swap-sends-more plan expected cue own ∙ rw now are in
    is ∙ ap (λ (s : List Out). turn_with s None) (sym sends) ∙ ap (λ (r : Option Reply). turn_with (swap_sends plan expected (cue ∷ own)) r) (sym now) ∙ sym (turn-before-reply (swap_sends plan expected) (swap_reply plan expected) own cue none)

-- ---- an answer on an update

answer-calm : (cue : Cue) → is_update_answer cue ≡ true → IsCalm cue
answer-calm (cues.Meta (says.Applied c o k s)) e = record { has = refl; tick = refl; stored = λ stamp cloud. refl }
answer-calm (cues.Meta (says.Kept c o k s)) e = record { has = refl; tick = refl; stored = λ stamp cloud. refl }
answer-calm (cues.Meta (says.Has c o k r)) e = absurd (false≢true e)
answer-calm (cues.Meta (says.Fired c o k s)) e = absurd (false≢true e)
answer-calm (cues.Meta (says.OldList c o k ss)) e = absurd (false≢true e)
answer-calm (cues.Meta (says.Forgot c o k)) e = absurd (false≢true e)
answer-calm (cues.Meta (says.Swapped c o k s)) e = absurd (false≢true e)
answer-calm (cues.Meta (says.Changed c o k s)) e = absurd (false≢true e)
answer-calm (cues.Cloud reply) e = absurd (false≢true e)
answer-calm cues.Tick e = absurd (false≢true e)

answer-silent : (cue : Cue) (r : RecordValue) → is_update_answer cue ≡ true → answered_by (Some r) cue ≡ None
answer-silent (cues.Meta (says.Applied c o k s)) r e = refl
answer-silent (cues.Meta (says.Kept c o k s)) r e = refl
answer-silent (cues.Meta (says.Has c o k h)) r e = absurd (false≢true e)
answer-silent (cues.Meta (says.Fired c o k s)) r e = absurd (false≢true e)
answer-silent (cues.Meta (says.OldList c o k ss)) r e = absurd (false≢true e)
answer-silent (cues.Meta (says.Forgot c o k)) r e = absurd (false≢true e)
answer-silent (cues.Meta (says.Swapped c o k s)) r e = absurd (false≢true e)
answer-silent (cues.Meta (says.Changed c o k s)) r e = absurd (false≢true e)
answer-silent (cues.Cloud reply) r e = absurd (false≢true e)
answer-silent cues.Tick r e = absurd (false≢true e)

pub answered : (m : SwapOp) (cue : Cue) (turn : Turn) → m.replied ≡ None → is_update_answer cue ≡ true → turn ≡ quiet_turn → Takes m m cue (Ok turn)
answered m cue turn none answer is own_input plan expected own h =
    let o = opened plan expected m own h none in
    let calm = answer-calm cue answer in
    let silent : verdict_at plan expected cue own ≡ None = sym (verdict-silent m cue calm.has (λ r. answer-silent cue r answer) none plan expected own h) in
    let left : exhausted_by plan (first_has (cue ∷ own)) ≡ None = ap (exhausted_by plan) (has-calm cue own calm.has) ∙ unexhausted plan expected own o.reply in
    let now : swap_reply plan expected (cue ∷ own) ≡ None = reply-now plan expected cue own o.reply ∙ rw (silent, left) refl in
    let after : IsOpen plan expected m.put (cue ∷ own) = record { handed = o.handed; each = o.each; stands = o.stands; same = same-calm plan o.handed own cue calm o.same; unended = o.unended; reply = now } in (
      turn-sends plan expected cue own turn [] o.reply now (ap (map (expecting expected)) (sends-calm plan cue own calm)) is,
      stand-open plan expected m m own (cue ∷ own) h (record { issuer = refl; seeks = refl; quorum = refl }) none after,
    )

-- ---- the verdict

pub judged : (m n : SwapOp) (cue : Cue) (reply : Reply) (progress : Progress) (turn : Turn) → m.replied ≡ None → Keeps m n → n.replied ≡ Some progress → WhereOpen m (λ plan expected own. Some reply ≡ verdict_at plan expected cue own)
    → ((c : Cue) (r : Reply) → WhereOpen m (λ plan expected own. verdict_at plan expected c own ≡ Some r → Tells progress (write_progress plan (c ∷ own)))) → turn ≡ turn_with [] (Some reply) → Takes m n cue (Ok turn)
judged m n cue reply progress turn none keeps there verdict tells is own_input plan expected own h =
    let o = opened plan expected m own h none in
    let by_it : verdict_at plan expected cue own ≡ Some reply = sym (verdict none plan expected own h) in
    let now : swap_reply plan expected (cue ∷ own) ≡ Some reply = reply-now plan expected cue own o.reply ∙ rw by_it refl in
    let after : HasReplied plan expected progress (cue ∷ own) = record {
      reply = ap is_some now;
      told = subst (λ (p : protocol.Progress). Tells progress p) (sym (progress-before-reply (swap_reply plan expected) (write_progress plan) own cue o.reply)) (tells cue reply none plan expected own h by_it);
    } in
    (turn-replies plan expected cue own turn reply o.reply now is, stand-replied plan expected m n own (cue ∷ own) progress h keeps there after)

-- ---- an input that the put is handed

-- what the put does
put-goes : (plan : PutPlan) (expected : Timestamp) (cue : Cue) (handed own : List Cue) → addresses plan.client plan.op plan.key cue ≡ true → inputs_for plan.client plan.op plan.key handed ≡ handed → write_reply plan handed ≡ None
    → put_turn plan (cue ∷ handed) ≡ turn_with (sends_by plan cue handed (update_of plan handed) (record_at plan (cue ∷ handed))) (write_reply plan (cue ∷ handed))
unfolding put_turn
put-goes plan expected cue handed own for each none =
    turn-own (write_sends plan) (write_reply plan) plan.client plan.op plan.key handed cue for ∙ ap (λ (cs : List Cue). own_turn (write_sends plan) (write_reply plan) (cue ∷ cs)) each
    ∙ turn-before-reply (write_sends plan) (write_reply plan) handed cue none
    ∙ ap (λ (s : List Out). turn_with s (write_reply plan (cue ∷ handed))) (sends-more plan cue handed ∙ rw none refl)

-- the reply is that of the put
reply-as-put : (plan : PutPlan) (expected : Timestamp) (cue : Cue) (handed own : List Cue) → is_update_answer cue ≡ false → verdict_at plan expected cue own ≡ None → TellsSame plan handed own → write_reply plan handed ≡ None → swap_reply plan expected own ≡ None
    → swap_reply plan expected (cue ∷ own) ≡ write_reply plan (cue ∷ handed)
reply-as-put plan expected cue handed own other silent same unended none =
    reply-now plan expected cue own none ∙ rw silent refl ∙ ap (exhausted_by plan) (sym (same-grows plan handed own cue same).has)
    ∙ sym (reply-more plan cue handed ∙ rw (unended, undone (update_of plan handed)) refl)
  where
    undone : (o : Option RecordValue) → done_by o cue ≡ None
    undone None = refl
    undone (Some r) = rw other refl

for-plan : (plan : PutPlan) (expected : Timestamp) (m : SwapOp) (own : List Cue) (cue : Cue) → StandsForOwn plan expected m own → IsFor m cue → addresses plan.client plan.op plan.key cue ≡ true
for-plan plan expected m own cue h for = subst (λ (i : Issuer). addresses i.client i.op i.key cue ≡ true) h.issuer for

-- the put's turn, and for which inputs it stands then
pub record Goes (m n : PutOp) (cue : Cue) (turn : Turn) : Type 0 where
  pub does : (plan : PutPlan) (handed : List Cue) → puts.StandsForInputs plan m handed → turn ≡ put_turn plan (cue ∷ handed)
  pub stands : (plan : PutPlan) (handed : List Cue) → puts.StandsForInputs plan m handed → puts.StandsForInputs plan n (cue ∷ handed)

-- the put replies
pub passed-replies : (m n : SwapOp) (cue : Cue) (t : Turn) (reply : Reply) (progress : Progress) (turn : Turn) → Keeps m n → n.replied ≡ Some progress → Goes m.put n.put cue t → t.reply ≡ Some reply
    → ((plan : PutPlan) (handed : List Cue) → puts.StandsForInputs plan n.put handed → Tells progress (put_progress plan handed)) → turn ≡ turn_with [] (Some reply) → Passes m n cue (Ok turn)
passed-replies m n cue t reply progress turn keeps there goes replies tells is for other none plan expected own h silent =
    let o = opened plan expected m own h none in
    let mine = for-plan plan expected m own cue h for in
    let does = goes.does plan o.handed o.stands ∙ put-goes plan expected cue o.handed own mine o.each o.unended in
    let now : swap_reply plan expected (cue ∷ own) ≡ Some reply = reply-as-put plan expected cue o.handed own other silent o.same o.unended o.reply ∙ sym (ap (λ (t : Turn). t.reply) does) ∙ replies in
    let same = same-grows plan o.handed own cue o.same in
    let told : TellsSwap plan expected (cue ∷ own) progress =
    subst (λ (p : protocol.Progress). Tells progress p) (put-progress-at plan o.handed own cue o.each mine o.unended same ∙ sym (progress-before-reply (swap_reply plan expected) (write_progress plan) own cue o.reply)) (tells plan (cue ∷ o.handed) (goes.stands plan o.handed o.stands)) in
    (turn-replies plan expected cue own turn reply o.reply now is, stand-replied plan expected m n own (cue ∷ own) progress h keeps there (record { reply = ap is_some now; told = told }))

-- it does not
pub passed-sends : (m n : SwapOp) (cue : Cue) (t : Turn) (sent : List Out) (turn : Turn) → Keeps m n → n.replied ≡ m.replied → Goes m.put n.put cue t → t.reply ≡ None → sent ≡ map (expecting m.expected) t.sends → turn ≡ turn_with sent None → Passes m n cue (Ok turn)
passed-sends m n cue t sent turn keeps unreplied goes no_reply are is for other none plan expected own h silent =
    let o = opened plan expected m own h none in
    let mine = for-plan plan expected m own cue h for in
    let does = goes.does plan o.handed o.stands ∙ put-goes plan expected cue o.handed own mine o.each o.unended in
    let unended : write_reply plan (cue ∷ o.handed) ≡ None = sym (ap (λ (t : Turn). t.reply) does) ∙ no_reply in
    let now : swap_reply plan expected (cue ∷ own) ≡ None = reply-as-put plan expected cue o.handed own other silent o.same o.unended o.reply ∙ unended in
    let same = same-grows plan o.handed own cue o.same in
    let sends : map (expecting expected) (sends_by plan cue own (update_of plan own) (record_at plan (cue ∷ own))) ≡ sent =
    ap (map (expecting expected)) (sym (sends-same plan o.handed own cue o.same) ∙ sym (ap (λ (t : Turn). t.sends) does)) ∙ ap (λ (e : Timestamp). map (expecting e) t.sends) (sym h.seeks) ∙ sym are in
    let each : inputs_for plan.client plan.op plan.key (cue ∷ o.handed) ≡ cue ∷ o.handed = inputs-own plan.client plan.op plan.key o.handed cue mine ∙ ap (λ (cs : List Cue). cue ∷ cs) o.each in
    let after : IsOpen plan expected n.put (cue ∷ own) = record { handed = cue ∷ o.handed; each = each; stands = goes.stands plan o.handed o.stands; same = same; unended = unended; reply = now } in
    (turn-sends plan expected cue own turn sent o.reply now sends is, stand-open plan expected m n own (cue ∷ own) h keeps (unreplied ∙ none) after)

-- memory ran out
pub passed-fails : (m n : SwapOp) (cue : Cue) (error : NoMemory) → Keeps m n → n.replied ≡ m.replied → ((plan : PutPlan) (handed : List Cue) → puts.StandsForInputs plan m.put handed → puts.StandsForInputs plan n.put handed) → Passes m n cue (Err error)
passed-fails m n cue error keeps unreplied stays for other none plan expected own h silent =
    let o = opened plan expected m own h none in
    let after : IsOpen plan expected n.put own = record { handed = o.handed; each = o.each; stands = stays plan o.handed o.stands; same = o.same; unended = o.unended; reply = o.reply } in
    stand-open plan expected m n own own h keeps (unreplied ∙ none) after

-- at a step that is no verdict
pub passes : (m n : SwapOp) (cue : Cue) (result : Result Turn NoMemory) → m.replied ≡ None → is_update_answer cue ≡ false → WhereOpen m (λ plan expected own. None ≡ verdict_at plan expected cue own) → Passes m n cue result → Takes m n cue result
passes m n cue result none other silent pass for plan expected own h = pass for other none plan expected own h (sym (silent none plan expected own h))

-- ---- over all inputs

swap-turn-own : (plan : PutPlan) (expected : Timestamp) (inputs : List Cue) (cue : Cue) → addresses plan.client plan.op plan.key cue ≡ true
    → swap_turn plan expected (cue ∷ inputs) ≡ own_turn (swap_sends plan expected) (swap_reply plan expected) (cue ∷ inputs_for plan.client plan.op plan.key inputs)
unfolding swap_turn
swap-turn-own plan expected inputs cue own = turn-own (swap_sends plan expected) (swap_reply plan expected) plan.client plan.op plan.key inputs cue own

-- an input for the swap
module _ (m n : SwapOp) (cue : Cue) (for : IsFor m cue) where
  pub step-turn : (result : Result Turn NoMemory) → Takes m n cue result → IfOk result (λ turn. (plan : PutPlan) (expected : Timestamp) (inputs : List Cue) → StandsForInputs plan expected m inputs → turn ≡ swap_turn plan expected (cue ∷ inputs))
  step-turn (Ok turn) takes = λ plan expected inputs h. (takes for plan expected (inputs_for plan.client plan.op plan.key inputs) h).0 ∙ sym (swap-turn-own plan expected inputs cue (for-plan plan expected m _ cue h for))
  step-turn (Err e) takes = tt

  pub step-ok : (result : Result Turn NoMemory) → Takes m n cue result → OnOk result ((plan : PutPlan) (expected : Timestamp) (inputs : List Cue) → StandsForInputs plan expected m inputs → StandsForInputs plan expected n (cue ∷ inputs))
  step-ok (Ok turn) takes = λ plan expected inputs h.
      subst (λ (cs : List Cue). StandsForOwn plan expected n cs) (sym (inputs-own plan.client plan.op plan.key inputs cue (for-plan plan expected m _ cue h for))) (takes for plan expected (inputs_for plan.client plan.op plan.key inputs) h).1
  step-ok (Err e) takes = tt

  pub step-err : (result : Result Turn NoMemory) → Takes m n cue result → OnErr result ((plan : PutPlan) (expected : Timestamp) (inputs : List Cue) → StandsForInputs plan expected m inputs → StandsForInputs plan expected n inputs)
  step-err (Ok turn) takes = tt
  step-err (Err e) takes = λ plan expected inputs h. takes for plan expected (inputs_for plan.client plan.op plan.key inputs) h

-- an input for another operation
foreign-plan : (plan : PutPlan) (expected : Timestamp) (m : SwapOp) (own : List Cue) (cue : Cue) → StandsForOwn plan expected m own → addresses m.issuer.client m.issuer.op m.issuer.key cue ≡ false → addresses plan.client plan.op plan.key cue ≡ false
foreign-plan plan expected m own cue h foreign = subst (λ (i : Issuer). addresses i.client i.op i.key cue ≡ false) h.issuer foreign

pub foreign-turn : (m : SwapOp) (cue : Cue) → addresses m.issuer.client m.issuer.op m.issuer.key cue ≡ false → (plan : PutPlan) (expected : Timestamp) (inputs : List Cue) → StandsForInputs plan expected m inputs → swap_turn plan expected (cue ∷ inputs) ≡ quiet_turn
unfolding swap_turn
foreign-turn m cue foreign plan expected inputs h = turn-foreign (swap_sends plan expected) (swap_reply plan expected) plan.client plan.op plan.key inputs cue (foreign-plan plan expected m _ cue h foreign)

pub foreign-stands : (m : SwapOp) (cue : Cue) → addresses m.issuer.client m.issuer.op m.issuer.key cue ≡ false → (plan : PutPlan) (expected : Timestamp) (inputs : List Cue) → StandsForInputs plan expected m inputs → StandsForInputs plan expected m (cue ∷ inputs)
foreign-stands m cue foreign plan expected inputs h = subst (λ (cs : List Cue). StandsForOwn plan expected m cs) (sym (inputs-foreign plan.client plan.op plan.key inputs cue (foreign-plan plan expected m _ cue h foreign))) h

pub progress-is : (plan : PutPlan) (expected : Timestamp) (inputs : List Cue) → swap_progress plan expected inputs ≡ settled_progress (swap_reply plan expected) (write_progress plan) (inputs_for plan.client plan.op plan.key inputs)
unfolding swap_progress
progress-is plan expected inputs = refl

-- ---- the start

pub starts : (plan : PutPlan) (expected : Timestamp) (m : SwapOp) → m.issuer ≡ puts.issuer_of plan → m.expected ≡ expected → IsShape plan.f plan.k → is_some plan.value ≡ true → m.quorum ≡ quorum_size plan.f plan.k → m.replied ≡ None → puts.StandsForInputs plan m.put []
    → StandsForInputs plan expected m []
unfolding inputs_for write_reply swap_reply
starts plan expected m issuer seeks shape value quorum none stands =
    let o : IsOpen plan expected m.put [] = record { handed = []; each = refl; stands = stands; same = record { has = refl; stored = λ stamp cloud. refl; update = refl }; unended = refl; reply = refl } in
    record { issuer = issuer; seeks = seeks; shape = shape; value = value; quorum = quorum; state = subst (λ (r : Option Progress). StandsAt plan expected m.put r []) (sym none) o }

pub first-sends : (plan : PutPlan) (expected : Timestamp) → (put_turn plan []).sends ≡ (swap_turn plan expected []).sends
unfolding put_turn swap_turn turn_of own_turn write_sends swap_sends
first-sends plan expected = refl

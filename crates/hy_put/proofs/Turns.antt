-- The turns of a put: after its reply, and with its update.
use Rattle.std.proofs.Common.{◌≡◌, ℕ, Bool, true, false, List, [], ◌∷◌, Option, Some, None, refl, sym, ap, subst, ◌∙◌, inl, inr}
use Rattle.std.specs.Prelude.{◌++◌, All, Contains, is_some}
use Rattle.std.proofs.lemmas.Bool.{false≢true}
use Rattle.std.proofs.lemmas.List.Elements.{All-nil, All-contains}
use Rattle.hy_base.specs.Shape.{IsShape}
use Rattle.hy_record.specs.declared.action.Reply.{Reply}
use Rattle.hy_record.specs.declared.message.MetaAsk.TheVariants as asks
use Rattle.hy_record.specs.declared.turn.Cue.{Cue}
use Rattle.hy_record.specs.declared.turn.Out.{Out}
use Rattle.hy_record.specs.declared.turn.Out.TheVariants as outs
use Rattle.hy_record.specs.Record.{RecordValue}
use Rattle.hy_meta.proofs.Rising.{cases_bool}
use Rattle.hy_protocol.specs.declared.plan.PutPlan.{PutPlan}
use Rattle.hy_protocol.specs.Inputs.{addresses, inputs_for}
use Rattle.hy_protocol.specs.Write.{write_sends, write_reply, update_of}
use Rattle.hy_protocol.specs.Turns.{put_turn, turn_of, own_turn, quiet_turn, new_reply}
use Rattle.hy_operation.proofs.Inputs.{inputs-own, inputs-foreign, turn-own, turn-foreign}
use Rattle.hy_put.specs.Updates.{IsRecordOfPut}
use Rattle.hy_put.proofs.Further.{reply-stays, turn_with, turn-late}
use Rattle.hy_put.proofs.Updates.{UpdatesTo, update-made, sends-update}

module _ (plan : PutPlan) where
  abbrev own_of : List Cue → List Cue
  own_of inputs = inputs_for plan.client plan.op plan.key inputs

  -- a turn with a reply comes where there is one
  has-replied : (inputs : List Cue) → is_some (put_turn plan inputs).reply ≡ true → is_some (write_reply plan (own_of inputs)) ≡ true
  unfolding put_turn turn_of own_turn
  has-replied [] e = absurd (false≢true e)
  has-replied (cue ∷ inputs) e =
      elim (cases_bool (addresses plan.client plan.op plan.key cue)) [
        | inl own ↦ subst (λ (xs : List Cue). is_some (write_reply plan xs) ≡ true) (sym (inputs-own plan.client plan.op plan.key inputs cue own)) (new (write_reply plan (own_of inputs)) _ (rw own at e))
        | inr foreign ↦ absurd (false≢true (rw foreign at e))
      ]
    where
      new : (o p : Option Reply) → is_some (new_reply o p) ≡ true → is_some p ≡ true
      new None p is = is
      new (Some x) p is = absurd (false≢true is)

  -- a reply stays
  replied-stays : (later before : List Cue) → is_some (write_reply plan (own_of before)) ≡ true → is_some (write_reply plan (own_of (later ++ before))) ≡ true
  replied-stays [] before there = there
  replied-stays (cue ∷ later) before there =
      let rest = replied-stays later before there in
      elim (cases_bool (addresses plan.client plan.op plan.key cue)) [
        | inl own ↦ subst (λ (xs : List Cue). is_some (write_reply plan xs) ≡ true) (sym (inputs-own plan.client plan.op plan.key (later ++ before) cue own)) (reply-stays plan cue (own_of (later ++ before)) rest)
        | inr foreign ↦ subst (λ (xs : List Cue). is_some (write_reply plan xs) ≡ true) (sym (inputs-foreign plan.client plan.op plan.key (later ++ before) cue foreign)) rest
      ]

  pub quiet-after : (cue : Cue) (later before : List Cue) → is_some (put_turn plan before).reply ≡ true → put_turn plan (cue ∷ later ++ before) ≡ quiet_turn
  unfolding put_turn
  quiet-after cue later before e =
      let there = replied-stays later before (has-replied before e) in
      elim (cases_bool (addresses plan.client plan.op plan.key cue)) [
        | inl own ↦ turn-own (write_sends plan) (write_reply plan) plan.client plan.op plan.key (later ++ before) cue own ∙ sym (turn-late plan (own_of (later ++ before)) cue (turn_with [] None) there refl)
        | inr foreign ↦ turn-foreign (write_sends plan) (write_reply plan) plan.client plan.op plan.key (later ++ before) cue foreign
      ]

  -- every update of a turn is to the record of the write
  turn-update : (inputs : List Cue) → All (UpdatesTo (update_of plan (own_of inputs))) (put_turn plan inputs).sends
  unfolding put_turn turn_of own_turn inputs_for
  turn-update [] = sends-update plan []
  turn-update (cue ∷ inputs) =
      elim (cases_bool (addresses plan.client plan.op plan.key cue)) [
        | inl own ↦ rw own (sends-update plan (cue ∷ own_of inputs))
        | inr foreign ↦ rw foreign (All-nil (UpdatesTo (update_of plan (own_of inputs))))
      ]

  -- an update that is sent is that of the write
  pub sent-update : (inputs : List Cue) (value : List ℕ) (r : RecordValue) → IsShape plan.f plan.k → plan.value ≡ Some value → Contains (put_turn plan inputs).sends (outs.Meta (asks.Update plan.client plan.op plan.key r)) → IsRecordOfPut plan value (own_of inputs) r
  sent-update inputs value r shape of sent =
      update-made plan value (own_of inputs) r shape of (All-contains (UpdatesTo (update_of plan (own_of inputs))) (put_turn plan inputs).sends (outs.Meta (asks.Update plan.client plan.op plan.key r)) (turn-update inputs) sent)

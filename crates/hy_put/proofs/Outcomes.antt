-- A step of a put, by its outcome, over all inputs.
use Rattle.std.proofs.Common.{◌≡◌, ℕ, true, false, List, [], ◌∷◌, Option, Some, None, refl, sym, ap, subst, ◌∙◌, Result, Ok, Err}
use Rattle.std.specs.Prelude.{IfOk, OnOk, OnErr, MatchResult}
use Rattle.hy_base.specs.declared.failure.NoMemory.{NoMemory}
use Rattle.hy_record.specs.declared.message.MetaSay.TheVariants as says
use Rattle.hy_record.specs.declared.turn.Cue.{Cue}
use Rattle.hy_record.specs.declared.turn.Cue.TheVariants as cues
use Rattle.hy_record.specs.declared.turn.Out.{Out}
use Rattle.hy_record.specs.declared.turn.Turn.{Turn}
use Rattle.hy_record.specs.Stamp.{Timestamp}
use Rattle.hy_record.specs.Record.{RecordValue, tombstone}
use Rattle.hy_protocol.specs.declared.plan.PutPlan.{PutPlan}
use Rattle.hy_protocol.specs.Inputs.{addresses, inputs_for}
use Rattle.hy_protocol.specs.Write.{first_has, update_of, stamp_upon, update_with, read_of, write_sends, write_reply}
use Rattle.hy_protocol.specs.Turns.{quiet_turn, own_turn, turn_of, put_turn}
use Rattle.hy_operation.specs.declared.issuer.Issuer.{Issuer}
use Rattle.hy_operation.proofs.Inputs.{inputs-own, inputs-foreign, turn-own, turn-foreign}
use Rattle.hy_put.specs.declared.state.State.{State}
use Rattle.hy_put.specs.declared.state.State.TheVariants as at
use Rattle.hy_put.specs.declared.put.PutOp.{PutOp}
use Rattle.hy_put.specs.Contents.{CarriesValue}
use Rattle.hy_put.specs.Standing.{issuer_of, Carries, IsReading, StandsAt, StandsForOwn, StandsForInputs, Does, Takes}
use Rattle.hy_put.proofs.Further.{turn_with}
use Rattle.hy_put.proofs.ByContent.{no-value}
use Rattle.hy_put.proofs.ByState.{reading-deletes}

-- what follows of the turn holds where there is one
pub ok-then : {P : Turn → Type 0} (result : Result Turn NoMemory) (Q : Turn → Type 0) → ((turn : Turn) → P turn → Q turn) → IfOk result P → IfOk result Q
ok-then (Ok turn) Q f p = f turn p
ok-then (Err e) Q f p = tt

-- a delete at the first record, by the outcome of its update
pub begin-deletes : (plan : PutPlan) (m n : PutOp) (own : List Cue) (c o : ℕ) (k : List ℕ) (held : Option RecordValue) (stamp : Timestamp) (rec : RecordValue) (result : Result Turn NoMemory) → StandsForOwn plan m own → m.state ≡ at.Reading → m.content ≡ None → stamp_upon plan.client held ≡ Some stamp → rec ≡ tombstone stamp
    → IfOk result (λ turn. turn ≡ turn_with (update_with plan rec) None) → IfOk result (λ _. n.state ≡ at.Updating rec) → OnErr result (n.state ≡ m.state) → Carries plan n
    → MatchResult result (λ turn. Does plan own (cues.Meta (says.Has c o k held)) turn n) (λ _. StandsForOwn plan n own)
begin-deletes plan m n own c o k held stamp rec (Ok turn) h was none upon made is state err carries =
    reading-deletes plan m n own (cues.Meta (says.Has c o k held)) turn held stamp h was (state ∙ ap at.Updating made) carries (no-value plan m h.carries none) refl upon (is ∙ ap (λ (r : RecordValue). turn_with (update_with plan r) None) made)
begin-deletes plan m n own c o k held stamp rec (Err e) h was none upon made is state err carries = record { carries = carries; state = subst (λ (s : State). StandsAt plan s own) (sym err) h.state }

-- the test of the put is the test of its plan
addresses-plan : (plan : PutPlan) (m : PutOp) (cue : Cue) → Carries plan m → addresses m.issuer.client m.issuer.op m.issuer.key cue ≡ addresses plan.client plan.op plan.key cue
addresses-plan plan m cue h = ap (λ (i : Issuer). addresses i.client i.op i.key cue) h.issuer

-- ---- an input for the put

pub own-turn : (m n : PutOp) (cue : Cue) (result : Result Turn NoMemory) → addresses m.issuer.client m.issuer.op m.issuer.key cue ≡ true → Takes m n cue result
    → IfOk result (λ turn. (plan : PutPlan) (inputs : List Cue) → StandsForInputs plan m inputs → turn ≡ put_turn plan (cue ∷ inputs))
unfolding put_turn
own-turn m n cue (Err e) mine takes = tt
own-turn m n cue (Ok turn) mine takes = λ plan inputs h.
    (takes plan _ h).does ∙ sym (turn-own (write_sends plan) (write_reply plan) plan.client plan.op plan.key inputs cue (sym (addresses-plan plan m cue h.carries) ∙ mine))

pub own-ok : (m n : PutOp) (cue : Cue) (result : Result Turn NoMemory) → addresses m.issuer.client m.issuer.op m.issuer.key cue ≡ true → Takes m n cue result
    → OnOk result ((plan : PutPlan) (inputs : List Cue) → StandsForInputs plan m inputs → StandsForInputs plan n (cue ∷ inputs))
own-ok m n cue (Err e) mine takes = tt
own-ok m n cue (Ok turn) mine takes = λ plan inputs h.
    subst (λ (own : List Cue). StandsForOwn plan n own) (sym (inputs-own plan.client plan.op plan.key inputs cue (sym (addresses-plan plan m cue h.carries) ∙ mine))) (takes plan _ h).stands

pub own-err : (m n : PutOp) (cue : Cue) (result : Result Turn NoMemory) → Takes m n cue result
    → OnErr result ((plan : PutPlan) (inputs : List Cue) → StandsForInputs plan m inputs → StandsForInputs plan n inputs)
own-err m n cue (Err e) takes = λ plan inputs h. takes plan _ h
own-err m n cue (Ok turn) takes = tt

-- ---- an input for another

pub foreign-turn : (m : PutOp) (cue : Cue) (turn : Turn) → addresses m.issuer.client m.issuer.op m.issuer.key cue ≡ false → turn ≡ quiet_turn
    → (plan : PutPlan) (inputs : List Cue) → StandsForInputs plan m inputs → turn ≡ put_turn plan (cue ∷ inputs)
unfolding put_turn
foreign-turn m cue turn foreign is plan inputs h = is ∙ sym (turn-foreign (write_sends plan) (write_reply plan) plan.client plan.op plan.key inputs cue (sym (addresses-plan plan m cue h.carries) ∙ foreign))

pub foreign-ok : (m : PutOp) (cue : Cue) → addresses m.issuer.client m.issuer.op m.issuer.key cue ≡ false
    → (plan : PutPlan) (inputs : List Cue) → StandsForInputs plan m inputs → StandsForInputs plan m (cue ∷ inputs)
foreign-ok m cue foreign plan inputs h = subst (λ (own : List Cue). StandsForOwn plan m own) (sym (inputs-foreign plan.client plan.op plan.key inputs cue (sym (addresses-plan plan m cue h.carries) ∙ foreign))) h

-- ---- the start

-- a put that was handed nothing
pub starts : (plan : PutPlan) (m : PutOp) → m.issuer ≡ issuer_of plan → CarriesValue plan.f plan.k plan.value m.content → m.state ≡ at.Reading → StandsForInputs plan m []
unfolding inputs_for first_has update_of write_reply
starts plan m issuer value reading = record {
  carries = record { issuer = issuer; value = value };
  state = subst (λ (s : State). StandsAt plan s []) (sym reading) (let r : IsReading plan [] = record { has = refl; update = refl; reply = refl } in r);
}

-- and what it sends
pub first-sends : (plan : PutPlan) (sent : List Out) → sent ≡ read_of plan → sent ≡ (put_turn plan []).sends
unfolding put_turn turn_of own_turn write_sends
first-sends plan sent is = is

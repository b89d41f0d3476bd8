-- A step by its outcome.
use Rattle.std.proofs.Common.{◌≡◌, ℕ, List, ◌∷◌, true, false, Option, Result, Ok, Err, ap, sym, subst, ◌∙◌}
use Rattle.std.specs.Prelude.{IfOk, OnOk, OnErr}
use Rattle.std.specs.Global.{Vec}
use Rattle.hy_base.specs.declared.failure.NoMemory.{NoMemory}
use Rattle.hy_record.specs.declared.message.MetaSay.TheVariants as says
use Rattle.hy_record.specs.declared.turn.Cue.{Cue}
use Rattle.hy_record.specs.declared.turn.Cue.TheVariants as cues
use Rattle.hy_record.specs.declared.turn.Out.{Out}
use Rattle.hy_record.specs.declared.turn.Turn.{Turn}
use Rattle.hy_record.specs.Record.{RecordValue}
use Rattle.hy_protocol.specs.declared.plan.GetPlan.{GetPlan}
use Rattle.hy_protocol.specs.Inputs.{addresses}
use Rattle.hy_protocol.specs.Read.{asks_record, read_sends, read_reply}
use Rattle.hy_protocol.specs.Turns.{quiet_turn, own_turn, get_turn}
use Rattle.hy_operation.proofs.Inputs.{inputs-own, inputs-foreign, turn-own, turn-foreign}
use Rattle.hy_get.specs.declared.fetch.Fetch.{Fetch}
use Rattle.hy_get.specs.declared.get.GetOp.{GetOp}
use Rattle.hy_get.specs.declared.get.State.{State}
use Rattle.hy_get.specs.Requests.{plan_of}
use Rattle.hy_get.specs.Fetching.{Moves}
use Rattle.hy_get.specs.Standing.{StandsAt, StandsForOwn, own_inputs, StandsForInputs, Takes, Begins, is_newer}
use Rattle.hy_get.proofs.Since.{tick-reads}
use Rattle.hy_get.proofs.Beginnings.{begin-goes}

-- a timeout after the record was superseded
pub moves-reads : (plan : GetPlan) (fetch : Fetch) (result : Result (Vec Out) NoMemory) → fetch.fired ≡ true → IfOk result (λ sends. sends.items ≡ asks_record plan) → Moves plan fetch fetch cues.Tick result
moves-reads plan fetch (Ok sends) on is = λ since a. tick-reads plan fetch since sends.items a on is
moves-reads plan fetch (Err e) on is = λ since a. a

-- a record that is followed from now on
pub takes-record : (m n : GetOp) (rec : Option RecordValue) (result : Result Turn NoMemory) → is_newer m.state rec ≡ true → n.rounds ≡ m.rounds → IfOk result (λ turn. Begins (plan_of m.issuer) rec turn n.state) → OnErr result (n.state ≡ m.state)
    → (c o : ℕ) (k : List ℕ) → Takes m n (cues.Meta (says.Has c o k rec)) result
takes-record m n rec (Ok turn) newer rounds begins err c o k = λ inputs h. begin-goes (plan_of m.issuer) m n inputs c o k rec turn h newer rounds begins
takes-record m n rec (Err e) newer rounds begins err c o k = λ inputs h. record { state = subst (λ (s : State). StandsAt s inputs) (sym err) h.state; rounds = rounds ∙ h.rounds }

-- ---- over all inputs

-- the input is for the get of this plan
abbrev pub IsOwn : GetPlan → Cue → Type 0
IsOwn plan cue = addresses plan.client plan.op plan.key cue ≡ true

own-inputs : (plan : GetPlan) (inputs : List Cue) (cue : Cue) → IsOwn plan cue → own_inputs plan (cue ∷ inputs) ≡ cue ∷ own_inputs plan inputs
own-inputs plan inputs cue mine = inputs-own plan.client plan.op plan.key inputs cue mine

pub own-turn : (plan : GetPlan) (inputs : List Cue) (cue : Cue) → IsOwn plan cue → get_turn plan (cue ∷ inputs) ≡ own_turn (read_sends plan) read_reply (cue ∷ own_inputs plan inputs)
unfolding get_turn
own-turn plan inputs cue mine = turn-own (read_sends plan) read_reply plan.client plan.op plan.key inputs cue mine

pub foreign-turn : (plan : GetPlan) (inputs : List Cue) (cue : Cue) → addresses plan.client plan.op plan.key cue ≡ false → get_turn plan (cue ∷ inputs) ≡ quiet_turn
unfolding get_turn
foreign-turn plan inputs cue foreign = turn-foreign (read_sends plan) read_reply plan.client plan.op plan.key inputs cue foreign

pub foreign-stands : (plan : GetPlan) (m : GetOp) (inputs : List Cue) (cue : Cue) → addresses m.issuer.client m.issuer.op m.issuer.key cue ≡ false → StandsForInputs plan m inputs → StandsForInputs plan m (cue ∷ inputs)
foreign-stands plan m inputs cue foreign h = record {
  issuer = h.issuer;
  own = subst (StandsForOwn m) (sym (inputs-foreign plan.client plan.op plan.key inputs cue (ap (λ (p : GetPlan). addresses p.client p.op p.key cue) (sym h.issuer) ∙ foreign))) h.own;
}

module _ (m n : GetOp) (cue : Cue) (mine : IsOwn (plan_of m.issuer) cue) (same : n.issuer ≡ m.issuer) where
  own-too : (plan : GetPlan) → plan_of m.issuer ≡ plan → IsOwn plan cue
  own-too plan is = subst (λ (p : GetPlan). IsOwn p cue) is mine

  pub step-turn : (result : Result Turn NoMemory) → Takes m n cue result → IfOk result (λ turn. (plan : GetPlan) (inputs : List Cue) → StandsForInputs plan m inputs → turn ≡ get_turn plan (cue ∷ inputs))
  step-turn (Ok turn) takes = λ plan inputs h. (takes (own_inputs plan inputs) h.own).done ∙ ap (λ (p : GetPlan). own_turn (read_sends p) read_reply (cue ∷ own_inputs plan inputs)) h.issuer ∙ sym (own-turn plan inputs cue (own-too plan h.issuer))
  step-turn (Err e) takes = tt

  pub step-ok : (result : Result Turn NoMemory) → Takes m n cue result → OnOk result ((plan : GetPlan) (inputs : List Cue) → StandsForInputs plan m inputs → StandsForInputs plan n (cue ∷ inputs))
  step-ok (Ok turn) takes = λ plan inputs h. record {
    issuer = ap plan_of same ∙ h.issuer;
    own = subst (StandsForOwn n) (sym (own-inputs plan inputs cue (own-too plan h.issuer))) (takes (own_inputs plan inputs) h.own).stands;
  }
  step-ok (Err e) takes = tt

  pub step-err : (result : Result Turn NoMemory) → Takes m n cue result → OnErr result ((plan : GetPlan) (inputs : List Cue) → StandsForInputs plan m inputs → StandsForInputs plan n inputs)
  step-err (Ok turn) takes = tt
  step-err (Err e) takes = λ plan inputs h. record { issuer = ap plan_of same ∙ h.issuer; own = takes (own_inputs plan inputs) h.own }

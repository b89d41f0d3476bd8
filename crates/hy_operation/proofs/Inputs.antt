-- One more input of an operation, which is for it or not.
use Rattle.std.proofs.Common.{◌≡◌, ℕ, Bool, true, false, List, ◌∷◌, Option, Some, None, refl}
use Rattle.std.specs.Prelude.{is_some}
use Rattle.hy_record.specs.declared.action.Reply.{Reply}
use Rattle.hy_record.specs.declared.turn.Cue.{Cue}
use Rattle.hy_record.specs.declared.turn.Out.{Out}
use Rattle.hy_protocol.specs.Inputs.{addresses, inputs_for}
use Rattle.hy_protocol.specs.Turns.{quiet_turn, new_reply, own_turn, turn_of, settled_progress}
use Rattle.hy_protocol.specs.Progress.{Progress}

-- the input is for the operation
pub inputs-own : (client op : ℕ) (key : List ℕ) (inputs : List Cue) (cue : Cue) → addresses client op key cue ≡ true → inputs_for client op key (cue ∷ inputs) ≡ cue ∷ inputs_for client op key inputs
unfolding inputs_for
inputs-own client op key inputs cue own = rw own refl

-- the input is for another
pub inputs-foreign : (client op : ℕ) (key : List ℕ) (inputs : List Cue) (cue : Cue) → addresses client op key cue ≡ false → inputs_for client op key (cue ∷ inputs) ≡ inputs_for client op key inputs
unfolding inputs_for
inputs-foreign client op key inputs cue foreign = rw foreign refl

pub turn-own : (sends : List Cue → List Out) (reply : List Cue → Option Reply) (client op : ℕ) (key : List ℕ) (inputs : List Cue) (cue : Cue) → addresses client op key cue ≡ true
    → turn_of sends reply client op key (cue ∷ inputs) ≡ own_turn sends reply (cue ∷ inputs_for client op key inputs)
unfolding turn_of
turn-own sends reply client op key inputs cue own = rw own refl

pub turn-foreign : (sends : List Cue → List Out) (reply : List Cue → Option Reply) (client op : ℕ) (key : List ℕ) (inputs : List Cue) (cue : Cue) → addresses client op key cue ≡ false
    → turn_of sends reply client op key (cue ∷ inputs) ≡ quiet_turn
unfolding turn_of
turn-foreign sends reply client op key inputs cue foreign = rw foreign refl

-- where there is no reply yet, the turn has the reply of these inputs
pub turn-before-reply : (sends : List Cue → List Out) (reply : List Cue → Option Reply) (before : List Cue) (cue : Cue) → reply before ≡ None
    → own_turn sends reply (cue ∷ before) ≡ record { sends = sends (cue ∷ before); reply = reply (cue ∷ before) }
unfolding own_turn
turn-before-reply sends reply before cue none = rw none refl

-- after the reply the turn has none
pub turn-after-reply : (sends : List Cue → List Out) (reply : List Cue → Option Reply) (before : List Cue) (cue : Cue) → is_some (reply before) ≡ true
    → own_turn sends reply (cue ∷ before) ≡ record { sends = sends (cue ∷ before); reply = None }
unfolding own_turn
turn-after-reply sends reply before cue there = rw there refl

-- where there is no reply yet, an operation is as far as its inputs say
pub progress-before-reply : (reply : List Cue → Option Reply) (progress : List Cue → Progress) (before : List Cue) (cue : Cue) → reply before ≡ None → settled_progress reply progress (cue ∷ before) ≡ progress (cue ∷ before)
unfolding settled_progress
progress-before-reply reply progress before cue none = rw none refl

-- after the reply it is as far as before
pub progress-after-reply : (reply : List Cue → Option Reply) (progress : List Cue → Progress) (before : List Cue) (cue : Cue) → is_some (reply before) ≡ true → settled_progress reply progress (cue ∷ before) ≡ settled_progress reply progress before
unfolding settled_progress
progress-after-reply reply progress before cue there = rw there refl

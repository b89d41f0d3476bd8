-- Writes: puts, deletes and swaps, with the timestamp that each writes.
use Rattle.std.specs.Prelude.{◌≡◌, ℕ, List, Option, Some, None}
use Rattle.hy_record.specs.Stamp.{Timestamp}
use Rattle.hy_record.specs.Record.{RecordValue}
use Rattle.hy_record.specs.declared.action.Action.{Action}
use Rattle.hy_record.specs.declared.action.Action.TheVariants as asked
use Rattle.hy_record.specs.declared.turn.Cue.{Cue}
use Rattle.hy_meta.specs.Service.{stamp_of_record}
use Rattle.hy_protocol.specs.Write.{first_has, own_stamp}
use Rattle.hy_protocol.specs.Operations.{write_plan}
use Rattle.hy_trace.specs.Deeds.{Params, Deed, Start, start_of, inputs_of}

-- what a write is to leave under its key: a value, or nothing; a swap also expects a timestamp of the record
pub data Change : Type 0 where
  Puts : (value : List ℕ) → Change
  Deletes : Change
  Swaps : (expected : Timestamp) (value : List ℕ) → Change

abbrev pub change_value : Change → Option (List ℕ)
change_value (Puts value) = Some value
change_value Deletes = None
change_value (Swaps expected value) = Some value

abbrev pub change_expected : Change → Option Timestamp
change_expected (Puts value) = None
change_expected Deletes = None
change_expected (Swaps expected value) = Some expected

-- the action that asks for it
abbrev pub change_action : List ℕ → Change → Action
change_action key (Puts value) = asked.Put key value
change_action key Deletes = asked.Delete key
change_action key (Swaps expected value) = asked.Swap key expected value

-- the record that the first answer told has the expected timestamp, if one is expected
abbrev pub IsMet : Option Timestamp → List Cue → Type 0
IsMet None inputs = Unit {0}
IsMet (Some expected) inputs = (held : Option RecordValue) × (first_has inputs ≡ Some held) × (stamp_of_record held ≡ expected)

-- the operation is a write of the key, with this timestamp
pub record IsWriting (p : Params) (client op : ℕ) (key : List ℕ) (stamp : Timestamp) (t : List Deed) : Type 0 where
  pub start : Start
  pub began : start_of client op t ≡ Some start
  pub change : Change
  pub action_is : start.action ≡ change_action key change
  pub met : IsMet (change_expected change) (inputs_of client op t)
  pub own : own_stamp (write_plan p.f p.k client op key (change_value change)) (inputs_of client op t) ≡ Some stamp

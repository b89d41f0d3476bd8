-- Gets whose version no cloud gives any more.
use Rattle.std.specs.Prelude.{◌≡◌, ℕ, true, false, List, Some, None}
use Rattle.std.specs.List.{AllByRecursion, list_any}
use Rattle.hy_record.specs.declared.action.Action.TheVariants as asked
use Rattle.hy_record.specs.Record.{RecordValue}
use Rattle.hy_record.specs.Clouds.{clouds_of}
use Rattle.hy_record.specs.declared.turn.Cue.{Cue}
use Rattle.hy_protocol.specs.Inputs.{is_answer}
use Rattle.hy_protocol.specs.Read.{Version, version_of}
use Rattle.hy_trace.specs.Deeds.{Params, Deed, Start, start_of, inputs_of, reply_of}
use Rattle.hy_trace.specs.Trace.{is_had}

-- the operation is a get of the key, which began so
pub record IsGet (client op : ℕ) (key : List ℕ) (start : Start) (t : List Deed) : Type 0 where
  pub began : start_of client op t ≡ Some start
  pub action_is : start.action ≡ asked.Get key

-- each honest cloud of the record's list gave the read an answer for it
abbrev pub IsStarved : Params → RecordValue → List Cue → Type 0
IsStarved p r since =
    AllByRecursion (λ cloud. p.is_liar cloud ≡ false → list_any (is_answer is_had r.stamp cloud) since ≡ true) (clouds_of r.clouds)

-- a get of the key that has no reply follows this record, and each honest cloud of the record's list has answered it
pub record IsStarvedGet (p : Params) (client op : ℕ) (key : List ℕ) (r : RecordValue) (t : List Deed) : Type 0 where
  pub start : Start
  pub get : IsGet client op key start t
  pub pending : reply_of p client op t ≡ None
  pub version : Version
  pub follows : version_of (inputs_of client op t) ≡ Some version
  pub record_is : version.rec ≡ Some r
  pub answered : IsStarved p r version.since

-- An honest cloud, by the requests that it served, the newest first.
use Rattle.std.specs.Prelude.{ℕ, Bool, true, false, ◌&&◌, List, [], ◌∷◌, Option, Some, None, if◌then◌else◌}
use Rattle.std.specs.Str.{bytes_eq}
use Rattle.std.specs.Option.{option_or}
use Rattle.hy_record.specs.Stamp.{Timestamp, stamp_eq}
use Rattle.hy_record.specs.Key.{key_eq}
use Rattle.hy_record.specs.declared.cloud.CloudAct.{CloudAct}
use Rattle.hy_record.specs.declared.cloud.CloudAct.TheVariants.{Put, Get, Delete}
use Rattle.hy_record.specs.declared.cloud.CloudSay.{CloudSay}
use Rattle.hy_record.specs.declared.cloud.CloudSay.TheVariants.{Stored, Conflict, Body, Missing, Gone}
use Rattle.hy_record.specs.declared.cloud.Wish.{Wish}

-- the request is about this name
unfoldable pub is_named : List ℕ → Timestamp → Wish → Bool
is_named key stamp wish = key_eq wish.key key && stamp_eq wish.stamp stamp

-- what is held after the request, where this was held before
abbrev pub held_after : CloudAct → Option (List ℕ) → Option (List ℕ)
held_after (Put bytes) held = option_or held (Some bytes)
held_after Get held = held
held_after Delete held = None

-- what the cloud holds under a name
unfoldable pub bytes_held : List Wish → List ℕ → Timestamp → Option (List ℕ)
bytes_held [] key stamp = None
bytes_held (wish ∷ before) key stamp = if is_named key stamp wish then held_after wish.act (bytes_held before key stamp) else bytes_held before key stamp

-- what it answers, where this is held
abbrev pub answer_by : CloudAct → Option (List ℕ) → CloudSay
answer_by (Put bytes) None = Stored true
answer_by (Put bytes) (Some held) = if bytes_eq held bytes then Stored false else Conflict
answer_by Get None = Missing
answer_by Get (Some held) = Body held
answer_by Delete held = Gone

unfoldable pub cloud_answer : List Wish → Wish → CloudSay
cloud_answer before wish = answer_by wish.act (bytes_held before wish.key wish.stamp)

-- The strings that are hashed in a trace, and that no two of them collide.
use Rattle.std.specs.Prelude.{◌≡◌, ℕ, ◌<◌, ◌⊎◌, List, [], ◌∷◌, Some}
use Rattle.sha2.specs.Sha256.{sha256}
use Rattle.hy_base.specs.Shape.{cloud_count}
use Rattle.hy_record.specs.declared.turn.Cue.{Cue}
use Rattle.hy_record.specs.declared.turn.Cue.TheVariants as cues
use Rattle.hy_record.specs.declared.cloud.CloudReply.{CloudReply}
use Rattle.hy_record.specs.declared.cloud.CloudSay.TheVariants.{Body}
use Rattle.hy_protocol.specs.Operations.{value_of}
use Rattle.hy_gf.specs.Gf.{IsElement}
use Rattle.hy_code.specs.Fragments.{fragment_of}
use Rattle.hy_code.specs.Polynomial.{AreElements}
use Rattle.hy_trace.specs.Deeds.{Params, Deed, Start, inputs_of, start_of}

-- the input is one of these
abbrev pub IsInput : List Cue → Cue → Type 0
IsInput [] cue = ⊥
IsInput (first ∷ others) cue = (first ≡ cue) ⊎ IsInput others cue

-- a fragment of the value of a put or a swap
pub record IsPutFragment (p : Params) (t : List Deed) (bytes : List ℕ) : Type 0 where
  pub client : ℕ
  pub op : ℕ
  pub start : Start
  pub began : start_of client op t ≡ Some start
  pub value : List ℕ
  pub stores : value_of start.action ≡ Some value
  pub cloud : ℕ
  pub within : cloud < cloud_count p.f p.k
  pub is : fragment_of value p.k cloud ≡ bytes

-- the bytes of a cloud's answer that an operation took
pub record IsHandedBody (t : List Deed) (bytes : List ℕ) : Type 0 where
  pub client : ℕ
  pub op : ℕ
  pub reply : CloudReply
  pub input : IsInput (inputs_of client op t) (cues.Cloud reply)
  pub body : reply.say ≡ Body bytes

-- a string that is hashed
abbrev pub IsHashed : Params → List Deed → List ℕ → Type 0
IsHashed p t bytes = IsPutFragment p t bytes ⊎ IsHandedBody t bytes

-- no two strings that are hashed have one hash
abbrev pub IsCollisionFree : Params → List Deed → Type 0
IsCollisionFree p t = (x y : List ℕ) → IsHashed p t x → IsHashed p t y → sha256 x ≡ sha256 y → x ≡ y

-- the values of puts and swaps consist of bytes
abbrev pub ArePutBytes : List Deed → Type 0
ArePutBytes t = (c o : ℕ) (s : Start) (value : List ℕ) → start_of c o t ≡ Some s → value_of s.action ≡ Some value → AreElements IsElement value

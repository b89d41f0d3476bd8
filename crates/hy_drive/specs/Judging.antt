-- What the bytes of a cloud's answer come to.
use Rattle.std.specs.Prelude.{◌≡◌, ℕ, List, [], ◌∷◌, Option, Some, None}
use Rattle.hy_record.specs.declared.cloud.CloudAct.{CloudAct}
use Rattle.hy_record.specs.declared.cloud.CloudAct.TheVariants as acts
use Rattle.hy_record.specs.declared.cloud.CloudSay.{CloudSay}
use Rattle.hy_record.specs.declared.cloud.CloudSay.TheVariants.{Bad}
use Rattle.hy_cwire.specs.declared.kind.WishKind.{WishKind}
use Rattle.hy_cwire.specs.declared.kind.WishKind.TheVariants as kinds
use Rattle.hy_cwire.specs.declared.progress.Progress.{Progress}
use Rattle.hy_cwire.specs.declared.progress.Progress.TheVariants.{Head, Body, Given, Broken}
use Rattle.hy_cwire.specs.declared.say_head.SayHead.{SayHead}
use Rattle.hy_cwire.specs.Readers.{IsSayAt}
use Rattle.hy_cwire.specs.Says.{say_in}
use Rattle.hy_cwire.specs.Stages.{IsOpen}
use Rattle.hy_drive.specs.State.{DriveState, Waiting, nothing, closing, with_line, answer_to}

-- the method of a request
abbrev pub kind_of : CloudAct → WishKind
kind_of (acts.Put bytes) = kinds.Put
kind_of acts.Get = kinds.Get
kind_of acts.Delete = kinds.Delete

-- none while the answer is not whole; a fault of it is an answer that could not be read
abbrev pub answer_in : WishKind → Progress SayHead → Option CloudSay
answer_in asked (Head front) = None
answer_in asked (Body head body) = say_in asked head body
answer_in asked Given = None
answer_in asked (Broken wrong) = Some (Bad 0)

-- these bytes, behind which more may come, come to this answer to a request of this method
pub record ComesTo (asked : WishKind) (bytes : List ℕ) (answer : Option CloudSay) : Type 0 where
  pub progress : Progress SayHead
  pub at : IsSayAt bytes progress
  pub open_still : IsOpen progress
  pub is : answer ≡ answer_in asked progress

-- the connection waits on; or it gave its answer, is to be closed, and counts no more
abbrev pub judged : DriveState → ℕ → Waiting → Option CloudSay → DriveState
judged state conn waiting None = record state { pending = nothing }
judged state conn waiting (Some say) = record (with_line state conn None) {
  pending = closing conn;
  inputs = answer_to waiting.ask say ∷ [];
}

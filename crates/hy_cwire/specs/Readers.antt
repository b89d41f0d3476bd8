-- What the readers of requests and of answers stand for.
use Rattle.std.specs.Prelude.{ℕ, List, Option, Result}
use Rattle.hy_record.specs.declared.cloud.CloudSay.{CloudSay}
use Rattle.hy_cwire.specs.declared.kind.WishKind.{WishKind}
use Rattle.hy_cwire.specs.declared.fault.HttpFault.{HttpFault}
use Rattle.hy_cwire.specs.declared.ask_head.AskHead.{AskHead}
use Rattle.hy_cwire.specs.declared.say_head.SayHead.{SayHead}
use Rattle.hy_cwire.specs.declared.progress.Progress.{Progress}
use Rattle.hy_cwire.specs.Stages.{IsAt, next_answer}
use Rattle.hy_cwire.specs.Asks.{AskComesTo}
use Rattle.hy_cwire.specs.Says.{SayComesTo, say_in}

abbrev pub ask_body_size : AskHead → ℕ
ask_body_size head = head.size

abbrev pub say_body_size : SayHead → ℕ
say_body_size head = head.size

-- so far a request came of which these bytes were taken
abbrev pub IsAskAt : List ℕ → Progress AskHead → Type 0
IsAskAt bytes progress = IsAt AskComesTo ask_body_size bytes progress

-- so far an answer came of which these bytes were taken
abbrev pub IsSayAt : List ℕ → Progress SayHead → Type 0
IsSayAt bytes progress = IsAt SayComesTo say_body_size bytes progress

-- what was asked, and how far the answer came
pub record Answering : Type 0 where
  pub asked : WishKind
  pub progress : Progress SayHead

-- the answer that is given next
abbrev pub next_say : Answering → Result (Option CloudSay) HttpFault
next_say answering = next_answer (say_in answering.asked) answering.progress

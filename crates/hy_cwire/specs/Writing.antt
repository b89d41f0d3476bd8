-- The bytes of requests and of answers.
use Rattle.std.specs.Prelude.{◌≡◌, ℕ, ◌≤◌, ◌⊎◌, IsTrue, true, false, ◌==◌, List, [], ◌++◌, length, codes, if◌then◌else◌, ⊤}
use Rattle.std.specs.Fmt.{decimal}
use Rattle.hy_base.specs.declared.limits.TheConstants.{MAX_VALUE}
use Rattle.hy_record.specs.declared.cloud.CloudAct.{CloudAct}
use Rattle.hy_record.specs.declared.cloud.CloudAct.TheVariants as acts
use Rattle.hy_record.specs.declared.cloud.CloudSay.{CloudSay}
use Rattle.hy_record.specs.declared.cloud.CloudSay.TheVariants.{Stored, Conflict, Body, Missing, Gone, Bad}
use Rattle.hy_record.specs.declared.cloud.Wish.{Wish}
use Rattle.hy_record.specs.Key.{is_key}
use Rattle.hy_record.specs.Name.{object_name}
use Rattle.hy_record.specs.Stamp.{IsStamp}
use Rattle.hy_cwire.specs.declared.kind.WishKind.{WishKind}
use Rattle.hy_cwire.specs.declared.kind.WishKind.TheVariants as kinds

-- the rest of the first line, and the host
abbrev pub host_line : ℕ → List ℕ
host_line port = codes " HTTP/1.1\r\nHost: 127.0.0.1:" ++ (decimal port ++ codes "\r\n")

abbrev pub length_line : ℕ → List ℕ
length_line size = codes "Content-Length: " ++ (decimal size ++ codes "\r\n")

-- the last field, and the empty line that ends the head
abbrev pub close_lines : List ℕ
close_lines = codes "Connection: close\r\n\r\n"

-- the first line of an answer
abbrev pub head_line : List ℕ → List ℕ
head_line status = codes "HTTP/1.1 " ++ (status ++ codes "\r\n")

-- what a put has behind its first lines: its length, and its bytes
abbrev pub act_bytes : CloudAct → List ℕ → List ℕ
act_bytes (acts.Put body) start = codes "PUT " ++ (start ++ (length_line (length body) ++ (close_lines ++ body)))
act_bytes acts.Get start = codes "GET " ++ (start ++ close_lines)
act_bytes acts.Delete start = codes "DELETE " ++ (start ++ close_lines)

-- a request
abbrev pub ask_bytes : Wish → ℕ → List ℕ
ask_bytes wish port = act_bytes wish.act (object_name wish.key wish.stamp ++ host_line port)

-- an answer of this status with this body
abbrev pub answer_bytes : List ℕ → List ℕ → List ℕ
answer_bytes status body = head_line status ++ (length_line (length body) ++ (close_lines ++ body))

abbrev pub bare_answer : List ℕ
bare_answer = codes "HTTP/1.1 204 No Content\r\n" ++ close_lines

-- the statuses of requests that are refused
abbrev pub refusal : ℕ → List ℕ
refusal status =
    if status == 411 then codes "411 Length Required"
    else if status == 413 then codes "413 Content Too Large"
    else if status == 501 then codes "501 Not Implemented"
    else codes "400 Bad Request"

-- an answer
abbrev pub say_bytes : CloudSay → List ℕ
say_bytes (Stored true) = answer_bytes (codes "201 Created") []
say_bytes (Stored false) = answer_bytes (codes "200 OK") []
say_bytes Conflict = answer_bytes (codes "409 Conflict") []
say_bytes (Body body) = answer_bytes (codes "200 OK") body
say_bytes Missing = answer_bytes (codes "404 Not Found") []
say_bytes Gone = bare_answer
say_bytes (Bad status) = answer_bytes (refusal status) []

-- a put has at most the bytes of a value
abbrev pub IsSendableAct : CloudAct → Type 0
IsSendableAct (acts.Put body) = length body ≤ MAX_VALUE
IsSendableAct acts.Get = ⊤
IsSendableAct acts.Delete = ⊤

-- an answer that the profile writes
abbrev pub IsSendableSay : CloudSay → Type 0
IsSendableSay (Stored fresh) = ⊤
IsSendableSay Conflict = ⊤
IsSendableSay (Body body) = length body ≤ MAX_VALUE
IsSendableSay Missing = ⊤
IsSendableSay Gone = ⊤
IsSendableSay (Bad status) = (status ≡ 400) ⊎ (status ≡ 411) ⊎ (status ≡ 413) ⊎ (status ≡ 501)

-- the parts of a request that can be written
pub record IsSendable (wish : Wish) : Type 0 where
  pub spelled : IsTrue (is_key wish.key)
  pub ranged : IsStamp wish.stamp
  pub fits : IsSendableAct wish.act

-- a request of this kind is answered so; refusals answer every kind
abbrev pub IsAnswerTo : WishKind → CloudSay → Type 0
IsAnswerTo asked (Stored fresh) = asked ≡ kinds.Put
IsAnswerTo asked Conflict = asked ≡ kinds.Put
IsAnswerTo asked (Body body) = asked ≡ kinds.Get
IsAnswerTo asked Missing = asked ≡ kinds.Get
IsAnswerTo asked Gone = asked ≡ kinds.Delete
IsAnswerTo asked (Bad status) = ⊤

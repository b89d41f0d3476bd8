-- What the head of an answer comes to.
use Rattle.std.specs.Prelude.{◌≡◌, ℕ, ◌&&◌, ◌||◌, ◌==◌, nat_le, nat_lt, Bool, true, false, List, [], map, length, Option, Some, None, Result, Ok, Err, if◌then◌else◌, ◌⊎◌}
use Rattle.httparse.specs.declared.spans.HeaderSpan.{HeaderSpan}
use Rattle.httparse.specs.Grammar.{ResponseHead, ReadsResponse, status_code}
use Rattle.httparse.specs.Spans.{name_and_value, IsResponseAt, IsResponseWithin}
use Rattle.hy_base.specs.declared.limits.TheConstants.{MAX_VALUE}
use Rattle.hy_record.specs.declared.cloud.CloudSay.{CloudSay}
use Rattle.hy_record.specs.declared.cloud.CloudSay.TheVariants.{Stored, Conflict, Body, Missing, Gone, Bad}
use Rattle.hy_cwire.specs.declared.kind.WishKind.{WishKind}
use Rattle.hy_cwire.specs.declared.kind.WishKind.TheVariants.{Put, Get, Delete}
use Rattle.hy_cwire.specs.declared.say_head.SayHead.{SayHead}
use Rattle.hy_cwire.specs.declared.say_head.ResponseSearch.{ResponseSearch}
use Rattle.hy_cwire.specs.declared.say_head.ResponseSearch.TheVariants as searches
use Rattle.hy_cwire.specs.declared.fault.HttpFault.{HttpFault}
use Rattle.hy_cwire.specs.declared.fault.HttpFault.TheVariants.{NotHead}
use Rattle.hy_cwire.specs.Lengths.{body_size, no_body}

-- answers of these statuses have no body: 1xx, 204 and 304
abbrev pub is_bare : ℕ → Bool
is_bare status = (nat_le 100 status && nat_lt status 200) || (status == 204) || (status == 304)

-- the size of the body
abbrev pub say_size : ResponseHead → Result ℕ HttpFault
say_size h =
    if is_bare (status_code h) then no_body (map name_and_value h.fields)
    else body_size true MAX_VALUE (map name_and_value h.fields)

-- what the head comes to
abbrev pub JudgesSay : ResponseHead → Result SayHead HttpFault → Type 0
JudgesSay h (Ok head) = (head.status ≡ status_code h) × (say_size h ≡ Ok head.size)
JudgesSay h (Err fault) = say_size h ≡ Err fault

-- what the block comes to: that of the head that it is, or that it is none
abbrev pub SayComesTo : List ℕ → Result SayHead HttpFault → Type 0
SayComesTo block result =
    ((h : ResponseHead) × ReadsResponse block h [] × JudgesSay h result)
    ⊎ (((h : ResponseHead) → ¬ (ReadsResponse block h [])) × (result ≡ Err (NotHead (length block))))

-- what is found is the block's head, whose parts the spans cover
abbrev pub FindsResponse : List ℕ → List HeaderSpan → ResponseSearch → Type 0
FindsResponse block headers (searches.Found spans) =
    IsResponseWithin block headers spans
    × (h : ResponseHead) × ReadsResponse block h [] × IsResponseAt block headers spans h
FindsResponse block headers searches.NoHead = Unit {0}
FindsResponse block headers searches.NoRoom = Unit {0}

-- what an answer of this status means to a put
abbrev pub put_say : ℕ → CloudSay
put_say status =
    if status == 201 then Stored true
    else if (status == 200) || (status == 204) then Stored false
    else if status == 409 then Conflict
    else Bad status

-- to a get, with its body
abbrev pub get_say : ℕ → List ℕ → CloudSay
get_say status body = if status == 200 then Body body else if status == 404 then Missing else Bad status

-- to a delete
abbrev pub delete_say : ℕ → CloudSay
delete_say status = if (status == 200) || (status == 204) || (status == 404) then Gone else Bad status

-- what an answer means, by the kind of the request
abbrev pub say_of : WishKind → ℕ → List ℕ → CloudSay
say_of Put status body = put_say status
say_of Get status body = get_say status body
say_of Delete status body = delete_say status

-- the body is whole
abbrev pub say_in : WishKind → SayHead → List ℕ → Option CloudSay
say_in asked head body = if nat_lt (length body) head.size then None else Some (say_of asked head.status body)

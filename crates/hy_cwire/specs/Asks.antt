-- What the head of a request comes to.
use Rattle.std.specs.Prelude.{◌≡◌, ℕ, Bool, true, false, bytes_eq, List, [], map, length, Option, Some, None, Result, Ok, Err, IsTrue, codes, if◌then◌else◌, nat_lt, ◌⊎◌}
use Rattle.httparse.specs.declared.spans.HeaderSpan.{HeaderSpan}
use Rattle.httparse.specs.Grammar.{RequestHead, ReadsRequest}
use Rattle.httparse.specs.Spans.{name_and_value, IsRequestAt, IsRequestWithin}
use Rattle.hy_base.specs.declared.limits.TheConstants.{MAX_VALUE}
use Rattle.hy_record.specs.Key.{is_key}
use Rattle.hy_record.specs.Name.{object_name}
use Rattle.hy_record.specs.Stamp.{Timestamp, IsStamp}
use Rattle.hy_record.specs.declared.cloud.CloudAct.{CloudAct}
use Rattle.hy_record.specs.declared.cloud.CloudAct.TheVariants as acts
use Rattle.hy_record.specs.declared.cloud.Wish.{Wish}
use Rattle.hy_cwire.specs.declared.ask_head.AskHead.{AskHead}
use Rattle.hy_cwire.specs.declared.ask_head.RequestSearch.{RequestSearch}
use Rattle.hy_cwire.specs.declared.ask_head.RequestSearch.TheVariants as searches
use Rattle.hy_cwire.specs.declared.fault.HttpFault.{HttpFault}
use Rattle.hy_cwire.specs.declared.fault.HttpFault.TheVariants.{NotHead, BadMethod, BadTarget}
use Rattle.hy_cwire.specs.declared.kind.WishKind.{WishKind}
use Rattle.hy_cwire.specs.declared.kind.WishKind.TheVariants.{Put, Get, Delete}
use Rattle.hy_cwire.specs.Lengths.{body_size}

-- what the method asks for
abbrev pub kind_named : List ℕ → Option WishKind
kind_named method =
    if bytes_eq method (codes "PUT") then Some Put
    else if bytes_eq method (codes "GET") then Some Get
    else if bytes_eq method (codes "DELETE") then Some Delete
    else None

abbrev pub kind_or_fault : Option WishKind → Result WishKind HttpFault
kind_or_fault (Some kind) = Ok kind
kind_or_fault None = Err BadMethod

-- only what is put has a body, and needs its length
abbrev pub has_body : WishKind → Bool
has_body Put = true
has_body Get = false
has_body Delete = false

abbrev pub most_bytes : WishKind → ℕ
most_bytes Put = MAX_VALUE
most_bytes Get = 0
most_bytes Delete = 0

-- the size of the body
abbrev pub ask_size : WishKind → RequestHead → Result ℕ HttpFault
ask_size kind h = body_size (has_body kind) (most_bytes kind) (map name_and_value h.fields)

-- the target is the name of the object of this key and timestamp
pub record IsName (target key : List ℕ) (stamp : Timestamp) : Type 0 where
  pub spelled : IsTrue (is_key key)
  pub ranged : IsStamp stamp
  pub named : target ≡ object_name key stamp

-- the object that the target names, if it names one
abbrev pub NameIs : List ℕ → Option (List ℕ × Timestamp) → Type 0
NameIs target (Some name) = IsName target name.0 name.1
NameIs target None = (key : List ℕ) (stamp : Timestamp) → ¬ (IsName target key stamp)

abbrev pub with_size : WishKind → List ℕ × Timestamp → Result ℕ HttpFault → Result AskHead HttpFault
with_size kind name (Ok size) = Ok (record { kind = kind; key = name.0; stamp = name.1; size = size })
with_size kind name (Err fault) = Err fault

abbrev pub ask_of : WishKind → Option (List ℕ × Timestamp) → RequestHead → Result AskHead HttpFault
ask_of kind None h = Err BadTarget
ask_of kind (Some name) h = with_size kind name (ask_size kind h)

abbrev pub JudgesKind : Option WishKind → RequestHead → Result AskHead HttpFault → Type 0
JudgesKind None h result = result ≡ Err BadMethod
JudgesKind (Some kind) h result =
    (name : Option (List ℕ × Timestamp)) × NameIs h.target name × (result ≡ ask_of kind name h)

-- what the head comes to: the first fault in the order of method, target and body
abbrev pub JudgesAsk : RequestHead → Result AskHead HttpFault → Type 0
JudgesAsk h result = JudgesKind (kind_named h.method) h result

-- what the block comes to: that of the head that it is, or that it is none
abbrev pub AskComesTo : List ℕ → Result AskHead HttpFault → Type 0
AskComesTo block result =
    ((h : RequestHead) × ReadsRequest block h [] × JudgesAsk h result)
    ⊎ (((h : RequestHead) → ¬ (ReadsRequest block h [])) × (result ≡ Err (NotHead (length block))))

-- what is found is the block's head, whose parts the spans cover
abbrev pub FindsRequest : List ℕ → List HeaderSpan → RequestSearch → Type 0
FindsRequest block headers (searches.Found spans) =
    IsRequestWithin block headers spans
    × (h : RequestHead) × ReadsRequest block h [] × IsRequestAt block headers spans h
FindsRequest block headers searches.NoHead = Unit {0}
FindsRequest block headers searches.NoRoom = Unit {0}

-- what the method asks for, with the body where it has one
abbrev pub act_of : WishKind → List ℕ → CloudAct
act_of Put body = acts.Put body
act_of Get body = acts.Get
act_of Delete body = acts.Delete

-- the request that the head and the body are
abbrev pub wish_of : AskHead → List ℕ → Wish
wish_of head body = record { key = head.key; stamp = head.stamp; act = act_of head.kind body }

-- the body is whole
abbrev pub wish_in : AskHead → List ℕ → Option Wish
wish_in head body = if nat_lt (length body) head.size then None else Some (wish_of head body)

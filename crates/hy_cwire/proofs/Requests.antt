-- A written request is a head of the grammar and its body, and comes to what was written.
use Rattle.std.proofs.Common.{◌≡◌, ◌≢◌, ℕ, ◌^◌, ◌<◌, ◌≤◌, true, false, List, [], ◌∷◌, ◌++◌, length, take, All, refl, sym, ap, subst, ◌∙◌, append_assoc, arith, codes, Option, Some, None, Ok, inl}
use Rattle.std.specs.Prelude.{map, nat_lt}
use Rattle.std.specs.List.{list_all}
use Rattle.std.specs.Fmt.{decimal}
use Rattle.std.proofs.lemmas.Bool.Decides.{nat_tests}
use Rattle.std.proofs.lemmas.Fmt.{length-decimal-le}
use Rattle.std.proofs.lemmas.List.{append-nil, take_at, length-append}
use Rattle.std.proofs.lemmas.List.Elements.{All-nil, All-cons, All-append}
use Rattle.std.proofs.lemmas.List.Sums.{AllPass-from_list_all}
use Rattle.httparse.specs.Grammar.{is_token_byte, is_uri_byte, is_value_byte, IsToken, crlf, Field, IsField, RequestHead, IsRequestHead, print_request, print_section}
use Rattle.httparse.specs.Spans.{name_and_value}
use Rattle.httparse.proofs.GrammarLemmas.{cons-append}
use Rattle.hy_base.specs.declared.limits.TheConstants.{MAX_VALUE}
use Rattle.hy_record.specs.Key.{is_key}
use Rattle.hy_record.specs.Name.{object_name}
use Rattle.hy_record.specs.Stamp.{Timestamp}
use Rattle.hy_record.specs.declared.cloud.CloudAct.{CloudAct}
use Rattle.hy_record.specs.declared.cloud.CloudAct.TheVariants as acts
use Rattle.hy_record.specs.declared.cloud.Wish.{Wish}
use Rattle.hy_cwire.specs.declared.ask_head.AskHead.{AskHead}
use Rattle.hy_cwire.specs.declared.block.TheConstants.{MAX_HEAD}
use Rattle.hy_cwire.specs.declared.kind.WishKind.{WishKind}
use Rattle.hy_cwire.specs.declared.kind.WishKind.TheVariants.{Put, Get, Delete}
use Rattle.hy_cwire.specs.declared.progress.Progress.TheVariants.{Body}
use Rattle.hy_cwire.specs.Block.{IsBlock}
use Rattle.hy_cwire.specs.Lengths.{values_named, size_by, length_of, at_most}
use Rattle.hy_cwire.specs.Readers.{IsAskAt, ask_body_size}
use Rattle.hy_cwire.specs.Asks.{kind_named, has_body, most_bytes, ask_size, with_size, IsName, AskComesTo, JudgesKind, JudgesAsk, wish_in}
use Rattle.hy_cwire.specs.Writing.{IsSendable, IsSendableAct, ask_bytes, act_bytes, host_line}
use Rattle.hy_cwire.proofs.Heads.{plain_head, IsPlain, ArePlain, HasNoFeed, passes-no-feed, token-no-feed, one-no-feed, both-no-feed, head-block}
use Rattle.hy_cwire.proofs.Stages.{begun-at}
use Rattle.hy_cwire.proofs.Literals.{digits-value, value-digits, length_of-decimal, name-uri, name-text, length-name}

-- ---- the fields

pub host_field : ℕ → Field
host_field port = record { name = codes "Host"; raw = codes " 127.0.0.1:" ++ decimal port; end = crlf }

unfoldable pub length_field : ℕ → Field
length_field size = record { name = codes "Content-Length"; raw = 32 ∷ decimal size; end = crlf }

unfoldable pub close_field : Field
close_field = record { name = codes "Connection"; raw = codes " close"; end = crlf }

pub token : (text : List ℕ) → 0 < length text → list_all is_token_byte text ≡ true → IsToken text
token text some all = (some, AllPass-from_list_all is_token_byte text all)

host-plain : (port : ℕ) → port < 2 ^ 64 → IsPlain (host_field port)
unfolding host_field is_token_byte
host-plain port fits =
    let P : ℕ → Type 0 = λ b. is_value_byte b ≡ true in
    let start = AllPass-from_list_all is_value_byte (codes " 127.0.0.1:") refl in
    record {
      field = record { name = token (codes "Host") (omega arith) refl; raw = All-append P (codes " 127.0.0.1:") (decimal port) start (digits-value port fits) };
      end = refl;
    }

pub length-plain : (size : ℕ) → size < 2 ^ 64 → IsPlain (length_field size)
unfolding length_field is_token_byte
length-plain size fits =
    let P : ℕ → Type 0 = λ b. is_value_byte b ≡ true in
    let start = AllPass-from_list_all is_value_byte (codes " ") refl in
    record {
      field = record { name = token (codes "Content-Length") (omega arith) refl; raw = All-append P (codes " ") (decimal size) start (digits-value size fits) };
      end = refl;
    }

pub close-plain : IsPlain close_field
unfolding close_field is_token_byte
close-plain = record {
  field = record { name = token (codes "Connection") (omega arith) refl; raw = AllPass-from_list_all is_value_byte (codes " close") refl };
  end = refl;
}

-- the fields of a request, with its length where it has one
fields_of : ℕ → Option ℕ → List Field
fields_of port None = host_field port ∷ close_field ∷ []
fields_of port (Some size) = host_field port ∷ length_field size ∷ close_field ∷ []

-- a length of a body fits
IsShort : Option ℕ → Type 0
IsShort None = Unit {0}
IsShort (Some size) = size ≤ MAX_VALUE

fields-plain : (port : ℕ) (size : Option ℕ) → port < 2 ^ 16 → IsShort size → ArePlain (fields_of port size)
unfolding fields_of IsShort
fields-plain port None fits short = (host-plain port (omega (arith, fits)), (close-plain, tt))
fields-plain port (Some size) fits short = (host-plain port (omega (arith, fits)), (length-plain size (omega (arith, short)), (close-plain, tt)))

-- what the fields say of the body
no-coding : (port : ℕ) (size : Option ℕ) → values_named (codes "transfer-encoding") (map name_and_value (fields_of port size)) ≡ []
unfolding fields_of host_field length_field close_field values_named
no-coding port None = refl
no-coding port (Some size) = refl

lengths_of : Option ℕ → List (List ℕ)
lengths_of None = []
lengths_of (Some size) = decimal size ∷ []

lengths-named : (port : ℕ) (size : Option ℕ) → IsShort size → values_named (codes "content-length") (map name_and_value (fields_of port size)) ≡ lengths_of size
unfolding fields_of host_field length_field close_field values_named lengths_of IsShort
lengths-named port None short = refl
lengths-named port (Some size) short = ap (λ (v : List ℕ). v ∷ []) (value-digits size (omega (arith, short)))

-- ---- the head

pub method_of : WishKind → List ℕ
method_of Put = codes "PUT"
method_of Get = codes "GET"
method_of Delete = codes "DELETE"

method-token : (kind : WishKind) → IsToken (method_of kind)
unfolding method_of is_token_byte
method-token Put = token (codes "PUT") (omega arith) refl
method-token Get = token (codes "GET") (omega arith) refl
method-token Delete = token (codes "DELETE") (omega arith) refl

pub start_of : WishKind → List ℕ → List ℕ
start_of kind name = (method_of kind ++ 32 ∷ name) ++ 32 ∷ codes "HTTP/1.1"

head_of : WishKind → List ℕ → List Field → RequestHead
head_of kind name fields = record { blank = []; method = method_of kind; target = name; minor = 1; line_end = crlf; fields = fields; last = crlf }

head-printed : (kind : WishKind) (name : List ℕ) (fields : List Field) → print_request (head_of kind name fields) ≡ plain_head (start_of kind name) fields
unfolding head_of start_of print_request
head-printed kind name fields = refl

pub plain-fields : (fields : List Field) → ArePlain fields → All IsField fields
plain-fields [] plain = All-nil IsField
plain-fields (f ∷ fields) plain = All-cons IsField f fields plain.0.field (plain-fields fields plain.1)

head-is : (kind : WishKind) (key : List ℕ) (stamp : Timestamp) (fields : List Field) → is_key key ≡ true → ArePlain fields → IsRequestHead (head_of kind (object_name key stamp) fields)
unfolding head_of
head-is kind key stamp fields spelled plain = record {
  method = method-token kind;
  target = (omega arith, name-uri key stamp spelled);
  target_text = name-text key stamp spelled;
  minor = omega arith;
  fields = plain-fields fields plain;
}

-- ---- what the head comes to

-- what is put has a length, and nothing else has
pub size_in : CloudAct → Option ℕ
size_in (acts.Put body) = Some (length body)
size_in acts.Get = None
size_in acts.Delete = None

pub kind_in : CloudAct → WishKind
kind_in (acts.Put body) = Put
kind_in acts.Get = Get
kind_in acts.Delete = Delete

pub body_in : CloudAct → List ℕ
body_in (acts.Put body) = body
body_in acts.Get = []
body_in acts.Delete = []

act-short : (act : CloudAct) → IsSendableAct act → IsShort (size_in act)
unfolding size_in IsShort
act-short (acts.Put body) fits = fits
act-short acts.Get fits = tt
act-short acts.Delete fits = tt

size-by : (act : CloudAct) → IsSendableAct act → size_by (has_body (kind_in act)) (most_bytes (kind_in act)) (lengths_of (size_in act)) ≡ Ok (length (body_in act))
unfolding size_in kind_in body_in lengths_of
size-by (acts.Put body) fits =
    let number : length_of (decimal (length body)) ≡ Some (length body) = length_of-decimal (length body) (omega (arith, fits)) in
    let small : nat_lt MAX_VALUE (length body) ≡ false = let h = fits in grind (arith, nat_tests) in
    ap (at_most MAX_VALUE) number ∙ rw small refl
size-by acts.Get fits = refl
size-by acts.Delete fits = refl

size-judged : (act : CloudAct) (name : List ℕ) (port : ℕ) → IsSendableAct act → ask_size (kind_in act) (head_of (kind_in act) name (fields_of port (size_in act))) ≡ Ok (length (body_in act))
unfolding head_of
size-judged act name port fits =
    rw (no-coding port (size_in act), lengths-named port (size_in act) (act-short act fits)) (size-by act fits)

kind-read : (kind : WishKind) → kind_named (method_of kind) ≡ Some kind
unfolding method_of
kind-read Put = refl
kind-read Get = refl
kind-read Delete = refl

-- what is read of the head
pub ask_head_of : Wish → AskHead
ask_head_of wish = record { kind = kind_in wish.act; key = wish.key; stamp = wish.stamp; size = length (body_in wish.act) }

pub block_of : Wish → ℕ → List ℕ
block_of wish port = plain_head (start_of (kind_in wish.act) (object_name wish.key wish.stamp)) (fields_of port (size_in wish.act))

head-judged : (wish : Wish) (port : ℕ) → IsSendable wish → JudgesAsk (head_of (kind_in wish.act) (object_name wish.key wish.stamp) (fields_of port (size_in wish.act))) (Ok (ask_head_of wish))
unfolding head_of ask_head_of
head-judged wish port fits =
    let kind = kind_in wish.act in
    let h = head_of kind (object_name wish.key wish.stamp) (fields_of port (size_in wish.act)) in
    let named : IsName (object_name wish.key wish.stamp) wish.key wish.stamp = record { spelled = fits.spelled; ranged = fits.ranged; named = refl } in
    let size = size-judged wish.act (object_name wish.key wish.stamp) port fits.fits in
    let judged : JudgesKind (Some kind) h (Ok (ask_head_of wish)) = (Some (wish.key, wish.stamp), named, ap (with_size kind (wish.key, wish.stamp)) (sym size)) in
    subst (λ (k : Option WishKind). JudgesKind k h (Ok (ask_head_of wish))) (sym (kind-read kind)) judged

-- the block comes to what was written
pub block-comes-to : (wish : Wish) (port : ℕ) → IsSendable wish → port < 2 ^ 16 → AskComesTo (block_of wish port) (Ok (ask_head_of wish))
unfolding block_of
block-comes-to wish port fits small =
    let kind = kind_in wish.act in
    let name = object_name wish.key wish.stamp in
    let fields = fields_of port (size_in wish.act) in
    let plain = fields-plain port (size_in wish.act) small (act-short wish.act fits.fits) in
    let printed : block_of wish port ≡ print_request (head_of kind name fields) ++ [] = sym (head-printed kind name fields) ∙ sym (append-nil (print_request (head_of kind name fields))) in
    inl (head_of kind name fields, (head-is kind wish.key wish.stamp fields fits.spelled plain, printed), head-judged wish port fits)

-- ---- the bytes

without-length : (p n v hn hv d cn cv : List ℕ)
    → (p ++ 32 ∷ []) ++ ((n ++ ((32 ∷ (v ++ 13 ∷ 10 ∷ (hn ++ 58 ∷ hv))) ++ (d ++ 13 ∷ 10 ∷ []))) ++ (cn ++ 58 ∷ (cv ++ 13 ∷ 10 ∷ 13 ∷ 10 ∷ [])))
    ≡ (((p ++ 32 ∷ n) ++ 32 ∷ v) ++ 13 ∷ 10 ∷ []) ++ ((((hn ++ 58 ∷ (hv ++ d)) ++ 13 ∷ 10 ∷ []) ++ (((cn ++ 58 ∷ cv) ++ 13 ∷ 10 ∷ []) ++ [])) ++ 13 ∷ 10 ∷ [])
without-length p n v hn hv d cn cv = simp (append_assoc, cons-append)

with-length : (p n v hn hv d ln l cn cv body : List ℕ)
    → (p ++ 32 ∷ []) ++ ((n ++ ((32 ∷ (v ++ 13 ∷ 10 ∷ (hn ++ 58 ∷ hv))) ++ (d ++ 13 ∷ 10 ∷ []))) ++ (((ln ++ 58 ∷ 32 ∷ []) ++ (l ++ 13 ∷ 10 ∷ [])) ++ ((cn ++ 58 ∷ (cv ++ 13 ∷ 10 ∷ 13 ∷ 10 ∷ [])) ++ body)))
    ≡ ((((p ++ 32 ∷ n) ++ 32 ∷ v) ++ 13 ∷ 10 ∷ []) ++ ((((hn ++ 58 ∷ (hv ++ d)) ++ 13 ∷ 10 ∷ []) ++ (((ln ++ 58 ∷ 32 ∷ l) ++ 13 ∷ 10 ∷ []) ++ (((cn ++ 58 ∷ cv) ++ 13 ∷ 10 ∷ []) ++ []))) ++ 13 ∷ 10 ∷ [])) ++ body
with-length p n v hn hv d ln l cn cv body = simp (append_assoc, cons-append)

parts-of : (name : List ℕ) (port : ℕ) (act : CloudAct) → act_bytes act (name ++ host_line port) ≡ plain_head (start_of (kind_in act) name) (fields_of port (size_in act)) ++ body_in act
unfolding start_of method_of fields_of host_field length_field close_field kind_in size_in body_in
parts-of name port (acts.Put body) = with-length (codes "PUT") name (codes "HTTP/1.1") (codes "Host") (codes " 127.0.0.1:") (decimal port) (codes "Content-Length") (decimal (length body)) (codes "Connection") (codes " close") body
parts-of name port acts.Get = without-length (codes "GET") name (codes "HTTP/1.1") (codes "Host") (codes " 127.0.0.1:") (decimal port) (codes "Connection") (codes " close") ∙ sym (append-nil _)
parts-of name port acts.Delete = without-length (codes "DELETE") name (codes "HTTP/1.1") (codes "Host") (codes " 127.0.0.1:") (decimal port) (codes "Connection") (codes " close") ∙ sym (append-nil _)

-- a written request is its block and its body
pub ask-parts : (wish : Wish) (port : ℕ) → ask_bytes wish port ≡ block_of wish port ++ body_in wish.act
unfolding block_of
ask-parts wish port = parts-of (object_name wish.key wish.stamp) port wish.act

-- ---- the block

start-no-feed : (kind : WishKind) (key : List ℕ) (stamp : Timestamp) → is_key key ≡ true → HasNoFeed (start_of kind (object_name key stamp))
unfolding start_of is_token_byte
start-no-feed kind key stamp spelled =
    let space : 32 ≢ 10 = λ e. omega (arith, e) in
    let name : HasNoFeed (object_name key stamp) = passes-no-feed is_uri_byte (object_name key stamp) refl (name-uri key stamp spelled) in
    let version : HasNoFeed (codes "HTTP/1.1") = passes-no-feed is_value_byte (codes "HTTP/1.1") refl (AllPass-from_list_all is_value_byte (codes "HTTP/1.1") refl) in
    both-no-feed (method_of kind ++ 32 ∷ object_name key stamp) (32 ∷ codes "HTTP/1.1")
    (both-no-feed (method_of kind) (32 ∷ object_name key stamp) (token-no-feed (method_of kind) (method-token kind).1) (one-no-feed 32 (object_name key stamp) space name))
    (one-no-feed 32 (codes "HTTP/1.1") space version)

method-short : (kind : WishKind) → length (method_of kind) ≤ 6
unfolding method_of
method-short Put = omega arith
method-short Get = omega arith
method-short Delete = omega arith

fields-short : (port : ℕ) (size : Option ℕ) → port < 2 ^ 16 → IsShort size → length (print_section (fields_of port size) crlf) ≤ 200
unfolding fields_of host_field length_field close_field IsShort
fields-short port None fits short =
    let digits = length-decimal-le 5 port (omega arith) (omega (arith, fits)) (omega (arith, fits)) in
    simp length-append (omega (arith, digits))
fields-short port (Some size) fits short =
    let digits = length-decimal-le 5 port (omega arith) (omega (arith, fits)) (omega (arith, fits)) in
    let sizes = length-decimal-le 7 size (omega arith) (omega (arith, short)) (omega (arith, short)) in
    simp length-append (omega (arith, digits, sizes))

start-short : (kind : WishKind) (key : List ℕ) (stamp : Timestamp) → is_key key ≡ true → (0 < length (start_of kind (object_name key stamp))) × (length (start_of kind (object_name key stamp)) ≤ 100)
unfolding start_of
start-short kind key stamp spelled =
    let name = length-name key stamp spelled in
    let method = method-short kind in
    let size = length-append (method_of kind ++ 32 ∷ object_name key stamp) (32 ∷ codes "HTTP/1.1") in
    let front = length-append (method_of kind) (32 ∷ object_name key stamp) in
    (omega (arith, size, front), omega (arith, size, front, name, method))

pub ask-block : (wish : Wish) (port : ℕ) (behind : List ℕ) → IsSendable wish → port < 2 ^ 16 → IsBlock (block_of wish port ++ behind) (length (block_of wish port))
unfolding block_of
ask-block wish port behind fits small =
    let start = start_of (kind_in wish.act) (object_name wish.key wish.stamp) in
    let fields = fields_of port (size_in wish.act) in
    let short = act-short wish.act fits.fits in
    let sized = start-short (kind_in wish.act) wish.key wish.stamp fits.spelled in
    let section = fields-short port (size_in wish.act) small short in
    let total : length (plain_head start fields) ≤ MAX_HEAD = omega (arith, length-append (start ++ 13 ∷ 10 ∷ []) (print_section fields crlf), length-append start (13 ∷ 10 ∷ []), sized.1, section) in
    head-block start fields behind sized.0 (start-no-feed (kind_in wish.act) wish.key wish.stamp fits.spelled) (fields-plain port (size_in wish.act) small short) total

-- ---- what is read

pub behind_take : (body behind : List ℕ) → take (length body) (body ++ behind) ≡ body
behind_take body behind = take_at body behind (length body) refl

-- the reader stands behind the body
pub ask-stage : (wish : Wish) (port : ℕ) (behind : List ℕ) → IsSendable wish → port < 2 ^ 16 → IsAskAt (ask_bytes wish port ++ behind) (Body (ask_head_of wish) (body_in wish.act))
unfolding ask_head_of
ask-stage wish port behind fits small =
    let body = body_in wish.act in
    let parts : ask_bytes wish port ++ behind ≡ block_of wish port ++ (body ++ behind) = ap (λ (t : List ℕ). t ++ behind) (ask-parts wish port) ∙ append_assoc (block_of wish port) body behind in
    let at = begun-at AskComesTo ask_body_size (block_of wish port ++ (body ++ behind)) (block_of wish port) (body ++ behind) (Body (ask_head_of wish) body) refl (ask-block wish port (body ++ behind) fits small) (block-comes-to wish port fits small, sym (behind_take body behind)) in
    subst (λ (t : List ℕ). IsAskAt t (Body (ask_head_of wish) body)) (sym parts) at

pub whole : (body : List ℕ) → nat_lt (length body) (length body) ≡ false
whole body = grind (arith, nat_tests)

given : (key : List ℕ) (stamp : Timestamp) (act : CloudAct) → wish_in (record { kind = kind_in act; key = key; stamp = stamp; size = length (body_in act) }) (body_in act) ≡ Some (record { key = key; stamp = stamp; act = act })
unfolding kind_in body_in
given key stamp (acts.Put body) = rw (whole body) refl
given key stamp acts.Get = refl
given key stamp acts.Delete = refl

pub ask-given : (wish : Wish) → wish_in (ask_head_of wish) (body_in wish.act) ≡ Some wish
unfolding ask_head_of
ask-given wish = given wish.key wish.stamp wish.act

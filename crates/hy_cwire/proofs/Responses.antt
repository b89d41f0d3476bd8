-- A written answer is a head of the grammar and its body, and means what was written.
use Rattle.std.proofs.Common.{◌≡◌, ◌≢◌, ℕ, ◌<◌, ◌≤◌, true, false, List, [], ◌∷◌, ◌++◌, length, refl, sym, ap, subst, ◌∙◌, append_assoc, arith, codes, Some, Ok, inl, inr}
use Rattle.std.specs.Prelude.{nat_lt, map, ◌⊎◌}
use Rattle.std.specs.Char.{is_ascii_digit}
use Rattle.std.specs.List.{list_all}
use Rattle.std.specs.Fmt.{decimal}
use Rattle.std.specs.Str.Parse.{digits_value}
use Rattle.std.proofs.lemmas.Bool.Decides.{nat_tests}
use Rattle.std.proofs.lemmas.Fmt.{length-decimal-le}
use Rattle.std.proofs.lemmas.List.{append-nil, length-append}
use Rattle.std.proofs.lemmas.List.Sums.{AllPass-from_list_all}
use Rattle.httparse.specs.Grammar.{is_value_byte, AllPass, crlf, Field, ResponseHead, IsResponseHead, print_response, print_section}
use Rattle.httparse.specs.Spans.{name_and_value}
use Rattle.httparse.proofs.GrammarLemmas.{cons-append}
use Rattle.hy_base.specs.declared.limits.TheConstants.{MAX_VALUE}
use Rattle.hy_record.specs.declared.cloud.CloudSay.{CloudSay}
use Rattle.hy_record.specs.declared.cloud.CloudSay.TheVariants as says
use Rattle.hy_cwire.specs.declared.say_head.SayHead.{SayHead}
use Rattle.hy_cwire.specs.declared.block.TheConstants.{MAX_HEAD}
use Rattle.hy_cwire.specs.declared.kind.WishKind.{WishKind}
use Rattle.hy_cwire.specs.declared.kind.WishKind.TheVariants.{Put, Get, Delete}
use Rattle.hy_cwire.specs.declared.progress.Progress.{Progress}
use Rattle.hy_cwire.specs.declared.progress.Progress.TheVariants.{Body}
use Rattle.hy_cwire.specs.Block.{IsBlock}
use Rattle.hy_cwire.specs.Lengths.{values_named, size_by, at_most}
use Rattle.hy_cwire.specs.Readers.{IsSayAt, say_body_size}
use Rattle.hy_cwire.specs.Says.{is_bare, say_size, SayComesTo, say_of, say_in}
use Rattle.hy_cwire.specs.Stages.{IsOpen, next_answer}
use Rattle.hy_cwire.specs.Writing.{answer_bytes, bare_answer, say_bytes, IsSendableSay, IsAnswerTo}
use Rattle.hy_cwire.proofs.Heads.{plain_head, ArePlain, HasNoFeed, passes-no-feed, one-no-feed, both-no-feed, head-block}
use Rattle.hy_cwire.proofs.Literals.{value-digits, length_of-decimal}
use Rattle.hy_cwire.proofs.Stages.{begun-at}
use Rattle.hy_cwire.proofs.Once.{say-one, stage-one}
use Rattle.hy_cwire.proofs.Requests.{length_field, close_field, length-plain, close-plain, plain-fields, behind_take, whole}

-- ---- the head

-- the digits and the phrase of a status
pub record IsStatus (digits phrase : List ℕ) : Type 0 where
  pub three : length digits ≡ 3
  pub each : AllPass is_ascii_digit digits
  pub text : AllPass is_value_byte phrase
  pub short : length phrase ≤ 50

start_of : List ℕ → List ℕ → List ℕ
start_of digits phrase = (codes "HTTP/1.1" ++ 32 ∷ digits) ++ 32 ∷ phrase

head_of : List ℕ → List ℕ → List Field → ResponseHead
head_of digits phrase fields = record { blank = []; minor = 1; digits = digits; reason = Some phrase; line_end = crlf; fields = fields; last = crlf }

head-printed : (digits phrase : List ℕ) (fields : List Field) → print_response (head_of digits phrase fields) ≡ plain_head (start_of digits phrase) fields
unfolding head_of start_of print_response
head-printed digits phrase fields = refl

head-is : (digits phrase : List ℕ) (fields : List Field) → IsStatus digits phrase → ArePlain fields → IsResponseHead (head_of digits phrase fields)
unfolding head_of
head-is digits phrase fields status plain = record {
  minor = omega arith;
  digits = (status.three, status.each);
  reason = status.text;
  fields = plain-fields fields plain;
}

comes-to : (digits phrase : List ℕ) (fields : List Field) (size : ℕ) → IsStatus digits phrase → ArePlain fields → say_size (head_of digits phrase fields) ≡ Ok size
    → SayComesTo (plain_head (start_of digits phrase) fields) (Ok (record { status = digits_value 10 digits; size = size }))
unfolding head_of
comes-to digits phrase fields size status plain sized =
    let h = head_of digits phrase fields in
    let printed : plain_head (start_of digits phrase) fields ≡ print_response h ++ [] = sym (head-printed digits phrase fields) ∙ sym (append-nil (print_response h)) in
    inl (h, (head-is digits phrase fields status plain, printed), (refl, sized))

start-fits : (digits phrase : List ℕ) → IsStatus digits phrase → (0 < length (start_of digits phrase)) × (length (start_of digits phrase) ≤ 70) × HasNoFeed (start_of digits phrase)
unfolding start_of
start-fits digits phrase status =
    let space : 32 ≢ 10 = λ e. omega (arith, e) in
    let version : HasNoFeed (codes "HTTP/1.1") = passes-no-feed is_value_byte (codes "HTTP/1.1") refl (AllPass-from_list_all is_value_byte (codes "HTTP/1.1") refl) in
    let number : HasNoFeed digits = passes-no-feed is_ascii_digit digits refl status.each in
    let text : HasNoFeed phrase = passes-no-feed is_value_byte phrase refl status.text in
    let size = length-append (codes "HTTP/1.1" ++ 32 ∷ digits) (32 ∷ phrase) in
    let front = length-append (codes "HTTP/1.1") (32 ∷ digits) in
    let three = status.three in
    let short = status.short in (
      omega (arith, size),
      omega (arith, size, front, three, short),
      both-no-feed (codes "HTTP/1.1" ++ 32 ∷ digits) (32 ∷ phrase) (both-no-feed (codes "HTTP/1.1") (32 ∷ digits) version (one-no-feed 32 digits space number)) (one-no-feed 32 phrase space text),
    )

-- a head and its body
said-stage : (digits phrase body behind : List ℕ) (fields : List Field) → IsStatus digits phrase → ArePlain fields → length (print_section fields crlf) ≤ 200 → say_size (head_of digits phrase fields) ≡ Ok (length body)
    → IsSayAt (plain_head (start_of digits phrase) fields ++ (body ++ behind)) (Body (record { status = digits_value 10 digits; size = length body }) body)
said-stage digits phrase body behind fields status plain short sized =
    let start = start_of digits phrase in
    let fits = start-fits digits phrase status in
    let front = fits.1 in
    let total : length (plain_head start fields) ≤ MAX_HEAD = omega (arith, length-append (start ++ 13 ∷ 10 ∷ []) (print_section fields crlf), length-append start (13 ∷ 10 ∷ []), front, short) in
    let block : IsBlock (plain_head start fields ++ (body ++ behind)) (length (plain_head start fields)) = head-block start fields (body ++ behind) fits.0 fits.2 plain total in
    let head : SayHead = record { status = digits_value 10 digits; size = length body } in
    begun-at SayComesTo say_body_size (plain_head start fields ++ (body ++ behind)) (plain_head start fields) (body ++ behind) (Body head body) refl block
    (comes-to digits phrase fields (length body) status plain sized, sym (behind_take body behind))

-- ---- answers with a length

full_fields : ℕ → List Field
full_fields size = length_field size ∷ close_field ∷ []

full-plain : (size : ℕ) → size ≤ MAX_VALUE → ArePlain (full_fields size)
unfolding full_fields
full-plain size fits = (length-plain size (omega (arith, fits)), (close-plain, tt))

full-short : (size : ℕ) → size ≤ MAX_VALUE → length (print_section (full_fields size) crlf) ≤ 200
unfolding full_fields length_field close_field
full-short size fits =
    let sizes = length-decimal-le 7 size (omega arith) (omega (arith, fits)) (omega (arith, fits)) in
    simp length-append (omega (arith, sizes))

no-coding : (size : ℕ) → values_named (codes "transfer-encoding") (map name_and_value (full_fields size)) ≡ []
unfolding full_fields length_field close_field values_named
no-coding size = refl

one-length : (size : ℕ) → size ≤ MAX_VALUE → values_named (codes "content-length") (map name_and_value (full_fields size)) ≡ decimal size ∷ []
unfolding full_fields length_field close_field values_named
one-length size fits = ap (λ (v : List ℕ). v ∷ []) (value-digits size (omega (arith, fits)))

length-read : (size : ℕ) → size ≤ MAX_VALUE → size_by true MAX_VALUE (decimal size ∷ []) ≡ Ok size
length-read size fits =
    let small : nat_lt MAX_VALUE size ≡ false = let h = fits in grind (arith, nat_tests) in
    ap (at_most MAX_VALUE) (length_of-decimal size (omega (arith, fits))) ∙ rw small refl

full-size : (digits phrase : List ℕ) (size : ℕ) → is_bare (digits_value 10 digits) ≡ false → size ≤ MAX_VALUE → say_size (head_of digits phrase (full_fields size)) ≡ Ok size
unfolding head_of
full-size digits phrase size full fits = rw (full, no-coding size, one-length size fits) (length-read size fits)

regroup : (v d p ln l cn cv body : List ℕ)
    → ((v ++ 32 ∷ []) ++ ((d ++ 32 ∷ p) ++ 13 ∷ 10 ∷ [])) ++ (((ln ++ 58 ∷ 32 ∷ []) ++ (l ++ 13 ∷ 10 ∷ [])) ++ ((cn ++ 58 ∷ (cv ++ 13 ∷ 10 ∷ 13 ∷ 10 ∷ [])) ++ body))
    ≡ ((((v ++ 32 ∷ d) ++ 32 ∷ p) ++ 13 ∷ 10 ∷ []) ++ ((((ln ++ 58 ∷ 32 ∷ l) ++ 13 ∷ 10 ∷ []) ++ (((cn ++ 58 ∷ cv) ++ 13 ∷ 10 ∷ []) ++ [])) ++ 13 ∷ 10 ∷ [])) ++ body
regroup v d p ln l cn cv body = simp (append_assoc, cons-append)

answer-parts : (digits phrase body : List ℕ) → answer_bytes (digits ++ 32 ∷ phrase) body ≡ plain_head (start_of digits phrase) (full_fields (length body)) ++ body
unfolding start_of full_fields length_field close_field
answer-parts digits phrase body = regroup (codes "HTTP/1.1") digits phrase (codes "Content-Length") (decimal (length body)) (codes "Connection") (codes " close") body

answer-stage : (digits phrase body behind : List ℕ) → IsStatus digits phrase → is_bare (digits_value 10 digits) ≡ false → length body ≤ MAX_VALUE
    → IsSayAt (answer_bytes (digits ++ 32 ∷ phrase) body ++ behind) (Body (record { status = digits_value 10 digits; size = length body }) body)
answer-stage digits phrase body behind status full fits =
    let block = plain_head (start_of digits phrase) (full_fields (length body)) in
    let head : SayHead = record { status = digits_value 10 digits; size = length body } in
    let parts : answer_bytes (digits ++ 32 ∷ phrase) body ++ behind ≡ block ++ (body ++ behind) = ap (λ (t : List ℕ). t ++ behind) (answer-parts digits phrase body) ∙ append_assoc block body behind in
    let at = said-stage digits phrase body behind (full_fields (length body)) status (full-plain (length body) fits) (full-short (length body) fits) (full-size digits phrase (length body) full fits) in
    subst (λ (t : List ℕ). IsSayAt t (Body head body)) (sym parts) at

-- ---- the answer without one

status : (digits phrase : List ℕ) → length digits ≡ 3 → list_all is_ascii_digit digits ≡ true → list_all is_value_byte phrase ≡ true → length phrase ≤ 50 → IsStatus digits phrase
status digits phrase three each text short = record { three = three; each = AllPass-from_list_all is_ascii_digit digits each; text = AllPass-from_list_all is_value_byte phrase text; short = short }

bare-stage : (behind : List ℕ) → IsSayAt (bare_answer ++ behind) (Body (record { status = 204; size = 0 }) [])
unfolding start_of head_of close_field values_named
bare-stage behind = said-stage (codes "204") (codes "No Content") [] behind (close_field ∷ []) (status (codes "204") (codes "No Content") refl refl refl (omega arith)) (close-plain, tt) (omega arith) refl

-- ---- what is read

-- where one message can stand, that is the one that is given
read-as : (asked : WishKind) (say : CloudSay) (bytes body : List ℕ) (head : SayHead) (at : Progress SayHead) → IsOpen at → IsSayAt bytes at → IsSayAt bytes (Body head body) → say_in asked head body ≡ Some say → next_answer (say_in asked) at ≡ Ok (Some say)
read-as asked say bytes body head at live here stage given =
    let there : Progress SayHead = Body head body in
    let same : at ≡ there = stage-one SayComesTo say_body_size bytes at there say-one live tt here stage in
    ap (next_answer (say_in asked)) same ∙ ap Ok given

-- an answer with a length, as those read it who asked
read-full : (asked : WishKind) (say : CloudSay) (digits phrase body behind : List ℕ) (at : Progress SayHead) → IsOpen at → IsSayAt (answer_bytes (digits ++ 32 ∷ phrase) body ++ behind) at → IsStatus digits phrase → is_bare (digits_value 10 digits) ≡ false → length body ≤ MAX_VALUE
    → say_of asked (digits_value 10 digits) body ≡ say → next_answer (say_in asked) at ≡ Ok (Some say)
read-full asked say digits phrase body behind at live here status full fits means =
    let head : SayHead = record { status = digits_value 10 digits; size = length body } in
    let given : say_in asked head body ≡ Some say = rw (whole body) (ap Some means) in
    read-as asked say (answer_bytes (digits ++ 32 ∷ phrase) body ++ behind) body head at live here (answer-stage digits phrase body behind status full fits) given

created : IsStatus (codes "201") (codes "Created")
created = status (codes "201") (codes "Created") refl refl refl (omega arith)

fine : IsStatus (codes "200") (codes "OK")
fine = status (codes "200") (codes "OK") refl refl refl (omega arith)

conflict : IsStatus (codes "409") (codes "Conflict")
conflict = status (codes "409") (codes "Conflict") refl refl refl (omega arith)

not_found : IsStatus (codes "404") (codes "Not Found")
not_found = status (codes "404") (codes "Not Found") refl refl refl (omega arith)

bad_request : IsStatus (codes "400") (codes "Bad Request")
bad_request = status (codes "400") (codes "Bad Request") refl refl refl (omega arith)

length_required : IsStatus (codes "411") (codes "Length Required")
length_required = status (codes "411") (codes "Length Required") refl refl refl (omega arith)

too_large : IsStatus (codes "413") (codes "Content Too Large")
too_large = status (codes "413") (codes "Content Too Large") refl refl refl (omega arith)

not_implemented : IsStatus (codes "501") (codes "Not Implemented")
not_implemented = status (codes "501") (codes "Not Implemented") refl refl refl (omega arith)

-- a refusal means its status to all
refused : (asked : WishKind) (digits phrase behind : List ℕ) (at : Progress SayHead) → IsOpen at → IsSayAt (answer_bytes (digits ++ 32 ∷ phrase) [] ++ behind) at → IsStatus digits phrase → is_bare (digits_value 10 digits) ≡ false
    → ((kind : WishKind) → say_of kind (digits_value 10 digits) [] ≡ says.Bad (digits_value 10 digits)) → next_answer (say_in asked) at ≡ Ok (Some (says.Bad (digits_value 10 digits)))
refused asked digits phrase behind at live here status full means =
    read-full asked (says.Bad (digits_value 10 digits)) digits phrase [] behind at live here status full (omega arith) (means asked)

abbrev Refusals : ℕ → Type 0
Refusals number = (number ≡ 400) ⊎ (number ≡ 411) ⊎ (number ≡ 413) ⊎ (number ≡ 501)

refusal-at : (asked : WishKind) (number : ℕ) (digits phrase behind : List ℕ) (at : Progress SayHead) → number ≡ digits_value 10 digits → IsOpen at → IsSayAt (say_bytes (says.Bad number) ++ behind) at → say_bytes (says.Bad (digits_value 10 digits)) ≡ answer_bytes (digits ++ 32 ∷ phrase) [] → IsStatus digits phrase → is_bare (digits_value 10 digits) ≡ false
    → ((kind : WishKind) → say_of kind (digits_value 10 digits) [] ≡ says.Bad (digits_value 10 digits)) → next_answer (say_in asked) at ≡ Ok (Some (says.Bad number))
refusal-at asked number digits phrase behind at is live here written status full means =
    let there : IsSayAt (answer_bytes (digits ++ 32 ∷ phrase) [] ++ behind) at = subst (λ (t : List ℕ). IsSayAt (t ++ behind) at) (ap (λ (k : ℕ). say_bytes (says.Bad k)) is ∙ written) here in
    refused asked digits phrase behind at live there status full means ∙ ap (λ (k : ℕ). Ok (Some (says.Bad k))) (sym is)

by_kind : (P : WishKind → Type 0) → P Put → P Get → P Delete → (kind : WishKind) → P kind
by_kind P put get delete Put = put
by_kind P put get delete Get = get
by_kind P put get delete Delete = delete

refusal-read : (asked : WishKind) (number : ℕ) (behind : List ℕ) (at : Progress SayHead) → Refusals number → IsOpen at → IsSayAt (say_bytes (says.Bad number) ++ behind) at → next_answer (say_in asked) at ≡ Ok (Some (says.Bad number))
refusal-read asked number behind at (inl is) live here =
    refusal-at asked number (codes "400") (codes "Bad Request") behind at is live here refl bad_request refl (by_kind (λ k. say_of k 400 [] ≡ says.Bad 400) refl refl refl)
refusal-read asked number behind at (inr (inl is)) live here =
    refusal-at asked number (codes "411") (codes "Length Required") behind at is live here refl length_required refl (by_kind (λ k. say_of k 411 [] ≡ says.Bad 411) refl refl refl)
refusal-read asked number behind at (inr (inr (inl is))) live here =
    refusal-at asked number (codes "413") (codes "Content Too Large") behind at is live here refl too_large refl (by_kind (λ k. say_of k 413 [] ≡ says.Bad 413) refl refl refl)
refusal-read asked number behind at (inr (inr (inr is))) live here =
    refusal-at asked number (codes "501") (codes "Not Implemented") behind at is live here refl not_implemented refl (by_kind (λ k. say_of k 501 [] ≡ says.Bad 501) refl refl refl)

pub said-back : (asked : WishKind) (say : CloudSay) (behind : List ℕ) (at : Progress SayHead) → IsSendableSay say → IsAnswerTo asked say → IsOpen at → IsSayAt (say_bytes say ++ behind) at → next_answer (say_in asked) at ≡ Ok (Some say)
said-back asked (says.Stored true) behind at fits answers live here = read-full asked (says.Stored true) (codes "201") (codes "Created") [] behind at live here created refl (omega arith) (ap (λ (k : WishKind). say_of k 201 []) answers)
said-back asked (says.Stored false) behind at fits answers live here = read-full asked (says.Stored false) (codes "200") (codes "OK") [] behind at live here fine refl (omega arith) (ap (λ (k : WishKind). say_of k 200 []) answers)
said-back asked says.Conflict behind at fits answers live here = read-full asked says.Conflict (codes "409") (codes "Conflict") [] behind at live here conflict refl (omega arith) (ap (λ (k : WishKind). say_of k 409 []) answers)
said-back asked (says.Body body) behind at fits answers live here = read-full asked (says.Body body) (codes "200") (codes "OK") body behind at live here fine refl fits (ap (λ (k : WishKind). say_of k 200 body) answers)
said-back asked says.Missing behind at fits answers live here = read-full asked says.Missing (codes "404") (codes "Not Found") [] behind at live here not_found refl (omega arith) (ap (λ (k : WishKind). say_of k 404 []) answers)
said-back asked says.Gone behind at fits answers live here =
    let head : SayHead = record { status = 204; size = 0 } in
    read-as asked says.Gone (bare_answer ++ behind) [] head at live here (bare-stage behind) (ap (λ (k : WishKind). say_in k head []) answers)
said-back asked (says.Bad number) behind at fits answers live here = refusal-read asked number behind at fits live here

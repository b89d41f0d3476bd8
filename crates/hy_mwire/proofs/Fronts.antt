-- What stands in front of a stream, by its bytes; that it stays there whatever follows.
use Rattle.std.proofs.Common.{◌≡◌, ◌≢◌, ℕ, suc, ◌+◌, ◌<◌, ◌≤◌, false, List, [], ◌∷◌, ◌++◌, length, take, drop, Option, Some, None, refl, sym, ap, subst, ◌∙◌, append_assoc, arith, inl, inr, lit<}
use Rattle.std.specs.Prelude.{◌⊎◌, nat_lt}
use Rattle.std.proofs.lemmas.Bool.{le-ltb, lt-ltb, cases_lt}
use Rattle.std.proofs.lemmas.List.{append_cancel_left, take_at, drop_at, take-append-drop, take-append-le, drop-append-le, length-append, length-take, length-drop, get_or_past}
use Rattle.std.proofs.lemmas.List.Elements.{All-get_or, All-from_get_or}
use Rattle.byteorder.specs.Endian.{big_bytes, big_number}
use Rattle.byteorder.specs.Numbers.{big_from-append, big_number-reads_back, length-bytes_high_first}
use Rattle.hy_record.proofs.Numbers.{IsBytes, IsBytes-drop, bytes_high_first-big_from}
use Rattle.hy_mwire.specs.declared.front.TheConstants.{MAX_FRAME}
use Rattle.hy_mwire.specs.declared.message.Message.{Message}
use Rattle.hy_mwire.specs.declared.fault.FrameFault.{FrameFault}
use Rattle.hy_mwire.specs.declared.fault.FrameFault.TheVariants.{TooLong, BadKind, BadBody, NoMemory}
use Rattle.hy_mwire.specs.declared.kind.MessageKind.{MessageKind}
use Rattle.hy_mwire.specs.Kind.{kind_byte, kind_of}
use Rattle.hy_mwire.specs.Message.{IsMessage}
use Rattle.hy_mwire.specs.Frames.{message_kind, message_fields, body_of, frame_of}
use Rattle.hy_mwire.specs.Reading.{message_in}
use Rattle.hy_mwire.specs.Front.{partial, message, fault, message_or, kind_or, judged, front_at, AreBytes, IsPartial, HasBody, IsUnreadable, IsFault}
use Rattle.hy_mwire.proofs.Fields.{IsBytes-take, some_is}
use Rattle.hy_mwire.proofs.KindBytes.{kind_of-kind_byte, kind_byte-kind_of, kind_of-none, kind_of-strange}
use Rattle.hy_mwire.proofs.Lengths.{body_size}
use Rattle.hy_mwire.proofs.Bodies.{message_takes, message_again}

pub IsBytes-are : (bytes : List ℕ) → AreBytes bytes → IsBytes bytes
IsBytes-are bytes are i =
    elim (cases_lt i (length bytes)) [
      | inl inside ↦ All-get_or (λ byte. byte < 256) bytes i 0 inside are
      | inr past ↦ rw (get_or_past bytes i 0 past) (lit< tt)
    ]

pub AreBytes-is : (bytes : List ℕ) → IsBytes bytes → AreBytes bytes
AreBytes-is bytes is = All-from_get_or (λ byte. byte < 256) bytes 0 (λ i inside. is i)

-- ---- the four cases

-- the bytes are too few for a length, the length is too great, the bytes are too few for the length, or there is a whole frame
pub data Case (place : ℕ) (bytes : List ℕ) : Type 0 where
  short : length bytes < 4 → front_at place bytes ≡ partial → Case place bytes
  long : 4 ≤ length bytes → MAX_FRAME < big_number 4 bytes → front_at place bytes ≡ fault (TooLong (big_number 4 bytes)) → Case place bytes
  waits : big_number 4 bytes ≤ MAX_FRAME → length bytes < big_number 4 bytes + 4 → front_at place bytes ≡ partial → Case place bytes
  whole : big_number 4 bytes ≤ MAX_FRAME → big_number 4 bytes + 4 ≤ length bytes → front_at place bytes ≡ judged place (big_number 4 bytes + 4) (take (big_number 4 bytes) (drop 4 bytes)) → Case place bytes

short_front : (place : ℕ) (bytes : List ℕ) → length bytes < 4 → front_at place bytes ≡ partial
unfolding front_at
short_front place bytes few = let test = lt-ltb (length bytes) 4 few in rw test refl

long_front : (place : ℕ) (bytes : List ℕ) → 4 ≤ length bytes → MAX_FRAME < big_number 4 bytes → front_at place bytes ≡ fault (TooLong (big_number 4 bytes))
unfolding front_at
long_front place bytes enough great = let first = le-ltb (length bytes) 4 enough in let second = lt-ltb MAX_FRAME (big_number 4 bytes) great in rw (first, second) refl

waiting_front : (place : ℕ) (bytes : List ℕ) → 4 ≤ length bytes → big_number 4 bytes ≤ MAX_FRAME → length (drop 4 bytes) < big_number 4 bytes → front_at place bytes ≡ partial
unfolding front_at
waiting_front place bytes enough small few =
    let first = le-ltb (length bytes) 4 enough in
    let second = le-ltb MAX_FRAME (big_number 4 bytes) small in
    let third = lt-ltb (length (drop 4 bytes)) (big_number 4 bytes) few in
    rw (first, second, third) refl

whole_front : (place : ℕ) (bytes : List ℕ) → 4 ≤ length bytes → big_number 4 bytes ≤ MAX_FRAME → big_number 4 bytes ≤ length (drop 4 bytes) → front_at place bytes ≡ judged place (big_number 4 bytes + 4) (take (big_number 4 bytes) (drop 4 bytes))
unfolding front_at
whole_front place bytes enough small there =
    let first = le-ltb (length bytes) 4 enough in
    let second = le-ltb MAX_FRAME (big_number 4 bytes) small in
    let third = le-ltb (length (drop 4 bytes)) (big_number 4 bytes) there in
    rw (first, second, third) refl

pub case_of : (place : ℕ) (bytes : List ℕ) → Case place bytes
case_of place bytes =
    elim (cases_lt (length bytes) 4) [
      | inl few ↦ short few (short_front place bytes few)
      | inr enough ↦ elim (cases_lt MAX_FRAME (big_number 4 bytes)) [
        | inl great ↦ long enough great (long_front place bytes enough great)
        | inr small ↦ elim (cases_lt (length (drop 4 bytes)) (big_number 4 bytes)) [
          | inl few ↦ waits small (omega (arith, few, length-drop 4 bytes)) (waiting_front place bytes enough small few)
          | inr there ↦ whole small (omega (arith, there, enough, length-drop 4 bytes)) (whole_front place bytes enough small there)
        ]
      ]
    ]

-- ---- whole frames

-- the bytes behind the length are the body and what follows
body_there : (bytes : List ℕ) → IsBytes bytes → big_number 4 bytes ≤ MAX_FRAME → big_number 4 bytes + 4 ≤ length bytes → HasBody bytes (take (big_number 4 bytes) (drop 4 bytes))
body_there bytes fits small there =
    let n = big_number 4 bytes in
    let behind = drop 4 bytes in
    let size : length (take n behind) ≡ n = simp (length-take, length-drop) (omega (arith, there)) in
    let number : big_bytes 4 n ≡ take 4 bytes = bytes_high_first-big_from 4 0 bytes fits (omega (arith, there)) in
    let parts : bytes ≡ big_bytes 4 n ++ (take n behind ++ drop n behind) = sym (ap (λ (t : List ℕ). t ++ (take n behind ++ drop n behind)) number ∙ ap (λ (t : List ℕ). take 4 bytes ++ t) (take-append-drop n behind) ∙ take-append-drop 4 bytes) in
    let begins : bytes ≡ big_bytes 4 (length (take n behind)) ++ (take n behind ++ drop n behind) = parts ∙ ap (λ (k : ℕ). big_bytes 4 k ++ (take n behind ++ drop n behind)) (sym size) in
    record { size = omega (arith, size, small); begins = (drop n behind, begins) }

front_by : (place n : ℕ) (bytes tail body : List ℕ) → nat_lt (length bytes) 4 ≡ false → big_number 4 bytes ≡ n → drop 4 bytes ≡ tail → nat_lt MAX_FRAME n ≡ false → nat_lt (length tail) n ≡ false → take n tail ≡ body → front_at place bytes ≡ judged place (n + 4) body
unfolding front_at
front_by place n bytes tail body enough number behind small there front = rw (enough, number, behind, small, there, front) refl

-- a whole frame in front is judged by its body
pub body_front : (place : ℕ) (bytes body : List ℕ) → HasBody bytes body → front_at place bytes ≡ judged place (length body + 4) body
body_front place bytes body has =
    let n = length body in
    let later = has.begins.0 in
    let four : length (big_bytes 4 n) ≡ 4 = length-bytes_high_first 4 n in
    let size = length-append (big_bytes 4 n) (body ++ later) in
    let total : length bytes ≡ 4 + length (body ++ later) = ap (length {A = ℕ}) has.begins.1 ∙ omega (arith, size, four) in
    let number : big_number 4 bytes ≡ n = ap (big_number 4) has.begins.1 ∙ big_number-reads_back 4 n (body ++ later) (omega (arith, has.size)) in
    let behind : drop 4 bytes ≡ body ++ later = ap (drop 4) has.begins.1 ∙ drop_at (big_bytes 4 n) (body ++ later) 4 four in
    front_by place n bytes (body ++ later) body (le-ltb (length bytes) 4 (omega (arith, total))) number behind (le-ltb MAX_FRAME n has.size) (le-ltb (length (body ++ later)) n (omega (arith, length-append body later))) (take_at body later n refl)

-- a frame stands in front of what follows it
frame_there : (said : Message) (rest : List ℕ) → IsMessage said → HasBody (frame_of said ++ rest) (body_of said)
unfolding frame_of
frame_there said rest is = record { size = body_size said is; begins = (rest, append_assoc (big_bytes 4 (length (body_of said))) (body_of said) rest) }

frame_size : (said : Message) → length (frame_of said) ≡ length (body_of said) + 4
unfolding frame_of
frame_size said = length-append (big_bytes 4 (length (body_of said))) (body_of said) ∙ omega (arith, length-bytes_high_first 4 (length (body_of said)))

judged_message : (place size : ℕ) (said : Message) → IsMessage said → judged place size (body_of said) ≡ message said size
judged_message place size said is = rw (kind_of-kind_byte (message_kind said), message_again said is) refl

-- the message of a frame stands in front of it, whatever follows
pub front-frame : (place : ℕ) (said : Message) (rest : List ℕ) → IsMessage said → front_at place (frame_of said ++ rest) ≡ message said (length (frame_of said))
front-frame place said rest is =
    body_front place (frame_of said ++ rest) (body_of said) (frame_there said rest is) ∙ judged_message place (length (body_of said) + 4) said is ∙ ap (λ (n : ℕ). message said n) (sym (frame_size said))

-- ---- what a body says

pub message_is : (place size n : ℕ) (o : Option Message) (said : Message) → message_or place size o ≡ message said n → (o ≡ Some said) × (n ≡ size)
message_is place size n (Some other) said e = (cc, cc)
message_is place size n None said e = absurd cc

message_bad : (place size : ℕ) (o : Option Message) (wrong : FrameFault) → message_or place size o ≡ fault wrong → (o ≡ None) × (wrong ≡ BadBody place)
message_bad place size (Some other) wrong e = absurd cc
message_bad place size None wrong e = (refl, cc)

message_none : (place size : ℕ) (o : Option Message) → message_or place size o ≡ partial → ⊥
message_none place size (Some other) e = absurd cc
message_none place size None e = absurd cc

judged_none : (place size : ℕ) (body : List ℕ) → judged place size body ≡ partial → ⊥
judged_none place size [] e = absurd cc
judged_none place size (byte ∷ fields) e = at (kind_of byte) e
  where
    at : (kind : Option MessageKind) → kind_or place size byte fields kind ≡ partial → ⊥
    at (Some kind) e = message_none place size (message_in kind fields) e
    at None e = absurd cc

judged_is : (place size n : ℕ) (body : List ℕ) (said : Message) → judged place size body ≡ message said n → (n ≡ size) × (IsBytes body → IsMessage said × (body ≡ body_of said))
judged_is place size n [] said e = absurd cc
judged_is place size n (byte ∷ fields) said e = at (kind_of byte) refl e
  where
    at : (kind : Option MessageKind) → kind_of byte ≡ kind → kind_or place size byte fields kind ≡ message said n → (n ≡ size) × (IsBytes (byte ∷ fields) → IsMessage said × (byte ∷ fields ≡ body_of said))
    at (Some kind) is e =
        let m = message_is place size n (message_in kind fields) said e in (
          m.1,
          λ fits. let t = message_takes kind fields said (λ i. fits (suc i)) m.0 in
              (t.2, ap (λ (b : ℕ). b ∷ fields) (sym (kind_byte-kind_of byte kind is)) ∙ ap (λ (k : MessageKind). kind_byte k ∷ fields) (sym t.0) ∙ ap (λ (f : List ℕ). kind_byte (message_kind said) ∷ f) t.1),
        )
    at None is e = absurd cc

-- what stands in front of a stream when a message does
record IsFrame (bytes : List ℕ) (said : Message) (size : ℕ) : Type 0 where
  is : IsMessage said
  size_is : size ≡ length (frame_of said)
  parts : bytes ≡ frame_of said ++ drop size bytes

body_parts : (bytes body : List ℕ) (said : Message) (size : ℕ) → HasBody bytes body → IsMessage said → body ≡ body_of said → size ≡ length body + 4 → IsFrame bytes said size
unfolding frame_of
body_parts bytes body said size has is same total =
    let later = has.begins.0 in
    let frame : big_bytes 4 (length body) ++ body ≡ frame_of said = ap (λ (b : List ℕ). big_bytes 4 (length b) ++ b) same in
    let whole : bytes ≡ frame_of said ++ later = has.begins.1 ∙ sym (append_assoc (big_bytes 4 (length body)) body later) ∙ ap (λ (t : List ℕ). t ++ later) frame in
    let sized : size ≡ length (frame_of said) = total ∙ ap (λ (b : List ℕ). length b + 4) same ∙ sym (frame_size said) in
    let rest : drop size bytes ≡ later = ap (λ (t : List ℕ). drop size t) whole ∙ drop_at (frame_of said) later size (sym sized) in
    record { is = is; size_is = sized; parts = whole ∙ ap (λ (t : List ℕ). frame_of said ++ t) (sym rest) }

frame_in_front : (place : ℕ) (bytes : List ℕ) (said : Message) (size : ℕ) → IsBytes bytes → front_at place bytes ≡ message said size → IsFrame bytes said size
frame_in_front place bytes said size fits e =
    elim (case_of place bytes) [
      | short few is ↦ absurd (let clash : partial ≡ message said size = sym is ∙ e in cc)
      | long enough great is ↦ absurd (let clash : fault (TooLong (big_number 4 bytes)) ≡ message said size = sym is ∙ e in cc)
      | waits small few is ↦ absurd (let clash : partial ≡ message said size = sym is ∙ e in cc)
      | whole small there is ↦
          let n = big_number 4 bytes in
          let body = take n (drop 4 bytes) in
          let m = judged_is place (n + 4) size body said (sym is ∙ e) in
          let says = m.1 (IsBytes-take n (drop 4 bytes) (IsBytes-drop 4 bytes fits)) in
          let long : length body ≡ n = simp (length-take, length-drop) (omega (arith, there)) in
          body_parts bytes body said size (body_there bytes fits small there) says.0 says.1 (m.0 ∙ ap (λ (k : ℕ). k + 4) (sym long))
    ]

-- a message in front is there with its frame
pub message_front : (place : ℕ) (bytes : List ℕ) (said : Message) (size : ℕ) → AreBytes bytes → front_at place bytes ≡ message said size → IsMessage said × (size ≡ length (frame_of said)) × (bytes ≡ frame_of said ++ drop size bytes)
message_front place bytes said size are e = let f = frame_in_front place bytes said size (IsBytes-are bytes are) e in (f.is, f.size_is, f.parts)

-- a message in front lies within the bytes
pub message_fits : (place : ℕ) (bytes : List ℕ) (said : Message) (size : ℕ) → front_at place bytes ≡ message said size → size ≤ length bytes
message_fits place bytes said size e =
    elim (case_of place bytes) [
      | short few is ↦ absurd (let clash : partial ≡ message said size = sym is ∙ e in cc)
      | long enough great is ↦ absurd (let clash : fault (TooLong (big_number 4 bytes)) ≡ message said size = sym is ∙ e in cc)
      | waits small few is ↦ absurd (let clash : partial ≡ message said size = sym is ∙ e in cc)
      | whole small there is ↦ let m = judged_is place (big_number 4 bytes + 4) size (take (big_number 4 bytes) (drop 4 bytes)) said (sym is ∙ e) in omega (arith, m.0, there)
    ]

-- nothing whole stands in front exactly where the bytes are too few
pub partial_front : (place : ℕ) (bytes : List ℕ) → front_at place bytes ≡ partial → IsPartial bytes
partial_front place bytes e =
    elim (case_of place bytes) [
      | short few is ↦ inl few
      | long enough great is ↦ absurd (let clash : fault (TooLong (big_number 4 bytes)) ≡ partial = sym is ∙ e in cc)
      | waits small few is ↦ inr (small, few)
      | whole small there is ↦ absurd (judged_none place (big_number 4 bytes + 4) (take (big_number 4 bytes) (drop 4 bytes)) (sym is ∙ e))
    ]

pub few_front : (place : ℕ) (bytes : List ℕ) → IsPartial bytes → front_at place bytes ≡ partial
few_front place bytes (inl few) = short_front place bytes few
few_front place bytes (inr (small, few)) =
    elim (cases_lt (length bytes) 4) [
      | inl brief ↦ short_front place bytes brief
      | inr enough ↦ waiting_front place bytes enough small (simp length-drop (omega (arith, few, enough)))
    ]

-- ---- faults

-- what is wrong with a body
abbrev IsWrong : ℕ → List ℕ → FrameFault → Type 0
IsWrong place body wrong = ((byte : ℕ) × (fields : List ℕ) × (wrong ≡ BadKind byte place) × (body ≡ byte ∷ fields) × ((kind : MessageKind) → kind_byte kind ≢ byte)) ⊎ ((wrong ≡ BadBody place) × IsUnreadable body)

other_fields : (kind : MessageKind) (fields : List ℕ) → message_in kind fields ≡ None → (said : Message) → IsMessage said → kind_byte kind ∷ fields ≢ body_of said
other_fields kind fields none said is same =
    let byte : kind_byte (message_kind said) ≡ kind_byte kind = cc in
    let parts : message_fields said ≡ fields = cc in
    let one : Some kind ≡ Some (message_kind said) = sym (kind_of-kind_byte kind) ∙ ap kind_of (sym byte) ∙ kind_of-kind_byte (message_kind said) in
    let kind_is : kind ≡ message_kind said = some_is kind (message_kind said) one in
    let read : message_in kind fields ≡ Some said = ap (λ (k : MessageKind). message_in k fields) kind_is ∙ ap (message_in (message_kind said)) (sym parts) ∙ message_again said is in
    absurd (let clash = sym none ∙ read in cc)

judged_wrong : (place size : ℕ) (body : List ℕ) (wrong : FrameFault) → judged place size body ≡ fault wrong → IsWrong place body wrong
judged_wrong place size [] wrong e = let is : wrong ≡ BadBody place = cc in inr (is, (inl refl, λ said known same. absurd cc))
judged_wrong place size (byte ∷ fields) wrong e = at (kind_of byte) refl e
  where
    at : (kind : Option MessageKind) → kind_of byte ≡ kind → kind_or place size byte fields kind ≡ fault wrong → IsWrong place (byte ∷ fields) wrong
    at (Some kind) is e =
        let m = message_bad place size (message_in kind fields) wrong e in
        let named : byte ∷ fields ≡ kind_byte kind ∷ fields = ap (λ (b : ℕ). b ∷ fields) (sym (kind_byte-kind_of byte kind is)) in
        inr (m.1, (inr (kind, fields, named), λ said known same. other_fields kind fields m.0 said known (sym named ∙ same)))
    at None is e = let bad : wrong ≡ BadKind byte place = cc in inl (byte, fields, bad, refl, kind_of-none byte is)

fault_of : (place : ℕ) (bytes body : List ℕ) (wrong : FrameFault) → HasBody bytes body → IsWrong place body wrong → IsFault place bytes wrong
fault_of place bytes body wrong has (inl (byte, fields, is, parts, strange)) = subst (λ (w : FrameFault). IsFault place bytes w) (sym is) (refl, (fields, subst (λ (b : List ℕ). HasBody bytes b) parts has), strange)
fault_of place bytes body wrong has (inr (is, unreadable)) = subst (λ (w : FrameFault). IsFault place bytes w) (sym is) (refl, body, has, unreadable)

-- a fault in front is what it says
pub fault_front : (place : ℕ) (bytes : List ℕ) (wrong : FrameFault) → AreBytes bytes → front_at place bytes ≡ fault wrong → IsFault place bytes wrong
fault_front place bytes wrong are e =
    elim (case_of place bytes) [
      | short few is ↦ absurd (let clash : partial ≡ fault wrong = sym is ∙ e in cc)
      | long enough great is ↦
          let same : TooLong (big_number 4 bytes) ≡ wrong = let both : fault (TooLong (big_number 4 bytes)) ≡ fault wrong = sym is ∙ e in cc in
          subst (λ (w : FrameFault). IsFault place bytes w) same (enough, refl, great)
      | waits small few is ↦ absurd (let clash : partial ≡ fault wrong = sym is ∙ e in cc)
      | whole small there is ↦
          let n = big_number 4 bytes in
          let body = take n (drop 4 bytes) in
          fault_of place bytes body wrong (body_there bytes (IsBytes-are bytes are) small there) (judged_wrong place (n + 4) body wrong (sym is ∙ e))
    ]

unreadable_body : (place size : ℕ) (body : List ℕ) → IsBytes body → IsUnreadable body → judged place size body ≡ fault (BadBody place)
unreadable_body place size [] fits unreadable = refl
unreadable_body place size (byte ∷ fields) fits (inl none, strange) = absurd cc
unreadable_body place size (byte ∷ fields) fits (inr (kind, others, same), strange) =
    let first : byte ≡ kind_byte kind = cc in
    let named : kind_of byte ≡ Some kind = ap kind_of first ∙ kind_of-kind_byte kind in
    ap (kind_or place size byte fields) named ∙ at (message_in kind fields) refl
  where
    at : (o : Option Message) → message_in kind fields ≡ o → message_or place size o ≡ fault (BadBody place)
    at None is = refl
    at (Some said) is =
        let t = message_takes kind fields said (λ i. fits (suc i)) is in
        let first : byte ≡ kind_byte kind = cc in
        let body : byte ∷ fields ≡ body_of said = ap (λ (b : ℕ). b ∷ fields) first ∙ ap (λ (k : MessageKind). kind_byte k ∷ fields) (sym t.0) ∙ ap (λ (f : List ℕ). kind_byte (message_kind said) ∷ f) t.1 in
        absurd (strange said t.2 body)

body_fits : (bytes body : List ℕ) → IsBytes bytes → HasBody bytes body → IsBytes body
body_fits bytes body fits has =
    let later = has.begins.0 in
    let four : length (big_bytes 4 (length body)) ≡ 4 = length-bytes_high_first 4 (length body) in
    let behind : drop 4 bytes ≡ body ++ later = ap (drop 4) has.begins.1 ∙ drop_at (big_bytes 4 (length body)) (body ++ later) 4 four in
    let front : take (length body) (drop 4 bytes) ≡ body = ap (take (length body)) behind ∙ take_at body later (length body) refl in
    subst IsBytes front (IsBytes-take (length body) (drop 4 bytes) (IsBytes-drop 4 bytes fits))

-- and where it is, it stands in front
pub front_fault : (place : ℕ) (bytes : List ℕ) (wrong : FrameFault) → AreBytes bytes → IsFault place bytes wrong → front_at place bytes ≡ fault wrong
front_fault place bytes (TooLong size) are (enough, number, great) =
    long_front place bytes enough (omega (arith, number, great)) ∙ ap (λ (n : ℕ). fault (TooLong n)) number
front_fault place bytes (BadKind byte at) are (same, there, strange) =
    let fields = there.0 in
    body_front place bytes (byte ∷ fields) there.1 ∙ ap (kind_or place (length (byte ∷ fields) + 4) byte fields) (kind_of-strange byte strange) ∙ ap (λ (p : ℕ). fault (BadKind byte p)) (sym same)
front_fault place bytes (BadBody at) are (same, body, has, unreadable) =
    body_front place bytes body has ∙ unreadable_body place (length body + 4) body (body_fits bytes body (IsBytes-are bytes are) has) unreadable ∙ ap (λ (p : ℕ). fault (BadBody p)) (sym same)
front_fault place bytes NoMemory are is = absurd is

-- ---- what stands in front stays there

more_bytes : (bytes more : List ℕ) → 4 ≤ length bytes → big_number 4 (bytes ++ more) ≡ big_number 4 bytes
more_bytes bytes more enough = big_from-append 4 bytes more enough

pub front-append : (place : ℕ) (bytes more : List ℕ) → front_at place bytes ≢ partial → front_at place (bytes ++ more) ≡ front_at place bytes
front-append place bytes more settled =
    elim (case_of place bytes) [
      | short few is ↦ absurd (settled is)
      | long enough great is ↦
          let number = more_bytes bytes more enough in
          long_front place (bytes ++ more) (omega (arith, enough, length-append bytes more)) (omega (arith, number, great)) ∙ ap (λ (n : ℕ). fault (TooLong n)) number ∙ sym is
      | waits small few is ↦ absurd (settled is)
      | whole small there is ↦
          let number = more_bytes bytes more (omega (arith, there)) in
          let behind : drop 4 (bytes ++ more) ≡ drop 4 bytes ++ more = drop-append-le 4 bytes more (omega (arith, there)) in
          let body : take (big_number 4 bytes) (drop 4 (bytes ++ more)) ≡ take (big_number 4 bytes) (drop 4 bytes) = ap (take (big_number 4 bytes)) behind ∙ take-append-le (big_number 4 bytes) (drop 4 bytes) more (simp length-drop (omega (arith, there))) in
          let enough : 4 ≤ length (bytes ++ more) = omega (arith, there, length-append bytes more) in
          front_by place (big_number 4 bytes) (bytes ++ more) (drop 4 (bytes ++ more)) (take (big_number 4 bytes) (drop 4 bytes)) (le-ltb (length (bytes ++ more)) 4 enough) number refl (le-ltb MAX_FRAME (big_number 4 bytes) small)
          (le-ltb (length (drop 4 (bytes ++ more))) (big_number 4 bytes) (simp length-drop (omega (arith, there, length-append bytes more)))) body ∙ sym is
    ]

pub message-append : (place : ℕ) (bytes more : List ℕ) (said : Message) (size : ℕ) → front_at place bytes ≡ message said size → front_at place (bytes ++ more) ≡ message said size
message-append place bytes more said size is = front-append place bytes more (λ p. let clash : partial ≡ message said size = sym p ∙ is in cc) ∙ is

pub fault-append : (place : ℕ) (bytes more : List ℕ) (wrong : FrameFault) → front_at place bytes ≡ fault wrong → front_at place (bytes ++ more) ≡ fault wrong
fault-append place bytes more wrong is = front-append place bytes more (λ p. let clash : partial ≡ fault wrong = sym p ∙ is in cc) ∙ is

-- ---- frames are apart

-- the frame in front of a stream, and what follows it
pub frames-apart : (a b : Message) (x y : List ℕ) → IsMessage a → IsMessage b → frame_of a ++ x ≡ frame_of b ++ y → (a ≡ b) × (x ≡ y)
frames-apart a b x y one other same =
    let both : message a (length (frame_of a)) ≡ message b (length (frame_of b)) = sym (front-frame 0 a x one) ∙ ap (front_at 0) same ∙ front-frame 0 b y other in
    let said : a ≡ b = cc in
    (said, append_cancel_left (frame_of a) x y (same ∙ ap (λ (m : Message). frame_of m ++ y) (sym said)))

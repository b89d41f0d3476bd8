-- A message that is read is one that a frame can carry.
use Rattle.std.proofs.Common.{◌≡◌, ℕ, ◌+◌, cond, List, [], ◌∷◌, take, drop, Option, Some, None, Ok, refl, sym, subst, ◌∙◌}
use Rattle.std.specs.Prelude.{◌==◌}
use Rattle.byteorder.specs.Endian.{big_number}
use Rattle.hy_record.specs.declared.message.MetaAsk.TheVariants as asks
use Rattle.hy_record.specs.declared.message.MetaSay.TheVariants as says
use Rattle.hy_mwire.specs.declared.message.Message.{Message}
use Rattle.hy_mwire.specs.declared.message.Message.TheVariants.{Join, Joined, Full, Ask, Say}
use Rattle.hy_mwire.specs.declared.fault.FrameFault.{FrameFault}
use Rattle.hy_mwire.specs.declared.fault.FrameFault.TheVariants.{TooLong}
use Rattle.hy_mwire.specs.declared.kind.MessageKind.{MessageKind}
use Rattle.hy_mwire.specs.declared.kind.MessageKind.TheVariants as kinds
use Rattle.hy_mwire.specs.declared.kind.AskKind.{AskKind}
use Rattle.hy_mwire.specs.declared.kind.AskKind.TheVariants as ask_kinds
use Rattle.hy_mwire.specs.declared.kind.SayKind.{SayKind}
use Rattle.hy_mwire.specs.declared.kind.SayKind.TheVariants as say_kinds
use Rattle.hy_mwire.specs.Kind.{kind_of}
use Rattle.hy_mwire.specs.Message.{IsFramed}
use Rattle.hy_mwire.specs.declared.body.Operation.{Operation}
use Rattle.hy_mwire.specs.Reading.{◌>>=◌, number_at, operation_at, ended, record_in, stamp_in, stamps_in, found_in, joined_in, ask_in, say_in, message_in}
use Rattle.hy_mwire.specs.Front.{Front, partial, message, fault, kind_or, judged, front_at}
use Rattle.hy_mwire.specs.Stream.{Unread, front, next_of, next_answer}
use Rattle.hy_mwire.proofs.Fields.{bind_some, guard_none, some_is, ended_is}
use Rattle.hy_mwire.proofs.Fronts.{case_of, short, long, waits, whole, message_is}

ended-framed : (said other : Message) (bytes : List ℕ) → IsFramed said → ended said bytes ≡ Some other → IsFramed other
ended-framed said other bytes framed e = subst IsFramed (ended_is said other bytes e).0 framed

part-framed : {A : Type 0} (o : Option A) (make : A → Message) (said : Message) → ((x : A) → IsFramed (make x))
    → (o >>= λ x. Some (make x)) ≡ Some said → IsFramed said
part-framed o make said framed e = let a = bind_some o (λ x. Some (make x)) said e in subst IsFramed (some_is (make a.0) said a.2) (framed a.0)

joined-framed : (bytes : List ℕ) (said : Message) → joined_in bytes ≡ Some said → IsFramed said
unfolding joined_in
joined-framed bytes said e =
    let a = bind_some (number_at 4 bytes) (λ client. cond (client.0 == 0) None (ended (Joined client.0) client.1)) said e in
    let some = guard_none (a.0.0 == 0) (ended (Joined a.0.0) a.0.1) said a.2 in
    ended-framed (Joined a.0.0) said a.0.1 tt some.1

ask-framed : (kind : AskKind) (o : Operation) (bytes : List ℕ) (said : Message) → ask_in kind o bytes ≡ Some said → IsFramed said
unfolding ask_in
ask-framed ask_kinds.Read o bytes said e = ended-framed (Ask (asks.Read o.client o.op o.key)) said bytes tt e
ask-framed ask_kinds.Update o bytes said e = part-framed (record_in bytes) (λ rec. Ask (asks.Update o.client o.op o.key rec)) said (λ rec. tt) e
ask-framed ask_kinds.Watch o bytes said e = part-framed (stamp_in bytes) (λ stamp. Ask (asks.Watch o.client o.op o.key stamp)) said (λ stamp. tt) e
ask-framed ask_kinds.Olds o bytes said e = ended-framed (Ask (asks.Olds o.client o.op o.key)) said bytes tt e
ask-framed ask_kinds.Forget o bytes said e = part-framed (stamps_in bytes) (λ stamps. Ask (asks.Forget o.client o.op o.key stamps)) said (λ stamps. tt) e

say-framed : (kind : SayKind) (o : Operation) (bytes : List ℕ) (said : Message) → say_in kind o bytes ≡ Some said → IsFramed said
unfolding say_in
say-framed say_kinds.Has o bytes said e = part-framed (found_in bytes) (λ rec. Say (says.Has o.client o.op o.key rec)) said (λ rec. tt) e
say-framed say_kinds.Applied o bytes said e = part-framed (stamp_in bytes) (λ stamp. Say (says.Applied o.client o.op o.key stamp)) said (λ stamp. tt) e
say-framed say_kinds.Kept o bytes said e = part-framed (stamp_in bytes) (λ stamp. Say (says.Kept o.client o.op o.key stamp)) said (λ stamp. tt) e
say-framed say_kinds.Fired o bytes said e = part-framed (stamp_in bytes) (λ stamp. Say (says.Fired o.client o.op o.key stamp)) said (λ stamp. tt) e
say-framed say_kinds.OldList o bytes said e = part-framed (stamps_in bytes) (λ stamps. Say (says.OldList o.client o.op o.key stamps)) said (λ stamps. tt) e
say-framed say_kinds.Forgot o bytes said e = ended-framed (Say (says.Forgot o.client o.op o.key)) said bytes tt e

body-framed : (kind : MessageKind) (bytes : List ℕ) (said : Message) → message_in kind bytes ≡ Some said → IsFramed said
unfolding message_in
body-framed kinds.Join bytes said e = ended-framed Join said bytes tt e
body-framed kinds.Joined bytes said e = joined-framed bytes said e
body-framed kinds.Full bytes said e = ended-framed Full said bytes tt e
body-framed (kinds.Ask kind) bytes said e = let a = bind_some (operation_at bytes) (λ o. ask_in kind o.0 o.1) said e in ask-framed kind a.0.0 a.0.1 said a.2
body-framed (kinds.Say kind) bytes said e = let a = bind_some (operation_at bytes) (λ o. say_in kind o.0 o.1) said e in say-framed kind a.0.0 a.0.1 said a.2

judged-framed : (place size n : ℕ) (body : List ℕ) (said : Message) → judged place size body ≡ message said n → IsFramed said
judged-framed place size n [] said e = absurd cc
judged-framed place size n (byte ∷ fields) said e = at (kind_of byte) e
  where
    at : (kind : Option MessageKind) → kind_or place size byte fields kind ≡ message said n → IsFramed said
    at (Some kind) e = body-framed kind fields said (message_is place size n (message_in kind fields) said e).0
    at None e = absurd cc

front-framed : (place : ℕ) (bytes : List ℕ) (said : Message) (size : ℕ) → front_at place bytes ≡ message said size → IsFramed said
front-framed place bytes said size e =
    elim (case_of place bytes) [
      | short few is ↦ absurd (let clash : partial ≡ message said size = sym is ∙ e in cc)
      | long enough great is ↦ absurd (let clash : fault (TooLong (big_number 4 bytes)) ≡ message said size = sym is ∙ e in cc)
      | waits small few is ↦ absurd (let clash : partial ≡ message said size = sym is ∙ e in cc)
      | whole small there is ↦ judged-framed place (big_number 4 bytes + 4) size (take (big_number 4 bytes) (drop 4 bytes)) said (sym is ∙ e)
    ]

next-framed : (place : ℕ) (bytes : List ℕ) (f : Front) (answered : Option FrameFault) (said : Message) → front_at place bytes ≡ f
    → next_of f answered ≡ Ok (Some said) → IsFramed said
next-framed place bytes f (Some wrong) said is e = absurd cc
next-framed place bytes partial None said is e = absurd cc
next-framed place bytes (message other size) None said is e =
    let same : other ≡ said = cc in subst IsFramed same (front-framed place bytes other size is)
next-framed place bytes (fault wrong) None said is e = absurd cc

-- what is answered next is a message that a frame can carry
pub answer-framed : (unread : Unread) (said : Message) → next_answer unread ≡ Ok (Some said) → IsFramed said
answer-framed unread said e = next-framed unread.place unread.rest (front unread) unread.answered said refl e

-- What an operation was handed was said to it.
use Rattle.std.proofs.Common.{◌≡◌, ℕ, true, List, [], ◌∷◌, Option, Some, None, refl, ap, subst, ◌∙◌, inl, inr}
use Rattle.std.specs.Prelude.{◌&&◌, ◌==◌, ◌⊎◌}
use Rattle.std.proofs.lemmas.Option.{none-some, same_Some}
use Rattle.std.proofs.lemmas.Bool.{false≢true, eqb-true}
use Rattle.hy_record.specs.declared.message.MetaSay.TheVariants as says
use Rattle.hy_record.specs.declared.action.Reply.{Reply}
use Rattle.hy_record.specs.declared.action.Reply.TheVariants as told
use Rattle.hy_record.specs.Stamp.{Timestamp, stamp_lt}
use Rattle.hy_record.specs.Key.{key_eq}
use Rattle.hy_record.specs.Record.{RecordValue}
use Rattle.hy_record.proofs.Order.{key_eq-true, stamp_eq-true}
use Rattle.hy_meta.specs.Service.{stamp_of_record}
use Rattle.hy_meta.proofs.Rising.{cases_bool, both}
use Rattle.hy_record.specs.declared.turn.Cue.{Cue}
use Rattle.hy_record.specs.declared.turn.Cue.TheVariants as cues
use Rattle.hy_protocol.specs.Inputs.{addresses, has_of, is_update_answer, is_fired, olds_of}
use Rattle.hy_protocol.specs.Write.{first_has}
use Rattle.hy_protocol.specs.Swap.{answered_by}
use Rattle.hy_protocol.specs.Read.{Version, version_of, newer_version}
use Rattle.hy_protocol.specs.Collect.{first_olds}
use Rattle.hy_trace.specs.Deeds.{Params, Deed, Start, inputs_of, start_of}
use Rattle.hy_trace.specs.Messages.{Message, Say, Answer, IsSent}
use Rattle.hy_protocol.specs.Operations.{key_of}
use Rattle.hy_trace.specs.Trace.{IsDelivered, Awaits, IsTrace}
pub use Rattle.hy_trace.specs.Hashed.{IsInput}
use Rattle.hy_trace.proofs.Growth.{or-cases, start-keeps, inputs-step}

pub sent-keeps : (p : Params) (d : Deed) (t : List Deed) (m : Message) → IsSent p t m → IsSent p (d ∷ t) m
unfolding IsSent
sent-keeps p d t m sent = inr sent

pub delivered-keeps : (p : Params) (d : Deed) (t : List Deed) (cue : Cue) → IsDelivered p t cue → IsDelivered p (d ∷ t) cue
delivered-keeps p d t (cues.Meta say) sent = sent-keeps p d t (Say say) sent
delivered-keeps p d t (cues.Cloud reply) (inl sent) = inl (sent-keeps p d t (Answer reply) sent)
delivered-keeps p d t (cues.Cloud reply) (inr other) = inr other
delivered-keeps p d t cues.Tick sent = tt

-- the operation began, and was handed an input of its own
pub record Hears (p : Params) (client op : ℕ) (cue : Cue) (t : List Deed) : Type 0 where
  pub start : Start
  pub began : start_of client op t ≡ Some start
  pub own : addresses client op (key_of start.action) cue ≡ true
  pub delivered : IsDelivered p t cue

hears-keeps : (p : Params) (c o : ℕ) (cue : Cue) (d : Deed) (t : List Deed) → Hears p c o cue t → Hears p c o cue (d ∷ t)
hears-keeps p c o cue d t h = record { start = h.start; began = start-keeps c o d t h.start h.began; own = h.own; delivered = delivered-keeps p d t cue h.delivered }

no-input : (c o : ℕ) (cue : Cue) → IsInput (inputs_of c o []) cue → ⊥
unfolding inputs_of
no-input c o cue i = i

pub inputs-heard : (p : Params) (c o : ℕ) (cue : Cue) (t : List Deed) → IsTrace p t → IsInput (inputs_of c o t) cue → Hears p c o cue t
unfolding IsTrace
inputs-heard p c o cue [] trace input = absurd (no-input c o cue input)
inputs-heard p c o cue (d ∷ t) trace input =
    elim (inputs-step p c o d t trace.0) [
      | inl same ↦ hears-keeps p c o cue d t (inputs-heard p c o cue t trace.1 (subst (λ (x : List Cue). IsInput x cue) same input))
      | inr more ↦ newest more.0 more.1 (λ (older : IsInput (inputs_of c o t) cue). inputs-heard p c o cue t trace.1 older) (subst (λ (x : List Cue). IsInput x cue) more.2 input)
    ]
  where
    newest : (new : Cue) → Awaits p c o new t → (IsInput (inputs_of c o t) cue → Hears p c o cue t) → IsInput (new ∷ inputs_of c o t) cue → Hears p c o cue (d ∷ t)
    newest new awaits before (inl is) = hears-keeps p c o cue d t (subst (λ (x : Cue). Hears p c o x t) is (record { start = awaits.start; began = awaits.began; own = awaits.own; delivered = awaits.delivered }))
    newest new awaits before (inr older) = hears-keeps p c o cue d t (before older)

-- an input that told this
pub record IsToldBy {A : Type 0} (of : Cue → Option A) (inputs : List Cue) (x : A) : Type 0 where
  pub cue : Cue
  pub input : IsInput inputs cue
  pub tells : of cue ≡ Some x

pub told-later : {A : Type 0} (of : Cue → Option A) (first : Cue) (inputs : List Cue) (x : A) → IsToldBy of inputs x → IsToldBy of (first ∷ inputs) x
told-later of first inputs x t = record { cue = t.cue; input = inr t.input; tells = t.tells }

pub has-told : (inputs : List Cue) (r : Option RecordValue) → first_has inputs ≡ Some r → IsToldBy has_of inputs r
unfolding first_has
has-told [] r is = absurd (none-some r is)
has-told (cue ∷ before) r is =
    elim (or-cases (first_has before) (has_of cue) r is) [
      | inl was ↦ told-later has_of cue before r (has-told before r was)
      | inr now ↦ record { cue = cue; input = inl refl; tells = now.1 }
    ]

pub olds-told : (inputs : List Cue) (ss : List Timestamp) → first_olds inputs ≡ Some ss → IsToldBy olds_of inputs ss
unfolding first_olds
olds-told [] ss is = absurd (none-some ss is)
olds-told (cue ∷ before) ss is =
    elim (or-cases (first_olds before) (olds_of cue) ss is) [
      | inl was ↦ told-later olds_of cue before ss (olds-told before ss was)
      | inr now ↦ record { cue = cue; input = inl refl; tells = now.1 }
    ]

pub version-told : (inputs : List Cue) (v : Version) → version_of inputs ≡ Some v → IsToldBy has_of inputs v.rec
unfolding version_of
version-told [] v is = absurd (none-some v is)
version-told (cue ∷ before) v is = newer (λ (w : Version) (was : version_of before ≡ Some w). version-told before w was) (version_of before) (has_of cue) refl refl is
  where
    old : ((w : Version) → version_of before ≡ Some w → IsToldBy has_of before w.rec) → (w : Version) → version_of before ≡ Some w → w.rec ≡ v.rec → IsToldBy has_of (cue ∷ before) v.rec
    old earlier w was same = subst (λ (x : Option RecordValue). IsToldBy has_of (cue ∷ before) x) same (told-later has_of cue before w.rec (earlier w was))

    new : (r : Option RecordValue) → has_of cue ≡ Some r → r ≡ v.rec → IsToldBy has_of (cue ∷ before) v.rec
    new r tells same = record { cue = cue; input = inl refl; tells = tells ∙ ap Some same }

    newer : ((w : Version) → version_of before ≡ Some w → IsToldBy has_of before w.rec) → (was : Option Version) (has : Option (Option RecordValue)) → version_of before ≡ was → has_of cue ≡ has → newer_version was cue has ≡ Some v → IsToldBy has_of (cue ∷ before) v.rec
    newer earlier None None was has e = absurd (none-some v e)
    newer earlier None (Some r) was has e = new r has (ap (λ (x : Version). x.rec) (same_Some (record { rec = r; since = [] }) v e))
    newer earlier (Some w) None was has e = old earlier w was (ap (λ (x : Version). x.rec) (same_Some (record { rec = w.rec; since = cue ∷ w.since }) v e))
    newer earlier (Some w) (Some r) was has e =
        elim (cases_bool (stamp_lt (stamp_of_record w.rec) (stamp_of_record r))) [
          | inl above ↦ new r has (ap (λ (x : Version). x.rec) (same_Some (record { rec = r; since = [] }) v (rw above at e)))
          | inr not_above ↦ old earlier w was (ap (λ (x : Version). x.rec) (same_Some (record { rec = w.rec; since = cue ∷ w.since }) v (rw not_above at e)))
        ]

-- names that the tests find equal are equal
pub same-name : (b c n o : ℕ) (k key : List ℕ) (P : ℕ → ℕ → List ℕ → Type 0) → (b == c && n == o && key_eq k key) ≡ true → P b n k → P c o key
same-name b c n o k key P tests holds =
    let outer = both (b == c && n == o) (key_eq k key) tests in
    let inner = both (b == c) (n == o) outer.0 in
    subst (λ (x : List ℕ). P c o x) (key_eq-true k key outer.1) (subst (λ (y : ℕ). P c y k) (eqb-true n o inner.1) (subst (λ (z : ℕ). P z n k) (eqb-true b c inner.0) holds))

-- a record that an input tells was said to its operation
pub said-has : (p : Params) (t : List Deed) (c o : ℕ) (key : List ℕ) (cue : Cue) (r : Option RecordValue) → has_of cue ≡ Some r → addresses c o key cue ≡ true → IsDelivered p t cue → IsSent p t (Say (says.Has c o key r))
unfolding addresses
said-has p t c o key (cues.Meta (says.Has b n k q)) r tells own sent = same-name b c n o k key (λ x y z. IsSent p t (Say (says.Has x y z r))) own (subst (λ (x : Option RecordValue). IsSent p t (Say (says.Has b n k x))) (same_Some q r tells) sent)
said-has p t c o key (cues.Meta (says.Applied b n k s)) r tells own sent = absurd (none-some r tells)
said-has p t c o key (cues.Meta (says.Kept b n k s)) r tells own sent = absurd (none-some r tells)
said-has p t c o key (cues.Meta (says.Fired b n k s)) r tells own sent = absurd (none-some r tells)
said-has p t c o key (cues.Meta (says.OldList b n k ss)) r tells own sent = absurd (none-some r tells)
said-has p t c o key (cues.Meta (says.Forgot b n k)) r tells own sent = absurd (none-some r tells)
said-has p t c o key (cues.Meta (says.Swapped b n k s)) r tells own sent = absurd (none-some r tells)
said-has p t c o key (cues.Meta (says.Changed b n k s)) r tells own sent = absurd (none-some r tells)
said-has p t c o key (cues.Cloud reply) r tells own sent = absurd (none-some r tells)
said-has p t c o key cues.Tick r tells own sent = absurd (none-some r tells)

-- superseded timestamps that an input tells were said to its operation
pub said-olds : (p : Params) (t : List Deed) (c o : ℕ) (key : List ℕ) (cue : Cue) (ss : List Timestamp) → olds_of cue ≡ Some ss → addresses c o key cue ≡ true → IsDelivered p t cue → IsSent p t (Say (says.OldList c o key ss))
unfolding addresses
said-olds p t c o key (cues.Meta (says.OldList b n k q)) ss tells own sent = same-name b c n o k key (λ x y z. IsSent p t (Say (says.OldList x y z ss))) own (subst (λ (x : List Timestamp). IsSent p t (Say (says.OldList b n k x))) (same_Some q ss tells) sent)
said-olds p t c o key (cues.Meta (says.Has b n k r)) ss tells own sent = absurd (none-some ss tells)
said-olds p t c o key (cues.Meta (says.Applied b n k s)) ss tells own sent = absurd (none-some ss tells)
said-olds p t c o key (cues.Meta (says.Kept b n k s)) ss tells own sent = absurd (none-some ss tells)
said-olds p t c o key (cues.Meta (says.Fired b n k s)) ss tells own sent = absurd (none-some ss tells)
said-olds p t c o key (cues.Meta (says.Forgot b n k)) ss tells own sent = absurd (none-some ss tells)
said-olds p t c o key (cues.Meta (says.Swapped b n k s)) ss tells own sent = absurd (none-some ss tells)
said-olds p t c o key (cues.Meta (says.Changed b n k s)) ss tells own sent = absurd (none-some ss tells)
said-olds p t c o key (cues.Cloud reply) ss tells own sent = absurd (none-some ss tells)
said-olds p t c o key cues.Tick ss tells own sent = absurd (none-some ss tells)

-- an answer to an update was said to its operation
pub said-answer : (p : Params) (t : List Deed) (c o : ℕ) (key : List ℕ) (cue : Cue) → is_update_answer cue ≡ true → addresses c o key cue ≡ true → IsDelivered p t cue →
    (s : Timestamp) × (IsSent p t (Say (says.Applied c o key s)) ⊎ IsSent p t (Say (says.Kept c o key s)))
unfolding addresses
said-answer p t c o key (cues.Meta (says.Applied b n k s)) is own sent = (s, inl (same-name b c n o k key (λ x y z. IsSent p t (Say (says.Applied x y z s))) own sent))
said-answer p t c o key (cues.Meta (says.Kept b n k s)) is own sent = (s, inr (same-name b c n o k key (λ x y z. IsSent p t (Say (says.Kept x y z s))) own sent))
said-answer p t c o key (cues.Meta (says.Has b n k r)) is own sent = absurd (false≢true is)
said-answer p t c o key (cues.Meta (says.Fired b n k s)) is own sent = absurd (false≢true is)
said-answer p t c o key (cues.Meta (says.OldList b n k ss)) is own sent = absurd (false≢true is)
said-answer p t c o key (cues.Meta (says.Forgot b n k)) is own sent = absurd (false≢true is)
said-answer p t c o key (cues.Meta (says.Swapped b n k s)) is own sent = absurd (false≢true is)
said-answer p t c o key (cues.Meta (says.Changed b n k s)) is own sent = absurd (false≢true is)
said-answer p t c o key (cues.Cloud reply) is own sent = absurd (false≢true is)
said-answer p t c o key cues.Tick is own sent = absurd (false≢true is)

-- news that the record was superseded was said to its operation
pub said-fired : (p : Params) (t : List Deed) (c o : ℕ) (key : List ℕ) (cue : Cue) (s : Timestamp) → is_fired s cue ≡ true → addresses c o key cue ≡ true → IsDelivered p t cue → IsSent p t (Say (says.Fired c o key s))
unfolding addresses
said-fired p t c o key (cues.Meta (says.Fired b n k q)) s is own sent = same-name b c n o k key (λ x y z. IsSent p t (Say (says.Fired x y z s))) own (subst (λ (x : Timestamp). IsSent p t (Say (says.Fired b n k x))) (stamp_eq-true q s is) sent)
said-fired p t c o key (cues.Meta (says.Has b n k r)) s is own sent = absurd (false≢true is)
said-fired p t c o key (cues.Meta (says.Applied b n k q)) s is own sent = absurd (false≢true is)
said-fired p t c o key (cues.Meta (says.Kept b n k q)) s is own sent = absurd (false≢true is)
said-fired p t c o key (cues.Meta (says.OldList b n k ss)) s is own sent = absurd (false≢true is)
said-fired p t c o key (cues.Meta (says.Forgot b n k)) s is own sent = absurd (false≢true is)
said-fired p t c o key (cues.Meta (says.Swapped b n k q)) s is own sent = absurd (false≢true is)
said-fired p t c o key (cues.Meta (says.Changed b n k q)) s is own sent = absurd (false≢true is)
said-fired p t c o key (cues.Cloud reply) s is own sent = absurd (false≢true is)
said-fired p t c o key cues.Tick s is own sent = absurd (false≢true is)

-- an answer to the swap of a record was said to its operation: that it was swapped, or what another record it found
pub said-verdict : (p : Params) (t : List Deed) (c o : ℕ) (key : List ℕ) (cue : Cue) (r : RecordValue) (reply : Reply) → answered_by (Some r) cue ≡ Some reply → addresses c o key cue ≡ true → IsDelivered p t cue →
    (s : Timestamp) × ((IsSent p t (Say (says.Swapped c o key s)) × (told.Swapped r.stamp ≡ reply)) ⊎ (IsSent p t (Say (says.Changed c o key s)) × (told.Changed s ≡ reply)))
unfolding addresses
said-verdict p t c o key (cues.Meta (says.Swapped b n k s)) r reply is own sent = (s, inl (same-name b c n o k key (λ x y z. IsSent p t (Say (says.Swapped x y z s))) own sent, same_Some (told.Swapped r.stamp) reply is))
said-verdict p t c o key (cues.Meta (says.Changed b n k s)) r reply is own sent = (s, inr (same-name b c n o k key (λ x y z. IsSent p t (Say (says.Changed x y z s))) own sent, same_Some (told.Changed s) reply is))
said-verdict p t c o key (cues.Meta (says.Has b n k h)) r reply is own sent = absurd (none-some reply is)
said-verdict p t c o key (cues.Meta (says.Applied b n k s)) r reply is own sent = absurd (none-some reply is)
said-verdict p t c o key (cues.Meta (says.Kept b n k s)) r reply is own sent = absurd (none-some reply is)
said-verdict p t c o key (cues.Meta (says.Fired b n k s)) r reply is own sent = absurd (none-some reply is)
said-verdict p t c o key (cues.Meta (says.OldList b n k ss)) r reply is own sent = absurd (none-some reply is)
said-verdict p t c o key (cues.Meta (says.Forgot b n k)) r reply is own sent = absurd (none-some reply is)
said-verdict p t c o key (cues.Cloud answer) r reply is own sent = absurd (none-some reply is)
said-verdict p t c o key cues.Tick r reply is own sent = absurd (none-some reply is)

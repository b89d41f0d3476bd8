-- What clouds hold: what an honest cloud acknowledged, it holds, unless it was superseded.
use Rattle.std.proofs.Common.{◌≡◌, ℕ, true, List, [], ◌∷◌, map, Option, Some, None, refl, sym, ap, subst, ◌∙◌, inl, inr}
use Rattle.std.specs.Prelude.{◌==◌, ◌⊎◌}
use Rattle.std.specs.List.{AllByRecursion}
use Rattle.std.proofs.lemmas.Option.{none-some, same_Some}
use Rattle.std.proofs.lemmas.Bool.{eqb-true, eq-eqb, false≢true}
use Rattle.hy_record.specs.Stamp.{Timestamp, stamp_eq}
use Rattle.hy_record.specs.Key.{key_eq}
use Rattle.hy_record.proofs.Order.{key_eq-true, stamp_eq-true, key_eq-same, stamp_eq-same}
use Rattle.hy_meta.proofs.Rising.{cases_bool, both}
use Rattle.hy_record.specs.declared.turn.Cue.{Cue}
use Rattle.hy_record.specs.declared.turn.Out.{Out}
use Rattle.hy_record.specs.declared.turn.Out.TheVariants as outs
use Rattle.hy_record.specs.declared.message.MetaSay.{MetaSay}
use Rattle.hy_meta.specs.Meta.{service_answers}
use Rattle.hy_record.specs.declared.cloud.CloudAct.{CloudAct}
use Rattle.hy_record.specs.declared.cloud.CloudAct.TheVariants.{Put, Get, Delete}
use Rattle.hy_record.specs.declared.cloud.CloudAsk.{CloudAsk}
use Rattle.hy_record.specs.declared.cloud.Wish.{Wish}
use Rattle.hy_protocol.specs.Inputs.{is_stored}
use Rattle.hy_protocol.specs.Cloud.{is_named, held_after, bytes_held, answer_by, cloud_answer}
use Rattle.hy_trace.specs.Deeds.{Params, Deed, Joined, Began, Handed, Served, Granted, Stopped, Nothing, Start, served, granted, inputs_of, start_of}
use Rattle.hy_trace.specs.Messages.{Message, Ask, Say, Request, Answer, message_of, sent_after, sent_at, IsSent}
use Rattle.hy_protocol.specs.Operations.{sends_of}
use Rattle.hy_trace.specs.Trace.{Fits, IsTrace}
use Rattle.hy_trace.proofs.Growth.{or-first, or-cases, all-among}
use Rattle.hy_theorems.proofs.Meaning.{Meaning, MeansWish, IsPutting, WasOld, old-keeps, putting-keeps}
use Rattle.hy_theorems.proofs.Invariant.{Holds, trace-holds}

none-held : (i : ℕ) (key : List ℕ) (s : Timestamp) → bytes_held (granted i []) key s ≡ None
unfolding granted bytes_held
none-held i key s = refl

named : (key : List ℕ) (s : Timestamp) (wish : Wish) → is_named key s wish ≡ true → (wish.key ≡ key) × (wish.stamp ≡ s)
unfolding is_named
named key s wish is = let tests = both (key_eq wish.key key) (stamp_eq wish.stamp s) is in (key_eq-true wish.key key tests.0, stamp_eq-true wish.stamp s tests.1)

after-cases : (act : CloudAct) (held : Option (List ℕ)) (bytes : List ℕ) → held_after act held ≡ Some bytes → (held ≡ Some bytes) ⊎ (act ≡ Put bytes)
after-cases (Put new) held bytes is = elim (or-cases held (Some new) bytes is) [ inl was ↦ inl was | inr now ↦ inr (ap Put (same_Some new bytes now.1)) ]
after-cases Get held bytes is = inl is
after-cases Delete held bytes is = absurd (none-some bytes is)

-- what is held was held before, or the request put it there
held-cases : (wish : Wish) (before : List Wish) (key : List ℕ) (s : Timestamp) (bytes : List ℕ) → bytes_held (wish ∷ before) key s ≡ Some bytes → (bytes_held before key s ≡ Some bytes) ⊎ ((wish.act ≡ Put bytes) × (wish.key ≡ key) × (wish.stamp ≡ s))
unfolding bytes_held
held-cases wish before key s bytes is =
    elim (cases_bool (is_named key s wish)) [
      | inl here ↦ let name = named key s wish here in elim (after-cases wish.act (bytes_held before key s) bytes (rw here at is)) [ inl was ↦ inl was | inr put ↦ inr (put, name.0, name.1) ]
      | inr other ↦ inl (rw other at is)
    ]

after-stays : (act : CloudAct) (held : Option (List ℕ)) (bytes : List ℕ) → held ≡ Some bytes → (held_after act held ≡ Some bytes) ⊎ (act ≡ Delete)
after-stays (Put new) held bytes is = inl (or-first held (Some new) bytes is)
after-stays Get held bytes is = inl is
after-stays Delete held bytes is = inr refl

-- what is held stays, unless the request deletes it
stays : (wish : Wish) (before : List Wish) (key : List ℕ) (s : Timestamp) (bytes : List ℕ) → bytes_held before key s ≡ Some bytes → (bytes_held (wish ∷ before) key s ≡ Some bytes) ⊎ ((wish.act ≡ Delete) × (wish.key ≡ key) × (wish.stamp ≡ s))
unfolding bytes_held
stays wish before key s bytes is =
    elim (cases_bool (is_named key s wish)) [
      | inl here ↦ let name = named key s wish here in elim (after-stays wish.act (bytes_held before key s) bytes is) [ inl stayed ↦ inl (rw here stayed) | inr gone ↦ inr (gone, name.0, name.1) ]
      | inr other ↦ inl (rw other is)
    ]

after-put : (act : CloudAct) (held : Option (List ℕ)) → is_stored (answer_by act held) ≡ true → (bytes : List ℕ) × (held_after act held ≡ Some bytes)
after-put (Put new) None stored = (new, refl)
after-put (Put new) (Some bytes) stored = (bytes, refl)
after-put Get None stored = absurd (false≢true stored)
after-put Get (Some bytes) stored = absurd (false≢true stored)
after-put Delete None stored = absurd (false≢true stored)
after-put Delete (Some bytes) stored = absurd (false≢true stored)

-- where the answer is an acknowledgement, something is held then
put-holds : (wish : Wish) (before : List Wish) → is_stored (cloud_answer before wish) ≡ true → (bytes : List ℕ) × (bytes_held (wish ∷ before) wish.key wish.stamp ≡ Some bytes)
unfolding cloud_answer bytes_held is_named
put-holds wish before stored =
    let after = after-put wish.act (bytes_held before wish.key wish.stamp) stored in
    (after.0, rw (key_eq-same wish.key, stamp_eq-same wish.stamp) after.1)

-- a cloud serves one request more, which was sent to it, or none
pub granted-step : (p : Params) (i : ℕ) (d : Deed) (t : List Deed) → Fits p t d → (granted i (d ∷ t) ≡ granted i t) ⊎ ((ask : CloudAsk) × IsSent p t (Request ask) × (ask.cloud ≡ i) × (granted i (d ∷ t) ≡ ask.wish ∷ granted i t))
unfolding granted
granted-step p i Joined t fits = inl refl
granted-step p i (Began c o a) t fits = inl refl
granted-step p i (Handed c o w cue) t fits = inl refl
granted-step p i (Served ask) t fits = inl refl
granted-step p i (Stopped c) t fits = inl refl
granted-step p i Nothing t fits = inl refl
granted-step p i (Granted ask) t fits =
    elim (cases_bool (ask.cloud == i)) [
      | inl here ↦ inr (ask, fits.0, eqb-true ask.cloud i here, rw here refl)
      | inr other ↦ inl (rw other refl)
    ]

-- what is held under a name is a fragment of the put of that timestamp
pub held-put : (p : Params) (i : ℕ) (key : List ℕ) (s : Timestamp) (bytes : List ℕ) (t : List Deed) → IsTrace p t → bytes_held (granted i t) key s ≡ Some bytes → (c o : ℕ) × IsPutting p c o i key s bytes t
unfolding IsTrace
held-put p i key s bytes [] trace is = absurd (nothing is)
  where
    nothing : bytes_held (granted i []) key s ≡ Some bytes → ⊥
    nothing e = none-some bytes (sym (none-held i key s) ∙ e)
held-put p i key s bytes (d ∷ t) trace is =
    elim (granted-step p i d t trace.0) [
      | inl same ↦ lasts (held-put p i key s bytes t trace.1 (ap (λ (w : List Wish). bytes_held w key s) (sym same) ∙ is))
      | inr more ↦ elim (held-cases more.0.wish (granted i t) key s bytes (ap (λ (w : List Wish). bytes_held w key s) (sym more.3) ∙ is)) [
        | inl was ↦ lasts (held-put p i key s bytes t trace.1 was)
        | inr new ↦ lasts (put more.0 more.2 new ((trace-holds p t trace.1).said (Request more.0) more.1))
      ]
    ]
  where
    lasts : (c o : ℕ) × IsPutting p c o i key s bytes t → (c o : ℕ) × IsPutting p c o i key s bytes (d ∷ t)
    lasts was = (was.0, was.1, putting-keeps p was.0 was.1 i key s bytes d t trace.0 was.2)

    put : (ask : CloudAsk) → ask.cloud ≡ i → (ask.wish.act ≡ Put bytes) × (ask.wish.key ≡ key) × (ask.wish.stamp ≡ s) → Meaning p t (Request ask) → (c o : ℕ) × IsPutting p c o i key s bytes t
    put ask cloud name means =
        let one = subst (λ (x : CloudAct). MeansWish p t ask.client ask.op ask.cloud ask.wish.key ask.wish.stamp x) name.0 means in
        let two = subst (λ (x : ℕ). IsPutting p ask.client ask.op x ask.wish.key ask.wish.stamp bytes t) cloud one in
        let three = subst (λ (x : List ℕ). IsPutting p ask.client ask.op i x ask.wish.stamp bytes t) name.1 two in
        (ask.client, ask.op, subst (λ (x : Timestamp). IsPutting p ask.client ask.op i key x bytes t) name.2 three)

-- the cloud holds something under the name, or the timestamp was superseded at some time
abbrev pub IsKept : List Deed → ℕ → List ℕ → Timestamp → Type 0
IsKept t i key s = WasOld (served t) key s ⊎ ((bytes : List ℕ) × (bytes_held (granted i t) key s ≡ Some bytes))

pub kept-keeps : (p : Params) (i : ℕ) (key : List ℕ) (s : Timestamp) (d : Deed) (t : List Deed) → Fits p t d → Holds p t → IsKept t i key s → IsKept (d ∷ t) i key s
kept-keeps p i key s d t fits holds (inl old) = inl (old-keeps d t key s old)
kept-keeps p i key s d t fits holds (inr held) =
    elim (granted-step p i d t fits) [
      | inl same ↦ inr (held.0, ap (λ (w : List Wish). bytes_held w key s) same ∙ held.1)
      | inr more ↦ elim (stays more.0.wish (granted i t) key s held.0 held.1) [
        | inl stayed ↦ inr (held.0, ap (λ (w : List Wish). bytes_held w key s) more.3 ∙ stayed)
        | inr gone ↦ inl (old-keeps d t key s (deleted more.0 gone (holds.said (Request more.0) more.1)))
      ]
    ]
  where
    deleted : (ask : CloudAsk) → (ask.wish.act ≡ Delete) × (ask.wish.key ≡ key) × (ask.wish.stamp ≡ s) → Meaning p t (Request ask) → WasOld (served t) key s
    deleted ask name means =
        let one : WasOld (served t) ask.wish.key ask.wish.stamp = subst (λ (x : CloudAct). MeansWish p t ask.client ask.op ask.cloud ask.wish.key ask.wish.stamp x) name.0 means in
        subst (λ (x : Timestamp). WasOld (served t) key x) name.2 (subst (λ (x : List ℕ). WasOld (served t) x ask.wish.stamp) name.1 one)

-- each acknowledgement that an honest cloud sent stands for what it holds, unless that was superseded
abbrev pub MeansStored : List Deed → Message → Type 0
MeansStored t (Ask ask) = Unit {0}
MeansStored t (Say say) = Unit {0}
MeansStored t (Request ask) = Unit {0}
MeansStored t (Answer reply) = is_stored reply.say ≡ true → IsKept t reply.cloud reply.key reply.stamp

stored-keeps : (p : Params) (d : Deed) (t : List Deed) (m : Message) → Fits p t d → Holds p t → MeansStored t m → MeansStored (d ∷ t) m
stored-keeps p d t (Ask ask) fits holds means = tt
stored-keeps p d t (Say say) fits holds means = tt
stored-keeps p d t (Request ask) fits holds means = tt
stored-keeps p d t (Answer reply) fits holds means = λ stored. kept-keeps p reply.cloud reply.key reply.stamp d t fits holds (means stored)

outs-stored : (t : List Deed) (outs : List Out) → AllByRecursion (MeansStored t) (map message_of outs)
outs-stored t [] = tt
outs-stored t (outs.Meta ask ∷ outs) = (tt, outs-stored t outs)
outs-stored t (outs.Cloud ask ∷ outs) = (tt, outs-stored t outs)

says-stored : (t : List Deed) (says : List MetaSay) → AllByRecursion (MeansStored t) (map Say says)
says-stored t [] = tt
says-stored t (say ∷ says) = (tt, says-stored t says)

operation-stored : (p : Params) (c o : ℕ) (t : List Deed) (inputs : List Cue) (s : Option Start) → AllByRecursion (MeansStored t) (sent_after p c o inputs s)
operation-stored p c o t inputs None = tt
operation-stored p c o t inputs (Some s) = outs-stored t (sends_of p.f p.k c o s.action inputs)

granted-here : (ask : CloudAsk) (t : List Deed) → granted ask.cloud (Granted ask ∷ t) ≡ ask.wish ∷ granted ask.cloud t
unfolding granted
granted-here ask t = rw (eq-eqb ask.cloud ask.cloud refl) refl

stored-at : (p : Params) (d : Deed) (t : List Deed) → AllByRecursion (MeansStored (d ∷ t)) (sent_at p d t)
unfolding sent_at
stored-at p Joined t = tt
stored-at p (Stopped c) t = tt
stored-at p Nothing t = tt
stored-at p (Began c o a) t = outs-stored (Began c o a ∷ t) (sends_of p.f p.k c o a [])
stored-at p (Handed c o w cue) t = operation-stored p c o (Handed c o w cue ∷ t) (cue ∷ inputs_of c o t) (start_of c o t)
stored-at p (Served ask) t = says-stored (Served ask ∷ t) (service_answers (served t) ask)
stored-at p (Granted ask) t = (
  (λ stored. (
      let held = put-holds ask.wish (granted ask.cloud t) stored in
      inr (held.0, ap (λ (w : List Wish). bytes_held w ask.wish.key ask.wish.stamp) (granted-here ask t) ∙ held.1))),
  tt,
)

pub stored-held : (p : Params) (t : List Deed) → IsTrace p t → (m : Message) → IsSent p t m → MeansStored t m
unfolding IsTrace IsSent
stored-held p [] trace m sent = absurd sent
stored-held p (d ∷ t) trace m (inl now) = all-among (MeansStored (d ∷ t)) (sent_at p d t) m (stored-at p d t) now
stored-held p (d ∷ t) trace m (inr was) = stored-keeps p d t m trace.0 (trace-holds p t trace.1) (stored-held p t trace.1 m was)

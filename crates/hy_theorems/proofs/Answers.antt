-- What it means that an honest cloud sent an answer.
use Rattle.std.proofs.Common.{◌≡◌, ℕ, Bool, true, false, cond, List, [], ◌∷◌, map, Option, Some, None, refl, sym, ap, subst, ◌∙◌, inl, inr}
use Rattle.std.specs.Prelude.{◌⊎◌}
use Rattle.std.specs.List.{AllByRecursion}
use Rattle.std.specs.Str.{bytes_eq}
use Rattle.std.proofs.lemmas.Option.{none-some}
use Rattle.hy_meta.specs.Service.{Attempt}
use Rattle.hy_meta.specs.Run.{IsTried}
use Rattle.hy_theorems.specs.Writing.{change_value}
use Rattle.hy_record.specs.declared.message.MetaSay.{MetaSay}
use Rattle.hy_record.specs.Stamp.{Timestamp}
use Rattle.hy_base.specs.Shape.{IsShape}
use Rattle.hy_record.specs.Clouds.{clouds_of}
use Rattle.hy_record.specs.Record.{RecordValue}
use Rattle.hy_meta.specs.Meta.{service_answers}
use Rattle.hy_record.specs.declared.turn.Cue.{Cue}
use Rattle.hy_record.specs.declared.turn.Out.{Out}
use Rattle.hy_record.specs.declared.turn.Out.TheVariants as outs
use Rattle.hy_record.specs.declared.cloud.CloudAct.{CloudAct}
use Rattle.hy_record.specs.declared.cloud.CloudAct.TheVariants as acts
use Rattle.hy_record.specs.declared.cloud.CloudSay.{CloudSay}
use Rattle.hy_record.specs.declared.cloud.CloudSay.TheVariants.{Stored, Conflict, Body, Missing, Gone, Bad}
use Rattle.hy_protocol.specs.Cloud.{bytes_held, answer_by, cloud_answer}
use Rattle.hy_record.specs.Record.{tombstone}
use Rattle.hy_protocol.specs.Write.{update_of}
use Rattle.hy_trace.specs.Deeds.{Params, Deed, Joined, Began, Handed, Served, Granted, Stopped, Nothing, Start, served, granted, inputs_of, start_of}
use Rattle.hy_trace.specs.Messages.{Message, Ask, Say, Request, Answer, message_of, sent_after, sent_at, IsSent}
use Rattle.hy_protocol.specs.Operations.{write_plan, sends_of}
use Rattle.hy_trace.specs.Trace.{Fits, IsTrace}
use Rattle.hy_trace.proofs.Growth.{all-among}
use Rattle.hy_theorems.proofs.Meaning.{MeansWish, IsFetched, IsUpdating, IsPutting, WasOld, old-keeps, putting-keeps}
use Rattle.hy_theorems.proofs.Invariant.{trace-holds, tried-means}
use Rattle.hy_theorems.proofs.Listing.{IsIn}
use Rattle.hy_theorems.proofs.Told.{IsRecordOf, update-is}
use Rattle.hy_theorems.proofs.Durable.{IsKept, held-put}
use Rattle.hy_theorems.proofs.Retrievable.{IsQuorumRecord, IsAcknowledged, update-quorum, listed-clouds, acknowledged-kept}

all-element : {A : Type 0} (P : A → Type 0) (xs : List A) (x : A) → AllByRecursion P xs → IsIn xs x → P x
all-element P [] x all is = absurd is
all-element P (first ∷ others) x all (inl is) = subst P is all.0
all-element P (first ∷ others) x all (inr later) = all-element P others x all.1 later

no-clouds : clouds_of 0 ≡ []
unfolding clouds_of
no-clouds = refl

-- an honest cloud of the list of an attempt that was served holds something under its name, or that was superseded
pub listed-kept : (p : Params) (t : List Deed) → IsTrace p t → IsShape p.f p.k → (a : Attempt) → IsTried (served t) a → (cloud : ℕ) → IsIn (clouds_of a.rec.clouds) cloud → (p.is_liar cloud ≡ true) ⊎ IsKept t cloud a.key a.rec.stamp
listed-kept p t trace shape a tried cloud listed =
    let u : IsUpdating p a.client a.op a.key a.expected a.rec t = tried-means p t a trace (trace-holds p t trace) tried in
    by_value u (change_value u.change) refl
  where
    by_value : (u : IsUpdating p a.client a.op a.key a.expected a.rec t) (value : Option (List ℕ)) → change_value u.change ≡ value → (p.is_liar cloud ≡ true) ⊎ IsKept t cloud a.key a.rec.stamp
    by_value u None value_is =
        let r = a.rec in
        let tomb : r ≡ tombstone r.stamp = subst (λ (v : Option (List ℕ)). IsRecordOf p v r) value_is (update-is p a.client a.op a.key (change_value u.change) (inputs_of a.client a.op t) r u.update) in
        absurd (subst (λ (xs : List ℕ). IsIn xs cloud) (ap (λ (x : RecordValue). clouds_of x.clouds) tomb ∙ no-clouds) listed)
    by_value u (Some v) value_is =
        let r = a.rec in
        let inputs = inputs_of a.client a.op t in
        let q : IsQuorumRecord p v inputs r = update-quorum p a.client a.op a.key v inputs r (ap (λ (x : Option (List ℕ)). update_of (write_plan p.f p.k a.client a.op a.key x) inputs) (sym value_is) ∙ u.update) in
        let acknowledged : IsAcknowledged r.stamp inputs cloud = all-element (IsAcknowledged r.stamp inputs) q.list cloud q.acknowledged (subst (λ (xs : List ℕ). IsIn xs cloud) (listed-clouds p v inputs r shape q) listed) in
        acknowledged-kept p t a.key a.expected r trace a.client a.op u cloud acknowledged

-- an acknowledgement or a conflict answers a put; bytes are those of a put; and what is missing or deleted was superseded
abbrev pub MeansSaid : Params → List Deed → ℕ → ℕ → ℕ → List ℕ → Timestamp → CloudSay → Type 0
MeansSaid p t c o cloud k s (Stored fresh) = (bytes : List ℕ) × IsPutting p c o cloud k s bytes t
MeansSaid p t c o cloud k s Conflict = (bytes : List ℕ) × IsPutting p c o cloud k s bytes t
MeansSaid p t c o cloud k s (Body bytes) = (b n : ℕ) × IsPutting p b n cloud k s bytes t
MeansSaid p t c o cloud k s Missing = WasOld (served t) k s
MeansSaid p t c o cloud k s Gone = WasOld (served t) k s
MeansSaid p t c o cloud k s (Bad code) = ⊥

abbrev pub MeansAnswer : Params → List Deed → Message → Type 0
MeansAnswer p t (Ask ask) = Unit {0}
MeansAnswer p t (Say say) = Unit {0}
MeansAnswer p t (Request ask) = Unit {0}
MeansAnswer p t (Answer reply) = MeansSaid p t reply.client reply.op reply.cloud reply.key reply.stamp reply.say

said-keeps : (p : Params) (d : Deed) (t : List Deed) (c o cloud : ℕ) (k : List ℕ) (s : Timestamp) (say : CloudSay) → Fits p t d → MeansSaid p t c o cloud k s say → MeansSaid p (d ∷ t) c o cloud k s say
said-keeps p d t c o cloud k s (Stored fresh) fits means = (means.0, putting-keeps p c o cloud k s means.0 d t fits means.1)
said-keeps p d t c o cloud k s Conflict fits means = (means.0, putting-keeps p c o cloud k s means.0 d t fits means.1)
said-keeps p d t c o cloud k s (Body bytes) fits means = (means.0, means.1, putting-keeps p means.0 means.1 cloud k s bytes d t fits means.2)
said-keeps p d t c o cloud k s Missing fits means = old-keeps d t k s means
said-keeps p d t c o cloud k s Gone fits means = old-keeps d t k s means
said-keeps p d t c o cloud k s (Bad code) fits means = means

answer-keeps : (p : Params) (d : Deed) (t : List Deed) (m : Message) → Fits p t d → MeansAnswer p t m → MeansAnswer p (d ∷ t) m
answer-keeps p d t (Ask ask) fits means = tt
answer-keeps p d t (Say say) fits means = tt
answer-keeps p d t (Request ask) fits means = tt
answer-keeps p d t (Answer reply) fits means = said-keeps p d t reply.client reply.op reply.cloud reply.key reply.stamp reply.say fits means

-- what an honest cloud answers
module _ (p : Params) (t : List Deed) (trace : IsTrace p t) (shape : IsShape p.f p.k) (c o cloud : ℕ) (honest : p.is_liar cloud ≡ false) (k : List ℕ) (s : Timestamp) where
  missing-old : (f : IsFetched t cloud k s) → bytes_held (granted cloud t) k s ≡ None → WasOld (served t) k s
  missing-old f none =
      elim (listed-kept p t trace shape f.attempt f.tried cloud f.listed) [
        | inl liar ↦ absurd (true-false (sym liar ∙ honest))
        | inr kept ↦ by_kept (subst (λ (x : Timestamp). IsKept t cloud k x) f.stamp_is (subst (λ (x : List ℕ). IsKept t cloud x f.attempt.rec.stamp) f.key_is kept))
      ]
    where
      true-false : true ≡ false → ⊥
      true-false e = cc

      by_kept : IsKept t cloud k s → WasOld (served t) k s
      by_kept (inl old) = old
      by_kept (inr held) = absurd (none-some held.0 (sym none ∙ held.1))

  either-put : (bytes : List ℕ) (test : Bool) → IsPutting p c o cloud k s bytes t → MeansSaid p t c o cloud k s (cond test (Stored false) Conflict)
  either-put bytes true put = (bytes, put)
  either-put bytes false put = (bytes, put)

  pub answers-mean : (act : CloudAct) (held : Option (List ℕ)) → bytes_held (granted cloud t) k s ≡ held → MeansWish p t c o cloud k s act → MeansSaid p t c o cloud k s (answer_by act held)
  answers-mean (acts.Put bytes) None is means = (bytes, means)
  answers-mean (acts.Put bytes) (Some held) is means = either-put bytes (bytes_eq held bytes) means
  answers-mean acts.Get None is means = missing-old means is
  answers-mean acts.Get (Some held) is means = held-put p cloud k s held t trace is
  answers-mean acts.Delete None is means = means
  answers-mean acts.Delete (Some held) is means = means

outs-answer : (p : Params) (t : List Deed) (outs : List Out) → AllByRecursion (MeansAnswer p t) (map message_of outs)
outs-answer p t [] = tt
outs-answer p t (outs.Meta ask ∷ outs) = (tt, outs-answer p t outs)
outs-answer p t (outs.Cloud ask ∷ outs) = (tt, outs-answer p t outs)

says-answer : (p : Params) (t : List Deed) (says : List MetaSay) → AllByRecursion (MeansAnswer p t) (map Say says)
says-answer p t [] = tt
says-answer p t (say ∷ says) = (tt, says-answer p t says)

operation-answers : (p : Params) (c o : ℕ) (t : List Deed) (inputs : List Cue) (s : Option Start) → AllByRecursion (MeansAnswer p t) (sent_after p c o inputs s)
operation-answers p c o t inputs None = tt
operation-answers p c o t inputs (Some s) = outs-answer p t (sends_of p.f p.k c o s.action inputs)

answer-at : (p : Params) (d : Deed) (t : List Deed) → IsTrace p t → IsShape p.f p.k → Fits p t d → AllByRecursion (MeansAnswer p (d ∷ t)) (sent_at p d t)
unfolding sent_at cloud_answer
answer-at p Joined t trace shape fits = tt
answer-at p (Stopped c) t trace shape fits = tt
answer-at p Nothing t trace shape fits = tt
answer-at p (Began c o a) t trace shape fits = outs-answer p (Began c o a ∷ t) (sends_of p.f p.k c o a [])
answer-at p (Handed c o w cue) t trace shape fits = operation-answers p c o (Handed c o w cue ∷ t) (cue ∷ inputs_of c o t) (start_of c o t)
answer-at p (Served ask) t trace shape fits = says-answer p (Served ask ∷ t) (service_answers (served t) ask)
answer-at p (Granted ask) t trace shape fits =
    let means = (trace-holds p t trace).said (Request ask) fits.0 in
    let now = answers-mean p t trace shape ask.client ask.op ask.cloud fits.1 ask.wish.key ask.wish.stamp ask.wish.act (bytes_held (granted ask.cloud t) ask.wish.key ask.wish.stamp) refl means in
    (said-keeps p (Granted ask) t ask.client ask.op ask.cloud ask.wish.key ask.wish.stamp (answer_by ask.wish.act (bytes_held (granted ask.cloud t) ask.wish.key ask.wish.stamp)) fits now, tt)

pub answers-hold : (p : Params) (t : List Deed) → IsTrace p t → IsShape p.f p.k → (m : Message) → IsSent p t m → MeansAnswer p t m
unfolding IsTrace IsSent
answers-hold p [] trace shape m sent = absurd sent
answers-hold p (d ∷ t) trace shape m (inl now) = all-among (MeansAnswer p (d ∷ t)) (sent_at p d t) m (answer-at p d t trace.1 shape trace.0) now
answers-hold p (d ∷ t) trace shape m (inr was) = answer-keeps p d t m trace.0 (answers-hold p t trace.1 shape m was)

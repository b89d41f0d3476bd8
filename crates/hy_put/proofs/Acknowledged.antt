-- A put at the acknowledgement of a cloud.
use Rattle.std.proofs.Common.{◌≡◌, ◌≢◌, ℕ, ◌+◌, ◌≤◌, ◌<◌, Bool, true, false, List, [], ◌∷◌, length, Option, Some, None, refl, sym, ap, subst, ◌∙◌, inl, inr, arith, Result, Ok, Err}
use Rattle.std.specs.Prelude.{◌==◌, ◌⊎◌, ◌&&◌, ◌||◌, is_some, IfOk, OnErr, MatchResult}
use Rattle.std.proofs.lemmas.Bool.{false≢true, eqb-true}
use Rattle.hy_base.specs.declared.failure.NoMemory.{NoMemory}
use Rattle.hy_record.specs.declared.cloud.CloudReply.{CloudReply}
use Rattle.hy_record.specs.declared.turn.Cue.{Cue}
use Rattle.hy_record.specs.declared.turn.Cue.TheVariants as cues
use Rattle.hy_record.specs.declared.turn.Turn.{Turn}
use Rattle.hy_record.specs.Clouds.{set_of}
use Rattle.hy_record.specs.Stamp.{Timestamp, stamp_eq}
use Rattle.hy_base.specs.Shape.{cloud_count, quorum_size}
use Rattle.hy_record.specs.Record.{RecordValue, record_of_value}
use Rattle.hy_protocol.specs.declared.plan.PutPlan.{PutPlan}
use Rattle.hy_protocol.specs.Inputs.{is_answer, is_stored}
use Rattle.hy_protocol.specs.Write.{update_with}
use Rattle.hy_operation.specs.declared.marks.Marks.{Marks}
use Rattle.hy_operation.specs.Marks.{is_marked, marked_below}
use Rattle.hy_operation.proofs.Filters.{filter-one-more}
use Rattle.hy_put.specs.declared.content.Content.{Content}
use Rattle.hy_put.specs.declared.state.Storing.{Storing}
use Rattle.hy_put.specs.declared.state.State.{State}
use Rattle.hy_put.specs.declared.state.State.TheVariants as at
use Rattle.hy_put.specs.declared.put.PutOp.{PutOp}
use Rattle.hy_put.specs.Standing.{Carries, IsStoring, StandsAt, StandsForOwn, Does}
use Rattle.hy_put.proofs.Further.{turn_with, marks-are}
use Rattle.hy_put.proofs.ByContent.{HoldsPlan, the-value, no-value, within-of, quorum-is, marked-is, record-is}
use Rattle.hy_put.proofs.ByState.{storing-quiet, storing-goes, storing-ends}

-- an answer for another timestamp is no acknowledgement
pub stray-goes : (plan : PutPlan) (m n : PutOp) (own : List Cue) (turn : Turn) (s : Storing) (reply : CloudReply) → StandsForOwn plan m own → m.state ≡ at.Storing s → n.state ≡ at.Storing s → Carries plan n → stamp_eq reply.stamp s.stamp ≡ false → turn ≡ turn_with [] None → Does plan own (cues.Cloud reply) turn n
stray-goes plan m n own turn s reply h was now carries other is = storing-quiet plan m n own (cues.Cloud reply) turn s h was now carries (λ i. rw other (off (reply.cloud == i) (is_stored reply.say))) (λ held i. is)
  where
    off : (b t : Bool) → (b && false && t) ≡ false
    off true t = refl
    off false t = refl

-- neither is one that does not say that the bytes are held
pub refused-calm : (reply : CloudReply) → is_stored reply.say ≡ false → (stamp : Timestamp) (i : ℕ) → is_answer is_stored stamp i (cues.Cloud reply) ≡ false
refused-calm reply not_stored stamp i = rw not_stored (off (reply.cloud == i) (stamp_eq reply.stamp stamp))
  where
    off : (a b : Bool) → (a && b && false) ≡ false
    off true true = refl
    off true false = refl
    off false b = refl

-- a put that awaits clouds has content
pub no-content : (plan : PutPlan) (m : PutOp) (own : List Cue) (s : Storing) → StandsForOwn plan m own → m.state ≡ at.Storing s → m.content ≡ None → ⊥
no-content plan m own s h was none =
    let i : IsStoring plan s own = subst (λ (x : State). StandsAt plan x own) was h.state in
    false≢true (sym (ap is_some (no-value plan m h.carries none)) ∙ i.value)

ack-in : (stamp : Timestamp) (reply : CloudReply) → stamp_eq reply.stamp stamp ≡ true → is_stored reply.say ≡ true → (i : ℕ) → is_answer is_stored stamp i (cues.Cloud reply) ≡ (reply.cloud == i)
ack-in stamp reply same stored i = rw (same, stored) (on (reply.cloud == i))
  where
    on : (b : Bool) → (b && true && true) ≡ b
    on true = refl
    on false = refl

or-swap : (a b : Bool) → (a || b) ≡ (b || a)
or-swap true true = refl
or-swap true false = refl
or-swap false true = refl
or-swap false false = refl

marks-ack : (s : Storing) (acked : Marks) (reply : CloudReply) → stamp_eq reply.stamp s.stamp ≡ true → is_stored reply.say ≡ true → ((i : ℕ) → i < 16 → is_marked acked i ≡ (is_marked s.acked i || reply.cloud == i))
    → (i : ℕ) → i < 16 → is_marked acked i ≡ (is_answer is_stored s.stamp i (cues.Cloud reply) || is_marked s.acked i)
marks-ack s acked reply same stored marks i l = marks i l ∙ or-swap (is_marked s.acked i) (reply.cloud == i) ∙ ap (λ (b : Bool). b || is_marked s.acked i) (sym (ack-in s.stamp reply same stored i))

-- one acknowledgement adds one cloud at most
at-most-one : (plan : PutPlan) (s : Storing) (own : List Cue) (acked : Marks) (reply : CloudReply) → IsStoring plan s own → cloud_count plan.f plan.k ≤ 16 → ((i : ℕ) → i < 16 → is_marked acked i ≡ (is_marked s.acked i || reply.cloud == i))
    → length (marked_below acked (cloud_count plan.f plan.k)) ≤ quorum_size plan.f plan.k
at-most-one plan s own acked reply i within marks =
    let grows = filter-one-more (λ c. is_marked s.acked c) (λ c. is_marked acked c) reply.cloud 0 (cloud_count plan.f plan.k) (λ c l e. by_or (is_marked s.acked c) (reply.cloud == c) (sym (marks c (omega (arith, l, within))) ∙ e) c (λ at_it. eqb-true reply.cloud c at_it)) in
    let few : length (marked_below s.acked (cloud_count plan.f plan.k)) < quorum_size plan.f plan.k = subst (λ (xs : List ℕ). length xs < quorum_size plan.f plan.k) (sym (marks-are plan s.stamp own s.acked within i.acked)) i.few in
    omega (arith, grows, few)
  where
    by_or : (a b : Bool) → (a || b) ≡ true → (c : ℕ) → (b ≡ true → reply.cloud ≡ c) → (a ≡ true) ⊎ (reply.cloud ≡ c)
    by_or true b e c at_it = inl refl
    by_or false b e c at_it = inr (at_it e)

-- the quorum is not reached yet
pub ack-goes : (plan : PutPlan) (m n : PutOp) (own : List Cue) (turn : Turn) (s t : Storing) (content : Content) (reply : CloudReply) (count : ℕ) → StandsForOwn plan m own → m.state ≡ at.Storing s → n.state ≡ at.Storing t → Carries plan n → m.content ≡ Some content → t.stamp ≡ s.stamp
    → stamp_eq reply.stamp s.stamp ≡ true → is_stored reply.say ≡ true → ((i : ℕ) → i < 16 → is_marked t.acked i ≡ (is_marked s.acked i || reply.cloud == i))
    → count ≡ length (marked_below t.acked (cloud_count content.f content.k)) → count ≢ quorum_size content.f content.k → turn ≡ turn_with [] None → Does plan own (cues.Cloud reply) turn n
ack-goes plan m n own turn s t content reply count h was now carries there same stamp stored marks counted other is =
    let i : IsStoring plan s own = subst (λ (x : State). StandsAt plan x own) was h.state in
    let within = within-of plan m h.carries i.value in
    let v = the-value plan m content h.carries there in
    let most = at-most-one plan s own t.acked reply i within marks in
    let size : count ≡ length (marked_below t.acked (cloud_count plan.f plan.k)) = counted ∙ ap length (marked-is plan content t.acked v) in
    let differs : count ≢ quorum_size plan.f plan.k = λ e. other (e ∙ sym (quorum-is plan content v)) in
    storing-goes plan m n own (cues.Cloud reply) turn s t h was now carries same within (marks-ack s t.acked reply stamp stored marks) (omega (arith, most, size, differs)) (λ held j. is)

-- the quorum is reached
pub ack-ends : (plan : PutPlan) (m n : PutOp) (own : List Cue) (s : Storing) (acked : Marks) (content : Content) (reply : CloudReply) (count set : ℕ) (rec : RecordValue) (result : Result Turn NoMemory) → StandsForOwn plan m own → m.state ≡ at.Storing s → Carries plan n → m.content ≡ Some content
    → stamp_eq reply.stamp s.stamp ≡ true → is_stored reply.say ≡ true → ((i : ℕ) → i < 16 → is_marked acked i ≡ (is_marked s.acked i || reply.cloud == i))
    → count ≡ length (marked_below acked (cloud_count content.f content.k)) → count ≡ quorum_size content.f content.k
    → set ≡ set_of (marked_below acked (cloud_count content.f content.k)) → rec ≡ record_of_value s.stamp content.size content.f content.k set content.hashes.items
    → IfOk result (λ turn. turn ≡ turn_with (update_with plan rec) None) → IfOk result (λ _. n.state ≡ at.Updating rec) → OnErr result (n.state ≡ m.state)
    → MatchResult result (λ turn. Does plan own (cues.Cloud reply) turn n) (λ _. StandsForOwn plan n own)
ack-ends plan m n own s acked content reply count set rec (Err e) h was carries there stamp stored marks counted enough listed made is state err = record { carries = carries; state = subst (λ (x : State). StandsAt plan x own) (sym err) h.state }
ack-ends plan m n own s acked content reply count set rec (Ok turn) h was carries there stamp stored marks counted enough listed made is state err =
    let i : IsStoring plan s own = subst (λ (x : State). StandsAt plan x own) was h.state in
    let within = within-of plan m h.carries i.value in
    let v = the-value plan m content h.carries there in
    let quorum : length (marked_below acked (cloud_count plan.f plan.k)) ≡ quorum_size plan.f plan.k = sym (counted ∙ ap length (marked-is plan content acked v)) ∙ enough ∙ quorum-is plan content v in
    storing-ends plan m n own (cues.Cloud reply) turn s acked v.bytes rec h was state carries v.value within (marks-ack s acked reply stamp stored marks) quorum
    (made ∙ record-is plan content s.stamp acked set v listed) is

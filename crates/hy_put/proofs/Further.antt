-- The definitions of a write, one input further.
use Rattle.std.proofs.Common.{◌≡◌, ℕ, zero, suc, ◌+◌, ◌≤◌, ◌<◌, Bool, true, false, List, [], ◌∷◌, length, Option, Some, None, refl, sym, ap, ◌∙◌, arith}
use Rattle.std.specs.Prelude.{◌||◌, nat_le, filter, is_some, if◌then◌else◌}
use Rattle.std.specs.Option.{option_or}
use Rattle.std.specs.List.{list_any, range_with_len}
use Rattle.std.proofs.lemmas.Bool.{false≢true}
use Rattle.std.proofs.lemmas.Bool.Decides.{nat_tests}
use Rattle.hy_record.specs.declared.action.Reply.{Reply}
use Rattle.hy_record.specs.declared.turn.Cue.{Cue}
use Rattle.hy_record.specs.declared.turn.Out.{Out}
use Rattle.hy_record.specs.declared.turn.Turn.{Turn}
use Rattle.hy_record.specs.Stamp.{Timestamp}
use Rattle.hy_base.specs.Shape.{cloud_count, quorum_size}
use Rattle.hy_record.specs.Record.{RecordValue}
use Rattle.hy_protocol.specs.declared.plan.PutPlan.{PutPlan}
use Rattle.hy_protocol.specs.Inputs.{has_of, is_answer, is_stored}
use Rattle.hy_protocol.specs.Write.{first_has, since_has, stamp_upon, own_stamp, acknowledging_clouds, value_record, record_with, record_at, update_of, exhausted_by, done_by, write_reply_at, write_reply, write_sends, sends_by}
use Rattle.hy_protocol.specs.Turns.{own_turn}
use Rattle.hy_operation.specs.declared.marks.Marks.{Marks}
use Rattle.hy_operation.specs.Marks.{is_marked, marked_below}
use Rattle.hy_operation.proofs.Filters.{filter-agrees}
use Rattle.hy_operation.proofs.Inputs.{turn-before-reply, turn-after-reply}

pub has-more : (cue : Cue) (own : List Cue) → first_has (cue ∷ own) ≡ option_or (first_has own) (has_of cue)
unfolding first_has
has-more cue own = refl

pub since-more : (cue : Cue) (own : List Cue) → since_has (cue ∷ own) ≡ (if is_some (first_has own) then cue ∷ since_has own else [])
unfolding since_has
since-more cue own = refl

pub update-more : (plan : PutPlan) (cue : Cue) (own : List Cue) → update_of plan (cue ∷ own) ≡ option_or (update_of plan own) (record_at plan (cue ∷ own))
unfolding update_of
update-more plan cue own = refl

pub reply-more : (plan : PutPlan) (cue : Cue) (own : List Cue) → write_reply plan (cue ∷ own) ≡ option_or (write_reply plan own) (option_or (done_by (update_of plan own) cue) (exhausted_by plan (first_has (cue ∷ own))))
unfolding write_reply write_reply_at
reply-more plan cue own = refl

pub sends-more : (plan : PutPlan) (cue : Cue) (own : List Cue) → write_sends plan (cue ∷ own) ≡ (if is_some (write_reply plan own) then [] else sends_by plan cue own (update_of plan own) (record_at plan (cue ∷ own)))
unfolding write_sends
sends-more plan cue own = refl

-- the reply is the first that there was
pub reply-stays : (plan : PutPlan) (cue : Cue) (own : List Cue) → is_some (write_reply plan own) ≡ true → is_some (write_reply plan (cue ∷ own)) ≡ true
reply-stays plan cue own there = ap is_some (reply-more plan cue own) ∙ kept (write_reply plan own) _ there
  where
    kept : (o p : Option Reply) → is_some o ≡ true → is_some (option_or o p) ≡ true
    kept None p e = absurd (false≢true e)
    kept (Some x) p e = refl

-- no record is told yet, so none can be written
pub none-to-write : (plan : PutPlan) (own : List Cue) → first_has own ≡ None → record_at plan own ≡ None
unfolding record_at own_stamp
none-to-write plan own none = rw none refl

-- no timestamp is left, so no record can be written
pub none-left : (plan : PutPlan) (own : List Cue) → own_stamp plan own ≡ None → record_at plan own ≡ None
unfolding record_at
none-left plan own none = rw none refl

-- the write's own timestamp, upon the record that was told
pub own-upon : (plan : PutPlan) (own : List Cue) (held : Option RecordValue) → first_has own ≡ Some held → own_stamp plan own ≡ stamp_upon plan.client held
unfolding own_stamp
own-upon plan own held has = rw has refl

-- the record that can be written now, by the write's own timestamp
pub record-own : (plan : PutPlan) (own : List Cue) (stamp : Timestamp) → own_stamp plan own ≡ Some stamp → record_at plan own ≡ record_with plan own plan.value stamp
unfolding record_at
record-own plan own stamp is = rw is refl

-- the record that could be written now, where this timestamp is the write's own
pub record-by : (plan : PutPlan) (own : List Cue) (held : Option RecordValue) (stamp : Timestamp) → first_has own ≡ Some held → stamp_upon plan.client held ≡ Some stamp → record_at plan own ≡ record_with plan own plan.value stamp
unfolding record_at own_stamp
record-by plan own held stamp has is = rw (has, is) refl

pub few-no-record : (plan : PutPlan) (own : List Cue) (value : Option (List ℕ)) (stamp : Timestamp) → is_some value ≡ true → length (acknowledging_clouds plan stamp own) < quorum_size plan.f plan.k → record_with plan own value stamp ≡ None
unfolding record_with
few-no-record plan own None stamp there few = absurd (false≢true there)
few-no-record plan own (Some v) stamp there few = let low : nat_le (quorum_size plan.f plan.k) (length (acknowledging_clouds plan stamp own)) ≡ false = grind (arith, nat_tests, few) in rw low refl

pub enough-record : (plan : PutPlan) (own : List Cue) (value : List ℕ) (stamp : Timestamp) → quorum_size plan.f plan.k ≤ length (acknowledging_clouds plan stamp own)
    → record_with plan own (Some value) stamp ≡ Some (value_record stamp value plan.f plan.k (acknowledging_clouds plan stamp own))
unfolding record_with
enough-record plan own value stamp enough = let high : nat_le (quorum_size plan.f plan.k) (length (acknowledging_clouds plan stamp own)) ≡ true = grind (arith, nat_tests, enough) in rw high refl

-- ---- turns

abbrev pub turn_with : List Out → Option Reply → Turn
turn_with sends reply = record { sends = sends; reply = reply }

-- where there was no reply, the turn has what is sent and replied now
pub turn-now : (plan : PutPlan) (own : List Cue) (cue : Cue) (turn : Turn) (sends : List Out) (reply : Option Reply) → write_reply plan own ≡ None → turn ≡ turn_with sends reply → write_sends plan (cue ∷ own) ≡ sends → write_reply plan (cue ∷ own) ≡ reply
    → turn ≡ own_turn (write_sends plan) (write_reply plan) (cue ∷ own)
turn-now plan own cue turn sends reply none is sent replied =
    is ∙ ap (λ (s : List Out). turn_with s reply) (sym sent) ∙ ap (λ (r : Option Reply). turn_with (write_sends plan (cue ∷ own)) r) (sym replied) ∙ sym (turn-before-reply (write_sends plan) (write_reply plan) own cue none)

-- after the reply the turn has nothing
pub turn-late : (plan : PutPlan) (own : List Cue) (cue : Cue) (turn : Turn) → is_some (write_reply plan own) ≡ true → turn ≡ turn_with [] None → turn ≡ own_turn (write_sends plan) (write_reply plan) (cue ∷ own)
turn-late plan own cue turn there is =
    let sent : write_sends plan (cue ∷ own) ≡ [] = sends-more plan cue own ∙ rw there refl in
    is ∙ ap (λ (s : List Out). turn_with s None) (sym sent) ∙ sym (turn-after-reply (write_sends plan) (write_reply plan) own cue there)

-- ---- marks of the clouds that acknowledged

abbrev pub acknowledged : Timestamp → List Cue → ℕ → Bool
acknowledged stamp own cloud = list_any (is_answer is_stored stamp cloud) (since_has own)

none-pass : (a n : ℕ) → filter (λ (c : ℕ). false) (range_with_len a n) ≡ []
none-pass a zero = refl
none-pass a (suc n) = none-pass (a + 1) n

-- nobody has acknowledged where nothing came after the first answer
pub acks-none : (plan : PutPlan) (stamp : Timestamp) (own : List Cue) → since_has own ≡ [] → acknowledging_clouds plan stamp own ≡ []
unfolding acknowledging_clouds
acks-none plan stamp own none = ap (λ (since : List Cue). filter (λ cloud. list_any (is_answer is_stored stamp cloud) since) (range_with_len 0 (cloud_count plan.f plan.k))) none ∙ none-pass 0 (cloud_count plan.f plan.k)

pub acks-more : (plan : PutPlan) (stamp : Timestamp) (cue : Cue) (own : List Cue) → is_some (first_has own) ≡ true
    → acknowledging_clouds plan stamp (cue ∷ own) ≡ filter (λ cloud. is_answer is_stored stamp cloud cue || acknowledged stamp own cloud) (range_with_len 0 (cloud_count plan.f plan.k))
unfolding acknowledging_clouds
acks-more plan stamp cue own there =
    let e : since_has (cue ∷ own) ≡ cue ∷ since_has own = since-more cue own ∙ rw there refl in
    ap (λ (since : List Cue). filter (λ cloud. list_any (is_answer is_stored stamp cloud) since) (range_with_len 0 (cloud_count plan.f plan.k))) e

-- the marks are the clouds that acknowledged
pub marks-are : (plan : PutPlan) (stamp : Timestamp) (own : List Cue) (marks : Marks) → cloud_count plan.f plan.k ≤ 16 → ((i : ℕ) → i < 16 → is_marked marks i ≡ acknowledged stamp own i)
    → marked_below marks (cloud_count plan.f plan.k) ≡ acknowledging_clouds plan stamp own
unfolding acknowledging_clouds
marks-are plan stamp own marks within are = filter-agrees (λ i. is_marked marks i) (acknowledged stamp own) 0 (cloud_count plan.f plan.k) (λ i l. are i (omega (arith, l, within)))

-- so they are after an input too
pub marks-more : (plan : PutPlan) (stamp : Timestamp) (cue : Cue) (own : List Cue) (old new : Marks) → is_some (first_has own) ≡ true → cloud_count plan.f plan.k ≤ 16
    → ((i : ℕ) → i < 16 → is_marked old i ≡ acknowledged stamp own i) → ((i : ℕ) → i < 16 → is_marked new i ≡ (is_answer is_stored stamp i cue || is_marked old i))
    → marked_below new (cloud_count plan.f plan.k) ≡ acknowledging_clouds plan stamp (cue ∷ own)
marks-more plan stamp cue own old new there within was now =
    filter-agrees (λ i. is_marked new i) (λ cloud. is_answer is_stored stamp cloud cue || acknowledged stamp own cloud) 0 (cloud_count plan.f plan.k)
    (λ i l. now i (omega (arith, l, within)) ∙ ap (λ (b : Bool). is_answer is_stored stamp i cue || b) (was i (omega (arith, l, within))))
    ∙ sym (acks-more plan stamp cue own there)

-- What a put sends and records, by its content.
use Rattle.std.proofs.Common.{◌≡◌, ℕ, zero, suc, ◌+◌, ◌≤◌, ◌<◌, Bool, true, false, List, [], ◌∷◌, length, Option, Some, None, refl, sym, ap, subst, ◌∙◌, inl, inr, arith}
use Rattle.std.specs.Prelude.{not, filter, map, is_some, slice_index_or, IfSome}
use Rattle.std.specs.List.{range_with_len}
use Rattle.std.proofs.lemmas.Bool.{false≢true}
use Rattle.std.proofs.lemmas.Option.{none-some, same_Some}
use Rattle.hy_code.specs.Fragments.{fragment_of}
use Rattle.hy_record.specs.declared.message.MetaAsk.TheVariants as asks
use Rattle.hy_record.specs.declared.turn.Cue.{Cue}
use Rattle.hy_record.specs.declared.turn.Out.{Out}
use Rattle.hy_record.specs.declared.turn.Out.TheVariants as outs
use Rattle.hy_record.specs.declared.cloud.CloudAct.TheVariants as acts
use Rattle.hy_record.specs.Clouds.{set_of}
use Rattle.hy_record.specs.Stamp.{Timestamp, next_stamp}
use Rattle.hy_base.specs.Shape.{IsShape, cloud_count, quorum_size}
use Rattle.hy_record.specs.Record.{RecordValue, record_of_value}
use Rattle.hy_meta.proofs.Rising.{cases_bool}
use Rattle.hy_meta.specs.Service.{stamp_of_record}
use Rattle.hy_protocol.specs.declared.plan.PutPlan.{PutPlan}
use Rattle.hy_protocol.specs.Write.{first_has, own_stamp, stamp_upon, acknowledging_clouds, value_record, puts_to, read_of, update_with, missing_so_far}
use Rattle.hy_operation.specs.declared.issuer.Issuer.{Issuer}
use Rattle.hy_operation.specs.declared.marks.Marks.{Marks}
use Rattle.hy_operation.specs.Marks.{is_marked, marked_below}
use Rattle.hy_operation.proofs.Filters.{filter-agrees}
use Rattle.hy_put.specs.declared.content.Content.{Content}
use Rattle.hy_put.specs.declared.state.Storing.{Storing}
use Rattle.hy_put.specs.declared.put.PutOp.{PutOp}
use Rattle.hy_put.specs.Contents.{Holds, CarriesValue, puts_of}
use Rattle.hy_put.specs.Standing.{issuer_of, Carries, IsStoring}
use Rattle.hy_put.proofs.Fragments.{fragment-at}
use Rattle.hy_put.proofs.Further.{acknowledged, own-upon}

-- a put of the same issuer and content is of the same plan
pub carries-same : (plan : PutPlan) (m n : PutOp) → n.issuer ≡ m.issuer → n.content ≡ m.content → Carries plan m → Carries plan n
carries-same plan m n issuer content h = record {
  issuer = issuer ∙ h.issuer;
  value = subst (λ (c : Option Content). CarriesValue plan.f plan.k plan.value c) (sym content) h.value;
}

pub read-is : (plan : PutPlan) (m : PutOp) → Carries plan m → outs.Meta (asks.Read m.issuer.client m.issuer.op m.issuer.key) ∷ [] ≡ read_of plan
read-is plan m h = ap (λ (i : Issuer). outs.Meta (asks.Read i.client i.op i.key) ∷ []) h.issuer

pub update-is : (plan : PutPlan) (m : PutOp) (r : RecordValue) → Carries plan m → outs.Meta (asks.Update m.issuer.client m.issuer.op m.issuer.key r) ∷ [] ≡ update_with plan r
update-is plan m r h = ap (λ (i : Issuer). outs.Meta (asks.Update i.client i.op i.key r) ∷ []) h.issuer

pub upon : (client other : ℕ) (t : Timestamp) (held : Option RecordValue) (o : Option Timestamp) → o ≡ next_stamp t client → t ≡ stamp_of_record held → client ≡ other → stamp_upon other held ≡ o
upon client other t held o is at_it same = sym (is ∙ ap (λ (x : Timestamp). next_stamp x client) at_it ∙ ap (λ (c : ℕ). next_stamp (stamp_of_record held) c) same)

pub client-is : (plan : PutPlan) (m : PutOp) → Carries plan m → m.issuer.client ≡ plan.client
client-is plan m h = ap (λ (i : Issuer). i.client) h.issuer

-- ---- whether there is a value

pub no-value : (plan : PutPlan) (m : PutOp) → Carries plan m → m.content ≡ None → plan.value ≡ None
no-value plan m carries none = by_value plan.value m.content none carries.value
  where
    by_value : (value : Option (List ℕ)) (content : Option Content) → content ≡ None → CarriesValue plan.f plan.k value content → value ≡ None
    by_value None content e h = refl
    by_value (Some v) None e h = absurd h
    by_value (Some v) (Some c) e h = absurd (none-some c (sym e))

-- the value of the plan, which the content holds
pub record HoldsPlan (plan : PutPlan) (content : Content) : Type 0 where
  pub bytes : List ℕ
  pub value : plan.value ≡ Some bytes
  pub holds : Holds content plan.f plan.k bytes

pub the-value : (plan : PutPlan) (m : PutOp) (content : Content) → Carries plan m → m.content ≡ Some content → HoldsPlan plan content
the-value plan m content carries there = by_value plan.value m.content there carries.value refl
  where
    by_value : (value : Option (List ℕ)) (o : Option Content) → o ≡ Some content → CarriesValue plan.f plan.k value o → plan.value ≡ value → HoldsPlan plan content
    by_value None None e h p = absurd (none-some content e)
    by_value None (Some c) e h p = absurd h
    by_value (Some x) None e h p = absurd h
    by_value (Some x) (Some c) e h p = record { bytes = x; value = p; holds = subst (λ (y : Content). Holds y plan.f plan.k x) (same_Some c content e) h }

clouds-few : (f k : ℕ) → IsShape f k → cloud_count f k ≤ 16
clouds-few f k shape = omega (arith, shape.faults, shape.parts)

-- a put with a value has a shape
pub within-of : (plan : PutPlan) (m : PutOp) → Carries plan m → is_some plan.value ≡ true → cloud_count plan.f plan.k ≤ 16
within-of plan m carries there = by_value plan.value m.content there carries.value
  where
    by_value : (value : Option (List ℕ)) (content : Option Content) → is_some value ≡ true → CarriesValue plan.f plan.k value content → cloud_count plan.f plan.k ≤ 16
    by_value None content e h = absurd (false≢true e)
    by_value (Some v) None e h = absurd h
    by_value (Some v) (Some c) e h = let few = clouds-few c.f c.k c.shape in subst (λ (x : ℕ). cloud_count x plan.k ≤ 16) h.faults (subst (λ (y : ℕ). cloud_count c.f y ≤ 16) h.parts few)

pub quorum-some : (plan : PutPlan) (content : Content) → HoldsPlan plan content → 0 < quorum_size plan.f plan.k
quorum-some plan content h = let some = content.shape.some in let parts = h.holds.parts in omega (arith, some, parts)

pub quorum-is : (plan : PutPlan) (content : Content) → HoldsPlan plan content → quorum_size content.f content.k ≡ quorum_size plan.f plan.k
quorum-is plan content h = ap (λ (f : ℕ). quorum_size f content.k) h.holds.faults ∙ ap (λ (k : ℕ). quorum_size plan.f k) h.holds.parts

pub marked-is : (plan : PutPlan) (content : Content) (marks : Marks) → HoldsPlan plan content → marked_below marks (cloud_count content.f content.k) ≡ marked_below marks (cloud_count plan.f plan.k)
marked-is plan content marks h = ap (λ (f : ℕ). marked_below marks (cloud_count f content.k)) h.holds.faults ∙ ap (λ (k : ℕ). marked_below marks (cloud_count plan.f k)) h.holds.parts

-- ---- the fragments that are sent

map-filter : (f g : ℕ → Out) (p : ℕ → Bool) (a n : ℕ) → ((i : ℕ) → i < a + n → f i ≡ g i) → map f (filter p (range_with_len a n)) ≡ map g (filter p (range_with_len a n))
map-filter f g p a zero same = refl
map-filter f g p a (suc n) same =
    let rest = map-filter f g p (a + 1) n (λ i l. same i (omega (arith, l))) in
    elim (cases_bool (p a)) [
      | inl taken ↦ rw taken (ap (λ (x : Out). x ∷ map f (filter p (range_with_len (a + 1) n))) (same a (omega arith)) ∙ ap (λ (xs : List Out). g a ∷ xs) rest)
      | inr left_out ↦ rw left_out rest
    ]

-- what is sent of a content is what the plan says
puts-are : (plan : PutPlan) (m : PutOp) (content : Content) (value : List ℕ) (stamp : Timestamp) (p : ℕ → Bool) (n : ℕ) → Carries plan m → Holds content plan.f plan.k value → n ≤ cloud_count plan.f plan.k
    → puts_of m.issuer content.fragments stamp (filter p (range_with_len 0 n)) ≡ puts_to plan (Some value) (Some stamp) (filter p (range_with_len 0 n))
puts-are plan m content value stamp p n carries holds within =
    map-filter _ (λ cloud. outs.Cloud (record { client = plan.client; op = plan.op; cloud = cloud; wish = record { key = plan.key; stamp = stamp; act = acts.Put (fragment_of value plan.k cloud) } })) p 0 n
    (λ i l.
    let at_it : slice_index_or content.fragments i [] ≡ fragment_of value plan.k i = ap (λ (fs : List (List ℕ)). slice_index_or fs i []) holds.fragments ∙ fragment-at (fragment_of value plan.k) (cloud_count plan.f plan.k) i (omega (arith, l, within)) in
    ap (λ (issuer : Issuer). outs.Cloud (record { client = issuer.client; op = issuer.op; cloud = i; wish = record { key = issuer.key; stamp = stamp; act = acts.Put (slice_index_or content.fragments i []) } })) carries.issuer
    ∙ ap (λ (b : List ℕ). outs.Cloud (record { client = plan.client; op = plan.op; cloud = i; wish = record { key = plan.key; stamp = stamp; act = acts.Put b } })) at_it)

blanks : (marks : Marks) (a n : ℕ) → ((i : ℕ) → is_marked marks i ≡ false) → filter (λ cloud. not (is_marked marks cloud)) (range_with_len a n) ≡ range_with_len a n
blanks marks a zero blank = refl
blanks marks a (suc n) blank = let here : is_marked marks a ≡ false = blank a in rw here (ap (λ (xs : List ℕ). a ∷ xs) (blanks marks (a + 1) n blank))

-- what a put sends first
pub first-puts : (plan : PutPlan) (m : PutOp) (content : Content) (marks : Marks) (stamp : Timestamp) (q : ℕ) (sent : List Out) → Carries plan m → HoldsPlan plan content → ((i : ℕ) → is_marked marks i ≡ false) → q ≡ quorum_size content.f content.k
    → sent ≡ puts_of m.issuer content.fragments stamp (filter (λ cloud. not (is_marked marks cloud)) (range_with_len 0 q)) → sent ≡ puts_to plan plan.value (Some stamp) (range_with_len 0 (quorum_size plan.f plan.k))
first-puts plan m content marks stamp q sent carries h blank quorum is =
    let size : q ≡ quorum_size plan.f plan.k = quorum ∙ quorum-is plan content h in
    is ∙ puts-are plan m content h.bytes stamp (λ cloud. not (is_marked marks cloud)) q carries h.holds (omega (arith, size))
    ∙ ap (puts_to plan (Some h.bytes) (Some stamp)) (blanks marks 0 q blank ∙ ap (range_with_len 0) size) ∙ sym (ap (λ (y : Option (List ℕ)). puts_to plan y (Some stamp) (range_with_len 0 (quorum_size plan.f plan.k))) h.value)

-- what it sends at a timeout
again-is : (plan : PutPlan) (m : PutOp) (own : List Cue) (s : Storing) (content : Content) (value : List ℕ) → Carries plan m → (i : IsStoring plan s own) → plan.value ≡ Some value → Holds content plan.f plan.k value → cloud_count plan.f plan.k ≤ 16
    → puts_of m.issuer content.fragments s.stamp (filter (λ cloud. not (is_marked s.acked cloud)) (range_with_len 0 (cloud_count plan.f plan.k)))
    ≡ puts_to plan plan.value (own_stamp plan own) (missing_so_far plan own (own_stamp plan own))
again-is plan m own s content value carries i of holds within =
    let stamp : own_stamp plan own ≡ Some s.stamp = own-upon plan own i.held i.has ∙ i.stamp in
    let n : ℕ = cloud_count plan.f plan.k in
    let missing : filter (λ cloud. not (is_marked s.acked cloud)) (range_with_len 0 n) ≡ missing_so_far plan own (Some s.stamp) =
    filter-agrees (λ cloud. not (is_marked s.acked cloud)) (λ cloud. not (acknowledged s.stamp own cloud)) 0 n (λ c l. ap not (i.acked c (omega (arith, l, within)))) in
    puts-are plan m content value s.stamp (λ cloud. not (is_marked s.acked cloud)) n carries holds (omega arith)
    ∙ ap (λ (cs : List ℕ). puts_to plan (Some value) (Some s.stamp) cs) missing
    ∙ sym (ap (λ (o : Option Timestamp). puts_to plan plan.value o (missing_so_far plan own o)) stamp ∙ ap (λ (v : Option (List ℕ)). puts_to plan v (Some s.stamp) (missing_so_far plan own (Some s.stamp))) of)

pub storing-sends : (plan : PutPlan) (m : PutOp) (own : List Cue) (s : Storing) (sent : List Out) → Carries plan m → IsStoring plan s own
    → IfSome m.content (λ content. sent ≡ puts_of m.issuer content.fragments s.stamp (filter (λ cloud. not (is_marked s.acked cloud)) (range_with_len 0 (cloud_count content.f content.k))))
    → sent ≡ puts_to plan plan.value (own_stamp plan own) (missing_so_far plan own (own_stamp plan own))
storing-sends plan m own s sent carries i is = by_value plan.value m.content refl carries.value is
  where
    by_value : (value : Option (List ℕ)) (content : Option Content) → plan.value ≡ value → CarriesValue plan.f plan.k value content
        → IfSome content (λ c. sent ≡ puts_of m.issuer c.fragments s.stamp (filter (λ cloud. not (is_marked s.acked cloud)) (range_with_len 0 (cloud_count c.f c.k))))
        → sent ≡ puts_to plan plan.value (own_stamp plan own) (missing_so_far plan own (own_stamp plan own))
    by_value None content e h x = absurd (false≢true (sym (ap is_some e) ∙ i.value))
    by_value (Some v) None e h x = absurd h
    by_value (Some v) (Some c) e h x =
        x ∙ ap (λ (f : ℕ). puts_of m.issuer c.fragments s.stamp (filter (λ cloud. not (is_marked s.acked cloud)) (range_with_len 0 (cloud_count f c.k)))) h.faults
        ∙ ap (λ (k : ℕ). puts_of m.issuer c.fragments s.stamp (filter (λ cloud. not (is_marked s.acked cloud)) (range_with_len 0 (cloud_count plan.f k)))) h.parts
        ∙ again-is plan m own s c v carries i e h (within-of plan m carries i.value)

-- ---- the record

-- the record of the content is that of the plan
pub record-is : (plan : PutPlan) (content : Content) (stamp : Timestamp) (marks : Marks) (set : ℕ) → (h : HoldsPlan plan content) → set ≡ set_of (marked_below marks (cloud_count content.f content.k))
    → record_of_value stamp content.size content.f content.k set content.hashes.items ≡ value_record stamp h.bytes plan.f plan.k (marked_below marks (cloud_count plan.f plan.k))
unfolding value_record
record-is plan content stamp marks set h is =
    ap (λ (m : ℕ). record_of_value stamp content.size content.f content.k m content.hashes.items) (is ∙ ap set_of (marked-is plan content marks h))
    ∙ ap (λ (x : ℕ). record_of_value stamp content.size x content.k (set_of (marked_below marks (cloud_count plan.f plan.k))) content.hashes.items) h.holds.faults
    ∙ ap (λ (y : ℕ). record_of_value stamp content.size plan.f y (set_of (marked_below marks (cloud_count plan.f plan.k))) content.hashes.items) h.holds.parts
    ∙ ap (λ (z : ℕ). record_of_value stamp z plan.f plan.k (set_of (marked_below marks (cloud_count plan.f plan.k))) content.hashes.items) h.holds.size
    ∙ ap (λ (hs : List (List ℕ)). record_of_value stamp (length h.bytes) plan.f plan.k (set_of (marked_below marks (cloud_count plan.f plan.k))) hs) h.holds.hashes

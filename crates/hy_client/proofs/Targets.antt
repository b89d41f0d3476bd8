-- The timestamps of a collection: that they stand apart, and what one more input makes of each.
use Rattle.std.proofs.Common.{◌≡◌, ◌≢◌, ℕ, zero, suc, ◌+◌, ◌-◌, ◌≤◌, ◌<◌, Bool, true, false, List, [], ◌∷◌, length, get_or, refl, sym, ap, subst, ◌∙◌, inl, inr, arith, All}
use Rattle.std.specs.Prelude.{◌==◌, ◌&&◌, ◌||◌, ◌⊎◌, nat_lt, filter, slice_set, if◌then◌else◌}
use Rattle.std.specs.List.{list_any, range_with_len}
use Rattle.std.proofs.lemmas.Bool.{false≢true, eqb-true, eq-eqb, ne_eqb, cases_eq, cases_lt}
use Rattle.std.specs.List.Sorted.{IsPartitionedBy, IsPartitionPoint}
use Rattle.std.proofs.lemmas.Bool.Decides.{nat_tests}
use Rattle.std.proofs.lemmas.List.{get_or-set_same, get_or-set_other, get_or_default, length-set}
use Rattle.hy_record.specs.Stamp.{Timestamp, stamp_lt, stamp_eq}
use Rattle.hy_record.specs.Stamps.{is_rising}
use Rattle.hy_record.proofs.Order.{stamp_eq-same, stamp_lt-neither, stamp_lt-trans}
use Rattle.hy_record.specs.declared.turn.Cue.{Cue}
use Rattle.hy_record.specs.declared.turn.Cue.TheVariants as cues
use Rattle.hy_record.specs.declared.cloud.CloudReply.{CloudReply}
use Rattle.hy_meta.proofs.Rising.{cases_bool, both, is_below_all, is_sorted, sorted-rising}
use Rattle.hy_protocol.specs.Inputs.{is_answer, is_gone}
use Rattle.hy_operation.specs.Marks.{is_marked}
use Rattle.hy_operation.proofs.Filters.{filter-agrees}
use Rattle.hy_client.specs.Targets.{stamps_of, is_lacking, gone_clouds, IsTarget}
use Rattle.hy_client.specs.declared.target.Target.{Target}

-- ---- timestamps in increasing order

stamp_lt-apart : (a b : Timestamp) → stamp_lt a b ≡ true → stamp_eq a b ≡ false
unfolding stamp_lt stamp_eq
stamp_lt-apart a b below = grind (arith, nat_tests)

stamp_gt-apart : (a b : Timestamp) → stamp_lt a b ≡ true → stamp_eq b a ≡ false
unfolding stamp_lt stamp_eq
stamp_gt-apart a b below = grind (arith, nat_tests)

below-at : (s : Timestamp) (targets : List Target) → is_below_all s (stamps_of targets) ≡ true → (j : ℕ) (d : Target) → j < length targets → stamp_lt s (get_or targets j d).stamp ≡ true
below-at s [] all j d within = absurd (omega (arith, within))
below-at s (t ∷ ts) all zero d within = (both (stamp_lt s t.stamp) (is_below_all s (stamps_of ts)) all).0
below-at s (t ∷ ts) all (suc j) d within = below-at s ts (both (stamp_lt s t.stamp) (is_below_all s (stamps_of ts)) all).1 j d (omega (arith, within))

ordered : (targets : List Target) → is_sorted (stamps_of targets) ≡ true → (i j : ℕ) (d : Target) → i < j → j < length targets → stamp_lt (get_or targets i d).stamp (get_or targets j d).stamp ≡ true
ordered [] rise i j d before within = absurd (omega (arith, within))
ordered (t ∷ ts) rise i zero d before within = absurd (omega (arith, before))
ordered (t ∷ ts) rise zero (suc j) d before within = below-at t.stamp ts (both (is_below_all t.stamp (stamps_of ts)) (is_sorted (stamps_of ts)) rise).0 j d (omega (arith, within))
ordered (t ∷ ts) rise (suc i) (suc j) d before within = ordered ts (both (is_below_all t.stamp (stamps_of ts)) (is_sorted (stamps_of ts)) rise).1 i j d (omega (arith, before)) (omega (arith, within))

-- a timestamp at one place differs from each at another
pub apart : (targets : List Target) → is_rising (stamps_of targets) ≡ true → (i j : ℕ) (d : Target) → i < length targets → j < length targets → j ≢ i → stamp_eq (get_or targets i d).stamp (get_or targets j d).stamp ≡ false
apart targets rise i j d in_i in_j other =
    let sorted = sorted-rising (stamps_of targets) rise in
    by_order (cases_bool (nat_lt i j))
  where
    by_order : ((nat_lt i j ≡ true) ⊎ (nat_lt i j ≡ false)) → stamp_eq (get_or targets i d).stamp (get_or targets j d).stamp ≡ false
    by_order (inl low) = let before : i < j = grind (arith, nat_tests, low) in stamp_lt-apart (get_or targets i d).stamp (get_or targets j d).stamp (ordered targets (sorted-rising (stamps_of targets) rise) i j d before in_j)
    by_order (inr high) = let before : j < i = grind (arith, nat_tests, high, other) in stamp_gt-apart (get_or targets j d).stamp (get_or targets i d).stamp (ordered targets (sorted-rising (stamps_of targets) rise) j i d before in_i)

-- a timestamp between two others that differ from it
partitioned : (targets : List Target) (s : Timestamp) → is_rising (stamps_of targets) ≡ true → (i j : ℕ) (d : Target) → i ≤ j → j < length targets → stamp_lt (get_or targets j d).stamp s ≡ true → stamp_lt (get_or targets i d).stamp s ≡ true
partitioned targets s rise i j d order in_j below =
    elim (cases_eq i j) [
      | inl same ↦ subst (λ (k : ℕ). stamp_lt (get_or targets k d).stamp s ≡ true) (sym same) below
      | inr other ↦ stamp_lt-trans (get_or targets i d).stamp (get_or targets j d).stamp s (ordered targets (sorted-rising (stamps_of targets) rise) i j d (omega (arith, order, other)) in_j) below
    ]

pub is_partitioned : (targets : List Target) (s : Timestamp) → is_rising (stamps_of targets) ≡ true → IsPartitionedBy (λ target. stamp_lt target.stamp s) targets
is_partitioned targets s rise = λ i j d order in_j below. partitioned targets s rise i j d order in_j below

-- where the target at the place that is not below the timestamp is another, none is it
pub none-at : (targets : List Target) (s : Timestamp) (place : ℕ) (e : Target) → is_rising (stamps_of targets) ≡ true → IsPartitionPoint (λ target. stamp_lt target.stamp s ≡ true) (λ target. stamp_lt target.stamp s ≡ false) targets place
    → (place < length targets → stamp_eq (get_or targets place e).stamp s ≡ false) → (k : ℕ) (d : Target) → k < length targets → stamp_eq s (get_or targets k d).stamp ≡ false
none-at targets s place e rise parts differs k d within =
    elim (cases_lt k place) [
      | inl front ↦ stamp_gt-apart (get_or targets k d).stamp s (parts.0 k d (omega arith) front)
      | inr back ↦
          let in_p : place < length targets = omega (arith, back, within) in
          let first : stamp_lt (get_or targets place e).stamp s ≡ false = parts.1 place e (omega arith) in_p in
          let above : stamp_lt s (get_or targets place e).stamp ≡ true = elim (cases_bool (stamp_lt s (get_or targets place e).stamp)) [ inl yes_above ↦ yes_above | inr not_above ↦ absurd (false≢true (sym (differs in_p) ∙ stamp_lt-neither (get_or targets place e).stamp s first not_above)) ] in
          elim (cases_eq k place) [
            | inl same ↦ subst (λ (i : ℕ). stamp_eq s (get_or targets i d).stamp ≡ false) (sym same) (stamp_lt-apart s (get_or targets place d).stamp (subst (λ (t : Target). stamp_lt s t.stamp ≡ true) (get_or_default targets place e d in_p) above))
            | inr other ↦ stamp_lt-apart s (get_or targets k d).stamp (stamp_lt-trans s (get_or targets place d).stamp (get_or targets k d).stamp (subst (λ (t : Target). stamp_lt s t.stamp ≡ true) (get_or_default targets place e d in_p) above)
                (ordered targets (sorted-rising (stamps_of targets) rise) place k d (omega (arith, back, other)) within))
          ]
    ]

-- ---- one more input

-- the input tells nothing of the timestamp
pub stays : (clouds enough : ℕ) (since : List Cue) (cue : Cue) (t : Target) → ((cloud : ℕ) → cloud < clouds → is_answer is_gone t.stamp cloud cue ≡ false) → IsTarget clouds enough since t → IsTarget clouds enough (cue ∷ since) t
stays clouds enough since cue t quiet h = record {
  gone = λ cloud within. h.gone cloud within ∙ sym (again cloud within);
  lacking = h.lacking ∙ ap (λ (ns : List ℕ). enough - length ns) (sym (filter-agrees (λ cloud. list_any (is_answer is_gone t.stamp cloud) (cue ∷ since)) (λ cloud. list_any (is_answer is_gone t.stamp cloud) since) 0 clouds (λ cloud within. again cloud (omega (arith, within)))));
}
  where
    again : (cloud : ℕ) → cloud < clouds → list_any (is_answer is_gone t.stamp cloud) (cue ∷ since) ≡ list_any (is_answer is_gone t.stamp cloud) since
    again cloud within = rw (quiet cloud within) refl

-- whether the acknowledgement is of this cloud
heard : (reply : CloudReply) (s : Timestamp) (cloud : ℕ) → is_gone reply.say ≡ true → reply.stamp ≡ s → is_answer is_gone s cloud (cues.Cloud reply) ≡ (reply.cloud == cloud)
heard reply s cloud gone same = subst (λ (x : Timestamp). (reply.cloud == cloud && stamp_eq reply.stamp x && is_gone reply.say) ≡ (reply.cloud == cloud)) same (rw (stamp_eq-same reply.stamp, gone) (by_bool (reply.cloud == cloud)))
  where
    by_bool : (b : Bool) → (b && true && true) ≡ b
    by_bool true = refl
    by_bool false = refl

-- the acknowledgement is of another timestamp
pub unheard : (reply : CloudReply) (s : Timestamp) (cloud : ℕ) → stamp_eq reply.stamp s ≡ false → is_answer is_gone s cloud (cues.Cloud reply) ≡ false
unheard reply s cloud other = rw other (by_bool (reply.cloud == cloud) (is_gone reply.say))
  where
    by_bool : (a b : Bool) → (a && false && b) ≡ false
    by_bool true b = refl
    by_bool false b = refl

-- the cloud had acknowledged before
pub hears-again : (clouds enough : ℕ) (since : List Cue) (reply : CloudReply) (t : Target) → is_gone reply.say ≡ true → reply.stamp ≡ t.stamp → reply.cloud < clouds → is_marked t.gone reply.cloud ≡ true
    → IsTarget clouds enough since t → IsTarget clouds enough (cues.Cloud reply ∷ since) t
hears-again clouds enough since reply t gone same within marked h = record {
  gone = λ cloud in_store. h.gone cloud in_store ∙ sym (again cloud in_store);
  lacking = h.lacking ∙ ap (λ (ns : List ℕ). enough - length ns) (sym (filter-agrees (λ cloud. list_any (is_answer is_gone t.stamp cloud) (cues.Cloud reply ∷ since)) (λ cloud. list_any (is_answer is_gone t.stamp cloud) since) 0 clouds (λ cloud in_store. again cloud (omega (arith, in_store)))));
}
  where
    was : list_any (is_answer is_gone t.stamp reply.cloud) since ≡ true
    was = sym (h.gone reply.cloud within) ∙ marked

    again : (cloud : ℕ) → cloud < clouds → list_any (is_answer is_gone t.stamp cloud) (cues.Cloud reply ∷ since) ≡ list_any (is_answer is_gone t.stamp cloud) since
    again cloud in_store = elim (cases_bool (reply.cloud == cloud)) [
      | inl here ↦ let now : list_any (is_answer is_gone t.stamp cloud) since ≡ true = subst (λ (i : ℕ). list_any (is_answer is_gone t.stamp i) since ≡ true) (eqb-true reply.cloud cloud here) was in rw (heard reply t.stamp cloud gone same, here, now) refl
      | inr there ↦ rw (heard reply t.stamp cloud gone same, there) refl
    ]

or-true : (b : Bool) → (b || true) ≡ true
or-true true = refl
or-true false = refl

or-false : (b : Bool) → (b || false) ≡ b
or-false true = refl
or-false false = refl

-- a test that passes one more number passes the same numbers above it
same-above : (p q : ℕ → Bool) (c a n : ℕ) → ((i : ℕ) → q i ≡ (p i || c == i)) → c < a → filter q (range_with_len a n) ≡ filter p (range_with_len a n)
same-above p q c a zero more low = refl
same-above p q c a (suc n) more low =
    let rest = same-above p q c (a + 1) n more (omega (arith, low)) in
    let here : q a ≡ p a = more a ∙ rw (ne_eqb c a (λ e. omega (arith, e, low))) (or-false (p a)) in
    elim (cases_bool (p a)) [
      | inl passes ↦ rw (here, passes) (ap (λ (xs : List ℕ). a ∷ xs) rest)
      | inr fails ↦ rw (here, fails) rest
    ]

-- a test that passes one more number
one-passes : (p q : ℕ → Bool) (c a n : ℕ) → ((i : ℕ) → q i ≡ (p i || c == i)) → p c ≡ false → a ≤ c → c < a + n → length (filter q (range_with_len a n)) ≡ length (filter p (range_with_len a n)) + 1
one-passes p q c a zero more none from below = absurd (omega (arith, from, below))
one-passes p q c a (suc n) more none from below =
    elim (cases_eq c a) [
      | inl here ↦
          let now : q a ≡ true = more a ∙ rw (eq-eqb c a here) (or-true (p a)) in
          let was : p a ≡ false = subst (λ (i : ℕ). p i ≡ false) here none in
          let rest : length (filter q (range_with_len (a + 1) n)) ≡ length (filter p (range_with_len (a + 1) n)) = ap length (same-above p q c (a + 1) n more (omega (arith, here))) in
          rw (now, was) (omega (arith, rest))
      | inr later ↦
          let rest = one-passes p q c (a + 1) n more none (omega (arith, from, later)) (omega (arith, below)) in
          let same : q a ≡ p a = more a ∙ rw (ne_eqb c a later) (or-false (p a)) in
          elim (cases_bool (p a)) [
            | inl passes ↦ rw (same, passes) (omega (arith, rest))
            | inr fails ↦ rw (same, fails) rest
          ]
    ]

or-swap : (a b : Bool) → (a || b) ≡ (b || a)
or-swap true true = refl
or-swap true false = refl
or-swap false true = refl
or-swap false false = refl

-- what the acknowledgement adds
adds : (reply : CloudReply) (s : Timestamp) (since : List Cue) → is_gone reply.say ≡ true → reply.stamp ≡ s → (cloud : ℕ) → list_any (is_answer is_gone s cloud) (cues.Cloud reply ∷ since) ≡ (list_any (is_answer is_gone s cloud) since || reply.cloud == cloud)
adds reply s since gone same cloud = rw (heard reply s cloud gone same) (or-swap (reply.cloud == cloud) (list_any (is_answer is_gone s cloud) since))

-- the cloud had not acknowledged before
pub one-more : (clouds enough : ℕ) (since : List Cue) (reply : CloudReply) (t : Target) → is_gone reply.say ≡ true → reply.stamp ≡ t.stamp → reply.cloud < clouds → is_marked t.gone reply.cloud ≡ false → IsTarget clouds enough since t
    → t.lacking - 1 ≡ enough - length (gone_clouds clouds t.stamp (cues.Cloud reply ∷ since))
one-more clouds enough since reply t gone same within unmarked h =
    ap (λ (m : ℕ). m - 1) h.lacking
    ∙ drop_one enough (length (gone_clouds clouds t.stamp since)) (length (gone_clouds clouds t.stamp (cues.Cloud reply ∷ since)))
    (one-passes (λ cloud. list_any (is_answer is_gone t.stamp cloud) since) (λ cloud. list_any (is_answer is_gone t.stamp cloud) (cues.Cloud reply ∷ since)) reply.cloud 0 clouds (adds reply t.stamp since gone same) (sym (h.gone reply.cloud within) ∙ unmarked) (omega arith) (omega (arith, within)))
  where
    drop_one : (e a b : ℕ) → b ≡ a + 1 → e - a - 1 ≡ e - b
    drop_one e a b is = omega (arith, is)

pub hears-first : (clouds enough : ℕ) (since : List Cue) (reply : CloudReply) (t t' : Target) → is_gone reply.say ≡ true → reply.stamp ≡ t.stamp → reply.cloud < clouds → clouds ≤ 16 → is_marked t.gone reply.cloud ≡ false
    → t'.stamp ≡ t.stamp → ((i : ℕ) → i < 16 → is_marked t'.gone i ≡ (is_marked t.gone i || reply.cloud == i)) → t'.lacking ≡ t.lacking - 1
    → IsTarget clouds enough since t → IsTarget clouds enough (cues.Cloud reply ∷ since) t'
hears-first clouds enough since reply t t' gone same within few unmarked kept marks less h = record {
  gone = λ cloud in_store.
      let now : (is_marked t.gone cloud || reply.cloud == cloud) ≡ list_any (is_answer is_gone t.stamp cloud) (cues.Cloud reply ∷ since) = ap (λ (b : Bool). b || reply.cloud == cloud) (h.gone cloud in_store) ∙ sym (adds reply t.stamp since gone same cloud) in
      marks cloud (omega (arith, in_store, few)) ∙ now ∙ ap (λ (s : Timestamp). list_any (is_answer is_gone s cloud) (cues.Cloud reply ∷ since)) (sym kept);
  lacking = less ∙ one-more clouds enough since reply t gone same within unmarked h ∙ ap (λ (s : Timestamp). enough - length (gone_clouds clouds s (cues.Cloud reply ∷ since))) (sym kept);
}

-- ---- the list of them, where one changes

filter-set : (p : Target → Bool) (ts : List Target) (i : ℕ) (t d : Target) → i < length ts → length (filter p (slice_set ts i t)) + (if p (get_or ts i d) then 1 else 0) ≡ length (filter p ts) + (if p t then 1 else 0)
filter-set p [] i t d within = absurd (omega (arith, within))
filter-set p (x ∷ xs) zero t d within =
    elim (cases_bool (p x)) [
      | inl was ↦ elim (cases_bool (p t)) [ inl is ↦ rw (was, is) refl | inr not_is ↦ rw (was, not_is) (omega arith) ]
      | inr was_not ↦ elim (cases_bool (p t)) [ inl is ↦ rw (was_not, is) (omega arith) | inr not_is ↦ rw (was_not, not_is) refl ]
    ]
filter-set p (x ∷ xs) (suc i) t d within =
    let rest = filter-set p xs i t d (omega (arith, within)) in
    elim (cases_bool (p x)) [
      | inl was ↦ rw was (omega (arith, rest))
      | inr was_not ↦ rw was_not rest
    ]

-- where one target changes, and the others, which are of other timestamps, go from one fact to another
pub each-set : (P Q : Target → Type 0) (s : Timestamp) (ts : List Target) (place : ℕ) (t e : Target) → is_rising (stamps_of ts) ≡ true → place < length ts → s ≡ (get_or ts place e).stamp
    → ((x : Target) → stamp_eq s x.stamp ≡ false → P x → Q x) → All P ts → Q t → All Q (slice_set ts place t)
each-set P Q s ts place t e rise inside same others each now = λ k d within.
    elim (cases_eq k place) [
      | inl here ↦ subst Q (sym (ap (λ (i : ℕ). get_or (slice_set ts place t) i d) here ∙ get_or-set_same ts place t d inside)) now
      | inr there ↦
          let in_k : k < length ts = omega (arith, within, length-set ts place t) in
          let other : stamp_eq s (get_or ts k d).stamp ≡ false = subst (λ (x : Timestamp). stamp_eq x (get_or ts k d).stamp ≡ false) (sym (same ∙ ap (λ (x : Target). x.stamp) (get_or_default ts place e d inside))) (apart ts rise place k d inside in_k there) in
          subst Q (sym (get_or-set_other ts place k t d there)) (others (get_or ts k d) other (each k d in_k))
    ]

-- how many lack clouds, after one lacks one less
pub left-same : (ts : List Target) (i : ℕ) (t d : Target) → i < length ts → is_lacking t ≡ is_lacking (get_or ts i d) → length (filter is_lacking (slice_set ts i t)) ≡ length (filter is_lacking ts)
left-same ts i t d inside same =
    let counted : length (filter is_lacking (slice_set ts i t)) + (if is_lacking t then 1 else 0) ≡ length (filter is_lacking ts) + (if is_lacking t then 1 else 0) =
    subst (λ (b : Bool). length (filter is_lacking (slice_set ts i t)) + (if b then 1 else 0) ≡ length (filter is_lacking ts) + (if is_lacking t then 1 else 0)) (sym same) (filter-set is_lacking ts i t d inside) in
    omega (arith, counted)

pub left-less : (ts : List Target) (i : ℕ) (t d : Target) → i < length ts → is_lacking (get_or ts i d) ≡ true → is_lacking t ≡ false → length (filter is_lacking (slice_set ts i t)) + 1 ≡ length (filter is_lacking ts)
left-less ts i t d inside was is =
    let counted = rw (was, is) at (filter-set is_lacking ts i t d inside) in
    omega (arith, counted)

-- How far the deletions of a collection are, after one more input.
use Rattle.std.proofs.Common.{◌≡◌, ◌≢◌, ℕ, zero, suc, ◌+◌, ◌-◌, ◌≤◌, ◌<◌, true, false, List, [], ◌∷◌, ◌++◌, length, map, get_or, None, refl, sym, ap, subst, ◌∙◌, inl, inr, arith, All}
use Rattle.std.specs.Prelude.{◌==◌, ◌||◌, ◌⊎◌, not, nat_lt, nat_le, filter, slice_set}
use Rattle.std.specs.List.{list_any, range_with_len, flat_map}
use Rattle.std.proofs.lemmas.Bool.Decides.{nat_tests}
use Rattle.std.proofs.lemmas.List.{length-map, set-get_or}
use Rattle.std.proofs.Math.Seq.{map-set_same}
use Rattle.hy_record.specs.Stamp.{Timestamp, stamp_eq}
use Rattle.hy_record.specs.Stamps.{is_rising}
use Rattle.hy_record.specs.declared.turn.Cue.{Cue}
use Rattle.hy_record.specs.declared.turn.Cue.TheVariants as cues
use Rattle.hy_record.specs.declared.turn.Out.{Out}
use Rattle.hy_record.specs.declared.cloud.CloudReply.{CloudReply}
use Rattle.hy_meta.proofs.Rising.{cases_bool}
use Rattle.hy_protocol.specs.declared.plan.CollectPlan.{CollectPlan}
use Rattle.hy_protocol.specs.Inputs.{is_answer, is_gone}
use Rattle.hy_protocol.specs.Collect.{deletes_in}
use Rattle.hy_operation.specs.Marks.{is_marked}
use Rattle.hy_operation.specs.declared.marks.Marks.{Marks}
use Rattle.hy_operation.proofs.Filters.{filter-agrees}
use Rattle.hy_client.specs.Targets.{stamps_of, is_lacking, gone_clouds, deletes_of, IsTarget}
use Rattle.hy_client.specs.Collecting.{Tracks, Begins, are_deleted, HearsOr, issuer_of}
use Rattle.hy_client.specs.declared.target.Target.{Target}
use Rattle.hy_client.specs.declared.deletion.Deletion.{Deletion}
use Rattle.hy_client.proofs.Targets.{each-set, stays, unheard, one-more, hears-first, hears-again, left-same, left-less}

-- the target lacks as many clouds as the inputs say
abbrev Lacks : ℕ → ℕ → List Cue → Target → Type 0
Lacks clouds enough since t = t.lacking ≡ enough - length (gone_clouds clouds t.stamp since)

lacking-is : (clouds enough : ℕ) (since : List Cue) (t : Target) → Lacks clouds enough since t → is_lacking t ≡ not (nat_le enough (length (gone_clouds clouds t.stamp since)))
lacking-is clouds enough since t lacks = ap (λ (m : ℕ). nat_lt 0 m) lacks ∙ by_count enough (length (gone_clouds clouds t.stamp since))
  where
    by_count : (e n : ℕ) → nat_lt 0 (e - n) ≡ not (nat_le e n)
    by_count e n = grind (arith, nat_tests)

tail-of : (P : Target → Type 0) (t : Target) (ts : List Target) → All P (t ∷ ts) → All P ts
tail-of P t ts each = λ k d within. each (suc k) d (omega (arith, within))

-- each timestamp is deleted exactly where no target lacks a cloud
pub deleted-is : (clouds enough : ℕ) (since : List Cue) (ts : List Target) → All (Lacks clouds enough since) ts → are_deleted clouds enough since (stamps_of ts) ≡ (length (filter is_lacking ts) == 0)
deleted-is clouds enough since [] each = refl
deleted-is clouds enough since (t ∷ ts) each =
    let rest = deleted-is clouds enough since ts (tail-of (Lacks clouds enough since) t ts each) in
    let here = lacking-is clouds enough since t (each 0 t (omega arith)) in
    elim (cases_bool (nat_le enough (length (gone_clouds clouds t.stamp since)))) [
      | inl enough_gone ↦ rw (here, enough_gone) rest
      | inr too_few ↦ let some : (suc (length (filter is_lacking ts)) == 0) ≡ false = grind (arith, nat_tests) in rw (here, too_few) (sym some)
    ]

-- how many timestamps are deleted
pub have-is : (clouds enough : ℕ) (since : List Cue) (ts : List Target) → All (Lacks clouds enough since) ts
    → length (filter (λ stamp. nat_le enough (length (gone_clouds clouds stamp since))) (stamps_of ts)) + length (filter is_lacking ts) ≡ length ts
have-is clouds enough since [] each = refl
have-is clouds enough since (t ∷ ts) each =
    let rest = have-is clouds enough since ts (tail-of (Lacks clouds enough since) t ts each) in
    let here = lacking-is clouds enough since t (each 0 t (omega arith)) in
    elim (cases_bool (nat_le enough (length (gone_clouds clouds t.stamp since)))) [
      | inl enough_gone ↦ rw (here, enough_gone) (omega (arith, rest))
      | inr too_few ↦ rw (here, too_few) (omega (arith, rest))
    ]

-- the requests for what is not deleted
pub deletes-are : (plan : CollectPlan) (clouds enough : ℕ) (since : List Cue) (ts : List Target) → All (IsTarget clouds enough since) ts
    → flat_map (deletes_of (issuer_of plan) clouds) ts ≡ flat_map (λ stamp. deletes_in plan stamp (filter (λ cloud. not (list_any (is_answer is_gone stamp cloud) since)) (range_with_len 0 clouds))) (stamps_of ts)
deletes-are plan clouds enough since [] each = refl
deletes-are plan clouds enough since (t ∷ ts) each =
    let rest = deletes-are plan clouds enough since ts (tail-of (IsTarget clouds enough since) t ts each) in
    let h = each 0 t (omega arith) in
    let same : filter (λ cloud. not (is_marked t.gone cloud)) (range_with_len 0 clouds) ≡ filter (λ cloud. not (list_any (is_answer is_gone t.stamp cloud) since)) (range_with_len 0 clouds) =
    filter-agrees (λ cloud. not (is_marked t.gone cloud)) (λ cloud. not (list_any (is_answer is_gone t.stamp cloud) since)) 0 clouds (λ cloud within. ap not (h.gone cloud (omega (arith, within)))) in
    ap (λ (clouds_left : List ℕ). deletes_in plan t.stamp clouds_left ++ flat_map (deletes_of (issuer_of plan) clouds) ts) same
    ∙ ap (λ (outs : List Out). deletes_in plan t.stamp (filter (λ cloud. not (list_any (is_answer is_gone t.stamp cloud) since)) (range_with_len 0 clouds)) ++ outs) rest

-- the input tells nothing of these timestamps
pub quiet-tracks : (clouds enough : ℕ) (stamps : List Timestamp) (since : List Cue) (cue : Cue) (old : Deletion) → All (λ t. (cloud : ℕ) → cloud < clouds → is_answer is_gone t.stamp cloud cue ≡ false) old.targets.items → 0 < old.left
    → Tracks clouds enough stamps since old → Tracks clouds enough stamps (cue ∷ since) old × (0 < old.left)
quiet-tracks clouds enough stamps since cue old quiet some h =
    (record { lists = h.lists; each = λ k d within. stays clouds enough since cue (get_or old.targets.items k d) (quiet k d within) (h.each k d within); left = h.left }, some)

-- an acknowledgement of a timestamp that is not to be deleted
pub gone-stray : (clouds enough : ℕ) (stamps : List Timestamp) (since : List Cue) (reply : CloudReply) (old : Deletion) → All (λ t. stamp_eq reply.stamp t.stamp ≡ false) old.targets.items → 0 < old.left
    → Tracks clouds enough stamps since old → HearsOr clouds enough stamps (cues.Cloud reply ∷ since) old None
gone-stray clouds enough stamps since reply old other some h =
    quiet-tracks clouds enough stamps since (cues.Cloud reply) old (λ k d within cloud in_store. unheard reply (get_or old.targets.items k d).stamp cloud (other k d within)) some h

module _ (clouds enough : ℕ) (stamps : List Timestamp) (since : List Cue) (reply : CloudReply) (old : Deletion) (place : ℕ) (e : Target)
    (rise : is_rising (stamps_of old.targets.items) ≡ true) (inside : place < length old.targets.items) (found : reply.stamp ≡ (get_or old.targets.items place e).stamp)
    (few : clouds ≤ 16) (in_store : reply.cloud < clouds) (gone : is_gone reply.say ≡ true) (some : 0 < old.left) (h : Tracks clouds enough stamps since old) where
  -- the cloud had acknowledged before
  pub gone-again : is_marked (get_or old.targets.items place e).gone reply.cloud ≡ true → HearsOr clouds enough stamps (cues.Cloud reply ∷ since) old None
  gone-again marked =
      let own : Target = get_or old.targets.items place e in
      let each : All (IsTarget clouds enough (cues.Cloud reply ∷ since)) (slice_set old.targets.items place own) =
      each-set (IsTarget clouds enough since) (IsTarget clouds enough (cues.Cloud reply ∷ since)) reply.stamp old.targets.items place own e rise inside found
      (λ x other is. stays clouds enough since (cues.Cloud reply) x (λ cloud within. unheard reply x.stamp cloud other) is) h.each (hears-again clouds enough since reply own gone found in_store marked (h.each place e inside)) in (
        record {
          lists = h.lists;
          each = subst (λ (ts : List Target). All (IsTarget clouds enough (cues.Cloud reply ∷ since)) ts) (set-get_or old.targets.items place e) each;
          left = h.left;
        },
        some,
      )

  -- the timestamp lacked this cloud alone, and no other lacks any
  pub gone-last : is_marked (get_or old.targets.items place e).gone reply.cloud ≡ false → (get_or old.targets.items place e).lacking ≡ 1 → old.left ≤ 1 → are_deleted clouds enough (cues.Cloud reply ∷ since) stamps ≡ true
  gone-last unmarked one last =
      let own : Target = get_or old.targets.items place e in
      let t : Target = record { stamp = own.stamp; gone = own.gone; lacking = 0 } in
      let none : Lacks clouds enough (cues.Cloud reply ∷ since) t = let less = one-more clouds enough since reply own gone found in_store unmarked (h.each place e inside) in rw one at less in
      let each : All (Lacks clouds enough (cues.Cloud reply ∷ since)) (slice_set old.targets.items place t) =
      each-set (IsTarget clouds enough since) (Lacks clouds enough (cues.Cloud reply ∷ since)) reply.stamp old.targets.items place t e rise inside found
      (λ x other is. (stays clouds enough since (cues.Cloud reply) x (λ cloud within. unheard reply x.stamp cloud other) is).lacking) h.each none in
      let was : is_lacking own ≡ true = rw one refl in
      let c = left-less old.targets.items place t e inside was refl in
      let zero_left : length (filter is_lacking (slice_set old.targets.items place t)) ≡ 0 = omega (arith, c, h.left, last) in
      let stamps_are : stamps_of (slice_set old.targets.items place t) ≡ stamps = map-set_same (λ (x : Target). x.stamp) old.targets.items place t e refl ∙ h.lists in
      subst (λ (ss : List Timestamp). are_deleted clouds enough (cues.Cloud reply ∷ since) ss ≡ true) stamps_are
      (deleted-is clouds enough (cues.Cloud reply ∷ since) (slice_set old.targets.items place t) each ∙ rw zero_left refl)

  -- the cloud had not acknowledged before
  pub gone-first : (t : Target) (new : Deletion) → is_marked (get_or old.targets.items place e).gone reply.cloud ≡ false
      → t.stamp ≡ (get_or old.targets.items place e).stamp → ((i : ℕ) → i < 16 → is_marked t.gone i ≡ (is_marked (get_or old.targets.items place e).gone i || reply.cloud == i)) → t.lacking ≡ (get_or old.targets.items place e).lacking - 1
      → new.targets.items ≡ slice_set old.targets.items place t
      → (((get_or old.targets.items place e).lacking ≡ 1) × (1 < old.left) × (new.left ≡ old.left - 1)) ⊎ (((get_or old.targets.items place e).lacking ≢ 1) × (new.left ≡ old.left))
      → HearsOr clouds enough stamps (cues.Cloud reply ∷ since) new None
  gone-first t new unmarked same marks less set left = (
    record {
      lists = ap stamps_of set ∙ map-set_same (λ (x : Target). x.stamp) old.targets.items place t e same ∙ h.lists;
      each = subst (λ (ts : List Target). All (IsTarget clouds enough (cues.Cloud reply ∷ since)) ts) (sym set)
          (each-set (IsTarget clouds enough since) (IsTarget clouds enough (cues.Cloud reply ∷ since)) reply.stamp old.targets.items place t e rise inside found
          (λ x other is. stays clouds enough since (cues.Cloud reply) x (λ cloud within. unheard reply x.stamp cloud other) is) h.each
          (hears-first clouds enough since reply (get_or old.targets.items place e) t gone found in_store few unmarked same marks less (h.each place e inside)));
      left = counted.0 ∙ ap (λ (ts : List Target). length (filter is_lacking ts)) (sym set);
    },
    counted.1,
  )
    where
      own : Target
      own = get_or old.targets.items place e

      still : (m : ℕ) → m ≢ 1 → nat_lt 0 (m - 1) ≡ nat_lt 0 m
      still m other = grind (arith, nat_tests, other)

      counted : (new.left ≡ length (filter is_lacking (slice_set old.targets.items place t))) × (0 < new.left)
      counted = elim left [
        | inl last ↦
            let was : is_lacking own ≡ true = rw last.0 refl in
            let is : is_lacking t ≡ false = rw (less, last.0) refl in
            let c = left-less old.targets.items place t e inside was is in
            (omega (arith, c, h.left, last.1, last.2), omega (arith, last.1, last.2))
        | inr more ↦
            let same_lack : is_lacking t ≡ is_lacking own = rw less (still own.lacking more.0) in
            let c = left-same old.targets.items place t e inside same_lack in
            (omega (arith, c, h.left, more.1), omega (arith, more.1, some))
      ]

-- ---- the deletions as they begin

abbrev pub fresh_targets : Marks → ℕ → List Timestamp → List Target
fresh_targets gone enough stamps = map (λ stamp. record { stamp = stamp; gone = gone; lacking = enough }) stamps

pub fresh-stamps : (gone : Marks) (enough : ℕ) (stamps : List Timestamp) → stamps_of (fresh_targets gone enough stamps) ≡ stamps
fresh-stamps gone enough [] = refl
fresh-stamps gone enough (s ∷ ss) = ap (λ (xs : List Timestamp). s ∷ xs) (fresh-stamps gone enough ss)

none-gone : (clouds : ℕ) (s : Timestamp) → length (gone_clouds clouds s []) ≡ 0
none-gone clouds s = go clouds 0
  where
    go : (n a : ℕ) → length (filter (λ (cloud : ℕ). false) (range_with_len a n)) ≡ 0
    go zero a = refl
    go (suc n) a = go n (a + 1)

fresh-each : (gone : Marks) (clouds enough : ℕ) → ((cloud : ℕ) → is_marked gone cloud ≡ false) → (stamps : List Timestamp) → All (IsTarget clouds enough []) (fresh_targets gone enough stamps)
fresh-each gone clouds enough unmarked [] = λ k d within. absurd (omega (arith, within))
fresh-each gone clouds enough unmarked (s ∷ ss) = go (fresh-each gone clouds enough unmarked ss)
  where
    first : IsTarget clouds enough [] (record { stamp = s; gone = gone; lacking = enough })
    first = record { gone = λ cloud within. unmarked cloud; lacking = let none = none-gone clouds s in omega (arith, none) }

    go : All (IsTarget clouds enough []) (fresh_targets gone enough ss) → (k : ℕ) (d : Target) → k < length (fresh_targets gone enough (s ∷ ss)) → IsTarget clouds enough [] (get_or (fresh_targets gone enough (s ∷ ss)) k d)
    go rest zero d within = first
    go rest (suc k) d within = rest k d (omega (arith, within))

fresh-left : (gone : Marks) (enough : ℕ) → 0 < enough → (stamps : List Timestamp) → length (filter is_lacking (fresh_targets gone enough stamps)) ≡ length (fresh_targets gone enough stamps)
fresh-left gone enough some [] = refl
fresh-left gone enough some (s ∷ ss) = let lacks : nat_lt 0 enough ≡ true = grind (arith, nat_tests, some) in let rest = fresh-left gone enough some ss in rw lacks (omega (arith, rest))

pub begins : (gone : Marks) (enough : ℕ) (stamps : List Timestamp) (new : Deletion) → ((cloud : ℕ) → is_marked gone cloud ≡ false) → new.targets.items ≡ fresh_targets gone enough stamps → new.left ≡ length new.targets.items → Begins enough stamps new
begins gone enough stamps new unmarked is all = record {
  all = all ∙ ap length is ∙ length-map stamps (λ stamp. record { stamp = stamp; gone = gone; lacking = enough });
  tracks = λ clouds some. record {
    lists = ap stamps_of is ∙ fresh-stamps gone enough stamps;
    each = subst (λ (ts : List Target). All (IsTarget clouds enough []) ts) (sym is) (fresh-each gone clouds enough unmarked stamps);
    left = all ∙ ap length is ∙ sym (fresh-left gone enough some stamps) ∙ ap (λ (ts : List Target). length (filter is_lacking ts)) (sym is);
  };
}

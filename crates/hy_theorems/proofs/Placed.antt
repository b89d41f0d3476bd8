-- The order by points is the order by timestamps.
use Rattle.std.proofs.Common.{◌≡◌, ℕ, ◌+◌, ◌-◌, ◌≤◌, ◌<◌, Bool, true, false, List, [], ◌∷◌, Option, Some, None, refl, sym, ap, subst, ◌∙◌, inl, inr, arith}
use Rattle.std.specs.Prelude.{◌⊎◌, ◌&&◌, ◌||◌, ◌==◌, not, nat_lt}
use Rattle.std.specs.List.{AllByRecursion, filter_map, cons_option}
use Rattle.std.proofs.lemmas.Bool.{both_ways}
use Rattle.std.proofs.lemmas.Bool.Decides.{nat_tests}
use Rattle.hy_record.specs.Stamp.{Timestamp, stamp_lt}
use Rattle.hy_record.proofs.Order.{stamp_le-lt, stamp_lt-same, stamp_lt-neither, stamp_eq-true, stamp_lt-other}
use Rattle.hy_meta.proofs.Rising.{cases_bool}
use Rattle.hy_trace.specs.Deeds.{Params, Deed, start_of}
use Rattle.hy_trace.specs.Trace.{IsTrace}
use Rattle.hy_trace.specs.History.{Begun, begun_of}
use Rattle.hy_trace.specs.Points.{Point, is_earlier}
use Rattle.hy_trace.specs.Order.{Mark, mark_of, marks_of, insert_mark, sorted_marks, is_later, is_behind}
use Rattle.hy_trace.proofs.Growth.{Le, le-same, le-trans}
use Rattle.hy_theorems.proofs.Ordering.{behind-before, parts-before, all-sorted, Differs}
use Rattle.hy_theorems.proofs.Beginnings.{AreOthers, begun-are}
use Rattle.hy_theorems.proofs.Marks.{behind-lt, behind-le, IsMarkOf, mark-is, marks-differ}
use Rattle.hy_theorems.proofs.Linear.{picked, all-pairs}
use Rattle.hy_theorems.proofs.TopAt.{top_at, at-rises}
use Rattle.hy_theorems.proofs.Overwritten.{IsWrittenAt}
use Rattle.hy_theorems.proofs.Cells.{written}
use Rattle.hy_theorems.proofs.ReadPoints.{IsReadAt}

-- a write or a read that stands at its point
abbrev pub IsPlaced : List Deed → List ℕ → Mark → Type 0
IsPlaced t key m = ((m.reads ≡ 0) × IsWrittenAt t key m.stamp m.point) ⊎ ((m.reads ≡ 1) × (m.point.is_just_before ≡ false) × IsReadAt t key m.stamp m.point.step)

earlier-cases : (a b : Point) → is_earlier a b ≡ true → (a.step < b.step) ⊎ ((a.step ≡ b.step) × (a.is_just_before ≡ true) × (b.is_just_before ≡ false))
unfolding is_earlier
earlier-cases a b is = by_tests (a.is_just_before) (b.is_just_before) refl refl is
  where
    by_tests : (x y : Bool) → a.is_just_before ≡ x → b.is_just_before ≡ y → (nat_lt a.step b.step || (a.step == b.step && x && not y)) ≡ true → (a.step < b.step) ⊎ ((a.step ≡ b.step) × (a.is_just_before ≡ true) × (b.is_just_before ≡ false))
    by_tests true true x_is y_is e = inl (grind (arith, nat_tests))
    by_tests false y x_is y_is e = inl (grind (arith, nat_tests))
    by_tests true false x_is y_is e = elim (cases_bool (nat_lt a.step b.step)) [ inl less ↦ inl (grind (arith, nat_tests)) | inr not_less ↦ inr (grind (arith, nat_tests), x_is, y_is) ]

module _ (t : List Deed) (key : List ℕ) where
  -- a placed operation is not above what the record is at its point
  reached : (m : Mark) → IsPlaced t key m → Le m.stamp (top_at t key m.point.step)
  reached m (inr read) = subst (λ (x : Timestamp). Le m.stamp x) (sym read.2.here) (le-same m.stamp)
  reached m (inl write) = by_side m.point.is_just_before refl
    where
      by_side : (b : Bool) → m.point.is_just_before ≡ b → Le m.stamp (top_at t key m.point.step)
      by_side true is = stamp_lt-other m.stamp (top_at t key m.point.step) (write.1.past is)
      by_side false is = subst (λ (x : Timestamp). Le m.stamp x) (sym (write.1.here is)) (le-same m.stamp)

  -- what stands at an earlier point comes before
  earlier-behind : (a b : Mark) → IsPlaced t key a → IsPlaced t key b → is_earlier b.point a.point ≡ true → is_behind a b ≡ true
  earlier-behind a b first second earlier = by_steps first second (earlier-cases b.point a.point earlier)
    where
      from : Le b.stamp (top_at t key b.point.step)
      from = reached b second

      past : (b.point.step ≡ a.point.step) → b.point.is_just_before ≡ true → stamp_lt b.stamp (top_at t key b.point.step) ≡ true → top_at t key a.point.step ≡ a.stamp → is_behind a b ≡ true
      past same side above here = behind-lt a b (subst (λ (x : Timestamp). stamp_lt b.stamp x ≡ true) (ap (top_at t key) same ∙ here) above)

      by_steps : IsPlaced t key a → IsPlaced t key b → (b.point.step < a.point.step) ⊎ ((b.point.step ≡ a.point.step) × (b.point.is_just_before ≡ true) × (a.point.is_just_before ≡ false)) → is_behind a b ≡ true
      by_steps (inl write) other (inl less) = behind-lt a b (stamp_le-lt b.stamp (top_at t key b.point.step) a.stamp from (write.1.below b.point.step less))
      by_steps (inr read) (inl other) (inl less) =
          (let k1 = read.0 in let k2 = other.0 in
          behind-le a b (subst (λ (x : Timestamp). Le b.stamp x) read.2.here (le-trans b.stamp (top_at t key b.point.step) (top_at t key a.point.step) from (at-rises t key b.point.step a.point.step (omega (arith, less))))) (inl (omega (arith, k1, k2))))
      by_steps (inr read) (inr other) (inl less) =
          behind-le a b (subst (λ (x : Timestamp). Le b.stamp x) read.2.here (le-trans b.stamp (top_at t key b.point.step) (top_at t key a.point.step) from (at-rises t key b.point.step a.point.step (omega (arith, less))))) (inr (other.0 ∙ sym read.0, less))
      by_steps (inl write) (inl other) (inr same) = past same.0 same.1 (other.1.past same.1) (write.1.here same.2)
      by_steps (inr read) (inl other) (inr same) = past same.0 same.1 (other.1.past same.1) read.2.here
      by_steps (inl write) (inr other) (inr same) = absurd (both_ways b.point.is_just_before other.1 same.1)
      by_steps (inr read) (inr other) (inr same) = absurd (both_ways b.point.is_just_before other.1 same.1)

same-point : (a b : Point) → is_earlier a b ≡ false → is_earlier b a ≡ false → (a.step ≡ b.step) × (a.is_just_before ≡ b.is_just_before)
unfolding is_earlier
same-point a b first second = by_tests a.is_just_before b.is_just_before refl refl first second
  where
    by_tests : (x y : Bool) → a.is_just_before ≡ x → b.is_just_before ≡ y → (nat_lt a.step b.step || (a.step == b.step && x && not y)) ≡ false → (nat_lt b.step a.step || (b.step == a.step && y && not x)) ≡ false → (a.step ≡ b.step) × (a.is_just_before ≡ b.is_just_before)
    by_tests true true x_is y_is e f = (grind (arith, nat_tests), x_is ∙ sym y_is)
    by_tests false false x_is y_is e f = (grind (arith, nat_tests), x_is ∙ sym y_is)
    by_tests true false x_is y_is e f = absurd (grind (arith, nat_tests))
    by_tests false true x_is y_is e f = absurd (grind (arith, nat_tests))

module _ (t : List Deed) (key : List ℕ) where
  -- a read does not stand at the point of a write of its timestamp
  read-apart : (a b : Mark) → (a.reads ≡ 1) × (a.point.is_just_before ≡ false) × IsReadAt t key a.stamp a.point.step → (b.reads ≡ 0) × IsWrittenAt t key b.stamp b.point → a.point.step ≡ b.point.step → a.stamp ≡ b.stamp → ⊥
  read-apart a b read write same stamps =
      let some = write.1.some in
      let just : a.point.step - 1 + 1 ≡ a.point.step = omega (arith, some, same) in
      let before : top_at t key (a.point.step - 1) ≡ b.stamp = read.2.before (a.point.step - 1) just ∙ stamps in
      let below = write.1.below (a.point.step - 1) (omega (arith, some, same)) in
      both_ways (stamp_lt b.stamp b.stamp) (stamp_lt-same b.stamp) (subst (λ (x : Timestamp). stamp_lt x b.stamp ≡ true) before below)

  -- of two placed operations, which are of one point and one timestamp only where both read, the later one by points is the later one by timestamps
  pub same-order : (a b : Mark) → IsPlaced t key a → IsPlaced t key b → Differs a b → is_later a b ≡ is_behind a b
  unfolding is_later
  same-order a b first second differs =
      elim (cases_bool (is_earlier b.point a.point)) [
        | inl after ↦ rw (after, earlier-behind t key a b first second after) refl
        | inr not_after ↦ elim (cases_bool (is_earlier a.point b.point)) [
          | inl before ↦ rw (not_after, before) (sym (behind-before b a (earlier-behind t key b a second first before)))
          | inr not_before ↦ rw (not_after, not_before) (at_one (same-point a.point b.point not_before not_after))
        ]
      ]
    where
      level : a.point.step ≡ b.point.step → a.stamp ≡ b.stamp → a.reads ≤ b.reads → is_behind a b ≡ false
      level steps stamps reads = parts-before a b (record {
        sn = (let e = ap (λ (s : Timestamp). s.sn) stamps in omega (arith, e));
        cid = λ e. (let f = ap (λ (s : Timestamp). s.cid) stamps in omega (arith, f));
        reads = λ e f. reads;
        point = λ e f g. omega (arith, steps);
      })

      equal : (a.point.step ≡ b.point.step) → a.stamp ≡ b.stamp → IsPlaced t key a → IsPlaced t key b → is_behind a b ≡ false
      equal steps stamps (inl write) (inl other) = absurd (differs write.0 other.0 stamps)
      equal steps stamps (inr read) (inl write) = absurd (read-apart a b read write steps stamps)
      equal steps stamps (inl write) (inr read) = level steps stamps (let zero_ = write.0 in omega (arith, zero_))
      equal steps stamps (inr read) (inr other) = level steps stamps (let one = read.0 in let too = other.0 in omega (arith, one, too))

      at_one : (a.point.step ≡ b.point.step) × (a.point.is_just_before ≡ b.point.is_just_before) → stamp_lt b.stamp a.stamp ≡ is_behind a b
      at_one same =
          elim (cases_bool (stamp_lt b.stamp a.stamp)) [
            | inl above ↦ above ∙ sym (behind-lt a b above)
            | inr not_above_ ↦ elim (cases_bool (stamp_lt a.stamp b.stamp)) [
              | inl below ↦ not_above_ ∙ sym (behind-before b a (behind-lt b a below))
              | inr not_below ↦ not_above_ ∙ sym (equal same.0 (stamp_eq-true a.stamp b.stamp (stamp_lt-neither a.stamp b.stamp not_below not_above_)) first second)
            ]
          ]

-- sorts by two tests that agree on all pairs are one

abbrev pub Agrees : Mark → Mark → Type 0
Agrees a b = is_later a b ≡ is_behind a b

abbrev pub AllAgree : List Mark → Type 0
AllAgree [] = Unit {0}
AllAgree (m ∷ ms) = AllByRecursion (Agrees m) ms × AllAgree ms

insert-same : (m : Mark) (ms : List Mark) → AllByRecursion (Agrees m) ms → insert_mark is_later m ms ≡ insert_mark is_behind m ms
unfolding insert_mark
insert-same m [] agree = refl
insert-same m (first ∷ others) agree =
    elim (cases_bool (is_behind m first)) [
      | inl behind ↦ (let later : is_later m first ≡ true = agree.0 ∙ behind in rw (behind, later) (ap (λ (xs : List Mark). first ∷ xs) (insert-same m others agree.1)))
      | inr before ↦ (let not_later : is_later m first ≡ false = agree.0 ∙ before in rw (before, not_later) refl)
    ]

sort-same : (ms : List Mark) → AllAgree ms → sorted_marks is_later ms ≡ sorted_marks is_behind ms
unfolding sorted_marks
sort-same [] agree = refl
sort-same (m ∷ ms) agree = rw (sort-same ms agree.1) (insert-same m (sorted_marks is_behind ms) (all-sorted (Agrees m) ms agree.0))

-- the listed operations of a key stand at their points
module _ (p : Params) (t : List Deed) (trace : IsTrace p t) (key : List ℕ) where
  pub placed : (b : Begun) (m : Mark) → IsMarkOf p t trace key b m → IsPlaced t key m
  placed b m of =
      elim of.sort [
        | inl write ↦ inl (write.reads_is, written p t trace key b m of write)
        | inr read ↦ inr (read.reads_is, read.side, read.at)
      ]

  agree : (ops : List Begun) → AllByRecursion (λ b. start_of b.client b.op t ≡ Some b.start) ops → AreOthers ops → AllAgree (filter_map (mark_of p t key) ops)
  agree [] began others = tt
  agree (b ∷ ops) began others = by_first (mark_of p t key b) refl (agree ops began.1 others.1)
    where
      by_first : (o : Option Mark) → mark_of p t key b ≡ o → AllAgree (filter_map (mark_of p t key) ops) → AllAgree (cons_option o (filter_map (mark_of p t key) ops))
      by_first None is rest = rest
      by_first (Some m) is rest =
          let here = mark-is p t trace key b m began.0 is in (
            picked (mark_of p t key) (λ a. (start_of a.client a.op t ≡ Some a.start) × ((b.client ≡ a.client) × (b.op ≡ a.op) → ⊥)) (Agrees m) ops
                (λ a n known other. (let there = mark-is p t trace key a n known.0 other in same-order t key m n (placed b m here) (placed a n there) (marks-differ p t trace key b a m n here there known.1)))
                (all-pairs (λ a. start_of a.client a.op t ≡ Some a.start) (λ a. (b.client ≡ a.client) × (b.op ≡ a.op) → ⊥) ops began.1 others.0),
            rest,
          )

  -- the order by points is the order by timestamps
  pub orders-same : sorted_marks is_later (marks_of p t key) ≡ sorted_marks is_behind (marks_of p t key)
  orders-same = (let is = begun-are p t trace in sort-same (marks_of p t key) (agree (begun_of t) is.0 is.1))

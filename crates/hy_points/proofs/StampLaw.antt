-- The order of operations by timestamp respects real time, and each read finds the last write.
use Rattle.std.proofs.Common.{◌≡◌, ℕ, zero, suc, get_or, ◌<◌, Bool, true, false, cond, List, [], ◌∷◌, length, map, refl, sym, ap, subst, ◌∙◌, inl, inr, arith}
use Rattle.std.specs.Prelude.{◌⊎◌, not, if◌then◌else◌, Contains}
use Rattle.std.specs.Cmp.{IsTotalOrder, nat_cmp_total, bool_cmp_total, then_total, on_total}
use Rattle.std.specs.List.{AllByRecursion, filter}
use Rattle.std.specs.Ordering.{is_lt, nat_cmp, bool_cmp, on}
use Rattle.std.specs.declared.cmp.Ordering.{Ordering}
use Rattle.std.proofs.lemmas.Bool.{both_ways}
use Rattle.std.proofs.lemmas.Bool.Decides.{nat_tests}
use Rattle.hy_record.specs.Stamp.{Timestamp, stamp_cmp}
use Rattle.hy_order.specs.Linearization.{is_write, returned_before, RespectsRealTime}
use Rattle.hy_order.specs.declared.operation.End.{End}
use Rattle.hy_order.specs.declared.operation.End.TheVariants.{Replied, Pending}
use Rattle.hy_order.specs.declared.operation.Operation.{Operation}
use Rattle.hy_points.specs.declared.told.Told.{Told}
use Rattle.hy_points.specs.Atomic.{no_stamp}
use Rattle.hy_points.specs.Marks.{sorted_by, insert_by}
use Rattle.hy_points.specs.Stamps.{end_stamp, is_told, told_of, told_cmp, operations_by_stamp, IsTold, AreTimely, FindsLastStamps}
use Rattle.hy_points.proofs.Sorting.{cases_bool, all-each, AreInOrder, sorted-ordered, all-sorted}
use Rattle.hy_points.proofs.Moments.{stamp_total}
use Rattle.hy_points.proofs.Heights.{Le, none-le}
use Rattle.hy_points.proofs.ByMoment.{then-lt, nat-upto, bool-same, bool-upto, stamp-upto, stamp-same}
use Rattle.hy_points.proofs.InOrder.{MayPrecede, AreByStamp, Follows, RespectsTime, by-stamp-in-time, IsWrittenIn, Finds, FindsLast, by-stamp-finds}
use Rattle.hy_points.proofs.Listing.{IsIn, in-contains, in-sorted}

pub told_total : IsTotalOrder told_cmp
told_total =
    then_total (on_total (λ (t : Told). t.stamp) stamp_total)
    (then_total (on_total (λ (t : Told). t.reads) bool_cmp_total)
    (then_total (on_total (λ (t : Told). t.invoked) nat_cmp_total) (on_total (λ (t : Told). t.number) nat_cmp_total)))

op_total : IsTotalOrder (on told_of told_cmp)
op_total = on_total told_of told_total

-- sorting what places operations is sorting the operations
pub sorted-map : {A B : Type 0} (f : A → B) (cmp : B → B → Ordering) (xs : List A) → sorted_by cmp (map f xs) ≡ map f (sorted_by (on f cmp) xs)
sorted-map f cmp [] = refl
sorted-map f cmp (x ∷ xs) = ap (insert_by cmp (f x)) (sorted-map f cmp xs) ∙ inserted (sorted_by (on f cmp) xs)
  where
    inserted : (ys : List _) → insert_by cmp (f x) (map f ys) ≡ map f (insert_by (on f cmp) x ys)
    inserted [] = refl
    inserted (y ∷ ys) = by_test (is_lt (cmp (f y) (f x))) (inserted ys)
      where
        by_test : (b : Bool) → insert_by cmp (f x) (map f ys) ≡ map f (insert_by (on f cmp) x ys) → cond b (f y ∷ insert_by cmp (f x) (map f ys)) (f x ∷ f y ∷ map f ys) ≡ map f (cond b (y ∷ insert_by (on f cmp) x ys) (x ∷ y ∷ ys))
        by_test true rest = ap (λ zs. f y ∷ zs) rest
        by_test false rest = refl

pub map-numbers : (ops : List Operation) → map (λ (t : Told). t.number) (map told_of ops) ≡ map (λ (op : Operation). op.number) ops
map-numbers [] = refl
map-numbers (op ∷ ops) = ap (λ ns. op.number ∷ ns) (map-numbers ops)

abbrev stamp_of : Operation → Timestamp
stamp_of op = end_stamp op.end

abbrev reads_of : Operation → Bool
reads_of op = not (is_write op.action)

abbrev rank_of : Operation → ℕ
rank_of op = op.invoked

abbrev came : Operation → Operation → Bool
came a b = returned_before b.invoked a.end

may-precede : (x y : Operation) → is_lt (told_cmp (told_of y) (told_of x)) ≡ false → MayPrecede stamp_of reads_of rank_of x y
may-precede x y is =
    let a = then-lt (stamp_cmp (stamp_of y) (stamp_of x)) _ is in
    record {
      stamps = stamp-upto (stamp_of y) (stamp_of x) a.0;
      kinds = λ same read. (let b = then-lt (bool_cmp (reads_of y) (reads_of x)) _ (a.1 (stamp-same (stamp_of y) (stamp_of x) (sym same))) in bool-upto (reads_of y) (reads_of x) b.0 read);
      ranks = λ same read too. (
          let b = then-lt (bool_cmp (reads_of y) (reads_of x)) _ (a.1 (stamp-same (stamp_of y) (stamp_of x) (sym same))) in
          let c = then-lt (nat_cmp y.invoked x.invoked) _ (b.1 (bool-same (reads_of y) (reads_of x) (too ∙ sym read))) in
          nat-upto y.invoked x.invoked c.0);
    }

by-stamp : (ops : List Operation) → AreInOrder (on told_of told_cmp) ops → AreByStamp stamp_of reads_of rank_of ops
by-stamp [] ordered = tt
by-stamp (op ∷ ops) ordered = (all-each (λ y. is_lt (on told_of told_cmp y op) ≡ false) (MayPrecede stamp_of reads_of rank_of op) ops (λ y is. may-precede op y is) ordered.0, by-stamp ops ordered.1)

not-reads : (b : Bool) → not b ≡ true → b ≡ false
not-reads false is = refl
not-reads true is = cc

not-writes : (b : Bool) → not b ≡ false → b ≡ true
not-writes true is = refl
not-writes false is = cc

-- the finished operations of the key
all-told : (key : List ℕ) (history ops : List Operation) → ((op : Operation) → IsIn ops op → IsIn history op) → AllByRecursion (IsTold history key) (filter (is_told key) ops)
all-told key history [] within = tt
all-told key history (op ∷ ops) within = by_test (is_told key op) refl (all-told key history ops (λ x is. within x (inr is)))
  where
    by_test : (b : Bool) → is_told key op ≡ b → AllByRecursion (IsTold history key) (filter (is_told key) ops) → AllByRecursion (IsTold history key) (cond b (op ∷ filter (is_told key) ops) (filter (is_told key) ops))
    by_test false is rest = rest
    by_test true is rest = (record { listed = in-contains history op (within op (inl refl)); told = is }, rest)

in-filter : {A : Type 0} (test : A → Bool) (xs : List A) (x : A) → IsIn xs x → test x ≡ true → IsIn (filter test xs) x
in-filter test [] x is passes = absurd is
in-filter test (first ∷ others) x is passes = by_place is (in-filter test others x) (cases_bool (test first))
  where
    by_place : IsIn (first ∷ others) x → (IsIn others x → test x ≡ true → IsIn (filter test others) x) → (test first ≡ true) ⊎ (test first ≡ false) → IsIn (cond (test first) (first ∷ filter test others) (filter test others)) x
    by_place (inl here) rest (inl yes_) = rw yes_ (inl here)
    by_place (inl here) rest (inr no_) = absurd (both_ways (test first) no_ (ap test here ∙ passes))
    by_place (inr later) rest (inl yes_) = rw yes_ (inr (rest later passes))
    by_place (inr later) rest (inr no_) = rw no_ (rest later passes)

contains-in : {A : Type 0} (xs : List A) (x : A) → Contains xs x → IsIn xs x
contains-in [] x there = absurd (let less = there.1 in omega (arith, less))
contains-in (first ∷ others) x there = by_place there.0 there.1 there.2 (λ c. contains-in others x c)
  where
    by_place : (k : ℕ) → k < length (first ∷ others) → get_or (first ∷ others) k x ≡ x → (Contains others x → IsIn others x) → IsIn (first ∷ others) x
    by_place zero less is rest = inl is
    by_place (suc k) less is rest = inr (rest (k, omega (arith, less), is))

module _ (history : List Operation) (key : List ℕ) (timely : AreTimely history key) where
  abbrev in_order : List Operation
  in_order = sorted_by (on told_of told_cmp) (filter (is_told key) history)

  sorted-told : AllByRecursion (IsTold history key) in_order
  sorted-told = all-sorted (on told_of told_cmp) op_total (IsTold history key) (filter (is_told key) history) (all-told key history history (λ op is. is))

  lasting : (a b : Operation) → returned_before a.invoked a.end ≡ false → returned_before b.invoked a.end ≡ true → a.invoked < b.invoked
  lasting a b lasts first = by_end a.end lasts first
    where
      by_end : (end : End) → returned_before a.invoked end ≡ false → returned_before b.invoked end ≡ true → a.invoked < b.invoked
      by_end (Replied at reply) e f = grind (arith, nat_tests)
      by_end (Pending phase have need) e f = cc

  follows : (a b : Operation) → IsTold history key a → IsTold history key b → came a b ≡ true → Follows stamp_of reads_of rank_of a b
  follows a b first second is =
      let f = timely.behind a b first second is in
      record { stamps = f.stamps; strict = λ r. f.strict (not-writes (is_write b.action) r); ranks = λ r s. lasting a b (timely.lasts a first) is }

  respects : (ops : List Operation) → RespectsTime stamp_of reads_of rank_of came ops → RespectsRealTime ops
  respects [] in_time = tt
  respects (op ∷ ops) in_time = (in_time.0, respects ops in_time.1)

  in-written : (xs : List Operation) (w : Operation) (stamp : Timestamp) → is_write w.action ≡ true → end_stamp w.end ≡ stamp → IsIn xs w → IsWrittenIn stamp_of reads_of rank_of xs stamp
  in-written [] w stamp is same there = absurd there
  in-written (x ∷ xs) w stamp is same (inl here) = inl (ap (λ (op : Operation). not (is_write op.action)) here ∙ ap not is, ap (λ (op : Operation). end_stamp op.end) here ∙ same)
  in-written (x ∷ xs) w stamp is same (inr later) = inr (in-written xs w stamp is same later)

  finds : (op : Operation) → IsTold history key op → Finds stamp_of reads_of rank_of no_stamp in_order op
  finds op told read = elim (timely.found op told (not-reads (is_write op.action) read)) [
    | inl none ↦ inl none
    | inr w ↦ inr (in-written in_order w.0 (stamp_of op) w.2 w.3 (in-sorted (on told_of told_cmp) (filter (is_told key) history) w.0 (in-filter (is_told key) history w.0 (contains-in history w.0 w.1.listed) w.1.told)))
  ]

  finds-last : (last : Timestamp) (ops : List Operation) → FindsLast stamp_of reads_of rank_of last ops → FindsLastStamps last ops
  finds-last last [] found = tt
  finds-last last (op ∷ ops) found = (λ read. found.0 (ap not read), subst (λ t. FindsLastStamps t ops) (same (is_write op.action)) (finds-last (if reads_of op then last else stamp_of op) ops found.1))
    where
      same : (b : Bool) → (if (not b) then last else stamp_of op) ≡ (if b then stamp_of op else last)
      same true = refl
      same false = refl

  ordered : AreByStamp stamp_of reads_of rank_of in_order
  ordered = by-stamp in_order (sorted-ordered (on told_of told_cmp) op_total (filter (is_told key) history))

  pub in-time : RespectsRealTime (operations_by_stamp history key)
  unfolding operations_by_stamp
  in-time = respects in_order (by-stamp-in-time stamp_of reads_of rank_of came (IsTold history key) in_order follows sorted-told ordered)

  pub finds-writes : FindsLastStamps no_stamp (operations_by_stamp history key)
  unfolding operations_by_stamp
  finds-writes =
      finds-last no_stamp in_order (by-stamp-finds stamp_of reads_of rank_of no_stamp in_order ordered
      (all-each (IsTold history key) (λ op. Le no_stamp (stamp_of op)) in_order (λ op told. none-le (stamp_of op)) sorted-told)
      (all-each (IsTold history key) (Finds stamp_of reads_of rank_of no_stamp in_order) in_order finds sorted-told))

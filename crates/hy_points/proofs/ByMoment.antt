-- Marks that stand by their moments stand by their timestamps.
use Rattle.std.proofs.Common.{◌≡◌, ℕ, ◌+◌, ◌<◌, ◌≤◌, Bool, true, false, cond, List, [], ◌∷◌, Option, refl, sym, ap, subst, ◌∙◌, inl, inr, arith}
use Rattle.std.specs.Prelude.{nat_lt, ◌==◌}
use Rattle.std.specs.Cmp.{nat_cmp_total, bool_cmp_total}
use Rattle.std.specs.List.{AllByRecursion}
use Rattle.std.specs.Ordering.{is_lt, nat_cmp, bool_cmp, ordering_then}
use Rattle.std.specs.declared.cmp.Ordering.{Ordering}
use Rattle.std.specs.declared.cmp.Ordering.TheVariants.{Less, Equal, Greater}
use Rattle.std.proofs.lemmas.Bool.{both_ways, cases_lt}
use Rattle.std.proofs.lemmas.Bool.Decides.{nat_tests}
use Rattle.std.proofs.lemmas.Cmp.{tied_itself}
use Rattle.hy_record.specs.Stamp.{Timestamp, stamp_lt, stamp_cmp}
use Rattle.hy_points.proofs.Moments.{stamp_total}
use Rattle.hy_record.proofs.Order.{stamp_lt-same, stamp_le-lt, stamp_lt-other}
use Rattle.hy_points.specs.declared.mark.Mark.{Mark}
use Rattle.hy_points.specs.declared.point.Point.{Point}
use Rattle.hy_points.specs.Marks.{moment_cmp}
use Rattle.hy_points.proofs.Sorting.{cases_bool, AreInOrder}
use Rattle.hy_points.proofs.Heights.{Le, le-same, le-trans, height, height-rises}
use Rattle.hy_points.proofs.InOrder.{MayPrecede, AreByStamp}
use Rattle.hy_points.proofs.Placing.{IsPlaced}

pub then-lt : (a b : Ordering) → is_lt (ordering_then a b) ≡ false → (is_lt a ≡ false) × (a ≡ Equal → is_lt b ≡ false)
then-lt Less b is = cc
then-lt Equal b is = (refl, λ e. is)
then-lt Greater b is = (refl, λ e. cc)

pub nat-upto : (m n : ℕ) → is_lt (nat_cmp m n) ≡ false → n ≤ m
nat-upto m n is = by_test (nat_lt m n) refl is
  where
    by_test : (b : Bool) → nat_lt m n ≡ b → is_lt (cond b Less (cond (m == n) Equal Greater)) ≡ false → n ≤ m
    by_test true less e = cc
    by_test false less e = grind (arith, nat_tests)

nat-same : (m n : ℕ) → m ≡ n → nat_cmp m n ≡ Equal
nat-same m n same = subst (λ k. nat_cmp m k ≡ Equal) same (tied_itself nat_cmp_total m)

pub bool-same : (a b : Bool) → a ≡ b → bool_cmp a b ≡ Equal
bool-same a b same = subst (λ k. bool_cmp a k ≡ Equal) same (tied_itself bool_cmp_total a)

pub bool-upto : (a b : Bool) → is_lt (bool_cmp a b) ≡ false → b ≡ true → a ≡ true
bool-upto true b is e = refl
bool-upto false true is e = cc
bool-upto false false is e = e

pub stamp-upto : (a b : Timestamp) → is_lt (stamp_cmp a b) ≡ false → Le b a
unfolding stamp_lt
stamp-upto a b is =
    let t = then-lt (nat_cmp a.sn b.sn) (nat_cmp a.cid b.cid) is in
    let sn = nat-upto a.sn b.sn t.0 in
    elim (cases_bool (a.sn == b.sn)) [
      | inr apart ↦ grind (arith, nat_tests)
      | inl same ↦ let e : a.sn ≡ b.sn = grind (arith, nat_tests) in let cid = nat-upto a.cid b.cid (t.1 (nat-same a.sn b.sn e)) in grind (arith, nat_tests)
    ]

pub stamp-same : (a b : Timestamp) → a ≡ b → stamp_cmp a b ≡ Equal
stamp-same a b same = subst (λ k. stamp_cmp a k ≡ Equal) same (tied_itself stamp_total a)

-- x stands at no later moment than y, and at one moment its timestamp is not greater
pub record NotAfter (x y : Mark) : Type 0 where
  pub places : x.place ≤ y.place
  pub sides : x.place ≡ y.place → x.is_at ≡ true → y.is_at ≡ true
  pub stamps : x.place ≡ y.place → x.is_at ≡ y.is_at → Le x.stamp y.stamp

pub not-after : (x y : Mark) → is_lt (moment_cmp y x) ≡ false → NotAfter x y
not-after x y is =
    let a = then-lt (nat_cmp y.place x.place) _ is in
    record {
      places = nat-upto y.place x.place a.0;
      sides = λ same at. (let b = then-lt (bool_cmp y.is_at x.is_at) _ (a.1 (nat-same y.place x.place (sym same))) in bool-upto y.is_at x.is_at b.0 at);
      stamps = λ same sides. (
          let b = then-lt (bool_cmp y.is_at x.is_at) _ (a.1 (nat-same y.place x.place (sym same))) in
          let c = then-lt (stamp_cmp y.stamp x.stamp) _ (b.1 (bool-same y.is_at x.is_at (sym sides))) in
          stamp-upto y.stamp x.stamp c.0);
    }

abbrev pub stamp_of : Mark → Timestamp
stamp_of m = m.stamp

abbrev pub reads_of : Mark → Bool
reads_of m = m.reads

abbrev pub place_of : Mark → ℕ
place_of m = m.place

module _ (pick : Point → Option Timestamp) (log : List Point) where
  -- at its place a mark's timestamp is not above the record behind it
  pub reached : (x : Mark) → IsPlaced pick log x → Le x.stamp (height pick log (x.place + 1))
  reached x placed = by_side x.is_at refl
    where
      by_side : (b : Bool) → x.is_at ≡ b → Le x.stamp (height pick log (x.place + 1))
      by_side true is = subst (λ t. Le x.stamp t) (sym (placed.here is)) (le-same x.stamp)
      by_side false is = stamp_lt-other x.stamp (height pick log (x.place + 1)) (placed.past is)

  lower : (x y : Mark) → stamp_lt x.stamp y.stamp ≡ true → MayPrecede stamp_of reads_of place_of x y
  lower x y less = record {
    stamps = stamp_lt-other x.stamp y.stamp less;
    kinds = λ same. absurd (never same);
    ranks = λ same. absurd (never same);
  }
    where
      never : x.stamp ≡ y.stamp → ⊥
      never same = both_ways (stamp_lt x.stamp x.stamp) (stamp_lt-same x.stamp) (subst (λ t. stamp_lt x.stamp t ≡ true) (sym same) less)

  -- what stands at no later moment may stand in front by timestamp
  pub may-precede : (x y : Mark) → IsPlaced pick log x → IsPlaced pick log y → NotAfter x y → MayPrecede stamp_of reads_of place_of x y
  may-precede x y first second order = elim (cases_lt x.place y.place) [
    | inl less ↦ by_kind less y.reads refl
    | inr past ↦ let upto = order.places in at_one (omega (arith, past, upto)) x.is_at refl y.is_at refl
  ]
    where
      from : x.place < y.place → Le x.stamp (height pick log y.place)
      from less = le-trans x.stamp (height pick log (x.place + 1)) (height pick log y.place) (reached x first) (height-rises pick log (x.place + 1) y.place (omega (arith, less)))

      by_kind : x.place < y.place → (r : Bool) → y.reads ≡ r → MayPrecede stamp_of reads_of place_of x y
      by_kind less false is = lower x y (stamp_le-lt x.stamp (height pick log y.place) y.stamp (from less) (second.below is))
      by_kind less true is = record {
        stamps = subst (λ t. Le x.stamp t) (second.found is).0 (from less);
        kinds = λ same read. is;
        ranks = λ same read too. omega (arith, less);
      }

      at_one : x.place ≡ y.place → (a : Bool) → x.is_at ≡ a → (b : Bool) → y.is_at ≡ b → MayPrecede stamp_of reads_of place_of x y
      at_one same true a_is false b_is = absurd (both_ways y.is_at b_is (order.sides same a_is))
      at_one same false a_is true b_is = lower x y (subst (λ t. stamp_lt x.stamp t ≡ true) (ap (λ n. height pick log (n + 1)) same ∙ second.here b_is) (first.past a_is))
      at_one same false a_is false b_is = record {
        stamps = order.stamps same (a_is ∙ sym b_is);
        kinds = λ e read. absurd (both_ways x.is_at a_is (first.found read).1);
        ranks = λ e read too. absurd (both_ways x.is_at a_is (first.found read).1);
      }
      at_one same true a_is true b_is = record {
        stamps = subst (λ t. Le x.stamp t) equal (le-same x.stamp);
        kinds = λ e read. not-write y.reads refl read;
        ranks = λ e read too. omega (arith, same);
      }
        where
          equal : x.stamp ≡ y.stamp
          equal = sym (first.here a_is) ∙ ap (λ n. height pick log (n + 1)) same ∙ second.here b_is

          not-write : (r : Bool) → y.reads ≡ r → x.reads ≡ true → y.reads ≡ true
          not-write true is read = is
          not-write false is read =
              (let below : stamp_lt (height pick log y.place) y.stamp ≡ true = second.below is in
              let here : height pick log y.place ≡ y.stamp = ap (height pick log) (sym same) ∙ (first.found read).0 ∙ equal in
              absurd (both_ways (stamp_lt y.stamp y.stamp) (stamp_lt-same y.stamp) (subst (λ t. stamp_lt t y.stamp ≡ true) here below)))

  -- marks in order by moment are in order by timestamp
  pub by-moment : (xs : List Mark) → AllByRecursion (IsPlaced pick log) xs → AreInOrder moment_cmp xs → AreByStamp stamp_of reads_of place_of xs
  by-moment [] placed ordered = tt
  by-moment (x ∷ xs) placed ordered = (each xs placed.1 ordered.0, by-moment xs placed.1 ordered.1)
    where
      each : (ys : List Mark) → AllByRecursion (IsPlaced pick log) ys → AllByRecursion (λ y. is_lt (moment_cmp y x) ≡ false) ys → AllByRecursion (MayPrecede stamp_of reads_of place_of x) ys
      each [] ps os = tt
      each (y ∷ ys) ps os = (may-precede x y placed.0 ps.0 (not-after x y os.0), each ys ps.1 os.1)

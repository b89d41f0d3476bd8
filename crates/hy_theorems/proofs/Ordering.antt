-- Marks in order respect real time, and reads in order find the last write.
use Rattle.std.proofs.Common.{◌≡◌, ◌≢◌, ℕ, ◌≤◌, Bool, true, false, cond, List, [], ◌∷◌, map, Option, Some, None, refl, sym, ap, subst, ◌∙◌, inl, inr, arith}
use Rattle.std.specs.Prelude.{◌==◌, ◌⊎◌}
use Rattle.std.specs.List.{AllByRecursion}
use Rattle.std.proofs.lemmas.Bool.{both_ways, eqb-true}
use Rattle.std.proofs.lemmas.Bool.Decides.{nat_tests}
use Rattle.hy_record.specs.Stamp.{Timestamp, stamp_lt}
use Rattle.hy_record.proofs.Order.{stamp_lt-same}
use Rattle.std.proofs.lemmas.Option.{same_Some}
use Rattle.hy_meta.proofs.Rising.{cases_bool}
use Rattle.hy_record.specs.declared.action.Action.{Action}
use Rattle.hy_record.specs.declared.action.Action.TheVariants as asked
use Rattle.hy_order.specs.Linearization.{returned_before, Register, register_after, TellsRegister, ReadsRegister, RespectsRealTime}
pub use Rattle.hy_trace.specs.Order.{op_of}
use Rattle.hy_trace.specs.Order.{Mark, is_behind, insert_mark, sorted_marks}

-- in words of numbers
pub record IsBehind (a b : Mark) : Type 0 where
  pub sn : b.stamp.sn ≤ a.stamp.sn
  pub cid : b.stamp.sn ≡ a.stamp.sn → b.stamp.cid ≤ a.stamp.cid
  pub reads : b.stamp.sn ≡ a.stamp.sn → b.stamp.cid ≡ a.stamp.cid → b.reads ≤ a.reads
  pub point : b.stamp.sn ≡ a.stamp.sn → b.stamp.cid ≡ a.stamp.cid → b.reads ≡ a.reads → b.point.step ≤ a.point.step

-- a may stand in front of b
abbrev pub Before : Mark → Mark → Type 0
Before a b = is_behind a b ≡ false

pub before-parts : (a b : Mark) → Before a b → IsBehind b a
unfolding is_behind
before-parts a b is = record {
  sn = grind (arith, nat_tests);
  cid = λ e. grind (arith, nat_tests);
  reads = λ e f. grind (arith, nat_tests);
  point = λ e f g. grind (arith, nat_tests);
}

pub parts-before : (a b : Mark) → IsBehind b a → Before a b
unfolding is_behind
parts-before a b parts =
    let sn = parts.sn in let cid = parts.cid in let reads = parts.reads in let point = parts.point in
    grind (arith, nat_tests)

pub behind-before : (a b : Mark) → is_behind a b ≡ true → Before b a
unfolding is_behind
behind-before a b is = grind (arith, nat_tests)

pub before-trans : (a b c : Mark) → Before a b → Before b c → Before a c
before-trans a b c first second =
    let x = before-parts a b first in
    let y = before-parts b c second in
    let sn1 = x.sn in
    let sn2 = y.sn in
    parts-before a c (record {
      sn = omega (arith, sn1, sn2);
      cid = λ e. (let cid1 = x.cid (omega (arith, sn1, sn2, e)) in let cid2 = y.cid (omega (arith, sn1, sn2, e)) in omega (arith, cid1, cid2));
      reads = λ e f. (
          let cid1 = x.cid (omega (arith, sn1, sn2, e)) in let cid2 = y.cid (omega (arith, sn1, sn2, e)) in
          let kind1 = x.reads (omega (arith, sn1, sn2, e)) (omega (arith, cid1, cid2, f)) in let kind2 = y.reads (omega (arith, sn1, sn2, e)) (omega (arith, cid1, cid2, f)) in
          omega (arith, kind1, kind2));
      point = λ e f g. (
          let cid1 = x.cid (omega (arith, sn1, sn2, e)) in let cid2 = y.cid (omega (arith, sn1, sn2, e)) in
          let kind1 = x.reads (omega (arith, sn1, sn2, e)) (omega (arith, cid1, cid2, f)) in let kind2 = y.reads (omega (arith, sn1, sn2, e)) (omega (arith, cid1, cid2, f)) in
          let point1 = x.point (omega (arith, sn1, sn2, e)) (omega (arith, cid1, cid2, f)) (omega (arith, kind1, kind2, g)) in let point2 = y.point (omega (arith, sn1, sn2, e)) (omega (arith, cid1, cid2, f)) (omega (arith, kind1, kind2, g)) in
          omega (arith, point1, point2));
    })

-- each mark may stand in front of all behind it
abbrev pub AreInOrder : List Mark → Type 0
AreInOrder [] = Unit {0}
AreInOrder (m ∷ ms) = AllByRecursion (Before m) ms × AreInOrder ms

pub all-each : {A : Type 0} (P Q : A → Type 0) (xs : List A) → ((x : A) → P x → Q x) → AllByRecursion P xs → AllByRecursion Q xs
all-each P Q [] each all = tt
all-each P Q (x ∷ xs) each all = (each x all.0, all-each P Q xs each all.1)

pub all-inserted : (P : Mark → Type 0) (m : Mark) (ms : List Mark) → P m → AllByRecursion P ms → AllByRecursion P (insert_mark is_behind m ms)
unfolding insert_mark
all-inserted P m [] one all = (one, tt)
all-inserted P m (first ∷ others) one all =
    elim (cases_bool (is_behind m first)) [
      | inl behind ↦ rw behind (all.0, all-inserted P m others one all.1)
      | inr before ↦ rw before (one, all)
    ]

insert-ordered : (m : Mark) (ms : List Mark) → AreInOrder ms → AreInOrder (insert_mark is_behind m ms)
unfolding insert_mark
insert-ordered m [] ordered = (tt, tt)
insert-ordered m (first ∷ others) ordered =
    elim (cases_bool (is_behind m first)) [
      | inl behind ↦ rw behind (all-inserted (Before first) m others (behind-before m first behind) ordered.0, insert-ordered m others ordered.1)
      | inr before ↦ rw before ((before, all-each (Before first) (Before m) others (λ x after. before-trans m first x before after) ordered.0), ordered)
    ]

pub sorted-ordered : (ms : List Mark) → AreInOrder (sorted_marks is_behind ms)
unfolding sorted_marks
sorted-ordered [] = tt
sorted-ordered (m ∷ ms) = insert-ordered m (sorted_marks is_behind ms) (sorted-ordered ms)

pub all-sorted : (P : Mark → Type 0) (ms : List Mark) → AllByRecursion P ms → AllByRecursion P (sorted_marks is_behind ms)
unfolding sorted_marks
all-sorted P [] all = tt
all-sorted P (m ∷ ms) all = all-inserted P m (sorted_marks is_behind ms) all.0 (all-sorted P ms all.1)

-- what returned before another was invoked stands in front of it
abbrev pub InTime : Mark → Mark → Type 0
InTime a b = returned_before a.op.invoked b.op.end ≡ true → is_behind a b ≡ true

-- for each two marks
abbrev pub AreInTime : List Mark → Type 0
AreInTime [] = Unit {0}
AreInTime (m ∷ ms) = AllByRecursion (InTime m) ms × AreInTime ms

not-true-is : (b : Bool) → (b ≡ true → ⊥) → b ≡ false
not-true-is true never = absurd (never refl)
not-true-is false never = refl

none-returned : (m : Mark) (ms : List Mark) → AllByRecursion (Before m) ms → AllByRecursion (InTime m) ms → AllByRecursion (λ next. returned_before m.op.invoked next.end ≡ false) (map op_of ms)
none-returned m [] ordered timely = tt
none-returned m (next ∷ ms) ordered timely =
    (not-true-is (returned_before m.op.invoked next.op.end) (λ returned. both_ways (is_behind m next) ordered.0 (timely.0 returned)), none-returned m ms ordered.1 timely.1)

-- marks in order respect real time
pub ordered-real_time : (ms : List Mark) → AreInOrder ms → AreInTime ms → RespectsRealTime (map op_of ms)
ordered-real_time [] ordered timely = tt
ordered-real_time (m ∷ ms) ordered timely = (none-returned m ms ordered.0 timely.0, ordered-real_time ms ordered.1 timely.1)

-- a write of this timestamp is among the marks, and leaves this
abbrev pub IsLeft : List Mark → Timestamp → Register → Type 0
IsLeft [] stamp held = ⊥
IsLeft (m ∷ ms) stamp held = ((m.reads ≡ 0) × (m.stamp ≡ stamp) × ((g : Register) → register_after m.op.action m.op.end g ≡ held)) ⊎ IsLeft ms stamp held

-- a write; or a read, which changes nothing
abbrev pub IsMark : Mark → Type 0
IsMark m = (m.reads ≡ 0) ⊎ ((m.reads ≡ 1) × ((g : Register) → register_after m.op.action m.op.end g ≡ g))

-- the timestamp that a swap expects
abbrev pub expected_by : Action → Option Timestamp
expected_by (asked.Swap key expected value) = Some expected
expected_by (asked.Put key value) = None
expected_by (asked.Get key) = None
expected_by (asked.Delete key) = None
expected_by (asked.Collect key) = None

-- the timestamp that the last write before a mark has: the one that a read found, or that a swap expects; a put or delete asks for none
unfoldable pub sought : Mark → Option Timestamp
sought m = cond (m.reads == 0) (expected_by m.op.action) (Some m.stamp)

pub sought-write : (m : Mark) → m.reads ≡ 0 → sought m ≡ expected_by m.op.action
unfolding sought
sought-write m is = rw is refl

pub sought-read : (m : Mark) → m.reads ≡ 1 → sought m ≡ Some m.stamp
unfolding sought
sought-read m is = rw is refl

-- what asks for no write tells nothing
abbrev pub IsFree : Mark → Type 0
IsFree m = sought m ≡ None → (g : Register) → TellsRegister g m.op.action m.op.end

-- what the mark seeks was left by a write of that timestamp, here or before, and is what it tells
abbrev pub Found : Timestamp → Register → List Mark → Mark → Timestamp → Type 0
Found stamp held ms r x = (h : Register) × TellsRegister h r.op.action r.op.end × (((x ≡ stamp) × (h ≡ held)) ⊎ IsLeft ms x h)

abbrev pub Finds : Timestamp → Register → List Mark → Mark → Type 0
Finds stamp held ms r = (x : Timestamp) → sought r ≡ Some x → Found stamp held ms r x

-- a write is above what it seeks
abbrev pub IsOver : Mark → Type 0
IsOver m = m.reads ≡ 0 → (x : Timestamp) → sought m ≡ Some x → stamp_lt x m.stamp ≡ true

abbrev pub IsAbove : Timestamp → Mark → Type 0
IsAbove stamp w = w.reads ≡ 0 → stamp_lt stamp w.stamp ≡ true

abbrev pub Differs : Mark → Mark → Type 0
Differs a b = a.reads ≡ 0 → b.reads ≡ 0 → a.stamp ≢ b.stamp

-- a write in front is not between what another seeks and its timestamp
abbrev pub IsClear : Mark → Mark → Type 0
IsClear a b = a.reads ≡ 0 → (x : Timestamp) → sought b ≡ Some x → stamp_lt x a.stamp ≡ true → Before a b → (b.reads ≡ 0 → a.stamp ≢ b.stamp) → ⊥

abbrev pub AreApart : List Mark → Type 0
AreApart [] = Unit {0}
AreApart (m ∷ ms) = AllByRecursion (Differs m) ms × AreApart ms

abbrev pub AreClear : List Mark → Type 0
AreClear [] = Unit {0}
AreClear (m ∷ ms) = AllByRecursion (IsClear m) ms × AreClear ms

below-behind : (a b : Mark) → stamp_lt b.stamp a.stamp ≡ true → is_behind a b ≡ true
unfolding is_behind stamp_lt
below-behind a b below = grind (arith, nat_tests)

-- a write of what a mark seeks does not stand behind it
left-behind : (m w : Mark) (x : Timestamp) → IsMark m → IsOver m → sought m ≡ Some x → w.reads ≡ 0 → w.stamp ≡ x → Before m w → ⊥
left-behind m w x (inr read) over seeks write same before =
    let one = read.0 in
    let stamp : m.stamp ≡ x = same_Some m.stamp x (sym (sought-read m read.0) ∙ seeks) in
    let parts = before-parts m w before in
    let reads = parts.reads (ap (λ (s : Timestamp). s.sn) (stamp ∙ sym same)) (ap (λ (s : Timestamp). s.cid) (stamp ∙ sym same)) in
    omega (arith, reads, one, write)
left-behind m w x (inl write_) over seeks write same before =
    under (subst (λ (y : Timestamp). stamp_lt y m.stamp ≡ true) (sym same) (over write_ x seeks))
  where
    under : stamp_lt w.stamp m.stamp ≡ true → ⊥
    under below = both_ways (is_behind m w) before (below-behind m w below)

no-write-behind : (m : Mark) (ms : List Mark) (x : Timestamp) (h : Register) → IsMark m → IsOver m → sought m ≡ Some x → AllByRecursion (Before m) ms → IsLeft ms x h → ⊥
no-write-behind m [] x h mark over seeks ordered left = left
no-write-behind m (w ∷ ms) x h mark over seeks ordered (inl is) = left-behind m w x mark over seeks is.0 is.1 ordered.0
no-write-behind m (w ∷ ms) x h mark over seeks ordered (inr later) = no-write-behind m ms x h mark over seeks ordered.1 later

-- the next write is above the last
rising : (m w : Mark) → m.reads ≡ 0 → w.reads ≡ 0 → Before m w → m.stamp ≢ w.stamp → stamp_lt m.stamp w.stamp ≡ true
unfolding stamp_lt is_behind
rising m w first second before apart =
    let parts = before-parts m w before in
    let low = parts.sn in
    elim (cases_bool (m.stamp.sn == w.stamp.sn)) [
      | inr n ↦ grind (arith, nat_tests)
      | inl e ↦
          let sn = eqb-true m.stamp.sn w.stamp.sn e in
          let c = parts.cid sn in
          elim (cases_bool (m.stamp.cid == w.stamp.cid)) [
            | inr n ↦ grind (arith, nat_tests)
            | inl f ↦
                let cid = eqb-true m.stamp.cid w.stamp.cid f in
                let pair_ : (m.stamp.sn, m.stamp.cid) ≡ (w.stamp.sn, w.stamp.cid) = cc in
                let made : ℕ × ℕ → Timestamp = λ q. record { sn = q.0; cid = q.1 } in
                absurd (apart (ap made pair_))
          ]
    ]

zero≢one : (n : ℕ) → n ≡ 0 → n ≡ 1 → ⊥
zero≢one n zero_ one = omega (arith, zero_, one)

pub all-both : {A : Type 0} (P Q R : A → Type 0) (xs : List A) → ((x : A) → P x → Q x → R x) → AllByRecursion P xs → AllByRecursion Q xs → AllByRecursion R xs
all-both P Q R [] each p q = tt
all-both P Q R (x ∷ xs) each p q = (each x p.0 q.0, all-both P Q R xs each p.1 q.1)

behind-write : (stamp : Timestamp) (held : Register) (m : Mark) (ms : List Mark) (r : Mark) (x : Timestamp) → m.reads ≡ 0 → stamp_lt stamp m.stamp ≡ true → Before m r → IsClear m r → Differs m r → sought r ≡ Some x → Found stamp held (m ∷ ms) r x → Found m.stamp (register_after m.op.action m.op.end held) ms r x
behind-write stamp held m ms r x write above before clear differs seeks found =
    elim found.2 [
      | inl now ↦ absurd (clear write x seeks (subst (λ (y : Timestamp). stamp_lt y m.stamp ≡ true) (sym now.0) above) before (λ reads. differs write reads))
      | inr left ↦ elim left [
        | inl is ↦ (found.0, found.1, inl (sym is.1, sym (is.2 held)))
        | inr later ↦ (found.0, found.1, inr later)
      ]
    ]

behind-read : (stamp : Timestamp) (held : Register) (m : Mark) (ms : List Mark) (r : Mark) (x : Timestamp) → m.reads ≡ 1 → Found stamp held (m ∷ ms) r x → Found stamp held ms r x
behind-read stamp held m ms r x read found =
    elim found.2 [
      | inl now ↦ (found.0, found.1, inl now)
      | inr left ↦ elim left [
        | inl is ↦ absurd (zero≢one m.reads is.0 read)
        | inr later ↦ (found.0, found.1, inr later)
      ]
    ]

-- a mark does not seek itself
not-itself : (m : Mark) (x : Timestamp) → IsMark m → IsOver m → sought m ≡ Some x → m.reads ≡ 0 → m.stamp ≡ x → ⊥
not-itself m x mark over seeks write same = both_ways (stamp_lt x m.stamp) (subst (λ (y : Timestamp). stamp_lt x y ≡ false) (sym same) (stamp_lt-same x)) (over write x seeks)

first-finds : (stamp : Timestamp) (held : Register) (m : Mark) (ms : List Mark) (x : Timestamp) → IsMark m → IsOver m → sought m ≡ Some x → AllByRecursion (Before m) ms → Found stamp held (m ∷ ms) m x → TellsRegister held m.op.action m.op.end
first-finds stamp held m ms x mark over seeks ordered found =
    elim found.2 [
      | inl now ↦ subst (λ (g : Register). TellsRegister g m.op.action m.op.end) now.1 found.1
      | inr left ↦ elim left [
        | inl is ↦ absurd (not-itself m x mark over seeks is.0 is.1)
        | inr later ↦ absurd (no-write-behind m ms x found.0 mark over seeks ordered later)
      ]
    ]

tells-first : (stamp : Timestamp) (held : Register) (m : Mark) (ms : List Mark) → IsMark m → IsOver m → IsFree m → AllByRecursion (Before m) ms → Finds stamp held (m ∷ ms) m → TellsRegister held m.op.action m.op.end
tells-first stamp held m ms mark over free ordered finds = by_sought (sought m) refl
  where
    by_sought : (o : Option Timestamp) → sought m ≡ o → TellsRegister held m.op.action m.op.end
    by_sought None is = free is held
    by_sought (Some x) is = first-finds stamp held m ms x mark over is ordered (finds x is)

all-pair : {A : Type 0} (P Q : A → Type 0) (xs : List A) → AllByRecursion P xs → AllByRecursion Q xs → AllByRecursion (λ x. P x × Q x) xs
all-pair P Q [] p q = tt
all-pair P Q (x ∷ xs) p q = ((p.0, q.0), all-pair P Q xs p.1 q.1)

-- marks in order: each tells the register
pub ordered-reads : (stamp : Timestamp) (held : Register) (ms : List Mark) → AllByRecursion IsMark ms → AllByRecursion IsOver ms → AllByRecursion IsFree ms → AreInOrder ms → AllByRecursion (IsAbove stamp) ms → AreApart ms → AreClear ms → AllByRecursion (Finds stamp held ms) ms → ReadsRegister held (map op_of ms)
ordered-reads stamp held [] marks over free ordered above apart clear finds = tt
ordered-reads stamp held (m ∷ ms) marks over free ordered above apart clear finds =
    elim marks.0 [
      | inl write ↦ (
        tells-first stamp held m ms marks.0 over.0 free.0 ordered.0 finds.0,
        ordered-reads m.stamp (register_after m.op.action m.op.end held) ms marks.1 over.1 free.1 ordered.1
            (all-both (Before m) (Differs m) (IsAbove m.stamp) ms (λ w before differs reads. rising m w write reads before (differs write reads)) ordered.0 apart.0) apart.1 clear.1
            (all-both (λ r. (Before m r) × (IsClear m r)) (λ r. (Differs m r) × (Finds stamp held (m ∷ ms) r)) (Finds m.stamp (register_after m.op.action m.op.end held) ms) ms
            (λ r one two x seeks. behind-write stamp held m ms r x write (above.0 write) one.0 one.1 two.0 seeks (two.1 x seeks)) (all-pair (Before m) (IsClear m) ms ordered.0 clear.0) (all-pair (Differs m) (Finds stamp held (m ∷ ms)) ms apart.0 finds.1)),
      )
      | inr read ↦ (
        tells-first stamp held m ms marks.0 over.0 free.0 ordered.0 finds.0,
        subst (λ (g : Register). ReadsRegister g (map op_of ms)) (sym (read.1 held)) (ordered-reads stamp held ms marks.1 over.1 free.1 ordered.1 above.1 apart.1 clear.1
            (all-each (Finds stamp held (m ∷ ms)) (Finds stamp held ms) ms (λ r found x seeks. behind-read stamp held m ms r x read.0 (found x seeks)) finds.1)),
      )
    ]

-- The points of runs, in the order of their steps, are an atomic log in which no operation reads twice.
use Rattle.std.proofs.Common.{◌≡◌, ℕ, zero, suc, ◌+◌, ◌-◌, ◌<◌, ◌≤◌, Bool, true, false, List, [], ◌∷◌, ◌++◌, map, take, Option, Some, None, is_some, refl, sym, ap, subst, ◌∙◌, inl, inr, arith}
use Rattle.std.specs.Prelude.{◌⊎◌, ◌&&◌}
use Rattle.std.specs.List.{AllByRecursion, slice_get}
use Rattle.std.specs.Option.{option_map_or}
use Rattle.std.proofs.lemmas.Bool.{cases_lt}
use Rattle.std.proofs.lemmas.List.{append_assoc, append-nil}
use Rattle.std.proofs.lemmas.Option.{none-some, same_Some, cond_some}
use Rattle.hy_record.specs.Key.{key_eq}
use Rattle.hy_record.specs.Stamp.{Timestamp, stamp_lt, stamp_eq, next_stamp}
use Rattle.hy_record.proofs.Order.{key_eq-true, key_eq-same, stamp_eq-same}
use Rattle.hy_points.specs.declared.point.ActKind.{ActKind}
use Rattle.hy_points.specs.declared.point.ActKind.TheVariants.{Put, Get, Delete, Swap}
use Rattle.hy_points.specs.declared.point.Point.{Point}
use Rattle.hy_points.specs.declared.point.Point.TheVariants.{Begin, Ask, Set, Try, End}
use Rattle.hy_points.specs.declared.telling.Asking.{Asking}
use Rattle.hy_points.specs.declared.telling.Setting.{Setting}
use Rattle.hy_points.specs.declared.telling.Trying.{Trying}
use Rattle.hy_points.specs.Lookups.{Beginning, beginning_at, asking_at, setting_at, trying_at, ending_at, beginning, asking, last_asking, setting, trying, ending, has_ended, is_of_key}
use Rattle.hy_points.specs.Atomic.{Continues, Fits, FitsBegin, FitsAsk, FitsSet, FitsTry, FitsEnd, IsRunning, MayEnd, IsAtomicLog, AsksAnew, AsksOnce, expects, is_met, applied_stamp, logged_stamp, writes}
use Rattle.hy_points.specs.Runs.{Reading, Writing, Trial, Run, IsPointOf, MayReturn, Raises, AreRuns}
use Rattle.hy_points.proofs.Listing.{IsIn}
use Rattle.hy_points.proofs.Places.{first-upto, front-at, at-front, begun-there, asked-there, set-there, tried-there, ended-there, continues-front, last-first}
use Rattle.hy_points.proofs.Swapping.{both-of, expecting}
use Rattle.hy_points.proofs.Courses.{eqb-same}
use Rattle.hy_points.proofs.Heights.{Le, none-le, le-both, IsApplied, height_of, above-all, from-one}

-- ---- lists

pub in-at : {A : Type 0} (xs : List A) (x : A) → IsIn xs x → (i : ℕ) × (slice_get xs i ≡ Some x)
in-at [] x is = absurd is
in-at (first ∷ others) x (inl is) = (0, ap Some is)
in-at (first ∷ others) x (inr later) = (let at = in-at others x later in (suc at.0, at.1))

pub at-in : {A : Type 0} (xs : List A) (i : ℕ) (x : A) → slice_get xs i ≡ Some x → IsIn xs x
at-in [] i x is = absurd (none-some x is)
at-in (first ∷ others) zero x is = inl (same_Some first x is)
at-in (first ∷ others) (suc i) x is = inr (at-in others i x is)

pub map-at : {A B : Type 0} (f : A → B) (xs : List A) (i : ℕ) (x : A) → slice_get xs i ≡ Some x → slice_get (map f xs) i ≡ Some (f x)
map-at f [] i x is = absurd (none-some x is)
map-at f (first ∷ others) zero x is = ap Some (ap f (same_Some first x is))
map-at f (first ∷ others) (suc i) x is = map-at f others i x is

pub of-map : {A B : Type 0} (f : A → B) (xs : List A) (i : ℕ) (y : B) → slice_get (map f xs) i ≡ Some y → (x : A) × (slice_get xs i ≡ Some x) × (f x ≡ y)
of-map f [] i y is = absurd (none-some y is)
of-map f (first ∷ others) zero y is = (first, refl, same_Some (f first) y is)
of-map f (first ∷ others) (suc i) y is = of-map f others i y is

-- what fits at each place continues
continues-at : (F : List Point → Point → Type 0) (before log : List Point) → ((i : ℕ) (q : Point) → slice_get log i ≡ Some q → F (before ++ take i log) q) → Continues F before log
continues-at F before [] fits = tt
continues-at F before (q ∷ later) fits = (
  subst (λ b. F b q) (append-nil before) (fits 0 q refl),
  continues-at F (before ++ q ∷ []) later (λ i x there. subst (λ b. F b x) (sym (append_assoc before (q ∷ []) (take i later))) (fits (suc i) x there)),
)

none-is : {A : Type 0} (o : Option A) → ((x : A) → o ≡ Some x → ⊥) → o ≡ None
none-is None never = refl
none-is (Some x) never = absurd (never x refl)

false-is : (b : Bool) → (b ≡ true → ⊥) → b ≡ false
false-is false never = refl
false-is true never = absurd (never refl)

pub some-of : {A : Type 0} (o : Option A) → is_some o ≡ true → (x : A) × (o ≡ Some x)
some-of None is = cc
some-of (Some x) is = (x, refl)

module _ {M : Type 0} (step : M → ℕ) where
  -- each step is later than all before it
  abbrev pub AreRising : List M → Type 0
  AreRising [] = Unit {0}
  AreRising (m ∷ ms) = AllByRecursion (λ (n : M). step m < step n) ms × AreRising ms

  all-at : (m : M) (ms : List M) (i : ℕ) (n : M) → AllByRecursion (λ (n : M). step m < step n) ms → slice_get ms i ≡ Some n → step m < step n
  all-at m [] i n all there = absurd (none-some n there)
  all-at m (first ∷ others) zero n all there = subst (λ (x : M). step m < step x) (same_Some first n there) all.0
  all-at m (first ∷ others) (suc i) n all there = all-at m others i n all.1 there

  pub rising-at : (ms : List M) (i j : ℕ) (m n : M) → AreRising ms → slice_get ms i ≡ Some m → slice_get ms j ≡ Some n → i < j → step m < step n
  rising-at [] i j m n rising first second less = absurd (none-some m first)
  rising-at (x ∷ xs) i zero m n rising first second less = absurd (omega (arith, less))
  rising-at (x ∷ xs) zero (suc j) m n rising first second less = subst (λ (y : M). step y < step n) (same_Some x m first) (all-at x xs j n rising.0 second)
  rising-at (x ∷ xs) (suc i) (suc j) m n rising first second less = rising-at xs i j m n rising.1 first second (omega (arith, less))

  -- what is earlier stands before
  earlier-at : (ms : List M) (i j : ℕ) (m n : M) → AreRising ms → slice_get ms i ≡ Some m → slice_get ms j ≡ Some n → step m < step n → i < j
  earlier-at ms i j m n rising first second less = elim (cases_lt i j) [
    | inl is ↦ is
    | inr past ↦ elim (cases_lt j i) [
      | inl after_ ↦ (let other = rising-at ms j i n m rising second first after_ in absurd (omega (arith, less, other)))
      | inr upto ↦ (
          let same : i ≡ j = omega (arith, past, upto) in
          let one : m ≡ n = same_Some m n (sym first ∙ ap (slice_get ms) same ∙ second) in
          let equal = ap step one in
          absurd (omega (arith, less, equal)))
    ]
  ]

-- the moments of the runs, by their steps
pub record AreMomentsOf {M : Type 0} (step : M → ℕ) (point : M → Point) (Is : Run → Type 0) (ms : List M) : Type 0 where
  pub rising : AreRising step ms
  pub tells : (m : M) → IsIn ms m → (run : Run) × Is run × IsPointOf run (step m) (point m)
  pub has : (run : Run) (n : ℕ) (q : Point) → Is run → IsPointOf run n q → (m : M) × IsIn ms m × (step m ≡ n) × (point m ≡ q)

module _ {M : Type 0} (step : M → ℕ) (point : M → Point) (Is : Run → Type 0) (record_at : List ℕ → ℕ → Timestamp) (ms : List M) (moments : AreMomentsOf step point Is ms) (runs : AreRuns record_at Is) where
  abbrev log : List Point
  log = map point ms

  module _ (i : ℕ) (m : M) (here : slice_get ms i ≡ Some m) where
    abbrev before : List Point
    before = take i log

    -- a point of a run at an earlier step stands before
    has-before : (run : Run) (n : ℕ) (q : Point) → Is run → IsPointOf run n q → n < step m → (j : ℕ) × (slice_get before j ≡ Some q)
    has-before run n q is of less =
        let x = moments.has run n q is of in
        let at = in-at ms x.0 x.1 in
        let step_is = x.2 in
        let place = earlier-at step ms at.0 i x.0 m moments.rising at.1 here (omega (arith, step_is, less)) in
        (at.0, at-front log i at.0 q place (map-at point ms at.0 x.0 at.1 ∙ ap Some x.3))

    -- what stands before is a point of a run at an earlier step
    tells-before : (j : ℕ) (q : Point) → slice_get before j ≡ Some q → (run : Run) × Is run × (n : ℕ) × IsPointOf run n q × (n < step m)
    tells-before j q there =
        let f = front-at log i j q there in
        let x = of-map point ms j q f.1 in
        let t = moments.tells x.0 (at-in ms j x.0 x.1) in
        (t.0, t.1, step x.0, subst (IsPointOf t.0 (step x.0)) x.2 t.2, rising-at step ms j i x.0 m moments.rising x.1 here f.0)

    begun-is : (op : ℕ) (b : Beginning) → beginning before op ≡ Some b → (run : Run) × Is run × (run.op ≡ op) × (b.client ≡ run.client) × (b.key ≡ run.key) × (b.act ≡ run.act) × (run.begun < step m)
    begun-is op b is =
        let t = tells-before b.place (Begin op b.client b.key b.act) (begun-there before op b is) in
        let at = t.3.4 in let less = t.4 in
        (t.0, t.1, sym t.3.0, t.3.1, t.3.2, t.3.3, omega (arith, at, less))

    asked-is : (op : ℕ) (a : Asking) → asking before op ≡ Some a → (run : Run) × Is run × (run.op ≡ op) × (r : Reading) × (run.asked ≡ Some r) × (r.step < step m) × (a.found ≡ r.found)
    asked-is op a is =
        let t = tells-before a.place (Ask op a.found) (asked-there before op a is) in
        (t.0, t.1, sym t.3.0, record { step = t.2; found = a.found }, t.3.1, t.4, refl)

    set-is : (op : ℕ) (s : Setting) → setting before op ≡ Some s → (run : Run) × Is run × (run.op ≡ op) × (w : Writing) × (run.set ≡ Some w) × (w.step < step m)
    set-is op s is =
        let t = tells-before s.place (Set op s.stamp s.is_applied) (set-there before op s is) in
        (t.0, t.1, sym t.3.0, record { step = t.2; stamp = s.stamp; is_applied = s.is_applied }, t.3.1, t.4)

    tried-is : (op : ℕ) (q : Trying) → trying before op ≡ Some q → (run : Run) × Is run × (run.op ≡ op) × (r : Trial) × (run.tried ≡ Some r) × (r.step < step m)
    tried-is op q is =
        let t = tells-before q.place (Try op q.stamp q.found) (tried-there before op q is) in
        (t.0, t.1, sym t.3.0, record { step = t.2; stamp = q.stamp; found = q.found }, t.3.1, t.4)

    ended-is : (op e : ℕ) → ending before op ≡ Some e → (run : Run) × Is run × (run.op ≡ op) × (n : ℕ) × (run.ended ≡ Some n) × (n < step m)
    ended-is op e is =
        let t = tells-before e (End op) (ended-there before op e is) in
        (t.0, t.1, sym t.3.0, t.2, t.3.1, t.4)

    begun-before : (run : Run) → Is run → run.begun < step m → (b : Beginning) × (beginning before run.op ≡ Some b) × (b.client ≡ run.client) × (b.key ≡ run.key) × (b.act ≡ run.act)
    unfolding beginning
    begun-before run is less =
        let q = Begin run.op run.client run.key run.act in
        let x = has-before run run.begun q is (refl, refl, refl, refl, refl) less in
        let self : beginning_at run.op (0 + x.0) q ≡ Some (record { place = 0 + x.0; client = run.client; key = run.key; act = run.act }) = rw (eqb-same run.op) refl in
        let f = first-upto (beginning_at run.op) 0 before x.0 q (record { place = 0 + x.0; client = run.client; key = run.key; act = run.act }) x.1 self in
        let t = begun-is run.op f.0 f.1 in
        let same : t.0 ≡ run = runs.numbers t.0 run t.1 is t.2 in
        (f.0, f.1, t.3 ∙ ap (λ (r : Run). r.client) same, t.4 ∙ ap (λ (r : Run). r.key) same, t.5 ∙ ap (λ (r : Run). r.act) same)

    asked-before : (run : Run) (r : Reading) → Is run → run.asked ≡ Some r → r.step < step m → (a : Asking) × (asking before run.op ≡ Some a) × (a.found ≡ r.found)
    unfolding asking
    asked-before run r is has less =
        let q = Ask run.op r.found in
        let x = has-before run r.step q is (refl, has) less in
        let self : asking_at run.op (0 + x.0) q ≡ Some (record { place = 0 + x.0; found = r.found }) = rw (eqb-same run.op) refl in
        let f = first-upto (asking_at run.op) 0 before x.0 q (record { place = 0 + x.0; found = r.found }) x.1 self in
        let t = asked-is run.op f.0 f.1 in
        let same : t.0 ≡ run = runs.numbers t.0 run t.1 is t.2 in
        let one : t.3 ≡ r = same_Some t.3 r (sym t.4 ∙ ap (λ (x : Run). x.asked) same ∙ has) in
        (f.0, f.1, t.6 ∙ ap (λ (x : Reading). x.found) one)

    set-before : (run : Run) (w : Writing) → Is run → run.set ≡ Some w → w.step < step m → (s : Setting) × (setting before run.op ≡ Some s)
    unfolding setting
    set-before run w is has less =
        let q = Set run.op w.stamp w.is_applied in
        let x = has-before run w.step q is (refl, has) less in
        let self : setting_at run.op (0 + x.0) q ≡ Some (record { place = 0 + x.0; stamp = w.stamp; is_applied = w.is_applied }) = rw (eqb-same run.op) refl in
        let f = first-upto (setting_at run.op) 0 before x.0 q (record { place = 0 + x.0; stamp = w.stamp; is_applied = w.is_applied }) x.1 self in
        (f.0, f.1)

    tried-before : (run : Run) (r : Trial) → Is run → run.tried ≡ Some r → r.step < step m → (q : Trying) × (trying before run.op ≡ Some q)
    unfolding trying
    tried-before run r is has less =
        let q = Try run.op r.stamp r.found in
        let x = has-before run r.step q is (refl, has) less in
        let self : trying_at run.op (0 + x.0) q ≡ Some (record { place = 0 + x.0; stamp = r.stamp; found = r.found }) = rw (eqb-same run.op) refl in
        let f = first-upto (trying_at run.op) 0 before x.0 q (record { place = 0 + x.0; stamp = r.stamp; found = r.found }) x.1 self in
        (f.0, f.1)

    ended-before : (run : Run) (n : ℕ) → Is run → run.ended ≡ Some n → n < step m → has_ended before run.op ≡ true
    unfolding ending
    ended-before run n is has less =
        let q = End run.op in
        let x = has-before run n q is (refl, has) less in
        let self : ending_at run.op (0 + x.0) q ≡ Some (0 + x.0) = rw (eqb-same run.op) refl in
        let f = first-upto (ending_at run.op) 0 before x.0 q (0 + x.0) x.1 self in
        ap is_some f.1

    -- the run has begun, and returns no sooner than now
    abbrev is-running : (run : Run) → Is run → (b : Beginning) → beginning before run.op ≡ Some b → ((n : ℕ) → run.ended ≡ Some n → step m ≤ n) → IsRunning before run.op
    is-running run is b begun open_ = record {
      begun = b;
      is_begun = begun;
      not_ended = false-is (has_ended before run.op) (λ ended. (
          let e = some-of (ending before run.op) ended in
          let t = ended-is run.op e.0 e.1 in
          let same : t.0 ≡ run = runs.numbers t.0 run t.1 is t.2 in
          let past = open_ t.3 (sym (ap (λ (x : Run). x.ended) same) ∙ t.4) in
          let soon = t.5 in
          omega (arith, past, soon)));
    }

    own-key : (key : List ℕ) (op : ℕ) → is_of_key before key op ≡ true → (b : Beginning) × (beginning before op ≡ Some b) × (b.key ≡ key)
    own-key key op is = by_begun (beginning before op) refl is
      where
        by_begun : (o : Option Beginning) → beginning before op ≡ o → option_map_or (λ (b : Beginning). key_eq b.key key) o false ≡ true → (b : Beginning) × (beginning before op ≡ Some b) × (b.key ≡ key)
        by_begun None e f = cc
        by_begun (Some b) e f = (b, e, key_eq-true b.key key f)

    -- the run of an operation of the key that began before
    own-run : (key : List ℕ) (op : ℕ) → is_of_key before key op ≡ true → (run : Run) → Is run → run.op ≡ op → (b : Beginning) × (beginning before op ≡ Some b) × (run.key ≡ key) × (b.act ≡ run.act)
    own-run key op own run is op_is =
        let b = own-key key op own in
        let k = begun-is op b.0 b.1 in
        let same : k.0 ≡ run = runs.numbers k.0 run k.1 is (k.2 ∙ sym op_is) in
        (b.0, b.1, ap (λ (r : Run). r.key) (sym same) ∙ (sym k.4 ∙ b.2), k.5 ∙ ap (λ (r : Run). r.act) same)

    -- what is applied before was made by a run of the key
    applied-raises : (key : List ℕ) (place : ℕ) (stamp : Timestamp) → IsApplied (applied_stamp before key) before place stamp → (run : Run) × Is run × (run.key ≡ key) × (n : ℕ) × Raises run n stamp × (n < step m)
    applied-raises key place stamp a = by_point a.point a.there a.picks
      where
        by_point : (q : Point) → slice_get before place ≡ Some q → applied_stamp before key q ≡ Some stamp → (run : Run) × Is run × (run.key ≡ key) × (n : ℕ) × Raises run n stamp × (n < step m)
        by_point (Begin op client k act) there picks = absurd (none-some stamp picks)
        by_point (Ask op found) there picks = absurd (none-some stamp picks)
        by_point (End op) there picks = absurd (none-some stamp picks)
        by_point (Set op s false) there picks = absurd (none-some stamp picks)
        by_point (Set op s true) there picks =
            (let c = cond_some (is_of_key before key op) s stamp picks in
            let t = tells-before place (Set op s true) there in
            let r = own-run key op c.0 t.0 t.1 (sym t.3.0) in
            (t.0, t.1, r.2, t.2, inl (t.3.1 ∙ ap (λ (x : Timestamp). Some (record { step = t.2; stamp = x; is_applied = true })) c.1), t.4))
        by_point (Try op s found) there picks =
            (let c = cond_some (is_met before op found && is_of_key before key op) s stamp picks in
            let g = both-of (is_met before op found) (is_of_key before key op) c.0 in
            let t = tells-before place (Try op s found) there in
            let r = own-run key op g.1 t.0 t.1 (sym t.3.0) in
            let act : r.0.act ≡ Swap found = expecting r.0.act found (sym (ap (λ (o : Option Beginning). option_map_or (λ (x : Beginning). expects x.act found) o false) r.1) ∙ g.0) in
            (t.0, t.1, r.2, t.2, inr (found, sym r.3 ∙ act, t.3.1 ∙ ap (λ (x : Timestamp). Some (record { step = t.2; stamp = x; found = found })) c.1), t.4))

    -- what made the record before is applied there
    raises-begun : (run : Run) → Is run → (n : ℕ) (stamp : Timestamp) → Raises run n stamp → run.begun < n
    raises-begun run is n stamp (inl set) =
        let w = runs.sets run (record { step = n; stamp = stamp; is_applied = true }) is set in
        let r = runs.reads run w.reading is w.asked in
        let begun = r.begun in let behind = r.set (record { step = n; stamp = stamp; is_applied = true }) set in
        omega (arith, begun, behind)
    raises-begun run is n stamp (inr tried) =
        let t = runs.tries run (record { step = n; stamp = stamp; found = tried.0 }) is tried.2 in
        let r = runs.reads run t.reading is t.asked in
        let begun = r.begun in let behind = r.tried (record { step = n; stamp = stamp; found = tried.0 }) tried.2 in
        omega (arith, begun, behind)

    raises-there : (key : List ℕ) (run : Run) → Is run → run.key ≡ key → (n : ℕ) (stamp : Timestamp) → n < step m → Raises run n stamp → (place : ℕ) × IsApplied (applied_stamp before key) before place stamp
    raises-there key run is of n stamp less raises = by_raises raises
      where
        after_ : run.begun < n
        after_ = raises-begun run is n stamp raises

        b : (b : Beginning) × (beginning before run.op ≡ Some b) × (b.client ≡ run.client) × (b.key ≡ run.key) × (b.act ≡ run.act)
        b = begun-before run is (let e = after_ in omega (arith, e, less))

        own : is_of_key before key run.op ≡ true
        own = ap (λ (o : Option Beginning). option_map_or (λ (b : Beginning). key_eq b.key key) o false) b.1 ∙ (ap (λ (k : List ℕ). key_eq k key) (b.3 ∙ of) ∙ key_eq-same key)

        by_raises : Raises run n stamp → (place : ℕ) × IsApplied (applied_stamp before key) before place stamp
        by_raises (inl set) =
            (let there = has-before run n (Set run.op stamp true) is (refl, set) less in
            (there.0, record { point = Set run.op stamp true; there = there.1; picks = rw own refl }))
        by_raises (inr tried) =
            (let there = has-before run n (Try run.op stamp tried.0) is (refl, tried.2) less in
            let meets : is_met before run.op tried.0 ≡ true = ap (λ (o : Option Beginning). option_map_or (λ (x : Beginning). expects x.act tried.0) o false) b.1 ∙ (ap (λ (act : ActKind). expects act tried.0) (b.4 ∙ tried.1) ∙ stamp_eq-same tried.0) in
            (there.0, record { point = Try run.op stamp tried.0; there = there.1; picks = rw (meets, own) refl }))

    -- the record is the greatest that was made before
    logged : (key : List ℕ) (n : ℕ) → n + 1 ≡ step m → logged_stamp before key ≡ record_at key n
    unfolding logged_stamp
    logged key n now = le-both (height_of (applied_stamp before key) before) (record_at key n) upto from
      where
        upto : Le (height_of (applied_stamp before key) before) (record_at key n)
        upto = elim (from-one (applied_stamp before key) before) [
          | inl none ↦ subst (λ (t : Timestamp). Le t (record_at key n)) (sym none) (none-le (record_at key n))
          | inr one ↦
              let t = applied-raises key one.0 (height_of (applied_stamp before key) before) one.1 in
              let less = t.5 in
              subst (λ (x : List ℕ). Le (height_of (applied_stamp before key) before) (record_at x n)) t.2
              (runs.low t.0 t.3 (height_of (applied_stamp before key) before) n t.1 t.4 (omega (arith, less, now)))
        ]

        from : Le (record_at key n) (height_of (applied_stamp before key) before)
        from = elim (runs.from key n) [
          | inl none ↦ subst (λ (t : Timestamp). Le t (height_of (applied_stamp before key) before)) (sym none) (none-le (height_of (applied_stamp before key) before))
          | inr raised ↦
              let within = raised.within in
              let there = raises-there key raised.run raised.is raised.key_is raised.at (record_at key n) (omega (arith, within, now)) raised.raises in
              above-all (applied_stamp before key) before there.0 (record_at key n) there.1
        ]

    begin-fits : (run : Run) → Is run → run.begun ≡ step m → (client : ℕ) → client ≡ run.client → FitsBegin before run.op client
    begin-fits run is now client of = record {
      is_new = none-is (beginning before run.op) (λ b there. (
          let t = begun-is run.op b there in
          let same = ap (λ (r : Run). r.begun) (runs.numbers t.0 run t.1 is t.2) in
          let less = t.6 in
          omega (arith, same, less, now)));
      is_free = λ other b there clients. (
          let t = begun-is other b there in
          let less = t.6 in
          let e = runs.in_turn t.0 run t.1 is (sym t.3 ∙ (clients ∙ of)) (omega (arith, less, now)) in
          let soon = e.2 in
          subst (λ (o : ℕ). has_ended before o ≡ true) t.2 (ended-before t.0 e.0 t.1 e.1 (omega (arith, soon, now))));
    }

    ask-fits : (run : Run) (found : Timestamp) → Is run → run.asked ≡ Some (record { step = step m; found = found }) → FitsAsk before run.op found
    ask-fits run found is has =
        let r = runs.reads run (record { step = step m; found = found }) is has in
        let b = begun-before run is r.begun in
        let begun = r.begun in
        record {
          runs = is-running run is b.0 b.1 (λ n ended. (let less = r.ended n ended in omega (arith, less)));
          finds = r.finds (step m - 1) (omega (arith, begun)) ∙ sym (ap (logged_stamp before) b.3 ∙ logged run.key (step m - 1) (omega (arith, begun)));
          not_set = none-is (setting before run.op) (λ s there. (
              let t = set-is run.op s there in
              let same : t.0 ≡ run = runs.numbers t.0 run t.1 is t.2 in
              let late = r.set t.3 (sym (ap (λ (x : Run). x.set) same) ∙ t.4) in
              let soon = t.5 in
              omega (arith, late, soon)));
          not_tried = none-is (trying before run.op) (λ s there. (
              let t = tried-is run.op s there in
              let same : t.0 ≡ run = runs.numbers t.0 run t.1 is t.2 in
              let late = r.tried t.3 (sym (ap (λ (x : Run). x.tried) same) ∙ t.4) in
              let soon = t.5 in
              omega (arith, late, soon)));
        }

    ask-anew : (run : Run) (found : Timestamp) → Is run → run.asked ≡ Some (record { step = step m; found = found }) → asking before run.op ≡ None
    ask-anew run found is has = none-is (asking before run.op) (λ a there. (
        let t = asked-is run.op a there in
        let same : t.0 ≡ run = runs.numbers t.0 run t.1 is t.2 in
        let one : t.3 ≡ record { step = step m; found = found } = same_Some t.3 (record { step = step m; found = found }) (sym t.4 ∙ ap (λ (x : Run). x.asked) same ∙ has) in
        let at = ap (λ (r : Reading). r.step) one in
        let soon = t.5 in
        omega (arith, at, soon)))

  log-at : (i : ℕ) (q : Point) → slice_get log i ≡ Some q → (m : M) × (slice_get ms i ≡ Some m) × (point m ≡ q)
  log-at i q there = of-map point ms i q there

  -- no operation reads twice
  pub asks-once : AsksOnce log
  unfolding AsksOnce
  asks-once = continues-at AsksAnew [] log (λ i q there. (
      let x = log-at i q there in
      let t = moments.tells x.0 (at-in ms i x.0 x.1) in
      subst (AsksAnew (take i log)) x.2 (by_point i x.0 x.1 t.0 t.1 (point x.0) t.2)))
    where
      by_point : (i : ℕ) (m : M) → slice_get ms i ≡ Some m → (run : Run) → Is run → (q : Point) → IsPointOf run (step m) q → AsksAnew (take i log) q
      by_point i m here run is (Begin op client key act) of = tt
      by_point i m here run is (Ask op found) of = subst (λ (o : ℕ). asking (take i log) o ≡ None) (sym of.0) (ask-anew i m here run found is of.1)
      by_point i m here run is (Set op stamp applied) of = tt
      by_point i m here run is (Try op stamp found) of = tt
      by_point i m here run is (End op) of = tt

  -- the last reading before a place is the first one
  last-asked : (i op : ℕ) → last_asking (take i log) op ≡ asking (take i log) op
  unfolding AsksOnce last_asking asking
  last-asked i op = last-first [] (take i log) op refl (continues-front AsksAnew [] log i asks-once)

  module _ (i : ℕ) (m : M) (here : slice_get ms i ≡ Some m) where
    set-fits : (run : Run) (stamp : Timestamp) (applied : Bool) → Is run → run.set ≡ Some (record { step = step m; stamp = stamp; is_applied = applied }) → FitsSet (take i log) run.op stamp applied
    set-fits run stamp applied is has =
        let w = runs.sets run (record { step = step m; stamp = stamp; is_applied = applied }) is has in
        let r = runs.reads run w.reading is w.asked in
        let begun = r.begun in
        let behind = r.set (record { step = step m; stamp = stamp; is_applied = applied }) has in
        let b = begun-before i m here run is (omega (arith, begun, behind)) in
        let a = asked-before i m here run w.reading is w.asked behind in
        record {
          runs = is-running i m here run is b.0 b.1 (λ n ended. (let less = w.ended n ended in omega (arith, less)));
          is_write = ap writes b.4 ∙ w.is_write;
          not_set = none-is (setting (take i log) run.op) (λ s there. (
              let t = set-is i m here run.op s there in
              let same : t.0 ≡ run = runs.numbers t.0 run t.1 is t.2 in
              let one : t.3 ≡ record { step = step m; stamp = stamp; is_applied = applied } = same_Some t.3 (record { step = step m; stamp = stamp; is_applied = applied }) (sym t.4 ∙ ap (λ (x : Run). x.set) same ∙ has) in
              let at = ap (λ (x : Writing). x.step) one in
              let soon = t.5 in
              omega (arith, at, soon)));
          ask = a.0;
          asked = last-asked i run.op ∙ a.1;
          next = ap (λ (t : Timestamp). next_stamp t b.0.client) a.2 ∙ (ap (next_stamp w.reading.found) b.2 ∙ w.next);
          applies = w.applies (step m - 1) (omega (arith, begun, behind)) ∙ sym (ap (λ (t : Timestamp). stamp_lt t stamp) (ap (logged_stamp (take i log)) b.3 ∙ logged i m here run.key (step m - 1) (omega (arith, begun, behind))));
          none_tried = λ op own. none-is (trying (take i log) op) (λ q there. (
              let t = tried-is i m here op q there in
              let o = own-run i m here b.0.key op own t.0 t.1 t.2 in
              runs.apart run t.0 (record { step = step m; stamp = stamp; is_applied = applied }) t.3 is t.1 has t.4 (sym (o.2 ∙ b.3))));
        }

    try-fits : (run : Run) (stamp found : Timestamp) → Is run → run.tried ≡ Some (record { step = step m; stamp = stamp; found = found }) → FitsTry (take i log) run.op stamp found
    try-fits run stamp found is has =
        let w = runs.tries run (record { step = step m; stamp = stamp; found = found }) is has in
        let r = runs.reads run w.reading is w.asked in
        let begun = r.begun in
        let behind = r.tried (record { step = step m; stamp = stamp; found = found }) has in
        let b = begun-before i m here run is (omega (arith, begun, behind)) in
        let a = asked-before i m here run w.reading is w.asked behind in
        record {
          runs = is-running i m here run is b.0 b.1 (λ n ended. (let less = w.ended n ended in omega (arith, less)));
          expected = w.expected;
          is_swap = b.4 ∙ w.is_swap;
          not_tried = none-is (trying (take i log) run.op) (λ s there. (
              let t = tried-is i m here run.op s there in
              let same : t.0 ≡ run = runs.numbers t.0 run t.1 is t.2 in
              let one : t.3 ≡ record { step = step m; stamp = stamp; found = found } = same_Some t.3 (record { step = step m; stamp = stamp; found = found }) (sym t.4 ∙ ap (λ (x : Run). x.tried) same ∙ has) in
              let at = ap (λ (x : Trial). x.step) one in
              let soon = t.5 in
              omega (arith, at, soon)));
          ask = a.0;
          asked = last-asked i run.op ∙ a.1;
          as_expected = a.2 ∙ w.as_expected;
          next = ap (next_stamp w.expected) b.2 ∙ w.next;
          finds = w.finds (step m - 1) (omega (arith, begun, behind)) ∙ sym (ap (logged_stamp (take i log)) b.3 ∙ logged i m here run.key (step m - 1) (omega (arith, begun, behind)));
          none_set = λ op own. none-is (setting (take i log) op) (λ q there. (
              let t = set-is i m here op q there in
              let o = own-run i m here b.0.key op own t.0 t.1 t.2 in
              runs.apart t.0 run t.3 (record { step = step m; stamp = stamp; found = found }) t.1 is t.4 has (o.2 ∙ b.3)));
        }

    end-fits : (run : Run) → Is run → run.ended ≡ Some (step m) → FitsEnd (take i log) run.op
    end-fits run is has =
        let e = runs.ends run (step m) is has in
        let b = begun-before i m here run is e.0 in
        record {
          runs = is-running i m here run is b.0 b.1 (λ n ended. (let same = same_Some (step m) n (sym has ∙ ended) in omega (arith, same)));
          may = subst (λ (act : ActKind). MayEnd (take i log) run.op b.0.client act) (sym b.4) (may run.act b.0.client b.2 e.1);
        }
      where
        asked-may : (r : Reading) → run.asked ≡ Some r → (a : Asking) × (asking (take i log) run.op ≡ Some a) × (a.found ≡ r.found)
        asked-may r asked = asked-before i m here run r is asked ((runs.reads run r is asked).ended (step m) has)

        write-may : (client : ℕ) → client ≡ run.client → ((w : Writing) × (run.set ≡ Some w)) ⊎ ((r : Reading) × (run.asked ≡ Some r) × (next_stamp r.found run.client ≡ None))
            → ((s : Setting) × (setting (take i log) run.op ≡ Some s)) ⊎ ((a : Asking) × (last_asking (take i log) run.op ≡ Some a) × (next_stamp a.found client ≡ None))
        write-may client of (inl w) = inl (set-before i m here run w.0 is w.1 ((runs.sets run w.0 is w.1).ended (step m) has))
        write-may client of (inr r) = (let a = asked-may r.0 r.1 in inr (a.0, last-asked i run.op ∙ a.1, ap (λ (t : Timestamp). next_stamp t client) a.2 ∙ (ap (next_stamp r.0.found) of ∙ r.2)))

        may : (act : ActKind) (client : ℕ) → client ≡ run.client → MayReturn run act → MayEnd (take i log) run.op client act
        may Get client of returns = (let a = asked-may returns.0 returns.1 in (a.0, a.1))
        may Put client of returns = write-may client of returns
        may Delete client of returns = write-may client of returns
        may (Swap expected) client of (inl t) = inl (tried-before i m here run t.0 is t.1 ((runs.tries run t.0 is t.1).ended (step m) has))
        may (Swap expected) client of (inr r) =
            (let a = asked-may r.0 r.1 in
            inr (
              a.0,
              last-asked i run.op ∙ a.1,
              elim r.2 [
                | inl other ↦ inl (ap (stamp_eq expected) a.2 ∙ other)
                | inr none ↦ inr (ap (λ (t : Timestamp). next_stamp t client) a.2 ∙ (ap (next_stamp r.0.found) of ∙ none))
              ],
            ))

    point-fits : (run : Run) → Is run → (q : Point) → IsPointOf run (step m) q → Fits (take i log) q
    point-fits run is (Begin op client key act) of = subst (λ (o : ℕ). FitsBegin (take i log) o client) (sym of.0) (begin-fits i m here run is (sym of.4) client of.1)
    point-fits run is (Ask op found) of = subst (λ (o : ℕ). FitsAsk (take i log) o found) (sym of.0) (ask-fits i m here run found is of.1)
    point-fits run is (Set op stamp applied) of = subst (λ (o : ℕ). FitsSet (take i log) o stamp applied) (sym of.0) (set-fits run stamp applied is of.1)
    point-fits run is (Try op stamp found) of = subst (λ (o : ℕ). FitsTry (take i log) o stamp found) (sym of.0) (try-fits run stamp found is of.1)
    point-fits run is (End op) of = subst (λ (o : ℕ). FitsEnd (take i log) o) (sym of.0) (end-fits run is of.1)

  -- the log is atomic
  pub is-atomic : IsAtomicLog log
  unfolding IsAtomicLog
  is-atomic = continues-at Fits [] log (λ i q there. (
      let x = log-at i q there in
      let t = moments.tells x.0 (at-in ms i x.0 x.1) in
      subst (Fits (take i log)) x.2 (point-fits i x.0 x.1 t.0 t.1 (point x.0) t.2)))

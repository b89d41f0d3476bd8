-- The order of a key by the points of runs lists the runs by timestamp.
use Rattle.std.proofs.Common.{◌≡◌, ℕ, ◌+◌, ◌≤◌, Bool, true, false, List, [], ◌∷◌, map, Option, Some, None, is_some, refl, sym, ap, subst, ◌∙◌, inl, inr, arith}
use Rattle.std.specs.Prelude.{◌⊎◌, ◌||◌, ◌&&◌, not, if◌then◌else◌}
use Rattle.std.specs.List.{AllByRecursion, slice_get}
use Rattle.std.specs.Option.{option_map_or}
use Rattle.std.proofs.lemmas.Bool.{both_ways, cases_lt}
use Rattle.std.proofs.lemmas.Option.{none-some, same_Some}
use Rattle.hy_record.specs.Key.{key_eq}
use Rattle.hy_record.specs.Stamp.{Timestamp, stamp_lt, stamp_eq}
use Rattle.hy_record.proofs.Order.{key_eq-same, stamp_eq-true, stamp_eq-same}
use Rattle.hy_points.specs.declared.mark.Mark.{Mark}
use Rattle.hy_points.specs.declared.point.ActKind.{ActKind}
use Rattle.hy_points.specs.declared.point.ActKind.TheVariants.{Put, Get, Delete, Swap}
use Rattle.hy_points.specs.declared.point.Point.{Point}
use Rattle.hy_points.specs.declared.point.Point.TheVariants.{Begin, Ask, Set, Try, End}
use Rattle.hy_points.specs.declared.telling.Asking.{Asking}
use Rattle.hy_points.specs.declared.telling.Setting.{Setting}
use Rattle.hy_points.specs.declared.telling.Trying.{Trying}
use Rattle.hy_points.specs.Lookups.{Beginning, beginning, asking, setting, trying, asking_at, ending_at, ending, has_ended}
use Rattle.hy_points.specs.Atomic.{IsAtomicLog, AsksOnce, no_stamp, writes}
use Rattle.hy_points.specs.Marks.{moment_cmp, sorted_by, marks_of, op_of, linearization_of}
use Rattle.hy_points.specs.Orders.{took_effect, has_swapped, found_another, is_listed, IsListed}
use Rattle.hy_points.specs.Runs.{Reading, Writing, Trial, Run, IsPointOf, AreRuns}
use Rattle.hy_points.proofs.ByMoment.{stamp_of, reads_of, place_of}
use Rattle.hy_points.proofs.Swapping.{swap-same, IsSwapped, HasRead, Wrote}
use Rattle.hy_points.proofs.Courses.{Writes, eqb-same, only-begun, only-set, only-tried}
use Rattle.hy_points.proofs.Heights.{le-both}
use Rattle.hy_points.proofs.InOrder.{MayPrecede, AreByStamp}
use Rattle.hy_points.proofs.Listing.{IsIn, AllPairs, all-map}
use Rattle.hy_points.proofs.LogLaw as law
use Rattle.hy_points.proofs.OneOrder.{all-of, one-order}
use Rattle.hy_points.proofs.Places.{first-upto, begun-there, asked-there, set-there, tried-there, ended-there}
use Rattle.hy_points.proofs.Placing.{IsMarkOf, IsReadMark, IsWriteMark, written, apart}
use Rattle.hy_points.proofs.RunLog.{AreMomentsOf, in-at, at-in, map-at, of-map, some-of, rising-at, is-atomic, asks-once}
use Rattle.hy_points.proofs.Sorting.{all-each}

-- a run writes: a put, a delete, or a swap that found what it expects when it tried
abbrev pub writes_by : ActKind → Option Trial → Bool
writes_by Put tried = true
writes_by Delete tried = true
writes_by Get tried = false
writes_by (Swap expected) None = false
writes_by (Swap expected) (Some t) = stamp_eq expected t.found

-- where it read what it tells: at its try, else at its reading
abbrev pub deciding : Option Reading → Option Trial → Option Reading
deciding asked None = asked
deciding asked (Some t) = Some (record { step = t.step; found = t.found })

abbrev pub found_by : Option Reading → Timestamp
found_by asked = option_map_or (λ (r : Reading). r.found) asked no_stamp

abbrev pub written_by : Option Writing → Option Trial → Timestamp
written_by set tried = option_map_or (λ (w : Writing). w.stamp) set (option_map_or (λ (t : Trial). t.stamp) tried no_stamp)

-- the timestamp that a run wrote or found
abbrev pub run_stamp : Run → Timestamp
run_stamp run = if writes_by run.act run.tried then written_by run.set run.tried else found_by (deciding run.asked run.tried)

-- it reads
abbrev pub run_reads : Run → Bool
run_reads run = not (writes_by run.act run.tried)

-- the step of its reading
abbrev pub run_rank : Run → ℕ
run_rank run = option_map_or (λ (r : Reading). r.step) (deciding run.asked run.tried) 0

-- a get that returned, or a swap that returned and found what it does not expect
pub record IsListedRead (run : Run) : Type 0 where
  pub reads : run_reads run ≡ true
  pub reading : Reading
  pub decided : deciding run.asked run.tried ≡ Some reading
  pub other : (expected : Timestamp) → run.act ≡ Swap expected → stamp_eq expected reading.found ≡ false
  pub end : ℕ
  pub ended : run.ended ≡ Some end

-- the run wrote so: by its writing, or by its try
abbrev pub WroteBy : Run → Writing → Type 0
WroteBy run w = (run.set ≡ Some w) ⊎ ((t : Trial) × (run.set ≡ None) × (run.tried ≡ Some t) × (w ≡ record { step = t.step; stamp = t.stamp; is_applied = true }))

-- a put or delete that has written, and whose writing was applied, or that returned; or a swap that was applied
pub record IsListedWrite (run : Run) : Type 0 where
  pub writes : writes_by run.act run.tried ≡ true
  pub writing : Writing
  pub wrote : WroteBy run writing
  pub took : (writing.is_applied ≡ true) ⊎ ((end : ℕ) × (run.ended ≡ Some end))

-- a run of this number that an order of the key lists
pub record IsListedRun (Is : Run → Type 0) (key : List ℕ) (number : ℕ) : Type 0 where
  pub run : Run
  pub is : Is run
  pub key_is : run.key ≡ key
  pub number_is : run.op ≡ number
  pub sort : IsListedRead run ⊎ IsListedWrite run

-- of two runs of the key, the first stands before the second by timestamp
pub record Precedes (Is : Run → Type 0) (key : List ℕ) (m n : ℕ) : Type 0 where
  pub first : IsListedRun Is key m
  pub second : IsListedRun Is key n
  pub other : m ≡ n → ⊥
  pub may : MayPrecede run_stamp run_reads run_rank first.run second.run

not-true : (b : Bool) → not b ≡ true → b ≡ false
not-true false is = refl
not-true true is = cc

module _ (run : Run) where
  pub read-stamp : (r : IsListedRead run) → run_stamp run ≡ r.reading.found
  read-stamp r =
      ap (λ (b : Bool). if b then written_by run.set run.tried else found_by (deciding run.asked run.tried)) (not-true (writes_by run.act run.tried) r.reads)
      ∙ ap found_by r.decided

  pub read-reads : IsListedRead run → run_reads run ≡ true
  read-reads r = r.reads

  pub read-rank : (r : IsListedRead run) → run_rank run ≡ r.reading.step
  read-rank r = ap (λ (o : Option Reading). option_map_or (λ (x : Reading). x.step) o 0) r.decided

  pub write-stamp : (w : IsListedWrite run) → run_stamp run ≡ w.writing.stamp
  write-stamp w =
      ap (λ (b : Bool). if b then written_by run.set run.tried else found_by (deciding run.asked run.tried)) w.writes
      ∙ elim w.wrote [
        | inl set ↦ ap (λ (o : Option Writing). written_by o run.tried) set
        | inr tried ↦ ap (λ (o : Option Writing). written_by o run.tried) tried.1 ∙ (ap (written_by None) tried.2 ∙ sym (ap (λ (x : Writing). x.stamp) tried.3))
      ]

  pub write-reads : IsListedWrite run → run_reads run ≡ false
  write-reads w = ap not w.writes

module _ {M : Type 0} (step : M → ℕ) (point : M → Point) (Is : Run → Type 0) (record_at : List ℕ → ℕ → Timestamp) (ms : List M) (moments : AreMomentsOf step point Is ms) (runs : AreRuns record_at Is) where
  abbrev log : List Point
  log = map point ms

  atomic : IsAtomicLog log
  atomic = is-atomic step point Is record_at ms moments runs

  once : AsksOnce log
  once = asks-once step point Is record_at ms moments runs

  -- ---- points of runs

  -- a point of a run, by its place
  record PointAt (place : ℕ) (q : Point) : Type 0 where
    moment : M
    there : slice_get ms place ≡ Some moment
    run : Run
    is : Is run
    of : IsPointOf run (step moment) q

  -- what stands at a place is a point of a run
  point-at : (place : ℕ) (q : Point) → slice_get log place ≡ Some q → PointAt place q
  point-at place q there =
      let x = of-map point ms place q there in
      let t = moments.tells x.0 (at-in ms place x.0 x.1) in
      record { moment = x.0; there = x.1; run = t.0; is = t.1; of = subst (IsPointOf t.0 (step x.0)) x.2 t.2 }

  -- a point of a run stands at a place
  place-at : (run : Run) (n : ℕ) (q : Point) → Is run → IsPointOf run n q → (place : ℕ) × (slice_get log place ≡ Some q)
  place-at run n q is of =
      let x = moments.has run n q is of in
      let at = in-at ms x.0 x.1 in
      (at.0, map-at point ms at.0 x.0 at.1 ∙ ap Some x.3)

  -- moments of one step are one
  one-moment : (i j : ℕ) (m n : M) → slice_get ms i ≡ Some m → slice_get ms j ≡ Some n → step m ≡ step n → m ≡ n
  one-moment i j m n first second same = elim (cases_lt i j) [
    | inl less ↦ (let rises = rising-at step ms i j m n moments.rising first second less in absurd (omega (arith, same, rises)))
    | inr past ↦ elim (cases_lt j i) [
      | inl less ↦ (let rises = rising-at step ms j i n m moments.rising second first less in absurd (omega (arith, same, rises)))
      | inr upto ↦ (let e : i ≡ j = omega (arith, past, upto) in same_Some m n (sym first ∙ ap (slice_get ms) e ∙ second))
    ]
  ]

  ended-run : (run : Run) → Is run → has_ended log run.op ≡ true → (end : ℕ) × (run.ended ≡ Some end)
  ended-run run is ended =
      let e = some-of (ending log run.op) ended in
      let x = point-at e.0 (End run.op) (ended-there log run.op e.0 e.1) in
      let same : x.run ≡ run = runs.numbers x.run run x.is is (sym x.of.0) in
      (step x.moment, sym (ap (λ (r : Run). r.ended) same) ∙ x.of.1)

  run-ended : (run : Run) (end : ℕ) → Is run → run.ended ≡ Some end → has_ended log run.op ≡ true
  unfolding ending
  run-ended run end is ended =
      let at = place-at run end (End run.op) is (refl, ended) in
      let self : ending_at run.op (0 + at.0) (End run.op) ≡ Some (0 + at.0) = rw (eqb-same run.op) refl in
      ap is_some (first-upto (ending_at run.op) 0 log at.0 (End run.op) (0 + at.0) at.1 self).1

  -- the beginning of a run, and its writing
  abbrev began : Run → ℕ → Beginning
  began run place = record { place = place; client = run.client; key = run.key; act = run.act }

  run-begun : (run : Run) → Is run → (place : ℕ) × (beginning log run.op ≡ Some (began run place))
  run-begun run is =
      let at = place-at run run.begun (Begin run.op run.client run.key run.act) is (refl, refl, refl, refl, refl) in
      (at.0, only-begun log atomic at.0 run.op run.client run.key run.act at.1)

  run-set : (run : Run) (w : Writing) → Is run → run.set ≡ Some w → (place : ℕ) × (setting log run.op ≡ Some (record { place = place; stamp = w.stamp; is_applied = w.is_applied }))
  run-set run w is set =
      let at = place-at run w.step (Set run.op w.stamp w.is_applied) is (refl, set) in
      (at.0, only-set log atomic at.0 run.op w.stamp w.is_applied at.1)

  run-tried : (run : Run) (r : Trial) → Is run → run.tried ≡ Some r → (place : ℕ) × (trying log run.op ≡ Some (record { place = place; stamp = r.stamp; found = r.found }))
  run-tried run r is tried =
      let at = place-at run r.step (Try run.op r.stamp r.found) is (refl, tried) in
      (at.0, only-tried log atomic at.0 run.op r.stamp r.found at.1)

  run-asked : (run : Run) (r : Reading) → Is run → run.asked ≡ Some r → (a : Asking) × (asking log run.op ≡ Some a) × (a.found ≡ r.found)
  unfolding asking
  run-asked run r is has =
      let at = place-at run r.step (Ask run.op r.found) is (refl, has) in
      let self : asking_at run.op (0 + at.0) (Ask run.op r.found) ≡ Some (record { place = 0 + at.0; found = r.found }) = rw (eqb-same run.op) refl in
      let f = first-upto (asking_at run.op) 0 log at.0 (Ask run.op r.found) (record { place = 0 + at.0; found = r.found }) at.1 self in
      let a = point-at f.0.place (Ask run.op f.0.found) (asked-there log run.op f.0 f.1) in
      let same : a.run ≡ run = runs.numbers a.run run a.is is (sym a.of.0) in
      (f.0, f.1, ap (λ (x : Reading). x.found) (same_Some (record { step = step a.moment; found = f.0.found }) r (sym a.of.1 ∙ ap (λ (x : Run). x.asked) same ∙ has)))

  -- a run without a try has none in the log, and the other way
  none-tried : (run : Run) → Is run → run.tried ≡ None → trying log run.op ≡ None
  none-tried run is none = by_try (trying log run.op) refl
    where
      by_try : (o : Option Trying) → trying log run.op ≡ o → o ≡ None
      by_try None e = refl
      by_try (Some q) e =
          (let x = point-at q.place (Try run.op q.stamp q.found) (tried-there log run.op q e) in
          let same : x.run ≡ run = runs.numbers x.run run x.is is (sym x.of.0) in
          absurd (none-some (record { step = step x.moment; stamp = q.stamp; found = q.found }) (sym none ∙ (ap (λ (r : Run). r.tried) (sym same) ∙ x.of.1))))

  tried-none : (run : Run) → Is run → trying log run.op ≡ None → run.tried ≡ None
  tried-none run is none = by_try run.tried refl
    where
      by_try : (o : Option Trial) → run.tried ≡ o → o ≡ None
      by_try None e = refl
      by_try (Some r) e = (let x = run-tried run r is e in absurd (none-some (record { place = x.0; stamp = r.stamp; found = r.found }) (sym none ∙ x.1)))

  -- only swaps try, and only puts and deletes write
  act-tried : (run : Run) → Is run → ((expected : Timestamp) → run.act ≡ Swap expected → ⊥) → run.tried ≡ None
  act-tried run is other = by_try run.tried refl
    where
      by_try : (o : Option Trial) → run.tried ≡ o → o ≡ None
      by_try None e = refl
      by_try (Some r) e = (let t = runs.tries run r is e in absurd (other t.expected t.is_swap))

  act-set : (run : Run) → Is run → (expected : Timestamp) → run.act ≡ Swap expected → run.set ≡ None
  act-set run is expected kind = by_set run.set refl
    where
      by_set : (o : Option Writing) → run.set ≡ o → o ≡ None
      by_set None e = refl
      by_set (Some w) e = (let f : writes (Swap expected) ≡ true = ap writes (sym kind) ∙ (runs.sets run w is e).is_write in cc)

  module _ (key : List ℕ) where
    -- ---- a mark is that of a run

    record IsMarkRun (m : Mark) : Type 0 where
      listed : IsListedRun Is key m.op
      stamp : run_stamp listed.run ≡ m.stamp
      reads : run_reads listed.run ≡ m.reads
      rank : m.reads ≡ true → (x : M) × (slice_get ms m.place ≡ Some x) × (step x ≡ run_rank listed.run)

    -- a run that read, and the moment at which it did
    record HasRun (m : Mark) (begun : Beginning) (run : Run) (ask : Asking) : Type 0 where
      moment : M
      there : slice_get ms ask.place ≡ Some moment
      reads : run_reads run ≡ true
      decided : deciding run.asked run.tried ≡ Some (record { step = step moment; found = ask.found })
      other : (expected : Timestamp) → run.act ≡ Swap expected → stamp_eq expected ask.found ≡ false

    by-read : (m : Mark) (begun : Beginning) (run : Run) → Is run → run.op ≡ m.op → run.act ≡ begun.act → (ask : Asking) → HasRead log m.op begun.act ask → HasRun m begun run ask
    by-read m begun run is op_is act_is ask (inl get) =
        let a = point-at ask.place (Ask m.op ask.found) (asked-there log m.op ask get.1) in
        let same : a.run ≡ run = runs.numbers a.run run a.is is (sym a.of.0 ∙ sym op_is) in
        let act : run.act ≡ Get = act_is ∙ get.0 in
        let none : run.tried ≡ None = act-tried run is (λ expected e. differ expected (sym act ∙ e)) in
        record {
          moment = a.moment;
          there = a.there;
          reads = ap (λ (x : ActKind). not (writes_by x run.tried)) act;
          decided = ap (deciding run.asked) none ∙ (sym (ap (λ (x : Run). x.asked) same) ∙ a.of.1);
          other = λ expected e. absurd (differ expected (sym act ∙ e));
        }
      where
        differ : (expected : Timestamp) → Get ≡ Swap expected → ⊥
        differ expected e = cc
    by-read m begun run is op_is act_is ask (inr (inl by)) =
        let a = point-at ask.place (Ask m.op ask.found) (asked-there log m.op ask by.asked) in
        let same : a.run ≡ run = runs.numbers a.run run a.is is (sym a.of.0 ∙ sym op_is) in
        let act : run.act ≡ Swap by.expected = act_is ∙ by.kind in
        let none : run.tried ≡ None = tried-none run is (ap (trying log) op_is ∙ by.none) in
        record {
          moment = a.moment;
          there = a.there;
          reads = ap (λ (x : ActKind). not (writes_by x run.tried)) act ∙ ap (λ (o : Option Trial). not (writes_by (Swap by.expected) o)) none;
          decided = ap (deciding run.asked) none ∙ (sym (ap (λ (x : Run). x.asked) same) ∙ a.of.1);
          other = λ expected e. ap (λ (x : Timestamp). stamp_eq x ask.found) (swap-same (sym e ∙ act)) ∙ by.other;
        }
    by-read m begun run is op_is act_is ask (inr (inr by)) =
        let a = point-at by.tried.place (Try m.op by.tried.stamp by.tried.found) (tried-there log m.op by.tried by.has) in
        let same : a.run ≡ run = runs.numbers a.run run a.is is (sym a.of.0 ∙ sym op_is) in
        let act : run.act ≡ Swap by.expected = act_is ∙ by.kind in
        let tried : run.tried ≡ Some (record { step = step a.moment; stamp = by.tried.stamp; found = by.tried.found }) = sym (ap (λ (x : Run). x.tried) same) ∙ a.of.1 in
        record {
          moment = a.moment;
          there = ap (λ (x : Asking). slice_get ms x.place) by.is ∙ a.there;
          reads = ap (λ (x : ActKind). not (writes_by x run.tried)) act ∙ (ap (λ (o : Option Trial). not (writes_by (Swap by.expected) o)) tried ∙ ap not by.other);
          decided = ap (deciding run.asked) tried ∙ ap (λ (x : Asking). Some (record { step = step a.moment; found = x.found })) (sym by.is);
          other = λ expected e. ap (λ (x : Timestamp). stamp_eq x ask.found) (swap-same (sym e ∙ act)) ∙ (ap (λ (x : Asking). stamp_eq by.expected x.found) by.is ∙ by.other);
        }

    read-run : (m : Mark) (begun : Beginning) (run : Run) → Is run → run.op ≡ m.op → run.key ≡ key → run.act ≡ begun.act → IsReadMark log begun m → IsMarkRun m
    read-run m begun run is op_is key_is act_is read =
        let a = by-read m begun run is op_is act_is read.ask read.by in
        let e = ended-run run is (ap (has_ended log) op_is ∙ read.ended) in
        let r : IsListedRead run = record { reads = a.reads; reading = record { step = step a.moment; found = read.ask.found }; decided = a.decided; other = a.other; end = e.0; ended = e.1 } in
        record {
          listed = record { run = run; is = is; key_is = key_is; number_is = op_is; sort = inl r };
          stamp = read-stamp run r ∙ sym (law.read-stamp log key begun m read);
          reads = read-reads run r ∙ sym (law.read-reads log key begun m read);
          rank = λ reads. (a.moment, ap (slice_get ms) (law.read-place log key begun m read) ∙ a.there, sym (read-rank run r));
        }

    -- a run that wrote
    record HasWritten (run : Run) (set : Setting) : Type 0 where
      writes : writes_by run.act run.tried ≡ true
      at : ℕ
      wrote : WroteBy run (record { step = at; stamp = set.stamp; is_applied = set.is_applied })

    by-write : (op : ℕ) (act : ActKind) (run : Run) → Is run → run.op ≡ op → run.act ≡ act → (set : Setting) → Wrote log op act set → HasWritten run set
    by-write op act run is op_is act_is set (inl by) =
        let s = point-at set.place (Set op set.stamp set.is_applied) (set-there log op set by.1) in
        let same : s.run ≡ run = runs.numbers s.run run s.is is (sym s.of.0 ∙ sym op_is) in
        record { writes = by_act run.act (ap writes act_is ∙ by.0); at = step s.moment; wrote = inl (sym (ap (λ (x : Run). x.set) same) ∙ s.of.1) }
      where
        by_act : (act : ActKind) → writes act ≡ true → writes_by act run.tried ≡ true
        by_act Put is = refl
        by_act Delete is = refl
        by_act Get is = cc
        by_act (Swap expected) is = cc
    by-write op act run is op_is act_is set (inr by) =
        let s = point-at by.tried.place (Try op by.tried.stamp by.tried.found) (tried-there log op by.tried by.has) in
        let same : s.run ≡ run = runs.numbers s.run run s.is is (sym s.of.0 ∙ sym op_is) in
        let t : Trial = record { step = step s.moment; stamp = by.tried.stamp; found = by.tried.found } in
        let tried : run.tried ≡ Some t = sym (ap (λ (x : Run). x.tried) same) ∙ s.of.1 in
        let kind : run.act ≡ Swap by.tried.found = act_is ∙ by.kind in
        record {
          writes = ap (λ (x : ActKind). writes_by x run.tried) kind ∙ (ap (writes_by (Swap by.tried.found)) tried ∙ stamp_eq-same by.tried.found);
          at = step s.moment;
          wrote = inr (t, act-set run is by.tried.found kind, tried, ap (λ (x : Setting). record { step = step s.moment; stamp = x.stamp; is_applied = x.is_applied }) by.is);
        }

    write-run : (m : Mark) (begun : Beginning) (run : Run) → Is run → run.op ≡ m.op → run.key ≡ key → run.act ≡ begun.act → IsWriteMark log key begun m → IsMarkRun m
    write-run m begun run is op_is key_is act_is write =
        let a = by-write m.op begun.act run is op_is act_is write.set write.by in
        let w : IsListedWrite run = record {
          writes = a.writes;
          writing = record { step = a.at; stamp = write.set.stamp; is_applied = write.set.is_applied };
          wrote = a.wrote;
          took = elim write.is [ inl applied ↦ inl applied.0 | inr refused ↦ inr (ended-run run is (ap (has_ended log) op_is ∙ refused.1)) ];
        } in
        record {
          listed = record { run = run; is = is; key_is = key_is; number_is = op_is; sort = inr w };
          stamp = write-stamp run w ∙ sym (law.write-stamp log key begun m write);
          reads = write-reads run w ∙ sym (law.write-reads log key begun m write);
          rank = λ reads. absurd (both_ways m.reads (law.write-reads log key begun m write) reads);
        }

    mark-run : (m : Mark) → IsMarkOf log key m → IsMarkRun m
    mark-run m of =
        let b = point-at of.begun.place (Begin m.op of.begun.client of.begun.key of.begun.act) (begun-there log m.op of.begun of.is_begun) in
        let key_is : b.run.key ≡ key = sym b.of.2 ∙ of.of_key in
        elim of.sort [
          | inl read ↦ read-run m of.begun b.run b.is (sym b.of.0) key_is (sym b.of.3) read
          | inr write ↦ write-run m of.begun b.run b.is (sym b.of.0) key_is (sym b.of.3) write
        ]

    -- ---- the marks in order are those of runs in order

    mark-precedes : (x y : Mark) → IsMarkOf log key x → IsMarkOf log key y → MayPrecede stamp_of reads_of place_of x y → (x.op ≡ y.op → ⊥) → Precedes Is key x.op y.op
    mark-precedes x y first second may other =
        let a = mark-run x first in
        let b = mark-run y second in
        record {
          first = a.listed;
          second = b.listed;
          other = other;
          may = record {
            stamps = ap (λ (s : Timestamp). stamp_lt s (run_stamp a.listed.run)) b.stamp ∙ (ap (stamp_lt y.stamp) a.stamp ∙ may.stamps);
            kinds = λ same reads. b.reads ∙ may.kinds (sym a.stamp ∙ (same ∙ b.stamp)) (sym a.reads ∙ reads);
            ranks = λ same reads too. (
                let p = a.rank (sym a.reads ∙ reads) in
                let q = b.rank (sym b.reads ∙ too) in
                let upto = may.ranks (sym a.stamp ∙ (same ∙ b.stamp)) (sym a.reads ∙ reads) (sym b.reads ∙ too) in
                let rises = steps-rise x.place y.place p.0 q.0 p.1 q.1 upto in
                let here = p.2 in let there = q.2 in
                omega (arith, rises, here, there));
          };
        }
      where
        steps-rise : (i j : ℕ) (m n : M) → slice_get ms i ≡ Some m → slice_get ms j ≡ Some n → i ≤ j → step m ≤ step n
        steps-rise i j m n first second upto = elim (cases_lt i j) [
          | inl less ↦ (let rises = rising-at step ms i j m n moments.rising first second less in omega (arith, rises))
          | inr past ↦ (let e : i ≡ j = omega (arith, past, upto) in let same = ap step (same_Some m n (sym first ∙ ap (slice_get ms) e ∙ second)) in omega (arith, same))
        ]

    marks-precede : (xs : List Mark) → AllByRecursion (IsMarkOf log key) xs → AreByStamp stamp_of reads_of place_of xs → AllPairs (λ (x y : Mark). x.op ≡ y.op → ⊥) xs → AllPairs (Precedes Is key) (map op_of xs)
    marks-precede [] are ordered others = tt
    marks-precede (x ∷ xs) are ordered others = (each xs are.1 ordered.0 others.0, marks-precede xs are.1 ordered.1 others.1)
      where
        each : (ys : List Mark) → AllByRecursion (IsMarkOf log key) ys → AllByRecursion (MayPrecede stamp_of reads_of place_of x) ys → AllByRecursion (λ (y : Mark). x.op ≡ y.op → ⊥) ys → AllByRecursion (Precedes Is key x.op) (map op_of ys)
        each [] marks mays differ = tt
        each (y ∷ ys) marks mays differ = (mark-precedes x y are.0 marks.0 mays.0 differ.0, each ys marks.1 mays.1 differ.1)

    -- ---- a run that is listed has a mark

    or-true : (a b : Bool) → b ≡ true → (a || b) ≡ true
    or-true true b is = refl
    or-true false b is = is

    run-listed : (number : ℕ) → IsListedRun Is key number → IsListed log key number
    run-listed number r =
        let b = run-begun r.run r.is in
        record {
          begun = began r.run b.0;
          is_begun = ap (beginning log) (sym r.number_is) ∙ b.1;
          is_of = ap (λ (k : List ℕ). key_eq k key) r.key_is ∙ key_eq-same key;
          is_listed = subst (λ (n : ℕ). is_listed log n r.run.act ≡ true) r.number_is (elim r.sort [
            | inl read ↦ by_read read r.run.act refl
            | inr write ↦ by_wrote write write.wrote
          ]);
        }
      where
        took : (applied : Bool) → (applied ≡ true) ⊎ ((end : ℕ) × (r.run.ended ≡ Some end)) → (applied || has_ended log r.run.op) ≡ true
        took applied (inl is) = ap (λ (a : Bool). a || has_ended log r.run.op) is
        took applied (inr ended) = or-true applied (has_ended log r.run.op) (run-ended r.run ended.0 r.is ended.1)

        by_act : (act : ActKind) → writes act ≡ true → took_effect (has_ended log r.run.op) (setting log r.run.op) ≡ true → is_listed log r.run.op act ≡ true
        by_act Put is e = e
        by_act Delete is e = e
        by_act Get is e = cc
        by_act (Swap expected) is e = cc

        by_tried : (read : IsListedRead r.run) (expected : Timestamp) → r.run.act ≡ Swap expected → (o : Option Trial) → r.run.tried ≡ o → found_another expected (asking log r.run.op) (trying log r.run.op) ≡ true
        by_tried read expected kind None none =
            (let a = run-asked r.run read.reading r.is (sym (ap (deciding r.run.asked) none) ∙ read.decided) in
            ap (found_another expected (asking log r.run.op)) (none-tried r.run r.is none)
            ∙ (ap (λ (o : Option Asking). found_another expected o None) a.1 ∙ ap not (ap (stamp_eq expected) a.2 ∙ read.other expected kind)))
        by_tried read expected kind (Some t) tried =
            (let q = run-tried r.run t r.is tried in
            let same = ap (λ (x : Reading). x.found) (same_Some (record { step = t.step; found = t.found }) read.reading (sym (ap (deciding r.run.asked) tried) ∙ read.decided)) in
            ap (found_another expected (asking log r.run.op)) q.1 ∙ ap not (ap (stamp_eq expected) same ∙ read.other expected kind))

        by_read : (read : IsListedRead r.run) → (act : ActKind) → r.run.act ≡ act → is_listed log r.run.op act ≡ true
        by_read read Get kind = run-ended r.run read.end r.is read.ended
        by_read read Put kind = absurd (both_ways (run_reads r.run) (ap (λ (x : ActKind). not (writes_by x r.run.tried)) kind) read.reads)
        by_read read Delete kind = absurd (both_ways (run_reads r.run) (ap (λ (x : ActKind). not (writes_by x r.run.tried)) kind) read.reads)
        by_read read (Swap expected) kind =
            or-true (has_swapped expected (trying log r.run.op)) _
            (ap (λ (b : Bool). b && found_another expected (asking log r.run.op) (trying log r.run.op)) (run-ended r.run read.end r.is read.ended) ∙ by_tried read expected kind r.run.tried refl)

        by_wrote : (write : IsListedWrite r.run) → WroteBy r.run write.writing → is_listed log r.run.op r.run.act ≡ true
        by_wrote write (inl set) =
            by_act r.run.act (runs.sets r.run write.writing r.is set).is_write (ap (took_effect (has_ended log r.run.op)) (run-set r.run write.writing r.is set).1 ∙ took write.writing.is_applied write.took)
        by_wrote write (inr tried) =
            (let t = runs.tries r.run tried.0 r.is tried.2 in
            let q = run-tried r.run tried.0 r.is tried.2 in
            let met : stamp_eq t.expected tried.0.found ≡ true = sym (ap (λ (x : ActKind). writes_by x r.run.tried) t.is_swap ∙ ap (writes_by (Swap t.expected)) tried.2) ∙ write.writes in
            ap (is_listed log r.run.op) t.is_swap
            ∙ ap (λ (b : Bool). b || (has_ended log r.run.op && found_another t.expected (asking log r.run.op) (trying log r.run.op))) (ap (has_swapped t.expected) q.1 ∙ met))

    -- ---- no two runs stand each before the other

    writing-at : (run : Run) → Is run → run.key ≡ key → (w : IsListedWrite run) → (set : Setting) × Writes log key run.op set × (set.stamp ≡ run_stamp run)
    writing-at run is key_is w = by_wrote w.wrote
      where
        by_wrote : WroteBy run w.writing → (set : Setting) × Writes log key run.op set × (set.stamp ≡ run_stamp run)
        by_wrote (inl has) =
            (let b = run-begun run is in
            let s = run-set run w.writing is has in
            let set : Setting = record { place = s.0; stamp = w.writing.stamp; is_applied = w.writing.is_applied } in
            (set, written log atomic once key run.op set (began run b.0) b.1 key_is (inl ((runs.sets run w.writing is has).is_write, s.1)), sym (write-stamp run w)))
        by_wrote (inr tried) =
            (let b = run-begun run is in
            let t = runs.tries run tried.0 is tried.2 in
            let q = run-tried run tried.0 is tried.2 in
            let met : stamp_eq t.expected tried.0.found ≡ true = sym (ap (λ (x : ActKind). writes_by x run.tried) t.is_swap ∙ ap (writes_by (Swap t.expected)) tried.2) ∙ w.writes in
            let set : Setting = record { place = q.0; stamp = tried.0.stamp; is_applied = true } in
            let swapped : IsSwapped log run.op run.act set = record {
              tried = record { place = q.0; stamp = tried.0.stamp; found = tried.0.found };
              kind = t.is_swap ∙ ap Swap (stamp_eq-true t.expected tried.0.found met);
              has = q.1;
              is = refl;
            } in
            (set, written log atomic once key run.op set (began run b.0) b.1 key_is (inr swapped), ap (λ (x : Writing). x.stamp) (sym tried.3) ∙ sym (write-stamp run w)))

    abbrev op_in : Point → ℕ
    op_in (Begin op client k act) = op
    op_in (Ask op found) = op
    op_in (Set op stamp applied) = op
    op_in (Try op stamp found) = op
    op_in (End op) = op

    -- the point at which a run read
    read-point : (run : Run) → (r : IsListedRead run) → (q : Point) × IsPointOf run r.reading.step q × (op_in q ≡ run.op)
    read-point run r = by_tried run.tried refl
      where
        by_tried : (o : Option Trial) → run.tried ≡ o → (q : Point) × IsPointOf run r.reading.step q × (op_in q ≡ run.op)
        by_tried None none = (Ask run.op r.reading.found, (refl, sym (ap (deciding run.asked) none) ∙ r.decided), refl)
        by_tried (Some t) tried =
            (let same : t.step ≡ r.reading.step = ap (λ (x : Reading). x.step) (same_Some (record { step = t.step; found = t.found }) r.reading (sym (ap (deciding run.asked) tried) ∙ r.decided)) in
            (Try run.op t.stamp t.found, (refl, tried ∙ ap (λ (n : ℕ). Some (record { step = n; stamp = t.stamp; found = t.found })) same), refl))

    one-ask : (a b : Run) → Is a → Is b → (r : IsListedRead a) → (s : IsListedRead b) → r.reading.step ≡ s.reading.step → a.op ≡ b.op
    one-ask a b is too r s same =
        let p = read-point a r in
        let q = read-point b s in
        let x = moments.has a r.reading.step p.0 is p.1 in
        let y = moments.has b s.reading.step q.0 too q.1 in
        let at = in-at ms x.0 x.1 in
        let there = in-at ms y.0 y.1 in
        let here = x.2 in let also = y.2 in
        let one : x.0 ≡ y.0 = one-moment at.0 there.0 x.0 y.0 at.1 there.1 (here ∙ (same ∙ sym also)) in
        sym p.2 ∙ (ap op_in (sym x.3 ∙ (ap point one ∙ y.3)) ∙ q.2)

    abbrev Stands : Run → Run → Type 0
    Stands a b = MayPrecede run_stamp run_reads run_rank a b

    not-both : (a b : Run) → Is a → Is b → a.key ≡ key → b.key ≡ key → (a.op ≡ b.op → ⊥) → Stands a b → Stands b a → IsListedRead a ⊎ IsListedWrite a → IsListedRead b ⊎ IsListedWrite b → ⊥
    not-both a b is too key_is key_too other may back first second = by_sorts first second
      where
        stamps : run_stamp a ≡ run_stamp b
        stamps = le-both (run_stamp a) (run_stamp b) may.stamps back.stamps

        by_sorts : IsListedRead a ⊎ IsListedWrite a → IsListedRead b ⊎ IsListedWrite b → ⊥
        by_sorts (inl r) (inl s) =
            (let up = may.ranks stamps (read-reads a r) (read-reads b s) in
            let down = back.ranks (sym stamps) (read-reads b s) (read-reads a r) in
            let here = read-rank a r in let there = read-rank b s in
            other (one-ask a b is too r s (omega (arith, up, down, here, there))))
        by_sorts (inl r) (inr w) = both_ways (run_reads b) (write-reads b w) (may.kinds stamps (read-reads a r))
        by_sorts (inr w) (inl r) = both_ways (run_reads a) (write-reads a w) (back.kinds (sym stamps) (read-reads b r))
        by_sorts (inr v) (inr w) =
            (let s = writing-at a is key_is v in
            let u = writing-at b too key_too w in
            apart log atomic once key a.op b.op s.0 u.0 s.1 u.1 other (s.2 ∙ (stamps ∙ sym u.2)))

    one-way : (m n : ℕ) → Precedes Is key m n → Precedes Is key n m → ⊥
    one-way m n there back =
        let a = there.first in
        let b = there.second in
        let same_a : back.second.run ≡ a.run = runs.numbers back.second.run a.run back.second.is a.is (back.second.number_is ∙ sym a.number_is) in
        let same_b : back.first.run ≡ b.run = runs.numbers back.first.run b.run back.first.is b.is (back.first.number_is ∙ sym b.number_is) in
        let may : Stands b.run a.run = subst (λ (x : Run). Stands x a.run) same_b (subst (Stands back.first.run) same_a back.may) in
        not-both a.run b.run a.is b.is a.key_is b.key_is (λ same. there.other (sym a.number_is ∙ (same ∙ b.number_is))) there.may may a.sort b.sort

    -- ---- the order

    -- each two of these stand as the runs do, and these are the runs that are listed: then it is the order of the key
    pub order-of-runs : (xs : List ℕ) → AllPairs (Precedes Is key) xs → AllByRecursion (IsListedRun Is key) xs → ((n : ℕ) → IsListedRun Is key n → IsIn xs n) → linearization_of log key ≡ xs
    unfolding linearization_of
    order-of-runs xs pairs all complete =
        let in_order = sorted_by moment_cmp (marks_of log key) in
        let marks : AllByRecursion (IsMarkOf log key) in_order = law.sorted-marks log atomic once key in
        one-order (Precedes Is key) one-way (map op_of in_order) xs
        (marks-precede in_order marks (law.by-stamp log atomic once key) (law.sorted-others log atomic once key)) pairs
        (λ n there. complete n (all-of (IsListedRun Is key) (map op_of in_order) n (all-map (IsListedRun Is key) op_of in_order (all-each (IsMarkOf log key) (λ m. IsListedRun Is key m.op) in_order (λ m of. (mark-run m of).listed) marks)) there))
        (λ n there. law.listed-in log atomic once key n (run-listed n (all-of (IsListedRun Is key) xs n all there)))

-- The order of a key by an atomic log: it lists what it should, respects real time, and each read finds the last write.
use Rattle.std.proofs.Common.{◌≡◌, ℕ, ◌+◌, ◌<◌, Bool, true, false, cond, List, [], ◌∷◌, map, take, Option, Some, None, is_some, refl, sym, ap, subst, ◌∙◌, inl, inr, arith}
use Rattle.std.specs.Prelude.{◌⊎◌, ◌||◌, ◌&&◌, not, if◌then◌else◌}
use Rattle.std.specs.List.{AllByRecursion, slice_get}
use Rattle.std.specs.Option.{option_map_or}
use Rattle.std.specs.Ordering.{is_lt}
use Rattle.std.proofs.lemmas.Bool.{both_ways, cases_lt, ltb-true}
use Rattle.std.proofs.lemmas.Option.{same_Some}
use Rattle.hy_record.specs.Key.{key_eq}
use Rattle.hy_record.specs.Stamp.{Timestamp, stamp_lt, stamp_eq}
use Rattle.hy_record.proofs.Order.{key_eq-true, key_eq-same, stamp_le-lt, stamp_lt-other, stamp_eq-same}
use Rattle.hy_points.specs.declared.mark.Mark.{Mark}
use Rattle.hy_points.specs.declared.point.ActKind.{ActKind}
use Rattle.hy_points.specs.declared.point.ActKind.TheVariants.{Put, Get, Delete, Swap}
use Rattle.hy_points.specs.declared.point.Point.{Point}
use Rattle.hy_points.specs.declared.point.Point.TheVariants.{Begin, Set, Try, End}
use Rattle.hy_points.specs.declared.telling.Asking.{Asking}
use Rattle.hy_points.specs.declared.telling.Setting.{Setting}
use Rattle.hy_points.specs.declared.telling.Trying.{Trying}
use Rattle.hy_points.specs.Lookups.{Beginning, beginning, asking, setting, trying, ending, has_ended}
use Rattle.hy_points.specs.Atomic.{IsAtomicLog, AsksOnce, FitsSet, MayEnd, applied_stamp, no_stamp, writes}
use Rattle.hy_points.specs.Marks.{overwriting, mark_before, operation_mark, write_mark, read_mark, swap_mark, point_mark, marks_of, moment_cmp, op_of, sorted_by, linearization_of}
use Rattle.hy_points.specs.Orders.{took_effect, has_swapped, found_another, is_listed, IsListed, came_before, returned_first, KeepsTime, is_blind, act_writes, is_write, stamp_set, stamp_found, last_after, FindsLastWrites, OrdersLog}
use Rattle.hy_points.proofs.Sorting.{all-each, AreInOrder, sorted-ordered, all-sorted}
use Rattle.hy_points.proofs.Moments.{moment_total}
use Rattle.hy_points.proofs.Places.{begun-there, set-there, tried-there, ended-there, begun-front, asked-front}
use Rattle.hy_points.proofs.Heights.{Le, none-le, le-trans, height, height-from, height-rises}
use Rattle.hy_points.proofs.Swapping.{IsSwapped, HasRead, Wrote}
use Rattle.hy_points.proofs.Courses.{WroteThere, fits, only-begun, read-ended, wrote-ended, trial, applied-wrote, never-both, own-op}
use Rattle.hy_points.proofs.Placing.{IsMarkOf, IsReadMark, IsWriteMark, IsPlaced, mark-of, placed, written, was-read, written-before, write-above}
use Rattle.hy_points.proofs.ByMoment.{stamp_of, reads_of, place_of, NotAfter, not-after, reached, may-precede, by-moment}
use Rattle.hy_points.proofs.InOrder.{AreByStamp, Follows, RespectsTime, by-stamp-in-time, IsWrittenIn}
use Rattle.hy_points.proofs.Seeking.{MaySeek, IsAbove, Seeks, SeeksLast, by-stamp-seeks}
use Rattle.hy_points.proofs.Listing.{IsIn, in-contains, in-map, in-picked, in-sorted, all-map, all-picked, AllPairs, pairs-picked, pairs-sorted, distinct-map}

before-stamp : (op : ℕ) (stamp : Timestamp) (o : Option ℕ) → (mark_before op stamp o).stamp ≡ stamp
before-stamp op stamp None = refl
before-stamp op stamp (Some p) = refl

before-reads : (op : ℕ) (stamp : Timestamp) (o : Option ℕ) → (mark_before op stamp o).reads ≡ false
before-reads op stamp None = refl
before-reads op stamp (Some p) = refl

before-op : (op : ℕ) (stamp : Timestamp) (o : Option ℕ) → (mark_before op stamp o).op ≡ op
before-op op stamp None = refl
before-op op stamp (Some p) = refl

-- a mark by its sort
module _ (log : List Point) (key : List ℕ) (begun : Beginning) (m : Mark) where
  pub read-stamp : (r : IsReadMark log begun m) → m.stamp ≡ r.ask.found
  read-stamp r = ap (λ (x : Mark). x.stamp) r.is

  pub read-place : (r : IsReadMark log begun m) → m.place ≡ r.ask.place
  read-place r = ap (λ (x : Mark). x.place) r.is

  pub read-reads : IsReadMark log begun m → m.reads ≡ true
  read-reads r = ap (λ (x : Mark). x.reads) r.is

  pub write-stamp : (w : IsWriteMark log key begun m) → m.stamp ≡ w.set.stamp
  write-stamp w = elim w.is [
    | inl applied ↦ ap (λ (x : Mark). x.stamp) applied.1
    | inr refused ↦ ap (λ (x : Mark). x.stamp) refused.2 ∙ before-stamp m.op w.set.stamp (overwriting log key w.set.stamp)
  ]

  pub write-reads : IsWriteMark log key begun m → m.reads ≡ false
  write-reads w = elim w.is [
    | inl applied ↦ ap (λ (x : Mark). x.reads) applied.1
    | inr refused ↦ ap (λ (x : Mark). x.reads) refused.2 ∙ before-reads m.op w.set.stamp (overwriting log key w.set.stamp)
  ]

abbrev came : (log : List Point) → Mark → Mark → Bool
came log a b = returned_first log a.op b.op

-- what a return before a beginning is
came-is : (end : Option ℕ) (began : Option Beginning) → came_before end began ≡ true → (e : ℕ) × (b : Beginning) × (end ≡ Some e) × (began ≡ Some b) × (e < b.place)
came-is None began is = cc
came-is (Some e) None is = cc
came-is (Some e) (Some b) is = (e, b, refl, refl, ltb-true e b.place is)

module _ (log : List Point) (atomic : IsAtomicLog log) (once : AsksOnce log) (key : List ℕ) where
  -- what returned is not above the record then
  low : (m : Mark) → IsMarkOf log key m → (e : ℕ) → ending log m.op ≡ Some e → Le m.stamp (height (applied_stamp log key) log e)
  low m of e ended = elim of.sort [
    | inl read ↦
        let r = was-read log atomic once key m.op read.ask of.begun of.is_begun of.of_key read.by in
        let inside = read-ended log atomic m.op e ended of.begun.act read.ask read.by in
        subst (λ t. Le t (height (applied_stamp log key) log e)) (sym (read-stamp log key of.begun m read ∙ r.finds)) (height-rises (applied_stamp log key) log read.ask.place e (omega (arith, inside)))
    | inr write ↦
        let w = written log atomic once key m.op write.set of.begun of.is_begun of.of_key write.by in
        let inside = wrote-ended log atomic m.op e ended of.begun.act write.set write.by in
        subst (λ t. Le t (height (applied_stamp log key) log e)) (sym (write-stamp log key of.begun m write)) (written-before log atomic once key m.op write.set w e inside)
  ]

  -- what returned before another began is followed by it
  follows : (a b : Mark) → IsMarkOf log key a → IsMarkOf log key b → came log a b ≡ true → Follows stamp_of reads_of place_of a b
  follows a b first second is =
      let c = came-is (ending log a.op) (beginning log b.op) is in
      let same : c.1 ≡ second.begun = same_Some c.1 second.begun (sym c.3 ∙ second.is_begun) in
      let less : c.0 < second.begun.place = subst (λ (x : Beginning). c.0 < x.place) same c.4 in
      by_sort c.0 c.2 less second.sort
    where
      by_sort : (e : ℕ) → ending log a.op ≡ Some e → e < second.begun.place → IsReadMark log second.begun b ⊎ IsWriteMark log key second.begun b → Follows stamp_of reads_of place_of a b
      by_sort e ended less (inl read) =
          (let r = was-read log atomic once key b.op read.ask second.begun second.is_begun second.of_key read.by in
          let began : r.begun ≡ second.begun = same_Some r.begun second.begun (sym r.is_begun ∙ second.is_begun) in
          let after_ : second.begun.place < read.ask.place = subst (λ (x : Beginning). x.place < read.ask.place) began r.after in
          record {
            stamps = le-trans a.stamp (height (applied_stamp log key) log e) b.stamp (low a first e ended)
                (subst (λ t. Le (height (applied_stamp log key) log e) t) (sym (read-stamp log key second.begun b read ∙ r.finds)) (height-rises (applied_stamp log key) log e read.ask.place (omega (arith, less, after_))));
            strict = λ f. absurd (both_ways b.reads f (read-reads log key second.begun b read));
            ranks = λ f g. rank first.sort (omega (arith, less, after_)) f;
          })
        where
          rank : IsReadMark log first.begun a ⊎ IsWriteMark log key first.begun a → e < read.ask.place → a.reads ≡ true → a.place < b.place
          rank (inl other) behind f =
              (let inside = read-ended log atomic a.op e ended first.begun.act other.ask other.by in
              let p = read-place log key first.begun a other in
              let q = read-place log key second.begun b read in
              omega (arith, inside, p, q, behind))
          rank (inr other) behind f = absurd (both_ways a.reads (write-reads log key first.begun a other) f)
      by_sort e ended less (inr write) =
          (let w = written log atomic once key b.op write.set second.begun second.is_begun second.of_key write.by in
          let began : w.begun ≡ second.begun = same_Some w.begun second.begun (sym w.is_begun ∙ second.is_begun) in
          let after_ : second.begun.place < w.ask.place = subst (λ (x : Beginning). x.place < w.ask.place) began w.after in
          let above : stamp_lt (height (applied_stamp log key) log e) b.stamp ≡ true = subst (λ t. stamp_lt (height (applied_stamp log key) log e) t ≡ true) (sym (write-stamp log key second.begun b write)) (write-above log atomic once key b.op write.set w e (omega (arith, less, after_))) in
          let strict_ : stamp_lt a.stamp b.stamp ≡ true = stamp_le-lt a.stamp (height (applied_stamp log key) log e) b.stamp (low a first e ended) above in
          record {
            stamps = stamp_lt-other a.stamp b.stamp strict_;
            strict = λ f. strict_;
            ranks = λ f g. absurd (both_ways b.reads (write-reads log key second.begun b write) g);
          })

  -- ---- the marks

  -- a mark of an operation of the key is among them
  listed : (op : ℕ) (b : Beginning) (m : Mark) → beginning log op ≡ Some b → b.key ≡ key → operation_mark log key op b.act ≡ Some m → IsIn (marks_of log key) m
  unfolding marks_of
  listed op b m is of mark =
      in-picked (point_mark log key) log b.place (Begin op b.client b.key b.act) m (begun-there log op b is)
      (ap (λ t. cond t (operation_mark log key op b.act) None) (ap (λ k. key_eq k key) of ∙ key_eq-same key) ∙ mark)

  pub are-marks : AllByRecursion (IsMarkOf log key) (marks_of log key)
  unfolding marks_of
  are-marks = all-picked (IsMarkOf log key) (point_mark log key) log (λ place point m there is. (mark-of log atomic key place point m there is).0)

  abbrev pub AreOther : Mark → Mark → Type 0
  AreOther m n = m.op ≡ n.op → ⊥

  are-others : AllPairs AreOther (marks_of log key)
  unfolding marks_of
  are-others = pairs-picked AreOther (point_mark log key) log (λ i j x y m n less first second is too same. other i j x y m n less first second (mark-of log atomic key i x m first is).1 (mark-of log atomic key j y n second too).1 same)
    where
      other : (i j : ℕ) (x y : Point) (m n : Mark) → i < j → slice_get log i ≡ Some x → slice_get log j ≡ Some y
          → (client : ℕ) × (act : ActKind) × (x ≡ Begin m.op client key act) → (client : ℕ) × (act : ActKind) × (y ≡ Begin n.op client key act) → m.op ≡ n.op → ⊥
      other i j x y m n less first second a b same =
          (let p = only-begun log atomic i m.op a.0 key a.1 (first ∙ ap Some a.2) in
          let q = only-begun log atomic j n.op b.0 key b.1 (second ∙ ap Some b.2) in
          let e = same_Some (record { place = i; client = a.0; key = key; act = a.1 }) (record { place = j; client = b.0; key = key; act = b.1 }) (sym p ∙ ap (beginning log) same ∙ q) in
          let f : i ≡ j = ap (λ (x : Beginning). x.place) e in
          omega (arith, less, f))

  abbrev pub in_order : List Mark
  in_order = sorted_by moment_cmp (marks_of log key)

  pub sorted-marks : AllByRecursion (IsMarkOf log key) in_order
  sorted-marks = all-sorted moment_cmp moment_total (IsMarkOf log key) (marks_of log key) are-marks

  pub sorted-others : AllPairs AreOther in_order
  sorted-others = pairs-sorted moment_cmp AreOther (λ x y other same. other (sym same)) (marks_of log key) are-others

  -- they are in order by timestamp
  pub by-stamp : AreByStamp stamp_of reads_of place_of in_order
  by-stamp =
      by-moment (applied_stamp log key) log in_order (all-each (IsMarkOf log key) (IsPlaced (applied_stamp log key) log) in_order (placed log atomic once key) sorted-marks)
      (sorted-ordered moment_cmp moment_total (marks_of log key))

  -- ---- what an operation writes and finds

  -- only swaps try, and only puts and deletes set
  untried : (op : ℕ) (b : Beginning) → beginning log op ≡ Some b → ((expected : Timestamp) → b.act ≡ Swap expected → ⊥) → trying log op ≡ None
  untried op b begun other = by_try (trying log op) refl
    where
      by_try : (o : Option Trying) → trying log op ≡ o → o ≡ None
      by_try None is = refl
      by_try (Some tried) is =
          (let t = trial log atomic once op tried is b begun in
          absurd (other t.expected (subst (λ (x : Beginning). x.act ≡ Swap t.expected) (same_Some t.begun b (sym t.is_begun ∙ begun)) t.kind)))

  unset : (op : ℕ) (b : Beginning) → beginning log op ≡ Some b → (found : Timestamp) → b.act ≡ Swap found → setting log op ≡ None
  unset op b begun found kind = by_set (setting log op) refl
    where
      never : (act : ActKind) (set : Setting) → act ≡ Swap found → Wrote log op act set → (setting log op ≡ Some set) → trying log op ≡ None → ⊥
      never act set is (inl by) has none = (let f : writes (Swap found) ≡ true = ap writes (sym is) ∙ by.0 in cc)
      never act set is (inr by) has none = (let e : None ≡ Some by.tried = sym none ∙ by.has in cc)

      by_set : (o : Option Setting) → setting log op ≡ o → o ≡ None
      by_set None is = refl
      by_set (Some set) is = absurd (blind (fits log atomic set.place (Set op set.stamp set.is_applied) (set-there log op set is)))
        where
          blind : FitsSet (take set.place log) op set.stamp set.is_applied → ⊥
          blind f =
              (let same : f.runs.begun ≡ b = same_Some f.runs.begun b (sym (begun-front log set.place op f.runs.begun f.runs.is_begun).0 ∙ begun) in
              let e : writes (Swap found) ≡ true = ap writes (sym kind) ∙ (ap (λ (x : Beginning). writes x.act) (sym same) ∙ f.is_write) in
              cc)

  abbrev found_of : Option Trying → Option Asking → Timestamp
  found_of tried asked = option_map_or (λ (t : Trying). t.found) tried (option_map_or (λ (a : Asking). a.found) asked no_stamp)

  read-found : (op : ℕ) (ask : Asking) (b : Beginning) → beginning log op ≡ Some b → HasRead log op b.act ask → stamp_found log op ≡ ask.found
  read-found op ask b begun (inl get) = ap (λ o. found_of o (asking log op)) (untried op b begun (λ expected is. differ expected (sym get.0 ∙ is))) ∙ ap (found_of None) get.1
    where
      differ : (expected : Timestamp) → Get ≡ Swap expected → ⊥
      differ expected e = cc
  read-found op ask b begun (inr (inl by)) = ap (λ o. found_of o (asking log op)) by.none ∙ ap (found_of None) by.asked
  read-found op ask b begun (inr (inr by)) = ap (λ o. found_of o (asking log op)) by.has ∙ sym (ap (λ (a : Asking). a.found) by.is)

  swap-found : (op : ℕ) (act : ActKind) (set : Setting) → (by : IsSwapped log op act set) → stamp_found log op ≡ by.tried.found
  swap-found op act set by = ap (λ o. found_of o (asking log op)) by.has

  abbrev set_of : Option Setting → Option Trying → Timestamp
  set_of set tried = option_map_or (λ (s : Setting). s.stamp) set (option_map_or (λ (t : Trying). t.stamp) tried no_stamp)

  wrote-stamp : (op : ℕ) (set : Setting) (b : Beginning) → beginning log op ≡ Some b → Wrote log op b.act set → stamp_set log op ≡ set.stamp
  wrote-stamp op set b begun (inl by) = ap (λ o. set_of o (trying log op)) by.1
  wrote-stamp op set b begun (inr by) = ap (λ o. set_of o (trying log op)) (unset op b begun by.tried.found by.kind) ∙ (ap (set_of None) by.has ∙ sym (ap (λ (s : Setting). s.stamp) by.is))

  blind-is : (op : ℕ) (b : Beginning) → beginning log op ≡ Some b → is_blind log op ≡ writes b.act
  blind-is op b begun = ap (λ o. option_map_or (λ (x : Beginning). writes x.act) o false) begun

  write-is : (op : ℕ) (b : Beginning) → beginning log op ≡ Some b → is_write log op ≡ act_writes log op b.act
  write-is op b begun = ap (λ o. option_map_or (λ (x : Beginning). act_writes log op x.act) o false) begun

  wrote-writes : (op : ℕ) (set : Setting) (act : ActKind) → Wrote log op act set → act_writes log op act ≡ true
  wrote-writes op set act (inl by) = by_act act by.0
    where
      by_act : (act : ActKind) → writes act ≡ true → act_writes log op act ≡ true
      by_act Put is = refl
      by_act Delete is = refl
      by_act Get is = cc
      by_act (Swap expected) is = cc
  wrote-writes op set act (inr by) = ap (act_writes log op) by.kind ∙ (ap (has_swapped by.tried.found) by.has ∙ stamp_eq-same by.tried.found)

  read-writes : (op : ℕ) (ask : Asking) (act : ActKind) → HasRead log op act ask → act_writes log op act ≡ false
  read-writes op ask act (inl get) = ap (act_writes log op) get.0
  read-writes op ask act (inr (inl by)) = ap (act_writes log op) by.kind ∙ ap (has_swapped by.expected) by.none
  read-writes op ask act (inr (inr by)) = ap (act_writes log op) by.kind ∙ (ap (has_swapped by.expected) by.has ∙ by.other)

  -- ---- each that seeks a timestamp finds that of the last write

  abbrev sought : Mark → Option Timestamp
  sought m = if is_blind log m.op then None else Some (stamp_found log m.op)

  -- a put or delete seeks none
  blind-none : (m : Mark) (b : Beginning) (s : Timestamp) → beginning log m.op ≡ Some b → writes b.act ≡ true → sought m ≡ Some s → ⊥
  blind-none m b s begun is wants = (let e : is_blind log m.op ≡ true = blind-is m.op b begun ∙ is in let f : None ≡ Some s = sym (ap (λ x. if x then None else Some (stamp_found log m.op)) e) ∙ wants in cc)

  sought-is : (m : Mark) (s : Timestamp) → sought m ≡ Some s → stamp_found log m.op ≡ s
  sought-is m s = by_blind (is_blind log m.op)
    where
      by_blind : (b : Bool) → cond b None (Some (stamp_found log m.op)) ≡ Some s → stamp_found log m.op ≡ s
      by_blind true e = cc
      by_blind false e = same_Some (stamp_found log m.op) s e

  -- a swap that wrote stands at its try
  swapped-at : (m : Mark) (begun : Beginning) (w : IsWriteMark log key begun m) → (by : IsSwapped log m.op begun.act w.set) → (m.place ≡ by.tried.place) × (m.is_at ≡ true)
  swapped-at m begun w by = elim w.is [
    | inl applied ↦ (ap (λ (x : Mark). x.place) applied.1 ∙ ap (λ (x : Setting). x.place) by.is, ap (λ (x : Mark). x.is_at) applied.1)
    | inr refused ↦ absurd (both_ways w.set.is_applied refused.0 (ap (λ (x : Setting). x.is_applied) by.is))
  ]

  -- what an operation seeks is the record at its place
  seeker : (m : Mark) → IsMarkOf log key m → (s : Timestamp) → sought m ≡ Some s → (s ≡ height (applied_stamp log key) log m.place) × (m.is_at ≡ true)
  seeker m of s wants = by_sort of.sort
    where
      by_write : (w : IsWriteMark log key of.begun m) → Wrote log m.op of.begun.act w.set → (s ≡ height (applied_stamp log key) log m.place) × (m.is_at ≡ true)
      by_write w (inl by) = absurd (blind-none m of.begun s of.is_begun by.0 wants)
      by_write w (inr by) =
          (let t = trial log atomic once m.op by.tried by.has of.begun of.is_begun in
          let at = swapped-at m of.begun w by in
          let finds : by.tried.found ≡ height (applied_stamp log key) log by.tried.place = t.finds ∙ ap (λ k. height (applied_stamp log k) log by.tried.place) of.of_key in
          (sym (sought-is m s wants) ∙ (swap-found m.op of.begun.act w.set by ∙ (finds ∙ ap (height (applied_stamp log key) log) (sym at.0))), at.1))

      by_sort : IsReadMark log of.begun m ⊎ IsWriteMark log key of.begun m → (s ≡ height (applied_stamp log key) log m.place) × (m.is_at ≡ true)
      by_sort (inl read) =
          (let r = was-read log atomic once key m.op read.ask of.begun of.is_begun of.of_key read.by in
          (sym (sought-is m s wants) ∙ (read-found m.op read.ask of.begun of.is_begun read.by ∙ (r.finds ∙ ap (height (applied_stamp log key) log) (sym (read-place log key of.begun m read)))), ap (λ (x : Mark). x.is_at) read.is))
      by_sort (inr write) = by_write write write.by

  above : (m : Mark) → IsMarkOf log key m → IsAbove stamp_of reads_of place_of sought m
  above m of s is wants = subst (λ t. stamp_lt t m.stamp ≡ true) (sym (seeker m of s wants).0) ((placed log atomic once key m of).below is)

  -- a write and a swap that wrote do not stand at one place
  no-clash : (x y : Mark) → (a : IsMarkOf log key x) → (b : IsMarkOf log key y) → (x.op ≡ y.op → ⊥) → x.place ≡ y.place → (v : IsWriteMark log key a.begun x) → (w : IsWriteMark log key b.begun y) → IsSwapped log y.op b.begun.act w.set → ⊥
  no-clash x y a b other same v w second = by_write v.by
    where
      op-of : {m n : ℕ} {s t p q : Timestamp} → Some (Try m s p) ≡ Some (Try n t q) → m ≡ n
      op-of e = cc

      by_write : Wrote log x.op a.begun.act v.set → ⊥
      by_write (inl by) = never-both log atomic key x.op y.op v.set second.tried by.1 (own-op log atomic key x.op a.begun a.is_begun a.of_key) second.has (own-op log atomic key y.op b.begun b.is_begun b.of_key)
      by_write (inr by) =
          (let p = (swapped-at x a.begun v by).0 in
          let q = (swapped-at y b.begun w second).0 in
          let at : by.tried.place ≡ second.tried.place = omega (arith, p, q, same) in
          other (op-of (sym (tried-there log x.op by.tried by.has) ∙ ap (slice_get log) at ∙ tried-there log y.op second.tried second.has)))

  may-seek : (x y : Mark) → IsMarkOf log key x → IsMarkOf log key y → NotAfter x y → (x.op ≡ y.op → ⊥) → MaySeek stamp_of reads_of place_of sought x y
  may-seek x y a b order other = record {
    over = λ s writes_ wants. stamp_le-lt s (height (applied_stamp log key) log y.place) y.stamp
        (subst (λ t. Le t (height (applied_stamp log key) log y.place)) (sym (seeker x a s wants).0) (height-rises (applied_stamp log key) log x.place y.place order.places)) (second.below writes_);
    clear = λ s writes_ wants. subst (λ t. Le x.stamp t) (sym (seeker y b s wants).0) (elim (cases_lt x.place y.place) [
      | inl less ↦ le-trans x.stamp (height (applied_stamp log key) log (x.place + 1)) (height (applied_stamp log key) log y.place) (reached (applied_stamp log key) log x first) (height-rises (applied_stamp log key) log (x.place + 1) y.place (omega (arith, less)))
      | inr past ↦ (let upto = order.places in at_one (omega (arith, past, upto)) writes_ s wants b.sort)
    ]);
  }
    where
      first : IsPlaced (applied_stamp log key) log x
      first = placed log atomic once key x a

      second : IsPlaced (applied_stamp log key) log y
      second = placed log atomic once key y b

      by_write : (w : IsWriteMark log key b.begun y) → Wrote log y.op b.begun.act w.set → x.place ≡ y.place → x.reads ≡ false → (s : Timestamp) → sought y ≡ Some s → IsReadMark log a.begun x ⊎ IsWriteMark log key a.begun x → ⊥
      by_write w (inl by) same is s wants sort = blind-none y b.begun s b.is_begun by.0 wants
      by_write w (inr by) same is s wants (inl read) = both_ways x.reads is (read-reads log key a.begun x read)
      by_write w (inr by) same is s wants (inr write) = no-clash x y a b other same write w by

      at_one : x.place ≡ y.place → x.reads ≡ false → (s : Timestamp) → sought y ≡ Some s → IsReadMark log b.begun y ⊎ IsWriteMark log key b.begun y → Le x.stamp (height (applied_stamp log key) log y.place)
      at_one same is s wants (inl read) = subst (λ t. Le x.stamp t) (sym (second.found (read-reads log key b.begun y read)).0) (may-precede (applied_stamp log key) log x y first second order).stamps
      at_one same is s wants (inr write) = absurd (by_write write write.by same is s wants a.sort)

  pairs-seek : (xs : List Mark) → AllByRecursion (IsMarkOf log key) xs → AreInOrder moment_cmp xs → AllPairs AreOther xs → AllPairs (MaySeek stamp_of reads_of place_of sought) xs
  pairs-seek [] marks ordered others = tt
  pairs-seek (x ∷ xs) marks ordered others = (each xs marks.1 ordered.0 others.0, pairs-seek xs marks.1 ordered.1 others.1)
    where
      each : (ys : List Mark) → AllByRecursion (IsMarkOf log key) ys → AllByRecursion (λ y. is_lt (moment_cmp y x) ≡ false) ys → AllByRecursion (AreOther x) ys → AllByRecursion (MaySeek stamp_of reads_of place_of sought x) ys
      each [] ms os ds = tt
      each (y ∷ ys) ms os ds = (may-seek x y marks.0 ms.0 (not-after x y os.0) ds.0, each ys ms.1 os.1 ds.1)

  -- a mark seeks that of no record, or of a listed write
  seeks : (m : Mark) → IsMarkOf log key m → Seeks stamp_of reads_of place_of sought no_stamp in_order m
  seeks m of s wants =
      let is = (seeker m of s wants).0 in
      elim (height-from (applied_stamp log key) log m.place) [
        | inl none ↦ inl (is ∙ none)
        | inr one ↦ inr (subst (λ t. IsWrittenIn stamp_of reads_of place_of in_order t) (sym is) (by_wrote one.0 (height (applied_stamp log key) log m.place) (applied-wrote log atomic key one.0 (height (applied_stamp log key) log m.place) one.2)))
      ]
    where
      in-written : (xs : List Mark) (w : Mark) → w.reads ≡ false → IsIn xs w → IsWrittenIn stamp_of reads_of place_of xs w.stamp
      in-written [] w is there = absurd there
      in-written (x ∷ xs) w is (inl here) = inl (ap (λ (y : Mark). y.reads) here ∙ is, ap (λ (y : Mark). y.stamp) here)
      in-written (x ∷ xs) w is (inr later) = inr (in-written xs w is later)

      mark-is : (op place : ℕ) (stamp : Timestamp) (act : ActKind) → Wrote log op act (record { place = place; stamp = stamp; is_applied = true }) → operation_mark log key op act ≡ Some (record { place = place; is_at = true; stamp = stamp; reads = false; op = op })
      mark-is op place stamp act (inl by) = by_act act by.0
        where
          by_act : (act : ActKind) → writes act ≡ true → operation_mark log key op act ≡ Some (record { place = place; is_at = true; stamp = stamp; reads = false; op = op })
          by_act Put is = ap (write_mark log key op) by.1
          by_act Delete is = ap (write_mark log key op) by.1
          by_act Get is = cc
          by_act (Swap expected) is = cc
      mark-is op place stamp act (inr by) =
          ap (operation_mark log key op) by.kind
          ∙ (ap (swap_mark (has_ended log op) by.tried.found op (asking log op)) by.has
          ∙ (ap (λ b. cond b (Some (record { place = by.tried.place; is_at = true; stamp = by.tried.stamp; reads = false; op = op })) (read_mark (has_ended log op) op (Some (record { place = by.tried.place; found = by.tried.found })))) (stamp_eq-same by.tried.found)
          ∙ ap (λ (x : Setting). Some (record { place = x.place; is_at = true; stamp = x.stamp; reads = false; op = op })) (sym by.is)))

      by_wrote : (place : ℕ) (stamp : Timestamp) → WroteThere log atomic key place stamp → IsWrittenIn stamp_of reads_of place_of in_order stamp
      by_wrote place stamp w =
          (let m : Mark = record { place = place; is_at = true; stamp = stamp; reads = false; op = w.op } in
          in-written in_order m refl (in-sorted moment_cmp (marks_of log key) m (listed w.op w.begun m w.is_begun w.of_key (mark-is w.op place stamp w.begun.act w.by))))

  marks-seek : (xs : List Mark) → AllByRecursion (IsMarkOf log key) xs → AllByRecursion (Seeks stamp_of reads_of place_of sought no_stamp in_order) xs
  marks-seek xs all = all-each (IsMarkOf log key) (Seeks stamp_of reads_of place_of sought no_stamp in_order) xs seeks all

  -- ---- the law, part by part

  pub listed-in : (op : ℕ) → IsListed log key op → IsIn (map op_of in_order) op
  listed-in op is =
      let m = marked is.begun.act is.is_begun refl is.is_listed in
      subst (IsIn (map op_of in_order)) m.2 (in-map op_of in_order m.0 (in-sorted moment_cmp (marks_of log key) m.0 (listed op is.begun m.0 is.is_begun (key_eq-true is.begun.key key is.is_of) m.1)))
    where
      write-marked : (o : Option Setting) → took_effect (has_ended log op) o ≡ true → (m : Mark) × (write_mark log key op o ≡ Some m) × (m.op ≡ op)
      write-marked None e = cc
      write-marked (Some set) e = by_applied set.is_applied (has_ended log op) e
        where
          by_applied : (b c : Bool) → (b || c) ≡ true → (m : Mark) × (cond b (Some (record { place = set.place; is_at = true; stamp = set.stamp; reads = false; op = op })) (cond c (Some (mark_before op set.stamp (overwriting log key set.stamp))) None) ≡ Some m) × (m.op ≡ op)
          by_applied true c f = (record { place = set.place; is_at = true; stamp = set.stamp; reads = false; op = op }, refl, refl)
          by_applied false true f = (mark_before op set.stamp (overwriting log key set.stamp), refl, before-op op set.stamp (overwriting log key set.stamp))
          by_applied false false f = cc

      read-marked : (b : Bool) → b ≡ true → (o : Option Asking) → (a : Asking) → o ≡ Some a → (m : Mark) × (read_mark b op o ≡ Some m) × (m.op ≡ op)
      read-marked true e o a asked = (record { place = a.place; is_at = true; stamp = a.found; reads = true; op = op }, ap (read_mark true op) asked, refl)
      read-marked false e o a asked = cc

      swap-marked : (expected : Timestamp) (b : Bool) (asked : Option Asking) (tried : Option Trying) → (has_swapped expected tried || (b && found_another expected asked tried)) ≡ true → (m : Mark) × (swap_mark b expected op asked tried ≡ Some m) × (m.op ≡ op)
      swap-marked expected true None None e = cc
      swap-marked expected false None None e = cc
      swap-marked expected b (Some ask) None e = by_found (stamp_eq expected ask.found) b e
        where
          by_found : (c b : Bool) → (b && not c) ≡ true → (m : Mark) × (read_mark b op (cond c None (Some ask)) ≡ Some m) × (m.op ≡ op)
          by_found false true f = (record { place = ask.place; is_at = true; stamp = ask.found; reads = true; op = op }, refl, refl)
          by_found false false f = cc
          by_found true true f = cc
          by_found true false f = cc
      swap-marked expected b asked (Some tried) e = by_found (stamp_eq expected tried.found) b e
        where
          by_found : (c b : Bool) → (c || (b && not c)) ≡ true → (m : Mark) × (cond c (Some (record { place = tried.place; is_at = true; stamp = tried.stamp; reads = false; op = op })) (read_mark b op (Some (record { place = tried.place; found = tried.found }))) ≡ Some m) × (m.op ≡ op)
          by_found true b f = (record { place = tried.place; is_at = true; stamp = tried.stamp; reads = false; op = op }, refl, refl)
          by_found false true f = (record { place = tried.place; is_at = true; stamp = tried.found; reads = true; op = op }, refl, refl)
          by_found false false f = cc

      ended-asked : is.begun.act ≡ Get → has_ended log op ≡ true → (a : Asking) × (asking log op ≡ Some a)
      ended-asked get ended = by_end (ending log op) refl ended
        where
          by_may : (b : Beginning) (e : ℕ) → b ≡ is.begun → MayEnd (take e log) op b.client b.act → (a : Asking) × (asking log op ≡ Some a)
          by_may b e same may =
              (let m = subst (λ (act : ActKind). MayEnd (take e log) op b.client act) (ap (λ (x : Beginning). x.act) same ∙ get) may in
              (m.0, (asked-front log e op m.0 m.1).0))

          by_end : (o : Option ℕ) → ending log op ≡ o → is_some o ≡ true → (a : Asking) × (asking log op ≡ Some a)
          by_end None there e = cc
          by_end (Some at) there e =
              (let f = fits log atomic at (End op) (ended-there log op at there) in
              by_may f.runs.begun at (same_Some f.runs.begun is.begun (sym (begun-front log at op f.runs.begun f.runs.is_begun).0 ∙ is.is_begun)) f.may)

      marked : (act : ActKind) → beginning log op ≡ Some is.begun → is.begun.act ≡ act → is_listed log op act ≡ true → (m : Mark) × (operation_mark log key op is.begun.act ≡ Some m) × (m.op ≡ op)
      marked Get begun same e =
          (let a = ended-asked same e in
          let m = read-marked (has_ended log op) e (asking log op) a.0 a.1 in
          (m.0, ap (operation_mark log key op) same ∙ m.1, m.2))
      marked Put begun same e = (let m = write-marked (setting log op) e in (m.0, ap (operation_mark log key op) same ∙ m.1, m.2))
      marked (Swap expected) begun same e = (let m = swap-marked expected (has_ended log op) (asking log op) (trying log op) e in (m.0, ap (operation_mark log key op) same ∙ m.1, m.2))
      marked Delete begun same e = (let m = write-marked (setting log op) e in (m.0, ap (operation_mark log key op) same ∙ m.1, m.2))

  member : (m : Mark) → IsMarkOf log key m → IsListed log key m.op
  member m of = record {
    begun = of.begun;
    is_begun = of.is_begun;
    is_of = ap (λ k. key_eq k key) of.of_key ∙ key_eq-same key;
    is_listed = elim of.sort [ inl read ↦ by_read of.begun.act read.ask read.by read.ended | inr write ↦ by_write of.begun.act write.set write.by write.is ];
  }
    where
      or-true : (b : Bool) → (b || true) ≡ true
      or-true true = refl
      or-true false = refl

      by_read : (act : ActKind) (ask : Asking) → HasRead log m.op act ask → has_ended log m.op ≡ true → is_listed log m.op act ≡ true
      by_read act ask (inl get) ended = ap (is_listed log m.op) get.0 ∙ ended
      by_read act ask (inr (inl by)) ended =
          ap (is_listed log m.op) by.kind
          ∙ (ap (λ (o : Option Trying). has_swapped by.expected o || (has_ended log m.op && found_another by.expected (asking log m.op) o)) by.none
          ∙ (ap (λ (o : Option Asking). has_ended log m.op && found_another by.expected o None) by.asked
          ∙ (ap (λ b. has_ended log m.op && not b) by.other ∙ ap (λ b. b && true) ended)))
      by_read act ask (inr (inr by)) ended =
          ap (is_listed log m.op) by.kind
          ∙ (ap (λ (o : Option Trying). has_swapped by.expected o || (has_ended log m.op && found_another by.expected (asking log m.op) o)) by.has
          ∙ (ap (λ b. b || (has_ended log m.op && not b)) by.other ∙ ap (λ b. b && true) ended))

      by_write : (act : ActKind) (set : Setting) → Wrote log m.op act set → ((set.is_applied ≡ true) × (m ≡ record { place = set.place; is_at = true; stamp = set.stamp; reads = false; op = m.op }))
          ⊎ ((set.is_applied ≡ false) × (has_ended log m.op ≡ true) × (m ≡ mark_before m.op set.stamp (overwriting log key set.stamp))) → is_listed log m.op act ≡ true
      by_write act set (inl by) is =
          by_act act by.0 (ap (took_effect (has_ended log m.op)) by.1 ∙ elim is [
            | inl applied ↦ ap (λ b. b || has_ended log m.op) applied.0
            | inr refused ↦ ap (λ b. set.is_applied || b) refused.1 ∙ or-true set.is_applied
          ])
        where
          by_act : (act : ActKind) → writes act ≡ true → took_effect (has_ended log m.op) (setting log m.op) ≡ true → is_listed log m.op act ≡ true
          by_act Put is e = e
          by_act Delete is e = e
          by_act Get is e = cc
          by_act (Swap expected) is e = cc
      by_write act set (inr by) is =
          ap (is_listed log m.op) by.kind
          ∙ (ap (λ (o : Option Trying). has_swapped by.tried.found o || (has_ended log m.op && found_another by.tried.found (asking log m.op) o)) by.has
          ∙ ap (λ b. b || (has_ended log m.op && not b)) (stamp_eq-same by.tried.found))

  keeps-time : (ms : List Mark) → RespectsTime stamp_of reads_of place_of (came log) ms → KeepsTime log (map op_of ms)
  keeps-time [] timely = tt
  keeps-time (m ∷ ms) timely = (all-map (λ next. returned_first log next m.op ≡ false) op_of ms timely.0, keeps-time ms timely.1)

  finds-writes : (last : Timestamp) (ms : List Mark) → AllByRecursion (IsMarkOf log key) ms → SeeksLast stamp_of reads_of place_of sought last ms → FindsLastWrites log last (map op_of ms)
  finds-writes last [] marks found = tt
  finds-writes last (m ∷ ms) marks found = (first, later marks.0.sort (λ l f. finds-writes l ms marks.1 f))
    where
      first : is_blind log m.op ≡ false → stamp_found log m.op ≡ last
      first is = found.0 (stamp_found log m.op) (ap (λ b. if b then None else Some (stamp_found log m.op)) is)

      writes-as : (b : Bool) → act_writes log m.op marks.0.begun.act ≡ b → is_write log m.op ≡ b
      writes-as b is = write-is m.op marks.0.begun marks.0.is_begun ∙ is

      later : IsReadMark log marks.0.begun m ⊎ IsWriteMark log key marks.0.begun m → ((l : Timestamp) → SeeksLast stamp_of reads_of place_of sought l ms → FindsLastWrites log l (map op_of ms)) → FindsLastWrites log (last_after log m.op last) (map op_of ms)
      later (inl read) rest =
          (let same : last_after log m.op last ≡ (if m.reads then last else m.stamp) = ap (λ b. if b then stamp_set log m.op else last) (writes-as false (read-writes m.op read.ask marks.0.begun.act read.by)) ∙ sym (ap (λ b. if b then last else m.stamp) (read-reads log key marks.0.begun m read)) in
          subst (λ t. FindsLastWrites log t (map op_of ms)) (sym same) (rest (if m.reads then last else m.stamp) found.1))
      later (inr write) rest =
          (let stamp_ : stamp_set log m.op ≡ m.stamp = wrote-stamp m.op write.set marks.0.begun marks.0.is_begun write.by ∙ sym (write-stamp log key marks.0.begun m write) in
          let same : last_after log m.op last ≡ (if m.reads then last else m.stamp) = ap (λ b. if b then stamp_set log m.op else last) (writes-as true (wrote-writes m.op write.set marks.0.begun.act write.by)) ∙ stamp_ ∙ sym (ap (λ b. if b then last else m.stamp) (write-reads log key marks.0.begun m write)) in
          subst (λ t. FindsLastWrites log t (map op_of ms)) (sym same) (rest (if m.reads then last else m.stamp) found.1))

  pub orders-log : OrdersLog log key (linearization_of log key)
  unfolding linearization_of
  orders-log =
      record {
        complete = λ op is. in-contains (map op_of in_order) op (listed-in op is);
        members = all-map (IsListed log key) op_of in_order (all-each (IsMarkOf log key) (λ m. IsListed log key m.op) in_order member sorted-marks);
        distinct = distinct-map op_of in_order sorted-others;
        real_time = keeps-time in_order (by-stamp-in-time stamp_of reads_of place_of (came log) (IsMarkOf log key) in_order follows sorted-marks by-stamp);
        reads = finds-writes no_stamp in_order sorted-marks
            (by-stamp-seeks stamp_of reads_of place_of sought no_stamp in_order by-stamp
            (pairs-seek in_order sorted-marks (sorted-ordered moment_cmp moment_total (marks_of log key)) sorted-others)
            (all-each (IsMarkOf log key) (IsAbove stamp_of reads_of place_of sought) in_order above sorted-marks)
            (all-each (IsMarkOf log key) (λ m. Le no_stamp m.stamp) in_order (λ m of. none-le m.stamp) sorted-marks) (marks-seek in_order sorted-marks));
      }

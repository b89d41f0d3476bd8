-- The applied writings that raised a record: the first above a timestamp, and with one more.
use Rattle.std.proofs.Common.{◌≡◌, ℕ, zero, suc, ◌+◌, ◌-◌, ◌<◌, ◌≤◌, Bool, true, false, cond, List, [], ◌∷◌, ◌++◌, length, take, get_or, Option, Some, None, Vec, unwrap_or, refl, sym, ap, subst, ◌∙◌, inl, inr, arith}
use Rattle.std.specs.Prelude.{not, ◌&&◌, ◌==◌}
use Rattle.std.specs.BTreeMap.{is_at}
use Rattle.std.specs.Cmp.Lexicographic.{slice_cmp, bytes_decides}
use Rattle.std.specs.List.{find, slice_get}
use Rattle.std.specs.List.Sorted.{IsPartitionPoint}
use Rattle.std.specs.Map.{lookup}
use Rattle.std.specs.Option.{option_map, option_map_or, option_or}
use Rattle.std.specs.Ordering.{nat_cmp}
use Rattle.std.specs.Str.{bytes_eq}
use Rattle.std.proofs.lemmas.Bool.{both_ways, cases_lt}
use Rattle.std.proofs.lemmas.List.{take_more, length-take-le, get_or_append_left, length-append}
use Rattle.std.proofs.lemmas.List.Folds.{find-append}
use Rattle.std.proofs.lemmas.Map.Text.{is_eq-slice_cmp}
use Rattle.std.proofs.lemmas.Option.{get_or_from_slice_get, slice_get-get_or, none-some, same_Some}
use Rattle.std.proofs.Math.Seq.{get_or-append_seam}
use Rattle.hy_record.specs.Key.{key_eq}
use Rattle.hy_record.specs.Stamp.{Timestamp, stamp_lt}
use Rattle.hy_record.proofs.Order.{stamp_lt-trans, stamp_lt-le}
use Rattle.hy_points.specs.declared.peaks.Peak.{Peak}
use Rattle.hy_points.specs.declared.point.Point.{Point}
use Rattle.hy_points.specs.declared.point.Point.TheVariants.{Begin, Ask, Set, Try, End}
use Rattle.hy_points.specs.Lookups.{Beginning, beginning, beginning_at, first_from, is_of_key}
use Rattle.hy_points.specs.Marks.{overwriting_at}
use Rattle.hy_points.specs.Index.{AreRising, AreFirsts, first_above, raised, peaks_under, applied_writing, under, key_at}
use Rattle.hy_points.proofs.Tellings.{or-none, first-more}
use Rattle.hy_points.proofs.Sorting.{cases_bool}

-- the first that passes stands where those that fail end
pub find-partition : {A : Type 0} (test : A → Bool) (xs : List A) (i : ℕ) → i ≤ length xs
    → IsPartitionPoint (λ x. not (test x) ≡ true) (λ x. not (test x) ≡ false) xs i → find test xs ≡ slice_get xs i
find-partition test [] i within parts = refl
find-partition test (x ∷ xs) zero within parts = passes (test x) (parts.1 0 x (omega arith) (omega arith))
  where
    passes : (b : Bool) → not b ≡ false → cond b (Some x) (find test xs) ≡ Some x
    passes true is = refl
    passes false is = cc
find-partition test (x ∷ xs) (suc i) within parts =
    fails (test x) (parts.0 0 x (omega arith) (omega arith))
    ∙ find-partition test xs i (omega (arith, within)) (λ k d low high. parts.0 (suc k) d (omega arith) (omega (arith, high)), λ k d low high. parts.1 (suc k) d (omega (arith, low)) (omega (arith, high)))
  where
    fails : (b : Bool) → not b ≡ true → cond b (Some x) (find test xs) ≡ find test xs
    fails false is = refl
    fails true is = cc

-- one that passes stands there
found-at : {A : Type 0} (test : A → Bool) (xs : List A) (i : ℕ) (x : A) → slice_get xs i ≡ Some x → test x ≡ true → (y : A) × (find test xs ≡ Some y)
found-at test [] i x at passes = cc
found-at test (first ∷ xs) i x at passes = by_test (test first) refl i at (λ k later. found-at test xs k x later passes)
  where
    by_test : (b : Bool) → test first ≡ b → (i : ℕ) → slice_get (first ∷ xs) i ≡ Some x → ((k : ℕ) → slice_get xs k ≡ Some x → (y : _) × (find test xs ≡ Some y)) → (y : _) × (cond b (Some first) (find test xs) ≡ Some y)
    by_test true is i at later = (first, refl)
    by_test false is zero at later = (let same : first ≡ x = cc in absurd (both_ways (test x) (sym (ap test same) ∙ is) passes))
    by_test false is (suc i) at later = later i at

above : Timestamp → Peak → Bool
above stamp peak = stamp_lt stamp peak.stamp

-- the first above a timestamp, with one writing more
pub first_above-raised : (peaks : List Peak) (place : ℕ) (stamp s : Timestamp)
    → first_above s (raised peaks place stamp) ≡ option_or (first_above s peaks) (cond (stamp_lt s stamp) (Some place) None)
first_above-raised peaks place stamp s = by_last (slice_get peaks (length peaks - 1)) refl
  where
    own : (b : Bool) → option_map (λ (peak : Peak). peak.place) (option_or (find (λ (peak : Peak). stamp_lt s peak.stamp) peaks) (cond b (Some (record { place = place; stamp = stamp })) None)) ≡ option_or (first_above s peaks) (cond b (Some place) None)
    own b = by_found (find (λ (peak : Peak). stamp_lt s peak.stamp) peaks) b
      where
        by_found : (o : Option Peak) (b : Bool) → option_map (λ (peak : Peak). peak.place) (option_or o (cond b (Some (record { place = place; stamp = stamp })) None)) ≡ option_or (option_map (λ (peak : Peak). peak.place) o) (cond b (Some place) None)
        by_found None true = refl
        by_found None false = refl
        by_found (Some peak) b = refl

    more : first_above s (peaks ++ record { place = place; stamp = stamp } ∷ []) ≡ option_or (first_above s peaks) (cond (stamp_lt s stamp) (Some place) None)
    more = ap (option_map (λ (peak : Peak). peak.place)) (find-append (λ (peak : Peak). stamp_lt s peak.stamp) peaks (record { place = place; stamp = stamp } ∷ [])) ∙ own (stamp_lt s stamp)

    same : (last : Peak) → slice_get peaks (length peaks - 1) ≡ Some last → stamp_lt last.stamp stamp ≡ false → (b : Bool) → stamp_lt s stamp ≡ b → first_above s peaks ≡ option_or (first_above s peaks) (cond b (Some place) None)
    same last at upto false is = sym (or-none (first_above s peaks))
    same last at upto true is =
        (let f = found-at (λ (peak : Peak). stamp_lt s peak.stamp) peaks (length peaks - 1) last at (stamp_lt-le s stamp last.stamp is upto) in
        let e : first_above s peaks ≡ Some f.0.place = ap (option_map (λ (peak : Peak). peak.place)) f.1 in
        rw (e) refl)

    by_last : (o : Option Peak) → slice_get peaks (length peaks - 1) ≡ o
        → first_above s (cond (option_map_or (λ (last : Peak). stamp_lt last.stamp stamp) o true) (peaks ++ record { place = place; stamp = stamp } ∷ []) peaks) ≡ option_or (first_above s peaks) (cond (stamp_lt s stamp) (Some place) None)
    by_last None at = more
    by_last (Some last) at =
        elim (cases_bool (stamp_lt last.stamp stamp)) [
          | inl higher ↦ rw higher more
          | inr upto ↦ rw upto (same last at upto (stamp_lt s stamp) refl)
        ]

-- those not above a timestamp stand in front of those that are, with one writing more
rising-raised : (peaks : List Peak) (place : ℕ) (stamp : Timestamp) → AreRising peaks → AreRising (raised peaks place stamp)
rising-raised peaks place stamp rising = by_last (slice_get peaks (length peaks - 1)) refl
  where
    all-upto : (s : Timestamp) (last : Peak) (i : ℕ) (d : Peak) → slice_get peaks (length peaks - 1) ≡ Some last → stamp_lt last.stamp stamp ≡ true → i < length peaks → stamp_lt s stamp ≡ false → not (stamp_lt s (get_or peaks i d).stamp) ≡ true
    all-upto s last i d at higher within below =
        rising s i (length peaks - 1) d (omega (arith, within)) (omega (arith, within))
        (let e : get_or peaks (length peaks - 1) d ≡ last = get_or_from_slice_get peaks (length peaks - 1) last d at in
        rw e (not-above (stamp_lt s last.stamp) refl))
      where
        not-above : (b : Bool) → stamp_lt s last.stamp ≡ b → not b ≡ true
        not-above false is = refl
        not-above true is = absurd (both_ways (stamp_lt s stamp) below (stamp_lt-trans s last.stamp stamp is higher))

    none-there : slice_get peaks (length peaks - 1) ≡ None → (i : ℕ) → i < length peaks → ⊥
    none-there none i within = by_list peaks none within
      where
        by_list : (xs : List Peak) → slice_get xs (length xs - 1) ≡ None → i < length xs → ⊥
        by_list xs is less = (let e = slice_get-get_or xs (length xs - 1) (record { place = place; stamp = stamp }) (omega (arith, less)) in none-some (get_or xs (length xs - 1) (record { place = place; stamp = stamp })) (sym is ∙ e))

    put : ((s : Timestamp) (i : ℕ) (d : Peak) → i < length peaks → stamp_lt s stamp ≡ false → not (stamp_lt s (get_or peaks i d).stamp) ≡ true) → AreRising (peaks ++ record { place = place; stamp = stamp } ∷ [])
    put upto s i j d le within passes =
        elim (cases_lt j (length peaks)) [
          | inl inside ↦
              let first : get_or (peaks ++ record { place = place; stamp = stamp } ∷ []) i d ≡ get_or peaks i d = get_or_append_left peaks (record { place = place; stamp = stamp } ∷ []) d i (omega (arith, le, inside)) in
              let second : get_or (peaks ++ record { place = place; stamp = stamp } ∷ []) j d ≡ get_or peaks j d = get_or_append_left peaks (record { place = place; stamp = stamp } ∷ []) d j inside in
              rw first (rising s i j d le inside (rw second at passes))
          | inr past ↦
              let at_end : j ≡ length peaks = omega (arith, past, simp length-append at within) in
              let last : get_or (peaks ++ record { place = place; stamp = stamp } ∷ []) j d ≡ record { place = place; stamp = stamp } = ap (λ n. get_or (peaks ++ record { place = place; stamp = stamp } ∷ []) n d) at_end ∙ get_or-append_seam peaks (record { place = place; stamp = stamp }) [] d in
              let below : stamp_lt s stamp ≡ false = not-true (stamp_lt s stamp) (rw last at passes) in
              elim (cases_lt i (length peaks)) [
                | inl inside ↦ rw (get_or_append_left peaks (record { place = place; stamp = stamp } ∷ []) d i inside) (upto s i d inside below)
                | inr beyond ↦
                    let same : i ≡ j = omega (arith, beyond, at_end, le) in
                    subst (λ n. not (stamp_lt s (get_or (peaks ++ record { place = place; stamp = stamp } ∷ []) n d).stamp) ≡ true) (sym same) passes
              ]
        ]
      where
        not-true : (b : Bool) → not b ≡ true → b ≡ false
        not-true false is = refl
        not-true true is = cc

    by_last : (o : Option Peak) → slice_get peaks (length peaks - 1) ≡ o → AreRising (cond (option_map_or (λ (last : Peak). stamp_lt last.stamp stamp) o true) (peaks ++ record { place = place; stamp = stamp } ∷ []) peaks)
    by_last None at = put (λ s i d within below. absurd (none-there at i within))
    by_last (Some last) at =
        elim (cases_bool (stamp_lt last.stamp stamp)) [
          | inl higher ↦ rw higher (put (λ s i d within below. all-upto s last i d at higher within below))
          | inr upto ↦ rw upto rising
        ]

module _ {Z : Type 0} where
  -- what stands under each key after the front of a log
  pub record AreRaised (log front : List Point) (entries : List (List ℕ × Vec Peak Z)) : Type 0 where
    pub rising : (key : List ℕ) → AreRising (peaks_under entries key)
    pub first : (key : List ℕ) (stamp : Timestamp) → first_above stamp (peaks_under entries key) ≡ first_from (overwriting_at log key stamp) 0 front

pub key_eq-bytes : (a b : List ℕ) → key_eq a b ≡ bytes_eq a b
unfolding key_eq
key_eq-bytes a b = refl

abbrev pub items_in : {Z : Type 0} → Option (Vec Peak Z) → List Peak
items_in {Z} found = option_map_or (λ (peaks : Vec Peak Z). peaks.items) found []

-- the writings under each key, with one more under one
pub peaks_under-added : {Z : Type 0} (old new : List (List ℕ × Vec Peak Z)) (key : List ℕ) (place : ℕ) (stamp : Timestamp) (peaks : Vec Peak Z) (k : List ℕ)
    → lookup (is_at (slice_cmp nat_cmp k)) new ≡ cond (is_at (slice_cmp nat_cmp key) k) (Some peaks) (lookup (is_at (slice_cmp nat_cmp k)) old)
    → peaks.items ≡ raised (peaks_under old key) place stamp
    → peaks_under new k ≡ cond (key_eq key k) (raised (peaks_under old k) place stamp) (peaks_under old k)
peaks_under-added {Z} old new key place stamp peaks k update more =
    ap items_in update
    ∙ ap (λ b. items_in (cond b (Some peaks) (lookup (is_at (slice_cmp nat_cmp k)) old))) (is_eq-slice_cmp key k)
    ∙ at (bytes_eq key k) refl
    ∙ ap (λ b. cond b (raised (peaks_under old k) place stamp) (peaks_under old k)) (sym (key_eq-bytes key k))
  where
    at : (b : Bool) → bytes_eq key k ≡ b → items_in (cond b (Some peaks) (lookup (is_at (slice_cmp nat_cmp k)) old)) ≡ cond b (raised (peaks_under old k) place stamp) (peaks_under old k)
    at true is = more ∙ ap (λ q. raised (peaks_under old q) place stamp) ((bytes_decides key k).0 is)
    at false is = refl

pub peaks-of-none : {Z : Type 0} (old : List (List ℕ × Vec Peak Z)) (key : List ℕ) (empty peaks : Vec Peak Z)
    → empty.items ≡ [] → peaks ≡ unwrap_or (lookup (is_at (slice_cmp nat_cmp key)) old) empty → peaks.items ≡ peaks_under old key
peaks-of-none {Z} old key empty peaks none is = ap (λ (v : Vec Peak Z). v.items) is ∙ at (lookup (is_at (slice_cmp nat_cmp key)) old)
  where
    at : (found : Option (Vec Peak Z)) → (unwrap_or found empty).items ≡ option_map_or (λ (peaks : Vec Peak Z). peaks.items) found []
    at None = none
    at (Some peaks) = refl

-- ---- along a log

keys-begun : (log : List Point) (place op : ℕ) → first_from (key_at op) place log ≡ option_map (λ (b : Beginning). b.key) (first_from (beginning_at op) place log)
keys-begun [] place op = refl
keys-begun (Begin o client key act ∷ log) place op = by_test (o == op) (keys-begun log (place + 1) op)
  where
    by_test : (b : Bool) → first_from (key_at op) (place + 1) log ≡ option_map (λ (b : Beginning). b.key) (first_from (beginning_at op) (place + 1) log)
        → option_or (cond b (Some key) None) (first_from (key_at op) (place + 1) log)
        ≡ option_map (λ (b : Beginning). b.key) (option_or (cond b (Some (record { place = place; client = client; key = key; act = act })) None) (first_from (beginning_at op) (place + 1) log))
    by_test true later = refl
    by_test false later = later
keys-begun (Ask o found ∷ log) place op = keys-begun log (place + 1) op
keys-begun (Set o stamp applied ∷ log) place op = keys-begun log (place + 1) op
keys-begun (Try o stamp found ∷ log) place op = keys-begun log (place + 1) op
keys-begun (End o ∷ log) place op = keys-begun log (place + 1) op

-- an operation is of a key where it began on it
of-key : (log : List Point) (key : List ℕ) (op : ℕ) → is_of_key log key op ≡ option_map_or (λ (k : List ℕ). key_eq k key) (first_from (key_at op) 0 log) false
unfolding beginning
of-key log key op = sym (ap (λ o. option_map_or (λ (k : List ℕ). key_eq k key) o false) (keys-begun log 0 op) ∙ by_begun (first_from (beginning_at op) 0 log))
  where
    by_begun : (o : Option Beginning) → option_map_or (λ (k : List ℕ). key_eq k key) (option_map (λ (b : Beginning). b.key) o) false ≡ option_map_or (λ (b : Beginning). key_eq b.key key) o false
    by_begun None = refl
    by_begun (Some b) = refl

-- a point that is no applied writing of an operation with a key overwrites nothing
pub overwrites-none : (log : List Point) (entries : List (ℕ × List ℕ)) (point : Point) → AreFirsts key_at log entries → applied_writing entries point ≡ None
    → (key : List ℕ) (stamp : Timestamp) (place : ℕ) → overwriting_at log key stamp place point ≡ None
overwrites-none log entries (Begin op client k act) keys none key stamp place = refl
overwrites-none log entries (Ask op found) keys none key stamp place = refl
overwrites-none log entries (Set op s false) keys none key stamp place = refl
overwrites-none log entries (Set op s true) keys none key stamp place =
    rw (of-key log key op, sym (keys op)) (by_key (under entries op) none)
  where
    by_key : (o : Option (List ℕ)) → option_map {U = List ℕ × Timestamp} (λ (key : List ℕ). (key, s)) o ≡ None → cond (option_map_or (λ (k : List ℕ). key_eq k key) o false && stamp_lt stamp s) (Some place) None ≡ None
    by_key None e = refl
    by_key (Some k) e = cc
overwrites-none log entries (Try op s found) keys none key stamp place = refl
overwrites-none log entries (End op) keys none key stamp place = refl

-- an applied writing overwrites what is of its key and has a smaller timestamp
pub overwrites-one : (log : List Point) (entries : List (ℕ × List ℕ)) (point : Point) (k : List ℕ) (s : Timestamp) → AreFirsts key_at log entries
    → applied_writing entries point ≡ Some (k, s) → (key : List ℕ) (stamp : Timestamp) (place : ℕ)
    → overwriting_at log key stamp place point ≡ cond (key_eq k key && stamp_lt stamp s) (Some place) None
overwrites-one log entries (Begin op client q act) k s keys one key stamp place = cc
overwrites-one log entries (Ask op found) k s keys one key stamp place = cc
overwrites-one log entries (Set op t false) k s keys one key stamp place = cc
overwrites-one log entries (Set op t true) k s keys one key stamp place =
    rw (of-key log key op, sym (keys op)) (by_key (under entries op) one)
  where
    by_key : (o : Option (List ℕ)) → option_map {U = List ℕ × Timestamp} (λ (key : List ℕ). (key, t)) o ≡ Some (k, s) → cond (option_map_or (λ (k : List ℕ). key_eq k key) o false && stamp_lt stamp t) (Some place) None ≡ cond (key_eq k key && stamp_lt stamp s) (Some place) None
    by_key None e = cc
    by_key (Some q) e =
        (let pair_ : (q, t) ≡ (k, s) = same_Some (q, t) (k, s) e in
        ap (λ (p : List ℕ × Timestamp). cond (key_eq p.0 key && stamp_lt stamp p.1) (Some place) None) pair_)
overwrites-one log entries (Try op t found) k s keys one key stamp place = cc
overwrites-one log entries (End op) k s keys one key stamp place = cc

front-more : (log points : List Point) (place : ℕ) (point : Point) (key : List ℕ) (stamp : Timestamp) → place < length points → point ≡ get_or points place point
    → first_from (overwriting_at log key stamp) 0 (take (place + 1) points) ≡ option_or (first_from (overwriting_at log key stamp) 0 (take place points)) (overwriting_at log key stamp place point)
front-more log points place point key stamp within is =
    let e : take (place + 1) points ≡ take place points ++ point ∷ [] = take_more points place point within ∙ ap (λ p. take place points ++ p ∷ []) (sym is) in
    let n : length (take place points) ≡ place = length-take-le place points (omega (arith, within)) in
    ap (first_from (overwriting_at log key stamp) 0) e
    ∙ first-more (overwriting_at log key stamp) 0 (take place points) point
    ∙ ap (λ n. option_or (first_from (overwriting_at log key stamp) 0 (take place points)) (overwriting_at log key stamp n point)) (let m : 0 + length (take place points) ≡ place = omega (arith, n) in m)

module _ {Z : Type 0} where
  pub raised-same : (points : List Point) (place : ℕ) (point : Point) (keys : List (ℕ × List ℕ)) (entries : List (List ℕ × Vec Peak Z)) → place < length points → point ≡ get_or points place point
      → AreFirsts key_at points keys → applied_writing keys point ≡ None → AreRaised points (take place points) entries → AreRaised points (take (place + 1) points) entries
  raised-same points place point keys entries within is firsts none before = record {
    rising = before.rising;
    first = λ key stamp. before.first key stamp ∙ sym (front-more points points place point key stamp within is ∙ ap (option_or (first_from (overwriting_at points key stamp) 0 (take place points))) (overwrites-none points keys point firsts none key stamp place) ∙ or-none (first_from (overwriting_at points key stamp) 0 (take place points)));
  }

  pub raised-more : (points : List Point) (place : ℕ) (point : Point) (keys : List (ℕ × List ℕ)) (old new : List (List ℕ × Vec Peak Z)) (written : List ℕ × Timestamp) → place < length points → point ≡ get_or points place point
      → AreFirsts key_at points keys → applied_writing keys point ≡ Some written → AreRaised points (take place points) old
      → ((key : List ℕ) → peaks_under new key ≡ cond (key_eq written.0 key) (raised (peaks_under old key) place written.1) (peaks_under old key))
      → AreRaised points (take (place + 1) points) new
  raised-more points place point keys old new written within is firsts one before update = record {
    rising = λ key. subst AreRising (sym (update key)) (rises key (key_eq written.0 key));
    first = λ key stamp.
        (ap (first_above stamp) (update key)
        ∙ finds key stamp (key_eq written.0 key)
        ∙ ap (λ o. option_or o (cond (key_eq written.0 key && stamp_lt stamp written.1) (Some place) None)) (before.first key stamp)
        ∙ sym (front-more points points place point key stamp within is ∙ ap (option_or (first_from (overwriting_at points key stamp) 0 (take place points))) (overwrites-one points keys point written.0 written.1 firsts one key stamp place)));
  }
    where
      rises : (key : List ℕ) (b : Bool) → AreRising (cond b (raised (peaks_under old key) place written.1) (peaks_under old key))
      rises key true = rising-raised (peaks_under old key) place written.1 (before.rising key)
      rises key false = before.rising key

      finds : (key : List ℕ) (stamp : Timestamp) (b : Bool) → first_above stamp (cond b (raised (peaks_under old key) place written.1) (peaks_under old key)) ≡ option_or (first_above stamp (peaks_under old key)) (cond (b && stamp_lt stamp written.1) (Some place) None)
      finds key stamp true = first_above-raised (peaks_under old key) place written.1 stamp
      finds key stamp false = sym (or-none (first_above stamp (peaks_under old key)))

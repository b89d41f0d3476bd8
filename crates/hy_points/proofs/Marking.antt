-- The marks of a log with one point more.
use Rattle.std.proofs.Common.{◌≡◌, ℕ, ◌+◌, ◌<◌, Bool, true, false, cond, map, Vec, unwrap_or, append-nil, List, [], ◌∷◌, ◌++◌, length, take, get_or, Option, Some, None, refl, sym, ap, ◌∙◌}
use Rattle.std.specs.List.{filter_map, cons_option}
use Rattle.std.proofs.lemmas.List.{take_more}
use Rattle.std.proofs.lemmas.Map.Text.{is_eq-slice_cmp}
use Rattle.std.specs.BTreeMap.{is_at}
use Rattle.std.specs.BTreeSet as set
use Rattle.std.specs.Cmp.Lexicographic.{slice_cmp, bytes_decides}
use Rattle.std.specs.Map.{lookup}
use Rattle.std.specs.Option.{option_map, option_map_or}
use Rattle.std.specs.Ordering.{nat_cmp}
use Rattle.std.specs.Str.{bytes_eq}
use Rattle.hy_record.specs.Key.{key_eq}
use Rattle.hy_record.proofs.Order.{key_eq-true}
use Rattle.hy_order.specs.Keys.{insert_key, sorted_keys}
use Rattle.hy_order.proofs.DueKeys.{insert_key-set, sorted_keys-more}
use Rattle.hy_points.specs.declared.mark.Mark.{Mark}
use Rattle.hy_points.specs.declared.point.Point.{Point}
use Rattle.hy_points.specs.declared.point.Point.TheVariants.{Begin, Ask, Set, Try, End}
use Rattle.hy_points.specs.Marks.{operation_mark, point_mark, own_mark, marks_under, marks_of, begun_key, begun_keys, AreGrouped, order_under, order_at, op_of, moment_cmp, sorted_by, linearization_of}
use Rattle.hy_points.proofs.Raising.{key_eq-bytes}
use Rattle.std.proofs.lemmas.List.Elements.{filter_map-append}

pub filter_map-more : {A B : Type 0} (f : A → Option B) (xs : List A) (i : ℕ) (x : A) → i < length xs → x ≡ get_or xs i x
    → filter_map f (take (i + 1) xs) ≡ filter_map f (take i xs) ++ cons_option (f x) []
filter_map-more f xs i x within is =
    ap (filter_map f) (take_more xs i x within ∙ ap (λ y. take i xs ++ y ∷ []) (sym is)) ∙ filter_map-append f (take i xs) (x ∷ [])

-- the mark, where it is one of the key
abbrev of_key : List ℕ → Option (List ℕ × Mark) → Option Mark
of_key key None = None
of_key key (Some own) = cond (key_eq own.0 key) (Some own.1) None

own-point : (log : List Point) (key : List ℕ) (point : Point) → point_mark log key point ≡ of_key key (own_mark log point)
own-point log key (Ask op found) = refl
own-point log key (Set op stamp applied) = refl
own-point log key (Try op stamp found) = refl
own-point log key (End op) = refl
own-point log key (Begin op client k act) = by_test (key_eq k key) refl
  where
    of-none : (o : Option Mark) → key_eq k key ≡ false → None ≡ of_key key (option_map {U = List ℕ × Mark} (λ (mark : Mark). (k, mark)) o)
    of-none None e = refl
    of-none (Some m) e = rw e refl

    of-some : (o : Option Mark) → key_eq k key ≡ true → o ≡ of_key key (option_map {U = List ℕ × Mark} (λ (mark : Mark). (k, mark)) o)
    of-some None e = refl
    of-some (Some m) e = rw e refl

    by_test : (b : Bool) → key_eq k key ≡ b → cond b (operation_mark log key op act) None ≡ of_key key (option_map {U = List ℕ × Mark} (λ (mark : Mark). (k, mark)) (operation_mark log k op act))
    by_test false e = of-none (operation_mark log k op act) e
    by_test true e = ap (λ q. operation_mark log q op act) (sym (key_eq-true k key e)) ∙ of-some (operation_mark log k op act) e

module _ {Z : Type 0} (log : List Point) (place : ℕ) (point : Point) (within : place < length log) (is : point ≡ get_or log place point) where
  -- the front of the marks
  abbrev IsGroupedTo : ℕ → List (List ℕ × Vec Mark Z) → Type 0
  IsGroupedTo n entries = (key : List ℕ) → marks_under entries key ≡ filter_map (point_mark log key) (take n log)

  pub grouped-more : (own : List ℕ × Mark) (old new : List (List ℕ × Vec Mark Z)) → own_mark log point ≡ Some own → IsGroupedTo place old
      → ((key : List ℕ) → marks_under new key ≡ cond (key_eq own.0 key) (marks_under old key ++ own.1 ∷ []) (marks_under old key)) → IsGroupedTo (place + 1) new
  grouped-more own old new mark before update = λ key.
      update key
      ∙ joined key (key_eq own.0 key)
      ∙ ap (λ marks. marks ++ cons_option (of_key key (Some own)) []) (before key)
      ∙ sym (filter_map-more (point_mark log key) log place point within is ∙ ap (λ o. filter_map (point_mark log key) (take place log) ++ cons_option o []) (own-point log key point ∙ ap (of_key key) mark))
    where
      joined : (key : List ℕ) (b : Bool) → cond b (marks_under old key ++ own.1 ∷ []) (marks_under old key) ≡ marks_under old key ++ cons_option (cond b (Some own.1) None) []
      joined key true = refl
      joined key false = sym (append-nil (marks_under old key))

  pub grouped-same : (entries : List (List ℕ × Vec Mark Z)) → own_mark log point ≡ None → IsGroupedTo place entries → IsGroupedTo (place + 1) entries
  grouped-same entries none before = λ key.
      before key
      ∙ sym (filter_map-more (point_mark log key) log place point within is ∙ ap (λ o. filter_map (point_mark log key) (take place log) ++ cons_option o []) (own-point log key point ∙ ap (of_key key) none)
      ∙ append-nil (filter_map (point_mark log key) (take place log)))

-- the marks under each key, with one more under one
pub marks_under-added : {Z : Type 0} (old new : List (List ℕ × Vec Mark Z)) (key : List ℕ) (mark : Mark) (marks : Vec Mark Z) (k : List ℕ)
    → lookup (is_at (slice_cmp nat_cmp k)) new ≡ cond (is_at (slice_cmp nat_cmp key) k) (Some marks) (lookup (is_at (slice_cmp nat_cmp k)) old)
    → marks.items ≡ marks_under old key ++ mark ∷ []
    → marks_under new k ≡ cond (key_eq key k) (marks_under old k ++ mark ∷ []) (marks_under old k)
marks_under-added {Z} old new key mark marks k update more =
    ap (λ o. option_map_or (λ (marks : Vec Mark Z). marks.items) o []) update
    ∙ ap (λ b. option_map_or (λ (marks : Vec Mark Z). marks.items) (cond b (Some marks) (lookup (is_at (slice_cmp nat_cmp k)) old)) []) (is_eq-slice_cmp key k)
    ∙ at (bytes_eq key k) refl
    ∙ ap (λ b. cond b (marks_under old k ++ mark ∷ []) (marks_under old k)) (sym (key_eq-bytes key k))
  where
    at : (b : Bool) → bytes_eq key k ≡ b → option_map_or (λ (marks : Vec Mark Z). marks.items) (cond b (Some marks) (lookup (is_at (slice_cmp nat_cmp k)) old)) [] ≡ cond b (marks_under old k ++ mark ∷ []) (marks_under old k)
    at true is = more ∙ ap (λ q. marks_under old q ++ mark ∷ []) ((bytes_decides key k).0 is)
    at false is = refl

pub marks-of-none : {Z : Type 0} (old : List (List ℕ × Vec Mark Z)) (key : List ℕ) (empty marks : Vec Mark Z)
    → empty.items ≡ [] → marks ≡ unwrap_or (lookup (is_at (slice_cmp nat_cmp key)) old) empty → marks.items ≡ marks_under old key
marks-of-none {Z} old key empty marks none is = ap (λ (v : Vec Mark Z). v.items) is ∙ at (lookup (is_at (slice_cmp nat_cmp key)) old)
  where
    at : (found : Option (Vec Mark Z)) → (unwrap_or found empty).items ≡ option_map_or (λ (marks : Vec Mark Z). marks.items) found []
    at None = none
    at (Some marks) = refl

-- the keys of one point more
module _ (log : List Point) (place : ℕ) (point : Point) (within : place < length log) (is : point ≡ get_or log place point) where
  pub begun-more : (key : List ℕ) (keys new : List (List ℕ)) → begun_key point ≡ Some key → keys ≡ sorted_keys (begun_keys (take place log))
      → new ≡ set.insert_key (slice_cmp nat_cmp) keys key → new ≡ sorted_keys (begun_keys (take (place + 1) log))
  begun-more key keys new names so_far is_new =
      is_new ∙ insert_key-set keys key ∙ ap (insert_key key) so_far ∙ sym (sorted_keys-more (begun_keys (take place log)) key)
      ∙ ap sorted_keys (sym (filter_map-more begun_key log place point within is ∙ ap (λ o. begun_keys (take place log) ++ cons_option o []) names))

  pub begun-same : begun_key point ≡ None → begun_keys (take (place + 1) log) ≡ begun_keys (take place log)
  begun-same none = filter_map-more begun_key log place point within is ∙ ap (λ o. begun_keys (take place log) ++ cons_option o []) none ∙ append-nil (begun_keys (take place log))

-- the orders by the marks under the keys are the orders of the log
pub orders-under : {Z : Type 0} (log : List Point) (entries : List (List ℕ × Vec Mark Z)) (keys : List (List ℕ)) → AreGrouped log entries → map (order_under entries) keys ≡ map (order_at log) keys
unfolding linearization_of
orders-under log entries [] grouped = refl
orders-under log entries (key ∷ keys) grouped =
    ap (λ marks. record { key = key; ops = map op_of (sorted_by moment_cmp marks) } ∷ map (order_under entries) keys) (grouped key)
    ∙ ap (λ orders. record { key = key; ops = map op_of (sorted_by moment_cmp (marks_of log key)) } ∷ orders) (orders-under log entries keys grouped)

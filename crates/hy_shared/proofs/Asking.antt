-- The steps on a head: a reading and a writing.
use Rattle.std.proofs.Common.{◌≡◌, ℕ, ◌+◌, ◌<◌, ◌≤◌, max, Bool, true, false, cond, List, [], ◌∷◌, ◌++◌, length, set, slice_index, ◌&&◌, Some, None, refl, sym, ap, ◌∙◌, subst, inl, inr, arith, length-set, get_or-set_same, get_or-set_other, eq-eqb, ne_eqb}
use Rattle.std.specs.Prelude.{◌⊎◌}
use Rattle.std.specs.Option.{option_or, option_map_or}
use Rattle.std.specs.List.{AllByRecursion}
use Rattle.std.proofs.lemmas.Bool.{cases_eq}
use Rattle.std.proofs.lemmas.List.{set-get_or}
use Rattle.std.proofs.lemmas.Fmt.{decimal_injective}
use Rattle.atomic_table.specs.Table.{Me, Allows, keeps}
use Rattle.hy_record.specs.Key.{key_eq}
use Rattle.hy_record.specs.Stamp.{Timestamp, stamp_lt}
use Rattle.hy_record.proofs.Order.{key_eq-same, key_eq-true}
use Rattle.hy_points.specs.declared.point.Point.{Point}
use Rattle.hy_points.specs.declared.point.Point.TheVariants as point
use Rattle.hy_points.specs.Lookups.{Beginning, beginning_at, beginning, is_of_key}
use Rattle.hy_points.specs.Atomic.{IsAtomicLog, FitsAsk, FitsSet, logged_stamp}
use Rattle.hy_shared.specs.declared.layout.Layout.{Layout}
use Rattle.hy_shared.specs.declared.event.Event.{Event}
use Rattle.hy_shared.specs.declared.event.Event.TheVariants.{Ask, Set}
use Rattle.hy_shared.specs.declared.view.View.{View}
use Rattle.hy_shared.specs.Layout.{IsLayout, client_of, head_place}
use Rattle.hy_shared.specs.Events.{point_of, points_of, key_name, head_write, pack, packed_stamp}
use Rattle.hy_shared.specs.Rule.{IsWithin, IsWellWritten, IsSeen, IsTable, StandsIn}
use Rattle.hy_shared.specs.Moves.{seeing, Appends, FindsHead, RaisesHead}
use Rattle.hy_shared.proofs.Lists.{all-map}
use Rattle.hy_shared.proofs.Heads.{raised, kept-head, packed-pack, finds-head, row-bound}
use Rattle.hy_shared.proofs.Stamps.{stamp-stays, stamp-raised}
use Rattle.hy_shared.proofs.LogMore.{first-more}
use Rattle.hy_shared.proofs.Appending.{ShowsMore, shows-more, appended, apart-still}
use Rattle.hy_shared.proofs.Counts.{within-more, no-write, tells-appends}

within-all : (z : Layout) (given : ℕ) → given ≤ z.clients → (es : List Event) → AllByRecursion (IsWithin z given) es → AllByRecursion (IsWithin z z.clients) es
within-all z given few es = all-map (IsWithin z given) (IsWithin z z.clients) (within-more z given z.clients few) es

-- ---- a reading

-- an operation reads the head of its key
pub asks : (z : Layout) → IsLayout z → (slots id : ℕ) (me : Me (Unit {0}) View) (key row : ℕ) → key < z.keys → client_of z row ≡ me.0.number
    → ((log : List Event) → AllByRecursion (IsWithin z z.clients) log → IsSeen z log me.0 → (found : Timestamp) → found ≡ logged_stamp (points_of log) (key_name key) → FitsAsk (points_of log) row found)
    → Allows (IsTable z) slots id me (head_place key) (λ n. n) (λ n after. (Appends z me.0 (Ask row (packed_stamp n)) after.0 × FindsHead z after.0.seen key n) × (after.1 ≡ me.1))
asks z good slots id me key row key_in own may s table long at small =
    let log = table.log in let given = table.given in let shown = table.shown in
    let known = table.known id me.0 at in
    let words : List ℕ = s.words in
    let n : ℕ = slice_index words (head_place key) in
    let e : Event = Ask row (packed_stamp n) in
    let finds : packed_stamp n ≡ logged_stamp (points_of log) (key_name key) = ap packed_stamp (shown.heads key key_in) ∙ sym (shown.stamps key key_in) in
    let more : ShowsMore z words words log given e = record {
      fits = may log (within-all z given shown.few log shown.within) known.seen (packed_stamp n) finds;
      within = let number = known.number in record { client = omega (arith, own, number); made = tt };
      wide = refl;
      counted = omega arith;
      heads = λ k in_. omega arith;
      stamps = λ k in_ atomic. no-write log e (slice_index words (head_place k)) k refl refl atomic (shown.stamps k in_ ∙ ap packed_stamp (sym (shown.heads k in_)));
      rows = λ k past. refl;
      kept = tt;
    } in
    let shown' = shows-more z words words log given e shown more in
    let view : View = seeing me.0 (log ++ e ∷ []) in (
      view,
      keeps,
      tt,
      subst (λ ws. IsTable z (record { words = ws; homes = s.homes; views = set s.views id view })) (sym (set-get_or words (head_place key) 0)) (record {
        log = log ++ e ∷ [];
        given = given;
        shown = shown';
        known = appended z words words s.views log given id me.0 e table.known table.apart at more.rows own;
        apart = apart-still s.views id me.0 view at refl refl table.apart;
      }),
      (
        (
          tells-appends z log given me.0 e shown.few known.seen shown'.atomic shown'.within,
          finds-head z good key n (log ++ e ∷ []) (within-all z given shown.few (log ++ e ∷ []) shown'.within) (shown'.heads key key_in),
        ),
        refl,
      ),
    )

-- ---- a writing

-- the operation of a point stays on its key
on-key : (ps : List Point) (q : Point) (op : ℕ) (b : Beginning) → beginning ps op ≡ Some b → (key : List ℕ) → is_of_key (ps ++ q ∷ []) key op ≡ key_eq b.key key
unfolding beginning
on-key ps q op b is key = ap (λ o. option_map_or (λ (b : Beginning). key_eq b.key key) o false) (first-more (beginning_at op) 0 ps q ∙ ap (λ o. option_or o (beginning_at op (0 + length ps) q)) is)

-- two keys of a table have two names
names-apart : (z : Layout) → IsLayout z → (j k : ℕ) → j < z.keys → k < z.keys → key_name j ≡ key_name k → j ≡ k
unfolding key_name
names-apart z good j k in-j in-k same =
    let keys = good.keys in
    decimal_injective j k (omega (arith, in-j, keys)) (omega (arith, in-k, keys)) (ap tail same)
  where
    tail : List ℕ → List ℕ
    tail [] = []
    tail (x ∷ xs) = xs

-- nothing is picked where one of two tests fails
not-both : (a b : Bool) (stamp : Timestamp) → (b ≡ true → ⊥) → cond (a && b) (Some stamp) None ≡ None
not-both false b stamp other = refl
not-both true false stamp other = refl
not-both true true stamp other = absurd (other refl)

-- the timestamp of a key's record after a writing
module _ (z : Layout) (good : IsLayout z) (log : List Event) (row key n : ℕ) (stamp : Timestamp) (words : List ℕ) (key_in : key < z.keys) (client : stamp.cid < 256) (low : row < 16777216)
    (b : Beginning) (begun : beginning (points_of log) row ≡ Some b) (named : b.key ≡ key_name key) where
  abbrev applied : Bool
  applied = stamp_lt (packed_stamp n) stamp

  abbrev event : Event
  event = Set row key stamp applied words

  written-here : logged_stamp (points_of log) (key_name key) ≡ packed_stamp n → IsAtomicLog (points_of log ++ point_of event ∷ [])
      → logged_stamp (points_of log ++ point_of event ∷ []) (key_name key) ≡ packed_stamp (max n (pack stamp row))
  written-here held atomic = by_order applied refl
    where
      by_order : (x : Bool) → stamp_lt (packed_stamp n) stamp ≡ x → logged_stamp (points_of log ++ point_of event ∷ []) (key_name key) ≡ packed_stamp (max n (pack stamp row))
      by_order true above =
          stamp-raised (points_of log) (point_of event) atomic (key_name key) row stamp (ap (point.Set row stamp) above)
          (on-key (points_of log) (point_of event) row b begun (key_name key) ∙ ap (λ k. key_eq k (key_name key)) named ∙ key_eq-same (key_name key))
          (subst (λ s. stamp_lt s stamp ≡ true) (sym held) above)
          ∙ sym (ap packed_stamp (raised n stamp row client low above) ∙ (packed-pack stamp row client low).0)
      by_order false upto =
          stamp-stays (points_of log) (point_of event) atomic (key_name key) (ap (λ x. cond (x && is_of_key (points_of log ++ point_of event ∷ []) (key_name key) row) (Some stamp) None) upto)
          ∙ held ∙ sym (kept-head n stamp row client low upto)

  -- another key's record stays
  written-elsewhere : (k old : ℕ) → k < z.keys → (key ≡ k → ⊥) → logged_stamp (points_of log) (key_name k) ≡ packed_stamp old → IsAtomicLog (points_of log ++ point_of event ∷ [])
      → logged_stamp (points_of log ++ point_of event ∷ []) (key_name k) ≡ packed_stamp old
  written-elsewhere k old in_ other held atomic =
      stamp-stays (points_of log) (point_of event) atomic (key_name k) (not-both applied (is_of_key (points_of log ++ point_of event ∷ []) (key_name k) row) stamp (λ of.
      let named' : key_eq b.key (key_name k) ≡ true = sym (on-key (points_of log) (point_of event) row b begun (key_name k)) ∙ of in
      other (names-apart z good key k key_in in_ (sym named ∙ key_eq-true b.key (key_name k) named'))))
      ∙ held

  abbrev Stamps : ℕ → ℕ → Type 0
  Stamps k old = logged_stamp (points_of log ++ point_of event ∷ []) (key_name k) ≡ packed_stamp (max old (head_write k event))

  pub written-stamps : (k old : ℕ) → k < z.keys → (key ≡ k → old ≡ n) → logged_stamp (points_of log) (key_name k) ≡ packed_stamp old → IsAtomicLog (points_of log ++ point_of event ∷ []) → Stamps k old
  written-stamps k old in_ same held atomic = elim (cases_eq key k) [
    | inl is ↦
        let old_is : old ≡ n = same is in
        let write : head_write k event ≡ pack stamp row = ap (λ b. cond b (pack stamp row) 0) (eq-eqb key k is) in
        ap (λ j. logged_stamp (points_of log ++ point_of event ∷ []) (key_name j)) (sym is)
        ∙ written-here (ap (λ j. logged_stamp (points_of log) (key_name j)) is ∙ held ∙ ap packed_stamp old_is) atomic
        ∙ ap packed_stamp (let m : max n (pack stamp row) ≡ max old (head_write k event) = omega (arith, old_is, write) in m)
    | inr other ↦
        let write : head_write k event ≡ 0 = ap (λ b. cond b (pack stamp row) 0) (ne_eqb key k other) in
        written-elsewhere k old in_ other held atomic ∙ ap packed_stamp (let m : old ≡ max old (head_write k event) = omega (arith, write) in m)
  ]

-- an operation writes to the head of its key
pub raises : (z : Layout) → IsLayout z → (slots id : ℕ) (me : Me (Unit {0}) View) (key row : ℕ) (stamp : Timestamp) (words : List ℕ) → IsWellWritten z row key stamp words → client_of z row ≡ me.0.number
    → ((all_words : List ℕ) → StandsIn z all_words me.0.row me.0.written → StandsIn z all_words row words)
    → ((log : List Event) → AllByRecursion (IsWithin z z.clients) log → IsSeen z log me.0 → (applied : Bool) → applied ≡ stamp_lt (logged_stamp (points_of log) (key_name key)) stamp → FitsSet (points_of log) row stamp applied)
    → ((log : List Event) → AllByRecursion (IsWithin z z.clients) log → IsSeen z log me.0 → (b : Beginning) × (beginning (points_of log) row ≡ Some b) × (b.key ≡ key_name key))
    → Allows (IsTable z) slots id me (head_place key) (λ n. max n (pack stamp row)) (λ n after. RaisesHead z me.0 (Set row key stamp (stamp_lt (packed_stamp n) stamp) words) key n after.0 × (after.1 ≡ me.1))
raises z good slots id me key row stamp written well own stands may begun s table long at small =
    let log = table.log in let given = table.given in let shown = table.shown in
    let known = table.known id me.0 at in
    let words : List ℕ = s.words in
    let n : ℕ = slice_index words (head_place key) in
    let applied : Bool = stamp_lt (packed_stamp n) stamp in
    let e : Event = Set row key stamp applied written in
    let key_in = well.key_in in
    let held : packed_stamp n ≡ logged_stamp (points_of log) (key_name key) = ap packed_stamp (shown.heads key key_in) ∙ sym (shown.stamps key key_in) in
    let all_within = within-all z given shown.few log shown.within in
    let b = begun log all_within known.seen in
    let number = known.number in let few = shown.few in let clients = good.clients in let rows = good.rows in let of_client = well.client in
    let client : stamp.cid < 256 = omega (arith, of_client, own, number, few, clients) in
    let bound = row-bound z good row (omega (arith, own, number, few)) in
    let low : row < 16777216 = omega (arith, bound, rows) in
    let p : ℕ = max n (pack stamp row) in
    let new : List ℕ = set words (head_place key) p in
    let wide = shown.wide in
    let more : ShowsMore z words new log given e = record {
      fits = may log all_within known.seen applied (ap (λ s. stamp_lt s stamp) held);
      within = record { client = omega (arith, own, number); made = well };
      wide = length-set words (head_place key) p;
      counted = get_or-set_other words (head_place key) 0 p 0 (λ e'. absurd (omega (arith, e'))) ∙ (let k : slice_index words 0 ≡ slice_index words 0 + 0 = omega arith in k);
      heads = λ k in_. by_key z words key k n p row stamp applied written (omega (arith, wide, key_in)) refl refl (cases_eq key k);
      stamps = λ k in_ atomic. written-stamps z good log row key n stamp written key_in client low b.0 b.1 b.2 k (slice_index words (head_place k)) in_ (λ is. ap (λ j. slice_index words (head_place j)) (sym is)) (shown.stamps k in_ ∙ ap packed_stamp (sym (shown.heads k in_))) atomic;
      rows = λ k past. get_or-set_other words (head_place key) k p 0 (λ e'. absurd (omega (arith, e', past, key_in)));
      kept = stands words known.written;
    } in
    let shown' = shows-more z words new log given e shown more in
    let view : View = seeing me.0 (log ++ e ∷ []) in (
      view,
      keeps,
      tt,
      record {
        log = log ++ e ∷ [];
        given = given;
        shown = shown';
        known = appended z words new s.views log given id me.0 e table.known table.apart at more.rows own;
        apart = apart-still s.views id me.0 view at refl refl table.apart;
      },
      (
        record {
          appends = tells-appends z log given me.0 e shown.few known.seen shown'.atomic shown'.within;
          number = (finds-head z good key n log all_within (shown.heads key key_in)).number;
          held = held ∙ ap (λ l. logged_stamp (points_of l) (key_name key)) known.seen.begins;
        },
        refl,
      ),
    )
  where
    by_key : (z : Layout) (words : List ℕ) (key k n p row : ℕ) (stamp : Timestamp) (applied : Bool) (written : List ℕ) → head_place key < length words → n ≡ slice_index words (head_place key) → p ≡ max n (pack stamp row)
        → (key ≡ k) ⊎ (key ≡ k → ⊥) → slice_index (set words (head_place key) p) (head_place k) ≡ max (slice_index words (head_place k)) (head_write k (Set row key stamp applied written))
    by_key z words key k n p row stamp applied written inside n_is p_is (inl is) =
        let write : head_write k (Set row key stamp applied written) ≡ pack stamp row = ap (λ b. cond b (pack stamp row) 0) (eq-eqb key k is) in
        ap (λ j. slice_index (set words (head_place key) p) (head_place j)) (sym is) ∙ get_or-set_same words (head_place key) p 0 inside ∙ p_is
        ∙ (let m : max n (pack stamp row) ≡ max (slice_index words (head_place k)) (head_write k (Set row key stamp applied written)) =
        ap (λ w. max w (pack stamp row)) (n_is ∙ ap (λ j. slice_index words (head_place j)) is) ∙ ap (max (slice_index words (head_place k))) (sym write) in m)
    by_key z words key k n p row stamp applied written inside n_is p_is (inr other) =
        let write : head_write k (Set row key stamp applied written) ≡ 0 = ap (λ b. cond b (pack stamp row) 0) (ne_eqb key k other) in
        get_or-set_other words (head_place key) (head_place k) p 0 (λ e'. other (omega (arith, e'))) ∙ (let m : slice_index words (head_place k) ≡ max (slice_index words (head_place k)) (head_write k (Set row key stamp applied written)) = omega (arith, write) in m)

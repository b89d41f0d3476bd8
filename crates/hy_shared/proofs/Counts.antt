-- The steps on word 0 that count: an invocation and a return.
use Rattle.std.proofs.Common.{◌≡◌, ℕ, ◌+◌, ◌%◌, ◌^◌, ◌≤◌, max, Bool, true, false, List, [], ◌∷◌, ◌++◌, set, slice_index, None, refl, sym, ap, ◌∙◌, subst, arith, mod-eq_of_lt, length-set, get_or-set_same, get_or-set_other, true≢false}
use Rattle.std.specs.List.{AllByRecursion}
use Rattle.atomic_table.specs.Table.{Me, Allows, keeps}
use Rattle.hy_points.specs.declared.point.Point.{Point}
use Rattle.hy_points.specs.declared.point.Point.TheVariants as point
use Rattle.hy_shared.specs.declared.event.Event.TheVariants.{Begin, Ask, Set, End}
use Rattle.hy_points.specs.Atomic.{IsAtomicLog, Fits, applied_stamp, logged_stamp}
use Rattle.hy_shared.specs.declared.layout.Layout.{Layout}
use Rattle.hy_shared.specs.declared.event.Event.{Event}
use Rattle.hy_shared.specs.declared.view.View.{View}
use Rattle.hy_shared.specs.Layout.{IsLayout, client_of, head_place}
use Rattle.hy_shared.specs.Events.{point_of, points_of, row_in, key_name, weight_of, event_number, head_write, packed_stamp}
use Rattle.hy_shared.specs.Rule.{IsWithin, IsWellMade, IsSeen, IsKept, IsTable}
use Rattle.hy_shared.specs.Moves.{seeing, Appends}
use Rattle.hy_shared.proofs.Lists.{all-map}
use Rattle.hy_shared.proofs.Counting.{few-events}
use Rattle.hy_shared.proofs.Stamps.{stamp-stays}
use Rattle.hy_shared.proofs.Appending.{ShowsMore, shows-more, appended, apart-still, event-number-more}

-- the point is a writing or a try
abbrev pub is_set : Point → Bool
is_set (point.Begin op client key act) = false
is_set (point.Ask op found) = false
is_set (point.Set op stamp applied) = true
is_set (point.Try op stamp found) = true
is_set (point.End op) = false

-- the events that are none raise no record
silent-event : (log : List Point) (key : List ℕ) (e : Event) → is_set (point_of e) ≡ false → applied_stamp log key (point_of e) ≡ None
silent-event log key (Begin row client k act) plain = refl
silent-event log key (Ask row found) plain = refl
silent-event log key (Set row k stamp applied words) plain = absurd (true≢false plain)
silent-event log key (End row stamp) plain = refl

-- a client of fewer is one of more
pub within-more : (z : Layout) (m n : ℕ) → m ≤ n → (e : Event) → IsWithin z m e → IsWithin z n e
within-more z m n le e within = let c = within.client in record { client = omega (arith, c, le); made = within.made }

-- an event that writes no head leaves the record's timestamp
pub no-write : (log : List Event) (e : Event) (old key : ℕ) → is_set (point_of e) ≡ false → head_write key e ≡ 0 → IsAtomicLog (points_of log ++ point_of e ∷ [])
    → logged_stamp (points_of log) (key_name key) ≡ packed_stamp old
    → logged_stamp (points_of log ++ point_of e ∷ []) (key_name key) ≡ packed_stamp (max old (head_write key e))
no-write log e old key plain none atomic is =
    stamp-stays (points_of log) (point_of e) atomic (key_name key) (silent-event (points_of log ++ point_of e ∷ []) (key_name key) e plain) ∙ is ∙ ap packed_stamp (let m : old ≡ max old (head_write key e) = rw none (omega arith) in m)

-- what a seat is told that has added the event
abbrev pub tells-appends : (z : Layout) (log : List Event) (given : ℕ) (v : View) (e : Event) → given ≤ z.clients → IsSeen z log v → IsAtomicLog (points_of (log ++ e ∷ [])) → AllByRecursion (IsWithin z given) (log ++ e ∷ []) → Appends z v e (seeing v (log ++ e ∷ []))
tells-appends z log given v e few seen atomic within =
    record {
      between = seen.rest;
      seen = ap (λ l. seeing v (l ++ e ∷ [])) seen.begins;
      others = seen.others;
      atomic = subst (λ l. IsAtomicLog (points_of (l ++ e ∷ []))) seen.begins atomic;
      within = all-map (IsWithin z given) (IsWithin z z.clients) (within-more z given z.clients few) ((v.seen ++ seen.rest) ++ e ∷ [])
          (subst (λ l. AllByRecursion (IsWithin z given) (l ++ e ∷ [])) seen.begins within);
    }

-- an invocation or a return, which counts in word 0
pub counts : (z : Layout) → IsLayout z → (slots id : ℕ) (me : Me (Unit {0}) View) (e : Event)
    → weight_of e ≡ 1 → is_set (point_of e) ≡ false → ((key : ℕ) → head_write key e ≡ 0) → ((words : List ℕ) → IsKept z words e)
    → client_of z (row_in e) ≡ me.0.number → IsWellMade z e
    → ((log : List Event) → IsAtomicLog (points_of log) → AllByRecursion (IsWithin z z.clients) log → IsSeen z log me.0 → Fits (points_of log) (point_of e))
    → Allows (IsTable z) slots id me 0 (λ n. (n + 1) % 2 ^ 64) (λ n after. (Appends z me.0 e after.0 × (n + 1 ≡ event_number after.0.seen) × (n ≤ 16777214)) × (after.1 ≡ me.1))
counts z good slots id me e one plain nothing kept own made may s table long at small =
    let log = table.log in let given = table.given in let shown = table.shown in
    let known = table.known id me.0 at in
    let words : List ℕ = s.words in
    let n : ℕ = slice_index words 0 in
    let few = few-events z given good shown.few log shown.atomic shown.within in
    let counted = shown.counted in
    let next : (n + 1) % 2 ^ 64 ≡ n + 1 = mod-eq_of_lt {n = n + 1} {m = 2 ^ 64} (omega (arith, few, counted)) in
    let new : List ℕ = set words 0 ((n + 1) % 2 ^ 64) in
    let wide = shown.wide in
    let more : ShowsMore z words new log given e = record {
      fits = may log shown.atomic (all-map (IsWithin z given) (IsWithin z z.clients) (within-more z given z.clients shown.few) log shown.within) known.seen;
      within = let number = known.number in record { client = omega (arith, own, number); made = made };
      wide = length-set words 0 ((n + 1) % 2 ^ 64);
      counted = get_or-set_same words 0 ((n + 1) % 2 ^ 64) 0 (omega (arith, wide)) ∙ next ∙ ap (λ k. n + k) (sym one);
      heads = λ key in_. get_or-set_other words 0 (head_place key) ((n + 1) % 2 ^ 64) 0 (λ e'. absurd (omega (arith, e'))) ∙ (let none = nothing key in omega (arith, none));
      stamps = λ key in_ atomic. no-write log e (slice_index words (head_place key)) key plain (nothing key) atomic (shown.stamps key in_ ∙ ap packed_stamp (sym (shown.heads key in_)));
      rows = λ k past. get_or-set_other words 0 k ((n + 1) % 2 ^ 64) 0 (λ e'. absurd (omega (arith, e', past)));
      kept = kept words;
    } in
    let shown' = shows-more z words new log given e shown more in (
      seeing me.0 (log ++ e ∷ []),
      keeps,
      tt,
      record {
        log = log ++ e ∷ [];
        given = given;
        shown = shown';
        known = appended z words new s.views log given id me.0 e table.known table.apart at more.rows own;
        apart = apart-still s.views id me.0 (seeing me.0 (log ++ e ∷ [])) at refl refl table.apart;
      },
      (
        (
          tells-appends z log given me.0 e shown.few known.seen shown'.atomic shown'.within,
          (let m = event-number-more log e in omega (arith, m, one, counted)),
          omega (arith, few, counted),
        ),
        refl,
      ),
    )

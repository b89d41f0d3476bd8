-- What is kept of each key stands for the requests: one request more changes the entry of its key alone.
use Rattle.std.proofs.Common.{◌≡◌, ℕ, Bool, true, false, cond, not, List, [], ◌∷◌, ◌++◌, Option, Some, None, refl, sym, ap, ◌∙◌, inl, inr}
use Rattle.std.specs.Prelude.{◌&&◌, ◌||◌, map, take}
use Rattle.std.proofs.lemmas.List.{append-nil}
use Rattle.hy_record.specs.declared.message.MetaAsk.{MetaAsk}
use Rattle.hy_record.specs.declared.message.MetaAsk.TheVariants as asks
use Rattle.hy_record.specs.declared.message.MetaSay.{MetaSay}
use Rattle.hy_record.specs.declared.message.MetaSay.TheVariants as says
use Rattle.hy_record.specs.Stamp.{Timestamp, stamp_lt, stamp_eq}
use Rattle.hy_record.specs.Stamps.{is_rising}
use Rattle.hy_record.specs.Key.{key_eq}
use Rattle.hy_record.specs.Record.{RecordValue}
use Rattle.hy_record.proofs.Order.{key_eq-true, stamp_lt-other}
use Rattle.hy_meta.specs.declared.watcher.Watcher.{Watcher}
use Rattle.hy_meta.specs.Service.{Attempt, attempt_of, is_judged, applies, stamp_of_record, record_after, record_stamp, outdates, outdated_by, has_stamp, forgets, is_old}
use Rattle.hy_meta.specs.Watches.{watches_of, is_passed, fired_watches, is_waiting, waiting_watches, watches_on, is_due, fired}
use Rattle.hy_meta.specs.Meta.{judged_answer, fired_by, service_answers}
use Rattle.hy_meta.specs.Entry.{EntryValue, no_entry, entry_stamp, olds_settled, watches_below, watches_from, tried, tried_say, tried_answers, waited, watched, watch_answers, forgotten, SameEntries, EntryPut, EntriesStandFor}
use Rattle.hy_meta.proofs.Rising.{cases_bool, has_stamp-insert, has_stamp-filter}
use Rattle.hy_meta.proofs.Lasting.{applied-parts, record-quiet}
use Rattle.hy_meta.proofs.Steps.{filter-same, filter-twice, record_after-applied, record_after-refused, is_passed-waiting, outdated-here, old_list-rising, waiting-applied, waiting-refused, waiting-watch, on-due, on-applied, on-push}

-- ---- choices

pub in_either : {A B : Type 0} (f : A → B) (b : Bool) (x y : A) → f (cond b x y) ≡ cond b (f x) (f y)
in_either f true x y = refl
in_either f false x y = refl

-- where the key's own value stays, every key's does
pub at_own : {X : Type 0} (k key : List ℕ) (f : List ℕ → X) → cond (key_eq k key) (f k) (f key) ≡ f key
at_own k key f =
    elim (cases_bool (key_eq k key)) [
      | inl here ↦ rw here (ap f (key_eq-true k key here))
      | inr other ↦ rw other refl
    ]

-- an entry is known by its parts
pub entry_by : (b : Bool) (new old : EntryValue) (rec : Option RecordValue) (olds : List Timestamp) (watches : List Watcher) → rec ≡ cond b new.rec old.rec → olds ≡ cond b new.olds old.olds → watches ≡ cond b new.watches old.watches
    → record { rec = rec; olds = olds; watches = watches } ≡ cond b new old
entry_by true new old rec olds watches p q r = λ i. record { rec = p i; olds = q i; watches = r i }
entry_by false new old rec olds watches p q r = λ i. record { rec = p i; olds = q i; watches = r i }

at_key : (k key : List ℕ) (f : List ℕ → Bool) (new out : Bool) → new ≡ (out || f k) → cond (key_eq k key) new (f key) ≡ ((key_eq k key && out) || f key)
at_key k key f new out is =
    elim (cases_bool (key_eq k key)) [
      | inl here ↦ rw here (is ∙ ap (λ (x : List ℕ). out || f x) (key_eq-true k key here))
      | inr other ↦ rw other refl
    ]

forgets-at : (k key : List ℕ) (f : List ℕ → Bool) (new listed : Bool) → new ≡ (not listed && f k) → cond (key_eq k key) new (f key) ≡ (not (key_eq k key && listed) && f key)
forgets-at k key f new listed is =
    elim (cases_bool (key_eq k key)) [
      | inl here ↦ rw here (is ∙ ap (λ (x : List ℕ). not listed && f x) (key_eq-true k key here))
      | inr other ↦ rw other refl
    ]

-- ---- what an attempt makes of an entry

held-only : (a b : Bool) → ((a && true) || (b && false)) ≡ a
held-only true b = refl
held-only false true = refl
held-only false false = refl

own-only : (a b : Bool) → ((a && false) || (b && true)) ≡ b
own-only true true = refl
own-only true false = refl
own-only false true = refl
own-only false false = refl

neither-one : (a b : Bool) → ((a && false) || (b && false)) ≡ false
neither-one true true = refl
neither-one true false = refl
neither-one false true = refl
neither-one false false = refl

-- what is superseded behind an attempt
settled-has : (held : Option RecordValue) (a : Attempt) (olds : List Timestamp) (t : Timestamp) → has_stamp (olds_settled held (applies held a) a.rec olds) t ≡ (outdates held a t || has_stamp olds t)
unfolding outdates
settled-has None a olds t =
    elim (cases_bool (applies None a)) [
      | inl applied ↦ rw applied refl
      | inr refused ↦ elim (cases_bool (stamp_lt a.rec.stamp (stamp_of_record None))) [
        | inl below ↦ rw (refused, below) refl
        | inr other ↦ rw (refused, other) refl
      ]
    ]
settled-has (Some held) a olds t =
    elim (cases_bool (applies (Some held) a)) [
      | inl applied ↦
          let below : stamp_lt a.rec.stamp held.stamp ≡ false = stamp_lt-other held.stamp a.rec.stamp (applied-parts (Some held) a applied).1 in
          rw (applied, below) (has_stamp-insert held.stamp olds t ∙ ap (λ (b : Bool). b || has_stamp olds t) (sym (held-only (stamp_eq held.stamp t) (stamp_eq a.rec.stamp t))))
      | inr refused ↦ elim (cases_bool (stamp_lt a.rec.stamp held.stamp)) [
        | inl below ↦ rw (refused, below) (has_stamp-insert a.rec.stamp olds t ∙ ap (λ (b : Bool). b || has_stamp olds t) (sym (own-only (stamp_eq held.stamp t) (stamp_eq a.rec.stamp t))))
        | inr equal ↦ rw (refused, equal) (ap (λ (b : Bool). b || has_stamp olds t) (sym (neither-one (stamp_eq held.stamp t) (stamp_eq a.rec.stamp t))))
      ]
    ]

pub watched-due : (e : EntryValue) (w : Watcher) → stamp_lt w.stamp (entry_stamp e) ≡ true → watched e w ≡ e
watched-due e w due = rw due refl

pub watched-waits : (e : EntryValue) (w : Watcher) → stamp_lt w.stamp (entry_stamp e) ≡ false → watched e w ≡ waited e w
watched-waits e w waits = rw waits refl

-- a request that attempts something forgets nothing
forgets-tried : (before : List MetaAsk) (ask : MetaAsk) (a : Attempt) (key : List ℕ) (t : Timestamp) → attempt_of before ask ≡ Some a → forgets ask key t ≡ false
forgets-tried before (asks.Read c o k) a key t is = refl
forgets-tried before (asks.Update c o k r) a key t is = refl
forgets-tried before (asks.Watch c o k stamp) a key t is = refl
forgets-tried before (asks.Olds c o k) a key t is = refl
forgets-tried before (asks.Forget c o k stamps) a key t is = absurd cc
forgets-tried before (asks.Swap c o k expected r) a key t is = refl

old-tried : (before : List MetaAsk) (ask : MetaAsk) (a : Attempt) (key : List ℕ) (t : Timestamp) → attempt_of before ask ≡ Some a
    → is_old (ask ∷ before) key t ≡ ((key_eq a.key key && outdates (record_after before key) a t) || is_old before key t)
unfolding is_old
old-tried before ask a key t made =
    ap (λ (o : Option Attempt). outdated_by o key (record_after before key) t || (not (forgets ask key t) && is_old before key t)) made
    ∙ ap (λ (b : Bool). (key_eq a.key key && outdates (record_after before key) a t) || (not b && is_old before key t)) (forgets-tried before ask a key t made)

-- ---- one request more

module _ (old : List ℕ → EntryValue) (before : List MetaAsk) (s : EntriesStandFor old before) where
  pub stands-read : (client op : ℕ) (k : List ℕ) → EntriesStandFor old (asks.Read client op k ∷ before)
  unfolding record_after is_old is_waiting watches_of record_stamp
  stands-read client op k = record { records = s.records; olds = s.olds; watches = s.watches }

  pub stands-olds : (client op : ℕ) (k : List ℕ) → EntriesStandFor old (asks.Olds client op k ∷ before)
  unfolding record_after is_old is_waiting watches_of record_stamp
  stands-olds client op k = record { records = s.records; olds = s.olds; watches = s.watches }

  -- a swap that is not judged changes nothing
  module _ (client op : ℕ) (k : List ℕ) (expected : Timestamp) (r : RecordValue) (repeated : is_judged before client op ≡ false) where
    abbrev again : MetaAsk
    again = asks.Swap client op k expected r

    none-tried : attempt_of before again ≡ None
    none-tried = rw repeated refl

    old-quiet : (key : List ℕ) (t : Timestamp) → is_old (again ∷ before) key t ≡ is_old before key t
    unfolding is_old
    old-quiet key t = ap (λ (o : Option Attempt). outdated_by o key (record_after before key) t || is_old before key t) none-tried

    waits-quiet : (w : Watcher) → is_waiting before w ≡ is_waiting (again ∷ before) w
    unfolding is_waiting record_stamp
    waits-quiet w = ap (λ (x : Option RecordValue). not (stamp_lt w.stamp (stamp_of_record x))) (sym (record-quiet again before w.key none-tried))

    waiting-quiet : waiting_watches before ≡ waiting_watches (again ∷ before)
    unfolding watches_of
    waiting-quiet = filter-same (λ w. is_waiting before w) (λ w. is_waiting (again ∷ before) w) waits-quiet (watches_of before)

    pub stands-repeated : EntriesStandFor old (again ∷ before)
    stands-repeated = record {
      records = λ key. s.records key ∙ sym (record-quiet again before key none-tried);
      olds = λ key t. s.olds key t ∙ sym (old-quiet key t);
      watches = λ key. s.watches key ∙ ap (λ (ws : List Watcher). watches_on key ws) waiting-quiet;
    }

pub stands-same : (old new : List ℕ → EntryValue) (before : List MetaAsk) → SameEntries old new → EntriesStandFor old before → EntriesStandFor new before
stands-same old new before same s = record {
  records = λ key. ap (λ (e : EntryValue). e.rec) (same key) ∙ s.records key;
  olds = λ key t. ap (λ (e : EntryValue). has_stamp e.olds t) (same key) ∙ s.olds key t;
  watches = λ key. ap (λ (e : EntryValue). e.watches) (same key) ∙ s.watches key;
}

module _ (old new : List ℕ → EntryValue) (before : List MetaAsk) (s : EntriesStandFor old before) where
  -- a part of the entries after a request, from those before it
  part : {X : Type 0} (f : EntryValue → X) (k : List ℕ) (e : EntryValue) → ((key : List ℕ) → new key ≡ cond (key_eq k key) e (old key)) → (key : List ℕ) → f (new key) ≡ cond (key_eq k key) (f e) (f (old key))
  part f k e becomes key = ap f (becomes key) ∙ in_either f (key_eq k key) e (old key)

  -- a part that the request leaves as it is
  left : {X : Type 0} (f : EntryValue → X) (k : List ℕ) (e : EntryValue) → ((key : List ℕ) → new key ≡ cond (key_eq k key) e (old key)) → f e ≡ f (old k) → (key : List ℕ) → f (new key) ≡ f (old key)
  left f k e becomes stays key =
      part f k e becomes key ∙ ap (λ x. cond (key_eq k key) x (f (old key))) stays ∙ at_own k key (λ x. f (old x))

  held-above : (k : List ℕ) (t : Timestamp) (b : Bool) → stamp_lt t (entry_stamp (old k)) ≡ b → stamp_lt t (stamp_of_record (record_after before k)) ≡ b
  held-above k t b e = ap (λ (o : Option RecordValue). stamp_lt t (stamp_of_record o)) (sym (s.records k)) ∙ e

  module _ (ask : MetaAsk) (a : Attempt) (made : attempt_of before ask ≡ Some a) (puts : EntryPut old new a.key (tried (old a.key) a)) where
    abbrev k : List ℕ
    k = a.key

    abbrev after : EntryValue
    after = tried (old a.key) a

    applies-is : applies (old k).rec a ≡ applies (record_after before k) a
    applies-is = ap (λ (o : Option RecordValue). applies o a) (s.records k)

    olds-tried : (key : List ℕ) (t : Timestamp) → has_stamp (new key).olds t ≡ is_old (ask ∷ before) key t
    olds-tried key t =
        let has : EntryValue → Bool = λ e. has_stamp e.olds t in
        part has k after puts key ∙ at_key k key (λ x. has (old x)) (has after) (outdates (old k).rec a t) (settled-has (old k).rec a (old k).olds t)
        ∙ ap (λ (b : Bool). b || has (old key)) (outdated-here key a (λ x. (old x).rec) (λ x. record_after before x) t s.records)
        ∙ ap (λ (b : Bool). (key_eq k key && outdates (record_after before key) a t) || b) (s.olds key t)
        ∙ sym (old-tried before ask a key t made)

    stands-applied : applies (old k).rec a ≡ true → EntriesStandFor new (ask ∷ before)
    stands-applied is =
        let held : applies (record_after before k) a ≡ true = sym applies-is ∙ is in
        record {
          records = λ key. part (λ e. e.rec) k after puts key ∙ ap (λ (b : Bool). cond (key_eq k key) (cond b (Some a.rec) (old k).rec) (old key).rec) is
              ∙ ap (λ (o : Option RecordValue). cond (key_eq k key) (Some a.rec) o) (s.records key) ∙ sym (record_after-applied before ask a key made held);
          olds = olds-tried;
          watches = λ key. part (λ e. e.watches) k after puts key ∙ ap (λ (b : Bool). cond (key_eq k key) (cond b (watches_from a.rec.stamp (old k).watches) (old k).watches) (old key).watches) is
              ∙ ap (λ (ws : List Watcher). cond (key_eq k key) (watches_from a.rec.stamp ws) (old key).watches) (s.watches k)
              ∙ ap (λ (ws : List Watcher). cond (key_eq k key) (watches_from a.rec.stamp (watches_on k (waiting_watches before))) ws) (s.watches key)
              ∙ sym (on-applied k key a.rec.stamp (waiting_watches before)) ∙ ap (λ (ws : List Watcher). watches_on key ws) (sym (waiting-applied before ask a made held));
        }

    stands-refused : applies (old k).rec a ≡ false → EntriesStandFor new (ask ∷ before)
    stands-refused is =
        let held : applies (record_after before k) a ≡ false = sym applies-is ∙ is in
        record {
          records = λ key. left (λ e. e.rec) k after puts (ap (λ (b : Bool). cond b (Some a.rec) (old k).rec) is) key ∙ s.records key ∙ sym (record_after-refused before ask a key made held);
          olds = olds-tried;
          watches = λ key. left (λ e. e.watches) k after puts (ap (λ (b : Bool). cond b (watches_from a.rec.stamp (old k).watches) (old k).watches) is) key ∙ s.watches key
              ∙ ap (λ (ws : List Watcher). watches_on key ws) (sym (waiting-refused before ask a made held));
        }

    -- the entries stand for an attempt more
    pub stands-tried : EntriesStandFor new (ask ∷ before)
    stands-tried =
        elim (cases_bool (applies (old k).rec a)) [
          | inl applied ↦ stands-applied applied
          | inr refused ↦ stands-refused refused
        ]

  stands-watch_by : (client op : ℕ) (k : List ℕ) (stamp : Timestamp) (b : Bool) → stamp_lt stamp (entry_stamp (old k)) ≡ b
      → EntryPut old new k (watched (old k) (record { client = client; op = op; key = k; stamp = stamp })) → EntriesStandFor new (asks.Watch client op k stamp ∷ before)
  unfolding record_after is_old
  stands-watch_by client op k stamp true due becomes =
      let w : Watcher = record { client = client; op = op; key = k; stamp = stamp } in
      let is = watched-due (old k) w due in
      let none = waiting-watch before client op k stamp true (held-above k stamp true due) ∙ append-nil (waiting_watches before) in
      record {
        records = λ key. left (λ e. e.rec) k (watched (old k) w) becomes (ap (λ (e : EntryValue). e.rec) is) key ∙ s.records key;
        olds = λ key t. left (λ e. has_stamp e.olds t) k (watched (old k) w) becomes (ap (λ (e : EntryValue). has_stamp e.olds t) is) key ∙ s.olds key t;
        watches = λ key. left (λ e. e.watches) k (watched (old k) w) becomes (ap (λ (e : EntryValue). e.watches) is) key ∙ s.watches key ∙ ap (λ (ws : List Watcher). watches_on key ws) (sym none);
      }
  stands-watch_by client op k stamp false waits becomes =
      let w : Watcher = record { client = client; op = op; key = k; stamp = stamp } in
      let is = watched-waits (old k) w waits in
      let more = waiting-watch before client op k stamp false (held-above k stamp false waits) in
      record {
        records = λ key. left (λ e. e.rec) k (watched (old k) w) becomes (ap (λ (e : EntryValue). e.rec) is) key ∙ s.records key;
        olds = λ key t. left (λ e. has_stamp e.olds t) k (watched (old k) w) becomes (ap (λ (e : EntryValue). has_stamp e.olds t) is) key ∙ s.olds key t;
        watches = λ key. part (λ e. e.watches) k (watched (old k) w) becomes key ∙ ap (λ (e : EntryValue). cond (key_eq k key) e.watches (old key).watches) is
            ∙ ap (λ (ws : List Watcher). cond (key_eq k key) (ws ++ w ∷ []) (old key).watches) (s.watches k)
            ∙ ap (λ (ws : List Watcher). cond (key_eq k key) (watches_on k (waiting_watches before) ++ w ∷ []) ws) (s.watches key)
            ∙ sym (on-push k key (waiting_watches before) w refl) ∙ ap (λ (ws : List Watcher). watches_on key ws) (sym more);
      }

  pub stands-watch : (client op : ℕ) (k : List ℕ) (stamp : Timestamp) → EntryPut old new k (watched (old k) (record { client = client; op = op; key = k; stamp = stamp })) → EntriesStandFor new (asks.Watch client op k stamp ∷ before)
  stands-watch client op k stamp becomes = stands-watch_by client op k stamp (stamp_lt stamp (entry_stamp (old k))) refl becomes

  pub stands-forget : (client op : ℕ) (k : List ℕ) (stamps : List Timestamp) → EntryPut old new k (forgotten (old k) stamps) → EntriesStandFor new (asks.Forget client op k stamps ∷ before)
  unfolding record_after is_old is_waiting watches_of record_stamp
  stands-forget client op k stamps becomes =
      let e : EntryValue = forgotten (old k) stamps in
      record {
        records = λ key. left (λ x. x.rec) k e becomes refl key ∙ s.records key;
        olds = λ key t. part (λ x. has_stamp x.olds t) k e becomes key
            ∙ forgets-at k key (λ x. has_stamp (old x).olds t) (has_stamp e.olds t) (has_stamp stamps t) (has_stamp-filter (λ stamp. not (has_stamp stamps stamp)) (old k).olds t)
            ∙ ap (λ (b : Bool). not (key_eq k key && has_stamp stamps t) && b) (s.olds key t);
        watches = λ key. left (λ x. x.watches) k e becomes refl key ∙ s.watches key;
      }

pub stands-new : (entry_at : List ℕ → EntryValue) → ((key : List ℕ) → entry_at key ≡ no_entry) → EntriesStandFor entry_at []
unfolding record_after is_old watches_of has_stamp
stands-new entry_at none = record {
  records = λ key. ap (λ (e : EntryValue). e.rec) (none key);
  olds = λ key t. ap (λ (e : EntryValue). has_stamp e.olds t) (none key);
  watches = λ key. ap (λ (e : EntryValue). e.watches) (none key);
}

-- ---- answers

module _ (old : List ℕ → EntryValue) (before : List MetaAsk) (s : EntriesStandFor old before) where
  module _ (a : Attempt) where
    applies-so : applies (old a.key).rec a ≡ applies (record_after before a.key) a
    applies-so = ap (λ (o : Option RecordValue). applies o a) (s.records a.key)

    ended : watches_below a.rec.stamp (old a.key).watches ≡ fired_watches before a.key a.rec.stamp
    unfolding fired_watches
    ended =
        ap (λ (ws : List Watcher). watches_below a.rec.stamp ws) (s.watches a.key) ∙ on-due a.key a.rec.stamp (waiting_watches before)
        ∙ filter-twice (λ w. is_due a.key a.rec.stamp w) (λ w. is_waiting before w) (watches_of before)
        ∙ filter-same (λ w. is_waiting before w && is_due a.key a.rec.stamp w) (λ w. is_passed before a.key a.rec.stamp w) (λ w. sym (is_passed-waiting before a.key a.rec.stamp w)) (watches_of before)

  pub says-update : (client op : ℕ) (k : List ℕ) (r : RecordValue) → tried_answers (old k) (record { client = client; op = op; key = k; rec = r; expected = None }) ≡ service_answers before (asks.Update client op k r)
  unfolding service_answers record_stamp
  says-update client op k r =
      let a : Attempt = record { client = client; op = op; key = k; rec = r; expected = None } in
      let same = applies-so a in
      let watches = ended a in
      elim (cases_bool (applies (record_after before k) a)) [
        | inl applied ↦ (let own : applies (old k).rec a ≡ true = same ∙ applied in rw (own, applied, watches) refl)
        | inr refused ↦ (let own : applies (old k).rec a ≡ false = same ∙ refused in rw (own, refused) (ap (λ (o : Option RecordValue). says.Kept client op k (stamp_of_record o) ∷ []) (s.records k)))
      ]

  -- the answer to a swap that is judged
  pub says-judged : (client op : ℕ) (k : List ℕ) (expected : Timestamp) (r : RecordValue)
      → tried_say (old k) (record { client = client; op = op; key = k; rec = r; expected = Some expected }) ≡ judged_answer before (record { client = client; op = op; key = k; rec = r; expected = Some expected })
  unfolding judged_answer record_stamp
  says-judged client op k expected r =
      let a : Attempt = record { client = client; op = op; key = k; rec = r; expected = Some expected } in
      let same = applies-so a in
      elim (cases_bool (applies (record_after before k) a)) [
        | inl applied ↦ (let own : applies (old k).rec a ≡ true = same ∙ applied in rw (own, applied) refl)
        | inr refused ↦ (let own : applies (old k).rec a ≡ false = same ∙ refused in rw (own, refused) (ap (λ (o : Option RecordValue). says.Changed client op k (stamp_of_record o)) (s.records k)))
      ]

  pub says-swap : (client op : ℕ) (k : List ℕ) (expected : Timestamp) (r : RecordValue) → is_judged before client op ≡ true
      → tried_answers (old k) (record { client = client; op = op; key = k; rec = r; expected = Some expected }) ≡ service_answers before (asks.Swap client op k expected r)
  unfolding service_answers
  says-swap client op k expected r judged =
      let a : Attempt = record { client = client; op = op; key = k; rec = r; expected = Some expected } in
      let first = says-judged client op k expected r in
      let told : cond (applies (old k).rec a) (map fired (watches_below r.stamp (old k).watches)) [] ≡ fired_by before a =
      ap (λ (b : Bool). cond b (map fired (watches_below r.stamp (old k).watches)) []) (applies-so a) ∙ ap (λ (ws : List Watcher). cond (applies (record_after before k) a) (map fired ws) []) (ended a) in
      rw judged (ap (λ (say : MetaSay). say ∷ cond (applies (old k).rec a) (map fired (watches_below r.stamp (old k).watches)) []) first ∙ ap (λ (more : List MetaSay). judged_answer before a ∷ more) told)

  pub says-watch : (client op : ℕ) (k : List ℕ) (stamp : Timestamp) → watch_answers (old k) (record { client = client; op = op; key = k; stamp = stamp }) ≡ service_answers before (asks.Watch client op k stamp)
  unfolding service_answers record_stamp
  says-watch client op k stamp =
      ap (λ (o : Option RecordValue). cond (stamp_lt stamp (stamp_of_record o)) (says.Fired client op k stamp ∷ []) []) (s.records k)

  pub says-read : (client op : ℕ) (k : List ℕ) → says.Has client op k (old k).rec ∷ [] ≡ service_answers before (asks.Read client op k)
  unfolding service_answers
  says-read client op k = ap (λ (o : Option RecordValue). says.Has client op k o ∷ []) (s.records k)

  pub says-olds : (client op : ℕ) (k : List ℕ) → is_rising (old k).olds ≡ true → says.OldList client op k (take 256 (old k).olds) ∷ [] ≡ service_answers before (asks.Olds client op k)
  unfolding service_answers
  says-olds client op k rising =
      ap (λ (ts : List Timestamp). says.OldList client op k ts ∷ []) (old_list-rising before k (old k).olds rising (s.olds k))

  pub says-forgot : (client op : ℕ) (k : List ℕ) (stamps : List Timestamp) → says.Forgot client op k ∷ [] ≡ service_answers before (asks.Forget client op k stamps)
  unfolding service_answers
  says-forgot client op k stamps = refl

-- Each step of a session: the table allows it, and the session's new state is one.
use Rattle.std.proofs.Common.{◌≡◌, ◌≢◌, ℕ, ◌+◌, ◌*◌, ◌%◌, ◌^◌, ◌<◌, ◌≤◌, max, Bool, true, List, [], ◌∷◌, ◌++◌, Option, Some, None, refl, sym, ap, ◌∙◌, subst, arith}
use Rattle.std.specs.List.{AllByRecursion}
use Rattle.atomic_table.specs.Table.{Me, Allows}
use Rattle.atomic_table.specs.Seated.{TableId}
use Rattle.hy_base.specs.declared.limits.TheConstants.{SN_END}
use Rattle.std.proofs.lemmas.Bool.Decides.{nat_tests}
use Rattle.std.proofs.lemmas.Option.{cond_some}
use Rattle.hy_record.specs.Stamp.{Timestamp, stamp_lt, next_stamp}
use Rattle.hy_points.specs.Stamps.{reply_stamp}
use Rattle.hy_record.specs.declared.action.Reply.{Reply}
use Rattle.hy_points.specs.declared.point.ActKind.{ActKind}
use Rattle.hy_shared.specs.declared.layout.Layout.{Layout}
use Rattle.hy_shared.specs.declared.running.Running.{Running}
use Rattle.hy_shared.specs.declared.event.Event.{Event}
use Rattle.hy_shared.specs.declared.event.Event.TheVariants.{Begin, Ask, Set, End}
use Rattle.hy_shared.specs.declared.view.View.{View}
use Rattle.hy_shared.specs.Layout.{IsLayout, client_of, row_of, head_place}
use Rattle.hy_shared.specs.Events.{points_of, key_name, event_number, pack, packed_stamp, packed_row}
use Rattle.hy_shared.specs.Rule.{IsWithin, IsOther, IsTable, IsWriting, StandsIn, is_plain}
use Rattle.hy_shared.specs.Rows.{IsRowOf}
use Rattle.hy_points.specs.declared.telling.Setting.{Setting}
use Rattle.std.proofs.lemmas.Option.{none-some}
use Rattle.hy_points.specs.Lookups.{beginning, last_asking, setting, ending}
use Rattle.hy_points.specs.Atomic.{IsAtomicLog, FitsBegin, writes, logged_stamp}
use Rattle.hy_shared.specs.declared.said.Seen.{Seen}
use Rattle.hy_shared.specs.declared.said.Said.{Said}
use Rattle.hy_shared.specs.Answers.{OwnsRow, Finishes, Looks, Raises, seen_stamp, IsSeenIn, is_applied, IsKeptAt}
use Rattle.hy_shared.proofs.Heads.{packed-none, row-bound}
use Rattle.hy_shared.specs.Moves.{seeing, writing, Appends, FindsHead, RaisesHead, new_session}
use Rattle.hy_shared.specs.Sessions.{SessionValue, SeesHistory, session_view, root_after, IsUntouched, IsSession, MayReply}
use Rattle.hy_shared.proofs.Counts.{counts}
use Rattle.hy_shared.proofs.Asking.{asks, raises}
use Rattle.hy_shared.proofs.Fitting.{map-none, row-owner, same-beginning, may-begin, may-ask, may-set, may-end}
use Rattle.hy_shared.proofs.Next.{begins-next, asks-next, sets-next, ends-next, run-owner}

abbrev pub Sat : Type 0
Sat = Me (Unit {0}) View

-- the seat of a session
abbrev pub IsSeatOf : ℕ → Sat → Type 0
IsSeatOf client me = me ≡ (session_view client me.0.seen, [])

number-of : (client : ℕ) (me : Sat) → IsSeatOf client me → me.0.number ≡ client
number-of client me is = ap (λ (m : Sat). m.0.number) is

-- the seat after it saw a longer log
pub next-seat : (client : ℕ) (me after : Sat) (log : List Event) → IsSeatOf client me → after.0 ≡ seeing me.0 log → after.1 ≡ me.1 → IsSeatOf client after
next-seat client me after log is sees same =
    let view : after.0 ≡ session_view client log = sees ∙ ap (λ (m : Sat). seeing m.0 log) is in
    let log_is : log ≡ after.0.seen = sym (ap (λ (v : View). v.seen) view) in
    let view' : after.0 ≡ session_view client after.0.seen = view ∙ ap (session_view client) log_is in
    let none : after.1 ≡ [] = same ∙ ap (λ (m : Sat). m.1) is in
    λ i. (view' i, none i)

-- ---- an operation begins

pub begin-allowed : (z : Layout) (client begun : ℕ) (slots id : ℕ) (me : Sat) → IsSeatOf client me → IsSession z client begun None me.0.seen → begun < z.ops
    → (row : ℕ) → row ≡ row_of z client begun → (key : ℕ) (act : ActKind) → key < z.keys → is_plain act ≡ true
    → Allows (IsTable z) slots id me 0 (λ n. (n + 1) % 2 ^ 64) (λ n after. (Appends z me.0 (Begin row client key act) after.0 × (n + 1 ≡ event_number after.0.seen) × (n ≤ 16777214)) × (after.1 ≡ me.1))
begin-allowed z client begun slots id me is session room row row_is key act key_in plain =
    let number = number-of client me is in
    let own : client_of z row ≡ client = ap (client_of z) row_is ∙ row-owner z client begun session.client_some room in
    counts z session.layout slots id me (Begin row client key act) refl refl (λ _. refl) (λ _. tt) (own ∙ sym number) (sym own, key_in, plain)
    (λ log atomic within seen. subst (λ r. FitsBegin (points_of log) r client) (sym row_is) (may-begin z client begun None me.0 session number log within seen refl room))

pub begin-keeps : (z : Layout) (client begun : ℕ) (me after : Sat) → IsSeatOf client me → IsSession z client begun None me.0.seen → begun < z.ops
    → (row : ℕ) → row ≡ row_of z client begun → (key : ℕ) (act : ActKind) → key < z.keys
    → Appends z me.0 (Begin row client key act) after.0 → after.1 ≡ me.1
    → IsSeatOf client after × IsSession z client (begun + 1) (Some (record { row = row; key = key; act = act; found = None; set = None })) after.0.seen
begin-keeps z client begun me after is session room row row_is key act key_in appends same =
    let number = number-of client me is in
    let log : List Event = (me.0.seen ++ appends.between) ++ Begin row client key act ∷ [] in
    let others = subst (λ c. AllByRecursion (IsOther z c) appends.between) number appends.others in
    let seen : log ≡ after.0.seen = sym (ap (λ (v : View). v.seen) appends.seen) in
    let next : (r : ℕ) → r ≡ row_of z client begun → IsAtomicLog (points_of ((me.0.seen ++ appends.between) ++ Begin r client key act ∷ []))
    → AllByRecursion (IsWithin z z.clients) ((me.0.seen ++ appends.between) ++ Begin r client key act ∷ [])
    → IsSession z client (begun + 1) (Some (record { row = r; key = key; act = act; found = None; set = None })) ((me.0.seen ++ appends.between) ++ Begin r client key act ∷ []) =
    λ r r_is. subst (λ q. IsAtomicLog (points_of ((me.0.seen ++ appends.between) ++ Begin q client key act ∷ []))
    → AllByRecursion (IsWithin z z.clients) ((me.0.seen ++ appends.between) ++ Begin q client key act ∷ [])
    → IsSession z client (begun + 1) (Some (record { row = q; key = key; act = act; found = None; set = None })) ((me.0.seen ++ appends.between) ++ Begin q client key act ∷ [])) (sym r_is)
    (begins-next z client begun me.0.seen appends.between others session room key act key_in) in (
      next-seat client me after log is appends.seen same,
      subst (IsSession z client (begun + 1) (Some (record { row = row; key = key; act = act; found = None; set = None }))) seen (next row row_is appends.atomic appends.within),
    )

-- ---- a new session

-- the seat of a new session
pub new-seat : (given : ℕ) (root me : Sat) → root ≡ (root_after given, []) → me ≡ (new_session root.0, []) → IsSeatOf (given + 1) me × (me.0.seen ≡ [])
new-seat given root me root_is is =
    let view : me.0 ≡ session_view (given + 1) [] = ap (λ (m : Sat). m.0) is ∙ ap (λ (m : Sat). new_session m.0) root_is in
    let seen : me.0.seen ≡ [] = ap (λ (v : View). v.seen) view in
    let view' : me.0 ≡ session_view (given + 1) me.0.seen = view ∙ ap (session_view (given + 1)) (sym seen) in
    let none : me.1 ≡ [] = ap (λ (m : Sat). m.1) is in
    ((λ i. (view' i, none i)), seen)

-- an empty log has nothing
untouched : (op : ℕ) → IsUntouched [] op
unfolding beginning last_asking setting ending
untouched op = record { beginning = refl; asking = refl; setting = refl; ending = refl }

begun-none : (op : ℕ) → beginning [] op ≡ None
unfolding beginning
begun-none op = refl

pub atomic-none : IsAtomicLog []
unfolding IsAtomicLog
atomic-none = tt

-- a session that began nothing
pub new-session-is : (z : Layout) (client : ℕ) → IsLayout z → 1 ≤ client → client ≤ z.clients → (log : List Event) → log ≡ [] → IsSession z client 0 None log
new-session-is z client good some_ in_ log none = subst (IsSession z client 0 None) (sym none) (record {
  layout = good;
  client_some = some_;
  client_in = in_;
  begun_in = omega arith;
  atomic = atomic-none;
  within = tt;
  fresh = λ i from less. untouched (row_of z client i);
  ended = λ op b own is other. absurd (none-some b (sym (begun-none op) ∙ is));
  runs = λ r is. absurd (none-some r is);
})

-- ---- steps of a running operation

-- the next timestamp
next-is : (found : Timestamp) (client : ℕ) (stamp : Timestamp) → next_stamp found client ≡ Some stamp → (0 < stamp.sn) × (stamp.cid ≡ client) × (stamp.sn < SN_END)
next-is found client stamp is =
    let both = cond_some _ (record { sn = found.sn + 1; cid = client }) stamp is in
    let sn : found.sn + 1 ≡ stamp.sn = ap (λ (t : Timestamp). t.sn) both.1 in
    let cid : client ≡ stamp.cid = ap (λ (t : Timestamp). t.cid) both.1 in
    let test = both.0 in
    (omega (arith, sn), sym cid, grind (arith, nat_tests))

-- the session after a step, by what the step does to what it knows
pub keep : (z : Layout) (client begun : ℕ) (running : Option Running) (me after : Sat) (e : Event) → IsSeatOf client me → Appends z me.0 e after.0 → after.1 ≡ me.1
    → ((between : List Event) → AllByRecursion (IsOther z client) between → IsAtomicLog (points_of ((me.0.seen ++ between) ++ e ∷ [])) → AllByRecursion (IsWithin z z.clients) ((me.0.seen ++ between) ++ e ∷ []) → IsSession z client begun running ((me.0.seen ++ between) ++ e ∷ []))
    → IsSeatOf client after × IsSession z client begun running after.0.seen
keep z client begun running me after e is appends same next =
    let others = subst (λ c. AllByRecursion (IsOther z c) appends.between) (number-of client me is) appends.others in
    let log : List Event = (me.0.seen ++ appends.between) ++ e ∷ [] in
    let seen : log ≡ after.0.seen = sym (ap (λ (v : View). v.seen) appends.seen) in
    (next-seat client me after log is appends.seen same, subst (IsSession z client begun running) seen (next appends.between others appends.atomic appends.within))

-- what a contract says of it
pub sees : (z : Layout) (client : ℕ) (me after : Sat) (e : Event) (id : TableId) (begun begun' : ℕ) (running running' : Option Running) → IsSeatOf client me → (a : Appends z me.0 e after.0)
    → (s : SeesHistory (record { table = record { id = id; layout = z }; client = client; begun = begun; running = running; seen = me.0.seen }) e (record { table = record { id = id; layout = z }; client = client; begun = begun'; running = running'; seen = after.0.seen })) × (s.between ≡ a.between)
sees z client me after e id begun begun' running running' is appends =
    let seen : after.0.seen ≡ (me.0.seen ++ appends.between) ++ e ∷ [] = ap (λ (v : View). v.seen) appends.seen in (
      record {
        table = refl;
        client = refl;
        between = appends.between;
        seen = seen;
        others = subst (λ c. AllByRecursion (IsOther z c) appends.between) (number-of client me is) appends.others;
        atomic = subst (λ l. IsAtomicLog (points_of l)) (sym seen) appends.atomic;
        within = subst (AllByRecursion (IsWithin z z.clients)) (sym seen) appends.within;
      },
      refl,
    )

-- the row of a running operation is one of the table's
pub row-low : (z : Layout) (client begun : ℕ) (log : List Event) (r : Running) → IsSession z client begun (Some r) log → r.row < 16777216
row-low z client begun log r session =
    let in_ = session.client_in in let rows = session.layout.rows in
    let bound = row-bound z session.layout r.row (let own = run-owner z client begun log [] tt r session (session.runs r refl) in omega (arith, own, in_)) in
    omega (arith, bound, rows)

module _ (z : Layout) (client begun : ℕ) (me : Sat) (is : IsSeatOf client me) (r : Running) (session : IsSession z client begun (Some r) me.0.seen) where
  number : me.0.number ≡ client
  number = number-of client me is

  own : client_of z r.row ≡ client
  own = run-owner z client begun me.0.seen [] tt r session (session.runs r refl)

  -- it returns
  pub end-allowed : (slots id : ℕ) (answer : Reply) → MayReply client me.0.seen r answer
      → Allows (IsTable z) slots id me 0 (λ n. (n + 1) % 2 ^ 64) (λ n after. (Appends z me.0 (End r.row (reply_stamp answer)) after.0 × (n + 1 ≡ event_number after.0.seen) × (n ≤ 16777214)) × (after.1 ≡ me.1))
  end-allowed slots id answer may =
      counts z session.layout slots id me (End r.row (reply_stamp answer)) refl refl (λ _. refl) (λ _. tt) (own ∙ sym number) tt
      (λ log atomic within seen. may-end z client begun (Some r) me.0 session number log within seen r refl answer may)

  pub end-keeps : (after : Sat) (stamp : Timestamp) → Appends z me.0 (End r.row stamp) after.0 → after.1 ≡ me.1 → IsSeatOf client after × IsSession z client begun None after.0.seen
  end-keeps after stamp appends same = keep z client begun None me after (End r.row stamp) is appends same (λ between others. ends-next z client begun me.0.seen between others r session stamp)

  -- it reads
  pub ask-allowed : (slots id : ℕ) → r.set ≡ None
      → Allows (IsTable z) slots id me (head_place r.key) (λ n. n) (λ n after. (Appends z me.0 (Ask r.row (packed_stamp n)) after.0 × FindsHead z after.0.seen r.key n) × (after.1 ≡ me.1))
  ask-allowed slots id none =
      asks z session.layout slots id me r.key r.row (session.runs r refl).key (own ∙ sym number)
      (λ log within seen found finds. may-ask z client begun (Some r) me.0 session number log within seen r refl none found finds)

  pub ask-keeps : (after : Sat) (found : Timestamp) → Appends z me.0 (Ask r.row found) after.0 → after.1 ≡ me.1
      → IsSeatOf client after × IsSession z client begun (Some (record { row = r.row; key = r.key; act = r.act; found = Some found; set = r.set })) after.0.seen
  ask-keeps after found appends same =
      keep z client begun (Some (record { row = r.row; key = r.key; act = r.act; found = Some found; set = r.set })) me after (Ask r.row found) is appends same (λ between others. asks-next z client begun me.0.seen between others r session found)

  -- it writes
  pub set-keeps : (after : Sat) (stamp : Timestamp) (applied : Bool) (words : List ℕ) → r.set ≡ None → Appends z me.0 (Set r.row r.key stamp applied words) after.0 → after.1 ≡ me.1
      → IsSeatOf client after × IsSession z client begun (Some (record { row = r.row; key = r.key; act = r.act; found = r.found; set = Some stamp })) after.0.seen
  set-keeps after stamp applied words none appends same =
      keep z client begun (Some (record { row = r.row; key = r.key; act = r.act; found = r.found; set = Some stamp })) me after (Set r.row r.key stamp applied words) is appends same
      (λ between others. sets-next z client begun me.0.seen between others r session none r.key stamp applied words)

  -- the row is the client's, to write a record
  pub owns-row : r.set ≡ None → OwnsRow z me.0 r.row
  owns-row none = record {
    client = own ∙ sym number;
    inside = let in_ = session.client_in in row-bound z session.layout r.row (omega (arith, own, in_));
    unset = map-none (λ (s : Setting). s.stamp) (setting (points_of me.0.seen) r.row) ((session.runs r refl).set ∙ none);
  }

  -- it writes, once its row is written
  pub set-allowed : (slots id : ℕ) (ready : Sat) (stamp found : Timestamp) (words : List ℕ) → ready.0 ≡ writing me.0 r.row words → IsRowOf z stamp words → writes r.act ≡ true → r.set ≡ None → r.found ≡ Some found → next_stamp found client ≡ Some stamp
      → Allows (IsTable z) slots id ready (head_place r.key) (λ n. max n (pack stamp r.row)) (λ n after. RaisesHead z ready.0 (Set r.row r.key stamp (stamp_lt (packed_stamp n) stamp) words) r.key n after.0 × (after.1 ≡ ready.1))
  set-allowed slots id ready stamp found words is_ready recorded write none has next =
      let above = next-is found client stamp next in
      let number' : ready.0.number ≡ client = ap (λ (v : View). v.number) is_ready ∙ number in
      let seen' : me.0.seen ≡ ready.0.seen = sym (ap (λ (v : View). v.seen) is_ready) in
      let session' = subst (IsSession z client begun (Some r)) seen' session in
      raises z session.layout slots id ready r.key r.row stamp words (record {
        key_in = (session.runs r refl).key;
        client = above.1 ∙ sym own;
        some_number = above.0;
        number = above.2;
        recorded = recorded;
      }) (own ∙ sym number') (λ all_words. subst (λ (v : View). StandsIn z all_words v.row v.written → StandsIn z all_words r.row words) (sym is_ready) (λ s. s))
      (λ log within seen applied applies. may-set z client begun (Some r) ready.0 session' number' log within seen r refl write none found stamp has next applied applies)
      (λ log within seen. (
        (session'.runs r refl).beginning,
        same-beginning z client begun (Some r) ready.0 session' number' log within seen r.row own ∙ (session'.runs r refl).begins,
        (session'.runs r refl).key_is,
      ))

-- what a step of a seat that has written tells is what it tells of the seat before
pub appends-back : (z : Layout) (v u w : View) (row : ℕ) (words : List ℕ) (e : Event) → u ≡ writing v row words → Appends z u e w → Appends z v e w
appends-back z v u w row words e is a =
    let a' = subst (λ (x : View). Appends z x e w) is a in
    record { between = a'.between; seen = a'.seen; others = a'.others; atomic = a'.atomic; within = a'.within }

pub raises-back : (z : Layout) (v u w : View) (row : ℕ) (words : List ℕ) (e : Event) (key n : ℕ) → u ≡ writing v row words → RaisesHead z u e key n w → RaisesHead z v e key n w
raises-back z v u w row words e key n is a =
    let a' = subst (λ (x : View). RaisesHead z x e key n w) is a in
    let b = a'.appends in
    record { appends = record { between = b.between; seen = b.seen; others = b.others; atomic = b.atomic; within = b.within }; number = a'.number; held = a'.held }

-- ---- what contracts say of the steps

-- the value of a session whose seat this is
abbrev pub value : Layout → ℕ → TableId → ℕ → Option Running → Sat → SessionValue
value z client id begun running me = record { table = record { id = id; layout = z }; client = client; begun = begun; running = running; seen = me.0.seen }

pub sees-from : (z : Layout) (client : ℕ) (me after : Sat) (e : Event) (id id' : TableId) (begun begun' : ℕ) (running running' : Option Running) → IsSeatOf client me → (a : Appends z me.0 e after.0) → id' ≡ id
    → (before : SessionValue) → value z client id begun running me ≡ before → (s : SeesHistory before e (value z client id' begun' running' after)) × (before.seen ++ s.between ≡ me.0.seen ++ a.between)
sees-from z client me after e id id' begun begun' running running' is a same before view_is =
    subst (λ (b : SessionValue). (s : SeesHistory b e (value z client id' begun' running' after)) × (b.seen ++ s.between ≡ me.0.seen ++ a.between)) view_is
    (subst (λ (i : TableId). (s : SeesHistory (value z client id begun running me) e (value z client i begun' running' after)) × (me.0.seen ++ s.between ≡ me.0.seen ++ a.between)) (sym same)
    (let s = sees z client me after e id begun begun' running running' is a in (s.0, ap (λ l. me.0.seen ++ l) s.1)))

module _ (z : Layout) (client begun : ℕ) (me after : Sat) (is : IsSeatOf client me) (r : Running) (running : Option Running) (id id' : TableId) (same : id' ≡ id)
    (before : SessionValue) (view_is : value z client id begun running me ≡ before) (ran : before.running ≡ Some r) where
  pub finishes : (answer : Reply) → Appends z me.0 (End r.row (reply_stamp answer)) after.0 → Finishes before answer (value z client id' begun None after)
  finishes answer a = record {
    running = r;
    ran = ran;
    sees = (sees-from z client me after (End r.row (reply_stamp answer)) id id' begun begun running None is a same before view_is).0;
    begun = ap (λ (s : SessionValue). s.begun) view_is;
    idle = refl;
  }

  abbrev pub asked : Timestamp → Running
  asked stamp = record { row = r.row; key = r.key; act = r.act; found = Some stamp; set = r.set }

  looks : (n : ℕ) (stamp : Timestamp) → stamp ≡ packed_stamp n → Appends z me.0 (Ask r.row (packed_stamp n)) after.0 → (answer : Option Seen) → seen_stamp answer ≡ stamp
      → IsSeenIn (value z client id' begun (Some (asked stamp)) after) r.key answer → Looks before answer (value z client id' begun (Some (asked stamp)) after)
  looks n stamp is_stamp a answer told written = record {
    running = r;
    ran = ran;
    sees = subst (λ (s : Timestamp). SeesHistory before (Ask r.row s) (value z client id' begun (Some (asked stamp)) after)) (sym (told ∙ is_stamp))
        (sees-from z client me after (Ask r.row (packed_stamp n)) id id' begun begun running (Some (asked stamp)) is a same before view_is).0;
    begun = ap (λ (s : SessionValue). s.begun) view_is;
    runs = ap (λ (s : Timestamp). Some (asked s)) (sym told);
    written = written;
  }

  -- the head was 0
  pub looks-none : (n : ℕ) (stamp : Timestamp) → stamp ≡ packed_stamp n → n ≡ 0 → Appends z me.0 (Ask r.row (packed_stamp n)) after.0 → Looks before None (value z client id' begun (Some (asked stamp)) after)
  looks-none n stamp is_stamp none a = looks n stamp is_stamp a None (sym (is_stamp ∙ ap packed_stamp none ∙ packed-none)) tt

  -- the head named a writing
  pub looks-some : (n : ℕ) (stamp : Timestamp) (row : ℕ) → stamp ≡ packed_stamp n → row ≡ packed_row n → n ≢ 0 → Appends z me.0 (Ask r.row (packed_stamp n)) after.0 → FindsHead z after.0.seen r.key n
      → Looks before (Some (record { stamp = stamp; row = row })) (value z client id' begun (Some (asked stamp)) after)
  looks-some n stamp row is_stamp is_row some_ a finds =
      let w = finds.written some_ in
      looks n stamp is_stamp a (Some (record { stamp = stamp; row = row })) refl (
        subst (λ (s : Timestamp). 0 < s.sn) (sym is_stamp) w.0,
        subst (λ k. k < z.clients * z.ops) (sym is_row) w.1,
        subst (λ (q : Timestamp × ℕ). IsWriting after.0.seen r.key q.1 q.0) (λ i. (sym is_stamp i, sym is_row i)) w.2,
      )

  abbrev pub wrote : Timestamp → Running
  wrote stamp = record { row = r.row; key = r.key; act = r.act; found = r.found; set = Some stamp }

  pub raises-to : (n : ℕ) (stamp : Timestamp) (words : List ℕ) (answer : Said) → (a : RaisesHead z me.0 (Set r.row r.key stamp (stamp_lt (packed_stamp n) stamp) words) r.key n after.0) → stamp_lt (packed_stamp n) stamp ≡ is_applied answer
      → IsKeptAt (packed_stamp n) answer → Raises before stamp words answer (value z client id' begun (Some (wrote stamp)) after)
  raises-to n stamp words answer a applied kept =
      let both = subst (λ (x : Bool). (b : Appends z me.0 (Set r.row r.key stamp x words) after.0) × (packed_stamp n ≡ logged_stamp (points_of (me.0.seen ++ b.between)) (key_name r.key))) applied (a.appends, a.held) in
      let s = sees-from z client me after (Set r.row r.key stamp (is_applied answer) words) id id' begun begun running (Some (wrote stamp)) is both.0 same before view_is in
      record {
        running = r;
        ran = ran;
        sees = s.0;
        begun = ap (λ (s : SessionValue). s.begun) view_is;
        runs = refl;
        kept = subst (λ (t : Timestamp). IsKeptAt t answer) (both.1 ∙ ap (λ l. logged_stamp (points_of l) (key_name r.key)) (sym s.1)) kept;
      }

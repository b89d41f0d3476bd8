-- The operations of a trace are runs: one by one at each client, over the record of their key.
use Rattle.std.proofs.Common.{◌≡◌, ℕ, ◌+◌, ◌≤◌, ◌<◌, Bool, true, false, List, [], ◌∷◌, length, Option, Some, None, is_some, refl, sym, ap, subst, ◌∙◌, inl, inr, arith}
use Rattle.std.specs.Prelude.{◌⊎◌, not}
use Rattle.std.specs.Option.{option_map, option_and_then}
use Rattle.std.proofs.lemmas.Option.{none-some, same_Some}
use Rattle.std.proofs.lemmas.Bool.{both_ways, cases_lt}
use Rattle.hy_record.specs.declared.action.Action.{Action}
use Rattle.hy_record.specs.declared.action.Action.TheVariants as asked
use Rattle.hy_record.specs.declared.message.MetaAsk.TheVariants as asks
use Rattle.hy_record.specs.declared.message.MetaSay.TheVariants as says
use Rattle.hy_record.specs.declared.turn.Cue.{Cue}
use Rattle.hy_record.specs.Key.{is_cell}
use Rattle.hy_record.specs.Record.{RecordValue}
use Rattle.hy_record.specs.Stamp.{Timestamp, stamp_lt, stamp_eq, next_stamp}
use Rattle.hy_record.proofs.Order.{stamp_lt-same, stamp_lt-neither, stamp_eq-true, stamp_eq-same}
use Rattle.hy_meta.specs.Service.{stamp_of_record}
use Rattle.hy_meta.proofs.Lasting.{applied-tried}
use Rattle.hy_meta.proofs.Rising.{cases_bool}
use Rattle.hy_protocol.specs.Operations.{key_of, suits, write_plan, replied}
use Rattle.hy_protocol.specs.Read.{version_of, read_reply}
use Rattle.hy_protocol.specs.Write.{first_has, own_stamp, stamp_upon, write_reply}
use Rattle.hy_points.specs.declared.point.ActKind.{ActKind}
use Rattle.hy_points.specs.declared.point.ActKind.TheVariants as acts
use Rattle.hy_points.specs.Atomic.{no_stamp, writes}
use Rattle.hy_points.specs.Runs.{Reading, Writing, Trial, Run, MayReturn, ReadsWell, WritesWell, TriesWell, Raises, IsRaised, AreRuns}
use Rattle.hy_points.proofs.Swapping.{swap-same}
use Rattle.hy_trace.specs.Deeds.{Params, Deed, Joined, Began, Handed, Served, Granted, Stopped, Nothing, Start, served, inputs_of, start_of, start_at, reply_of}
use Rattle.hy_trace.specs.History.{Return, return_of, Begun, begun_of}
use Rattle.hy_trace.specs.Messages.{Say, IsSentAt}
use Rattle.hy_trace.specs.Points.{Update, first_update, is_own, version_made}
use Rattle.hy_trace.specs.Trace.{IsTrace}
use Rattle.hy_trace.proofs.Growth.{zero_stamp, zero-least, or-first, or-cases, start-same, start-now}
use Rattle.hy_theorems.specs.Writing.{Change, Puts, Deletes, Swaps, change_value, change_expected, change_action, IsMet, IsWriting}
use Rattle.hy_theorems.proofs.Apart.{own-has, replies-by, replied-write, start-trace}
use Rattle.hy_theorems.proofs.Beginnings.{begun}
use Rattle.hy_theorems.proofs.Invariant.{by-means, trace-holds, start-suits}
use Rattle.hy_theorems.proofs.Meaning.{IsUpdating, ask_with}
use Rattle.hy_theorems.proofs.Overwritten.{applied-was, first-applied, own-update, at-applied}
use Rattle.hy_theorems.proofs.Points.{version-returned, answered-version}
use Rattle.hy_theorems.proofs.ReadPoints.{has-at, reply-version}
use Rattle.hy_theorems.proofs.RealTime.{returned-within, return-reply, shorter}
use Rattle.hy_theorems.proofs.TopAt.{top_at, at-rises, IsServedUpdate, first-served, tried-first}
use Rattle.hy_theorems.proofs.Writes.{key_of-write, update-own, SwapReplies}
use Rattle.hy_log.specs.Courses.{first_made, version_stamp, stamp_before}
use Rattle.hy_log.proofs.Coursing.{never-replied}
use Rattle.hy_log.proofs.DeedAt.{deed_at, read-deed, read-late, begin-deed, update-deed, end-deed, return-late}
use Rattle.hy_log.proofs.Judging.{before-at, stamp_eq-flip, swap-judged, swap-replies, judged-before}
use Rattle.hy_log.proofs.FirstMade.{first-sent, version-sent, told-before, first-returned, free-reply, updated-before}

-- ---- the run of an operation

abbrev pub number_of : Begun → ℕ
number_of b = length (begun_of b.start.before) + 1

abbrev pub writing_with : Option Timestamp → Option Update → Option Writing
writing_with stamp None = None
writing_with None (Some u) = None
writing_with (Some stamp) (Some u) = Some (record { step = u.step; stamp = stamp; is_applied = u.is_applied })

-- what a swap tried, by its own timestamp and the attempt that was judged
abbrev pub trial_with : List Deed → Option Timestamp → Option Update → Option Trial
trial_with t stamp None = None
trial_with t None (Some u) = None
trial_with t (Some stamp) (Some u) = Some (record { step = u.step; stamp = stamp; found = stamp_before t u.key u.step })

abbrev pub change_act : Change → ActKind
change_act (Puts v) = acts.Put
change_act Deletes = acts.Delete
change_act (Swaps e v) = acts.Swap e

module _ (p : Params) (t : List Deed) where
  abbrev pub first_reading : Begun → Option Reading
  first_reading b = option_map (λ held. record { step = first_made b.client b.op t; found = stamp_of_record held }) (first_has (inputs_of b.client b.op t))

  abbrev pub version_reading : Begun → Option Reading
  version_reading b = option_map (λ version. record { step = version_made b.client b.op t; found = version_stamp version }) (version_of (inputs_of b.client b.op t))

  abbrev pub own_writing : Begun → List ℕ → Option (List ℕ) → Option Writing
  own_writing b key value = writing_with (own_stamp (write_plan p.f p.k b.client b.op key value) (inputs_of b.client b.op t)) (first_update (is_own b.client b.op) t)

  abbrev pub own_trial : Begun → List ℕ → List ℕ → Option Trial
  own_trial b key value = trial_with t (own_stamp (write_plan p.f p.k b.client b.op key (Some value)) (inputs_of b.client b.op t)) (first_update (is_own b.client b.op) t)

  -- a put or a delete writes, and a swap tries to
  abbrev pub change_set : Begun → List ℕ → Change → Option Writing
  change_set b key (Puts v) = own_writing b key (Some v)
  change_set b key Deletes = own_writing b key None
  change_set b key (Swaps e v) = None

  abbrev pub change_trial : Begun → List ℕ → Change → Option Trial
  change_trial b key (Puts v) = None
  change_trial b key Deletes = None
  change_trial b key (Swaps e v) = own_trial b key v

  abbrev pub own_end : Begun → Option ℕ
  own_end b = option_map (λ (r : Return). r.at) (return_of p b.client b.op t)

  abbrev pub run_with : Begun → List ℕ → ActKind → Option Reading → Option Writing → Option Trial → Run
  run_with b key act asked_ set tried = record { op = number_of b; client = b.client; key = key; act = act; begun = length b.start.before + 1; asked = asked_; set = set; tried = tried; ended = own_end b }

  -- the run of a put, a delete or a swap, and that of a get
  abbrev pub change_run : Begun → List ℕ → Change → Run
  change_run b key change = run_with b key (change_act change) (first_reading b) (change_set b key change) (change_trial b key change)

  abbrev pub get_run : Begun → List ℕ → Run
  get_run b key = run_with b key acts.Get (version_reading b) None None

  abbrev pub run_by : Begun → Action → Option Run
  run_by b (asked.Put key value) = Some (change_run b key (Puts value))
  run_by b (asked.Delete key) = Some (change_run b key Deletes)
  run_by b (asked.Get key) = Some (get_run b key)
  run_by b (asked.Collect key) = None
  run_by b (asked.Swap key expected value) = Some (change_run b key (Swaps expected value))

  pub change-run-is : (b : Begun) (key : List ℕ) (change : Change) → run_by b (change_action key change) ≡ Some (change_run b key change)
  change-run-is b key (Puts v) = refl
  change-run-is b key Deletes = refl
  change-run-is b key (Swaps e v) = refl

  -- the run is that of an operation of the trace
  pub record IsRun (run : Run) : Type 0 where
    pub b : Begun
    pub began : start_of b.client b.op t ≡ Some b.start
    pub is : run_by b b.start.action ≡ Some run

  -- a put, a delete or a swap, or a get
  pub record IsWriteRun (b : Begun) (run : Run) : Type 0 where
    pub change : Change
    pub action_is : b.start.action ≡ change_action run.key change
    pub run_is : run ≡ change_run b run.key change

  pub record IsReadRun (b : Begun) (run : Run) : Type 0 where
    pub action_is : b.start.action ≡ asked.Get run.key
    pub run_is : run ≡ get_run b run.key

  of-change : (b : Begun) (run : Run) (key : List ℕ) (change : Change) → b.start.action ≡ change_action key change → Some (change_run b key change) ≡ Some run → IsWriteRun b run ⊎ IsReadRun b run
  of-change b run key change action is = inl (subst (IsWriteRun b) (same_Some (change_run b key change) run is) (record { change = change; action_is = action; run_is = refl }))

  pub kind-of : (b : Begun) (run : Run) (a : Action) → b.start.action ≡ a → run_by b a ≡ Some run → IsWriteRun b run ⊎ IsReadRun b run
  kind-of b run (asked.Put key value) action is = of-change b run key (Puts value) action is
  kind-of b run (asked.Delete key) action is = of-change b run key Deletes action is
  kind-of b run (asked.Swap key expected value) action is = of-change b run key (Swaps expected value) action is
  kind-of b run (asked.Get key) action is = inr (subst (IsReadRun b) (same_Some (get_run b key) run is) (record { action_is = action; run_is = refl }))
  kind-of b run (asked.Collect key) action is = absurd (none-some run is)

  pub kind : (run : Run) → (is : IsRun run) → IsWriteRun is.b run ⊎ IsReadRun is.b run
  kind run is = kind-of is.b run is.b.start.action refl is.is

  -- what each run has, whatever it does
  pub begun-is : (run : Run) → (is : IsRun run) → (run.op ≡ number_of is.b) × (run.client ≡ is.b.client) × (run.begun ≡ length is.b.start.before + 1) × (run.ended ≡ own_end is.b)
  begun-is run is = elim (kind run is) [
    | inl write ↦ (ap (λ (r : Run). r.op) write.run_is, ap (λ (r : Run). r.client) write.run_is, ap (λ (r : Run). r.begun) write.run_is, ap (λ (r : Run). r.ended) write.run_is)
    | inr read ↦ (ap (λ (r : Run). r.op) read.run_is, ap (λ (r : Run). r.client) read.run_is, ap (λ (r : Run). r.begun) read.run_is, ap (λ (r : Run). r.ended) read.run_is)
  ]

pub map-some : {A B : Type 0} (f : A → B) (o : Option A) (y : B) → option_map f o ≡ Some y → (x : A) × (o ≡ Some x) × (f x ≡ y)
map-some f None y is = absurd (none-some y is)
map-some f (Some x) y is = (x, refl, same_Some (f x) y is)

pub writing-parts : (stamp : Option Timestamp) (u : Option Update) (w : Writing) → writing_with stamp u ≡ Some w → (x : Update) × (u ≡ Some x) × (stamp ≡ Some w.stamp) × (w.step ≡ x.step) × (w.is_applied ≡ x.is_applied)
writing-parts stamp None w is = absurd (none-some w is)
writing-parts None (Some u) w is = absurd (none-some w is)
writing-parts (Some s) (Some u) w is =
    let same = same_Some (record { step = u.step; stamp = s; is_applied = u.is_applied }) w is in
    (u, refl, ap (λ (x : Writing). Some x.stamp) same, sym (ap (λ (x : Writing). x.step) same), sym (ap (λ (x : Writing). x.is_applied) same))

pub trial-parts : (t : List Deed) (stamp : Option Timestamp) (u : Option Update) (r : Trial) → trial_with t stamp u ≡ Some r → (x : Update) × (u ≡ Some x) × (stamp ≡ Some r.stamp) × (r.step ≡ x.step) × (r.found ≡ stamp_before t x.key x.step)
trial-parts t stamp None r is = absurd (none-some r is)
trial-parts t None (Some u) r is = absurd (none-some r is)
trial-parts t (Some s) (Some u) r is =
    let same = same_Some (record { step = u.step; stamp = s; found = stamp_before t u.key u.step }) r is in
    (u, refl, ap (λ (x : Trial). Some x.stamp) same, sym (ap (λ (x : Trial). x.step) same), sym (ap (λ (x : Trial). x.found) same))

-- what wrote is a put or a delete, and what tried a swap
pub set-change : (p : Params) (t : List Deed) (b : Begun) (key : List ℕ) (change : Change) (w : Writing) → change_set p t b key change ≡ Some w → (change_expected change ≡ None) × (writes (change_act change) ≡ true) × (own_writing p t b key (change_value change) ≡ Some w)
set-change p t b key (Puts v) w is = (refl, refl, is)
set-change p t b key Deletes w is = (refl, refl, is)
set-change p t b key (Swaps e v) w is = absurd (none-some w is)

pub record IsSwapChange (p : Params) (t : List Deed) (b : Begun) (key : List ℕ) (change : Change) (r : Trial) : Type 0 where
  pub expected : Timestamp
  pub value : List ℕ
  pub is : change ≡ Swaps expected value
  pub trial : own_trial p t b key value ≡ Some r

pub trial-change : (p : Params) (t : List Deed) (b : Begun) (key : List ℕ) (change : Change) (r : Trial) → change_trial p t b key change ≡ Some r → IsSwapChange p t b key change r
trial-change p t b key (Puts v) r is = absurd (none-some r is)
trial-change p t b key Deletes r is = absurd (none-some r is)
trial-change p t b key (Swaps e v) r is = record { expected = e; value = v; is = refl; trial = is }

-- steps of unlike deeds differ
below : (m n : ℕ) → m ≤ n → (m ≡ n → ⊥) → m < n
below m n le other = elim (cases_lt m n) [ inl less ↦ less | inr past ↦ absurd (other (omega (arith, le, past))) ]

returns-later : (p : Params) (c n o : ℕ) (t : List Deed) (u : Start) (r : Return) → start_of c n t ≡ Some u → return_of p c o u.before ≡ Some r → return_of p c o t ≡ Some r
unfolding start_of return_of
returns-later p c n o [] u r began is = absurd (none-some u began)
returns-later p c n o (d ∷ t) u r began is =
    or-first (return_of p c o t) _ r
    (elim (or-cases (start_of c n t) _ u began) [
      | inl was ↦ returns-later p c n o t u r was is
      | inr now ↦ ap (return_of p c o) (sym (start-now c n d t u now.1)) ∙ is
    ])

some-return : (p : Params) (c o : ℕ) (t : List Deed) → is_some (reply_of p c o t) ≡ true → (r : Return) × (return_of p c o t ≡ Some r)
some-return p c o t is = by (return_of p c o t) refl
  where
    by : (old : Option Return) → return_of p c o t ≡ old → (r : Return) × (return_of p c o t ≡ Some r)
    by (Some r) was = (r, was)
    by None was = absurd (both_ways (is_some (reply_of p c o t)) (ap is_some (never-replied p c o t was)) is)

-- ---- operations that began

begun-grows : (d : Deed) (t : List Deed) → length (begun_of t) ≤ length (begun_of (d ∷ t))
unfolding begun_of
begun-grows (Began c o a) t = omega arith
begun-grows Joined t = omega arith
begun-grows (Handed c o w cue) t = omega arith
begun-grows (Served ask) t = omega arith
begun-grows (Granted ask) t = omega arith
begun-grows (Stopped c) t = omega arith
begun-grows Nothing t = omega arith

begun-counts : (c o : ℕ) (d : Deed) (t : List Deed) (s : Start) → start_at c o d t ≡ Some s → length (begun_of (d ∷ t)) ≡ length (begun_of t) + 1
unfolding begun_of
begun-counts c o (Began b n a) t s is = omega arith
begun-counts c o Joined t s is = absurd (none-some s is)
begun-counts c o (Handed b n w cue) t s is = absurd (none-some s is)
begun-counts c o (Served ask) t s is = absurd (none-some s is)
begun-counts c o (Granted ask) t s is = absurd (none-some s is)
begun-counts c o (Stopped b) t s is = absurd (none-some s is)
begun-counts c o Nothing t s is = absurd (none-some s is)

counted : (c o : ℕ) (t : List Deed) (s : Start) → start_of c o t ≡ Some s → length (begun_of s.before) + 1 ≤ length (begun_of t)
unfolding start_of
counted c o [] s is = absurd (none-some s is)
counted c o (d ∷ t) s is =
    elim (or-cases (start_of c o t) (start_at c o d t) s is) [
      | inl was ↦ (let before = counted c o t s was in let grows = begun-grows d t in omega (arith, before, grows))
      | inr now ↦ (let same = ap (λ (x : List Deed). length (begun_of x)) (start-now c o d t s now.1) in let counts = begun-counts c o d t s now.1 in omega (arith, same, counts))
    ]

-- what began before another operation began had begun then
earlier-start : (c o b n : ℕ) (t : List Deed) (s u : Start) → start_of c o t ≡ Some s → start_of b n t ≡ Some u → length s.before < length u.before → start_of c o u.before ≡ Some s
unfolding start_of
earlier-start c o b n [] s u first second less = absurd (none-some s first)
earlier-start c o b n (d ∷ t) s u first second less =
    elim (or-cases (start_of b n t) (start_at b n d t) u second) [
      | inr now ↦
          let u_is = start-now b n d t u now.1 in
          elim (or-cases (start_of c o t) (start_at c o d t) s first) [
            | inl was ↦ ap (start_of c o) u_is ∙ was
            | inr too ↦ (let e = ap (λ (x : List Deed). length x) (start-now c o d t s too.1) in let f = ap (λ (x : List Deed). length x) u_is in absurd (omega (arith, e, f, less)))
          ]
      | inl was ↦ elim (or-cases (start_of c o t) (start_at c o d t) s first) [
        | inl too ↦ earlier-start c o b n t s u too was less
        | inr now ↦ (let e = ap (λ (x : List Deed). length x) (start-now c o d t s now.1) in let short = shorter b n t u was in absurd (omega (arith, e, short, less)))
      ]
    ]

began-same : {c o b n : ℕ} {a x : Action} → Some (Began c o a) ≡ Some (Began b n x) → (c ≡ b) × (o ≡ n)
began-same e = (cc, cc)

-- operations that began at one step are one
pub one-start : (c o b n : ℕ) (t : List Deed) (s u : Start) → start_of c o t ≡ Some s → start_of b n t ≡ Some u → length s.before ≡ length u.before → (c ≡ b) × (o ≡ n)
one-start c o b n t s u first second same =
    let e : length s.before + 1 ≡ length u.before + 1 = omega (arith, same) in
    began-same (sym (begin-deed c o t s first).0 ∙ (ap (deed_at t) e ∙ (begin-deed b n t u second).0))

free-met : (change : Change) (inputs : List Cue) → change_expected change ≡ None → IsMet (change_expected change) inputs
free-met (Puts v) inputs free = tt
free-met Deletes inputs free = tt
free-met (Swaps e v) inputs free = absurd (none-some e (sym free))

module _ (p : Params) (t : List Deed) (trace : IsTrace p t) where
  same-run : (a b : Run) → (x : IsRun p t a) → (y : IsRun p t b) → length x.b.start.before ≡ length y.b.start.before → a ≡ b
  same-run a b x y same =
      let names = one-start x.b.client x.b.op y.b.client y.b.op t x.b.start y.b.start x.began y.began same in
      let start : x.b.start ≡ y.b.start = same_Some x.b.start y.b.start (sym x.began ∙ (ap (λ (c : ℕ). start_of c x.b.op t) names.0 ∙ (ap (λ (o : ℕ). start_of y.b.client o t) names.1 ∙ y.began))) in
      let one : x.b ≡ y.b = ap (λ (c : ℕ). begun c x.b.op x.b.start) names.0 ∙ (ap (λ (o : ℕ). begun y.b.client o x.b.start) names.1 ∙ ap (begun y.b.client y.b.op) start) in
      same_Some a b (sym x.is ∙ (ap (λ (z : Begun). run_by p t z z.start.action) one ∙ y.is))

  numbers : (a b : Run) → IsRun p t a → IsRun p t b → a.op ≡ b.op → a ≡ b
  numbers a b x y same =
      let n = (begun-is p t a x).0 in
      let m = (begun-is p t b y).0 in
      elim (cases_lt (length x.b.start.before) (length y.b.start.before)) [
        | inl less ↦ (let k = counted x.b.client x.b.op y.b.start.before x.b.start (earlier-start x.b.client x.b.op y.b.client y.b.op t x.b.start y.b.start x.began y.began less) in absurd (omega (arith, n, m, k, same)))
        | inr past ↦ elim (cases_lt (length y.b.start.before) (length x.b.start.before)) [
          | inl less ↦ (let k = counted y.b.client y.b.op x.b.start.before y.b.start (earlier-start y.b.client y.b.op x.b.client x.b.op t y.b.start x.b.start y.began x.began less) in absurd (omega (arith, n, m, k, same)))
          | inr upto ↦ same-run a b x y (omega (arith, past, upto))
        ]
      ]

  in-turn : (a b : Run) → IsRun p t a → IsRun p t b → a.client ≡ b.client → a.begun < b.begun → (end : ℕ) × (a.ended ≡ Some end) × (end < b.begun)
  in-turn a b x y clients less =
      let f = begun-is p t a x in
      let g = begun-is p t b y in
      let fb = f.2 in let gb = g.2 in
      let sooner : length x.b.start.before < length y.b.start.before = omega (arith, fb, gb, less) in
      let client : x.b.client ≡ y.b.client = sym f.1 ∙ (clients ∙ g.1) in
      let before : start_of x.b.client x.b.op y.b.start.before ≡ Some x.b.start = earlier-start x.b.client x.b.op y.b.client y.b.op t x.b.start y.b.start x.began y.began sooner in
      let idle = (start-trace p y.b.client y.b.op t y.b.start trace y.began).1 in
      let mine : start_of y.b.client x.b.op y.b.start.before ≡ Some x.b.start = ap (λ (c : ℕ). start_of c x.b.op y.b.start.before) (sym client) ∙ before in
      let settled = idle.settled x.b.op (λ (same : y.b.op ≡ x.b.op). (
      let one : x.b.start ≡ y.b.start = same_Some x.b.start y.b.start (sym x.began ∙ (ap (λ (c : ℕ). start_of c x.b.op t) client ∙ (ap (λ (o : ℕ). start_of y.b.client o t) (sym same) ∙ y.began))) in
      let e = ap (λ (s : Start). length s.before) one in
      omega (arith, e, sooner))) (ap is_some mine) in
      let r = some-return p y.b.client x.b.op y.b.start.before settled in
      let within = returned-within p y.b.client x.b.op y.b.start.before r.0 r.1 in
      let later : return_of p x.b.client x.b.op t ≡ Some r.0 = ap (λ (c : ℕ). return_of p c x.b.op t) client ∙ returns-later p y.b.client y.b.op x.b.op t y.b.start r.0 y.began (r.1) in
      (r.0.at, f.3 ∙ ap (option_map (λ (z : Return). z.at)) later, omega (arith, within, gb))

  -- ---- writes

  module _ (b : Begun) (began : start_of b.client b.op t ≡ Some b.start) where
    -- the deeds of an operation's steps differ
    begin-at : deed_at t (length b.start.before + 1) ≡ Some (Began b.client b.op b.start.action)
    begin-at = (begin-deed b.client b.op t b.start began).0

    unlike : {A : Type 0} (o : Option A) (x y : A) → (x ≡ y → ⊥) → o ≡ Some x → o ≡ Some y → ⊥
    unlike o x y other first second = other (same_Some x y (sym first ∙ second))

    read-begun : (n : ℕ) (k : List ℕ) → deed_at t n ≡ Some (Served (asks.Read b.client b.op k)) → length b.start.before + 1 < n
    read-begun n k at = (let x = read-late p t n b.client b.op k trace at in let same = ap (λ (s : Start). length s.before) (start-same b.client b.op t x.0 b.start x.1 began) in let less = x.2 in omega (arith, same, less))

    before-end : (n : ℕ) (r : Return) (d : Deed) → ((w : ℕ) (cue : Cue) → d ≡ Handed b.client b.op w cue → ⊥) → return_of p b.client b.op t ≡ Some r → deed_at t n ≡ Some d → n ≤ r.at → n < r.at
    before-end n r d other returned at le =
        let e = end-deed p b.client b.op t r trace returned in
        below n r.at le (λ same. unlike (deed_at t n) d (Handed b.client b.op e.0 e.1) (other e.0 e.1) at (ap (deed_at t) same ∙ e.2))

    ended-return : (run : Run) (end : ℕ) → run.ended ≡ own_end p t b → run.ended ≡ Some end → (r : Return) × (return_of p b.client b.op t ≡ Some r) × (r.at ≡ end)
    ended-return run end of is = map-some (λ (r : Return). r.at) (return_of p b.client b.op t) end (sym of ∙ is)

  write-key : (b : Begun) (run : Run) → (w : IsWriteRun p t b run) → key_of b.start.action ≡ run.key
  write-key b run w = ap key_of w.action_is ∙ key_of-write run.key w.change

  -- a reading by an answer that tells the record
  well-read : (run : Run) (r : Reading) (b : Begun) → start_of b.client b.op t ≡ Some b.start → (w : ℕ) (held : Option RecordValue) → IsSentAt p t w (Say (says.Has b.client b.op (key_of b.start.action) held))
      → w ≡ r.step → stamp_of_record held ≡ r.found → key_of b.start.action ≡ run.key → run.begun ≡ length b.start.before + 1 → run.ended ≡ own_end p t b
      → ((x : Return) → return_of p b.client b.op t ≡ Some x → w ≤ x.at) → ((y : Writing) → run.set ≡ Some y → r.step < y.step) → ((y : Trial) → run.tried ≡ Some y → r.step < y.step) → ReadsWell (top_at t) run r
  well-read run r b began w held sent step stamp key begun_ ended_ upto sooner tries_ =
      let deed = read-deed p t w b.client b.op (key_of b.start.action) held sent in
      let at = has-at p t w b.client b.op (key_of b.start.action) held sent in
      let strict = read-begun b began w (key_of b.start.action) deed in
      record {
        begun = omega (arith, begun_, strict, step);
        finds = λ n e. sym stamp ∙ (sym (at.before n (e ∙ sym step)) ∙ ap (λ (k : List ℕ). top_at t k n) key);
        ended = λ end ended. (
            let x = ended-return b began run end ended_ ended in
            let less = before-end b began w x.0 (Served (asks.Read b.client b.op (key_of b.start.action))) (λ n cue e. cc) x.1 deed (upto x.0 x.1) in
            let same = x.2 in
            omega (arith, step, less, same));
        set = sooner;
        tried = tries_;
      }

  first-reads : (run : Run) (r : Reading) (b : Begun) → start_of b.client b.op t ≡ Some b.start → (w : IsWriteRun p t b run) → run.asked ≡ Some r → ReadsWell (top_at t) run r
  first-reads run r b began w is =
      let found = map-some (λ held. record { step = first_made b.client b.op t; found = stamp_of_record held }) (first_has (inputs_of b.client b.op t)) r (sym (ap (λ (x : Run). x.asked) w.run_is) ∙ is) in
      let step : first_made b.client b.op t ≡ r.step = ap (λ (x : Reading). x.step) found.2 in
      well-read run r b began (first_made b.client b.op t) found.0 (first-sent p b.client b.op t trace b.start began found.0 found.1) step (ap (λ (x : Reading). x.found) found.2) (write-key b run w)
      (ap (λ (x : Run). x.begun) w.run_is) (ap (λ (x : Run). x.ended) w.run_is) (λ x returned. first-returned p b.client b.op t x trace returned)
      (λ writing has. (
      let c = set-change p t b run.key w.change writing (sym (ap (λ (y : Run). y.set) w.run_is) ∙ has) in
      let x = writing-parts (own_stamp (write_plan p.f p.k b.client b.op run.key (change_value w.change)) (inputs_of b.client b.op t)) (first_update (is_own b.client b.op) t) writing c.2 in
      let told_ = (told-before p b.client b.op t trace x.0 x.1).sooner in
      let same = x.3 in
      omega (arith, step, told_, same)))
      (λ trial has. (
      let c = trial-change p t b run.key w.change trial (sym (ap (λ (y : Run). y.tried) w.run_is) ∙ has) in
      let x = trial-parts t (own_stamp (write_plan p.f p.k b.client b.op run.key (Some c.value)) (inputs_of b.client b.op t)) (first_update (is_own b.client b.op) t) trial c.trial in
      let told_ = (told-before p b.client b.op t trace x.0 x.1).sooner in
      let same = x.3 in
      omega (arith, step, told_, same)))

  version-reads : (run : Run) (r : Reading) (b : Begun) → start_of b.client b.op t ≡ Some b.start → (w : IsReadRun p t b run) → run.asked ≡ Some r → ReadsWell (top_at t) run r
  version-reads run r b began w is =
      let found = map-some (λ version. record { step = version_made b.client b.op t; found = version_stamp version }) (version_of (inputs_of b.client b.op t)) r (sym (ap (λ (x : Run). x.asked) w.run_is) ∙ is) in
      well-read run r b began (version_made b.client b.op t) found.0.rec (version-sent p b.client b.op t trace b.start began found.0 found.1) (ap (λ (x : Reading). x.step) found.2) (ap (λ (x : Reading). x.found) found.2) (ap key_of w.action_is)
      (ap (λ (x : Run). x.begun) w.run_is) (ap (λ (x : Run). x.ended) w.run_is) (λ x returned. version-returned p b.client b.op t x trace returned)
      (λ writing has. absurd (none-some writing (sym (ap (λ (y : Run). y.set) w.run_is) ∙ has)))
      (λ trial has. absurd (none-some trial (sym (ap (λ (y : Run). y.tried) w.run_is) ∙ has)))

  -- the write of a run
  abbrev is-writing : (run : Run) (b : Begun) (stamp : Timestamp) → start_of b.client b.op t ≡ Some b.start → (w : IsWriteRun p t b run) → change_expected w.change ≡ None → own_stamp (write_plan p.f p.k b.client b.op run.key (change_value w.change)) (inputs_of b.client b.op t) ≡ Some stamp → IsWriting p b.client b.op run.key stamp t
  is-writing run b stamp began w free own = record { start = b.start; began = began; change = w.change; action_is = w.action_is; met = free-met w.change (inputs_of b.client b.op t) free; own = own }

  own-writes : (run : Run) (writing : Writing) (b : Begun) → start_of b.client b.op t ≡ Some b.start → (w : IsWriteRun p t b run) → run.set ≡ Some writing → WritesWell (top_at t) run writing
  own-writes run writing b began w is =
      let c = set-change p t b run.key w.change writing (sym (ap (λ (y : Run). y.set) w.run_is) ∙ is) in
      let x = writing-parts (own_stamp (write_plan p.f p.k b.client b.op run.key (change_value w.change)) (inputs_of b.client b.op t)) (first_update (is_own b.client b.op) t) writing c.2 in
      let wr = is-writing run b writing.stamp began w c.0 x.2 in
      let plan = write_plan p.f p.k b.client b.op run.key (change_value w.change) in
      let has = own-has plan (inputs_of b.client b.op t) writing.stamp x.2 in
      let served_ = (first-served (is_own b.client b.op) t x.0 x.1).0 in
      let of = own-update p t trace b.client b.op run.key writing.stamp wr x.0 x.1 in
      let u = update-deed b.client b.op t x.0 x.1 in
      let step = x.3 in
      record {
        is_write = ap (λ (y : Run). writes y.act) w.run_is ∙ c.1;
        reading = record { step = first_made b.client b.op t; found = stamp_of_record has.0 };
        asked = ap (λ (y : Run). y.asked) w.run_is ∙ ap (option_map (λ held. record { step = first_made b.client b.op t; found = stamp_of_record held })) has.1;
        next = ap (next_stamp (stamp_of_record has.0)) (ap (λ (y : Run). y.client) w.run_is) ∙ has.2;
        applies = λ n e. x.4 ∙ applies x.0 served_ (of.0, of.1) (of.2 ∙ c.0) n (e ∙ step) (x.0.is_applied) refl;
        ended = λ end ended. (
            let r = ended-return b began run end (ap (λ (y : Run). y.ended) w.run_is) ended in
            let v = updated-before p b.client b.op t trace run.key w.change c.0 b.start began w.action_is writing.stamp x.2 r.0 r.1 in
            let one = ap (λ (y : Update). y.step) (same_Some v.0 x.0 (sym v.1 ∙ x.1)) in
            let le = v.2 in
            let same = r.2 in
            let less = before-end b began x.0.step r.0 (Served (ask_with u.attempt u.attempt.expected)) (λ n cue f. cc) r.1 u.deed (omega (arith, one, le)) in
            omega (arith, step, less, same));
      }
    where
      applies : (u : Update) → (s : IsServedUpdate t u) → (u.key ≡ run.key) × (u.stamp ≡ writing.stamp) → s.attempt.expected ≡ None → (n : ℕ) → n + 1 ≡ u.step → (applied : Bool) → u.is_applied ≡ applied → u.is_applied ≡ stamp_lt (top_at t run.key n) writing.stamp
      applies u served_ of free n e true applied =
          applied ∙ sym (ap (λ (k : List ℕ). stamp_lt (top_at t k n) writing.stamp) (sym of.0) ∙ (ap (stamp_lt (top_at t u.key n)) (sym of.1) ∙ (served_.applied applied).1 n (omega (arith, e))))
      applies u served_ of free n e false refused =
          refused ∙ sym (ap (λ (k : List ℕ). stamp_lt (top_at t k n) writing.stamp) (sym of.0) ∙ (ap (stamp_lt (top_at t u.key n)) (sym of.1) ∙ served_.refused refused free n e))

  -- the try of a run
  own-tries : (run : Run) (trial : Trial) (b : Begun) → start_of b.client b.op t ≡ Some b.start → (w : IsWriteRun p t b run) → run.tried ≡ Some trial → TriesWell (top_at t) run trial
  own-tries run trial b began w is =
      let c = trial-change p t b run.key w.change trial (sym (ap (λ (y : Run). y.tried) w.run_is) ∙ is) in
      let x = trial-parts t (own_stamp (write_plan p.f p.k b.client b.op run.key (Some c.value)) (inputs_of b.client b.op t)) (first_update (is_own b.client b.op) t) trial c.trial in
      let action : b.start.action ≡ asked.Swap run.key c.expected c.value = w.action_is ∙ ap (change_action run.key) c.is in
      let j = swap-judged p t trace b began run.key c.expected c.value action x.0 x.1 in
      let u = update-deed b.client b.op t x.0 x.1 in
      let within = (first-served (is_own b.client b.op) t x.0 x.1).0.within in
      let stamp : trial.stamp ≡ x.0.stamp = same_Some trial.stamp x.0.stamp (sym x.2 ∙ j.own) in
      let step = x.3 in
      record {
        expected = c.expected;
        is_swap = ap (λ (y : Run). y.act) w.run_is ∙ ap change_act c.is;
        reading = record { step = first_made b.client b.op t; found = stamp_of_record j.met.0 };
        asked = ap (λ (y : Run). y.asked) w.run_is ∙ ap (option_map (λ held. record { step = first_made b.client b.op t; found = stamp_of_record held })) j.met.1;
        as_expected = j.met.2;
        next = ap (next_stamp c.expected) (ap (λ (y : Run). y.client) w.run_is) ∙ (j.next ∙ ap Some (sym stamp));
        finds = λ n e. x.4 ∙ (before-at t x.0.key x.0.step n (e ∙ step) within ∙ ap (λ (k : List ℕ). top_at t k n) j.key_is);
        ended = λ end ended. (
            let r = ended-return b began run end (ap (λ (y : Run). y.ended) w.run_is) ended in
            let v = judged-before p t trace b began run.key c.expected c.value action j.met x.0.stamp j.own r.0 r.1 in
            let one = ap (λ (y : Update). y.step) (same_Some v.0 x.0 (sym v.1 ∙ x.1)) in
            let le = v.2 in
            let same = r.2 in
            let less = before-end b began x.0.step r.0 (Served (ask_with u.attempt u.attempt.expected)) (λ n cue f. cc) r.1 u.deed (omega (arith, one, le)) in
            omega (arith, step, less, same));
      }

  write-returns : (run : Run) (b : Begun) → start_of b.client b.op t ≡ Some b.start → (w : IsWriteRun p t b run) → change_expected w.change ≡ None → change_set p t b run.key w.change ≡ own_writing p t b run.key (change_value w.change) → (r : Return) → return_of p b.client b.op t ≡ Some r
      → ((x : Writing) × (run.set ≡ Some x)) ⊎ ((x : Reading) × (run.asked ≡ Some x) × (next_stamp x.found run.client ≡ None))
  unfolding own_stamp
  write-returns run b began w free set_is r returned =
      let inputs = inputs_of b.client b.op t in
      let plan = write_plan p.f p.k b.client b.op run.key (change_value w.change) in
      let h = return-reply p b.client b.op t r trace returned in
      let same : h.start ≡ b.start = start-same b.client b.op t h.start b.start h.began began in
      let replies : write_reply plan inputs ≡ Some r.reply = sym (replied-write p b.client b.op run.key w.change inputs ∙ free-reply plan w.change inputs free) ∙ (ap (λ (a : Action). replied p.f p.k b.client b.op a inputs) (sym (ap (λ (s : Start). s.action) same ∙ w.action_is)) ∙ h.replies) in
      let by = replies-by plan inputs r.reply replies in
      by_stamp by.held by.has (next_stamp (stamp_of_record by.held) b.client) refl
    where
      by_stamp : (held : Option RecordValue) → first_has (inputs_of b.client b.op t) ≡ Some held → (o : Option Timestamp) → next_stamp (stamp_of_record held) b.client ≡ o
          → ((x : Writing) × (run.set ≡ Some x)) ⊎ ((x : Reading) × (run.asked ≡ Some x) × (next_stamp x.found run.client ≡ None))
      by_stamp held has None next = inr (
        record { step = first_made b.client b.op t; found = stamp_of_record held },
        ap (λ (y : Run). y.asked) w.run_is ∙ ap (option_map (λ h. record { step = first_made b.client b.op t; found = stamp_of_record h })) has,
        ap (next_stamp (stamp_of_record held)) (ap (λ (y : Run). y.client) w.run_is) ∙ next,
      )
      by_stamp held has (Some x) next =
          (let own : own_stamp (write_plan p.f p.k b.client b.op run.key (change_value w.change)) (inputs_of b.client b.op t) ≡ Some x = has-own held has x next in
          let u = updated-before p b.client b.op t trace run.key w.change free b.start began w.action_is x own r returned in
          inl (
            record { step = u.0.step; stamp = x; is_applied = u.0.is_applied },
            ap (λ (y : Run). y.set) w.run_is ∙ (set_is ∙ ap (λ (s : Option Timestamp). writing_with s (first_update (is_own b.client b.op) t)) own ∙ ap (writing_with (Some x)) u.1),
          ))
        where
          has-own : (held : Option RecordValue) → first_has (inputs_of b.client b.op t) ≡ Some held → (x : Timestamp) → next_stamp (stamp_of_record held) b.client ≡ Some x → own_stamp (write_plan p.f p.k b.client b.op run.key (change_value w.change)) (inputs_of b.client b.op t) ≡ Some x
          has-own held has x next = ap (option_and_then (stamp_upon b.client)) has ∙ next

  -- how a swap returns
  swap-returns : (run : Run) (b : Begun) → start_of b.client b.op t ≡ Some b.start → (w : IsWriteRun p t b run) → (e : Timestamp) (v : List ℕ) → w.change ≡ Swaps e v → (r : Return) → return_of p b.client b.op t ≡ Some r → MayReturn run (acts.Swap e)
  swap-returns run b began w e v is r returned = by_reply (swap-replies p t trace b began run.key e v action r returned).1
    where
      action : b.start.action ≡ asked.Swap run.key e v
      action = w.action_is ∙ ap (change_action run.key) is

      reading : (held : Option RecordValue) → first_has (inputs_of b.client b.op t) ≡ Some held → run.asked ≡ Some (record { step = first_made b.client b.op t; found = stamp_of_record held })
      reading held has = ap (λ (y : Run). y.asked) w.run_is ∙ ap (option_map (λ h. record { step = first_made b.client b.op t; found = stamp_of_record h })) has

      by_reply : SwapReplies (write_plan p.f p.k b.client b.op run.key (Some v)) e (inputs_of b.client b.op t) r.reply → MayReturn run (acts.Swap e)
      by_reply (inr (inl changed)) = inr (record { step = first_made b.client b.op t; found = stamp_of_record changed.held }, reading changed.held changed.has, inl (stamp_eq-flip (stamp_of_record changed.held) e false changed.other))
      by_reply (inr (inr ended)) = inr (record { step = first_made b.client b.op t; found = stamp_of_record ended.held }, reading ended.held ended.has, inr (ap (next_stamp (stamp_of_record ended.held)) (ap (λ (y : Run). y.client) w.run_is) ∙ ended.none))
      by_reply (inl a) =
          (let own = update-own (write_plan p.f p.k b.client b.op run.key (Some v)) (inputs_of b.client b.op t) a.rec a.update in
          let u = judged-before p t trace b began run.key e v action a.met a.rec.stamp own r returned in
          inl (
            record { step = u.0.step; stamp = a.rec.stamp; found = stamp_before t u.0.key u.0.step },
            ap (λ (y : Run). y.tried) w.run_is ∙ (ap (change_trial p t b run.key) is
                ∙ (ap (λ (s : Option Timestamp). trial_with t s (first_update (is_own b.client b.op) t)) own ∙ ap (trial_with t (Some a.rec.stamp)) u.1)),
          ))

  -- ---- the record

  reads : (run : Run) (r : Reading) → IsRun p t run → run.asked ≡ Some r → ReadsWell (top_at t) run r
  reads run r is has = elim (kind p t run is) [ inl w ↦ first-reads run r is.b is.began w has | inr w ↦ version-reads run r is.b is.began w has ]

  sets : (run : Run) (w : Writing) → IsRun p t run → run.set ≡ Some w → WritesWell (top_at t) run w
  sets run writing is has = elim (kind p t run is) [
    | inl w ↦ own-writes run writing is.b is.began w has
    | inr w ↦ absurd (none-some writing (sym (ap (λ (y : Run). y.set) w.run_is) ∙ has))
  ]

  tries : (run : Run) (r : Trial) → IsRun p t run → run.tried ≡ Some r → TriesWell (top_at t) run r
  tries run trial is has = elim (kind p t run is) [
    | inl w ↦ own-tries run trial is.b is.began w has
    | inr w ↦ absurd (none-some trial (sym (ap (λ (y : Run). y.tried) w.run_is) ∙ has))
  ]

  ends : (run : Run) (end : ℕ) → IsRun p t run → run.ended ≡ Some end → (run.begun < end) × MayReturn run run.act
  unfolding replied
  ends run end is has =
      let f = begun-is p t run is in
      let r = ended-return is.b is.began run end f.3 has in
      let e = end-deed p is.b.client is.b.op t r.0 trace r.1 in
      let late = return-late p is.b.client is.b.op t r.0 is.b.start trace r.1 is.began in
      let less = below (length is.b.start.before + 1) r.0.at late (λ same. unlike is.b is.began (deed_at t r.0.at) (Began is.b.client is.b.op is.b.start.action) (Handed is.b.client is.b.op e.0 e.1) (λ x. cc) (ap (deed_at t) (sym same) ∙ begin-at is.b is.began) e.2) in
      let fb = f.2 in let same = r.2 in
      (omega (arith, fb, less, same), elim (kind p t run is) [ inl w ↦ write-may w w.change refl r.0 r.1 | inr w ↦ subst (MayReturn run) (sym (ap (λ (x : Run). x.act) w.run_is)) (read-may w r.0 r.1) ])
    where
      set-same : (w : IsWriteRun p t is.b run) → (change : Change) → w.change ≡ change → change_set p t is.b run.key change ≡ own_writing p t is.b run.key (change_value change) → change_set p t is.b run.key w.change ≡ own_writing p t is.b run.key (change_value w.change)
      set-same w change same own = subst (λ (c : Change). change_set p t is.b run.key c ≡ own_writing p t is.b run.key (change_value c)) (sym same) own

      write-may : (w : IsWriteRun p t is.b run) → (change : Change) → w.change ≡ change → (r : Return) → return_of p is.b.client is.b.op t ≡ Some r → MayReturn run run.act
      write-may w (Puts v) same r returned = subst (MayReturn run) (sym (ap (λ (x : Run). x.act) w.run_is ∙ ap change_act same)) (write-returns run is.b is.began w (ap change_expected same) (set-same w (Puts v) same refl) r returned)
      write-may w Deletes same r returned = subst (MayReturn run) (sym (ap (λ (x : Run). x.act) w.run_is ∙ ap change_act same)) (write-returns run is.b is.began w (ap change_expected same) (set-same w Deletes same refl) r returned)
      write-may w (Swaps e v) same r returned = subst (MayReturn run) (sym (ap (λ (x : Run). x.act) w.run_is ∙ ap change_act same)) (swap-returns run is.b is.began w e v same r returned)

      read-may : IsReadRun p t is.b run → (r : Return) → return_of p is.b.client is.b.op t ≡ Some r → MayReturn run acts.Get
      read-may w r returned =
          let h = return-reply p is.b.client is.b.op t r trace returned in
          let same : h.start ≡ is.b.start = start-same is.b.client is.b.op t h.start is.b.start h.began is.began in
          let inputs = inputs_of is.b.client is.b.op t in
          let replies : read_reply inputs ≡ Some r.reply = ap (λ (a : Action). replied p.f p.k is.b.client is.b.op a inputs) (sym (ap (λ (s : Start). s.action) same ∙ w.action_is)) ∙ h.replies in
          let v = answered-version (version_of inputs) r.reply (reply-version p is.b.client is.b.op run.key r.reply t trace (λ s began. ap (λ (x : Start). x.action) (start-same is.b.client is.b.op t s is.b.start began is.began) ∙ w.action_is) replies) in (
            record { step = version_made is.b.client is.b.op t; found = version_stamp v.0 },
            ap (λ (x : Run). x.asked) w.run_is ∙ ap (option_map (λ version. record { step = version_made is.b.client is.b.op t; found = version_stamp version })) v.1,
          )

  -- the first update of a write, as it was served
  applied-update : (run : Run) (w : Writing) → (is : IsRun p t run) → run.set ≡ Some w → w.is_applied ≡ true → top_at t run.key w.step ≡ w.stamp
  applied-update run writing is has applied = elim (kind p t run is) [
    | inr w ↦ absurd (none-some writing (sym (ap (λ (y : Run). y.set) w.run_is) ∙ has))
    | inl w ↦
        let c = set-change p t is.b run.key w.change writing (sym (ap (λ (y : Run). y.set) w.run_is) ∙ has) in
        let x = writing-parts (own_stamp (write_plan p.f p.k is.b.client is.b.op run.key (change_value w.change)) (inputs_of is.b.client is.b.op t)) (first_update (is_own is.b.client is.b.op) t) writing c.2 in
        let of = own-update p t trace is.b.client is.b.op run.key writing.stamp (is-writing run is.b writing.stamp is.began w c.0 x.2) x.0 x.1 in
        let served_ = (first-served (is_own is.b.client is.b.op) t x.0 x.1).0 in
        ap (top_at t run.key) x.3 ∙ (ap (λ (k : List ℕ). top_at t k x.0.step) (sym of.0) ∙ ((served_.applied (sym x.4 ∙ applied)).0 ∙ of.1))
  ]

  -- a swap that found what it expects when it was judged
  applied-trial : (run : Run) (at : ℕ) (stamp found : Timestamp) → (is : IsRun p t run) → run.act ≡ acts.Swap found → run.tried ≡ Some (record { step = at; stamp = stamp; found = found }) → top_at t run.key at ≡ stamp
  applied-trial run at stamp found is act has = elim (kind p t run is) [
    | inr w ↦ absurd (none-some (record { step = at; stamp = stamp; found = found }) (sym (ap (λ (y : Run). y.tried) w.run_is) ∙ has))
    | inl w ↦
        let trial : Trial = record { step = at; stamp = stamp; found = found } in
        let c = trial-change p t is.b run.key w.change trial (sym (ap (λ (y : Run). y.tried) w.run_is) ∙ has) in
        let x = trial-parts t (own_stamp (write_plan p.f p.k is.b.client is.b.op run.key (Some c.value)) (inputs_of is.b.client is.b.op t)) (first_update (is_own is.b.client is.b.op) t) trial c.trial in
        let j = swap-judged p t trace is.b is.began run.key c.expected c.value (w.action_is ∙ ap (change_action run.key) c.is) x.0 x.1 in
        let expected : c.expected ≡ found = swap-same (sym (ap (λ (y : Run). y.act) w.run_is ∙ ap change_act c.is) ∙ act) in
        let applied : x.0.is_applied ≡ true = j.applied ∙ (ap (stamp_eq c.expected) (sym x.4) ∙ (ap (λ (s : Timestamp). stamp_eq s found) expected ∙ stamp_eq-same found)) in
        let served_ = (first-served (is_own is.b.client is.b.op) t x.0 x.1).0 in
        ap (top_at t run.key) x.3 ∙ (ap (λ (k : List ℕ). top_at t k x.0.step) (sym j.key_is) ∙ ((served_.applied applied).0 ∙ same_Some x.0.stamp stamp (sym j.own ∙ x.2)))
  ]

  low : (run : Run) (at : ℕ) (stamp : Timestamp) (step : ℕ) → IsRun p t run → Raises run at stamp → at ≤ step → stamp_lt (top_at t run.key step) stamp ≡ false
  low run at stamp step is (inl has) within = subst (λ (x : Timestamp). stamp_lt (top_at t run.key step) x ≡ false) (applied-update run (record { step = at; stamp = stamp; is_applied = true }) is has refl) (at-rises t run.key at step within)
  low run at stamp step is (inr tried) within = subst (λ (x : Timestamp). stamp_lt (top_at t run.key step) x ≡ false) (applied-trial run at stamp tried.0 is tried.1 tried.2) (at-rises t run.key at step within)

  -- a key is not both written and tried
  apart : (a b : Run) (w : Writing) (r : Trial) → IsRun p t a → IsRun p t b → a.set ≡ Some w → b.tried ≡ Some r → a.key ≡ b.key → ⊥
  apart a b w r first second has tried keys = elim (kind p t a first) [
    | inr x ↦ none-some w (sym (ap (λ (y : Run). y.set) x.run_is) ∙ has)
    | inl x ↦ elim (kind p t b second) [
      | inr y ↦ none-some r (sym (ap (λ (z : Run). z.tried) y.run_is) ∙ tried)
      | inl y ↦
          let c = set-change p t first.b a.key x.change w (sym (ap (λ (z : Run). z.set) x.run_is) ∙ has) in
          let d = trial-change p t second.b b.key y.change r (sym (ap (λ (z : Run). z.tried) y.run_is) ∙ tried) in
          let cell : is_cell b.key ≡ true = sym (ap suits (y.action_is ∙ ap (change_action b.key) d.is)) ∙ start-suits p second.b.client second.b.op t second.b.start trace second.began in
          plain x.change c.0 (sym (ap suits x.action_is) ∙ start-suits p first.b.client first.b.op t first.b.start trace first.began) (ap is_cell keys ∙ cell)
    ]
  ]
    where
      not-both : (x : Bool) → not x ≡ true → x ≡ true → ⊥
      not-both true first second = cc
      not-both false first second = cc

      plain : (change : Change) → change_expected change ≡ None → suits (change_action a.key change) ≡ true → is_cell a.key ≡ true → ⊥
      plain (Puts v) free fits cell = not-both (is_cell a.key) fits cell
      plain Deletes free fits cell = not-both (is_cell a.key) fits cell
      plain (Swaps e v) free fits cell = none-some e (sym free)

  from : (key : List ℕ) (step : ℕ) → (top_at t key step ≡ no_stamp) ⊎ IsRaised (IsRun p t) key step (top_at t key step)
  from key step = elim (cases_bool (stamp_lt zero_stamp (top_at t key step))) [
    | inr upto ↦ inl (sym (stamp_eq-true zero_stamp (top_at t key step) (stamp_lt-neither zero_stamp (top_at t key step) upto (zero-least (top_at t key step)))))
    | inl above ↦
        let found = at-applied t key step (top_at t key step) refl above in
        let a = found.0 in
        let c = a.client in let o = a.op in
        let tried = applied-tried (served t) a found.1 in
        let meant : IsUpdating p c o key a.expected a.rec t = by-means p t a c o key trace (trace-holds p t trace) tried (refl, refl, found.2) in
        let u = tried-first a t tried in
        let plan = write_plan p.f p.k c o key (change_value meant.change) in
        let own : own_stamp plan (inputs_of c o t) ≡ Some (top_at t key step) = update-own plan (inputs_of c o t) a.rec meant.update ∙ ap Some found.3 in
        let wr : IsWriting p c o key (top_at t key step) t = record { start = meant.start; began = meant.began; change = meant.change; action_is = meant.action_is; met = meant.met; own = own } in
        let of = own-update p t trace c o key (top_at t key step) wr u.0 u.1 in
        let applied = first-applied p c o t u.0 trace u.1 (applied-was (served t) a found.1) in
        let served_ = (first-served (is_own c o) t u.0 u.1).0 in
        inr (raised (begun c o meant.start) meant.began meant.change meant.action_is u.0 u.1 own applied (elim (cases_lt step u.0.step) [
          | inr within ↦ within
          | inl early ↦ absurd (both_ways (stamp_lt (top_at t key step) (top_at t key step)) (stamp_lt-same (top_at t key step))
              (ap (λ (k : List ℕ). stamp_lt (top_at t k step) (top_at t key step)) (sym of.0) ∙ (ap (stamp_lt (top_at t u.0.key step)) (sym of.1) ∙ (served_.applied applied).1 step early)))
        ]))
  ]
    where
      written : (b : Begun) (u : Update) → first_update (is_own b.client b.op) t ≡ Some u → u.is_applied ≡ true → (value : Option (List ℕ)) → own_stamp (write_plan p.f p.k b.client b.op key value) (inputs_of b.client b.op t) ≡ Some (top_at t key step)
          → own_writing p t b key value ≡ Some (record { step = u.step; stamp = top_at t key step; is_applied = true })
      written b u first applied value own =
          ap (λ (x : Option Timestamp). writing_with x (first_update (is_own b.client b.op) t)) own ∙ (ap (writing_with (Some (top_at t key step))) first
          ∙ ap (λ (x : Bool). Some (record { step = u.step; stamp = top_at t key step; is_applied = x })) applied)

      raised : (b : Begun) → start_of b.client b.op t ≡ Some b.start → (change : Change) → b.start.action ≡ change_action key change → (u : Update) → first_update (is_own b.client b.op) t ≡ Some u
          → own_stamp (write_plan p.f p.k b.client b.op key (change_value change)) (inputs_of b.client b.op t) ≡ Some (top_at t key step) → u.is_applied ≡ true → u.step ≤ step → IsRaised (IsRun p t) key step (top_at t key step)
      raised b began (Puts v) action u first own applied within = record {
        run = change_run p t b key (Puts v);
        is = record { b = b; began = began; is = ap (run_by p t b) action };
        key_is = refl;
        at = u.step;
        raises = inl (written b u first applied (Some v) own);
        within = within;
      }
      raised b began Deletes action u first own applied within = record {
        run = change_run p t b key Deletes;
        is = record { b = b; began = began; is = ap (run_by p t b) action };
        key_is = refl;
        at = u.step;
        raises = inl (written b u first applied None own);
        within = within;
      }
      raised b began (Swaps e v) action u first own applied within =
          (let j = swap-judged p t trace b began key e v action u first in
          let met : e ≡ stamp_before t u.key u.step = stamp_eq-true e (stamp_before t u.key u.step) (sym j.applied ∙ applied) in
          record {
            run = change_run p t b key (Swaps e v);
            is = record { b = b; began = began; is = ap (run_by p t b) action };
            key_is = refl;
            at = u.step;
            raises = inr (e, refl, ap (λ (x : Option Timestamp). trial_with t x (first_update (is_own b.client b.op) t)) own ∙ (ap (trial_with t (Some (top_at t key step))) first ∙ ap (λ (x : Timestamp). Some (record { step = u.step; stamp = top_at t key step; found = x })) (sym met)));
            within = within;
          })

  -- the operations of a trace are runs over the record
  pub are-runs : AreRuns (top_at t) (IsRun p t)
  are-runs = record {
    numbers = numbers;
    in_turn = in-turn;
    reads = λ run r is has. reads run r is has;
    sets = λ run w is has. sets run w is has;
    ends = λ run end is has. ends run end is has;
    tries = λ run r is has. tries run r is has;
    apart = apart;
    low = low;
    from = from;
  }

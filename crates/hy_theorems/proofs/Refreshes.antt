-- A read asks again at most as often as its key's record was updated since it began.
use Rattle.std.proofs.Common.{◌≡◌, ℕ, ◌+◌, ◌≤◌, Bool, true, false, cond, not, List, [], ◌∷◌, ◌++◌, Option, Some, None, refl, sym, ap, subst, ◌∙◌, inl, inr, arith}
use Rattle.std.specs.Prelude.{◌&&◌, ◌||◌, ◌⊎◌, is_some}
use Rattle.std.proofs.lemmas.Option.{none-some}
use Rattle.std.proofs.lemmas.Bool.{false≢true, true≢false}
use Rattle.std.proofs.lemmas.Bool.Decides.{nat_tests}
use Rattle.hy_record.specs.declared.message.MetaAsk.{MetaAsk}
use Rattle.hy_record.specs.declared.message.MetaSay.TheVariants as says
use Rattle.hy_record.specs.Stamp.{Timestamp, stamp_lt}
use Rattle.hy_record.specs.Key.{key_eq}
use Rattle.hy_record.specs.Record.{RecordValue}
use Rattle.hy_record.proofs.Order.{stamp_lt-same, stamp_lt-le, stamp_lt-other, stamp_lt-trans}
use Rattle.hy_meta.specs.Service.{Attempt, attempt_of, applies, record_by, stamp_of_record, record_after, record_stamp}
use Rattle.hy_meta.proofs.Lasting.{applied-parts}
use Rattle.hy_meta.proofs.Rising.{cases_bool, both}
use Rattle.hy_record.specs.declared.turn.Cue.{Cue}
use Rattle.hy_record.specs.declared.turn.Cue.TheVariants as cues
use Rattle.hy_protocol.specs.Inputs.{addresses, has_of, is_fired}
use Rattle.hy_trace.specs.Points.{is_applied_on, applied_count}
use Rattle.hy_protocol.specs.Read.{Version, newer_version, version_of, has_fired, read_reply, supersedes, is_refresh, refresh_count}
use Rattle.hy_trace.specs.Deeds.{Params, Deed, Start, served, inputs_of, start_of, start_at}
use Rattle.hy_trace.specs.Messages.{Say}
use Rattle.hy_protocol.specs.Operations.{key_of}
use Rattle.hy_trace.specs.Trace.{Awaits, IsTrace}
use Rattle.hy_trace.proofs.Growth.{Le, top, top-rises, or-cases, start-now, start-same, inputs-step, served-step}
use Rattle.hy_trace.proofs.Heard.{said-fired}
use Rattle.hy_theorems.proofs.Meaning.{WasStamp}
use Rattle.hy_theorems.proofs.Invariant.{trace-holds, told-reading, begins-empty}

-- how many updates of the key were applied that are not above the timestamp
count_by : Option Attempt → List MetaAsk → List ℕ → Timestamp → ℕ → ℕ
count_by None before key x n = n
count_by (Some a) before key x n = cond (key_eq a.key key && applies (record_after before key) a) (cond (stamp_lt x a.rec.stamp) n (n + 1)) n

count_to : List MetaAsk → List ℕ → Timestamp → ℕ
count_to [] key x = 0
count_to (ask ∷ before) key x = count_by (attempt_of before ask) before key x (count_to before key x)

-- the request is an update of the key that is applied
record Applies (ask : MetaAsk) (before : List MetaAsk) (key : List ℕ) : Type 0 where
  pub stamp : Timestamp
  pub above : stamp_lt (record_stamp before key) stamp ≡ true
  pub record_is : record_stamp (ask ∷ before) key ≡ stamp
  pub count : applied_count (ask ∷ before) key ≡ applied_count before key + 1
  pub part : (x : Timestamp) → count_to (ask ∷ before) key x ≡ cond (stamp_lt x stamp) (count_to before key x) (count_to before key x + 1)

-- or it changes nothing
record IsQuiet (ask : MetaAsk) (before : List MetaAsk) (key : List ℕ) : Type 0 where
  pub record_is : record_stamp (ask ∷ before) key ≡ record_stamp before key
  pub count : applied_count (ask ∷ before) key ≡ applied_count before key
  pub part : (x : Timestamp) → count_to (ask ∷ before) key x ≡ count_to before key x

step-cases : (ask : MetaAsk) (before : List MetaAsk) (key : List ℕ) → Applies ask before key ⊎ IsQuiet ask before key
unfolding applied_count record_stamp record_after count_to count_by
step-cases ask before key = by_attempt (attempt_of before ask) refl
  where
    by_attempt : (o : Option Attempt) → attempt_of before ask ≡ o → Applies ask before key ⊎ IsQuiet ask before key
    by_attempt None is =
        inr (record {
          record_is = ap (λ (y : Option Attempt). stamp_of_record (record_by y key (record_after before key))) is;
          count = ap (λ (y : Option Attempt). cond (is_applied_on y before key) (applied_count before key + 1) (applied_count before key)) is;
          part = λ x. ap (λ (y : Option Attempt). count_by y before key x (count_to before key x)) is;
        })
    by_attempt (Some a) is =
        let record_is = ap (λ (y : Option Attempt). stamp_of_record (record_by y key (record_after before key))) is in
        let count = ap (λ (y : Option Attempt). cond (is_applied_on y before key) (applied_count before key + 1) (applied_count before key)) is in
        elim (cases_bool (key_eq a.key key && applies (record_after before key) a)) [
          | inl applied ↦ inl (record {
            stamp = a.rec.stamp;
            above = (applied-parts (record_after before key) a (both (key_eq a.key key) (applies (record_after before key) a) applied).1).1;
            record_is = record_is ∙ rw applied refl;
            count = count ∙ rw applied refl;
            part = λ x. ap (λ (y : Option Attempt). count_by y before key x (count_to before key x)) is ∙ rw applied refl;
          })
          | inr refused ↦ inr (record {
            record_is = record_is ∙ rw refused refl;
            count = count ∙ rw refused refl;
            part = λ x. ap (λ (y : Option Attempt). count_by y before key x (count_to before key x)) is ∙ rw refused refl;
          })
        ]

-- one request more does not lower the count
rises : (ask : MetaAsk) (before : List MetaAsk) (key : List ℕ) (x : Timestamp) → count_to before key x ≤ count_to (ask ∷ before) key x
rises ask before key x =
    elim (step-cases ask before key) [
      | inr quiet ↦ (let e = quiet.part x in omega (arith, e))
      | inl applies ↦ (let e = applies.part x in elim (cases_bool (stamp_lt x applies.stamp)) [ inl above ↦ (let f = rw above at e in omega (arith, f)) | inr below ↦ (let f = rw below at e in omega (arith, f)) ])
    ]

-- all updates that were applied are not above the record
whole : (requests : List MetaAsk) (key : List ℕ) (x : Timestamp) → Le (record_stamp requests key) x → applied_count requests key ≤ count_to requests key x
unfolding applied_count count_to
whole [] key x le = omega arith
whole (ask ∷ before) key x le =
    elim (step-cases ask before key) [
      | inr quiet ↦
          let later = whole before key x (subst (λ (y : Timestamp). Le y x) quiet.record_is le) in
          let count = quiet.count in let part = quiet.part x in
          omega (arith, later, count, part)
      | inl applies ↦
          let here : stamp_lt x applies.stamp ≡ false = subst (λ (y : Timestamp). Le y x) applies.record_is le in
          let below : Le (record_stamp before key) x = stamp_lt-other (record_stamp before key) x (stamp_lt-le (record_stamp before key) applies.stamp x applies.above here) in
          let later = whole before key x below in
          let count = applies.count in let part = rw here at (applies.part x) in
          omega (arith, later, count, part)
    ]

-- a part of them
partly : (requests : List MetaAsk) (key : List ℕ) (x : Timestamp) → count_to requests key x ≤ applied_count requests key
unfolding applied_count count_to
partly [] key x = omega arith
partly (ask ∷ before) key x =
    let later = partly before key x in
    elim (step-cases ask before key) [
      | inr quiet ↦ (let count = quiet.count in let part = quiet.part x in omega (arith, later, count, part))
      | inl applies ↦ (let count = applies.count in let e = applies.part x in elim (cases_bool (stamp_lt x applies.stamp)) [ inl above ↦ (let f = rw above at e in omega (arith, f, later, count)) | inr below ↦ (let f = rw below at e in omega (arith, f, later, count)) ])
    ]

no-stamp-below : (x : Timestamp) (key : List ℕ) → stamp_lt x (record_stamp [] key) ≡ true → ⊥
unfolding record_stamp record_after stamp_lt
no-stamp-below x key is = grind (arith, nat_tests)

-- and not all, where the record is above the timestamp
not-all : (requests : List MetaAsk) (key : List ℕ) (x : Timestamp) → stamp_lt x (record_stamp requests key) ≡ true → count_to requests key x + 1 ≤ applied_count requests key
not-all [] key x below = absurd (no-stamp-below x key below)
not-all (ask ∷ before) key x below =
    elim (step-cases ask before key) [
      | inr quiet ↦ (
          let later = not-all before key x (subst (λ (y : Timestamp). stamp_lt x y ≡ true) quiet.record_is below) in
          let count = quiet.count in let part = quiet.part x in
          omega (arith, later, count, part))
      | inl applies ↦ (
          let here : stamp_lt x applies.stamp ≡ true = subst (λ (y : Timestamp). stamp_lt x y ≡ true) applies.record_is below in
          let later = partly before key x in
          let count = applies.count in let part = rw here at (applies.part x) in
          omega (arith, later, count, part))
    ]

-- the timestamp of a record, above another one, counts one update more
one-more : (later before : List MetaAsk) (key : List ℕ) (x y : Timestamp) → record_stamp before key ≡ y → stamp_lt x y ≡ true → count_to (later ++ before) key x + 1 ≤ count_to (later ++ before) key y
one-more [] before key x y is above =
    let few = not-all before key x (ap (λ (z : Timestamp). stamp_lt x z) is ∙ above) in
    let all = whole before key y (subst (λ (z : Timestamp). Le z y) (sym is) (stamp_lt-same y)) in
    omega (arith, few, all)
one-more (ask ∷ later) before key x y is above =
    let rest = one-more later before key x y is above in
    elim (step-cases ask (later ++ before) key) [
      | inr quiet ↦ (let px = quiet.part x in let py = quiet.part y in omega (arith, rest, px, py))
      | inl applies ↦ (
          let px = applies.part x in let py = applies.part y in
          elim (cases_bool (stamp_lt y applies.stamp)) [
            | inl over ↦ (
                let over_ : stamp_lt x applies.stamp ≡ true = stamp_lt-trans x y applies.stamp above over in
                let fx = rw over_ at px in let fy = rw over at py in omega (arith, rest, fx, fy))
            | inr under ↦ (
                let fy = rw under at py in
                elim (cases_bool (stamp_lt x applies.stamp)) [ inl a ↦ (let fx = rw a at px in omega (arith, rest, fx, fy)) | inr b ↦ (let fx = rw b at px in omega (arith, rest, fx, fy)) ])
          ])
    ]

was-more : (requests : List MetaAsk) (key : List ℕ) (x y : Timestamp) → WasStamp requests key y → stamp_lt x y ≡ true → count_to requests key x + 1 ≤ count_to requests key y
was-more requests key x y was above = subst (λ (z : List MetaAsk). count_to z key x + 1 ≤ count_to z key y) was.all (one-more was.later was.before key x y was.is above)

-- over deeds

count-keeps : (d : Deed) (t : List Deed) (key : List ℕ) (x : Timestamp) → count_to (served t) key x ≤ count_to (served (d ∷ t)) key x
count-keeps d t key x =
    elim (served-step d t) [
      | inl same ↦ rw same (omega arith)
      | inr more ↦ rw more.1 (rises more.0 (served t) key x)
    ]

applied-keeps : (d : Deed) (t : List Deed) (key : List ℕ) → applied_count (served t) key ≤ applied_count (served (d ∷ t)) key
applied-keeps d t key =
    elim (served-step d t) [
      | inl same ↦ rw same (omega arith)
      | inr more ↦ rw more.1 (elim (step-cases more.0 (served t) key) [ inl applies ↦ (let count = applies.count in omega (arith, count)) | inr quiet ↦ (let count = quiet.count in omega (arith, count)) ])
    ]

-- what was applied when an operation began
floor-count : (c o : ℕ) (t : List Deed) (s : Start) (key : List ℕ) → start_of c o t ≡ Some s → (applied_count (served s.before) key ≤ applied_count (served t) key) × ((x : Timestamp) → count_to (served s.before) key x ≤ count_to (served t) key x)
unfolding start_of
floor-count c o [] s key is = absurd (none-some s is)
floor-count c o (d ∷ t) s key is =
    elim (or-cases (start_of c o t) (start_at c o d t) s is) [
      | inl was ↦ (let floor = floor-count c o t s key was in let low = floor.0 in let more = applied-keeps d t key in (omega (arith, low, more), λ x. (let one = floor.1 x in let two = count-keeps d t key x in omega (arith, one, two))))
      | inr now ↦ subst (λ (b : List Deed). (applied_count (served b) key ≤ applied_count (served (d ∷ t)) key) × ((x : Timestamp) → count_to (served b) key x ≤ count_to (served (d ∷ t)) key x)) (sym (start-now c o d t s now.1)) (applied-keeps d t key, λ x. count-keeps d t key x)
    ]

abbrev fired_for : Option RecordValue → List Cue → Bool
fired_for None since = false
fired_for (Some r) since = has_fired r since

-- the refreshes are at most the updates up to the version, and one more where that was superseded
record IsBounded (t : List Deed) (key : List ℕ) (base count : ℕ) (r : Option RecordValue) (fired : Bool) : Type 0 where
  pub high : count + base ≤ count_to (served t) key (stamp_of_record r) + cond fired 1 0
  pub passed : fired ≡ true → stamp_lt (stamp_of_record r) (top t key) ≡ true

abbrev Bounded : List Deed → List ℕ → ℕ → ℕ → Option Version → Type 0
Bounded t key base count None = count ≡ 0
Bounded t key base count (Some v) = IsBounded t key base count v.rec (fired_for v.rec v.since)

bounded-keeps : (d : Deed) (t : List Deed) (key : List ℕ) (base count : ℕ) (v : Option Version) → Bounded t key base count v → Bounded (d ∷ t) key base count v
bounded-keeps d t key base count None is = is
bounded-keeps d t key base count (Some v) is = record {
  high = (let was = is.high in let more = count-keeps d t key (stamp_of_record v.rec) in omega (arith, was, more));
  passed = λ fired. stamp_lt-le (stamp_of_record v.rec) (top t key) (top (d ∷ t) key) (is.passed fired) (top-rises d t key);
}

has-not-fired : (s : Timestamp) (cue : Cue) (r : Option RecordValue) → has_of cue ≡ Some r → is_fired s cue ≡ false
has-not-fired s (cues.Meta (says.Has c o k q)) r has = refl
has-not-fired s (cues.Meta (says.Fired c o k q)) r has = absurd (none-some r has)
has-not-fired s (cues.Meta (says.Applied c o k q)) r has = refl
has-not-fired s (cues.Meta (says.Kept c o k q)) r has = refl
has-not-fired s (cues.Meta (says.OldList c o k ss)) r has = refl
has-not-fired s (cues.Meta (says.Forgot c o k)) r has = refl
has-not-fired s (cues.Meta (says.Swapped c o k q)) r has = refl
has-not-fired s (cues.Meta (says.Changed c o k q)) r has = refl
has-not-fired s (cues.Cloud reply) r has = refl
has-not-fired s cues.Tick r has = refl

at-most-one : (b : Bool) → cond b 1 0 ≤ 1
at-most-one true = omega arith
at-most-one false = omega arith

none-fired : (r : Option RecordValue) → fired_for r [] ≡ false
none-fired None = refl
none-fired (Some r) = refl

-- an input that leaves the version
stays : (b new old : Bool) (n base k : ℕ) (Passed : Type 0) → (b ≡ true → (old ≡ false) × (new ≡ true)) → (new ≡ true → Passed) → n + base ≤ k + cond old 1 0 → (old ≡ true → Passed) → (cond b (n + 1) n + base ≤ k + cond (new || old) 1 0) × ((new || old) ≡ true → Passed)
stays true true true n base k P first news high was = absurd (true≢false (first refl).0)
stays true true false n base k P first news high was = (omega (arith, high), news)
stays true false old n base k P first news high was = absurd (false≢true (first refl).1)
stays false true true n base k P first news high was = (omega (arith, high), news)
stays false true false n base k P first news high was = (omega (arith, high), news)
stays false false true n base k P first news high was = (high, was)
stays false false false n base k P first news high was = (high, was)

not-true : (b : Bool) → not b ≡ true → b ≡ false
not-true true is = sym is
not-true false is = refl

module _ (t : List Deed) (key : List ℕ) (base : ℕ) (cue : Cue) (news : (q : Timestamp) → is_fired q cue ≡ true → stamp_lt q (top t key) ≡ true) where
  stays-bounded : (n : ℕ) (b : Bool) (r : Option RecordValue) (since : List Cue) → (b ≡ true → supersedes r since cue ≡ true) → IsBounded t key base n r (fired_for r since) → IsBounded t key base (cond b (n + 1) n) r (fired_for r (cue ∷ since))
  stays-bounded n true None since first was = absurd (false≢true (first refl))
  stays-bounded n false None since first was = record { high = was.high; passed = was.passed }
  stays-bounded n b (Some r) since first was =
      let parts = stays b (is_fired r.stamp cue) (has_fired r since) n base (count_to (served t) key r.stamp) (stamp_lt r.stamp (top t key) ≡ true)
      (λ is. (let tests = both (not (has_fired r since)) (is_fired r.stamp cue) (first is) in (not-true (has_fired r since) tests.0, tests.1))) (news r.stamp) was.high was.passed in
      record { high = parts.0; passed = parts.1 }

  never-supersedes : (r q : Option RecordValue) (since : List Cue) → has_of cue ≡ Some q → supersedes r since cue ≡ true → ⊥
  never-supersedes None q since has is = false≢true is
  never-supersedes (Some r) q since has is = true≢false (sym (both (not (has_fired r since)) (is_fired r.stamp cue) is).1 ∙ has-not-fired r.stamp cue q has)

  -- a new version
  new-bounded : (n : ℕ) (r : Option RecordValue) → n + base ≤ count_to (served t) key (stamp_of_record r) → IsBounded t key base n r (fired_for r [])
  new-bounded n r high = record { high = omega (arith, high); passed = λ fired. absurd (false≢true (sym (none-fired r) ∙ fired)) }

  step : (n : ℕ) (b : Bool) (v : Option Version) (h : Option (Option RecordValue)) → has_of cue ≡ h → (b ≡ true → is_refresh v cue ≡ true) →
      ((r : Option RecordValue) → has_of cue ≡ Some r → (base ≤ count_to (served t) key (stamp_of_record r)) × WasStamp (served t) key (stamp_of_record r)) →
      Bounded t key base n v → Bounded t key base (cond b (n + 1) n) (newer_version v cue h)
  step n true None h has first tells was = absurd (false≢true (first refl))
  step n false None None has first tells was = was
  step n false None (Some r) has first tells was = new-bounded n r (let low = (tells r has).0 in let zero_ = was in omega (arith, low, zero_))
  step n b (Some v) None has first tells was = stays-bounded n b v.rec v.since first was
  step n true (Some v) (Some r) has first tells was = absurd (never-supersedes v.rec r v.since has (first refl))
  step n false (Some v) (Some r) has first tells was =
      elim (cases_bool (stamp_lt (stamp_of_record v.rec) (stamp_of_record r))) [
        | inl above ↦ rw above
            (new-bounded n r (
            let more = was-more (served t) key (stamp_of_record v.rec) (stamp_of_record r) (tells r has).1 above in
            let high = was.high in
            let one_ = at-most-one (fired_for v.rec v.since) in
            omega (arith, more, high, one_)))
        | inr not_above ↦ rw not_above (stays-bounded n false v.rec v.since first was)
      ]

none-yet : (t : List Deed) (key : List ℕ) (base : ℕ) → Bounded t key base (refresh_count []) (version_of [])
unfolding refresh_count version_of
none-yet t key base = refl

-- one input more
takes : (t : List Deed) (key : List ℕ) (base : ℕ) (cue : Cue) (before : List Cue) → ((q : Timestamp) → is_fired q cue ≡ true → stamp_lt q (top t key) ≡ true) →
    ((r : Option RecordValue) → has_of cue ≡ Some r → (base ≤ count_to (served t) key (stamp_of_record r)) × WasStamp (served t) key (stamp_of_record r)) →
    Bounded t key base (refresh_count before) (version_of before) → Bounded t key base (refresh_count (cue ∷ before)) (version_of (cue ∷ before))
unfolding refresh_count version_of
takes t key base cue before news tells was =
    step t key base cue news (refresh_count before) (not (is_some (read_reply before)) && is_refresh (version_of before) cue) (version_of before) (has_of cue) refl
    (λ is. (both (not (is_some (read_reply before))) (is_refresh (version_of before) cue) is).1) tells was

-- the refreshes of every read
bounded : (p : Params) (t : List Deed) (c o : ℕ) (s : Start) (key : List ℕ) → IsTrace p t → start_of c o t ≡ Some s → key_of s.action ≡ key → Bounded t key (applied_count (served s.before) key) (refresh_count (inputs_of c o t)) (version_of (inputs_of c o t))
unfolding IsTrace start_of
bounded p [] c o s key trace began key_is = absurd (none-some s began)
bounded p (d ∷ t) c o s key trace began key_is =
    elim (or-cases (start_of c o t) (start_at c o d t) s began) [
      | inr now ↦ subst (λ (x : List Cue). Bounded (d ∷ t) key (applied_count (served s.before) key) (refresh_count x) (version_of x)) (sym (begins-empty p c o d t s trace.0 now.1)) no-inputs
      | inl was ↦
          let before = bounded p t c o s key trace.1 was key_is in
          elim (inputs-step p c o d t trace.0) [
            | inl same ↦ subst (λ (x : List Cue). Bounded (d ∷ t) key (applied_count (served s.before) key) (refresh_count x) (version_of x)) (sym same)
                (bounded-keeps d t key (applied_count (served s.before) key) (refresh_count (inputs_of c o t)) (version_of (inputs_of c o t)) before)
            | inr more ↦ subst (λ (x : List Cue). Bounded (d ∷ t) key (applied_count (served s.before) key) (refresh_count x) (version_of x)) (sym more.2)
                (bounded-keeps d t key (applied_count (served s.before) key) (refresh_count (more.0 ∷ inputs_of c o t)) (version_of (more.0 ∷ inputs_of c o t)) (taken more.0 more.1 was before))
          ]
    ]
  where
    no-inputs : Bounded (d ∷ t) key (applied_count (served s.before) key) (refresh_count []) (version_of [])
    no-inputs = none-yet (d ∷ t) key (applied_count (served s.before) key)

    taken : (cue : Cue) → Awaits p c o cue t → start_of c o t ≡ Some s → Bounded t key (applied_count (served s.before) key) (refresh_count (inputs_of c o t)) (version_of (inputs_of c o t)) → Bounded t key (applied_count (served s.before) key) (refresh_count (cue ∷ inputs_of c o t)) (version_of (cue ∷ inputs_of c o t))
    taken cue awaits was before =
        let own : addresses c o key cue ≡ true = subst (λ (k : List ℕ). addresses c o k cue ≡ true) (ap (λ (x : Start). key_of x.action) (start-same c o t awaits.start s awaits.began was) ∙ key_is) awaits.own in
        let holds = trace-holds p t trace.1 in
        takes t key (applied_count (served s.before) key) cue (inputs_of c o t) (λ q fired. holds.said (Say (says.Fired c o key q)) (said-fired p t c o key cue q fired own awaits.delivered))
        (λ r tells. (
        let reading = told-reading p t c o key cue r holds tells own awaits.delivered in
        let floor = floor-count c o t s key was in
        let above : Le (top s.before key) (stamp_of_record r) = subst (λ (x : Start). Le (top x.before key) (stamp_of_record r)) (start-same c o t reading.start s reading.began was) reading.above in
        let all = whole (served s.before) key (stamp_of_record r) above in
        let more = floor.1 (stamp_of_record r) in
        (omega (arith, all, more), reading.seen)))
        before

-- at most as many as the updates that were applied since
pub few-refreshes : (p : Params) (t : List Deed) (c o : ℕ) (s : Start) (key : List ℕ) → IsTrace p t → start_of c o t ≡ Some s → key_of s.action ≡ key → refresh_count (inputs_of c o t) + applied_count (served s.before) key ≤ applied_count (served t) key
few-refreshes p t c o s key trace began key_is = by_version (version_of (inputs_of c o t)) (refresh_count (inputs_of c o t)) (bounded p t c o s key trace began key_is) (floor-count c o t s key began).0
  where
    by_version : (v : Option Version) (n : ℕ) → Bounded t key (applied_count (served s.before) key) n v → applied_count (served s.before) key ≤ applied_count (served t) key → n + applied_count (served s.before) key ≤ applied_count (served t) key
    by_version None n is low = (let zero_ = is in omega (arith, zero_, low))
    by_version (Some v) n is low =
        let high = is.high in
        elim (cases_bool (fired_for v.rec v.since)) [
          | inl fired ↦ (let more = not-all (served t) key (stamp_of_record v.rec) (is.passed fired) in let f = rw fired at high in omega (arith, f, more))
          | inr quiet ↦ (let more = partly (served t) key (stamp_of_record v.rec) in let f = rw quiet at high in omega (arith, f, more))
        ]

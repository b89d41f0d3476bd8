-- How many requests a get sends upon answers of clouds.
use Rattle.std.proofs.Common.{◌≡◌, ℕ, ◌+◌, ◌-◌, ◌≤◌, Bool, true, false, List, [], ◌∷◌, length, Option, Some, None, refl, sym, ap, subst, ◌∙◌, inl, inr, arith}
use Rattle.std.specs.Prelude.{◌==◌, ◌&&◌, ◌||◌, not, nat_lt, nat_le, filter, is_some, slice_get, if◌then◌else◌}
use Rattle.std.proofs.lemmas.Option.{none-some}
use Rattle.std.proofs.lemmas.Bool.{leb-true, eqb-true, lt-ltb, cases_lt}
use Rattle.std.proofs.lemmas.Bool.Decides.{nat_tests}
use Rattle.hy_meta.proofs.Rising.{cases_bool}
use Rattle.hy_meta.specs.Service.{stamp_of_record}
use Rattle.hy_record.specs.declared.turn.Cue.{Cue}
use Rattle.hy_record.specs.declared.turn.Cue.TheVariants as cues
use Rattle.hy_record.specs.declared.turn.Out.{Out}
use Rattle.hy_record.specs.Stamp.{Timestamp, stamp_lt}
use Rattle.hy_base.specs.Shape.{quorum_size}
use Rattle.hy_record.specs.Record.{RecordValue, IsRecord}
use Rattle.hy_record.specs.Clouds.{clouds_of}
use Rattle.hy_record.proofs.Order.{stamp_lt-same}
use Rattle.hy_record.proofs.CloudSets.{quorum-clouds}
use Rattle.hy_protocol.specs.declared.plan.GetPlan.{GetPlan}
use Rattle.hy_protocol.specs.Inputs.{has_of}
use Rattle.hy_protocol.specs.Read.{Version, version_of, newer_version, failed_clouds, has_fired, timeouts, failed_attempts, read_reply, gets_from, get_at, sends_at_rise, sends_since, read_sends, sends_to_version}
use Rattle.hy_get.specs.Fetching.{has_failed}
use Rattle.hy_get.specs.Laws.{follows, is_above, is_cloud_answer, request_count, requests_upon_answers}
use Rattle.hy_get.proofs.Attempts.{since-rise}
use Rattle.hy_get.proofs.Standing.{sends-step}

-- ---- since a version was read

-- the requests to clouds upon answers, as the version's definition has them
unfoldable requests_since : GetPlan → Option RecordValue → List Cue → ℕ
requests_since plan rec [] = 0
requests_since plan rec (cue ∷ before) = requests_since plan rec before + (if is_cloud_answer cue then request_count (sends_since plan rec cue before) else 0)

filter-grows : (p q : ℕ → Bool) (xs : List ℕ) → ((i : ℕ) → p i ≡ true → q i ≡ true) → length (filter p xs) ≤ length (filter q xs)
filter-grows p q [] more = omega arith
filter-grows p q (x ∷ xs) more =
    let rest = filter-grows p q xs more in
    elim (cases_bool (p x)) [
      | inl taken ↦ let also : q x ≡ true = more x taken in rw (taken, also) (omega (arith, rest))
      | inr left_out ↦ elim (cases_bool (q x)) [
        | inl now ↦ rw (left_out, now) (omega (arith, rest))
        | inr neither ↦ rw (left_out, neither) rest
      ]
    ]

or-true : (a b : Bool) → b ≡ true → (a || b) ≡ true
or-true true b e = refl
or-true false b e = e

attempts-grow : (r : RecordValue) (since : List Cue) (cue : Cue) → failed_attempts r since ≤ failed_attempts r (cue ∷ since)
unfolding failed_attempts failed_clouds timeouts
attempts-grow r since cue =
    let clouds = filter-grows (λ i. has_failed r i since) (λ i. has_failed r i (cue ∷ since)) (clouds_of r.clouds) (λ i e. or-true _ (has_failed r i since) e) in
    grind (arith, clouds)

count-gets : (plan : GetPlan) (stamp : Timestamp) (clouds : List ℕ) → request_count (gets_from plan stamp clouds) ≡ length clouds
count-gets plan stamp [] = refl
count-gets plan stamp (c ∷ cs) = let rest = count-gets plan stamp cs in omega (arith, rest)

count-get : (plan : GetPlan) (r : RecordValue) (o : Option ℕ) → request_count (get_at plan r o) ≤ 1
count-get plan r None = omega arith
count-get plan r (Some c) = omega arith

-- the requests that so many failed attempts may have caused: one for each up to the faults, and then one to each holder
abbrev caused : ℕ → ℕ → ℕ → ℕ
caused f q attempts = if nat_le attempts f then attempts else f + q

rise-few : (plan : GetPlan) (r : RecordValue) (old new : ℕ) → old ≤ new
    → caused r.f (length (clouds_of r.clouds)) old + request_count (sends_at_rise plan r false old new) ≤ caused r.f (length (clouds_of r.clouds)) new
rise-few plan r old new grows =
    elim (cases_lt old new) [
      | inr still ↦ let same : old ≡ new = omega (arith, still, grows) in let off : nat_lt old new ≡ false = grind (arith, nat_tests, still) in rw off (subst (λ (n : ℕ). caused r.f (length (clouds_of r.clouds)) old + 0 ≤ caused r.f (length (clouds_of r.clouds)) n) same (omega arith))
      | inl risen ↦
          let on : nat_lt old new ≡ true = lt-ltb old new risen in
          elim (cases_bool (nat_le new r.f)) [
            | inl low ↦
                let below : nat_le old r.f ≡ true = (let l = leb-true new r.f low in grind (arith, nat_tests, risen, l)) in
                rw (on, low, below) (let one = count-get plan r (slice_get (clouds_of r.clouds) (r.k + new - 1)) in omega (arith, one, risen))
            | inr high ↦ elim (cases_bool (new == r.f + 1)) [
              | inl at_it ↦
                  let below : nat_le old r.f ≡ true = (let e = eqb-true new (r.f + 1) at_it in grind (arith, nat_tests, risen, e)) in
                  rw (on, high, at_it, below) (let all = count-gets plan r.stamp (clouds_of r.clouds) in let l = leb-true old r.f below in omega (arith, all, l))
              | inr above ↦
                  rw (on, high, above) (elim (cases_bool (nat_le old r.f)) [
                    | inl below ↦ let l = leb-true old r.f below in rw below (omega (arith, l))
                    | inr beyond ↦ rw beyond (omega arith)
                  ])
            ]
          ]
    ]

grow-few : (f q old new : ℕ) → old ≤ new → caused f q old ≤ caused f q new
grow-few f q old new grows =
    elim (cases_bool (nat_le new f)) [
      | inl low ↦ let below : nat_le old f ≡ true = (let l = leb-true new f low in grind (arith, nat_tests, grows, l)) in rw (low, below) grows
      | inr high ↦ elim (cases_bool (nat_le old f)) [
        | inl below ↦ let l = leb-true old f below in rw (high, below) (omega (arith, l))
        | inr beyond ↦ rw (high, beyond) (omega arith)
      ]
    ]

no-and : (b : Bool) → (b && false) ≡ false
no-and true = refl
no-and false = refl

requests-caused : (plan : GetPlan) (r : RecordValue) (since : List Cue) → requests_since plan (Some r) since ≤ caused r.f (length (clouds_of r.clouds)) (failed_attempts r since)
unfolding requests_since
requests-caused plan r [] = omega arith
requests-caused plan r (cues.Cloud reply ∷ before) =
    let rest = requests-caused plan r before in
    let rise = rise-few plan r (failed_attempts r before) (failed_attempts r (cues.Cloud reply ∷ before)) (attempts-grow r before (cues.Cloud reply)) in
    let same = since-rise plan r before (cues.Cloud reply) (no-and (has_fired r before)) (no-and (not (has_fired r before))) in
    let counted = ap (λ (sends : List Out). request_count sends) same in
    omega (arith, rest, rise, counted)
requests-caused plan r (cues.Meta say ∷ before) =
    let rest = requests-caused plan r before in
    let rise = grow-few r.f (length (clouds_of r.clouds)) (failed_attempts r before) (failed_attempts r (cues.Meta say ∷ before)) (attempts-grow r before (cues.Meta say)) in
    omega (arith, rest, rise)
requests-caused plan r (cues.Tick ∷ before) =
    let rest = requests-caused plan r before in
    let rise = grow-few r.f (length (clouds_of r.clouds)) (failed_attempts r before) (failed_attempts r (cues.Tick ∷ before)) (attempts-grow r before cues.Tick) in
    omega (arith, rest, rise)

most-caused : (f q attempts : ℕ) → caused f q attempts ≤ f + q
most-caused f q attempts = elim (cases_bool (nat_le attempts f)) [
  | inl low ↦ let l = leb-true attempts f low in rw low (omega (arith, l))
  | inr high ↦ rw high (omega arith)
]

-- ---- what the get sends

count-kept : (b : Bool) (xs : List Out) → request_count (if b then [] else xs) ≤ request_count xs
count-kept true xs = omega arith
count-kept false xs = omega arith

-- at an input that leaves the version
sends-few : (plan : GetPlan) (cue : Cue) (before : List Cue) (w : Version) → version_of before ≡ Some w → version_of (cue ∷ before) ≡ Some (record { rec = w.rec; since = cue ∷ w.since })
    → request_count (read_sends plan (cue ∷ before)) ≤ request_count (sends_since plan w.rec cue w.since)
sends-few plan cue before w was now =
    let same : sends_to_version plan cue (version_of before) (version_of (cue ∷ before)) ≡ sends_since plan w.rec cue w.since = rw (was, now, stamp_lt-same) refl in
    let step = sends-step plan cue before ∙ ap (λ (xs : List Out). if is_some (read_reply (cue ∷ before)) then [] else xs) same in
    subst (λ (xs : List Out). request_count xs ≤ request_count (sends_since plan w.rec cue w.since)) (sym step) (count-kept (is_some (read_reply (cue ∷ before))) (sends_since plan w.rec cue w.since))

add-if : (b : Bool) (a c x y : ℕ) → a ≤ c → x ≤ y → (if b then a + x else a) ≤ c + (if b then y else 0)
add-if true a c x y one two = omega (arith, one, two)
add-if false a c x y one two = omega (arith, one)

some-same : {A : Type 0} (x y : A) → Some x ≡ Some y → x ≡ y
some-same x y e = cc

requests-of-version : (plan : GetPlan) (inputs : List Cue) (v : Version) → version_of inputs ≡ Some v → requests_upon_answers plan inputs ≤ requests_since plan v.rec v.since
unfolding requests_upon_answers requests_since version_of
requests-of-version plan [] v version = absurd (none-some v version)
requests-of-version plan (cue ∷ before) v version = by_cases (λ w was. requests-of-version plan before w was) (version_of before) (has_of cue) refl refl version
  where
    none : is_above (version_of before) (has_of cue) ≡ true → requests_upon_answers plan (cue ∷ before) ≤ requests_since plan v.rec v.since
    none above = rw above (omega arith)

    kept : (w : Version) → requests_upon_answers plan before ≤ requests_since plan w.rec w.since → version_of before ≡ Some w → is_above (version_of before) (has_of cue) ≡ false → version_of (cue ∷ before) ≡ Some (record { rec = w.rec; since = cue ∷ w.since })
        → requests_upon_answers plan (cue ∷ before) ≤ requests_since plan v.rec v.since
    kept w rest was level now =
        let few = sends-few plan cue before w was now in
        let sum : requests_upon_answers plan (cue ∷ before) ≤ requests_since plan w.rec (cue ∷ w.since) = rw level (add-if (is_cloud_answer cue) _ _ _ _ rest few) in
        subst (λ (x : Version). requests_upon_answers plan (cue ∷ before) ≤ requests_since plan x.rec x.since) (some-same (record { rec = w.rec; since = cue ∷ w.since }) v (sym now ∙ version)) sum

    by_cases : ((w : Version) → version_of before ≡ Some w → requests_upon_answers plan before ≤ requests_since plan w.rec w.since) → (was : Option Version) (has : Option (Option RecordValue)) → version_of before ≡ was → has_of cue ≡ has → newer_version was cue has ≡ Some v
        → requests_upon_answers plan (cue ∷ before) ≤ requests_since plan v.rec v.since
    by_cases earlier None None is at_it e = absurd (none-some v e)
    by_cases earlier None (Some rec) is at_it e = none (rw (is, at_it) refl)
    by_cases earlier (Some w) None is at_it e = kept w (earlier w is) is (rw (is, at_it) refl) (rw (is, at_it) refl)
    by_cases earlier (Some w) (Some rec) is at_it e = elim (cases_bool (stamp_lt (stamp_of_record w.rec) (stamp_of_record rec))) [
      | inl above ↦ none (rw (is, at_it) above)
      | inr below ↦ kept w (earlier w is) is (rw (is, at_it) below) (rw (is, at_it, below) refl)
    ]

pub few-requests : (plan : GetPlan) (inputs since : List Cue) (r : RecordValue) → IsRecord r → version_of inputs ≡ follows r since → requests_upon_answers plan inputs ≤ r.f + quorum_size r.f r.k
few-requests plan inputs since r ruled version =
    let sent = requests-of-version plan inputs (record { rec = Some r; since = since }) version in
    let caused_by = requests-caused plan r since in
    let most = most-caused r.f (length (clouds_of r.clouds)) (failed_attempts r since) in
    let quorum = (quorum-clouds r ruled).0 in
    omega (arith, sent, caused_by, most, quorum)

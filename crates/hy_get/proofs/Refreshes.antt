-- How often a get asks for its record again.
use Rattle.std.proofs.Common.{◌≡◌, ℕ, ◌+◌, ◌≤◌, Bool, true, false, List, [], ◌∷◌, Option, Some, None, refl, inl, inr, arith}
use Rattle.std.specs.Prelude.{◌&&◌, ◌||◌, not, is_some, if◌then◌else◌}
use Rattle.hy_meta.proofs.Rising.{cases_bool}
use Rattle.hy_meta.specs.Service.{stamp_of_record}
use Rattle.hy_record.specs.declared.turn.Cue.{Cue}
use Rattle.hy_record.specs.declared.turn.Cue.TheVariants as cues
use Rattle.hy_record.specs.declared.message.MetaSay.TheVariants as says
use Rattle.hy_record.specs.Stamp.{Timestamp, stamp_lt}
use Rattle.hy_record.specs.Record.{RecordValue}
use Rattle.hy_protocol.specs.Inputs.{has_of, is_fired}
use Rattle.hy_protocol.specs.Read.{Version, version_of, newer_version, has_fired, read_reply, supersedes, is_refresh, refresh_count}
use Rattle.hy_get.specs.Laws.{refreshes_since, is_above, version_count}

-- ---- since the version was read

-- 1 where it is true
abbrev one_if : Bool → ℕ
one_if b = if b then 1 else 0

step-few : (count : ℕ) (has is : Bool) → count ≤ one_if has → (if not has && is then count + 1 else count) ≤ one_if (is || has)
step-few count true true few = few
step-few count true false few = few
step-few count false true few = omega (arith, few)
step-few count false false few = few

refreshes-few : (r : RecordValue) (since : List Cue) → refreshes_since (Some r) since ≤ one_if (has_fired r since)
unfolding refreshes_since
refreshes-few r [] = omega arith
refreshes-few r (cue ∷ since) = step-few (refreshes_since (Some r) since) (has_fired r since) (is_fired r.stamp cue) (refreshes-few r since)

at-most-one : (b : Bool) → one_if b ≤ 1
at-most-one true = omega arith
at-most-one false = omega arith

no-record : (since : List Cue) → refreshes_since None since ≡ 0
unfolding refreshes_since
no-record [] = refl
no-record (cue ∷ since) = no-record since

pub refreshes-once : (rec : Option RecordValue) (since : List Cue) → refreshes_since rec since ≤ 1
refreshes-once None since = let e = no-record since in omega (arith, e)
refreshes-once (Some r) since = let few = refreshes-few r since in let most = at-most-one (has_fired r since) in omega (arith, few, most)

-- ---- over all versions

-- the refreshes that may still follow from the version
abbrev left_for : Option RecordValue → List Cue → ℕ
left_for None since = 1
left_for (Some r) since = one_if (not (has_fired r since))

abbrev left_of : Option Version → ℕ
left_of None = 0
left_of (Some v) = left_for v.rec v.since

-- an input that tells a record is no news of one
told-calm : (cue : Cue) (rec : Option RecordValue) (stamp : Timestamp) → has_of cue ≡ Some rec → is_fired stamp cue ≡ false
told-calm (cues.Meta (says.Has c o k r)) rec stamp e = refl
told-calm (cues.Meta (says.Applied c o k s)) rec stamp e = refl
told-calm (cues.Meta (says.Kept c o k s)) rec stamp e = refl
told-calm (cues.Meta (says.Fired c o k s)) rec stamp e = absurd cc
told-calm (cues.Meta (says.OldList c o k ss)) rec stamp e = refl
told-calm (cues.Meta (says.Forgot c o k)) rec stamp e = refl
told-calm (cues.Meta (says.Swapped c o k s)) rec stamp e = refl
told-calm (cues.Meta (says.Changed c o k s)) rec stamp e = refl
told-calm (cues.Cloud reply) rec stamp e = refl
told-calm cues.Tick rec stamp e = refl

calm-refresh : (v : Option Version) (cue : Cue) (rec : Option RecordValue) → has_of cue ≡ Some rec → is_refresh v cue ≡ false
calm-refresh None cue rec e = refl
calm-refresh (Some v) cue rec e = by_record v.rec
  where
    off : (b : Bool) → (b && false) ≡ false
    off true = refl
    off false = refl

    by_record : (r : Option RecordValue) → supersedes r v.since cue ≡ false
    by_record None = refl
    by_record (Some r) = let calm = told-calm cue rec r.stamp e in rw calm (off (not (has_fired r v.since)))

left-step : (rec : Option RecordValue) (since : List Cue) (cue : Cue) (count : ℕ) → (if supersedes rec since cue then count + 1 else count) + left_for rec (cue ∷ since) ≤ count + left_for rec since
left-step None since cue count = omega arith
left-step (Some r) since cue count = by_tests (has_fired r since) (is_fired r.stamp cue)
  where
    by_tests : (has is : Bool) → (if not has && is then count + 1 else count) + one_if (not (is || has)) ≤ count + one_if (not has)
    by_tests true true = omega arith
    by_tests true false = omega arith
    by_tests false true = omega arith
    by_tests false false = omega arith

-- what one more input adds
count-most : (silent refresh : Bool) (count : ℕ) → (if silent && refresh then count + 1 else count) ≤ (if refresh then count + 1 else count)
count-most true refresh count = omega arith
count-most false true count = omega arith
count-most false false count = omega arith

left-few : (rec : Option RecordValue) → left_for rec [] ≤ 1
left-few None = omega arith
left-few (Some r) = omega arith

-- one more input, by the version and what is told
step-versions : (was : Option Version) (cue : Cue) (has : Option (Option RecordValue)) (count versions : ℕ) → has_of cue ≡ has → count + left_of was ≤ versions
    → (if is_refresh was cue then count + 1 else count) + left_of (newer_version was cue has) ≤ (if is_above was has then versions + 1 else versions)
step-versions None cue None count versions is bound = bound
step-versions None cue (Some rec) count versions is bound = let few = left-few rec in omega (arith, few, bound)
step-versions (Some v) cue None count versions is bound = let step = left-step v.rec v.since cue count in omega (arith, step, bound)
step-versions (Some v) cue (Some rec) count versions is bound =
    elim (cases_bool (stamp_lt (stamp_of_record v.rec) (stamp_of_record rec))) [
      | inl above ↦ let calm = calm-refresh (Some v) cue rec is in let few = left-few rec in rw (above, calm) (omega (arith, few, bound))
      | inr below ↦ let step = left-step v.rec v.since cue count in rw below (omega (arith, step, bound))
    ]

count-step : (cue : Cue) (before : List Cue) → version_count (cue ∷ before) ≡ (if is_above (version_of before) (has_of cue) then version_count before + 1 else version_count before)
unfolding version_count
count-step cue before = refl

refreshes-left : (inputs : List Cue) → refresh_count inputs + left_of (version_of inputs) ≤ version_count inputs
unfolding refresh_count version_of version_count
refreshes-left [] = omega arith
refreshes-left (cue ∷ before) =
    let rest = refreshes-left before in
    let most = count-most (not (is_some (read_reply before))) (is_refresh (version_of before) cue) (refresh_count before) in
    let step = step-versions (version_of before) cue (has_of cue) (refresh_count before) (version_count before) refl rest in
    omega (arith, most, step)

pub refreshes-below-versions : (inputs : List Cue) → refresh_count inputs ≤ version_count inputs
refreshes-below-versions inputs = let all = refreshes-left inputs in omega (arith, all)

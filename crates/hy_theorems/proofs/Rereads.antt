-- A refresh is a request for the record that a get sends again.
use Rattle.std.proofs.Common.{◌≡◌, ℕ, ◌+◌, ◌-◌, Bool, true, false, cond, List, [], ◌∷◌, length, Option, Some, None, refl, sym, ap, ◌∙◌, inl, inr, arith}
use Rattle.std.specs.Prelude.{◌&&◌, ◌==◌, not, nat_lt, nat_le, filter, take, slice_get, is_some}
use Rattle.std.specs.List.{filter_map, cons_option, range_with_len}
use Rattle.std.specs.Option.{option_or, option_map}
use Rattle.std.proofs.lemmas.Option.{none-some}
use Rattle.std.proofs.lemmas.Bool.{both_ways}
use Rattle.hy_record.specs.declared.message.MetaSay.{MetaSay}
use Rattle.hy_record.specs.declared.message.MetaSay.TheVariants as says
use Rattle.hy_record.specs.declared.action.Reply.{Reply}
use Rattle.hy_record.specs.Stamp.{Timestamp, stamp_lt}
use Rattle.hy_base.specs.Shape.{cloud_count}
use Rattle.hy_record.specs.Record.{RecordValue}
use Rattle.hy_record.specs.Clouds.{clouds_of}
use Rattle.hy_record.proofs.Order.{stamp_lt-same}
use Rattle.hy_record.specs.declared.turn.Cue.{Cue}
use Rattle.hy_record.specs.declared.turn.Cue.TheVariants as cues
use Rattle.hy_record.specs.declared.turn.Out.{Out}
use Rattle.hy_meta.specs.Service.{stamp_of_record}
use Rattle.hy_meta.proofs.Rising.{cases_bool, both}
use Rattle.hy_protocol.specs.declared.plan.GetPlan.{GetPlan}
use Rattle.hy_protocol.specs.Inputs.{has_of, is_fired, is_tick}
use Rattle.hy_protocol.specs.Read.{Version, newer_version, version_of, first_valid, valid_picks, failed_attempts, answer_for, answer_of, read_reply, gets_from, get_at, sends_at_rise, sends_since, first_gets, sends_to_version, read_sends, has_fired, supersedes, is_refresh, refresh_count}
use Rattle.hy_trace.proofs.Growth.{or-none, or-first}
use Rattle.hy_theorems.specs.Refreshing.{asks_for_record, reads_sent_again}

and-false : (b : Bool) → (b && false) ≡ false
and-false true = refl
and-false false = refl

none-cond : (b : Bool) (xs ys : List Out) → filter asks_for_record xs ≡ [] → filter asks_for_record ys ≡ [] → filter asks_for_record (cond b xs ys) ≡ []
none-cond true xs ys first second = first
none-cond false xs ys first second = second

gets-none : (plan : GetPlan) (stamp : Timestamp) (clouds : List ℕ) → filter asks_for_record (gets_from plan stamp clouds) ≡ []
gets-none plan stamp [] = refl
gets-none plan stamp (cloud ∷ clouds) = gets-none plan stamp clouds

at-none : (plan : GetPlan) (r : RecordValue) (cloud : Option ℕ) → filter asks_for_record (get_at plan r cloud) ≡ []
at-none plan r None = refl
at-none plan r (Some cloud) = refl

rise-none : (plan : GetPlan) (r : RecordValue) (timed_out : Bool) (old new : ℕ) → filter asks_for_record (sends_at_rise plan r timed_out old new) ≡ []
rise-none plan r timed_out old new =
    let all = gets-none plan r.stamp (clouds_of r.clouds) in
    none-cond (nat_lt old new) _ _ (none-cond (nat_le new r.f) _ _ (at-none plan r (slice_get (clouds_of r.clouds) (r.k + new - 1))) (none-cond (new == r.f + 1) _ _ all (none-cond timed_out _ _ all refl))) refl

first-none : (plan : GetPlan) (held : Option RecordValue) → filter asks_for_record (first_gets plan held) ≡ []
first-none plan None = refl
first-none plan (Some r) = gets-none plan r.stamp (take r.k (clouds_of r.clouds))

-- one, where the input is the first news that the version was superseded
since-count : (plan : GetPlan) (held : Option RecordValue) (cue : Cue) (since : List Cue) → is_tick cue ≡ false → length (filter asks_for_record (sends_since plan held cue since)) ≡ cond (supersedes held since cue) 1 0
since-count plan None cue since untimed = refl
since-count plan (Some r) cue since untimed =
    elim (cases_bool (has_fired r since)) [
      | inl fired ↦ rw (fired, untimed, rise-none plan r false (failed_attempts r since) (failed_attempts r (cue ∷ since))) refl
      | inr quiet ↦ elim (cases_bool (is_fired r.stamp cue)) [
        | inl news ↦ rw (quiet, news) refl
        | inr other ↦ rw (quiet, other, untimed, rise-none plan r false (failed_attempts r since) (failed_attempts r (cue ∷ since))) refl
      ]
    ]

-- an input that tells a record is no such news
has-not-fired : (cue : Cue) (r : Option RecordValue) (s : Timestamp) → has_of cue ≡ Some r → is_fired s cue ≡ false
has-not-fired (cues.Meta (says.Has c o k q)) r s is = refl
has-not-fired (cues.Meta (says.Applied c o k q)) r s is = refl
has-not-fired (cues.Meta (says.Kept c o k q)) r s is = refl
has-not-fired (cues.Meta (says.Fired c o k q)) r s is = absurd (none-some r is)
has-not-fired (cues.Meta (says.OldList c o k q)) r s is = refl
has-not-fired (cues.Meta (says.Forgot c o k)) r s is = refl
has-not-fired (cues.Meta (says.Swapped c o k q)) r s is = refl
has-not-fired (cues.Meta (says.Changed c o k q)) r s is = refl
has-not-fired (cues.Cloud reply) r s is = refl
has-not-fired cues.Tick r s is = refl

not-superseded : (held : Option RecordValue) (since : List Cue) (cue : Cue) → ((s : Timestamp) → is_fired s cue ≡ false) → supersedes held since cue ≡ false
not-superseded None since cue quiet = refl
not-superseded (Some r) since cue quiet = rw (quiet r.stamp) (and-false (not (has_fired r since)))

version-count : (plan : GetPlan) (cue : Cue) (old : Option Version) (has : Option (Option RecordValue)) → has_of cue ≡ has → is_tick cue ≡ false → length (filter asks_for_record (sends_to_version plan cue old (newer_version old cue has))) ≡ cond (is_refresh old cue) 1 0
version-count plan cue None None has_is untimed = rw untimed refl
version-count plan cue None (Some r) has_is untimed = rw (first-none plan r) refl
version-count plan cue (Some v) None has_is untimed = rw (stamp_lt-same (stamp_of_record v.rec)) (since-count plan v.rec cue v.since untimed)
version-count plan cue (Some v) (Some r) has_is untimed =
    elim (cases_bool (stamp_lt (stamp_of_record v.rec) (stamp_of_record r))) [
      | inl above ↦ rw (above, above, first-none plan r, not-superseded v.rec v.since cue (λ s. has-not-fired cue r s has_is)) refl
      | inr not_above ↦ rw (not_above, stamp_lt-same (stamp_of_record v.rec)) (since-count plan v.rec cue v.since untimed)
    ]

-- news that a version was superseded brings no reply

picks-same : {A B : Type 0} (f g : A → Option B) (xs : List A) → ((x : A) → f x ≡ g x) → filter_map f xs ≡ filter_map g xs
picks-same f g [] same = refl
picks-same f g (x ∷ xs) same = ap (λ o. cons_option o (filter_map f xs)) (same x) ∙ ap (cons_option (g x)) (picks-same f g xs same)

valid-same : (r : RecordValue) (say : MetaSay) (since : List Cue) → valid_picks r (cues.Meta say ∷ since) ≡ valid_picks r since
unfolding valid_picks first_valid
valid-same r say since = picks-same _ _ (range_with_len 0 (cloud_count r.f r.k)) (λ cloud. ap (option_map (λ bytes. record { cloud = cloud; bytes = bytes })) (or-none (first_valid r cloud since)))

answer-same : (held : Option RecordValue) (say : MetaSay) (since : List Cue) → answer_for held (cues.Meta say ∷ since) ≡ answer_for held since
unfolding answer_for
answer-same None say since = refl
answer-same (Some r) say since = rw (valid-same r say since) refl

second-none : {A : Type 0} (a b : Option A) → option_or a b ≡ None → b ≡ None
second-none None b is = is
second-none (Some x) b is = absurd (none-some x (sym is))

no-answer : (inputs : List Cue) → read_reply inputs ≡ None → answer_of (version_of inputs) ≡ None
unfolding read_reply version_of
no-answer [] is = refl
no-answer (cue ∷ before) is = second-none (read_reply before) _ is

no-reply : (cue : Cue) (before : List Cue) → read_reply before ≡ None → is_refresh (version_of before) cue ≡ true → read_reply (cue ∷ before) ≡ None
unfolding read_reply version_of
no-reply cue before unfinished news = rw unfinished (by_version cue (version_of before) news (no-answer before unfinished))
  where
    by_say : (say : MetaSay) (v : Version) → has_of (cues.Meta say) ≡ None → answer_of (Some v) ≡ None → answer_of (newer_version (Some v) (cues.Meta say) (has_of (cues.Meta say))) ≡ None
    by_say say v silent none = rw silent (answer-same v.rec say v.since ∙ none)

    by_record : (cue : Cue) (v : Version) (held : Option RecordValue) → v.rec ≡ held → supersedes held v.since cue ≡ true → answer_of (Some v) ≡ None → answer_of (newer_version (Some v) cue (has_of cue)) ≡ None
    by_record cue v None rec_is is none = absurd (both_ways false refl is)
    by_record (cues.Meta (says.Fired c o k q)) v (Some r) rec_is is none = by_say (says.Fired c o k q) v refl none
    by_record (cues.Meta (says.Has c o k q)) v (Some r) rec_is is none = absurd (both_ways false refl (both (not (has_fired r v.since)) false is).1)
    by_record (cues.Meta (says.Applied c o k q)) v (Some r) rec_is is none = absurd (both_ways false refl (both (not (has_fired r v.since)) false is).1)
    by_record (cues.Meta (says.Kept c o k q)) v (Some r) rec_is is none = absurd (both_ways false refl (both (not (has_fired r v.since)) false is).1)
    by_record (cues.Meta (says.OldList c o k q)) v (Some r) rec_is is none = absurd (both_ways false refl (both (not (has_fired r v.since)) false is).1)
    by_record (cues.Meta (says.Forgot c o k)) v (Some r) rec_is is none = absurd (both_ways false refl (both (not (has_fired r v.since)) false is).1)
    by_record (cues.Meta (says.Swapped c o k q)) v (Some r) rec_is is none = absurd (both_ways false refl (both (not (has_fired r v.since)) false is).1)
    by_record (cues.Meta (says.Changed c o k q)) v (Some r) rec_is is none = absurd (both_ways false refl (both (not (has_fired r v.since)) false is).1)
    by_record (cues.Cloud reply) v (Some r) rec_is is none = absurd (both_ways false refl (both (not (has_fired r v.since)) false is).1)
    by_record cues.Tick v (Some r) rec_is is none = absurd (both_ways false refl (both (not (has_fired r v.since)) false is).1)

    by_version : (cue : Cue) (old : Option Version) → is_refresh old cue ≡ true → answer_of old ≡ None → answer_of (newer_version old cue (has_of cue)) ≡ None
    by_version cue None is none = absurd (both_ways false refl is)
    by_version cue (Some v) is none = by_record cue v v.rec refl is none

-- a timeout is no such news
tick-quiet : (cue : Cue) (old : Option Version) → is_tick cue ≡ true → is_refresh old cue ≡ false
tick-quiet cues.Tick None is = refl
tick-quiet cues.Tick (Some v) is = not-superseded v.rec v.since cues.Tick (λ s. refl)
tick-quiet (cues.Meta say) old is = absurd (both_ways false refl is)
tick-quiet (cues.Cloud reply) old is = absurd (both_ways false refl is)

reply-stays : (cue : Cue) (before : List Cue) (r : Reply) → read_reply before ≡ Some r → read_reply (cue ∷ before) ≡ Some r
unfolding read_reply
reply-stays cue before r is = or-first (read_reply before) (answer_of (version_of (cue ∷ before))) r is

version-sent : (plan : GetPlan) (cue : Cue) (before : List Cue) → is_tick cue ≡ false → length (filter asks_for_record (sends_to_version plan cue (version_of before) (version_of (cue ∷ before)))) ≡ cond (is_refresh (version_of before) cue) 1 0
unfolding version_of
version-sent plan cue before untimed = version-count plan cue (version_of before) (has_of cue) refl untimed

-- what one input adds to both counts
one-more : (plan : GetPlan) (cue : Cue) (before : List Cue) → is_tick cue ≡ false → length (filter asks_for_record (read_sends plan (cue ∷ before))) ≡ cond (not (is_some (read_reply before)) && is_refresh (version_of before) cue) 1 0
unfolding read_sends
one-more plan cue before untimed = by_reply (read_reply before) refl
  where
    sent : length (filter asks_for_record (sends_to_version plan cue (version_of before) (version_of (cue ∷ before)))) ≡ cond (is_refresh (version_of before) cue) 1 0
    sent = version-sent plan cue before untimed

    by_now : (now : Option Reply) → read_reply (cue ∷ before) ≡ now → is_refresh (version_of before) cue ≡ false → length (filter asks_for_record (cond (is_some now) [] (sends_to_version plan cue (version_of before) (version_of (cue ∷ before))))) ≡ 0
    by_now (Some r) is quiet = refl
    by_now None is quiet = sent ∙ rw quiet refl

    by_reply : (o : Option Reply) → read_reply before ≡ o → length (filter asks_for_record (cond (is_some (read_reply (cue ∷ before))) [] (sends_to_version plan cue (version_of before) (version_of (cue ∷ before))))) ≡ cond (not (is_some o) && is_refresh (version_of before) cue) 1 0
    by_reply (Some r) is = rw (reply-stays cue before r is) refl
    by_reply None is =
        elim (cases_bool (is_refresh (version_of before) cue)) [
          | inl news ↦ rw (no-reply cue before is news) sent
          | inr quiet ↦ by_now (read_reply (cue ∷ before)) refl quiet ∙ rw quiet refl
        ]

counted : (news : Bool) (n m sent : ℕ) → n ≡ m → sent ≡ cond news 1 0 → cond news (n + 1) n ≡ m + sent
counted true n m sent same is = omega (arith, same, is)
counted false n m sent same is = omega (arith, same, is)

-- a refresh is a request for the record that is sent again
pub refreshes-are-reads : (plan : GetPlan) (inputs : List Cue) → refresh_count inputs ≡ reads_sent_again plan inputs
unfolding refresh_count reads_sent_again
refreshes-are-reads plan [] = refl
refreshes-are-reads plan (cue ∷ before) = by_tick (refreshes-are-reads plan before) (is_tick cue) refl
  where
    by_tick : refresh_count before ≡ reads_sent_again plan before → (b : Bool) → is_tick cue ≡ b → cond (not (is_some (read_reply before)) && is_refresh (version_of before) cue) (refresh_count before + 1) (refresh_count before) ≡ cond b (reads_sent_again plan before) (reads_sent_again plan before + length (filter asks_for_record (read_sends plan (cue ∷ before))))
    by_tick same true is = rw (tick-quiet cue (version_of before) is, and-false (not (is_some (read_reply before)))) same
    by_tick same false is = counted (not (is_some (read_reply before)) && is_refresh (version_of before) cue) (refresh_count before) (reads_sent_again plan before) _ same (one-more plan cue before is)

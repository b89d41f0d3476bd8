-- One more input of a get, by what it awaits.
use Rattle.std.proofs.Common.{◌≡◌, ℕ, ◌+◌, ◌<◌, Bool, true, false, List, [], ◌∷◌, length, Option, Some, None, refl, sym, ap, subst, ◌∙◌, inl, inr, arith}
use Rattle.std.specs.Prelude.{◌&&◌, not, nat_le, min, is_some, if◌then◌else◌}
use Rattle.std.specs.Option.{option_or}
use Rattle.std.proofs.lemmas.Bool.{false≢true}
use Rattle.std.proofs.lemmas.Bool.Decides.{nat_tests}
use Rattle.hy_meta.proofs.Rising.{cases_bool}
use Rattle.hy_code.specs.declared.pick.Pick.{Pick}
use Rattle.hy_record.specs.declared.action.Reply.{Reply}
use Rattle.hy_record.specs.declared.turn.Cue.{Cue}
use Rattle.hy_record.specs.declared.turn.Out.{Out}
use Rattle.hy_record.specs.declared.turn.Turn.{Turn}
use Rattle.hy_record.specs.Record.{RecordValue, is_tombstone}
use Rattle.hy_record.proofs.Order.{stamp_lt-same}
use Rattle.hy_protocol.specs.declared.plan.GetPlan.{GetPlan}
use Rattle.hy_protocol.specs.Inputs.{has_of, is_fired, is_tick}
use Rattle.hy_protocol.specs.Read.{Version, version_of, newer_version, valid_picks, has_fired, answer_for, answer_of, read_reply, read_sends, asks_record, sends_since, sends_to_version, supersedes, is_refresh, refresh_count}
use Rattle.hy_protocol.specs.Progress.{Progress, progress_of_version, version_progress, read_progress}
use Rattle.hy_protocol.specs.Turns.{quiet_turn, own_turn}
use Rattle.hy_operation.specs.declared.progress.Progress as kept
use Rattle.hy_operation.specs.Progress.{Tells}
use Rattle.hy_operation.proofs.Inputs.{turn-before-reply, turn-after-reply, progress-before-reply, progress-after-reply}
use Rattle.hy_get.specs.declared.fetch.Fetch.{Fetch}
use Rattle.hy_get.specs.declared.get.GetOp.{GetOp}
use Rattle.hy_get.specs.declared.get.State.{State}
use Rattle.hy_get.specs.declared.get.State.TheVariants.{Reading, Fetching, Replied}
use Rattle.hy_get.specs.Fetching.{Awaits, DoesSince}
use Rattle.hy_get.specs.Standing.{IsReading, IsFetching, IsReplied, StandsAt, StandsForOwn, Does}

-- ---- the definitions at one more input

pub version-step : (cue : Cue) (before : List Cue) → version_of (cue ∷ before) ≡ newer_version (version_of before) cue (has_of cue)
unfolding version_of
version-step cue before = refl

pub reply-step : (cue : Cue) (before : List Cue) → read_reply (cue ∷ before) ≡ option_or (read_reply before) (answer_of (version_of (cue ∷ before)))
unfolding read_reply
reply-step cue before = refl

pub sends-step : (plan : GetPlan) (cue : Cue) (before : List Cue) → read_sends plan (cue ∷ before) ≡ (if is_some (read_reply (cue ∷ before)) then [] else sends_to_version plan cue (version_of before) (version_of (cue ∷ before)))
unfolding read_sends
sends-step plan cue before = refl

pub rounds-step : (cue : Cue) (before : List Cue) → refresh_count (cue ∷ before) ≡ (if not (is_some (read_reply before)) && is_refresh (version_of before) cue then refresh_count before + 1 else refresh_count before)
unfolding refresh_count
rounds-step cue before = refl

pub progress-is : (inputs : List Cue) → read_progress inputs ≡ progress_of_version (version_of inputs)
unfolding read_progress
progress-is inputs = refl

-- ---- where there is no reply yet

abbrev pub turn_with : List Out → Option Reply → Turn
turn_with sends reply = record { sends = sends; reply = reply }

pub reply-now : (cue : Cue) (before : List Cue) (v : Option Version) → version_of (cue ∷ before) ≡ v → read_reply before ≡ None → read_reply (cue ∷ before) ≡ answer_of v
reply-now cue before v is none = reply-step cue before ∙ rw (none, is) refl

-- the turn by the version now, which has no answer
pub turn-silent : (plan : GetPlan) (cue : Cue) (before : List Cue) (v : Option Version) → version_of (cue ∷ before) ≡ v → read_reply before ≡ None → answer_of v ≡ None
    → own_turn (read_sends plan) read_reply (cue ∷ before) ≡ record { sends = sends_to_version plan cue (version_of before) v; reply = None }
turn-silent plan cue before v is none silent =
    let reply : read_reply (cue ∷ before) ≡ None = reply-now cue before v is none ∙ silent in
    let sends : read_sends plan (cue ∷ before) ≡ sends_to_version plan cue (version_of before) v = sends-step plan cue before ∙ rw (reply, is) refl in
    turn-before-reply (read_sends plan) read_reply before cue none ∙ ap (λ (xs : List Out). turn_with xs (read_reply (cue ∷ before))) sends ∙ ap (turn_with (sends_to_version plan cue (version_of before) v)) reply

-- and which has one
pub turn-answers : (plan : GetPlan) (cue : Cue) (before : List Cue) (v : Option Version) (reply : Reply) → version_of (cue ∷ before) ≡ v → read_reply before ≡ None → answer_of v ≡ Some reply
    → own_turn (read_sends plan) read_reply (cue ∷ before) ≡ record { sends = []; reply = Some reply }
turn-answers plan cue before v reply is none answer =
    let there : read_reply (cue ∷ before) ≡ Some reply = reply-now cue before v is none ∙ answer in
    let sends : read_sends plan (cue ∷ before) ≡ [] = sends-step plan cue before ∙ rw there refl in
    turn-before-reply (read_sends plan) read_reply before cue none ∙ ap (λ (xs : List Out). turn_with xs (read_reply (cue ∷ before))) sends ∙ ap (turn_with []) there

pub few-silent : (r : RecordValue) (since : List Cue) → is_tombstone r.kind ≡ false → length (valid_picks r since) < r.k → answer_for (Some r) since ≡ None
unfolding answer_for
few-silent r since value few = let low : nat_le r.k (length (valid_picks r since)) ≡ false = grind (arith, nat_tests, few) in rw (value, low) refl

-- ---- the refreshes

none-yet : (o : Option Reply) (b : Bool) → o ≡ None → (not (is_some o) && b) ≡ b
none-yet o b e = rw e refl

pub still-rounds : (cue : Cue) (before : List Cue) → is_refresh (version_of before) cue ≡ false → refresh_count (cue ∷ before) ≡ refresh_count before
still-rounds cue before calm = rounds-step cue before ∙ rw (calm, off (not (is_some (read_reply before)))) refl
  where
    off : (b : Bool) → (b && false) ≡ false
    off true = refl
    off false = refl

-- the count that is kept, at one more input after a version
abbrev pub rounds_after : Fetch → List Cue → Cue → ℕ → ℕ
rounds_after fetch since cue rounds = if supersedes (Some fetch.rec) since cue then min (rounds + 1) 4294967295 else rounds

-- an input that is no news of the record
pub calm-rounds : (fetch : Fetch) (since : List Cue) (cue : Cue) (rounds : ℕ) → is_fired fetch.rec.stamp cue ≡ false → rounds ≡ rounds_after fetch since cue rounds
calm-rounds fetch since cue rounds calm = rw (calm, off (not (has_fired fetch.rec since))) refl
  where
    off : (b : Bool) → (b && false) ≡ false
    off true = refl
    off false = refl

saturates : (x : ℕ) → min (min x 4294967295 + 1) 4294967295 ≡ min (x + 1) 4294967295
saturates x = omega arith

fetching-rounds : (fetch : Fetch) (inputs : List Cue) (cue : Cue) (f : IsFetching fetch inputs) (m n : ℕ) → m ≡ min (refresh_count inputs) 4294967295 → n ≡ rounds_after fetch f.since cue m → n ≡ min (refresh_count (cue ∷ inputs)) 4294967295
fetching-rounds fetch inputs cue f m n was is =
    let refresh : is_refresh (version_of inputs) cue ≡ supersedes (Some fetch.rec) f.since cue = ap (λ (v : Option Version). is_refresh v cue) f.version in
    elim (cases_bool (supersedes (Some fetch.rec) f.since cue)) [
      | inl counts ↦
          let one : refresh_count (cue ∷ inputs) ≡ refresh_count inputs + 1 = rounds-step cue inputs ∙ rw (none-yet (read_reply inputs) (is_refresh (version_of inputs) cue) f.reply, refresh, counts) refl in
          let up : n ≡ min (m + 1) 4294967295 = is ∙ rw counts refl in
          up ∙ ap (λ (x : ℕ). min (x + 1) 4294967295) was ∙ saturates (refresh_count inputs) ∙ ap (λ (x : ℕ). min x 4294967295) (sym one)
      | inr calm ↦
          let same : n ≡ m = is ∙ rw calm refl in
          same ∙ was ∙ ap (λ (x : ℕ). min x 4294967295) (sym (still-rounds cue inputs (refresh ∙ calm)))
    ]

-- ---- by what is awaited

-- no version, and no record
pub reading-goes : (plan : GetPlan) (m n : GetOp) (inputs : List Cue) (cue : Cue) (turn : Turn) → StandsForOwn m inputs → m.state ≡ Reading → n.state ≡ Reading → n.rounds ≡ m.rounds → has_of cue ≡ None
    → turn ≡ record { sends = (if is_tick cue then asks_record plan else []); reply = None } → Does plan inputs cue turn n
reading-goes plan m n inputs cue turn h was now rounds none is =
    let r : IsReading inputs = subst (λ (s : State). StandsAt s inputs) was h.state in
    let v : version_of (cue ∷ inputs) ≡ None = version-step cue inputs ∙ rw (r.version, none) refl in
    record {
      done = is ∙ sym (turn-silent plan cue inputs None v r.reply refl);
      stands = record {
        state = subst (λ (s : State). StandsAt s (cue ∷ inputs)) (sym now) (let i : IsReading (cue ∷ inputs) = record { version = v; reply = reply-now cue inputs None v r.reply } in i);
        rounds = rounds ∙ h.rounds ∙ ap (λ (x : ℕ). min x 4294967295) (sym (still-rounds cue inputs (rw r.version refl)));
      };
    }

-- the reply is there
pub replied-goes : (plan : GetPlan) (m n : GetOp) (inputs : List Cue) (cue : Cue) (turn : Turn) (progress : kept.Progress) → StandsForOwn m inputs → m.state ≡ Replied progress → n.state ≡ Replied progress → n.rounds ≡ m.rounds
    → turn ≡ quiet_turn → Does plan inputs cue turn n
replied-goes plan m n inputs cue turn progress h was now rounds is =
    let r : IsReplied progress inputs = subst (λ (s : State). StandsAt s inputs) was h.state in
    let after : is_some (read_reply (cue ∷ inputs)) ≡ true = ap is_some (reply-step cue inputs) ∙ stays (read_reply inputs) (answer_of (version_of (cue ∷ inputs))) r.reply in
    let sends : read_sends plan (cue ∷ inputs) ≡ [] = sends-step plan cue inputs ∙ rw after refl in
    let reply : is_some (read_reply inputs) ≡ true = r.reply in
    record {
      done = is ∙ sym (turn-after-reply (read_sends plan) read_reply inputs cue r.reply ∙ ap (λ (xs : List Out). turn_with xs None) sends);
      stands = record {
        state = subst (λ (s : State). StandsAt s (cue ∷ inputs)) (sym now) (let i : IsReplied progress (cue ∷ inputs) = record {
          reply = after;
          told = subst (Tells progress) (sym (progress-after-reply read_reply read_progress inputs cue r.reply)) r.told;
        } in i);
        rounds = rounds ∙ h.rounds ∙ ap (λ (x : ℕ). min x 4294967295) (sym (rounds-step cue inputs ∙ rw reply refl));
      };
    }
  where
    stays : (o p : Option Reply) → is_some o ≡ true → is_some (option_or o p) ≡ true
    stays None p e = absurd (false≢true e)
    stays (Some x) p e = refl

-- the input leaves the version
abbrev pub IsSince : Fetch → Cue → Type 0
IsSince fetch cue = (since : List Cue) → newer_version (Some (record { rec = Some fetch.rec; since = since })) cue (has_of cue) ≡ Some (record { rec = Some fetch.rec; since = cue ∷ since })

version-since : (fetch : Fetch) (inputs : List Cue) (cue : Cue) (f : IsFetching fetch inputs) → IsSince fetch cue → version_of (cue ∷ inputs) ≡ Some (record { rec = Some fetch.rec; since = cue ∷ f.since })
version-since fetch inputs cue f left = version-step cue inputs ∙ ap (λ (o : Option Version). newer_version o cue (has_of cue)) f.version ∙ left f.since

-- fragments are still too few
pub fetching-goes : (plan : GetPlan) (m n : GetOp) (inputs : List Cue) (cue : Cue) (turn : Turn) (fetch after : Fetch) (sent : List Out) → StandsForOwn m inputs → m.state ≡ Fetching fetch → n.state ≡ Fetching after → after.rec ≡ fetch.rec → IsSince fetch cue
    → ((since : List Cue) → Awaits fetch since → DoesSince plan fetch.rec since cue sent after)
    → ((since : List Cue) → Awaits fetch since → n.rounds ≡ rounds_after fetch since cue m.rounds) → turn ≡ record { sends = sent; reply = None } → Does plan inputs cue turn n
fetching-goes plan m n inputs cue turn fetch after sent h was now same left does rounds is =
    let f : IsFetching fetch inputs = subst (λ (s : State). StandsAt s inputs) was h.state in
    let w : Version = record { rec = Some fetch.rec; since = cue ∷ f.since } in
    let v : version_of (cue ∷ inputs) ≡ Some w = version-since fetch inputs cue f left in
    let d = does f.since f.awaits in
    let few : length (valid_picks fetch.rec (cue ∷ f.since)) < fetch.rec.k = subst (λ (r : RecordValue). length (valid_picks r (cue ∷ f.since)) < r.k) same (subst (λ (ps : List Pick). length ps < after.rec.k) d.awaits.follows.picks d.awaits.few) in
    let silent : answer_of (Some w) ≡ None = few-silent fetch.rec (cue ∷ f.since) fetch.value few in
    let sends : sends_to_version plan cue (version_of inputs) (Some w) ≡ sends_since plan (Some fetch.rec) cue f.since = rw (f.version, stamp_lt-same) refl in
    record {
      done = is ∙ ap (λ (xs : List Out). turn_with xs None) (d.sends ∙ sym sends) ∙ sym (turn-silent plan cue inputs (Some w) v f.reply silent);
      stands = record {
        state = subst (λ (s : State). StandsAt s (cue ∷ inputs)) (sym now) (let i : IsFetching after (cue ∷ inputs) = record {
          since = cue ∷ f.since;
          version = v ∙ ap (λ (r : RecordValue). Some (record { rec = Some r; since = cue ∷ f.since })) (sym same);
          awaits = d.awaits;
          reply = reply-now cue inputs (Some w) v f.reply ∙ silent;
        } in i);
        rounds = fetching-rounds fetch inputs cue f m.rounds n.rounds h.rounds (rounds f.since f.awaits);
      };
    }

-- the reply came at this input, where the get was so far
pub replied-now : (cue : Cue) (inputs : List Cue) (v : Version) (reply : Reply) (progress : kept.Progress) → version_of (cue ∷ inputs) ≡ Some v → read_reply inputs ≡ None → answer_of (Some v) ≡ Some reply → Tells progress (version_progress v.rec v.since)
    → IsReplied progress (cue ∷ inputs)
replied-now cue inputs v reply progress is none answer tells = record {
  reply = ap is_some (reply-now cue inputs (Some v) is none ∙ answer);
  told = subst (Tells progress) (sym (progress-before-reply read_reply read_progress inputs cue none ∙ progress-is (cue ∷ inputs) ∙ ap progress_of_version is)) tells;
}

-- there are fragments enough
pub fetching-ends : (plan : GetPlan) (m n : GetOp) (inputs : List Cue) (cue : Cue) (turn : Turn) (fetch : Fetch) (reply : Reply) (progress : kept.Progress) → StandsForOwn m inputs → m.state ≡ Fetching fetch → n.state ≡ Replied progress → IsSince fetch cue
    → ((since : List Cue) → Awaits fetch since → answer_for (Some fetch.rec) (cue ∷ since) ≡ Some reply)
    → ((since : List Cue) → Awaits fetch since → Tells progress (version_progress (Some fetch.rec) (cue ∷ since)))
    → ((since : List Cue) → Awaits fetch since → n.rounds ≡ rounds_after fetch since cue m.rounds) → turn ≡ record { sends = []; reply = Some reply } → Does plan inputs cue turn n
fetching-ends plan m n inputs cue turn fetch reply progress h was now left answers tells rounds is =
    let f : IsFetching fetch inputs = subst (λ (s : State). StandsAt s inputs) was h.state in
    let w : Version = record { rec = Some fetch.rec; since = cue ∷ f.since } in
    let v : version_of (cue ∷ inputs) ≡ Some w = version-since fetch inputs cue f left in
    let answer : answer_of (Some w) ≡ Some reply = answers f.since f.awaits in
    record {
      done = is ∙ sym (turn-answers plan cue inputs (Some w) reply v f.reply answer);
      stands = record {
        state = subst (λ (s : State). StandsAt s (cue ∷ inputs)) (sym now) (replied-now cue inputs w reply progress v f.reply answer (tells f.since f.awaits));
        rounds = fetching-rounds fetch inputs cue f m.rounds n.rounds h.rounds (rounds f.since f.awaits);
      };
    }

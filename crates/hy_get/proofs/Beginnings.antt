-- A get at a record that it follows from now on.
use Rattle.std.proofs.Common.{◌≡◌, ℕ, ◌+◌, ◌<◌, Bool, true, false, List, [], ◌∷◌, length, Option, Some, None, refl, sym, ap, subst, ◌∙◌, arith}
use Rattle.std.specs.Prelude.{◌&&◌, not, nat_lt, min, filter, is_some, IsTrue, if◌then◌else◌}
use Rattle.std.proofs.lemmas.Bool.{eqb-true, false≢true}
use Rattle.std.proofs.lemmas.Bool.Decides.{nat_tests}
use Rattle.hy_record.specs.declared.action.Phase.TheVariants as phases
use Rattle.hy_record.specs.declared.action.Reply.{Reply}
use Rattle.hy_record.specs.declared.action.Reply.TheVariants as told
use Rattle.hy_record.specs.declared.kind.Kind.{Kind}
use Rattle.hy_record.specs.declared.kind.Kind.TheVariants.{Tomb, Whole, Coded}
use Rattle.hy_record.specs.declared.message.MetaSay.TheVariants as says
use Rattle.hy_record.specs.declared.turn.Cue.{Cue}
use Rattle.hy_record.specs.declared.turn.Cue.TheVariants as cues
use Rattle.hy_record.specs.declared.turn.Out.{Out}
use Rattle.hy_record.specs.declared.turn.Turn.{Turn}
use Rattle.hy_record.specs.Record.{RecordValue, IsRecord, is_part_count, is_tombstone}
use Rattle.hy_record.specs.Clouds.{clouds_of}
use Rattle.hy_code.specs.declared.pick.Pick.{Pick}
use Rattle.hy_protocol.specs.declared.plan.GetPlan.{GetPlan}
use Rattle.hy_protocol.specs.Read.{Version, version_of, valid_picks, failed_clouds, timeouts, has_fired, failed_attempts, answer_for, read_reply, first_gets, sends_to_version, is_refresh, refresh_count}
use Rattle.hy_protocol.specs.Progress.{version_progress}
use Rattle.hy_operation.specs.Progress.{Tells}
use Rattle.hy_get.specs.declared.fetch.Fetch.{Fetch}
use Rattle.hy_get.specs.declared.get.GetOp.{GetOp}
use Rattle.hy_get.specs.declared.get.State.{State}
use Rattle.hy_get.specs.declared.get.State.TheVariants.{Reading, Fetching, Replied}
use Rattle.hy_get.specs.Fetching.{Awaits}
use Rattle.hy_get.specs.Standing.{IsReading, IsFetching, StandsAt, StandsForOwn, Does, is_newer, IsBegun, Begins}
use Rattle.hy_get.proofs.Fragments.{picks-start}
use Rattle.hy_get.proofs.Attempts.{attempts-is, timeouts-start}
use Rattle.hy_get.proofs.Standing.{version-step, still-rounds, reply-now, turn-silent, turn-answers, turn_with, few-silent, replied-now}

-- ---- the start

pub stands-start : (m : GetOp) → m.state ≡ Reading → m.rounds ≡ 0 → StandsForOwn m []
unfolding version_of read_reply refresh_count
stands-start m is rounds = record {
  state = subst (λ (s : State). StandsAt s []) (sym is) (let i : IsReading [] = record { version = refl; reply = refl } in i);
  rounds = rounds;
}

-- ---- a record that is above the last one

-- where a record is to be followed
pub record IsNewer (plan : GetPlan) (inputs : List Cue) (cue : Cue) (rec : Option RecordValue) : Type 0 where
  pub version : version_of (cue ∷ inputs) ≡ Some (record { rec = rec; since = [] })
  pub silent : read_reply inputs ≡ None
  pub calm : is_refresh (version_of inputs) cue ≡ false
  pub sends : sends_to_version plan cue (version_of inputs) (Some (record { rec = rec; since = [] })) ≡ first_gets plan rec

no-and : (b : Bool) → (b && false) ≡ false
no-and true = refl
no-and false = refl

newer-now : (plan : GetPlan) (m : GetOp) (inputs : List Cue) (c o : ℕ) (k : List ℕ) (rec : Option RecordValue) → StandsForOwn m inputs → is_newer m.state rec ≡ true → IsNewer plan inputs (cues.Meta (says.Has c o k rec)) rec
newer-now plan m inputs c o k rec h newer = by_state m.state refl newer
  where
    by_state : (s : State) → m.state ≡ s → is_newer s rec ≡ true → IsNewer plan inputs (cues.Meta (says.Has c o k rec)) rec
    by_state (Replied progress) is e = absurd (false≢true e)
    by_state Reading is e =
        let r : IsReading inputs = subst (λ (s : State). StandsAt s inputs) is h.state in
        record { version = version-step (cues.Meta (says.Has c o k rec)) inputs ∙ rw r.version refl; silent = r.reply; calm = rw r.version refl; sends = rw r.version refl }
    by_state (Fetching fetch) is e =
        let f : IsFetching fetch inputs = subst (λ (s : State). StandsAt s inputs) is h.state in
        record {
          version = version-step (cues.Meta (says.Has c o k rec)) inputs ∙ rw (f.version, e) refl;
          silent = f.reply;
          calm = rw f.version (no-and (not (has_fired fetch.rec f.since)));
          sends = rw (f.version, e) refl;
        }

pub begin-goes : (plan : GetPlan) (m n : GetOp) (inputs : List Cue) (c o : ℕ) (k : List ℕ) (rec : Option RecordValue) (turn : Turn) → StandsForOwn m inputs → is_newer m.state rec ≡ true → n.rounds ≡ m.rounds → Begins plan rec turn n.state
    → Does plan inputs (cues.Meta (says.Has c o k rec)) turn n
begin-goes plan m n inputs c o k rec turn h newer rounds b = by_answer (answer_for rec []) rec refl refl b.state
  where
    cue : Cue
    cue = cues.Meta (says.Has c o k rec)

    w : Version
    w = record { rec = rec; since = [] }

    count : n.rounds ≡ min (refresh_count (cues.Meta (says.Has c o k rec) ∷ inputs)) 4294967295
    count = rounds ∙ h.rounds ∙ ap (λ (x : ℕ). min x 4294967295) (sym (still-rounds (cues.Meta (says.Has c o k rec)) inputs (newer-now plan m inputs c o k rec h newer).calm))

    by_answer : (a : Option Reply) (held : Option RecordValue) → answer_for rec [] ≡ a → rec ≡ held → IsBegun a held n.state → Does plan inputs (cues.Meta (says.Has c o k rec)) turn n
    by_answer (Some reply) held is same at_it =
        let now = newer-now plan m inputs c o k rec h newer in
        let tells : Tells at_it.0 (version_progress rec []) = subst (λ (x : Option RecordValue). Tells at_it.0 (version_progress x [])) (sym same) at_it.2 in
        record {
          done = b.done ∙ ap (λ (a : Option Reply). turn_with (if is_some a then [] else first_gets plan rec) a) is ∙ sym (turn-answers plan cue inputs (Some w) reply now.version now.silent is);
          stands = record {
            state = subst (λ (s : State). StandsAt s (cues.Meta (says.Has c o k rec) ∷ inputs)) (sym at_it.1) (replied-now cue inputs w reply at_it.0 now.version now.silent is tells);
            rounds = count;
          };
        }
    by_answer None None is same at_it = absurd at_it
    by_answer None (Some r) is same at_it =
        let now = newer-now plan m inputs c o k rec h newer in
        let i : IsFetching at_it.0 (cues.Meta (says.Has c o k rec) ∷ inputs) = record {
          since = [];
          version = now.version ∙ ap (λ (x : Option RecordValue). Some (record { rec = x; since = [] })) (same ∙ ap Some (sym at_it.2));
          awaits = at_it.3;
          reply = reply-now cue inputs (Some w) now.version now.silent ∙ is;
        } in
        record {
          done = b.done ∙ ap (λ (a : Option Reply). turn_with (if is_some a then [] else first_gets plan rec) a) is ∙ ap (λ (xs : List Out). turn_with xs None) (sym now.sends) ∙ sym (turn-silent plan cue inputs (Some w) now.version now.silent is);
          stands = record { state = subst (λ (s : State). StandsAt s (cues.Meta (says.Has c o k rec) ∷ inputs)) (sym at_it.1) i; rounds = count };
        }

-- ---- what is done at once

pub begins-none : (plan : GetPlan) (turn : Turn) (after : State) → turn ≡ record { sends = []; reply = Some (told.Absent (record { sn = 0; cid = 0 })) } → after ≡ Replied (record { phase = phases.Fetch; have = 0; need = 0 }) → Begins plan None turn after
unfolding answer_for
begins-none plan turn after done is = record { done = done; state = (record { phase = phases.Fetch; have = 0; need = 0 }, is, record { phase = refl; have = refl; need = refl }) }

no-parts : (r : RecordValue) → IsRecord r → is_tombstone r.kind ≡ true → r.k ≡ 0
no-parts r h tomb = by_kind r.kind h.parts tomb
  where
    by_kind : (kind : Kind) → IsTrue (is_part_count kind r.k) → is_tombstone kind ≡ true → r.k ≡ 0
    by_kind Tomb parts is = eqb-true r.k 0 parts
    by_kind Whole parts is = absurd (false≢true is)
    by_kind Coded parts is = absurd (false≢true is)

filter-nothing : (xs : List ℕ) → filter (λ x. false) xs ≡ []
filter-nothing [] = refl
filter-nothing (x ∷ xs) = filter-nothing xs

no-attempts : (r : RecordValue) → failed_attempts r [] ≡ 0
unfolding failed_clouds
no-attempts r = attempts-is r [] ∙ ap (λ (xs : List ℕ). length xs + timeouts r []) (filter-nothing (clouds_of r.clouds)) ∙ ap (λ (n : ℕ). 0 + n) (timeouts-start r)

-- where the get is that follows the record of a deletion
tells-tomb : (r : RecordValue) → IsRecord r → is_tombstone r.kind ≡ true → Tells (record { phase = phases.Fetch; have = 0; need = 0 }) (version_progress (Some r) [])
tells-tomb r h tomb = record {
  phase = (let few : nat_lt r.f (failed_attempts r []) ≡ false = (let e = no-attempts r in grind (arith, nat_tests, e)) in rw few refl);
  have = ap length (sym (picks-start r));
  need = sym (no-parts r h tomb);
}

pub begins-tomb : (plan : GetPlan) (r : RecordValue) (turn : Turn) (after : State) → IsRecord r → is_tombstone r.kind ≡ true → turn ≡ record { sends = []; reply = Some (told.Absent r.stamp) } → after ≡ Replied (record { phase = phases.Fetch; have = 0; need = 0 })
    → Begins plan (Some r) turn after
unfolding answer_for
begins-tomb plan r turn after h tomb done is =
    let answer : answer_for (Some r) [] ≡ Some (told.Absent r.stamp) = rw tomb refl in
    record {
      done = done ∙ ap (λ (a : Option Reply). turn_with (if is_some a then [] else first_gets plan (Some r)) a) (sym answer);
      state = subst (λ (a : Option Reply). IsBegun a (Some r) after) (sym answer) (record { phase = phases.Fetch; have = 0; need = 0 }, is, tells-tomb r h tomb);
    }

pub begins-value : (plan : GetPlan) (r : RecordValue) (turn : Turn) (fetch : Fetch) (sent : List Out) → fetch.rec ≡ r → Awaits fetch [] → sent ≡ first_gets plan (Some fetch.rec) → turn ≡ record { sends = sent; reply = None } → Begins plan (Some r) turn (Fetching fetch)
begins-value plan r turn fetch sent same awaits sends done =
    let few : length (valid_picks fetch.rec []) < fetch.rec.k = subst (λ (ps : List Pick). length ps < fetch.rec.k) awaits.follows.picks awaits.few in
    let none : answer_for (Some r) [] ≡ None = ap (λ (x : RecordValue). answer_for (Some x) []) (sym same) ∙ few-silent fetch.rec [] fetch.value few in
    record {
      done = done ∙ ap (λ (xs : List Out). turn_with xs None) (sends ∙ ap (λ (x : RecordValue). first_gets plan (Some x)) same) ∙ ap (λ (a : Option Reply). turn_with (if is_some a then [] else first_gets plan (Some r)) a) (sym none);
      state = subst (λ (a : Option Reply). IsBegun a (Some r) (Fetching fetch)) (sym none) (fetch, refl, same, awaits);
    }

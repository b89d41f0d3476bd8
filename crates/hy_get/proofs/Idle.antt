-- Inputs at which a get does nothing.
use Rattle.std.proofs.Common.{◌≡◌, ℕ, ◌+◌, Bool, true, false, List, [], Option, None, refl, sym, ap, ◌∙◌}
use Rattle.std.specs.Prelude.{◌==◌, ◌&&◌, ◌||◌, not, min, if◌then◌else◌}
use Rattle.std.proofs.lemmas.Bool.{false≢true}
use Rattle.hy_record.specs.declared.cloud.CloudReply.{CloudReply}
use Rattle.hy_record.specs.declared.message.MetaSay.{MetaSay}
use Rattle.hy_record.specs.declared.message.MetaSay.TheVariants as says
use Rattle.hy_record.specs.declared.turn.Cue.{Cue}
use Rattle.hy_record.specs.declared.turn.Cue.TheVariants as cues
use Rattle.hy_record.specs.declared.turn.Out.{Out}
use Rattle.hy_record.specs.declared.turn.Turn.{Turn}
use Rattle.hy_record.specs.Stamp.{Timestamp, stamp_eq}
use Rattle.hy_record.specs.Record.{RecordValue}
use Rattle.hy_protocol.specs.declared.plan.GetPlan.{GetPlan}
use Rattle.hy_protocol.specs.Inputs.{has_of, is_fired, is_tick}
use Rattle.hy_protocol.specs.Read.{is_valid_body, valid_in, valid_bytes, has_fired, asks_record}
use Rattle.hy_protocol.specs.Turns.{quiet_turn}
use Rattle.hy_get.specs.declared.fetch.Fetch.{Fetch}
use Rattle.hy_get.specs.declared.get.GetOp.{GetOp}
use Rattle.hy_get.specs.declared.get.State.{State}
use Rattle.hy_get.specs.declared.get.State.TheVariants.{Reading, Fetching, Replied}
use Rattle.hy_get.specs.Fetching.{Awaits}
use Rattle.hy_get.specs.Standing.{StandsForOwn, Does, is_newer}
use Rattle.hy_get.proofs.Fragments.{picks-same}
use Rattle.hy_get.proofs.Since.{IsQuiet, quiet-sends, quiet-follows}
use Rattle.hy_get.proofs.Standing.{IsSince, rounds_after, reading-goes, replied-goes, fetching-goes}

-- the input leaves the version, and tells nothing of it
pub record IsIdle (fetch : Fetch) (cue : Cue) : Type 0 where
  pub since : IsSince fetch cue
  pub quiet : (since : List Cue) → Awaits fetch since → IsQuiet fetch.rec since cue
  pub valid : (i : ℕ) → valid_in fetch.rec i cue ≡ None

-- the input is none that this awaits
abbrev pub IsIdleAt : State → Cue → Type 0
IsIdleAt Reading cue = (has_of cue ≡ None) × (is_tick cue ≡ false)
IsIdleAt (Fetching fetch) cue = IsIdle fetch cue
IsIdleAt (Replied progress) cue = Unit {0}

no-refresh : (a b : Bool) → (a || b) ≡ b → (not b && a) ≡ false
no-refresh true true e = refl
no-refresh true false e = absurd (false≢true (sym e))
no-refresh false true e = refl
no-refresh false false e = refl

pub idle-goes : (plan : GetPlan) (m n : GetOp) (inputs : List Cue) (cue : Cue) (turn : Turn) → StandsForOwn m inputs → n.state ≡ m.state → n.rounds ≡ m.rounds → IsIdleAt m.state cue → turn ≡ quiet_turn → Does plan inputs cue turn n
idle-goes plan m n inputs cue turn h same rounds idle is = by_state m.state refl idle
  where
    by_state : (s : State) → m.state ≡ s → IsIdleAt s cue → Does plan inputs cue turn n
    by_state Reading was at_it = reading-goes plan m n inputs cue turn h was (same ∙ was) rounds at_it.0
        (is ∙ (let e : (if is_tick cue then asks_record plan else []) ≡ [] = rw at_it.1 refl in ap (λ (xs : List Out). record { sends = xs; reply = None }) (sym e)))
    by_state (Replied progress) was at_it = replied-goes plan m n inputs cue turn progress h was (same ∙ was) rounds is
    by_state (Fetching fetch) was at_it =
        fetching-goes plan m n inputs cue turn fetch fetch [] h was (same ∙ was) refl at_it.since
        (λ since a. record {
          sends = sym (quiet-sends plan fetch.rec since cue (at_it.quiet since a));
          awaits = record {
            follows = quiet-follows fetch fetch since cue a.follows (at_it.quiet since a) (record { rec = refl; holders = refl; failed = refl; timeouts = refl; fired = refl }) (a.follows.picks ∙ sym (picks-same fetch.rec since cue at_it.valid));
            few = a.few;
          };
        })
        (λ since a. rounds ∙ (let e : rounds_after fetch since cue m.rounds ≡ m.rounds = (let calm = no-refresh (is_fired fetch.rec.stamp cue) (has_fired fetch.rec since) (at_it.quiet since a).fired in rw calm refl) in sym e))
        is

-- an answer of the service that tells nothing of the record
pub other-idle : (s : State) (say : MetaSay) → has_of (cues.Meta say) ≡ None → ((stamp : Timestamp) → is_fired stamp (cues.Meta say) ≡ false) → IsIdleAt s (cues.Meta say)
other-idle Reading say none calm = (none, refl)
other-idle (Replied progress) say none calm = tt
other-idle (Fetching fetch) say none calm = record {
  since = λ since. rw none refl;
  quiet = λ since a. record { failed = λ i. refl; tick = refl; fired = rw (calm fetch.rec.stamp) refl };
  valid = λ i. refl;
}

-- an answer of a cloud for another timestamp
pub stray-idle : (fetch : Fetch) (reply : CloudReply) → stamp_eq reply.stamp fetch.rec.stamp ≡ false → IsIdle fetch (cues.Cloud reply)
stray-idle fetch reply other = record {
  since = λ since. refl;
  quiet = λ since a. record { failed = λ i. rw other (off (reply.cloud == i) (not (is_valid_body fetch.rec i reply.say))); tick = refl; fired = refl };
  valid = λ i. rw other (none (reply.cloud == i) (valid_bytes fetch.rec i reply.say));
}
  where
    off : (b t : Bool) → (b && false && t) ≡ false
    off true t = refl
    off false t = refl

    none : (b : Bool) (o : Option (List ℕ)) → (if b && false then o else None) ≡ None
    none true o = refl
    none false o = refl

-- news of another timestamp, or news again
pub old-news-idle : (fetch : Fetch) (c o : ℕ) (k : List ℕ) (stamp : Timestamp) → (not fetch.fired && stamp_eq stamp fetch.rec.stamp) ≡ false → IsIdle fetch (cues.Meta (says.Fired c o k stamp))
old-news-idle fetch c o k stamp old = record {
  since = λ since. refl;
  quiet = λ since a. record { failed = λ i. refl; tick = refl; fired = kept fetch.fired (stamp_eq stamp fetch.rec.stamp) (has_fired fetch.rec since) old a.follows.fired };
  valid = λ i. refl;
}
  where
    kept : (fired this has : Bool) → (not fired && this) ≡ false → fired ≡ has → (this || has) ≡ has
    kept true true true e same = refl
    kept true true false e same = absurd (false≢true (sym same))
    kept true false has e same = refl
    kept false true has e same = absurd (false≢true (sym e))
    kept false false has e same = refl

-- a record that is not above the one that is followed
pub older-idle : (s : State) (c o : ℕ) (k : List ℕ) (rec : Option RecordValue) → is_newer s rec ≡ false → IsIdleAt s (cues.Meta (says.Has c o k rec))
older-idle Reading c o k rec older = absurd (false≢true (sym older))
older-idle (Replied progress) c o k rec older = tt
older-idle (Fetching fetch) c o k rec older = record {
  since = λ since. rw older refl;
  quiet = λ since a. record { failed = λ i. refl; tick = refl; fired = refl };
  valid = λ i. refl;
}

-- the first news that the record was superseded
pub is-news : (fetch : Fetch) (stamp : Timestamp) → (not fetch.fired && stamp_eq stamp fetch.rec.stamp) ≡ true → (fetch.fired ≡ false) × (stamp_eq stamp fetch.rec.stamp ≡ true)
is-news fetch stamp is = both fetch.fired (stamp_eq stamp fetch.rec.stamp) is
  where
    both : (a b : Bool) → (not a && b) ≡ true → (a ≡ false) × (b ≡ true)
    both false b e = (refl, e)
    both true b e = absurd (false≢true e)

pub fired-rounds : (fetch : Fetch) (since : List Cue) (c o : ℕ) (k : List ℕ) (stamp : Timestamp) (rounds : ℕ) → Awaits fetch since → fetch.fired ≡ false → stamp_eq stamp fetch.rec.stamp ≡ true
    → min (rounds + 1) 4294967295 ≡ rounds_after fetch since (cues.Meta (says.Fired c o k stamp)) rounds
fired-rounds fetch since c o k stamp rounds a calm this = let none : has_fired fetch.rec since ≡ false = sym a.follows.fired ∙ calm in rw (none, this) refl

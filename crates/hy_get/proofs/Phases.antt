-- The phase of a get that follows a record.
use Rattle.std.proofs.Common.{◌≡◌, ℕ, ◌+◌, ◌≤◌, ◌<◌, true, false, List, length, refl, sym, ap, ◌∙◌, inl, inr, arith}
use Rattle.std.specs.Prelude.{nat_lt, min}
use Rattle.std.proofs.lemmas.Bool.{cases_lt}
use Rattle.std.proofs.lemmas.Bool.Decides.{nat_tests}
use Rattle.hy_record.specs.declared.action.Phase.TheVariants as phases
use Rattle.hy_record.specs.declared.turn.Cue.{Cue}
use Rattle.hy_protocol.specs.Read.{failed_clouds, has_fired, timeouts, failed_attempts}
use Rattle.hy_protocol.specs.Progress.{read_phase}
use Rattle.hy_get.specs.declared.fetch.Fetch.{Fetch}
use Rattle.hy_get.specs.Fetching.{attempts_of, Follows}
use Rattle.hy_get.proofs.Attempts.{attempts-is, marks-are}
use Rattle.hy_get.proofs.Since.{few-faults}

kept-above : (failed times f : ℕ) → f < 256 → f < failed + min times 65535 → nat_lt f (failed + times) ≡ true
kept-above failed times f few above =
    elim (cases_lt 65535 times) [
      | inl many ↦ grind (arith, nat_tests, many, few)
      | inr fits ↦ let l : f < failed + times = omega (arith, fits, above) in grind (arith, nat_tests, l)
    ]

kept-below : (failed times f : ℕ) → f < 256 → failed + min times 65535 ≤ f → nat_lt f (failed + times) ≡ false
kept-below failed times f few below =
    let l : failed + times ≤ f = omega (arith, few, below) in grind (arith, nat_tests, l)

-- the attempts that are kept
kept-are : (fetch : Fetch) (since : List Cue) → Follows fetch since → attempts_of fetch.holders.items fetch.failed fetch.timeouts ≡ length (failed_clouds fetch.rec since) + min (timeouts fetch.rec since) 65535
kept-are fetch since h =
    ap (λ (n : ℕ). n + fetch.timeouts) (marks-are fetch.rec since fetch.holders.items fetch.failed h.holders h.failed) ∙ ap (λ (n : ℕ). length (failed_clouds fetch.rec since) + n) h.timeouts

-- the record was superseded
pub phase-reread : (fetch : Fetch) (since : List Cue) → Follows fetch since → fetch.fired ≡ true → phases.Reread ≡ read_phase fetch.rec since
phase-reread fetch since h on = let fired : has_fired fetch.rec since ≡ true = sym h.fired ∙ on in rw fired refl

-- all holders were tried
pub phase-watch : (fetch : Fetch) (since : List Cue) → Follows fetch since → fetch.fired ≡ false → fetch.rec.f < attempts_of fetch.holders.items fetch.failed fetch.timeouts → phases.Watch ≡ read_phase fetch.rec since
phase-watch fetch since h calm above =
    let none : has_fired fetch.rec since ≡ false = sym h.fired ∙ calm in
    let kept = kept-are fetch since h in
    let many : nat_lt fetch.rec.f (failed_attempts fetch.rec since) ≡ true =
    ap (λ (n : ℕ). nat_lt fetch.rec.f n) (attempts-is fetch.rec since) ∙ kept-above (length (failed_clouds fetch.rec since)) (timeouts fetch.rec since) fetch.rec.f (few-faults fetch.rec fetch.ruled) (omega (arith, above, kept)) in
    rw (none, many) refl

-- some were not
pub phase-fetch : (fetch : Fetch) (since : List Cue) → Follows fetch since → fetch.fired ≡ false → attempts_of fetch.holders.items fetch.failed fetch.timeouts ≤ fetch.rec.f → phases.Fetch ≡ read_phase fetch.rec since
phase-fetch fetch since h calm below =
    let none : has_fired fetch.rec since ≡ false = sym h.fired ∙ calm in
    let kept = kept-are fetch since h in
    let few : nat_lt fetch.rec.f (failed_attempts fetch.rec since) ≡ false =
    ap (λ (n : ℕ). nat_lt fetch.rec.f n) (attempts-is fetch.rec since) ∙ kept-below (length (failed_clouds fetch.rec since)) (timeouts fetch.rec since) fetch.rec.f (few-faults fetch.rec fetch.ruled) (omega (arith, below, kept)) in
    rw (none, few) refl

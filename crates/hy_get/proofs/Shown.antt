-- How far a get is, by what it awaits.
use Rattle.std.proofs.Common.{◌≡◌, ◌≤◌, List, [], ◌∷◌, length, Option, Some, None, refl, sym, ap, subst, ◌∙◌, arith}
use Rattle.std.specs.Option.{option_or}
use Rattle.std.proofs.lemmas.Option.{none-some}
use Rattle.hy_record.specs.declared.action.Phase.TheVariants as phases
use Rattle.hy_record.specs.declared.action.Reply.{Reply}
use Rattle.hy_record.specs.declared.turn.Cue.{Cue}
use Rattle.hy_protocol.specs.declared.plan.GetPlan.{GetPlan}
use Rattle.hy_protocol.specs.Read.{version_of, answer_of, read_reply}
use Rattle.hy_protocol.specs.Progress.{progress_of_version, version_progress, read_progress}
use Rattle.hy_protocol.specs.Turns.{settled_progress, get_progress}
use Rattle.hy_operation.specs.declared.progress.Progress as kept
use Rattle.hy_operation.specs.Progress.{Tells}
use Rattle.hy_operation.proofs.Inputs.{progress-before-reply}
use Rattle.hy_get.specs.declared.fetch.Fetch.{Fetch}
use Rattle.hy_get.specs.declared.get.GetOp.{GetOp}
use Rattle.hy_get.specs.declared.get.State.{State}
use Rattle.hy_get.specs.declared.get.State.TheVariants.{Reading, Fetching, Replied}
use Rattle.hy_get.specs.Fetching.{Follows}
use Rattle.hy_get.specs.Standing.{IsReading, IsFetching, IsReplied, StandsAt, own_inputs, StandsForInputs}
use Rattle.hy_get.proofs.Standing.{reply-step, progress-is}

progress-of : (plan : GetPlan) (inputs : List Cue) → get_progress plan inputs ≡ settled_progress read_reply read_progress (own_inputs plan inputs)
unfolding get_progress
progress-of plan inputs = refl

none-before : (o p : Option Reply) → option_or o p ≡ None → o ≡ None
none-before None p e = refl
none-before (Some x) p e = absurd (none-some x (sym e))

-- where there is no reply, a get is as far as its version
unsettled : (inputs : List Cue) → read_reply inputs ≡ None → settled_progress read_reply read_progress inputs ≡ progress_of_version (version_of inputs)
unfolding settled_progress
unsettled [] none = progress-is []
unsettled (cue ∷ before) none =
    progress-before-reply read_reply read_progress before cue (none-before (read_reply before) (answer_of (version_of (cue ∷ before))) (sym (reply-step cue before) ∙ none)) ∙ progress-is (cue ∷ before)

module _ (plan : GetPlan) (get : GetOp) (inputs : List Cue) (h : StandsForInputs plan get inputs) where
  pub tells-reading : get.state ≡ Reading → Tells (record { phase = phases.Read; have = 0; need = 1 }) (get_progress plan inputs)
  tells-reading is =
      let r : IsReading (own_inputs plan inputs) = subst (λ (s : State). StandsAt s (own_inputs plan inputs)) is h.own.state in
      subst (Tells (record { phase = phases.Read; have = 0; need = 1 })) (sym (progress-of plan inputs ∙ unsettled _ r.reply ∙ ap progress_of_version r.version)) (record { phase = refl; have = refl; need = refl })

  pub tells-fetching : (fetch : Fetch) (progress : kept.Progress) → get.state ≡ Fetching fetch → ((since : List Cue) → Follows fetch since → length fetch.picks.items ≤ fetch.rec.k → Tells progress (version_progress (Some fetch.rec) since))
      → Tells progress (get_progress plan inputs)
  tells-fetching fetch progress is tells =
      let f : IsFetching fetch (own_inputs plan inputs) = subst (λ (s : State). StandsAt s (own_inputs plan inputs)) is h.own.state in
      let few : length fetch.picks.items ≤ fetch.rec.k = (let l = f.awaits.few in omega (arith, l)) in
      subst (Tells progress) (sym (progress-of plan inputs ∙ unsettled _ f.reply ∙ ap progress_of_version f.version)) (tells f.since f.awaits.follows few)

  pub tells-replied : (progress : kept.Progress) → get.state ≡ Replied progress → Tells progress (get_progress plan inputs)
  tells-replied progress is =
      let r : IsReplied progress (own_inputs plan inputs) = subst (λ (s : State). StandsAt s (own_inputs plan inputs)) is h.own.state in
      subst (Tells progress) (sym (progress-of plan inputs)) r.told

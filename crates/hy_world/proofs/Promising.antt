-- What holds of the trace of every schedule, as a world promises it.
use Rattle.std.proofs.Common.{◌≡◌, ℕ, ◌≤◌, List, [], ◌∷◌, ◌++◌, length, Option, Some, None, sym, ap, subst}
use Rattle.std.specs.Prelude.{IfSome}
use Rattle.hy_base.specs.Shape.{IsShape}
use Rattle.hy_record.specs.Clouds.{clouds_of}
use Rattle.hy_protocol.specs.Operations.{key_of}
use Rattle.hy_order.specs.declared.held.Held.{Held}
use Rattle.hy_trace.specs.declared.step.Step.{Step}
use Rattle.hy_trace.specs.Deeds.{Params, Deed, served}
use Rattle.hy_trace.specs.Schedule.{trace_of}
use Rattle.hy_trace.specs.Trace.{IsTrace}
use Rattle.hy_trace.specs.Held.{HasLiars, held_of}
use Rattle.hy_trace.proofs.Steps.{schedule-trace}
use Rattle.hy_theorems.specs.Deleting.{deletion}
use Rattle.hy_theorems.proofs.Meaning.{was-below}
use Rattle.hy_theorems.proofs.Invariant.{trace-holds}
use Rattle.hy_theorems.proofs.Holders.{enough-holders, held-enough}
use Rattle.hy_theorems.proofs.Refreshes.{few-refreshes}
use Rattle.hy_theorems.proofs.Starved.{superseded}
use Rattle.hy_world.specs.Promises.{StaysRetrievable, StarvesOnlyOld, RefreshesAtMost, DeletesOnlyOld, AtEachMoment, KeepsPromises}

-- what came before a part of a trace is a trace
trace-before : (p : Params) (later earlier : List Deed) → IsTrace p (later ++ earlier) → IsTrace p earlier
unfolding IsTrace
trace-before p [] earlier is = is
trace-before p (deed ∷ later) earlier is = trace-before p later earlier is.1

-- what holds of every trace holds at each moment of a run
always : (p : Params) (steps : List Step) (holds : List Deed → Type 0) → ((t : List Deed) → IsTrace p t → holds t) → AtEachMoment holds (trace_of p steps)
always p steps holds law = λ later earlier is. law earlier (trace-before p later earlier (subst (IsTrace p) (sym is) (schedule-trace p steps)))

module _ (p : Params) where
  stays-retrievable : IsShape p.f p.k → (t : List Deed) → IsTrace p t → StaysRetrievable p t
  stays-retrievable shape t trace = λ liars key r is value. enough-holders p t trace shape liars key r is value

  starves-only-old : IsShape p.f p.k → (t : List Deed) → IsTrace p t → StarvesOnlyOld p t
  starves-only-old shape t trace = λ liars client op key r starved.
      superseded p t trace shape client op starved.start key starved.get.began starved.get.action_is starved.version starved.follows r starved.record_is liars starved.pending starved.answered

  refreshes-at-most : (t : List Deed) → IsTrace p t → RefreshesAtMost p t
  refreshes-at-most t trace = λ client op key start get. few-refreshes p t client op start key trace get.began (ap key_of get.action_is)

  deletes-only-old : (t : List Deed) → IsTrace p t → DeletesOnlyOld p t
  deletes-only-old t trace = λ client op cloud key stamp sent. was-below (served t) key stamp ((trace-holds p t trace).said (deletion client op cloud key stamp) sent)

module _ (p : Params) (steps : List Step) where
  pub keeps-promises : IsShape p.f p.k → KeepsPromises p steps
  keeps-promises shape = record {
    retrievable = always p steps (StaysRetrievable p) (stays-retrievable p shape);
    starved = always p steps (StarvesOnlyOld p) (starves-only-old p shape);
    refreshes = always p steps (RefreshesAtMost p) (refreshes-at-most p);
    deletions = always p steps (DeletesOnlyOld p) (deletes-only-old p);
  }

  pub enough-copies : (key : List ℕ) (result : Option Held) → IsShape p.f p.k → HasLiars p p.f → result ≡ held_of p (trace_of p steps) key → IfSome result (λ held. p.k ≤ length (clouds_of held.clouds))
  enough-copies key None shape liars is = tt
  enough-copies key (Some held) shape liars is = held-enough p (trace_of p steps) (schedule-trace p steps) shape liars key held (sym is)

-- A reply is one of the action.
use Rattle.std.proofs.Common.{◌≡◌, ℕ, Bool, true, false, List, [], ◌∷◌, length, nat_le, Option, Some, None, is_some, sym, subst}
use Rattle.std.specs.Prelude.{IfSome, if◌then◌else◌}
use Rattle.std.specs.Option.{option_or}
use Rattle.hy_record.specs.declared.action.Action.{Action}
use Rattle.hy_record.specs.declared.action.Action.TheVariants as asked
use Rattle.hy_record.specs.declared.action.Reply.{Reply}
use Rattle.hy_record.specs.declared.action.Reply.TheVariants as told
use Rattle.hy_record.specs.declared.turn.Cue.{Cue}
use Rattle.hy_record.specs.Stamp.{Timestamp}
use Rattle.hy_record.specs.Record.{RecordValue, is_tombstone}
use Rattle.hy_meta.specs.Service.{stamp_of_record}
use Rattle.hy_protocol.specs.declared.plan.PutPlan.{PutPlan}
use Rattle.hy_protocol.specs.declared.plan.CollectPlan.{CollectPlan}
use Rattle.hy_protocol.specs.Inputs.{is_update_answer, is_forgot}
use Rattle.hy_protocol.specs.Write.{write_reply, write_reply_at, done_by, exhausted_by, update_of, first_has, stamp_upon}
use Rattle.hy_protocol.specs.Read.{Version, read_reply, answer_of, answer_for, version_of, valid_picks}
use Rattle.hy_protocol.specs.Collect.{collect_reply, collected_by, nothing_by, forget_of, first_olds}
use Rattle.hy_protocol.specs.Operations.{replied, write_plan, collect_plan}
use Rattle.hy_protocol.specs.Session.{Session, reply_by, turn_reply, takes}
use Rattle.hy_client.specs.Sizes.{is_swap}
use Rattle.hy_drive.specs.Role.{Suits}

either : (P : Reply → Type 0) (test : Bool) (here there : Option Reply) → IfSome here P → IfSome there P → IfSome (if test then here else there) P
either P true here there first second = first
either P false here there first second = second

or-else : (P : Reply → Type 0) (here there : Option Reply) → IfSome here P → IfSome there P → IfSome (option_or here there) P
or-else P None there first second = second
or-else P (Some reply) there first second = first

done-suits : (P : Reply → Type 0) → ((stamp : Timestamp) → P (told.Done stamp)) → (update : Option RecordValue) (cue : Cue) → IfSome (done_by update cue) P
done-suits P done None cue = tt
done-suits P done (Some r) cue = either P (is_update_answer cue) _ _ (done r.stamp) tt

exhausted-suits : (P : Reply → Type 0) → ((stamp : Timestamp) → P (told.Exhausted stamp)) → (plan : PutPlan) (held : Option (Option RecordValue)) → IfSome (exhausted_by plan held) P
exhausted-suits P exhausted plan None = tt
exhausted-suits P exhausted plan (Some held) = either P (is_some (stamp_upon plan.client held)) _ _ tt (exhausted (stamp_of_record held))

writes-suit : (P : Reply → Type 0) → ((stamp : Timestamp) → P (told.Done stamp)) → ((stamp : Timestamp) → P (told.Exhausted stamp)) → (plan : PutPlan) (inputs : List Cue)
    → IfSome (write_reply plan inputs) P
unfolding write_reply write_reply_at
writes-suit P done exhausted plan [] = tt
writes-suit P done exhausted plan (cue ∷ before) =
    or-else P (write_reply plan before) _ (writes-suit P done exhausted plan before)
    (or-else P (done_by (update_of plan before) cue) _ (done-suits P done (update_of plan before) cue) (exhausted-suits P exhausted plan (first_has (cue ∷ before))))

record-suits : (P : Reply → Type 0) → ((value : List ℕ) (stamp : Timestamp) → P (told.Value value stamp)) → ((stamp : Timestamp) → P (told.Absent stamp)) → (rec : Option RecordValue) (since : List Cue)
    → IfSome (answer_for rec since) P
unfolding answer_for
record-suits P value absent None since = absent (record { sn = 0; cid = 0 })
record-suits P value absent (Some r) since =
    either P (is_tombstone r.kind) _ _ (absent r.stamp) (either P (nat_le r.k (length (valid_picks r since))) _ _ (value _ r.stamp) tt)

answer-suits : (P : Reply → Type 0) → ((value : List ℕ) (stamp : Timestamp) → P (told.Value value stamp)) → ((stamp : Timestamp) → P (told.Absent stamp)) → (version : Option Version)
    → IfSome (answer_of version) P
answer-suits P value absent None = tt
answer-suits P value absent (Some v) = record-suits P value absent v.rec v.since

reads-suit : (P : Reply → Type 0) → ((value : List ℕ) (stamp : Timestamp) → P (told.Value value stamp)) → ((stamp : Timestamp) → P (told.Absent stamp)) → (inputs : List Cue)
    → IfSome (read_reply inputs) P
unfolding read_reply
reads-suit P value absent [] = tt
reads-suit P value absent (cue ∷ before) =
    or-else P (read_reply before) _ (reads-suit P value absent before) (answer-suits P value absent (version_of (cue ∷ before)))

collected-suits : (P : Reply → Type 0) → ((count : ℕ) → P (told.Collected count)) → (stamps : Option (List Timestamp)) (cue : Cue) → IfSome (collected_by stamps cue) P
collected-suits P collected None cue = tt
collected-suits P collected (Some stamps) cue = either P (is_forgot cue) _ _ (collected (length stamps)) tt

nothing-suits : (P : Reply → Type 0) → ((count : ℕ) → P (told.Collected count)) → (olds : Option (List Timestamp)) → IfSome (nothing_by olds) P
nothing-suits P collected None = tt
nothing-suits P collected (Some []) = collected 0
nothing-suits P collected (Some (stamp ∷ stamps)) = tt

collects-suit : (P : Reply → Type 0) → ((count : ℕ) → P (told.Collected count)) → (plan : CollectPlan) (inputs : List Cue) → IfSome (collect_reply plan inputs) P
unfolding collect_reply
collects-suit P collected plan [] = tt
collects-suit P collected plan (cue ∷ before) =
    or-else P (collect_reply plan before) _ (collects-suit P collected plan before)
    (or-else P (collected_by (forget_of plan before) cue) _ (collected-suits P collected (forget_of plan before) cue) (nothing-suits P collected (first_olds (cue ∷ before))))

operations-suit : (f k client op : ℕ) (action : Action) (inputs : List Cue) → is_swap action ≡ false → IfSome (replied f k client op action inputs) (Suits action)
unfolding replied
operations-suit f k client op (asked.Put key value) inputs none = writes-suit (Suits (asked.Put key value)) (λ stamp. tt) (λ stamp. tt) (write_plan f k client op key (Some value)) inputs
operations-suit f k client op (asked.Delete key) inputs none = writes-suit (Suits (asked.Delete key)) (λ stamp. tt) (λ stamp. tt) (write_plan f k client op key None) inputs
operations-suit f k client op (asked.Get key) inputs none = reads-suit (Suits (asked.Get key)) (λ value stamp. tt) (λ stamp. tt) inputs
operations-suit f k client op (asked.Collect key) inputs none = collects-suit (Suits (asked.Collect key)) (λ count. tt) (collect_plan f k client op key) inputs
operations-suit f k client op (asked.Swap key expected value) inputs none = absurd cc

session-suits : (s : Session) (inputs : List Cue) (action : Action) (asks : Option Action) → asks ≡ Some action → is_swap action ≡ false → IfSome (reply_by s inputs asks) (Suits action)
session-suits s inputs action asks is none =
    subst (λ (a : Option Action). IfSome (reply_by s inputs a) (Suits action)) (sym is) (operations-suit s.f s.k s.client s.begun action inputs none)

-- the reply of a turn
pub turn-suits : (s : Session) (cue : Cue) (action : Action) → s.action ≡ Some action → is_swap action ≡ false → IfSome (turn_reply s cue) (Suits action)
unfolding turn_reply
turn-suits s cue action is none = either (Suits action) (takes s cue) _ _ (session-suits s (cue ∷ s.inputs) action s.action is none) tt

-- What a client sends can be sent: to clouds that can be there, and puts of no more than a value.
use Rattle.std.proofs.Common.{◌≡◌, ◌+◌, ◌/◌, ◌≤◌, ℕ, suc, zero, Bool, true, false, not, nat_lt, nat_le, ◌-◌, ◌==◌, ◌&&◌, List, [], ◌∷◌, length, take, Option, Some, None, is_some, refl, sym, subst, arith}
use Rattle.std.specs.Prelude.{All, if◌then◌else◌, slice_get, IfSome}
use Rattle.std.specs.List.{range_with_len, list_any}
use Rattle.std.proofs.lemmas.Bool.Decides.{nat_tests}
use Rattle.std.proofs.lemmas.List.Elements.{All-nil, All-cons, All-head, All-tail, All-map, All-filter, All-take, All-append, All-weaker}
use Rattle.std.proofs.Math.Nat.{mul-le-mul_left}
use Rattle.hy_base.specs.declared.limits.TheConstants.{MAX_VALUE, MAX_CLOUDS}
use Rattle.hy_base.specs.Shape.{IsShape, cloud_count, quorum_size, fragment_size}
use Rattle.hy_code.specs.Fragments.{fragment_of}
use Rattle.hy_code.proofs.FragmentLaws.{length-fragment_of}
use Rattle.hy_record.specs.declared.action.Action.{Action}
use Rattle.hy_record.specs.declared.action.Action.TheVariants as asked
use Rattle.hy_record.specs.declared.turn.Cue.{Cue}
use Rattle.hy_record.specs.declared.turn.Out.{Out}
use Rattle.hy_record.specs.declared.turn.Out.TheVariants as outs
use Rattle.hy_record.specs.declared.cloud.CloudAct.TheVariants as acts
use Rattle.std.specs.Int.{bit_at}
use Rattle.hy_record.specs.Stamp.{Timestamp, stamp_lt}
use Rattle.hy_record.specs.Record.{RecordValue}
use Rattle.hy_record.specs.Clouds.{clouds_of}
use Rattle.hy_meta.specs.Service.{stamp_of_record}
use Rattle.hy_protocol.specs.declared.plan.PutPlan.{PutPlan}
use Rattle.hy_protocol.specs.declared.plan.GetPlan.{GetPlan}
use Rattle.hy_protocol.specs.declared.plan.CollectPlan.{CollectPlan}
use Rattle.hy_protocol.specs.Inputs.{has_of, is_tick, is_fired, is_stored, is_gone, is_answer}
use Rattle.hy_protocol.specs.Write.{write_sends, write_reply, sends_by, update_of, record_at, earlier_sends, first_has, since_has, own_stamp, puts_to, missing_so_far}
use Rattle.hy_protocol.specs.Read.{Version, read_sends, read_reply, version_of, gets_from, get_at, watch_all, first_gets, sends_since, sends_at_rise, sends_to_version, failed_attempts, has_fired}
use Rattle.hy_protocol.specs.Collect.{collect_sends, collect_reply, collect_sends_by, earlier_collect_sends, deletes, deletes_in, forget_of, forget_at, first_olds, since_olds}
use Rattle.hy_protocol.specs.Operations.{sends_of, write_plan, read_plan, collect_plan}
use Rattle.hy_protocol.specs.Session.{Session, sends_by as session_sends, turn_sends, invoked_sends, takes}
use Rattle.hy_client.specs.Sizes.{is_swap}
use Rattle.hy_drive.specs.Going.{too_large}
use Rattle.hy_drive.specs.Standing.{IsSendableOut}

-- a cloud that can be there
abbrev pub IsNear : ℕ → Type 0
IsNear cloud = cloud ≤ 15

abbrev pub Sendable : List Out → Type 0
Sendable outs = All IsSendableOut outs

pub near-range : (from count : ℕ) → from + count ≤ 16 → All IsNear (range_with_len from count)
near-range from zero fits = All-nil IsNear
near-range from (suc count) fits = All-cons IsNear from (range_with_len (from + 1) count) (omega arith) (near-range (from + 1) count (omega arith))

either : (test : Bool) (here there : List Out) → Sendable here → Sendable there → Sendable (if test then here else there)
either true here there first second = first
either false here there first second = second

-- ---- puts and deletes

small-fragment : (size k : ℕ) → 1 ≤ k → fragment_size size k ≤ size
small-fragment size k some = omega (arith, mul-le-mul_left (size / k) some)

puts : (plan : PutPlan) (value : Option (List ℕ)) (stamp : Option Timestamp) (clouds : List ℕ) → 1 ≤ plan.k → IfSome value (λ v. length v ≤ MAX_VALUE)
    → All IsNear clouds → Sendable (puts_to plan value stamp clouds)
puts plan None stamp clouds some fits near = All-nil IsSendableOut
puts plan (Some value) None clouds some fits near = All-nil IsSendableOut
puts plan (Some value) (Some stamp) clouds some fits near =
    let out : ℕ → Out = λ cloud. outs.Cloud (record { client = plan.client; op = plan.op; cloud = cloud; wish = record { key = plan.key; stamp = stamp; act = acts.Put (fragment_of value plan.k cloud) } }) in
    All-map IsSendableOut out clouds
    (All-weaker IsNear (λ cloud. IsSendableOut (out cloud))
    (λ cloud is. (is, (let small : length (fragment_of value plan.k cloud) ≤ MAX_VALUE = omega (arith, length-fragment_of value plan.k cloud, small-fragment (length value) plan.k some, fits) in small)))
    clouds near)

-- a message to the service
told : (out : Out) → IsSendableOut out → Sendable (out ∷ [])
told out is = All-cons IsSendableOut out [] is (All-nil IsSendableOut)

missing : (plan : PutPlan) (before : List Cue) (stamp : Option Timestamp) → IsShape plan.f plan.k → All IsNear (missing_so_far plan before stamp)
missing plan before None shape = All-nil IsNear
missing plan before (Some stamp) shape =
    All-filter (λ cloud. not (list_any (is_answer is_stored stamp cloud) (since_has before))) IsNear (range_with_len 0 (cloud_count plan.f plan.k))
    (near-range 0 (cloud_count plan.f plan.k) (omega (arith, shape.faults, shape.parts)))

write-earlier : (plan : PutPlan) (cue : Cue) (before : List Cue) (held : Option (Option RecordValue)) → IsShape plan.f plan.k → IfSome plan.value (λ v. length v ≤ MAX_VALUE)
    → Sendable (earlier_sends plan cue before held)
write-earlier plan cue before None shape fits =
    either (is_some (has_of cue)) _ _ (puts plan plan.value (own_stamp plan (cue ∷ before)) _ shape.some fits (near-range 0 (quorum_size plan.f plan.k) (omega (arith, shape.faults, shape.parts))))
    (either (is_tick cue) _ _ (told _ tt) (All-nil IsSendableOut))
write-earlier plan cue before (Some held) shape fits =
    either (is_tick cue) _ _ (puts plan plan.value (own_stamp plan before) _ shape.some fits (missing plan before (own_stamp plan before) shape)) (All-nil IsSendableOut)

write-by : (plan : PutPlan) (cue : Cue) (before : List Cue) (old now : Option RecordValue) → IsShape plan.f plan.k → IfSome plan.value (λ v. length v ≤ MAX_VALUE)
    → Sendable (sends_by plan cue before old now)
write-by plan cue before (Some r) now shape fits = either (is_tick cue) _ _ (told _ tt) (All-nil IsSendableOut)
write-by plan cue before None (Some r) shape fits = told _ tt
write-by plan cue before None None shape fits = write-earlier plan cue before (first_has before) shape fits

writes : (plan : PutPlan) (inputs : List Cue) → IsShape plan.f plan.k → IfSome plan.value (λ v. length v ≤ MAX_VALUE) → Sendable (write_sends plan inputs)
unfolding write_sends
writes plan [] shape fits = told _ tt
writes plan (cue ∷ before) shape fits =
    either (is_some (write_reply plan before)) _ _ (All-nil IsSendableOut) (write-by plan cue before (update_of plan before) (record_at plan (cue ∷ before)) shape fits)

-- ---- gets

near-clouds : (set : ℕ) → All IsNear (clouds_of set)
unfolding clouds_of
near-clouds set = All-filter (λ cloud. bit_at set cloud == 1) IsNear (range_with_len 0 MAX_CLOUDS) (near-range 0 MAX_CLOUDS (omega arith))

gets : (plan : GetPlan) (stamp : Timestamp) (clouds : List ℕ) → All IsNear clouds → Sendable (gets_from plan stamp clouds)
gets plan stamp clouds near =
    let out : ℕ → Out = λ cloud. outs.Cloud (record { client = plan.client; op = plan.op; cloud = cloud; wish = record { key = plan.key; stamp = stamp; act = acts.Get } }) in
    All-map IsSendableOut out clouds (All-weaker IsNear (λ cloud. IsSendableOut (out cloud)) (λ cloud is. (is, tt)) clouds near)

near-get : (clouds : List ℕ) (place : ℕ) → All IsNear clouds → IfSome (slice_get clouds place) IsNear
near-get [] place near = tt
near-get (cloud ∷ clouds) zero near = All-head IsNear cloud clouds near
near-get (cloud ∷ clouds) (suc place) near = near-get clouds place (All-tail IsNear cloud clouds near)

get-one : (plan : GetPlan) (r : RecordValue) (cloud : Option ℕ) → IfSome cloud IsNear → Sendable (get_at plan r cloud)
get-one plan r None near = All-nil IsSendableOut
get-one plan r (Some cloud) near = gets plan r.stamp (cloud ∷ []) (All-cons IsNear cloud [] near (All-nil IsNear))

watch : (plan : GetPlan) (r : RecordValue) → Sendable (watch_all plan r)
watch plan r = All-cons IsSendableOut _ (gets_from plan r.stamp (clouds_of r.clouds)) tt (gets plan r.stamp (clouds_of r.clouds) (near-clouds r.clouds))

rise : (plan : GetPlan) (r : RecordValue) (timed_out : Bool) (old new : ℕ) → Sendable (sends_at_rise plan r timed_out old new)
rise plan r timed_out old new =
    either (nat_lt old new) _ _
    (either (nat_le new r.f) _ _ (get-one plan r _ (near-get (clouds_of r.clouds) (r.k + new - 1) (near-clouds r.clouds)))
    (either (new == r.f + 1) _ _ (watch plan r) (either timed_out _ _ (watch plan r) (All-nil IsSendableOut))))
    (All-nil IsSendableOut)

since : (plan : GetPlan) (rec : Option RecordValue) (cue : Cue) (inputs : List Cue) → Sendable (sends_since plan rec cue inputs)
since plan None cue inputs = All-nil IsSendableOut
since plan (Some r) cue inputs =
    either (has_fired r inputs && is_tick cue) _ _ (told _ tt)
    (either (not (has_fired r inputs) && is_fired r.stamp cue) _ _ (told _ tt)
    (rise plan r (is_tick cue) (failed_attempts r inputs) (failed_attempts r (cue ∷ inputs))))

firsts : (plan : GetPlan) (rec : Option RecordValue) → Sendable (first_gets plan rec)
firsts plan None = All-nil IsSendableOut
firsts plan (Some r) = gets plan r.stamp (take r.k (clouds_of r.clouds)) (All-take IsNear r.k (clouds_of r.clouds) (near-clouds r.clouds))

to-version : (plan : GetPlan) (cue : Cue) (old new : Option Version) → Sendable (sends_to_version plan cue old new)
to-version plan cue old None = either (is_tick cue) _ _ (told _ tt) (All-nil IsSendableOut)
to-version plan cue None (Some new) = firsts plan new.rec
to-version plan cue (Some old) (Some new) =
    either (stamp_lt (stamp_of_record old.rec) (stamp_of_record new.rec)) _ _ (firsts plan new.rec) (since plan old.rec cue old.since)

reads : (plan : GetPlan) (inputs : List Cue) → Sendable (read_sends plan inputs)
unfolding read_sends
reads plan [] = told _ tt
reads plan (cue ∷ before) = either (is_some (read_reply (cue ∷ before))) _ _ (All-nil IsSendableOut) (to-version plan cue (version_of before) (version_of (cue ∷ before)))

-- ---- collections

deletes-one : (plan : CollectPlan) (stamp : Timestamp) (clouds : List ℕ) → All IsNear clouds → Sendable (deletes_in plan stamp clouds)
deletes-one plan stamp clouds near =
    let out : ℕ → Out = λ cloud. outs.Cloud (record { client = plan.client; op = plan.op; cloud = cloud; wish = record { key = plan.key; stamp = stamp; act = acts.Delete } }) in
    All-map IsSendableOut out clouds (All-weaker IsNear (λ cloud. IsSendableOut (out cloud)) (λ cloud is. (is, tt)) clouds near)

deletes-all : (plan : CollectPlan) (inputs : List Cue) (stamps : List Timestamp) → IsShape plan.f plan.k → Sendable (deletes plan inputs stamps)
deletes-all plan inputs [] shape = All-nil IsSendableOut
deletes-all plan inputs (stamp ∷ stamps) shape =
    All-append IsSendableOut _ (deletes plan inputs stamps)
    (deletes-one plan stamp _ (All-filter (λ cloud. not (list_any (is_answer is_gone stamp cloud) (since_olds inputs))) IsNear (range_with_len 0 (cloud_count plan.f plan.k))
    (near-range 0 (cloud_count plan.f plan.k) (omega (arith, shape.faults, shape.parts)))))
    (deletes-all plan inputs stamps shape)

collect-earlier : (plan : CollectPlan) (cue : Cue) (before : List Cue) (old now : Option (List Timestamp)) → IsShape plan.f plan.k → Sendable (earlier_collect_sends plan cue before old now)
collect-earlier plan cue before None None shape = either (is_tick cue) _ _ (told _ tt) (All-nil IsSendableOut)
collect-earlier plan cue before None (Some stamps) shape = deletes-all plan (cue ∷ before) stamps shape
collect-earlier plan cue before (Some stamps) now shape = either (is_tick cue) _ _ (deletes-all plan before stamps shape) (All-nil IsSendableOut)

collect-by : (plan : CollectPlan) (cue : Cue) (before : List Cue) (old now : Option (List Timestamp)) → IsShape plan.f plan.k → Sendable (collect_sends_by plan cue before old now)
collect-by plan cue before (Some stamps) now shape = either (is_tick cue) _ _ (told _ tt) (All-nil IsSendableOut)
collect-by plan cue before None (Some stamps) shape = told _ tt
collect-by plan cue before None None shape = collect-earlier plan cue before (first_olds before) (first_olds (cue ∷ before)) shape

collects : (plan : CollectPlan) (inputs : List Cue) → IsShape plan.f plan.k → Sendable (collect_sends plan inputs)
unfolding collect_sends
collects plan [] shape = told _ tt
collects plan (cue ∷ before) shape =
    either (is_some (collect_reply plan before)) _ _ (All-nil IsSendableOut) (collect-by plan cue before (forget_of plan before) (forget_at plan (cue ∷ before)) shape)

-- ---- operations

large-by : (size : ℕ) (value : List ℕ) (large : Bool) → nat_lt MAX_VALUE (length value) ≡ large → (if large then Some size else None) ≡ None → length value ≤ MAX_VALUE
large-by size value true is none = absurd (let e : ◌≡◌ {A = Option ℕ} (Some size) None = none in cc)
large-by size value false is none = grind (arith, nat_tests)

operations : (f k client op : ℕ) (action : Action) (inputs : List Cue) → IsShape f k → too_large action ≡ None → is_swap action ≡ false → Sendable (sends_of f k client op action inputs)
unfolding sends_of
operations f k client op (asked.Put key value) inputs shape fits none = writes (write_plan f k client op key (Some value)) inputs shape (large-by (length value) value (nat_lt MAX_VALUE (length value)) refl fits)
operations f k client op (asked.Delete key) inputs shape fits none = writes (write_plan f k client op key None) inputs shape tt
operations f k client op (asked.Get key) inputs shape fits none = reads (read_plan client op key) inputs
operations f k client op (asked.Collect key) inputs shape fits none = collects (collect_plan f k client op key) inputs shape
operations f k client op (asked.Swap key expected value) inputs shape fits none = absurd cc

-- what a client sends when it begins
pub invoked-sendable : (s : Session) (action : Action) → IsShape s.f s.k → too_large action ≡ None → is_swap action ≡ false → Sendable (invoked_sends s action)
unfolding invoked_sends
invoked-sendable s action shape fits none = operations s.f s.k s.client (s.begun + 1) action [] shape fits none

session-by : (s : Session) (inputs : List Cue) (asks : Option Action) → IsShape s.f s.k → IfSome asks (λ action. too_large action ≡ None) → IfSome asks (λ action. is_swap action ≡ false)
    → Sendable (session_sends s inputs asks)
session-by s inputs None shape fits none = All-nil IsSendableOut
session-by s inputs (Some action) shape fits none = operations s.f s.k s.client s.begun action inputs shape fits none

-- and at an input
pub turn-sendable : (s : Session) (cue : Cue) (action : Action) → IsShape s.f s.k → s.action ≡ Some action → too_large action ≡ None → is_swap action ≡ false → Sendable (turn_sends s cue)
unfolding turn_sends
turn-sendable s cue action shape is fits none =
    either (takes s cue) _ _
    (session-by s (cue ∷ s.inputs) s.action shape (subst (λ (asks : Option Action). IfSome asks (λ a. too_large a ≡ None)) (sym is) fits)
    (subst (λ (asks : Option Action). IfSome asks (λ a. is_swap a ≡ false)) (sym is) none))
    (All-nil IsSendableOut)

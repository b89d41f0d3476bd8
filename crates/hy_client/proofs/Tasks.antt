-- The machine of an operation, whichever it is, after one more input.
use Rattle.std.proofs.Common.{◌≡◌, ℕ, true, false, List, [], ◌∷◌, Option, Some, None, Result, Ok, Err, refl, sym, ap, subst, ◌∙◌}
use Rattle.std.specs.Prelude.{is_some, IfOk, OnOk, OnErr}
use Rattle.std.specs.Option.{option_or}
use Rattle.std.proofs.lemmas.Bool.{false≢true}
use Rattle.hy_record.specs.declared.action.Action.{Action}
use Rattle.hy_record.specs.declared.action.Action.TheVariants as asked
use Rattle.hy_record.specs.declared.action.Reply.{Reply}
use Rattle.hy_record.specs.declared.turn.Cue.{Cue}
use Rattle.hy_record.specs.declared.turn.Out.{Out}
use Rattle.hy_record.specs.declared.turn.Turn.{Turn}
use Rattle.hy_protocol.specs.declared.plan.PutPlan.{PutPlan}
use Rattle.hy_protocol.specs.declared.plan.GetPlan.{GetPlan}
use Rattle.hy_protocol.specs.declared.plan.CollectPlan.{CollectPlan}
use Rattle.hy_protocol.specs.Inputs.{addresses, inputs_for}
use Rattle.hy_protocol.specs.Operations.{key_of, write_plan, read_plan, collect_plan, sends_of, replied}
use Rattle.hy_protocol.specs.Write.{write_sends, write_reply, write_reply_at}
use Rattle.hy_protocol.specs.Swap.{swap_sends, swap_reply, swap_reply_at}
use Rattle.hy_record.specs.Stamp.{Timestamp}
use Rattle.hy_protocol.specs.Read.{read_sends, read_reply, answer_of, version_of}
use Rattle.hy_protocol.specs.Collect.{collect_sends, collect_reply, collected_by, nothing_by, first_olds, forget_of}
use Rattle.hy_protocol.specs.Progress.{Progress, write_progress, read_progress, collect_progress, progress_of}
use Rattle.hy_protocol.specs.Turns.{own_turn, turn_of, put_turn, swap_turn, get_turn, collect_turn, settled_progress, put_progress, swap_progress, get_progress, collect_progress_of}
use Rattle.hy_operation.proofs.Inputs.{inputs-own, turn-own, turn-before-reply, progress-before-reply}
use Rattle.hy_put.specs.Standing as puts
use Rattle.hy_put.specs.declared.put.PutOp.{PutOp}
use Rattle.hy_get.specs.Standing as gets
use Rattle.hy_get.specs.declared.get.GetOp.{GetOp}
use Rattle.hy_client.specs.Collecting as collections
use Rattle.hy_client.specs.Swapping as swaps
use Rattle.hy_client.specs.declared.collect.CollectOp.{CollectOp}
use Rattle.hy_client.specs.declared.swap.SwapOp.{SwapOp}
use Rattle.hy_client.specs.Machines.{Task, RunsBy, Runs, turn_by, task_turn, progress_by, task_progress, Continues, awaits, taken_inputs, taken_turn}
use Rattle.hy_client.specs.declared.machine.Machine.{Machine}
use Rattle.hy_client.specs.declared.machine.Machine.TheVariants as machines
use Rattle.hy_client.specs.declared.last.Last.{Last}

-- ---- answers

pub if-ok : {A E : Type 0} (result : Result A E) (P Q : A → Type 0) → ((x : A) → P x → Q x) → IfOk result P → IfOk result Q
if-ok (Ok x) P Q f p = f x p
if-ok (Err e) P Q f p = p

pub on-ok : {A E : Type 0} (result : Result A E) (P Q : Type 0) → (P → Q) → OnOk result P → OnOk result Q
on-ok (Ok x) P Q f p = f p
on-ok (Err e) P Q f p = p

pub on-err : {A E : Type 0} (result : Result A E) (P Q : Type 0) → (P → Q) → OnErr result P → OnErr result Q
on-err (Ok x) P Q f p = p
on-err (Err e) P Q f p = f p

-- ---- the machine that stands for more inputs

pub put-runs : (self : Machine) (old new : PutOp) (more : List Cue → List Cue) → self ≡ machines.Put old → ((plan : PutPlan) (inputs : List Cue) → puts.StandsForInputs plan old inputs → puts.StandsForInputs plan new (more inputs))
    → (task : Task) (inputs : List Cue) → Runs task self inputs → Runs task (machines.Put new) (more inputs)
put-runs self old new more is step task inputs h = by_action task.action (subst (λ (m : Machine). Runs task m inputs) is h)
  where
    by_action : (action : Action) → RunsBy task.f task.k task.client task.op action (machines.Put old) inputs → RunsBy task.f task.k task.client task.op action (machines.Put new) (more inputs)
    by_action (asked.Put key value) runs = step _ inputs runs
    by_action (asked.Delete key) runs = step _ inputs runs
    by_action (asked.Get key) runs = absurd runs
    by_action (asked.Collect key) runs = absurd runs
    by_action (asked.Swap key expected value) runs = absurd runs

pub get-runs : (self : Machine) (old new : GetOp) (more : List Cue → List Cue) → self ≡ machines.Get old → ((plan : GetPlan) (inputs : List Cue) → gets.StandsForInputs plan old inputs → gets.StandsForInputs plan new (more inputs))
    → (task : Task) (inputs : List Cue) → Runs task self inputs → Runs task (machines.Get new) (more inputs)
get-runs self old new more is step task inputs h = by_action task.action (subst (λ (m : Machine). Runs task m inputs) is h)
  where
    by_action : (action : Action) → RunsBy task.f task.k task.client task.op action (machines.Get old) inputs → RunsBy task.f task.k task.client task.op action (machines.Get new) (more inputs)
    by_action (asked.Get key) runs = step _ inputs runs
    by_action (asked.Put key value) runs = absurd runs
    by_action (asked.Delete key) runs = absurd runs
    by_action (asked.Collect key) runs = absurd runs
    by_action (asked.Swap key expected value) runs = absurd runs

pub collect-runs : (self : Machine) (old new : CollectOp) (more : List Cue → List Cue) → self ≡ machines.Collect old → ((plan : CollectPlan) (inputs : List Cue) → collections.StandsForInputs plan old inputs → collections.StandsForInputs plan new (more inputs))
    → (task : Task) (inputs : List Cue) → Runs task self inputs → Runs task (machines.Collect new) (more inputs)
collect-runs self old new more is step task inputs h = by_action task.action (subst (λ (m : Machine). Runs task m inputs) is h)
  where
    by_action : (action : Action) → RunsBy task.f task.k task.client task.op action (machines.Collect old) inputs → RunsBy task.f task.k task.client task.op action (machines.Collect new) (more inputs)
    by_action (asked.Collect key) runs = step _ inputs runs
    by_action (asked.Put key value) runs = absurd runs
    by_action (asked.Delete key) runs = absurd runs
    by_action (asked.Get key) runs = absurd runs
    by_action (asked.Swap key expected value) runs = absurd runs

pub swap-runs : (self : Machine) (old new : SwapOp) (more : List Cue → List Cue) → self ≡ machines.Swap old
    → ((plan : PutPlan) (expected : Timestamp) (inputs : List Cue) → swaps.StandsForInputs plan expected old inputs → swaps.StandsForInputs plan expected new (more inputs))
    → (task : Task) (inputs : List Cue) → Runs task self inputs → Runs task (machines.Swap new) (more inputs)
swap-runs self old new more is step task inputs h = by_action task.action (subst (λ (m : Machine). Runs task m inputs) is h)
  where
    by_action : (action : Action) → RunsBy task.f task.k task.client task.op action (machines.Swap old) inputs → RunsBy task.f task.k task.client task.op action (machines.Swap new) (more inputs)
    by_action (asked.Swap key expected value) runs = step _ expected inputs runs
    by_action (asked.Put key value) runs = absurd runs
    by_action (asked.Delete key) runs = absurd runs
    by_action (asked.Get key) runs = absurd runs
    by_action (asked.Collect key) runs = absurd runs

-- ---- what an operation sends first

pub first-sends : (f k client op : ℕ) (action : Action) → (turn_by f k client op action []).sends ≡ sends_of f k client op action []
unfolding put_turn swap_turn get_turn collect_turn turn_of own_turn sends_of
first-sends f k client op (asked.Put key value) = refl
first-sends f k client op (asked.Delete key) = refl
first-sends f k client op (asked.Get key) = refl
first-sends f k client op (asked.Collect key) = refl
first-sends f k client op (asked.Swap key expected value) = refl

pub unreplied : (f k client op : ℕ) (action : Action) → is_some (replied f k client op action []) ≡ false
unfolding replied write_reply swap_reply read_reply collect_reply
unreplied f k client op (asked.Put key value) = refl
unreplied f k client op (asked.Delete key) = refl
unreplied f k client op (asked.Get key) = refl
unreplied f k client op (asked.Collect key) = refl
unreplied f k client op (asked.Swap key expected value) = refl

-- ---- the turn at an input that the operation awaits

open-reply : (o : Option Reply) → is_some o ≡ false → o ≡ None
open-reply None e = refl
open-reply (Some reply) e = absurd (false≢true (sym e))

own-turn : (sends : List Cue → List Out) (reply : List Cue → Option Reply) (client op : ℕ) (key : List ℕ) (inputs : List Cue) (cue : Cue) → inputs_for client op key inputs ≡ inputs → is_some (reply inputs) ≡ false → addresses client op key cue ≡ true
    → turn_of sends reply client op key (cue ∷ inputs) ≡ record { sends = sends (cue ∷ inputs); reply = reply (cue ∷ inputs) }
own-turn sends reply client op key inputs cue own silent for =
    turn-own sends reply client op key inputs cue for ∙ ap (λ (cs : List Cue). own_turn sends reply (cue ∷ cs)) own ∙ turn-before-reply sends reply inputs cue (open-reply (reply inputs) silent)

-- what the operation does
turn-is : (f k client op : ℕ) (action : Action) (inputs : List Cue) (cue : Cue) → inputs_for client op (key_of action) inputs ≡ inputs → is_some (replied f k client op action inputs) ≡ false → addresses client op (key_of action) cue ≡ true
    → turn_by f k client op action (cue ∷ inputs) ≡ record { sends = sends_of f k client op action (cue ∷ inputs); reply = replied f k client op action (cue ∷ inputs) }
unfolding put_turn swap_turn get_turn collect_turn sends_of replied
turn-is f k client op (asked.Put key value) inputs cue own silent for = own-turn (write_sends (write_plan f k client op key (Some value))) (write_reply (write_plan f k client op key (Some value))) client op key inputs cue own silent for
turn-is f k client op (asked.Delete key) inputs cue own silent for = own-turn (write_sends (write_plan f k client op key None)) (write_reply (write_plan f k client op key None)) client op key inputs cue own silent for
turn-is f k client op (asked.Get key) inputs cue own silent for = own-turn (read_sends (read_plan client op key)) read_reply client op key inputs cue own silent for
turn-is f k client op (asked.Collect key) inputs cue own silent for = own-turn (collect_sends (collect_plan f k client op key)) (collect_reply (collect_plan f k client op key)) client op key inputs cue own silent for
turn-is f k client op (asked.Swap key expected value) inputs cue own silent for =
    let plan : PutPlan = write_plan f k client op key (Some value) in
    own-turn (swap_sends plan expected) (swap_reply plan expected) client op key inputs cue own silent for

awaited : (task : Task) (inputs : List Cue) (cue : Cue) → is_some (replied task.f task.k task.client task.op task.action inputs) ≡ false → addresses task.client task.op (key_of task.action) cue ≡ true → awaits task inputs cue ≡ true
awaited task inputs cue silent for = rw (silent, for) refl

pub step-turn : (task : Task) (last : Last) (inputs : List Cue) (cue : Cue) (turn : Turn) → Continues task last inputs → last.replied ≡ false → addresses task.client task.op (key_of task.action) cue ≡ true → turn ≡ task_turn task (cue ∷ inputs) → turn ≡ taken_turn task inputs cue
step-turn task last inputs cue turn h silent for is =
    let none = sym h.replied ∙ silent in
    is ∙ turn-is task.f task.k task.client task.op task.action inputs cue h.own none for ∙ (let waits = awaited task inputs cue none for in rw waits refl)

pub step-continues : (task : Task) (old new : Last) (inputs : List Cue) (cue : Cue) (turn : Turn) → Continues task old inputs → old.replied ≡ false → addresses task.client task.op (key_of task.action) cue ≡ true → turn ≡ task_turn task (cue ∷ inputs)
    → new.key ≡ old.key → new.replied ≡ is_some turn.reply → Runs task new.machine (cue ∷ inputs) → Continues task new (taken_inputs task inputs cue)
step-continues task old new inputs cue turn h silent for is same told runs =
    let none = sym h.replied ∙ silent in
    let reply : turn.reply ≡ replied task.f task.k task.client task.op task.action (cue ∷ inputs) = ap (λ (t : Turn). t.reply) (is ∙ turn-is task.f task.k task.client task.op task.action inputs cue h.own none for) in
    let after : Continues task new (cue ∷ inputs) = record {
      key = same ∙ h.key;
      own = inputs-own task.client task.op (key_of task.action) inputs cue for ∙ ap (λ (cs : List Cue). cue ∷ cs) h.own;
      replied = told ∙ ap is_some reply;
      runs = runs;
    } in
    subst (λ (cs : List Cue). Continues task new cs) (let waits = awaited task inputs cue none for in rw waits refl) after

-- an input that the operation does not await
pub idle-turn : (task : Task) (inputs : List Cue) (cue : Cue) (turn : Turn) → awaits task inputs cue ≡ false → turn ≡ record { sends = []; reply = None } → turn ≡ taken_turn task inputs cue
idle-turn task inputs cue turn idle is = is ∙ rw idle refl

pub idle-continues : (task : Task) (last : Last) (inputs : List Cue) (cue : Cue) → awaits task inputs cue ≡ false → Continues task last inputs → Continues task last (taken_inputs task inputs cue)
idle-continues task last inputs cue idle h = subst (λ (cs : List Cue). Continues task last cs) (rw idle refl) h

-- ---- how far an operation without a reply is

latched : (o p : Option Reply) → option_or o p ≡ None → o ≡ None
latched None p e = refl
latched (Some reply) p e = e

progress-open : (reply : List Cue → Option Reply) (progress : List Cue → Progress) → ((cue : Cue) (before : List Cue) → reply (cue ∷ before) ≡ None → reply before ≡ None) → (inputs : List Cue) → reply inputs ≡ None → settled_progress reply progress inputs ≡ progress inputs
unfolding settled_progress
progress-open reply progress latch [] none = refl
progress-open reply progress latch (cue ∷ before) none = progress-before-reply reply progress before cue (latch cue before none)

write-latched : (plan : PutPlan) (cue : Cue) (before : List Cue) → write_reply plan (cue ∷ before) ≡ None → write_reply plan before ≡ None
unfolding write_reply
write-latched plan cue before none = latched (write_reply plan before) (write_reply_at plan cue before) none

swap-latched : (plan : PutPlan) (expected : Timestamp) (cue : Cue) (before : List Cue)
    → swap_reply plan expected (cue ∷ before) ≡ None → swap_reply plan expected before ≡ None
unfolding swap_reply
swap-latched plan expected cue before none = latched (swap_reply plan expected before) (swap_reply_at plan expected cue before) none

read-latched : (cue : Cue) (before : List Cue) → read_reply (cue ∷ before) ≡ None → read_reply before ≡ None
unfolding read_reply
read-latched cue before none = latched (read_reply before) (answer_of (version_of (cue ∷ before))) none

collect-latched : (plan : CollectPlan) (cue : Cue) (before : List Cue) → collect_reply plan (cue ∷ before) ≡ None → collect_reply plan before ≡ None
unfolding collect_reply
collect-latched plan cue before none = latched (collect_reply plan before) (option_or (collected_by (forget_of plan before) cue) (nothing_by (first_olds (cue ∷ before)))) none

progress-is-by : (f k client op : ℕ) (action : Action) (inputs : List Cue) → inputs_for client op (key_of action) inputs ≡ inputs → is_some (replied f k client op action inputs) ≡ false → progress_by f k client op action inputs ≡ progress_of f k client op action inputs
unfolding put_progress swap_progress get_progress collect_progress_of progress_of replied
progress-is-by f k client op (asked.Put key value) inputs own silent =
    let plan : PutPlan = write_plan f k client op key (Some value) in
    ap (settled_progress (write_reply plan) (write_progress plan)) own ∙ progress-open (write_reply plan) (write_progress plan) (write-latched plan) inputs (open-reply (write_reply plan inputs) silent)
progress-is-by f k client op (asked.Delete key) inputs own silent =
    let plan : PutPlan = write_plan f k client op key None in
    ap (settled_progress (write_reply plan) (write_progress plan)) own ∙ progress-open (write_reply plan) (write_progress plan) (write-latched plan) inputs (open-reply (write_reply plan inputs) silent)
progress-is-by f k client op (asked.Get key) inputs own silent =
    ap (settled_progress read_reply read_progress) own ∙ progress-open read_reply read_progress read-latched inputs (open-reply (read_reply inputs) silent)
progress-is-by f k client op (asked.Collect key) inputs own silent =
    let plan : CollectPlan = collect_plan f k client op key in
    ap (settled_progress (collect_reply plan) (collect_progress plan)) own ∙ progress-open (collect_reply plan) (collect_progress plan) (collect-latched plan) inputs (open-reply (collect_reply plan inputs) silent)
progress-is-by f k client op (asked.Swap key expected value) inputs own silent =
    let plan : PutPlan = write_plan f k client op key (Some value) in
    ap (settled_progress (swap_reply plan expected) (write_progress plan)) own
    ∙ progress-open (swap_reply plan expected) (write_progress plan) (swap-latched plan expected) inputs (open-reply (swap_reply plan expected inputs) silent)

pub progress-now : (task : Task) (last : Last) (inputs : List Cue) → Continues task last inputs → last.replied ≡ false → task_progress task inputs ≡ progress_of task.f task.k task.client task.op task.action inputs
progress-now task last inputs h silent = progress-is-by task.f task.k task.client task.op task.action inputs h.own (sym h.replied ∙ silent)

-- A client after each of its calls.
use Rattle.std.proofs.Common.{◌≡◌, ℕ, ◌+◌, true, false, List, [], Option, Some, None, refl, sym, ap, subst, ◌∙◌, inl, inr, arith}
use Rattle.std.specs.Prelude.{◌==◌, not, is_some}
use Rattle.std.specs.Option.{option_map}
use Rattle.std.proofs.lemmas.Bool.{ne_eqb}
use Rattle.hy_meta.proofs.Rising.{cases_bool}
use Rattle.hy_record.specs.declared.action.Action.{Action}
use Rattle.hy_record.specs.declared.action.Phase.{Phase}
use Rattle.hy_record.specs.declared.turn.Cue.{Cue}
use Rattle.hy_record.specs.declared.turn.Turn.{Turn}
use Rattle.hy_protocol.specs.Inputs.{inputs_for}
use Rattle.hy_protocol.specs.Operations.{key_of, suits, sends_of, replied}
use Rattle.hy_protocol.specs.Progress.{Progress, progress_of}
use Rattle.hy_protocol.specs.Session.{Session, takes_by, is_running, takes, session_after, turn_sends, turn_reply, session_turn, session_invoked, invoked_sends, session_stopped, session_progress}
use Rattle.hy_protocol.specs.Turns.{quiet_turn}
use Rattle.hy_operation.specs.Progress.{Tells}
use Rattle.hy_operation.specs.declared.progress.Progress as told
use Rattle.hy_client.specs.Machines.{Task, RunsBy, Runs, task_progress, Continues, awaits, taken_inputs, taken_turn}
use Rattle.hy_client.specs.Clients.{task_of, IsLast, HasLast, StandsForSession, invoke_refusal, running_of}
use Rattle.hy_client.specs.Sizes.{size_refusal}
use Rattle.hy_client.specs.declared.fault.InvokeFault.TheVariants as faults
use Rattle.hy_client.specs.declared.last.Last.{Last}
use Rattle.hy_client.specs.declared.client.Running.{Running}
use Rattle.hy_client.specs.declared.client.Client.{Client}
use Rattle.hy_client.proofs.Tasks.{progress-now, unreplied}

-- ---- the last operation

-- where the client keeps one, the session has its action
pub last-of : (s : Session) (last : Last) (action : Option Action) → HasLast s (Some last) action → (a : Action) × (action ≡ Some a) × IsLast s last a
last-of s last (Some a) h = (a, refl, h)
last-of s last None h = absurd h

pub none-of : (s : Session) (action : Option Action) → HasLast s None action → (action ≡ None) × (s.begun ≡ 0)
none-of s None h = (refl, h)
none-of s (Some a) h = absurd h

-- ---- an input

takes-is : (s : Session) (a : Action) (cue : Cue) → s.action ≡ Some a → s.stopped ≡ false → takes s cue ≡ awaits (task_of s a) s.inputs cue
unfolding takes
takes-is s a cue is live = rw (is, live) refl

takes-none : (s : Session) (cue : Cue) → s.action ≡ None → takes s cue ≡ false
unfolding takes
takes-none s cue is = rw is refl

takes-stopped : (s : Session) (cue : Cue) → s.stopped ≡ true → takes s cue ≡ false
unfolding takes
takes-stopped s cue stopped = by_action s.action
  where
    by_action : (o : Option Action) → takes_by s cue o ≡ false
    by_action None = refl
    by_action (Some a) = rw stopped refl

pub turn-quiet : (s : Session) (cue : Cue) → takes s cue ≡ false → session_turn s cue ≡ quiet_turn
unfolding session_turn turn_sends turn_reply
turn-quiet s cue idle = rw idle refl

pub after-same : (s : Session) (cue : Cue) → takes s cue ≡ false → session_after s cue ≡ s
unfolding session_after
after-same s cue idle = rw idle refl

-- what the client does at an input, by its last operation
taken-is : (s : Session) (a : Action) (cue : Cue) → s.action ≡ Some a → s.stopped ≡ false → taken_turn (task_of s a) s.inputs cue ≡ session_turn s cue
unfolding session_turn turn_sends turn_reply
taken-is s a cue is live =
    let same = takes-is s a cue is live in
    elim (cases_bool (takes s cue)) [
      | inl taken ↦ let waits : awaits (task_of s a) s.inputs cue ≡ true = sym same ∙ taken in rw (taken, waits, is) refl
      | inr left ↦ let waits : awaits (task_of s a) s.inputs cue ≡ false = sym same ∙ left in rw (left, waits) refl
    ]

inputs-are : (s : Session) (a : Action) (cue : Cue) → s.action ≡ Some a → s.stopped ≡ false → session_after s cue ≡ record s { inputs = taken_inputs (task_of s a) s.inputs cue }
unfolding session_after
inputs-are s a cue is live =
    let same = takes-is s a cue is live in
    elim (cases_bool (takes s cue)) [
      | inl taken ↦ let waits : awaits (task_of s a) s.inputs cue ≡ true = sym same ∙ taken in rw (taken, waits) refl
      | inr left ↦ let waits : awaits (task_of s a) s.inputs cue ≡ false = sym same ∙ left in rw (left, waits) refl
    ]

-- a client that stands for the session, and what it keeps of the session's last operation
pub kept : (m : Client) (s : Session) (last : Last) → StandsForSession m s → m.last ≡ Some last → (a : Action) × (s.action ≡ Some a) × IsLast s last a
kept m s last h is = last-of s last s.action (subst (λ (o : Option Last). HasLast s o s.action) is h.last)

pub nothing-kept : (m : Client) (s : Session) → StandsForSession m s → m.last ≡ None → (s.action ≡ None) × (s.begun ≡ 0)
nothing-kept m s h is = none-of s s.action (subst (λ (o : Option Last). HasLast s o s.action) is h.last)

-- a client that has stopped, or began nothing, does nothing
pub stopped-turn : (m : Client) (s : Session) (cue : Cue) → StandsForSession m s → m.stopped ≡ true → session_turn s cue ≡ quiet_turn
stopped-turn m s cue h stopped = turn-quiet s cue (takes-stopped s cue (sym h.stopped ∙ stopped))

pub stopped-stands : (m : Client) (s : Session) (cue : Cue) → StandsForSession m s → m.stopped ≡ true → StandsForSession m (session_after s cue)
stopped-stands m s cue h stopped = subst (StandsForSession m) (sym (after-same s cue (takes-stopped s cue (sym h.stopped ∙ stopped)))) h

pub fresh-turn : (m : Client) (s : Session) (cue : Cue) → StandsForSession m s → m.last ≡ None → session_turn s cue ≡ quiet_turn
fresh-turn m s cue h none = turn-quiet s cue (takes-none s cue (nothing-kept m s h none).0)

pub fresh-stands : (m : Client) (s : Session) (cue : Cue) → StandsForSession m s → m.last ≡ None → StandsForSession m (session_after s cue)
fresh-stands m s cue h none = subst (StandsForSession m) (sym (after-same s cue (takes-none s cue (nothing-kept m s h none).0))) h

-- nothing has changed
pub same-stands : (m n : Client) (s : Session) → n.cid ≡ m.cid → n.f ≡ m.f → n.k ≡ m.k → n.begun ≡ m.begun → n.last ≡ m.last → n.stopped ≡ m.stopped → StandsForSession m s → StandsForSession n s
same-stands m n s id faults parts begun last stopped h = record {
  id = id ∙ h.id;
  faults = faults ∙ h.faults;
  parts = parts ∙ h.parts;
  begun = begun ∙ h.begun;
  stopped = stopped ∙ h.stopped;
  last = subst (λ (o : Option Last). HasLast s o s.action) (sym last) h.last;
}

-- the last operation handles the input
pub last-turn : (m : Client) (s : Session) (last : Last) (cue : Cue) (turn : Turn) → StandsForSession m s → m.stopped ≡ false → m.last ≡ Some last
    → ((task : Task) (inputs : List Cue) → task.client ≡ m.cid → task.op ≡ m.begun → Continues task last inputs → turn ≡ taken_turn task inputs cue) → turn ≡ session_turn s cue
last-turn m s last cue turn h live is does =
    let (a, asked, l) = kept m s last h is in
    does (task_of s a) s.inputs (sym h.id) (sym h.begun) l.continues ∙ taken-is s a cue asked (sym h.stopped ∙ live)

pub last-stands : (m n : Client) (s : Session) (last after : Last) (cue : Cue) → StandsForSession m s → m.stopped ≡ false → m.last ≡ Some last → n.cid ≡ m.cid → n.f ≡ m.f → n.k ≡ m.k → n.begun ≡ m.begun → n.stopped ≡ m.stopped → n.last ≡ Some after
    → ((task : Task) (inputs : List Cue) → task.client ≡ m.cid → task.op ≡ m.begun → Continues task last inputs → Continues task after (taken_inputs task inputs cue)) → StandsForSession n (session_after s cue)
last-stands m n s last after cue h live is id faults parts begun stopped now goes =
    let (a, asked, l) = kept m s last h is in
    let t : Session = record s { inputs = taken_inputs (task_of s a) s.inputs cue } in
    let mine : IsLast t after a = record { some = l.some; continues = goes (task_of s a) s.inputs (sym h.id) (sym h.begun) l.continues } in
    let stands : StandsForSession n t = record {
      id = id ∙ h.id;
      faults = faults ∙ h.faults;
      parts = parts ∙ h.parts;
      begun = begun ∙ h.begun;
      stopped = stopped ∙ h.stopped;
      last = subst (λ (o : Option Last). HasLast t o s.action) (sym now) (subst (λ (o : Option Action). HasLast t (Some after) o) (sym asked) mine);
    } in
    subst (StandsForSession n) (sym (inputs-are s a cue asked (sym h.stopped ∙ live))) stands

-- memory ran out: what is kept of the last operation stands for the same inputs
pub last-same : (m n : Client) (s : Session) (last after : Last) → StandsForSession m s → m.last ≡ Some last → n.cid ≡ m.cid → n.f ≡ m.f → n.k ≡ m.k → n.begun ≡ m.begun → n.stopped ≡ m.stopped → n.last ≡ Some after
    → ((task : Task) (inputs : List Cue) → Continues task last inputs → Continues task after inputs) → StandsForSession n s
last-same m n s last after h is id faults parts begun stopped now goes =
    let (a, asked, l) = kept m s last h is in
    let mine : IsLast s after a = record { some = l.some; continues = goes (task_of s a) s.inputs l.continues } in
    record {
      id = id ∙ h.id;
      faults = faults ∙ h.faults;
      parts = parts ∙ h.parts;
      begun = begun ∙ h.begun;
      stopped = stopped ∙ h.stopped;
      last = subst (λ (o : Option Last). HasLast s o s.action) (sym now) (subst (λ (o : Option Action). HasLast s (Some after) o) (sym asked) mine);
    }

-- ---- a crash

stopped-last : (s : Session) (last : Option Last) (action : Option Action) → HasLast s last action → HasLast (session_stopped s) last action
unfolding session_stopped
stopped-last s None None h = h
stopped-last s (Some last) (Some action) h = record { some = h.some; continues = h.continues }
stopped-last s None (Some action) h = absurd h
stopped-last s (Some last) None h = absurd h

pub stop-stands : (m n : Client) (s : Session) → StandsForSession m s → n.cid ≡ m.cid → n.f ≡ m.f → n.k ≡ m.k → n.begun ≡ m.begun → n.last ≡ m.last → n.stopped ≡ true → StandsForSession n (session_stopped s)
unfolding session_stopped
stop-stands m n s h id faults parts begun last stopped = record {
  id = id ∙ h.id;
  faults = faults ∙ h.faults;
  parts = parts ∙ h.parts;
  begun = begun ∙ h.begun;
  stopped = stopped;
  last = subst (λ (o : Option Last). HasLast (session_stopped s) o s.action) (sym last) (stopped-last s m.last s.action h.last);
}

-- ---- whether the last operation has no reply

pub running-some : (m : Client) (s : Session) (last : Last) → StandsForSession m s → m.last ≡ Some last → is_running s ≡ not last.replied
unfolding is_running
running-some m s last h is =
    let (a, asked, l) = kept m s last h is in
    let begun : (s.begun == 0) ≡ false = ne_eqb s.begun 0 (λ none. (let some = l.some in omega (arith, none, some))) in
    let told : is_some (replied s.f s.k s.client s.begun a s.inputs) ≡ last.replied = sym l.continues.replied in
    rw (begun, asked, told) refl

pub running-none : (m : Client) (s : Session) → StandsForSession m s → m.last ≡ None → is_running s ≡ false
unfolding is_running
running-none m s h is = let none = (nothing-kept m s h is).1 in rw none refl

pub none-running : (s : Session) → is_running s ≡ false → running_of s ≡ None
unfolding session_progress
none-running s idle = rw idle refl

far-of : (s : Session) (a : Action) → is_running s ≡ true → s.action ≡ Some a → session_progress s ≡ Some (progress_of s.f s.k s.client s.begun a s.inputs)
unfolding session_progress
far-of s a runs asked = rw (runs, asked) refl

abbrev running : ℕ → Phase → ℕ → ℕ → Running
running op phase have need = record { op = op; phase = phase; have = have; need = need }

same-running : {a b h i n o : ℕ} {p q : Phase} → a ≡ b → p ≡ q → h ≡ i → n ≡ o → running a p h n ≡ running b q i o
same-running ops phases haves needs = rw (ops, phases, haves, needs) refl

pub running-told : (m : Client) (s : Session) (last : Last) (progress : told.Progress) → StandsForSession m s → m.last ≡ Some last → last.replied ≡ false
    → ((task : Task) (inputs : List Cue) → Runs task last.machine inputs → Tells progress (task_progress task inputs)) → Some (record { op = m.begun; phase = progress.phase; have = progress.have; need = progress.need }) ≡ running_of s
running-told m s last progress h is open_reply tells =
    let (a, asked, l) = kept m s last h is in
    let runs : is_running s ≡ true = running-some m s last h is ∙ rw open_reply refl in
    let t = tells (task_of s a) s.inputs l.continues.runs in
    let far = progress-now (task_of s a) last s.inputs l.continues open_reply in
    let phase = t.phase ∙ ap (λ (p : Progress). p.phase) far in
    let have = t.have ∙ ap (λ (p : Progress). p.have) far in
    let need = t.need ∙ ap (λ (p : Progress). p.need) far in
    let known : session_progress s ≡ Some (progress_of s.f s.k s.client s.begun a s.inputs) = far-of s a runs asked in
    ap (λ (r : Running). Some r) (same-running h.begun phase have need) ∙ sym (ap (option_map (λ (p : Progress). running s.begun p.phase p.have p.need)) known)

-- ---- an operation begins

pub invoked-stands : (m n : Client) (s : Session) (a : Action) (last : Last) → StandsForSession m s → n.cid ≡ m.cid → n.f ≡ m.f → n.k ≡ m.k → n.begun ≡ m.begun + 1 → n.stopped ≡ m.stopped → n.last ≡ Some last
    → last.key ≡ key_of a → last.replied ≡ false → Runs (record { f = m.f; k = m.k; client = m.cid; op = m.begun + 1; action = a }) last.machine [] → StandsForSession n (session_invoked s a)
unfolding session_invoked inputs_for
invoked-stands m n s a last h id faults parts begun stopped now key replied_not runs =
    let by_f = subst (λ (f : ℕ). RunsBy f m.k m.cid (m.begun + 1) a last.machine []) h.faults runs in
    let by_k = subst (λ (k : ℕ). RunsBy s.f k m.cid (m.begun + 1) a last.machine []) h.parts by_f in
    let by_client = subst (λ (client : ℕ). RunsBy s.f s.k client (m.begun + 1) a last.machine []) h.id by_k in
    let by_number = subst (λ (n : ℕ). RunsBy s.f s.k s.client (n + 1) a last.machine []) h.begun by_client in
    let mine : IsLast (session_invoked s a) last a = record {
      some = omega arith;
      continues = record { key = key; own = refl; replied = replied_not ∙ sym (unreplied s.f s.k s.client (s.begun + 1) a); runs = by_number };
    } in
    record {
      id = id ∙ h.id;
      faults = faults ∙ h.faults;
      parts = parts ∙ h.parts;
      begun = begun ∙ ap (λ (n : ℕ). n + 1) h.begun;
      stopped = stopped ∙ h.stopped;
      last = subst (λ (o : Option Last). HasLast (session_invoked s a) o (Some a)) (sym now) mine;
    }

pub invoked-sends : (m : Client) (s : Session) (a : Action) → StandsForSession m s → sends_of m.f m.k m.cid (m.begun + 1) a [] ≡ invoked_sends s a
unfolding invoked_sends
invoked-sends m s a h =
    ap (λ (f : ℕ). sends_of f m.k m.cid (m.begun + 1) a []) h.faults ∙ ap (λ (k : ℕ). sends_of s.f k m.cid (m.begun + 1) a []) h.parts
    ∙ ap (λ (client : ℕ). sends_of s.f s.k client (m.begun + 1) a []) h.id ∙ ap (λ (n : ℕ). sends_of s.f s.k s.client (n + 1) a []) h.begun

-- ---- refusals

pub refuses-stopped : (m : Client) (s : Session) (a : Action) → StandsForSession m s → m.stopped ≡ true → Some faults.Stopped ≡ invoke_refusal s a
refuses-stopped m s a h stopped = let is : s.stopped ≡ true = sym h.stopped ∙ stopped in rw is refl

pub refuses-busy : (m : Client) (s : Session) (a : Action) → StandsForSession m s → m.stopped ≡ false → is_running s ≡ true → Some (faults.Busy m.begun) ≡ invoke_refusal s a
unfolding is_running
refuses-busy m s a h live busy = let is : s.stopped ≡ false = sym h.stopped ∙ live in ap (λ (n : ℕ). Some (faults.Busy n)) h.begun ∙ rw (is, busy) refl

pub refuses-key : (m : Client) (s : Session) (a : Action) → StandsForSession m s → m.stopped ≡ false → is_running s ≡ false → suits a ≡ false
    → Some faults.WrongKey ≡ invoke_refusal s a
unfolding is_running
refuses-key m s a h live idle wrong = let is : s.stopped ≡ false = sym h.stopped ∙ live in rw (is, idle, wrong) refl

pub refuses-size : (m : Client) (s : Session) (a : Action) → StandsForSession m s → m.stopped ≡ false → is_running s ≡ false → suits a ≡ true
    → size_refusal a ≡ invoke_refusal s a
unfolding is_running
refuses-size m s a h live idle fits = let is : s.stopped ≡ false = sym h.stopped ∙ live in rw (is, idle, fits) refl

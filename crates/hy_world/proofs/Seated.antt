-- What clients do to their sessions, and what is known of them beside.
use Rattle.std.proofs.Common.{◌≡◌, ℕ, ◌+◌, ◌≤◌, Bool, true, false, ◌&&◌, ◌||◌, ◌==◌, not, List, ◌∷◌, length, Option, Some, None, Result, Ok, Err, is_some, cond, refl, sym, ap, ◌∙◌, inl, inr, arith}
use Rattle.std.specs.Prelude.{IfSome}
use Rattle.std.specs.Option.{option_map}
use Rattle.std.proofs.lemmas.Bool.{cases_Bool, false≢true, ne_eqb, le-ltb}
use Rattle.hy_base.specs.declared.limits.TheConstants.{MAX_VALUE}
use Rattle.hy_record.specs.declared.action.Action.{Action}
use Rattle.hy_record.specs.declared.action.Action.TheVariants as asked
use Rattle.hy_record.specs.declared.turn.Cue.{Cue}
use Rattle.hy_protocol.specs.Inputs.{addresses}
use Rattle.hy_protocol.specs.Operations.{key_of, suits, replied}
use Rattle.hy_protocol.specs.Progress.{Progress}
use Rattle.hy_protocol.specs.Session.{Session, takes, takes_by, session_after, session_invoked, session_stopped, is_idle, is_running, reply_by, session_progress, progress_by}
use Rattle.hy_client.specs.declared.client.Client.{Client}
use Rattle.hy_client.specs.declared.fault.InvokeFault.{InvokeFault}
use Rattle.hy_client.specs.declared.fault.InvokeFault.TheVariants as faults
use Rattle.hy_client.specs.declared.client.Running.{Running}
use Rattle.hy_world.specs.declared.seat.Seat.{Seat}
use Rattle.hy_client.specs.Sizes.{size_refusal}
use Rattle.hy_client.specs.Clients.{StandsForSession, invoke_refusal, running_of}
use Rattle.hy_world.specs.Seats.{StandsForSeat, value_size, is_no_memory}

none-some : {A : Type 0} (x : A) → ◌≡◌ {A = Option A} None (Some x) → ⊥
none-some x is = cc

first-true : (a b : Bool) → (a && b) ≡ true → a ≡ true
first-true true b is = refl
first-true false b is = is

middle-false : (a b d : Bool) → b ≡ false → (a && b && d) ≡ false
middle-false true b d is = rw is refl
middle-false false b d is = refl

neither-not : (a b : Bool) → (not a && not b) ≡ false → true ≡ (a || b)
neither-not true b is = refl
neither-not false true is = refl
neither-not false false is = is

neither : (a b : Bool) → (not a && not b) ≡ true → false ≡ (a || b)
neither true b is = is
neither false true is = is
neither false false is = refl

-- ---- inputs

module _ (s : Session) (cue : Cue) where
  after-client : (session_after s cue).client ≡ s.client
  unfolding session_after
  after-client = either (takes s cue)
    where
      either : (b : Bool) → (cond b (record s { inputs = cue ∷ s.inputs }) s).client ≡ s.client
      either true = refl
      either false = refl

  after-begun : (session_after s cue).begun ≡ s.begun
  unfolding session_after
  after-begun = either (takes s cue)
    where
      either : (b : Bool) → (cond b (record s { inputs = cue ∷ s.inputs }) s).begun ≡ s.begun
      either true = refl
      either false = refl

  after-action : (session_after s cue).action ≡ s.action
  unfolding session_after
  after-action = either (takes s cue)
    where
      either : (b : Bool) → (cond b (record s { inputs = cue ∷ s.inputs }) s).action ≡ s.action
      either true = refl
      either false = refl

  after-stopped : (session_after s cue).stopped ≡ s.stopped
  unfolding session_after
  after-stopped = either (takes s cue)
    where
      either : (b : Bool) → (cond b (record s { inputs = cue ∷ s.inputs }) s).stopped ≡ s.stopped
      either true = refl
      either false = refl

pub sits-after : (seat : Seat) (client : Client) (s : Session) (cue : Cue) → StandsForSeat seat s → StandsForSession client (session_after s cue) → StandsForSeat (record seat { client = client }) (session_after s cue)
sits-after seat client s cue is stands =
    record {
      client = stands;
      number = after-client s cue ∙ is.number;
      stopped = after-stopped s cue ∙ is.stopped;
      key = ap (option_map key_of) (after-action s cue) ∙ is.key;
      asked = ap (λ (a : Option Action). is_some a) (after-action s cue) ∙ is.asked ∙ ap (λ (n : ℕ). not (n == 0)) (sym (after-begun s cue));
    }

pub sits-stopped : (seat : Seat) (client : Client) (s : Session) → StandsForSeat seat s → StandsForSession client (session_stopped s) → StandsForSeat (record seat { client = client; is_stopped = true }) (session_stopped s)
unfolding session_stopped
sits-stopped seat client s is stands = record { client = stands; number = is.number; stopped = refl; key = is.key; asked = is.asked }

-- ---- the running operation

begun-some : (s : Session) → is_running s ≡ true → not (s.begun == 0) ≡ true
unfolding is_running
begun-some s runs = first-true (not (s.begun == 0)) (not (is_some (reply_by s s.inputs s.action))) runs

-- a client tells of a running operation exactly where it has one
pub running-is : (s : Session) → is_some s.action ≡ not (s.begun == 0) → is_some (running_of s) ≡ is_running s
unfolding session_progress
running-is s asked_ =
    elim (cases_Bool (is_running s)) [
      | inr idle ↦ rw idle refl
      | inl runs ↦ rw runs (told s.action (asked_ ∙ begun-some s runs))
    ]
  where
    told : (a : Option Action) → is_some a ≡ true → is_some {T = Running} (option_map (λ (progress : Progress). record { op = s.begun; phase = progress.phase; have = progress.have; need = progress.need }) (progress_by s a)) ≡ true
    told None is = absurd (false≢true is)
    told (Some a) is = refl

pub takes-stopped : (s : Session) (cue : Cue) → s.stopped ≡ true → false ≡ takes s cue
unfolding takes
takes-stopped s cue is = by-action s.action
  where
    by-action : (a : Option Action) → false ≡ takes_by s cue a
    by-action None = refl
    by-action (Some a) = rw is refl

-- a running operation that was asked has no reply
unreplied : (s : Session) (a : Action) → s.action ≡ Some a → is_running s ≡ true → is_some (replied s.f s.k s.client s.begun a s.inputs) ≡ false
unfolding is_running
unreplied s a is runs = last-true (not (s.begun == 0)) (is_some (replied s.f s.k s.client s.begun a s.inputs)) (ap (λ (x : Option Action). not (s.begun == 0) && not (is_some (reply_by s s.inputs x))) (sym is) ∙ runs)
  where
    last-true : (x y : Bool) → (x && not y) ≡ true → y ≡ false
    last-true true true e = sym e
    last-true true false e = refl
    last-true false y e = absurd (false≢true e)

pub takes-idle : (s : Session) (cue : Cue) → is_some s.action ≡ not (s.begun == 0) → is_running s ≡ false → false ≡ takes s cue
unfolding takes is_running
takes-idle s cue asked_ idle = by-action s.action refl
  where
    replied-one : (a : Action) → s.action ≡ Some a → not (is_some (replied s.f s.k s.client s.begun a s.inputs)) ≡ false
    replied-one a is =
        let begun_ : not (s.begun == 0) ≡ true = sym asked_ ∙ ap (λ (x : Option Action). is_some x) is in
        ap (λ (b : Bool). b && not (is_some (replied s.f s.k s.client s.begun a s.inputs))) (sym begun_) ∙ (ap (λ (x : Option Action). not (s.begun == 0) && not (is_some (reply_by s s.inputs x))) (sym is) ∙ idle)

    by-action : (a : Option Action) → s.action ≡ a → false ≡ takes_by s cue a
    by-action None is = refl
    by-action (Some a) is = sym (middle-false (not s.stopped) (not (is_some (replied s.f s.k s.client s.begun a s.inputs))) (addresses s.client s.begun (key_of a) cue) (replied-one a is))

key-some : (a : Option Action) (key : List ℕ) → option_map key_of a ≡ Some key → (x : Action) × (a ≡ Some x) × (key_of x ≡ key)
key-some None key is = absurd (none-some key is)
key-some (Some x) key is = (x, refl, same (key_of x) key is)
  where
    same : (y z : List ℕ) → ◌≡◌ {A = Option (List ℕ)} (Some y) (Some z) → y ≡ z
    same y z e = cc

pub takes-own : (s : Session) (cue : Cue) (number begun : ℕ) (key : List ℕ) → s.client ≡ number → s.stopped ≡ false → is_running s ≡ true → option_map key_of s.action ≡ Some key → begun ≡ s.begun → addresses number begun key cue ≡ takes s cue
unfolding takes
takes-own s cue number begun key number_is up runs key_is begun_is =
    let a = key-some s.action key key_is in
    ap (λ (n : ℕ). addresses n begun key cue) (sym number_is) ∙ ap (λ (n : ℕ). addresses s.client n key cue) begun_is ∙ ap (λ (k : List ℕ). addresses s.client s.begun k cue) (sym a.2)
    ∙ sym (ap (takes_by s cue) a.1 ∙ rw (up, unreplied s a.0 a.1 runs) refl)

pub takes-unasked : (s : Session) (cue : Cue) → option_map key_of s.action ≡ None → false ≡ takes s cue
unfolding takes
takes-unasked s cue is = by-action s.action is
  where
    by-action : (a : Option Action) → option_map key_of a ≡ None → false ≡ takes_by s cue a
    by-action None none = refl
    by-action (Some a) none = absurd (none-some (key_of a) (sym none))

-- ---- invocations

small-value : (a : Action) → value_size a ≤ MAX_VALUE → size_refusal a ≡ None
small-value (asked.Put key value) small = rw (le-ltb MAX_VALUE (length value) small) refl
small-value (asked.Get key) small = refl
small-value (asked.Delete key) small = refl
small-value (asked.Collect key) small = refl
small-value (asked.Swap key expected value) small = rw (le-ltb MAX_VALUE (length value) small) refl

all-true : {b : Bool} → b ≡ true → (b && true) ≡ true
all-true is = ap (λ (x : Bool). x && true) is

none-true : (b : Bool) → (b && false) ≡ false
none-true true = refl
none-true false = refl

-- a client that refuses nothing is idle, and one that refuses a value that is not too large is not
pub unrefused-idle : (s : Session) (a : Action) → invoke_refusal s a ≡ None → true ≡ (is_idle s && suits a)
unfolding is_idle is_running
unrefused-idle s a is = by-tests s.stopped (is_running s) (suits a) refl refl refl is
  where
    by-tests : (x y z : Bool) → s.stopped ≡ x → is_running s ≡ y → suits a ≡ z → cond x (Some faults.Stopped) (cond y (Some (faults.Busy s.begun)) (cond (not z) (Some faults.WrongKey) (size_refusal a))) ≡ None
        → true ≡ ((not s.stopped && ((s.begun == 0) || is_some (reply_by s s.inputs s.action))) && suits a)
    by-tests true y z stopped_ runs fits e = absurd (none-some faults.Stopped (sym e))
    by-tests false true z stopped_ runs fits e = absurd (none-some (faults.Busy s.begun) (sym e))
    by-tests false false false stopped_ runs fits e = absurd (none-some faults.WrongKey (sym e))
    by-tests false false true stopped_ runs fits e = rw (stopped_, fits) (sym (all-true (sym (neither-not (s.begun == 0) (is_some (reply_by s s.inputs s.action)) runs))))

refused-idle : (s : Session) (a : Action) (fault : InvokeFault) → value_size a ≤ MAX_VALUE → invoke_refusal s a ≡ Some fault → false ≡ (is_idle s && suits a)
unfolding is_idle is_running
refused-idle s a fault small is = by-tests s.stopped (is_running s) (suits a) refl refl refl is
  where
    by-tests : (x y z : Bool) → s.stopped ≡ x → is_running s ≡ y → suits a ≡ z → cond x (Some faults.Stopped) (cond y (Some (faults.Busy s.begun)) (cond (not z) (Some faults.WrongKey) (size_refusal a))) ≡ Some fault
        → false ≡ ((not s.stopped && ((s.begun == 0) || is_some (reply_by s s.inputs s.action))) && suits a)
    by-tests true y z stopped_ runs fits e = rw stopped_ refl
    by-tests false true z stopped_ runs fits e = rw stopped_ (ap (λ (b : Bool). b && suits a) (neither (s.begun == 0) (is_some (reply_by s s.inputs s.action)) runs))
    by-tests false false false stopped_ runs fits e = rw fits (sym (none-true (not s.stopped && ((s.begun == 0) || is_some (reply_by s s.inputs s.action)))))
    by-tests false false true stopped_ runs fits e = absurd (none-some fault (sym (small-value a small) ∙ e))

pub begun-idle : {T : Type 0} (s : Session) (a : Action) (outs : T) → IfSome (invoke_refusal s a) (λ fault. ◌≡◌ {A = Result T InvokeFault} (Ok outs) (Err fault)) → true ≡ (is_idle s && suits a)
begun-idle {T} s a outs is = by-refusal (invoke_refusal s a) refl is
  where
    by-refusal : (o : Option InvokeFault) → invoke_refusal s a ≡ o → IfSome o (λ fault. ◌≡◌ {A = Result T InvokeFault} (Ok outs) (Err fault)) → true ≡ (is_idle s && suits a)
    by-refusal None e none = unrefused-idle s a e
    by-refusal (Some fault) e both = cc

pub busy-idle : (s : Session) (a : Action) (fault : InvokeFault) → value_size a ≤ MAX_VALUE → is_no_memory fault ≡ false → (invoke_refusal s a ≡ None → fault ≡ faults.NoMemory) → false ≡ (is_idle s && suits a)
busy-idle s a fault small memory accepted = by-refusal (invoke_refusal s a) refl
  where
    by-refusal : (o : Option InvokeFault) → invoke_refusal s a ≡ o → false ≡ (is_idle s && suits a)
    by-refusal None e = absurd (false≢true (sym memory ∙ ap is_no_memory (accepted e)))
    by-refusal (Some x) e = refused-idle s a x small e

pub sits-invoked : (seat : Seat) (client : Client) (s : Session) (a : Action) (key : List ℕ) → key ≡ key_of a → StandsForSeat seat s → StandsForSession client (session_invoked s a) → StandsForSeat (record seat { client = client; key = Some key }) (session_invoked s a)
unfolding session_invoked
sits-invoked seat client s a key key_is is stands =
    record {
      client = stands;
      number = is.number;
      stopped = is.stopped;
      key = ap (λ (k : List ℕ). Some k) (sym key_is);
      asked = ap not (sym (ne_eqb (s.begun + 1) 0 (omega arith)));
    }

pub sits-same : (seat : Seat) (client : Client) (s : Session) → StandsForSeat seat s → StandsForSession client s → StandsForSeat (record seat { client = client }) s
sits-same seat client s is stands = record { client = stands; number = is.number; stopped = is.stopped; key = is.key; asked = is.asked }

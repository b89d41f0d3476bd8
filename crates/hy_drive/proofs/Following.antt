-- Lemmas on what a client over a net does next.
use Rattle.std.proofs.Common.{◌≡◌, ℕ, Bool, true, false, nat_lt, List, [], ◌∷◌, length, Option, Some, None, is_some, Result, Ok, Err, refl, sym, ap, subst, ◌∙◌}
use Rattle.std.specs.Prelude.{All, IfSome, IfErr, IsOkUnless, if◌then◌else◌}
use Rattle.hy_base.specs.declared.limits.TheConstants.{MAX_VALUE}
use Rattle.hy_base.specs.Shape.{IsShape}
use Rattle.hy_record.specs.declared.action.Action.{Action}
use Rattle.hy_record.specs.declared.action.Action.TheVariants as asked
use Rattle.hy_record.specs.declared.action.Reply.{Reply}
use Rattle.hy_record.specs.declared.turn.Cue.{Cue}
use Rattle.hy_record.specs.declared.turn.Out.{Out}
use Rattle.hy_record.specs.declared.turn.Turn.{Turn}
use Rattle.hy_protocol.specs.Session.{Session, fresh_session, is_running, session_after, session_turn, turn_sends, turn_reply, session_invoked, invoked_sends, takes}
use Rattle.hy_client.specs.declared.client.Client.{Client}
use Rattle.hy_client.specs.declared.fault.InvokeFault.{InvokeFault}
use Rattle.hy_client.specs.declared.fault.InvokeFault.TheVariants as invoking
use Rattle.hy_client.specs.Clients.{StandsForSession, invoke_refusal}
use Rattle.hy_client.specs.Sizes.{size_refusal, is_swap}
use Rattle.hy_protocol.specs.Operations.{suits}
use Rattle.hy_drive.specs.declared.cloud_lines.CloudLines.{CloudLines}
use Rattle.hy_drive.specs.declared.driver.Driver.{Driver}
use Rattle.hy_drive.specs.declared.driver.Next.TheVariants.{Again}
use Rattle.hy_drive.specs.declared.job.Job.{Job}
use Rattle.hy_drive.specs.declared.service_line.ServiceLine.{ServiceLine}
use Rattle.hy_drive.specs.State.{DriveState, Service, Waiting, replied, IsFree}
use Rattle.hy_drive.specs.Going.{DriveGoes, hands, too_large, turned_by, handed, invoked_by}
use Rattle.hy_drive.specs.Role.{Suits}
use Rattle.hy_drive.specs.Held.{HoldsService, HoldsLine, line_at}
use Rattle.hy_drive.specs.Standing.{StandsFor, HoldsClient, Runs, IsSendableOut}
use Rattle.hy_drive.specs.Stepping.{Steps, RepliesWith, Begins, BeginsTo, IsOfNewClient}
use Rattle.hy_drive.proofs.Sendable.{invoked-sendable, turn-sendable}
use Rattle.hy_drive.proofs.Suiting.{turn-suits}
use Rattle.hy_drive.proofs.Taking.{no-client}

-- ---- the connections stay

pub record SameLines (old new : Driver) : Type 0 where
  pub service : new.service ≡ old.service
  pub lines : new.lines ≡ old.lines

pub service-stands : (old new : Driver) (service : Service) → SameLines old new → HoldsService old.service service → HoldsService new.service service
service-stands old new service same holds = subst (λ (held : Option ServiceLine). HoldsService held service) (sym same.service) holds

pub lines-stay : (old new : Driver) (lines : ℕ → Option Waiting) → SameLines old new → ((c : ℕ) → HoldsLine (line_at old.lines c) (lines c)) → (c : ℕ) → HoldsLine (line_at new.lines c) (lines c)
lines-stay old new lines same holds c = subst (λ (l : CloudLines). HoldsLine (line_at l c) (lines c)) (sym same.lines) (holds c)

-- ---- the client begins

fits-by : (size : ℕ) (test : Bool) → (if test then Some (invoking.TooLarge size) else None) ≡ None → (if test then Some size else None) ≡ None
fits-by size true none = absurd (let e : ◌≡◌ {A = Option InvokeFault} (Some (invoking.TooLarge size)) None = none in cc)
fits-by size false none = refl

pub fits : (action : Action) → size_refusal action ≡ None → too_large action ≡ None
fits (asked.Put key value) none = fits-by (length value) (nat_lt MAX_VALUE (length value)) none
fits (asked.Get key) none = refl
fits (asked.Delete key) none = refl
fits (asked.Collect key) none = refl
fits (asked.Swap key expected value) none = fits-by (length value) (nat_lt MAX_VALUE (length value)) none

pub fresh-refusal : (f k number : ℕ) (action : Action) → suits action ≡ true → invoke_refusal (fresh_session f k number) action ≡ size_refusal action
unfolding is_running
fresh-refusal f k number action fitting = rw fitting refl

pub accepted : {A : Type 0} (result : Result A InvokeFault) (refusal : Option InvokeFault) → IfSome refusal (λ wrong. result ≡ Err wrong) → (x : A) → result ≡ Ok x → refusal ≡ None
accepted result None why x is = refl
accepted {A = A} result (Some wrong) why x is = absurd (let e : ◌≡◌ {A = Result A InvokeFault} (Ok x) (Err wrong) = sym is ∙ why in cc)

-- a client that is new refuses an action whose key is of its kind only where its value is too large
large-new : (size : ℕ) (test : Bool) → IfSome (if test then Some (invoking.TooLarge size) else None) IsOfNewClient
large-new size true = tt
large-new size false = tt

pub size-new : (action : Action) → IfSome (size_refusal action) IsOfNewClient
size-new (asked.Put key value) = large-new (length value) (nat_lt MAX_VALUE (length value))
size-new (asked.Get key) = tt
size-new (asked.Delete key) = tt
size-new (asked.Collect key) = tt
size-new (asked.Swap key expected value) = large-new (length value) (nat_lt MAX_VALUE (length value))

pub refused-new : {A : Type 0} (result : Result A InvokeFault) (fault : InvokeFault) (refusal : Option InvokeFault) → IfSome refusal IsOfNewClient
    → IfSome refusal (λ wrong. result ≡ Err wrong) → (refusal ≡ None → IsOkUnless result invoking.NoMemory) → result ≡ Err fault → IsOfNewClient fault
refused-new result fault None known refused starved is =
    subst IsOfNewClient (sym (subst (λ (r : Result _ InvokeFault). IfErr r (λ x. x ≡ invoking.NoMemory)) is (starved refl))) tt
refused-new {A = A} result fault (Some wrong) known refused starved is =
    subst IsOfNewClient (let e : ◌≡◌ {A = Result A InvokeFault} (Err wrong) (Err fault) = sym refused ∙ is in let same : wrong ≡ fault = cc in same) known

runs-new : (job : Job) (number : ℕ) (client : Client) → too_large job.action ≡ None → is_swap job.action ≡ false → StandsForSession client (session_invoked (fresh_session job.f job.k number) job.action)
    → Runs job client (session_invoked (fresh_session job.f job.k number) job.action)
unfolding session_invoked
runs-new job number client fit none stands = record { stands = stands; faults = refl; parts = refl; action = refl; fits = fit; no_swap = none }

pub begins-new : (job : Job) (old new : Driver) (number : ℕ) (client : Client) → IsShape job.f job.k → SameLines old new → new.inputs ≡ old.inputs → new.client ≡ Some client → too_large job.action ≡ None → is_swap job.action ≡ false
    → StandsForSession client (session_invoked (fresh_session job.f job.k number) job.action) → new.sends.items ≡ invoked_sends (fresh_session job.f job.k number) job.action
    → Begins job old new number (Ok Again)
begins-new job old new number client shape same inputs is fit unswapped session sends state none sent goes stands =
    subst (λ (large : Option ℕ). BeginsTo job (invoked_by job state (fresh_session job.f job.k number) large) new (Ok Again)) (sym fit) (
      record {
        service = service-stands old new state.service same stands.service;
        lines = lines-stay old new state.lines same stands.lines;
        client = subst (λ (held : Option Client). HoldsClient job held (Some (session_invoked (fresh_session job.f job.k number) job.action))) (sym is) (runs-new job number client fit unswapped session);
        sends = sym sends;
        inputs = stands.inputs ∙ sym (ap (λ q. q.items) inputs);
        sendable = subst (λ (outs : List Out). All IsSendableOut outs) (sym sends) (invoked-sendable (fresh_session job.f job.k number) job.action shape fit unswapped);
      },
      goes,
    )

-- ---- an input is handed in

-- the client after an input runs the same action
same-shape : (s : Session) (input : Cue) (test : Bool) → takes s input ≡ test → (job : Job) (client : Client) → Runs job client s → (after : Client) → StandsForSession after (session_after s input) → Runs job after (session_after s input)
unfolding session_after
same-shape s input true is job client runs after stands = record {
  stands = stands;
  faults = ap (λ (b : Bool). (if b then record s { inputs = input ∷ s.inputs } else s).f) is ∙ runs.faults;
  parts = ap (λ (b : Bool). (if b then record s { inputs = input ∷ s.inputs } else s).k) is ∙ runs.parts;
  action = ap (λ (b : Bool). (if b then record s { inputs = input ∷ s.inputs } else s).action) is ∙ runs.action;
  fits = runs.fits;
  no_swap = runs.no_swap;
}
same-shape s input false is job client runs after stands = record {
  stands = stands;
  faults = ap (λ (b : Bool). (if b then record s { inputs = input ∷ s.inputs } else s).f) is ∙ runs.faults;
  parts = ap (λ (b : Bool). (if b then record s { inputs = input ∷ s.inputs } else s).k) is ∙ runs.parts;
  action = ap (λ (b : Bool). (if b then record s { inputs = input ∷ s.inputs } else s).action) is ∙ runs.action;
  fits = runs.fits;
  no_swap = runs.no_swap;
}

sends-of : (s : Session) (input : Cue) → (session_turn s input).sends ≡ turn_sends s input
unfolding session_turn
sends-of s input = refl

reply-of : (s : Session) (input : Cue) → (session_turn s input).reply ≡ turn_reply s input
unfolding session_turn
reply-of s input = refl

abbrev pub handed-state : DriveState → Session → Cue → List Cue → DriveState
handed-state state s input later = record state { client = Some (session_after s input); inputs = later }

-- the state behind a turn with a reply
handed-reply : (state : DriveState) (s : Session) (input : Cue) (later : List Cue) (reply : Reply) → state.client ≡ Some s → (session_turn s input).reply ≡ Some reply
    → (handed state state.client input later).outcome ≡ replied reply
handed-reply state s input later reply is replies =
    ap (λ (c : Option Session). (handed state c input later).outcome) is
    ∙ ap (λ (r : Option Reply). (turned_by (handed-state state s input later) (session_turn s input).sends r).outcome) replies

-- and without one
handed-sends : (state : DriveState) (s : Session) (input : Cue) (later : List Cue) → state.client ≡ Some s → (session_turn s input).reply ≡ None
    → handed state state.client input later ≡ record (handed-state state s input later) { sends = (session_turn s input).sends }
handed-sends state s input later is replies =
    ap (λ (c : Option Session). handed state c input later) is
    ∙ ap (λ (r : Option Reply). turned_by (handed-state state s input later) (session_turn s input).sends r) replies

replies-by : (job : Job) (client : Client) (input : Cue) (reply : Reply) (turn : Turn) (state : DriveState) (later : List Cue) (session : Option Session)
    → ((s : Session) → StandsForSession client s → turn ≡ session_turn s input) → turn.reply ≡ Some reply → state.client ≡ session → HoldsClient job (Some client) session
    → IsFree state → state.sends ≡ [] → state.inputs ≡ input ∷ later → RepliesWith job state reply
replies-by job client input reply turn state later None turns replies is holds free sent inputs = absurd holds
replies-by job client input reply turn state later (Some s) turns replies is holds free sent inputs =
    let now : (session_turn s input).reply ≡ Some reply = ap (λ (t : Turn). t.reply) (sym (turns s holds.stands)) ∙ replies in record {
      after = handed state state.client input later;
      goes = hands state input later free sent inputs;
      replies = handed-reply state s input later reply is now;
      suits = subst (λ (r : Option Reply). IfSome r (Suits job.action)) (sym (reply-of s input) ∙ now) (turn-suits s input job.action holds.action holds.no_swap);
    }

pub hands-reply : (job : Job) (old : Driver) (client : Client) (input : Cue) (reply : Reply) (turn : Turn) → old.client ≡ Some client
    → ((s : Session) → StandsForSession client s → turn ≡ session_turn s input) → turn.reply ≡ Some reply
    → (state : DriveState) (later : List Cue) → IsFree state → state.sends ≡ [] → state.inputs ≡ input ∷ later → StandsFor job old (record state { inputs = later }) → RepliesWith job state reply
hands-reply job old client input reply turn is turns replies state later free sent inputs stands =
    replies-by job client input reply turn state later state.client turns replies refl (subst (λ (held : Option Client). HoldsClient job held state.client) is stands.client) free sent inputs

sends-by : (job : Job) (old new : Driver) (client after : Client) (input : Cue) (turn : Turn) (state : DriveState) (later : List Cue) (session : Option Session)
    → IsShape job.f job.k → ((s : Session) → StandsForSession client s → turn ≡ session_turn s input) → ((s : Session) → StandsForSession client s → StandsForSession after (session_after s input))
    → turn.reply ≡ None → SameLines old new → new.inputs ≡ old.inputs → new.client ≡ Some after → new.sends.items ≡ turn.sends
    → state.client ≡ session → HoldsClient job (Some client) session → IsFree state → state.sends ≡ [] → state.inputs ≡ input ∷ later → StandsFor job old (record state { inputs = later }) → Steps job state new
sends-by job old new client after input turn state later None shape turns goes-on replies same queue now sends is holds free sent inputs stands = absurd holds
sends-by job old new client after input turn state later (Some s) shape turns goes-on replies same queue now sends is holds free sent inputs stands =
    let none : (session_turn s input).reply ≡ None = ap (λ (t : Turn). t.reply) (sym (turns s holds.stands)) ∙ replies in
    let outs : new.sends.items ≡ (session_turn s input).sends = sends ∙ ap (λ (t : Turn). t.sends) (turns s holds.stands) in record {
      after = record (handed-state state s input later) { sends = (session_turn s input).sends };
      goes = subst (λ (a : DriveState). DriveGoes job state a) (handed-sends state s input later is none) (hands state input later free sent inputs);
      free = record { clear = free.clear; goes = free.goes };
      stands = record {
        service = service-stands old new state.service same stands.service;
        lines = lines-stay old new state.lines same stands.lines;
        client = subst (λ (held : Option Client). HoldsClient job held (Some (session_after s input))) (sym now)
            (same-shape s input (takes s input) refl job client holds after (goes-on s holds.stands));
        sends = sym outs;
        inputs = stands.inputs ∙ sym (ap (λ q. q.items) queue);
        sendable = subst (λ (l : List Out). All IsSendableOut l) (sym (outs ∙ sends-of s input))
            (turn-sendable s input job.action (subst (λ (f : ℕ). IsShape f s.k) (sym holds.faults) (subst (λ (k : ℕ). IsShape job.f k) (sym holds.parts) shape)) holds.action holds.fits holds.no_swap);
      };
      left = refl;
    }

pub hands-sends : (job : Job) (old new : Driver) (client after : Client) (input : Cue) (turn : Turn) → IsShape job.f job.k → old.client ≡ Some client
    → ((s : Session) → StandsForSession client s → turn ≡ session_turn s input) → ((s : Session) → StandsForSession client s → StandsForSession after (session_after s input))
    → turn.reply ≡ None → SameLines old new → new.inputs ≡ old.inputs → new.client ≡ Some after → new.sends.items ≡ turn.sends
    → (state : DriveState) (later : List Cue) → IsFree state → state.sends ≡ [] → state.inputs ≡ input ∷ later → StandsFor job old (record state { inputs = later }) → Steps job state new
hands-sends job old new client after input turn shape is turns goes-on replies same queue now sends state later free sent inputs stands =
    sends-by job old new client after input turn state later state.client shape turns goes-on replies same queue now sends refl
    (subst (λ (held : Option Client). HoldsClient job held state.client) is stands.client) free sent inputs stands

-- where there is no client
pub hands-nobody : (job : Job) (old : Driver) (input : Cue) → is_some old.client ≡ false
    → (state : DriveState) (later : List Cue) → IsFree state → state.sends ≡ [] → state.inputs ≡ input ∷ later → StandsFor job old (record state { inputs = later }) → Steps job state old
hands-nobody job old input none state later free sent inputs stands = record {
  after = record state { inputs = later };
  goes = subst (λ (a : DriveState). DriveGoes job state a) (ap (λ (c : Option Session). handed state c input later) (no-client job old.client state.client stands.client none))
      (hands state input later free sent inputs);
  free = record { clear = free.clear; goes = free.goes };
  stands = stands;
  left = refl;
}

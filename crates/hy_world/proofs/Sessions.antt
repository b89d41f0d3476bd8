-- What deeds do to the session of a client.
use Rattle.std.proofs.Common.{◌≡◌, ℕ, ◌+◌, Bool, true, false, ◌&&◌, ◌||◌, ◌==◌, not, nat_le, List, [], ◌∷◌, map, Option, Some, None, is_some, cond, refl, sym, ap, ◌∙◌, eq-eqb}
use Rattle.std.specs.Option.{option_or}
use Rattle.std.specs.List.{list_any}
use Rattle.hy_record.specs.declared.action.Action.{Action}
use Rattle.hy_record.specs.declared.turn.Cue.{Cue}
use Rattle.hy_record.specs.declared.cloud.CloudAsk.{CloudAsk}
use Rattle.hy_record.specs.declared.message.MetaAsk.{MetaAsk}
use Rattle.hy_protocol.specs.Session.{Session, takes, takes_by, session_after, turn_sends, turn_reply, sends_by, reply_by, session_stopped, session_invoked, is_idle}
use Rattle.hy_trace.specs.Deeds.{Params, Deed, Joined, Began, Handed, Served, Granted, Stopped, Nothing, Start, inputs_of, start_of, start_at, begun, joined, stops, is_up, reply_after, reply_of}
use Rattle.hy_trace.specs.Messages.{Message, sent_at, sent_after, message_of}
use Rattle.hy_trace.specs.Schedule.{awaited, hand, is_free}
use Rattle.hy_log.specs.declared.effects.Return.{Return}
use Rattle.hy_log.specs.Effects.{return_at, return_with, heard_at}
use Rattle.hy_world.specs.Seats.{heard_by}
use Rattle.hy_world.specs.Nodes.{session_of, action_of}

or-none : {A : Type 0} (a : Option A) → option_or a None ≡ a
or-none None = refl
or-none (Some x) = refl

-- a deed that is not the client's leaves it as it was
pub record IsForeign (c : ℕ) (d : Deed) (t : List Deed) : Type 0 where
  pub counts : begun c (d ∷ t) ≡ begun c t
  pub starts : start_at c (begun c t) d t ≡ None
  pub hears : inputs_of c (begun c t) (d ∷ t) ≡ inputs_of c (begun c t) t
  pub lasts : stops c d ≡ false

session-parts : (p : Params) (c b n : ℕ) (a e : Option Action) (i j : List Cue) (x y : Bool) → b ≡ n → a ≡ e → i ≡ j → x ≡ y →
    ◌≡◌ {A = Session} (record { f = p.f; k = p.k; client = c; begun = b; action = a; inputs = i; stopped = x }) (record { f = p.f; k = p.k; client = c; begun = n; action = e; inputs = j; stopped = y })
session-parts p c b n a e i j x y bs as_ is xs = cc

start-keeps : (c o : ℕ) (d : Deed) (t : List Deed) → start_at c o d t ≡ None → start_of c o (d ∷ t) ≡ start_of c o t
unfolding start_of
start-keeps c o d t none = ap (λ (x : Option Start). option_or (start_of c o t) x) none ∙ or-none (start_of c o t)

pub foreign-same : (p : Params) (c : ℕ) (d : Deed) (t : List Deed) → IsForeign c d t → session_of p c (d ∷ t) ≡ session_of p c t
unfolding session_of
foreign-same p c d t f =
    session-parts p c (begun c (d ∷ t)) (begun c t) (action_of (start_of c (begun c (d ∷ t)) (d ∷ t))) (action_of (start_of c (begun c t) t)) (inputs_of c (begun c (d ∷ t)) (d ∷ t)) (inputs_of c (begun c t) t) (list_any (stops c) (d ∷ t)) (list_any (stops c) t)
    f.counts
    (ap (λ (b : ℕ). action_of (start_of c b (d ∷ t))) f.counts ∙ ap action_of (start-keeps c (begun c t) d t f.starts))
    (ap (λ (b : ℕ). inputs_of c b (d ∷ t)) f.counts ∙ f.hears)
    (ap (λ (x : Bool). x || list_any (stops c) t) f.lasts)

pub nothing-foreign : (c : ℕ) (t : List Deed) → IsForeign c Nothing t
unfolding begun inputs_of
nothing-foreign c t = record { counts = refl; starts = refl; hears = refl; lasts = refl }

pub joined-foreign : (c : ℕ) (t : List Deed) → IsForeign c Joined t
unfolding begun inputs_of
joined-foreign c t = record { counts = refl; starts = refl; hears = refl; lasts = refl }

pub served-foreign : (c : ℕ) (ask : MetaAsk) (t : List Deed) → IsForeign c (Served ask) t
unfolding begun inputs_of
served-foreign c ask t = record { counts = refl; starts = refl; hears = refl; lasts = refl }

pub granted-foreign : (c : ℕ) (ask : CloudAsk) (t : List Deed) → IsForeign c (Granted ask) t
unfolding begun inputs_of
granted-foreign c ask t = record { counts = refl; starts = refl; hears = refl; lasts = refl }

pub handed-foreign : (c b o w : ℕ) (cue : Cue) (t : List Deed) → (b == c) ≡ false → IsForeign c (Handed b o w cue) t
unfolding begun inputs_of
handed-foreign c b o w cue t apart = record { counts = refl; starts = refl; hears = rw apart refl; lasts = refl }

-- the client takes the input exactly where it awaits it
pub hand-takes : (p : Params) (c made : ℕ) (cue : Cue) (t : List Deed) → nat_le 1 c ≡ true → nat_le c (joined t) ≡ true → hand p c made cue t ≡ cond (takes (session_of p c t) cue) (Handed c (begun c t) made cue) Nothing
unfolding hand takes session_of is_up
hand-takes p c made cue t low high = by-start (start_of c (begun c t) t)
  where
    by-start : (start : Option Start) → awaited p c (begun c t) made cue t start ≡ cond (takes_by (session_of p c t) cue (action_of start)) (Handed c (begun c t) made cue) Nothing
    by-start None = refl
    by-start (Some s) = rw (low, high) refl

-- nobody of this number joined
pub hand-nobody : (p : Params) (c made : ℕ) (cue : Cue) (t : List Deed) → (nat_le 1 c && nat_le c (joined t)) ≡ false → hand p c made cue t ≡ Nothing
unfolding hand is_up
hand-nobody p c made cue t out = by-start (start_of c (begun c t) t)
  where
    by-start : (start : Option Start) → awaited p c (begun c t) made cue t start ≡ Nothing
    by-start None = refl
    by-start (Some s) = rw out refl

-- what the client sends and replies where it takes the input
taken-sends : (p : Params) (c made : ℕ) (cue : Cue) (t : List Deed) → sent_at p (Handed c (begun c t) made cue) t ≡ map message_of (sends_by (session_of p c t) (cue ∷ inputs_of c (begun c t) t) (action_of (start_of c (begun c t) t)))
unfolding sent_at session_of
taken-sends p c made cue t = by-start (start_of c (begun c t) t)
  where
    by-start : (start : Option Start) → sent_after p c (begun c t) (cue ∷ inputs_of c (begun c t) t) start ≡ map message_of (sends_by (session_of p c t) (cue ∷ inputs_of c (begun c t) t) (action_of start))
    by-start None = refl
    by-start (Some s) = refl

taken-reply : (p : Params) (c made : ℕ) (cue : Cue) (t : List Deed) → return_at p (Handed c (begun c t) made cue) t ≡ return_with c (begun c t) (reply_by (session_of p c t) (cue ∷ inputs_of c (begun c t) t) (action_of (start_of c (begun c t) t)))
unfolding session_of
taken-reply p c made cue t = by-start (start_of c (begun c t) t)
  where
    by-start : (start : Option Start) → return_with c (begun c t) (reply_after p c (begun c t) (cue ∷ inputs_of c (begun c t) t) start) ≡ return_with c (begun c t) (reply_by (session_of p c t) (cue ∷ inputs_of c (begun c t) t) (action_of start))
    by-start None = refl
    by-start (Some s) = refl

both-ways : {A B : Type 0} (f : A → B) (b : Bool) (x y : A) → f (cond b x y) ≡ cond b (f x) (f y)
both-ways f true x y = refl
both-ways f false x y = refl

pub hand-sends : (p : Params) (c made : ℕ) (cue : Cue) (t : List Deed) → hand p c made cue t ≡ cond (takes (session_of p c t) cue) (Handed c (begun c t) made cue) Nothing → sent_at p (hand p c made cue t) t ≡ map message_of (turn_sends (session_of p c t) cue)
unfolding turn_sends session_of sent_at
hand-sends p c made cue t is =
    ap (λ (d : Deed). sent_at p d t) is ∙ both-ways (λ (d : Deed). sent_at p d t) (takes (session_of p c t) cue) (Handed c (begun c t) made cue) Nothing
    ∙ ap (λ (x : List Message). cond (takes (session_of p c t) cue) x []) (taken-sends p c made cue t)
    ∙ sym (both-ways (map message_of) (takes (session_of p c t) cue) (sends_by (session_of p c t) (cue ∷ inputs_of c (begun c t) t) (action_of (start_of c (begun c t) t))) [])

pub hand-replies : (p : Params) (c made : ℕ) (cue : Cue) (t : List Deed) → hand p c made cue t ≡ cond (takes (session_of p c t) cue) (Handed c (begun c t) made cue) Nothing → return_at p (hand p c made cue t) t ≡ return_with c (begun c t) (turn_reply (session_of p c t) cue)
unfolding turn_reply session_of
hand-replies p c made cue t is =
    ap (λ (d : Deed). return_at p d t) is ∙ both-ways (λ (d : Deed). return_at p d t) (takes (session_of p c t) cue) (Handed c (begun c t) made cue) Nothing
    ∙ ap (λ (x : Option Return). cond (takes (session_of p c t) cue) x None) (taken-reply p c made cue t)
    ∙ sym (both-ways (return_with c (begun c t)) (takes (session_of p c t) cue) (reply_by (session_of p c t) (cue ∷ inputs_of c (begun c t) t) (action_of (start_of c (begun c t) t))) None)

-- what the client is told of the record
pub hand-hears : (p : Params) (c made : ℕ) (cue : Cue) (t : List Deed) → hand p c made cue t ≡ cond (takes (session_of p c t) cue) (Handed c (begun c t) made cue) Nothing → heard_at (hand p c made cue t) ≡ heard_by (session_of p c t) c (begun c t) made cue
hand-hears p c made cue t is = ap heard_at is ∙ both-ways heard_at (takes (session_of p c t) cue) (Handed c (begun c t) made cue) Nothing

-- the client that took it
taken-session : (p : Params) (c made : ℕ) (cue : Cue) (t : List Deed) → session_of p c (Handed c (begun c t) made cue ∷ t) ≡ record { f = p.f; k = p.k; client = c; begun = begun c t; action = action_of (start_of c (begun c t) t); inputs = cue ∷ inputs_of c (begun c t) t; stopped = list_any (stops c) t }
unfolding session_of begun inputs_of
taken-session p c made cue t =
    let same : (c == c) ≡ true = eq-eqb c c refl in
    let op : (begun c t == begun c t) ≡ true = eq-eqb (begun c t) (begun c t) refl in
    session-parts p c (begun c t) (begun c t) (action_of (start_of c (begun c t) (Handed c (begun c t) made cue ∷ t))) (action_of (start_of c (begun c t) t)) (inputs_of c (begun c t) (Handed c (begun c t) made cue ∷ t)) (cue ∷ inputs_of c (begun c t) t) (list_any (stops c) t) (list_any (stops c) t)
    refl
    (ap action_of (start-keeps c (begun c t) (Handed c (begun c t) made cue) t refl))
    (rw (same, op) refl)
    refl

pub hand-session : (p : Params) (c made : ℕ) (cue : Cue) (t : List Deed) → hand p c made cue t ≡ cond (takes (session_of p c t) cue) (Handed c (begun c t) made cue) Nothing → session_of p c (hand p c made cue t ∷ t) ≡ session_after (session_of p c t) cue
unfolding session_after session_of
hand-session p c made cue t is =
    ap (λ (d : Deed). session_of p c (d ∷ t)) is ∙ both-ways (λ (d : Deed). session_of p c (d ∷ t)) (takes (session_of p c t) cue) (Handed c (begun c t) made cue) Nothing
    ∙ ap (λ (x : Session). cond (takes (session_of p c t) cue) x (session_of p c (Nothing ∷ t))) (taken-session p c made cue t)
    ∙ ap (λ (x : Session). cond (takes (session_of p c t) cue) (record { f = p.f; k = p.k; client = c; begun = begun c t; action = action_of (start_of c (begun c t) t); inputs = cue ∷ inputs_of c (begun c t) t; stopped = list_any (stops c) t }) x) (foreign-same p c Nothing t (nothing-foreign c t))

pub hand-foreign : (p : Params) (c b made : ℕ) (cue : Cue) (t : List Deed) → (b == c) ≡ false → hand p b made cue t ≡ cond (takes (session_of p b t) cue) (Handed b (begun b t) made cue) Nothing → IsForeign c (hand p b made cue t) t
hand-foreign p c b made cue t apart is = rw is (either (takes (session_of p b t) cue))
  where
    either : (x : Bool) → IsForeign c (cond x (Handed b (begun b t) made cue) Nothing) t
    either true = handed-foreign c b (begun b t) made cue t apart
    either false = nothing-foreign c t

pub stopped-foreign : (c b : ℕ) (t : List Deed) → (b == c) ≡ false → IsForeign c (Stopped b) t
unfolding begun inputs_of
stopped-foreign c b t apart = record { counts = refl; starts = refl; hears = refl; lasts = apart }

pub began-foreign : (c b o : ℕ) (a : Action) (t : List Deed) → (b == c) ≡ false → IsForeign c (Began b o a) t
unfolding begun inputs_of
began-foreign c b o a t apart = record { counts = rw apart refl; starts = rw apart refl; hears = refl; lasts = refl }

-- the client that crashed
pub stop-session : (p : Params) (c : ℕ) (t : List Deed) → session_of p c (Stopped c ∷ t) ≡ session_stopped (session_of p c t)
unfolding session_of session_stopped begun inputs_of
stop-session p c t =
    session-parts p c (begun c t) (begun c t) (action_of (start_of c (begun c t) (Stopped c ∷ t))) (action_of (start_of c (begun c t) t)) (inputs_of c (begun c t) t) (inputs_of c (begun c t) t) (list_any (stops c) (Stopped c ∷ t)) true
    refl
    (ap action_of (start-keeps c (begun c t) (Stopped c) t refl))
    refl
    (ap (λ (x : Bool). x || list_any (stops c) t) (eq-eqb c c refl))

-- the client that began an operation
pub begin-session : (p : Params) (c : ℕ) (a : Action) (t : List Deed) → start_of c (begun c t + 1) t ≡ None → inputs_of c (begun c t + 1) t ≡ [] → session_of p c (Began c (begun c t + 1) a ∷ t) ≡ session_invoked (session_of p c t) a
unfolding session_of session_invoked begun inputs_of start_of
begin-session p c a t fresh none =
    let same : (c == c) ≡ true = eq-eqb c c refl in
    let op : (begun c t + 1 == begun c t + 1) ≡ true = eq-eqb (begun c t + 1) (begun c t + 1) refl in
    let count : begun c (Began c (begun c t + 1) a ∷ t) ≡ begun c t + 1 = ap (λ (x : Bool). cond x (begun c t + 1) (begun c t)) same in
    let test : (c == c && (begun c t + 1 == begun c t + 1)) ≡ true = ap (λ (x : Bool). x && (begun c t + 1 == begun c t + 1)) same ∙ op in
    session-parts p c (begun c (Began c (begun c t + 1) a ∷ t)) (begun c t + 1) (action_of (start_of c (begun c (Began c (begun c t + 1) a ∷ t)) (Began c (begun c t + 1) a ∷ t))) (Some a) (inputs_of c (begun c (Began c (begun c t + 1) a ∷ t)) t) [] (list_any (stops c) t) (list_any (stops c) t)
    count
    (ap (λ (n : ℕ). action_of (start_of c n (Began c (begun c t + 1) a ∷ t))) count
    ∙ ap (λ (x : Option Start). action_of (option_or x (start_at c (begun c t + 1) (Began c (begun c t + 1) a) t))) fresh
    ∙ ap (λ (x : Bool). action_of (cond x (Some (record { action = a; before = t })) None)) test)
    (ap (λ (n : ℕ). inputs_of c n t) count ∙ none)
    refl

-- the client can begin an operation exactly where the trace says so
pub free-same : (p : Params) (c : ℕ) (t : List Deed) → nat_le 1 c ≡ true → nat_le c (joined t) ≡ true → is_free p c t ≡ is_idle (session_of p c t)
unfolding is_free is_idle session_of is_up reply_of
free-same p c t low high = rw (low, high) (by-start (start_of c (begun c t) t))
  where
    by-start : (start : Option Start) → (not (list_any (stops c) t) && ((begun c t == 0) || is_some (reply_after p c (begun c t) (inputs_of c (begun c t) t) start))) ≡ (not (list_any (stops c) t) && ((begun c t == 0) || is_some (reply_by (session_of p c t) (inputs_of c (begun c t) t) (action_of start))))
    by-start None = refl
    by-start (Some s) = refl

pub free-nobody : (p : Params) (c : ℕ) (t : List Deed) → (nat_le 1 c && nat_le c (joined t)) ≡ false → is_free p c t ≡ false
unfolding is_free is_up
free-nobody p c t out = rw out refl

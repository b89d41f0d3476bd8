-- What deeds do to clients and clouds.
use Rattle.std.proofs.Common.{◌≡◌, ◌≢◌, ℕ, ◌+◌, ◌-◌, ◌^◌, ◌<◌, ◌≤◌, Bool, true, false, ◌&&◌, ◌==◌, not, nat_le, List, [], ◌∷◌, map, length, slice_index_or, ◌⊎◌, Option, Some, None, Result, Ok, Err, is_some, cond, refl, sym, ap, subst, ◌∙◌, inl, inr, arith, get_or-set_same, get_or-set_other}
use Rattle.std.proofs.Math.ListN.{set, get_or, length-set}
use Rattle.std.specs.List.{All}
use Rattle.std.proofs.lemmas.Bool.{cases_eq, cases_lt, cases_Bool, false≢true, ne_eqb, le-leb, lt-leb, eq-eqb}
use Rattle.hy_base.specs.declared.failure.NoMemory.{NoMemory}
use Rattle.hy_base.specs.Shape.{IsShape, cloud_count}
use Rattle.hy_record.specs.declared.action.Action.{Action}
use Rattle.hy_record.specs.declared.cloud.CloudAsk.{CloudAsk}
use Rattle.hy_record.specs.declared.cloud.CloudReply.{CloudReply}
use Rattle.hy_record.specs.declared.cloud.CloudSay.{CloudSay}
use Rattle.hy_record.specs.declared.cloud.Wish.{Wish}
use Rattle.hy_record.specs.declared.turn.Cue.{Cue}
use Rattle.hy_record.specs.declared.turn.Cue.TheVariants as cues
use Rattle.hy_record.specs.declared.turn.Out.{Out}
use Rattle.hy_record.specs.declared.turn.Turn.{Turn}
use Rattle.hy_protocol.specs.Cloud.{cloud_answer}
use Rattle.hy_protocol.specs.Operations.{suits, sends_of}
use Rattle.hy_protocol.specs.Session.{Session, session_stopped, session_invoked, invoked_sends, is_idle, session_after, session_turn, turn_sends, turn_reply, takes, is_running, reply_by}
use Rattle.hy_cloud.specs.declared.cloud.Cloud.{Cloud}
use Rattle.hy_cloud.specs.Objects.{StandsForWishes}
use Rattle.hy_trace.specs.declared.step.Step.TheVariants as steps
use Rattle.hy_trace.specs.Deeds.{Params, Deed, Joined, Began, Handed, Served, Granted, Stopped, Nothing, Start, served, granted, joined, begun, start_of, inputs_of, reply_of, reply_after}
use Rattle.hy_trace.specs.Messages.{Request, sent_at, message_of}
use Rattle.hy_trace.specs.Schedule.{delivery, hand, is_free, deed_of}
use Rattle.hy_trace.specs.Trace.{IsTrace}
use Rattle.hy_trace.proofs.Steps.{free-idle}
use Rattle.hy_sched.specs.declared.params.Params.{Params as StoreParams}
use Rattle.hy_log.specs.declared.post.Post.TheVariants as posts
use Rattle.hy_world.specs.declared.seat.Seat.{Seat}
use Rattle.hy_world.specs.declared.nodes.Nodes.{Nodes}
use Rattle.hy_log.specs.declared.effects.Effects.{Effects}
use Rattle.hy_log.specs.declared.effects.Heard.{Heard}
use Rattle.hy_world.specs.Schedules.{is_liar_of, params_of}
use Rattle.hy_log.specs.Effects.{post_of, return_with, beginning_at, updated_at, AreNone}
use Rattle.hy_world.specs.Seats.{StandsForSeat, heard_by}
use Rattle.hy_world.specs.Nodes.{session_of, action_of, NodesRun, NodesStand, IsQuiet, IsDone, Does, HasBegunIn}
use Rattle.hy_world.proofs.Sessions.{IsForeign, foreign-same, nothing-foreign, granted-foreign, hand-takes, hand-nobody, hand-sends, hand-replies, hand-hears, hand-session, hand-foreign, stopped-foreign, began-foreign, stop-session, begin-session, free-same, free-nobody}

-- neither the service nor a cloud has a part in the deed, and nobody joins
pub record IsSilent (d : Deed) (t : List Deed) : Type 0 where
  pub quiet : IsQuiet d t
  pub grants : (i : ℕ) → granted i (d ∷ t) ≡ granted i t

pub nothing-silent : (t : List Deed) → IsSilent Nothing t
unfolding served joined granted
nothing-silent t = record { quiet = record { serves = refl; joins = refl }; grants = λ i. refl }

handed-silent : (c o w : ℕ) (cue : Cue) (t : List Deed) → IsSilent (Handed c o w cue) t
unfolding served joined granted
handed-silent c o w cue t = record { quiet = record { serves = refl; joins = refl }; grants = λ i. refl }

began-silent : (c o : ℕ) (a : Action) (t : List Deed) → IsSilent (Began c o a) t
unfolding served joined granted
began-silent c o a t = record { quiet = record { serves = refl; joins = refl }; grants = λ i. refl }

stopped-silent : (c : ℕ) (t : List Deed) → IsSilent (Stopped c) t
unfolding served joined granted
stopped-silent c t = record { quiet = record { serves = refl; joins = refl }; grants = λ i. refl }

either-silent : (b : Bool) (x y : Deed) (t : List Deed) → IsSilent x t → IsSilent y t → IsSilent (cond b x y) t
either-silent true x y t a b = a
either-silent false x y t a b = b

abbrev pub Standing : Params → List Deed → List Seat → Type 0
Standing p t seats = (i : ℕ) (other : Seat) → i < length seats → StandsForSeat (slice_index_or seats i other) (session_of p (i + 1) t)

pub standing-all : (p : Params) (t : List Deed) (seats : List Seat) (d : Deed) → ((c : ℕ) → IsForeign c d t) → Standing p t seats → Standing p (d ∷ t) seats
standing-all p t seats d foreign s i e lt = rw (foreign-same p (i + 1) d t (foreign (i + 1))) (s i e lt)

standing-set : (p : Params) (t : List Deed) (seats : List Seat) (d : Deed) (i : ℕ) (y : Seat) → i < length seats → StandsForSeat y (session_of p (i + 1) (d ∷ t)) → ((c : ℕ) → (i + 1 == c) ≡ false → IsForeign c d t) → Standing p t seats → Standing p (d ∷ t) (set seats i y)
standing-set p t seats d i y inside now foreign s j e lt =
    elim (cases_eq j i) [
      | inl same ↦ subst (λ (n : ℕ). StandsForSeat (get_or (set seats i y) n e) (session_of p (n + 1) (d ∷ t))) (sym same) (subst (λ (z : Seat). StandsForSeat z (session_of p (i + 1) (d ∷ t))) (sym (get_or-set_same seats i y e inside)) now)
      | inr apart ↦
          let small : j < length seats = omega (arith, length-set seats i y) in
          let other : (i + 1 == j + 1) ≡ false = ne_eqb (i + 1) (j + 1) (omega arith) in
          subst (λ (z : Seat). StandsForSeat z (session_of p (j + 1) (d ∷ t))) (sym (get_or-set_other seats i j y e apart))
          (subst (λ (u : Session). StandsForSeat (get_or seats j e) u) (sym (foreign-same p (j + 1) d t (foreign (j + 1) other))) (s j e small))
    ]

-- the client of this number
pub seat-at : (p : Params) (t : List Deed) (seats : List Seat) (c : ℕ) (x : Seat) → c ≢ 0 → c ≤ length seats → x ≡ slice_index_or seats (c - 1) x → Standing p t seats → StandsForSeat x (session_of p c t)
seat-at p t seats c x low high is s =
    let place : (c - 1) + 1 ≡ c = omega arith in
    let inside : c - 1 < length seats = omega arith in
    subst (λ (n : ℕ). StandsForSeat x (session_of p n t)) place (subst (λ (z : Seat). StandsForSeat z (session_of p ((c - 1) + 1) t)) (sym is) (s (c - 1) x inside))

pub session-begun : (p : Params) (c : ℕ) (t : List Deed) → (session_of p c t).begun ≡ begun c t
unfolding session_of
session-begun p c t = refl

-- a deed in which nothing has a part
pub quietly : (p : Params) (t : List Deed) (params : StoreParams) (seats : List Seat) (clouds : List Cloud) (d : Deed) → IsSilent d t → ((c : ℕ) → IsForeign c d t) → NodesRun p t params seats clouds → NodesRun p (d ∷ t) params seats clouds
quietly p t params seats clouds d silent foreign r =
    record {
      params_are = r.params_are;
      shape_is = r.shape_is;
      seat_count = r.seat_count ∙ sym silent.quiet.joins;
      standing = standing-all p t seats d foreign r.standing;
      unborn = λ c past. foreign-same p c d t (foreign c) ∙ r.unborn c (subst (λ (n : ℕ). n < c) silent.quiet.joins past);
      nobody = foreign-same p 0 d t (foreign 0) ∙ r.nobody;
      keeping = λ i e lt. rw (silent.grants i) (r.keeping i e lt);
    }

-- a deed in which one client has a part
pub personally : (p : Params) (t : List Deed) (params : StoreParams) (seats : List Seat) (clouds : List Cloud) (d : Deed) (c : ℕ) (x y : Seat) →
    c ≢ 0 → c ≤ length seats → x ≡ slice_index_or seats (c - 1) x →
    IsSilent d t → ((b : ℕ) → (c == b) ≡ false → IsForeign b d t) → (StandsForSeat x (session_of p c t) → StandsForSeat y (session_of p c (d ∷ t))) →
    NodesRun p t params seats clouds → NodesRun p (d ∷ t) params (set seats (c - 1) y) clouds
personally p t params seats clouds d c x y low high is silent foreign turns r =
    let place : (c - 1) + 1 ≡ c = omega arith in
    let inside : c - 1 < length seats = omega arith in
    let at_it : StandsForSeat x (session_of p c t) = seat-at p t seats c x low high is r.standing in
    record {
      params_are = r.params_are;
      shape_is = r.shape_is;
      seat_count = length-set seats (c - 1) y ∙ (r.seat_count ∙ sym silent.quiet.joins);
      standing =
          standing-set p t seats d (c - 1) y inside
          (subst (λ (n : ℕ). StandsForSeat y (session_of p n (d ∷ t))) (sym place) (turns at_it))
          (λ b apart. foreign b (subst (λ (n : ℕ). (n == b) ≡ false) place apart))
          r.standing;
      unborn = λ b past. (
          let later : joined t < b = subst (λ (n : ℕ). n < b) silent.quiet.joins past in
          let count = r.seat_count in
          foreign-same p b d t (foreign b (ne_eqb c b (omega arith))) ∙ r.unborn b later);
      nobody = foreign-same p 0 d t (foreign 0 (ne_eqb c 0 low)) ∙ r.nobody;
      keeping = λ i e lt. rw (silent.grants i) (r.keeping i e lt);
    }

-- nothing was done
pub rested : (p : Params) (t : List Deed) (params : StoreParams) (seats : List Seat) (clouds : List Cloud) (e : Effects) → AreNone e → NodesRun p t params seats clouds → IsDone p Nothing t e params seats clouds
unfolding sent_at
rested p t params seats clouds e n r =
    record {
      effects = record { posts = n.posts; began = n.began; returned = n.returned; heard = n.heard; updated = n.updated };
      nodes = quietly p t params seats clouds Nothing (nothing-silent t) (λ c. nothing-foreign c t) r;
      quiet = (nothing-silent t).quiet;
    }

-- a deed that comes to another, where the nodes stand for the trace
pub does-other : (deed other : Params → List Deed → Deed) (old new : Nodes) (result : Result Effects NoMemory) → ((p : Params) (t : List Deed) → length t + 1 < 2 ^ 32 → NodesStand p t old → other p t ≡ deed p t) → Does deed old new result → Does other old new result
does-other deed other old new (Ok e) same d = λ p t trace few r. subst (λ (x : Deed). IsDone p x t e new.params new.seats.items new.clouds.items) (sym (same p t few r)) (d p t trace few r)
does-other deed other old new (Err x) same d = d

past-and : (a b : Bool) → b ≡ false → (a && b) ≡ false
past-and true b is = is
past-and false b is = refl

-- no client has this number
abbrev pub IsNobody : ℕ → List Seat → Type 0
IsNobody c seats = (c ≡ 0) ⊎ (length seats < c)

not-joined : (p : Params) (t : List Deed) (params : StoreParams) (seats : List Seat) (clouds : List Cloud) (c : ℕ) → IsNobody c seats → NodesRun p t params seats clouds → (nat_le 1 c && nat_le c (joined t)) ≡ false
not-joined p t params seats clouds c (inl is) r = rw is refl
not-joined p t params seats clouds c (inr past) r = past-and (nat_le 1 c) (nat_le c (joined t)) (lt-leb c (joined t) (subst (λ (n : ℕ). n < c) r.seat_count past))

is-low : (c : ℕ) → c ≢ 0 → nat_le 1 c ≡ true
is-low c low = le-leb 1 c (omega arith)

is-high : (p : Params) (t : List Deed) (params : StoreParams) (seats : List Seat) (clouds : List Cloud) (c : ℕ) → c ≤ length seats → NodesRun p t params seats clouds → nat_le c (joined t) ≡ true
is-high p t params seats clouds c high r = le-leb c (joined t) (subst (λ (n : ℕ). c ≤ n) r.seat_count high)

-- ---- inputs

pub hand-out : (c made : ℕ) (cue : Cue) (p : Params) (t : List Deed) (w : Nodes) → IsNobody c w.seats.items → NodesStand p t w → hand p c made cue t ≡ Nothing
hand-out c made cue p t w nobody r = hand-nobody p c made cue t (not-joined p t w.params w.seats.items w.clouds.items c nobody r)

hand-begins : (p : Params) (c made : ℕ) (cue : Cue) (t : List Deed) → hand p c made cue t ≡ cond (takes (session_of p c t) cue) (Handed c (begun c t) made cue) Nothing → (beginning_at (hand p c made cue t) ≡ None) × (updated_at (hand p c made cue t) t ≡ None)
hand-begins p c made cue t is = (ap beginning_at is ∙ begins (takes (session_of p c t) cue), ap (λ (d : Deed). updated_at d t) is ∙ updates (takes (session_of p c t) cue))
  where
    begins : (b : Bool) → beginning_at (cond b (Handed c (begun c t) made cue) Nothing) ≡ None
    begins true = refl
    begins false = refl

    updates : (b : Bool) → updated_at (cond b (Handed c (begun c t) made cue) Nothing) t ≡ None
    updates true = refl
    updates false = refl

-- the client does this at an input
pub record IsTurn (cue : Cue) (c made : ℕ) (x y : Seat) (op : ℕ) (turn : Turn) (heard : Option Heard) : Type 0 where
  pub after : (s : Session) → StandsForSeat x s → StandsForSeat y (session_after s cue)
  pub turn_is : (s : Session) → StandsForSeat x s → turn ≡ session_turn s cue
  pub number : (s : Session) → StandsForSeat x s → op ≡ s.begun
  pub hears : (s : Session) → StandsForSeat x s → heard ≡ heard_by s c op made cue

turn-sends : (s : Session) (cue : Cue) → (session_turn s cue).sends ≡ turn_sends s cue
unfolding session_turn
turn-sends s cue = refl

turn-reply : (s : Session) (cue : Cue) → (session_turn s cue).reply ≡ turn_reply s cue
unfolding session_turn
turn-reply s cue = refl

pub hands : (p : Params) (t : List Deed) (params : StoreParams) (seats : List Seat) (clouds : List Cloud) (c made : ℕ) (cue : Cue) (x y : Seat) (op : ℕ) (turn : Turn) (heard : Option Heard) (e : Effects) →
    c ≢ 0 → c ≤ length seats → x ≡ slice_index_or seats (c - 1) x → IsTurn cue c made x y op turn heard →
    e.posts.items ≡ map post_of (map message_of turn.sends) → e.began ≡ None → e.returned ≡ return_with c op turn.reply → e.heard ≡ heard → e.updated ≡ None →
    NodesRun p t params seats clouds → IsDone p (hand p c made cue t) t e params (set seats (c - 1) y) clouds
hands p t params seats clouds c made cue x y op turn heard e low high is does posts began returned hears updated r =
    let s = session_of p c t in
    let took = hand-takes p c made cue t (is-low c low) (is-high p t params seats clouds c high r) in
    let at_it : StandsForSeat x s = seat-at p t seats c x low high is r.standing in
    let silent : IsSilent (hand p c made cue t) t = subst (λ (d : Deed). IsSilent d t) (sym took) (either-silent (takes s cue) (Handed c (begun c t) made cue) Nothing t (handed-silent c (begun c t) made cue t) (nothing-silent t)) in
    let number : op ≡ begun c t = does.number s at_it ∙ session-begun p c t in
    let turned : turn ≡ session_turn s cue = does.turn_is s at_it in
    record {
      effects = record {
        posts = posts ∙ ap (λ (z : Turn). map post_of (map message_of z.sends)) turned ∙ ap (λ (o : List Out). map post_of (map message_of o)) (turn-sends s cue) ∙ ap (map post_of) (sym (hand-sends p c made cue t took));
        began = began ∙ sym (hand-begins p c made cue t took).0;
        returned = returned ∙ ap (λ (n : ℕ). return_with c n turn.reply) number ∙ ap (λ (z : Turn). return_with c (begun c t) z.reply) turned ∙ ap (return_with c (begun c t)) (turn-reply s cue) ∙ sym (hand-replies p c made cue t took);
        heard = hears ∙ does.hears s at_it ∙ ap (λ (n : ℕ). heard_by s c n made cue) number ∙ sym (hand-hears p c made cue t took);
        updated = updated ∙ sym (hand-begins p c made cue t took).1;
      };
      nodes = personally p t params seats clouds (hand p c made cue t) c x y low high is silent
          (λ b apart. hand-foreign p b c made cue t apart took)
          (λ stood. subst (StandsForSeat y) (sym (hand-session p c made cue t took)) (does.after s stood)) r;
      quiet = silent.quiet;
    }

-- ---- requests to clouds

-- an honest cloud is one of the store
pub honest-within : (params : StoreParams) (i : ℕ) → is_liar_of params i ≡ false → i < cloud_count params.f params.k
unfolding is_liar_of
honest-within params i honest =
    elim (cases_lt i (cloud_count params.f params.k)) [
      | inl inside ↦ inside
      | inr past ↦ absurd (false≢true (sym honest ∙ rw (le-leb (cloud_count params.f params.k) i past) refl))
    ]

pub liar-is : (p : Params) (t : List Deed) (w : Nodes) (i : ℕ) → NodesStand p t w → p.is_liar i ≡ is_liar_of w.params i
liar-is p t w i r = ap (λ (q : Params). q.is_liar i) r.params_are

keeping-set : (t : List Deed) (clouds : List Cloud) (ask : CloudAsk) (y : Cloud) → ask.cloud < length clouds → StandsForWishes y (ask.wish ∷ granted ask.cloud t) → ((i : ℕ) (d : Cloud) → i < length clouds → StandsForWishes (slice_index_or clouds i d) (granted i t)) → (i : ℕ) (d : Cloud) → i < length (set clouds ask.cloud y) → StandsForWishes (slice_index_or (set clouds ask.cloud y) i d) (granted i (Granted ask ∷ t))
unfolding granted
keeping-set t clouds ask y inside now before i d lt =
    elim (cases_eq i ask.cloud) [
      | inl same ↦
          let test : (ask.cloud == ask.cloud) ≡ true = eq-eqb ask.cloud ask.cloud refl in
          subst (λ (n : ℕ). StandsForWishes (get_or (set clouds ask.cloud y) n d) (cond (ask.cloud == n) (ask.wish ∷ granted n t) (granted n t))) (sym same)
          (subst (λ (b : Bool). StandsForWishes (get_or (set clouds ask.cloud y) ask.cloud d) (cond b (ask.wish ∷ granted ask.cloud t) (granted ask.cloud t))) (sym test)
          (subst (λ (z : Cloud). StandsForWishes z (ask.wish ∷ granted ask.cloud t)) (sym (get_or-set_same clouds ask.cloud y d inside)) now))
      | inr apart ↦
          let small : i < length clouds = omega (arith, length-set clouds ask.cloud y) in
          let test : (ask.cloud == i) ≡ false = ne_eqb ask.cloud i (λ e. apart (sym e)) in
          subst (λ (z : Cloud). StandsForWishes z (cond (ask.cloud == i) (ask.wish ∷ granted i t) (granted i t))) (sym (get_or-set_other clouds ask.cloud i y d apart))
          (subst (λ (b : Bool). StandsForWishes (get_or clouds i d) (cond b (ask.wish ∷ granted i t) (granted i t))) (sym test) (before i d small))
    ]

granted-quiet : (ask : CloudAsk) (t : List Deed) → IsQuiet (Granted ask) t
unfolding served joined
granted-quiet ask t = record { serves = refl; joins = refl }

pub granting : (p : Params) (t : List Deed) (params : StoreParams) (seats : List Seat) (clouds : List Cloud) (made : ℕ) (ask : CloudAsk) (x y : Cloud) (say : CloudSay) (e : Effects) →
    is_liar_of params ask.cloud ≡ false → ask.cloud < length clouds → x ≡ slice_index_or clouds ask.cloud x →
    ((before : List Wish) → StandsForWishes x before → StandsForWishes y (ask.wish ∷ before)) → ((before : List Wish) → StandsForWishes x before → say ≡ cloud_answer before ask.wish) →
    e.posts.items ≡ posts.Answer (cues.Cloud (record { client = ask.client; op = ask.op; cloud = ask.cloud; key = ask.wish.key; stamp = ask.wish.stamp; say = say })) ∷ [] → e.began ≡ None → e.returned ≡ None → e.heard ≡ None → e.updated ≡ None →
    NodesRun p t params seats clouds → IsDone p (delivery p t made (Some (Request ask))) t e params seats (set clouds ask.cloud y)
unfolding sent_at
granting p t params seats clouds made ask x y say e honest inside is goes answers sent began returned hears updated r =
    let kept : StandsForWishes x (granted ask.cloud t) = subst (λ (z : Cloud). StandsForWishes z (granted ask.cloud t)) (sym is) (r.keeping ask.cloud x inside) in
    let deed : delivery p t made (Some (Request ask)) ≡ Granted ask = ap (λ (b : Bool). cond b Nothing (Granted ask)) (ap (λ (q : Params). q.is_liar ask.cloud) r.params_are ∙ honest) in
    let quiet = granted-quiet ask t in
    subst (λ (d : Deed). IsDone p d t e params seats (set clouds ask.cloud y)) (sym deed) (
    record {
      effects = record { posts = sent ∙ ap (λ (a : CloudSay). posts.Answer (cues.Cloud (record { client = ask.client; op = ask.op; cloud = ask.cloud; key = ask.wish.key; stamp = ask.wish.stamp; say = a })) ∷ []) (answers (granted ask.cloud t) kept); began = began; returned = returned; heard = hears; updated = updated };
      nodes = record {
        params_are = r.params_are;
        shape_is = r.shape_is;
        seat_count = r.seat_count ∙ sym quiet.joins;
        standing = standing-all p t seats (Granted ask) (λ c. granted-foreign c ask t) r.standing;
        unborn = λ c past. foreign-same p c (Granted ask) t (granted-foreign c ask t) ∙ r.unborn c (subst (λ (n : ℕ). n < c) quiet.joins past);
        nobody = foreign-same p 0 (Granted ask) t (granted-foreign 0 ask t) ∙ r.nobody;
        keeping = keeping-set t clouds ask y inside (goes (granted ask.cloud t) kept) r.keeping;
      };
      quiet = quiet;
    })

-- ---- crashes

pub stop-out : (c : ℕ) (p : Params) (t : List Deed) (w : Nodes) → IsNobody c w.seats.items → NodesStand p t w → deed_of p (steps.Stop c) t ≡ Nothing
unfolding deed_of
stop-out c p t w nobody r = rw (not-joined p t w.params w.seats.items w.clouds.items c nobody r) refl

pub stopping : (p : Params) (t : List Deed) (params : StoreParams) (seats : List Seat) (clouds : List Cloud) (c : ℕ) (x y : Seat) (e : Effects) →
    c ≢ 0 → c ≤ length seats → x ≡ slice_index_or seats (c - 1) x → ((s : Session) → StandsForSeat x s → StandsForSeat y (session_stopped s)) → AreNone e →
    NodesRun p t params seats clouds → IsDone p (deed_of p (steps.Stop c) t) t e params (set seats (c - 1) y) clouds
unfolding deed_of sent_at
stopping p t params seats clouds c x y e low high is turns n r =
    let there : (nat_le 1 c && nat_le c (joined t)) ≡ true = rw (is-low c low, is-high p t params seats clouds c high r) refl in
    subst (λ (b : Bool). IsDone p (cond b (Stopped c) Nothing) t e params (set seats (c - 1) y) clouds) (sym there)
    (record {
      effects = record { posts = n.posts; began = n.began; returned = n.returned; heard = n.heard; updated = n.updated };
      nodes = personally p t params seats clouds (Stopped c) c x y low high is (stopped-silent c t)
          (λ b apart. stopped-foreign b c t apart)
          (λ s. subst (StandsForSeat y) (sym (stop-session p c t)) (turns (session_of p c t) s)) r;
      quiet = (stopped-silent c t).quiet;
    })

-- ---- invocations

invoked-sends : (p : Params) (c : ℕ) (a : Action) (t : List Deed) → invoked_sends (session_of p c t) a ≡ sends_of p.f p.k c (begun c t + 1) a []
unfolding invoked_sends session_of
invoked-sends p c a t = refl

invoked-begun : (p : Params) (c : ℕ) (a : Action) (t : List Deed) → (session_invoked (session_of p c t) a).begun ≡ begun c t + 1
unfolding session_invoked session_of
invoked-begun p c a t = refl

pub first-true : (a b : Bool) → (a && b) ≡ true → (a ≡ true) × (b ≡ true)
first-true true b is = (refl, is)
first-true false b is = absurd (false≢true is)

-- the client begins the operation
pub record IsBegun (a : Action) (x y : Seat) (op : ℕ) (outs : List Out) : Type 0 where
  pub idle : (s : Session) → StandsForSeat x s → true ≡ (is_idle s && suits a)
  pub after : (s : Session) → StandsForSeat x s → StandsForSeat y (session_invoked s a)
  pub sends : (s : Session) → StandsForSeat x s → outs ≡ invoked_sends s a
  pub number : (s : Session) → StandsForSeat y s → op ≡ s.begun

pub invoking : (p : Params) (t : List Deed) (params : StoreParams) (seats : List Seat) (clouds : List Cloud) (c : ℕ) (a : Action) (x y : Seat) (outs : List Out) (op : ℕ) (e : Effects) →
    c ≢ 0 → c ≤ length seats → x ≡ slice_index_or seats (c - 1) x → IsTrace p t → IsBegun a x y op outs →
    e.posts.items ≡ map post_of (map message_of outs) → e.began ≡ Some (record { client = c; op = op; action = a }) → e.returned ≡ None → e.heard ≡ None → e.updated ≡ None →
    NodesRun p t params seats clouds → IsDone p (deed_of p (steps.Invoke c a) t) t e params (set seats (c - 1) y) clouds
unfolding deed_of sent_at
invoking p t params seats clouds c a x y outs op e low high is trace begins sent began returned hears updated r =
    let s = session_of p c t in
    let at_it : StandsForSeat x s = seat-at p t seats c x low high is r.standing in
    let begun_ : (is_free p c t && suits a) ≡ true = ap (λ (b : Bool). b && suits a) (free-same p c t (is-low c low) (is-high p t params seats clouds c high r)) ∙ sym (begins.idle s at_it) in
    let free : is_free p c t ≡ true = (first-true (is_free p c t) (suits a) begun_).0 in
    let idle = free-idle p c t trace free in
    let silent = began-silent c (begun c t + 1) a t in
    subst (λ (b : Bool). IsDone p (cond b (Began c (begun c t + 1) a) Nothing) t e params (set seats (c - 1) y) clouds) (sym begun_)
    (record {
      effects = record {
        posts = sent ∙ ap (λ (o : List Out). map post_of (map message_of o)) (begins.sends s at_it ∙ invoked-sends p c a t);
        began = began ∙ ap (λ (n : ℕ). Some (record { client = c; op = n; action = a })) (begins.number (session_invoked s a) (begins.after s at_it) ∙ invoked-begun p c a t);
        returned = returned;
        heard = hears;
        updated = updated;
      };
      nodes = personally p t params seats clouds (Began c (begun c t + 1) a) c x y low high is silent
          (λ b apart. began-foreign b c (begun c t + 1) a t apart)
          (λ stood. subst (StandsForSeat y) (sym (begin-session p c a t idle.fresh idle.inputs)) (begins.after s stood)) r;
      quiet = silent.quiet;
    })

pub refusing : (p : Params) (t : List Deed) (params : StoreParams) (seats : List Seat) (clouds : List Cloud) (c : ℕ) (a : Action) (x y : Seat) (e : Effects) →
    c ≢ 0 → c ≤ length seats → x ≡ slice_index_or seats (c - 1) x → ((s : Session) → StandsForSeat x s → false ≡ (is_idle s && suits a)) → ((s : Session) → StandsForSeat x s → StandsForSeat y s) → AreNone e →
    NodesRun p t params seats clouds → IsDone p (deed_of p (steps.Invoke c a) t) t e params (set seats (c - 1) y) clouds
unfolding deed_of sent_at
refusing p t params seats clouds c a x y e low high is idle turns n r =
    let s = session_of p c t in
    let at_it : StandsForSeat x s = seat-at p t seats c x low high is r.standing in
    let busy : (is_free p c t && suits a) ≡ false = ap (λ (b : Bool). b && suits a) (free-same p c t (is-low c low) (is-high p t params seats clouds c high r)) ∙ sym (idle s at_it) in
    subst (λ (b : Bool). IsDone p (cond b (Began c (begun c t + 1) a) Nothing) t e params (set seats (c - 1) y) clouds) (sym busy)
    (record {
      effects = record { posts = n.posts; began = n.began; returned = n.returned; heard = n.heard; updated = n.updated };
      nodes = personally p t params seats clouds Nothing c x y low high is (nothing-silent t) (λ b apart. nothing-foreign b t)
          (λ stood. subst (StandsForSeat y) (sym (foreign-same p c Nothing t (nothing-foreign c t))) (turns s stood)) r;
      quiet = (nothing-silent t).quiet;
    })

pub invoke-out : (c : ℕ) (a : Action) (p : Params) (t : List Deed) (w : Nodes) → IsNobody c w.seats.items → NodesStand p t w → deed_of p (steps.Invoke c a) t ≡ Nothing
unfolding deed_of
invoke-out c a p t w nobody r = rw (free-nobody p c t (not-joined p t w.params w.seats.items w.clouds.items c nobody r)) refl

-- no client began more operations than there are deeds
begun-few : (c : ℕ) (t : List Deed) → begun c t ≤ length t
unfolding begun
begun-few c [] = omega arith
begun-few c (Began b o a ∷ t) = let before = begun-few c t in elim (cases_Bool (b == c)) [ inl is ↦ rw is (omega arith) | inr is ↦ rw is (omega arith) ]
begun-few c (Joined ∷ t) = let before = begun-few c t in omega arith
begun-few c (Handed b o w cue ∷ t) = let before = begun-few c t in omega arith
begun-few c (Served ask ∷ t) = let before = begun-few c t in omega arith
begun-few c (Granted ask ∷ t) = let before = begun-few c t in omega arith
begun-few c (Stopped b ∷ t) = let before = begun-few c t in omega arith
begun-few c (Nothing ∷ t) = let before = begun-few c t in omega arith

pub not-many : (p : Params) (t : List Deed) (seats : List Seat) (c n : ℕ) (x : Seat) → c ≢ 0 → c ≤ length seats → x ≡ slice_index_or seats (c - 1) x → ((s : Session) → StandsForSeat x s → n ≡ s.begun) → length t + 1 < 2 ^ 32 → Standing p t seats → n + 1 < 2 ^ 32
not-many p t seats c n x low high is number few s =
    let at_it : StandsForSeat x (session_of p c t) = seat-at p t seats c x low high is s in
    let same : n ≡ begun c t = number (session_of p c t) at_it ∙ session-begun p c t in
    let most = begun-few c t in
    omega arith

-- ---- lies

pub lie-in : (reply : CloudReply) (p : Params) (t : List Deed) (w : Nodes) → is_liar_of w.params reply.cloud ≡ true → NodesStand p t w → deed_of p (steps.Lie reply) t ≡ hand p reply.client 0 (cues.Cloud reply) t
unfolding deed_of
lie-in reply p t w liar r = rw (liar-is p t w reply.cloud r ∙ liar) refl

pub lie-out : (reply : CloudReply) (p : Params) (t : List Deed) (w : Nodes) → is_liar_of w.params reply.cloud ≡ false → NodesStand p t w → deed_of p (steps.Lie reply) t ≡ Nothing
unfolding deed_of
lie-out reply p t w honest r = rw (liar-is p t w reply.cloud r ∙ honest) refl

-- ---- the beginning

pub starts-empty : (params : StoreParams) (seats : List Seat) (clouds : List Cloud) → IsShape params.f params.k → seats ≡ [] → All (λ cloud. StandsForWishes cloud []) clouds → NodesRun (params_of params) [] params seats clouds
unfolding joined granted session_of begun start_of inputs_of
starts-empty params seats clouds shape empty new =
    record {
      params_are = refl;
      shape_is = shape;
      seat_count = ap length empty;
      standing = λ i d lt. absurd (let count : length seats ≡ 0 = ap length empty in omega arith);
      unborn = λ c past. refl;
      nobody = refl;
      keeping = λ i d lt. new i d lt;
    }

-- ---- the running operation

-- a client that began an operation awaits its reply where the trace has none
pub awaits-is : (p : Params) (t : List Deed) (seats : List Seat) (c : ℕ) (x : Seat) → c ≢ 0 → c ≤ length seats → x ≡ slice_index_or seats (c - 1) x → HasBegunIn c t → Standing p t seats → (b : Bool) → ((s : Session) → StandsForSeat x s → b ≡ is_running s) → b ≡ not (is_some (reply_of p c (begun c t) t))
unfolding is_running session_of reply_of
awaits-is p t seats c x low high is has s b tells =
    let at_it : StandsForSeat x (session_of p c t) = seat-at p t seats c x low high is s in
    let some : (begun c t == 0) ≡ false = ne_eqb (begun c t) 0 (let most = has.begun_is in omega arith) in
    tells (session_of p c t) at_it ∙ ap (λ (z : Bool). not z && not (is_some (reply_by (session_of p c t) (inputs_of c (begun c t) t) (action_of (start_of c (begun c t) t))))) some ∙ by-start (start_of c (begun c t) t)
  where
    by-start : (start : Option Start) → not (is_some (reply_by (session_of p c t) (inputs_of c (begun c t) t) (action_of start))) ≡ not (is_some (reply_after p c (begun c t) (inputs_of c (begun c t) t) start))
    by-start None = refl
    by-start (Some start) = refl

pub awaits-in : (p : Params) (t : List Deed) (params : StoreParams) (seats : List Seat) (clouds : List Cloud) (c : ℕ) → IsNobody c seats → HasBegunIn c t → NodesRun p t params seats clouds → ⊥
awaits-in p t params seats clouds c nobody has r = false≢true (sym (not-joined p t params seats clouds c nobody r) ∙ has.joined_is)

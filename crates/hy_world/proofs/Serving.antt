-- What deeds do to the machines.
use Rattle.std.proofs.Common.{◌≡◌, ℕ, ◌+◌, ◌<◌, Bool, true, false, nat_lt, List, [], ◌∷◌, ◌++◌, map, length, Option, Some, None, Result, Ok, Err, cond, refl, sym, ap, subst, ◌∙◌, inl, inr, arith}
use Rattle.std.proofs.Math.ListN.{get_or}
use Rattle.std.proofs.lemmas.List.{length_push, get_or_append_left, get_or_push}
use Rattle.std.proofs.lemmas.Bool.{cases_lt}
use Rattle.hy_base.specs.declared.failure.NoMemory.{NoMemory}
use Rattle.hy_base.specs.declared.limits.TheConstants.{MAX_SESSIONS}
use Rattle.hy_record.specs.declared.message.MetaAsk.{MetaAsk}
use Rattle.hy_record.specs.declared.message.MetaSay.{MetaSay}
use Rattle.hy_record.specs.declared.cloud.CloudAsk.{CloudAsk}
use Rattle.hy_record.specs.declared.turn.Cue.{Cue}
use Rattle.hy_record.specs.declared.turn.Cue.TheVariants as cues
use Rattle.hy_protocol.specs.Session.{fresh_session}
use Rattle.hy_meta.specs.Sessions.{next_session, sessions_after}
use Rattle.hy_meta.specs.Meta.{service_answers}
use Rattle.hy_meta.specs.declared.meta.SessionsFull.{SessionsFull}
use Rattle.hy_cloud.specs.declared.cloud.Cloud.{Cloud}
use Rattle.hy_trace.specs.declared.step.Step.TheVariants as steps
use Rattle.hy_trace.specs.Deeds.{Params, Deed, Joined, Served, Nothing, served, granted, joined}
use Rattle.hy_trace.specs.Messages.{Message, Ask, Say, Request, Answer, sent_at}
use Rattle.hy_trace.specs.Schedule.{delivery, hand, deed_of}
use Rattle.hy_sched.specs.declared.params.Params.{Params as StoreParams}
use Rattle.hy_world.specs.declared.seat.Seat.{Seat}
use Rattle.hy_log.specs.declared.post.Post.TheVariants as posts
use Rattle.hy_world.specs.declared.nodes.Nodes.{Nodes}
use Rattle.hy_world.specs.declared.machines.Machines.{Machines}
use Rattle.hy_log.specs.declared.effects.Effects.{Effects}
use Rattle.hy_log.specs.declared.effects.Updated.{Updated}
use Rattle.hy_log.specs.Effects.{post_of, updated_by, AreEffects, AreNone}
use Rattle.hy_world.specs.Seats.{StandsForSeat}
use Rattle.hy_world.specs.Nodes.{addressee, session_of, NodesRun, Does}
use Rattle.hy_world.specs.Machines.{MachinesRun, MachinesStand, MachinesDo}
use Rattle.hy_world.proofs.Sessions.{foreign-same, joined-foreign, served-foreign, nothing-foreign}
use Rattle.hy_world.proofs.Standing.{Standing, standing-all, quietly, nothing-silent}

-- the delivery of a message, by how it is kept
pub delivery-answer : (message : Message) (cue : Cue) → post_of message ≡ posts.Answer cue → (p : Params) (t : List Deed) (made : ℕ) → delivery p t made (Some message) ≡ hand p (addressee cue) made cue t
delivery-answer (Ask ask) cue is = cc
delivery-answer (Request ask) cue is = cc
delivery-answer (Say say) cue is = let e : cues.Meta say ≡ cue = cc in λ p t made. ap (λ (x : Cue). hand p (addressee x) made x t) e
delivery-answer (Answer reply) cue is = let e : cues.Cloud reply ≡ cue = cc in λ p t made. ap (λ (x : Cue). hand p (addressee x) made x t) e

pub delivery-ask : (message : Message) (ask : MetaAsk) → post_of message ≡ posts.Ask ask → message ≡ Ask ask
delivery-ask (Ask x) ask is = cc
delivery-ask (Request x) ask is = cc
delivery-ask (Say say) ask is = cc
delivery-ask (Answer reply) ask is = cc

pub delivery-request : (message : Message) (ask : CloudAsk) → post_of message ≡ posts.Request ask → message ≡ Request ask
delivery-request (Request x) ask is = cc
delivery-request (Ask x) ask is = cc
delivery-request (Say say) ask is = cc
delivery-request (Answer reply) ask is = cc

-- the service gave an id, or all were given
pub gave : (n id : ℕ) → Ok id ≡ next_session n → (nat_lt n MAX_SESSIONS ≡ true) × (id ≡ n + 1) × (sessions_after n ≡ n + 1)
gave n id is = by-test (nat_lt n MAX_SESSIONS) refl is
  where
    by-test : (b : Bool) → nat_lt n MAX_SESSIONS ≡ b → ◌≡◌ {A = Result ℕ SessionsFull} (Ok id) (cond b (Ok (n + 1)) (Err (record {}))) → (nat_lt n MAX_SESSIONS ≡ true) × (id ≡ n + 1) × (sessions_after n ≡ n + 1)
    by-test true test e = (test, cc, rw test refl)
    by-test false test e = cc

gave-none : (n : ℕ) (x : SessionsFull) → Err x ≡ next_session n → (nat_lt n MAX_SESSIONS ≡ false) × (sessions_after n ≡ n)
gave-none n x is = by-test (nat_lt n MAX_SESSIONS) refl is
  where
    by-test : (b : Bool) → nat_lt n MAX_SESSIONS ≡ b → ◌≡◌ {A = Result ℕ SessionsFull} (Err x) (cond b (Ok (n + 1)) (Err (record {}))) → (nat_lt n MAX_SESSIONS ≡ false) × (sessions_after n ≡ n)
    by-test true test e = cc
    by-test false test e = (test, rw test refl)

standing-push : (p : Params) (t : List Deed) (seats : List Seat) (id : ℕ) (y : Seat) → id ≡ joined t + 1 → length seats ≡ joined t → StandsForSeat y (fresh_session p.f p.k id) →
    ((c : ℕ) → joined t < c → session_of p c t ≡ fresh_session p.f p.k c) → Standing p t seats → Standing p (Joined ∷ t) (seats ++ y ∷ [])
standing-push p t seats id y here count new unborn s i d lt =
    elim (cases_lt i (length seats)) [
      | inl inside ↦
          subst (λ (z : Seat). StandsForSeat z (session_of p (i + 1) (Joined ∷ t))) (sym (get_or_append_left seats (y ∷ []) d i inside))
          (subst (StandsForSeat (get_or seats i d)) (sym (foreign-same p (i + 1) Joined t (joined-foreign (i + 1) t))) (s i d inside))
      | inr past ↦
          let total = length_push seats y in
          let last : length seats ≡ i = omega arith in
          let number : i + 1 ≡ id = omega arith in
          let later : joined t < i + 1 = omega arith in
          subst (λ (z : Seat). StandsForSeat z (session_of p (i + 1) (Joined ∷ t))) (sym (get_or_push seats y d i last))
          (subst (StandsForSeat y) (sym (foreign-same p (i + 1) Joined t (joined-foreign (i + 1) t) ∙ unborn (i + 1) later ∙ ap (fresh_session p.f p.k) number)) new)
    ]

joining : (p : Params) (t : List Deed) (params : StoreParams) (seats : List Seat) (clouds : List Cloud) (id : ℕ) (y : Seat) → id ≡ joined t + 1 → StandsForSeat y (fresh_session p.f p.k id) → NodesRun p t params seats clouds → NodesRun p (Joined ∷ t) params (seats ++ y ∷ []) clouds
unfolding joined granted
joining p t params seats clouds id y here new r =
    record {
      params_are = r.params_are;
      shape_is = r.shape_is;
      seat_count = length_push seats y ∙ ap (λ (n : ℕ). n + 1) r.seat_count;
      standing = standing-push p t seats id y here r.seat_count new r.unborn r.standing;
      unborn = λ c past. (let before : joined t < c = omega arith in foreign-same p c Joined t (joined-foreign c t) ∙ r.unborn c before);
      nobody = foreign-same p 0 Joined t (joined-foreign 0 t) ∙ r.nobody;
      keeping = r.keeping;
    }

module _ (M : Type 0) (serves : M → List MetaAsk → Type 0) (given : M → ℕ) where
  -- what clients and clouds do, the machines do
  pub lift : (deed : Params → List Deed → Deed) (service : M) (old new : Nodes) (result : Result Effects NoMemory) → Does deed old new result → MachinesDo serves given deed (record { service = service; nodes = old }) (record { service = service; nodes = new }) result
  lift deed service old new (Ok e) does = λ p t trace few r.
      (let done = does p t trace few r.nodes_stand in
      (done.effects, record { serving = subst (serves service) (sym done.quiet.serves) r.serving; given_is = r.given_is ∙ sym done.quiet.joins; nodes_stand = done.nodes }))
  lift deed service old new (Err x) does = tt

  -- a deed that comes to another
  pub machines-other : (deed other : Params → List Deed → Deed) (old new : Machines M) (result : Result Effects NoMemory) → ((p : Params) (t : List Deed) → other p t ≡ deed p t) → MachinesDo serves given deed old new result → MachinesDo serves given other old new result
  machines-other deed other old new (Ok e) same does = λ p t trace few r. subst (λ (x : Deed). AreEffects p x t e × MachinesStand serves given p (x ∷ t) new) (sym (same p t)) (does p t trace few r)
  machines-other deed other old new (Err x) same does = does

  pub serving : (p : Params) (t : List Deed) (service after : M) (nodes : Nodes) (ask : MetaAsk) (says : List MetaSay) (updated : Option Updated) (e : Effects) →
      ((asks : List MetaAsk) → serves service asks → serves after (ask ∷ asks)) → ((asks : List MetaAsk) → serves service asks → says ≡ service_answers asks ask) → given after ≡ given service →
      ((asks : List MetaAsk) → serves service asks → updated ≡ updated_by ask asks) →
      e.posts.items ≡ map post_of (map Say says) → e.began ≡ None → e.returned ≡ None → e.heard ≡ None → e.updated ≡ updated →
      MachinesRun serves given p t service nodes → AreEffects p (Served ask) t e × MachinesRun serves given p (Served ask ∷ t) after nodes
  unfolding served joined granted sent_at
  serving p t service after nodes ask says updated e goes answers count updates posts began returned heard is r = (
    record { posts = posts ∙ ap (λ (x : List MetaSay). map post_of (map Say x)) (answers (served t) r.serving); began = began; returned = returned; heard = heard; updated = is ∙ updates (served t) r.serving },
    record {
      serving = goes (served t) r.serving;
      given_is = count ∙ r.given_is;
      nodes_stand = record {
        params_are = r.nodes_stand.params_are;
        shape_is = r.nodes_stand.shape_is;
        seat_count = r.nodes_stand.seat_count;
        standing = standing-all p t nodes.seats.items (Served ask) (λ c. served-foreign c ask t) r.nodes_stand.standing;
        unborn = λ c past. foreign-same p c (Served ask) t (served-foreign c ask t) ∙ r.nodes_stand.unborn c past;
        nobody = foreign-same p 0 (Served ask) t (served-foreign 0 ask t) ∙ r.nodes_stand.nobody;
        keeping = r.nodes_stand.keeping;
      };
    },
  )

  pub join-in : (p : Params) (t : List Deed) (service after : M) (nodes later : Nodes) (id : ℕ) (y : Seat) (e : Effects) →
      Ok id ≡ next_session (given service) → given after ≡ sessions_after (given service) → ((asks : List MetaAsk) → serves service asks → serves after asks) →
      StandsForSeat y (fresh_session nodes.params.f nodes.params.k id) → later.seats.items ≡ nodes.seats.items ++ y ∷ [] → later.params ≡ nodes.params → later.clouds.items ≡ nodes.clouds.items → AreNone e →
      MachinesRun serves given p t service nodes → AreEffects p (deed_of p steps.Join t) t e × MachinesRun serves given p (deed_of p steps.Join t ∷ t) after later
  unfolding deed_of sent_at served joined
  join-in p t service after nodes later id y e number count same new seats params clouds n r =
      let g = gave (given service) id number in
      let room : nat_lt (joined t) MAX_SESSIONS ≡ true = subst (λ (n : ℕ). nat_lt n MAX_SESSIONS ≡ true) r.given_is g.0 in
      let here : id ≡ joined t + 1 = g.1 ∙ ap (λ (n : ℕ). n + 1) r.given_is in
      let stands : StandsForSeat y (fresh_session p.f p.k id) = subst (λ (q : Params). StandsForSeat y (fresh_session q.f q.k id)) (sym r.nodes_stand.params_are) new in
      subst (λ (b : Bool). AreEffects p (cond b Joined Nothing) t e × MachinesRun serves given p (cond b Joined Nothing ∷ t) after later) (sym room) (
        record { posts = n.posts; began = n.began; returned = n.returned; heard = n.heard; updated = n.updated },
        record {
          serving = same (served t) r.serving;
          given_is = count ∙ (g.2 ∙ ap (λ (n : ℕ). n + 1) r.given_is);
          nodes_stand = rw (seats, params, clouds) (joining p t nodes.params nodes.seats.items nodes.clouds.items id y here stands r.nodes_stand);
        },
      )

  pub join-full : (p : Params) (t : List Deed) (service after : M) (nodes : Nodes) (x : SessionsFull) (e : Effects) →
      Err x ≡ next_session (given service) → given after ≡ sessions_after (given service) → ((asks : List MetaAsk) → serves service asks → serves after asks) → AreNone e →
      MachinesRun serves given p t service nodes → AreEffects p (deed_of p steps.Join t) t e × MachinesRun serves given p (deed_of p steps.Join t ∷ t) after nodes
  unfolding deed_of sent_at
  join-full p t service after nodes x e number count same n r =
      let g = gave-none (given service) x number in
      let none : nat_lt (joined t) MAX_SESSIONS ≡ false = subst (λ (n : ℕ). nat_lt n MAX_SESSIONS ≡ false) r.given_is g.0 in
      let silent = nothing-silent t in
      subst (λ (b : Bool). AreEffects p (cond b Joined Nothing) t e × MachinesRun serves given p (cond b Joined Nothing ∷ t) after nodes) (sym none) (
        record { posts = n.posts; began = n.began; returned = n.returned; heard = n.heard; updated = n.updated },
        record {
          serving = same (served (Nothing ∷ t)) (subst (serves service) (sym silent.quiet.serves) r.serving);
          given_is = count ∙ (g.1 ∙ (r.given_is ∙ sym silent.quiet.joins));
          nodes_stand = quietly p t nodes.params nodes.seats.items nodes.clouds.items Nothing silent (λ c. nothing-foreign c t) r.nodes_stand;
        },
      )

-- What steps do, and those of an operation that is run to its end.
use Rattle.std.proofs.Common.{◌≡◌, ℕ, zero, suc, ◌+◌, ◌-◌, ◌<◌, ◌≤◌, ◌^◌, Bool, true, false, ◌&&◌, ◌||◌, ◌==◌, not, nat_le, List, [], ◌∷◌, length, Option, Some, None, Result, Ok, Err, is_some, cond, refl, sym, ap, subst, ◌∙◌, inl, inr, add-zero, ◌⊎◌, arith}
use Rattle.std.specs.Option.{option_map}
use Rattle.std.specs.List.{list_any}
use Rattle.std.proofs.Math.Nat.{sub-zero}
use Rattle.std.proofs.lemmas.List.{length_push, append-nil}
use Rattle.std.proofs.lemmas.Option.{same_Some}
use Rattle.std.proofs.lemmas.Bool.{cases_Bool, le-leb, leb-true, eq-eqb}
use Rattle.hy_base.specs.declared.failure.NoMemory.{NoMemory}
use Rattle.hy_record.specs.declared.action.Action.{Action}
use Rattle.hy_record.specs.declared.message.MetaAsk.{MetaAsk}
use Rattle.hy_protocol.specs.Operations.{suits}
use Rattle.hy_world.proofs.Standing.{first-true}
use Rattle.hy_trace.specs.declared.step.Step.{Step}
use Rattle.hy_trace.specs.declared.step.Step.TheVariants as steps
use Rattle.hy_trace.specs.declared.step.TheConstants.{MAX_GIVES}
use Rattle.hy_trace.specs.Deeds.{Params, Deed, Joined, Began, Handed, Served, Granted, Stopped, Nothing, joined, begun, stops, is_joined, is_up, reply_of}
use Rattle.hy_trace.specs.Doing.{goes_on, with_gives, with_do}
use Rattle.hy_trace.specs.Messages.{Message, messages_of, message_at, step_of}
use Rattle.hy_trace.specs.Schedule.{deed_of, delivery, is_free, trace_of}
use Rattle.hy_trace.specs.Trace.{IsTrace}
use Rattle.hy_trace.proofs.Steps.{schedule-trace}
use Rattle.hy_log.specs.Kept.{Posted}
use Rattle.hy_log.specs.declared.effects.Effects.{Effects}
use Rattle.hy_log.specs.declared.log.Log.{Log}
use Rattle.hy_world.specs.declared.machines.Machines.{Machines}
use Rattle.hy_world.specs.declared.simulation.Simulation.{Simulation}
use Rattle.hy_log.specs.Effects.{AreEffects, post_of}
use Rattle.hy_log.specs.Log.{Keeps, posted, posted_at, started_of}
use Rattle.hy_sched.specs.declared.event.Event.{Event}
use Rattle.hy_sched.specs.declared.event.Event.TheVariants as events
use Rattle.hy_world.specs.declared.nodes.Nodes.{Nodes}
use Rattle.hy_world.specs.Schedules.{first_step, steps_with}
use Rattle.hy_world.specs.Nodes.{HasBegun, Does}
use Rattle.hy_world.specs.Machines.{MachinesStand, MachinesDo}
use Rattle.hy_world.specs.World.{DoesBy, Replays, ReplaysBy}
use Rattle.hy_log.proofs.Keeping.{posted-message, posted-count}
use Rattle.hy_world.proofs.Serving.{lift}

-- ---- deliveries

give-deed : (p : Params) (t : List Deed) (number : ℕ) (o : Option Message) → message_at number (messages_of p t) ≡ o → deed_of p (steps.Give number) t ≡ delivery p t (step_of p number t) o
unfolding deed_of
give-deed p t number o is = ap (delivery p t (step_of p number t)) is

give-none : (p : Params) (t : List Deed) (made : ℕ) (o : Option Message) → None ≡ option_map (λ m. posted made (post_of m)) o → delivery p t made o ≡ Nothing
give-none p t made None is = refl
give-none p t made (Some m) is = cc

-- no message of this number is kept
pub gives-none : (log : Log) (number : ℕ) (p : Params) (t : List Deed) → None ≡ posted_at number log.posts.items → Keeps log p t → deed_of p (steps.Give number) t ≡ Nothing
unfolding deed_of
gives-none log number p t none k = give-none p t (step_of p number t) (message_at number (messages_of p t)) (none ∙ (ap (posted_at number) k.posts_are ∙ posted-message p t number))

posted-parts : (a b : Posted) → ◌≡◌ {A = Option Posted} (Some a) (Some b) → (a.step ≡ b.step) × (b.post ≡ a.post)
posted-parts a b is = let e : a ≡ b = same_Some a b is in (ap (λ (x : Posted). x.step) e, sym (ap (λ (x : Posted). x.post) e))

module _ (M : Type 0) (serves : M → List MetaAsk → Type 0) (given : M → ℕ) where
  -- what machines do, they do whatever the log keeps
  pub does-by : (log : Log) (deed other : Params → List Deed → Deed) (old new : Machines M) (result : Result Effects NoMemory) → ((p : Params) (t : List Deed) → Keeps log p t → other p t ≡ deed p t) → MachinesDo serves given deed old new result → DoesBy serves given log other old new result
  does-by log deed other old new (Ok e) same d = λ p t trace few k r. subst (λ (x : Deed). AreEffects p x t e × MachinesStand serves given p (x ∷ t) new) (sym (same p t k)) (d p t trace few r)
  does-by log deed other old new (Err x) same d = d

  pub gives : (log : Log) (number : ℕ) (kept : Posted) (old new : Machines M) (result : Result Effects NoMemory) → Some kept ≡ posted_at number log.posts.items →
      ((message : Message) → post_of message ≡ kept.post → MachinesDo serves given (λ p t. delivery p t kept.step (Some message)) old new result) → DoesBy serves given log (λ p t. deed_of p (steps.Give number) t) old new result
  gives log number kept old new (Err x) is d = tt
  gives log number kept old new (Ok e) is d = λ p t trace few k r. by-message p t trace few r (message_at number (messages_of p t)) refl (is ∙ (ap (posted_at number) k.posts_are ∙ posted-message p t number))
    where
      by-message : (p : Params) (t : List Deed) → IsTrace p t → length t + 1 < 2 ^ 32 → MachinesStand serves given p t old → (o : Option Message) → message_at number (messages_of p t) ≡ o → Some kept ≡ option_map (λ m. posted (step_of p number t) (post_of m)) o → AreEffects p (deed_of p (steps.Give number) t) t e × MachinesStand serves given p (deed_of p (steps.Give number) t ∷ t) new
      by-message p t trace few r None at_it same = cc
      by-message p t trace few r (Some m) at_it same =
          let parts = posted-parts kept (posted (step_of p number t) (post_of m)) same in
          let deed : deed_of p (steps.Give number) t ≡ delivery p t kept.step (Some m) = give-deed p t number (Some m) at_it ∙ ap (λ (n : ℕ). delivery p t n (Some m)) (sym parts.0) in
          subst (λ (x : Deed). AreEffects p x t e × MachinesStand serves given p (x ∷ t) new) (sym deed) (d m parts.1 p t trace few r)

  -- an event's first step
  pub first-same : (log : Log) (event : Event) (step : Step) (old new : Machines M) (result : Result Effects NoMemory) → first_step event ≡ step → DoesBy serves given log (λ p t. deed_of p step t) old new result → DoesBy serves given log (λ p t. deed_of p (first_step event) t) old new result
  first-same log event step old new result is does = subst (λ (s : Step). DoesBy serves given log (λ p t. deed_of p s t) old new result) (sym is) does

  pub first-does : (log : Log) (event : Event) (step : Step) (old new : Machines M) (result : Result Effects NoMemory) → first_step event ≡ step → MachinesDo serves given (λ p t. deed_of p step t) old new result → DoesBy serves given log (λ p t. deed_of p (first_step event) t) old new result
  first-does log event step old new result is does = first-same log event step old new result is (does-by log (λ p t. deed_of p step t) (λ p t. deed_of p step t) old new result (λ p t k. refl) does)

  pub first-by : (log : Log) (event : Event) (step : Step) (service : M) (old new : Nodes) (result : Result Effects NoMemory) → first_step event ≡ step → Does (λ p t. deed_of p step t) old new result → DoesBy serves given log (λ p t. deed_of p (first_step event) t) (record { service = service; nodes = old }) (record { service = service; nodes = new }) result
  first-by log event step service old new result is does = first-does log event step (record { service = service; nodes = old }) (record { service = service; nodes = new }) result is (lift M serves given (λ p t. deed_of p step t) service old new result does)

  -- a step was taken, and its effects were kept
  pub taken : (old new : Machines M) (log after : Log) (e : Effects) (step : Step) → log.steps + 1 < 2 ^ 32 →
      DoesBy serves given log (λ p t. deed_of p step t) old new (Ok e) →
      ((p : Params) (d : Deed) (t : List Deed) → AreEffects p d t e → Keeps log p t → Keeps after p (d ∷ t)) →
      (p : Params) (before : List Step) → ReplaysBy serves given p before old log → ReplaysBy serves given p (step ∷ before) new after
  unfolding trace_of
  taken old new log after e step room does appends p before r =
      let count = r.log_keeps.steps_are in
      let few : length (trace_of p before) + 1 < 2 ^ 32 = subst (λ (n : ℕ). n + 1 < 2 ^ 32) count room in
      let both = does p (trace_of p before) (schedule-trace p before) few r.log_keeps r.machines_stand in
      record { machines_stand = both.1; log_keeps = appends p (deed_of p step (trace_of p before)) (trace_of p before) both.0 r.log_keeps }

-- an event that is no operation to be run to its end takes one step
pub one-step : (p : Params) (event : Event) (before : List Step) → ((client : ℕ) (action : Action) → event ≡ events.Do client action → ⊥) → steps_with p event before ≡ first_step event ∷ before
unfolding steps_with
one-step p (events.Do client action) before other = absurd (other client action refl)
one-step p events.Join before other = refl
one-step p (events.Invoke client action) before other = refl
one-step p (events.Give number) before other = refl
one-step p (events.Lie cloud client op key stamp say) before other = refl
one-step p (events.Tick client) before other = refl
one-step p (events.Stop client) before other = refl

-- ---- an operation that is run to its end

joined-more : (d : Deed) (t : List Deed) → joined t ≤ joined (d ∷ t)
unfolding joined
joined-more Joined t = omega arith
joined-more (Began c o a) t = omega arith
joined-more (Handed c o w cue) t = omega arith
joined-more (Served ask) t = omega arith
joined-more (Granted ask) t = omega arith
joined-more (Stopped c) t = omega arith
joined-more Nothing t = omega arith

begun-more : (c : ℕ) (d : Deed) (t : List Deed) → begun c t ≤ begun c (d ∷ t)
unfolding begun
begun-more c Joined t = omega arith
begun-more c (Began b o a) t = elim (cases_Bool (b == c)) [ inl is ↦ rw is (omega arith) | inr is ↦ rw is (omega arith) ]
begun-more c (Handed b o w cue) t = omega arith
begun-more c (Served ask) t = omega arith
begun-more c (Granted ask) t = omega arith
begun-more c (Stopped b) t = omega arith
begun-more c Nothing t = omega arith

joined-keeps : (c : ℕ) (d : Deed) (t : List Deed) → is_joined c t ≡ true → is_joined c (d ∷ t) ≡ true
joined-keeps c d t is =
    let parts = first-true (nat_le 1 c) (nat_le c (joined t)) is in
    let more = joined-more d t in
    let below = leb-true c (joined t) parts.1 in
    rw (parts.0, le-leb c (joined (d ∷ t)) (omega arith)) refl

has-begun-more : (p : Params) (c : ℕ) (step : Step) (before : List Step) → HasBegun p c before → HasBegun p c (step ∷ before)
unfolding trace_of
has-begun-more p c step before has =
    let t = trace_of p before in
    let more = begun-more c (deed_of p step t) t in
    let some = has.begun_is in
    record { joined_is = joined-keeps c (deed_of p step t) t has.joined_is; begun_is = omega arith }

free-parts : (p : Params) (c : ℕ) (t : List Deed) → is_free p c t ≡ true → (is_up c t && ((begun c t == 0) || is_some (reply_of p c (begun c t) t))) ≡ true
unfolding is_free
free-parts p c t free = free

up-parts : (c : ℕ) (t : List Deed) → is_up c t ≡ true → (is_joined c t && not (list_any (stops c) t)) ≡ true
unfolding is_up
up-parts c t up = up

began-some : (c o : ℕ) (a : Action) (t : List Deed) → 1 ≤ begun c (Began c o a ∷ t)
unfolding begun
began-some c o a t = rw (eq-eqb c c refl) (omega arith)

-- a free client that is asked has begun an operation
has-begun-now : (p : Params) (c : ℕ) (a : Action) (before : List Step) → (is_free p c (trace_of p before) && suits a) ≡ true → HasBegun p c (steps.Invoke c a ∷ before)
unfolding trace_of deed_of
has-begun-now p c a before begins =
    let t = trace_of p before in
    let free = (first-true (is_free p c t) (suits a) begins).0 in
    let up = (first-true (is_up c t) ((begun c t == 0) || is_some (reply_of p c (begun c t) t)) (free-parts p c t free)).0 in
    let joined_ = (first-true (is_joined c t) (not (list_any (stops c) t)) (up-parts c t up)).0 in
    rw begins (record { joined_is = joined-keeps c (Began c (begun c t + 1) a) t joined_; begun_is = began-some c (begun c t + 1) a t })

gives-stop : (fuel : ℕ) (p : Params) (c n : ℕ) (mid : List Step) → goes_on p c n mid ≡ false → with_gives fuel p c n mid ≡ mid
unfolding with_gives
gives-stop zero p c n mid no_more = refl
gives-stop (suc fuel) p c n mid no_more = rw no_more refl

gives-next : (fuel : ℕ) (p : Params) (c n : ℕ) (mid : List Step) → goes_on p c n mid ≡ true → with_gives (suc fuel) p c n mid ≡ with_gives fuel p c (n + 1) (steps.Give n ∷ mid)
unfolding with_gives
gives-next fuel p c n mid more = rw more refl

gives-step : (most i first : ℕ) (p : Params) (c : ℕ) (mid : List Step) → i < most → goes_on p c (first + i) mid ≡ true → with_gives (most - i) p c (first + i) mid ≡ with_gives (most - (i + 1)) p c (first + (i + 1)) (steps.Give (first + i) ∷ mid)
gives-step most i first p c mid below more =
    let left : most - i ≡ suc (most - (i + 1)) = omega arith in
    let number : (first + i) + 1 ≡ first + (i + 1) = omega arith in
    ap (λ (k : ℕ). with_gives k p c (first + i) mid) left ∙ gives-next (most - (i + 1)) p c (first + i) mid more ∙ ap (λ (k : ℕ). with_gives (most - (i + 1)) p c k (steps.Give (first + i) ∷ mid)) number

gives-end : (most i n : ℕ) (p : Params) (c : ℕ) (mid : List Step) → most ≤ i → with_gives (most - i) p c n mid ≡ mid
unfolding with_gives
gives-end most i n p c mid all = let none : most - i ≡ 0 = omega arith in ap (λ (k : ℕ). with_gives k p c n mid) none

pub sent-count : (p : Params) (t : List Deed) (log : Log) → Keeps log p t → length log.posts.items ≡ length (messages_of p t)
sent-count p t log k = ap length k.posts_are ∙ posted-count p t

pub trace-length : (p : Params) (steps : List Step) → length (trace_of p steps) ≡ length steps
unfolding trace_of
trace-length p [] = refl
trace-length p (step ∷ before) = ap suc (trace-length p before)

pub goes-on-then : (p : Params) (c n sent : ℕ) (run : List Step) (awaits : Bool) → true ≡ awaits → awaits ≡ not (is_some (reply_of p c (begun c (trace_of p run)) (trace_of p run))) → sent ≡ length (messages_of p (trace_of p run)) → nat_le n sent ≡ goes_on p c n run
unfolding goes_on
goes-on-then p c n sent run awaits yes_ is sent_is = ap (nat_le n) sent_is ∙ ap (λ (b : Bool). b && nat_le n (length (messages_of p (trace_of p run)))) (yes_ ∙ is)

pub goes-on-else : (p : Params) (c n : ℕ) (run : List Step) (awaits : Bool) → false ≡ awaits → awaits ≡ not (is_some (reply_of p c (begun c (trace_of p run)) (trace_of p run))) → false ≡ goes_on p c n run
unfolding goes_on
goes-on-else p c n run awaits no_ is = ap (λ (b : Bool). b && nat_le n (length (messages_of p (trace_of p run)))) (no_ ∙ is)

-- the world stands for steps in the middle of an operation's deliveries
pub record IsGiving {M : Type 0} (serves : M → List MetaAsk → Type 0) (given : M → ℕ) (p : Params) (before : List Step) (most c first i : ℕ) (s : Simulation M) : Type 0 where
  pub mid : List Step
  pub begun_is : HasBegun p c mid
  pub replays : Replays serves given p mid s
  pub rest : with_gives most p c first before ≡ with_gives (most - i) p c (first + i) mid

module _ (M : Type 0) (serves : M → List MetaAsk → Type 0) (given : M → ℕ) where
  pub gives-begin : (p : Params) (before : List Step) (most c first : ℕ) (s : Simulation M) → HasBegun p c before → Replays serves given p before s → IsGiving serves given p before most c first 0 s
  gives-begin p before most c first s has r = record { mid = before; begun_is = has; replays = r; rest = rw (sub-zero, add-zero) refl }

  pub gives-more : (p : Params) (before : List Step) (most c first i : ℕ) (s u : Simulation M) → i < most → ((run : List Step) → HasBegun p c run → Replays serves given p run s → goes_on p c (first + i) run ≡ true) →
      ((run : List Step) → Replays serves given p run s → Replays serves given p (steps.Give (first + i) ∷ run) u) → IsGiving serves given p before most c first i s → IsGiving serves given p before most c first (i + 1) u
  gives-more p before most c first i s u below more goes g =
      record {
        mid = steps.Give (first + i) ∷ g.mid;
        begun_is = has-begun-more p c (steps.Give (first + i)) g.mid g.begun_is;
        replays = goes g.mid g.replays;
        rest = g.rest ∙ gives-step most i first p c g.mid below (more g.mid g.begun_is g.replays);
      }

  pub gives-over : (p : Params) (before : List Step) (most c first i : ℕ) (s : Simulation M) → (most ≤ i) ⊎ ((run : List Step) → HasBegun p c run → Replays serves given p run s → goes_on p c (first + i) run ≡ false) →
      IsGiving serves given p before most c first i s → Replays serves given p (with_gives most p c first before) s
  gives-over p before most c first i s (inl all) g = subst (λ (x : List Step). Replays serves given p x s) (sym (g.rest ∙ gives-end most i (first + i) p c g.mid all)) g.replays
  gives-over p before most c first i s (inr none) g = subst (λ (x : List Step). Replays serves given p x s) (sym (g.rest ∙ gives-stop (most - i) p c (first + i) g.mid (none g.mid g.begun_is g.replays))) g.replays

  -- the operation began exactly where the log of those that began is longer
  began-more : (p : Params) (c : ℕ) (a : Action) (t : List Deed) (b : Bool) → (is_free p c t && suits a) ≡ b → length (started_of (deed_of p (steps.Invoke c a) t ∷ t)) ≡ length (started_of t) + cond b 1 0
  unfolding deed_of started_of
  began-more p c a t true is = rw is (length_push (started_of t) (record { step = length t + 1; beginning = record { client = c; op = begun c t + 1; action = a } }))
  began-more p c a t false is = rw is (rw append-nil (sym (add-zero (length (started_of t)))))

  counts : (p : Params) (c : ℕ) (a : Action) (before : List Step) (s u : Simulation M) (b : Bool) → (is_free p c (trace_of p before) && suits a) ≡ b → Replays serves given p before s → Replays serves given p (steps.Invoke c a ∷ before) u → length u.log.starts.items ≡ length s.log.starts.items + cond b 1 0
  unfolding trace_of
  counts p c a before s u b is r q = ap length q.log_keeps.starts_are ∙ began-more p c a (trace_of p before) b is ∙ ap (λ (k : ℕ). k + cond b 1 0) (ap length (sym r.log_keeps.starts_are))

  pub do-began : (p : Params) (c first : ℕ) (a : Action) (before : List Step) (s u : Simulation M) → Replays serves given p before s → Replays serves given p (steps.Invoke c a ∷ before) u → length s.log.starts.items < length u.log.starts.items → first ≡ length s.log.posts.items + 1 →
      HasBegun p c (steps.Invoke c a ∷ before) × (with_gives MAX_GIVES p c first (steps.Invoke c a ∷ before) ≡ with_do p c a before)
  unfolding with_do
  do-began p c first a before s u r q more first_is =
      let count : first ≡ length (messages_of p (trace_of p before)) + 1 = first_is ∙ ap (λ (k : ℕ). k + 1) (sent-count p (trace_of p before) s.log r.log_keeps) in
      elim (cases_Bool (is_free p c (trace_of p before) && suits a)) [
        | inl free ↦ (has-begun-now p c a before free, ap (λ (n : ℕ). with_gives MAX_GIVES p c n (steps.Invoke c a ∷ before)) count ∙ sym (ap (λ (b : Bool). cond b (with_gives MAX_GIVES p c (length (messages_of p (trace_of p before)) + 1) (steps.Invoke c a ∷ before)) (steps.Invoke c a ∷ before)) free))
        | inr busy ↦ let same = counts p c a before s u false busy r q in absurd (omega arith)
      ]

  pub do-refused : (p : Params) (c : ℕ) (a : Action) (before : List Step) (s u : Simulation M) → Replays serves given p before s → Replays serves given p (steps.Invoke c a ∷ before) u → length u.log.starts.items ≤ length s.log.starts.items → steps.Invoke c a ∷ before ≡ with_do p c a before
  unfolding with_do
  do-refused p c a before s u r q same =
      elim (cases_Bool (is_free p c (trace_of p before) && suits a)) [
        | inl free ↦ let more = counts p c a before s u true free r q in absurd (omega arith)
        | inr busy ↦ sym (ap (λ (b : Bool). cond b (with_gives MAX_GIVES p c (length (messages_of p (trace_of p before)) + 1) (steps.Invoke c a ∷ before)) (steps.Invoke c a ∷ before)) busy)
      ]

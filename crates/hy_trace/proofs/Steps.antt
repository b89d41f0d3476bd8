-- The trace of every schedule is a trace.
use Rattle.std.proofs.Common.{◌≡◌, ◌≢◌, ℕ, zero, suc, ◌+◌, ◌-◌, ◌≤◌, ◌<◌, Bool, true, false, cond, not, List, [], ◌∷◌, ◌++◌, Option, Some, None, refl, sym, ap, subst, ◌∙◌, inl, inr, arith}
use Rattle.std.specs.Prelude.{◌&&◌, ◌||◌, ◌==◌, ◌⊎◌, is_some, nat_lt, nat_le, slice_get, length}
use Rattle.std.proofs.lemmas.Option.{none-some, same_Some, cond_some}
use Rattle.std.proofs.lemmas.Bool.{eq-eqb, eqb-true, eqb-false, false≢true, le-leb, lt-leb, ltb-true}
use Rattle.hy_base.specs.declared.limits.TheConstants.{MAX_SESSIONS}
use Rattle.hy_record.specs.declared.action.Action.{Action}
use Rattle.hy_record.specs.declared.action.Action.TheVariants as asked
use Rattle.hy_record.specs.declared.action.Reply.{Reply}
use Rattle.hy_meta.proofs.Rising.{cases_bool, both}
use Rattle.hy_record.specs.declared.turn.Cue.{Cue}
use Rattle.hy_record.specs.declared.turn.Cue.TheVariants as cues
use Rattle.hy_trace.specs.declared.step.Step.{Step}
use Rattle.hy_trace.specs.declared.step.Step.TheVariants as steps
use Rattle.hy_protocol.specs.Inputs.{addresses}
use Rattle.hy_protocol.specs.Write.{write_reply}
use Rattle.hy_protocol.specs.Read.{read_reply}
use Rattle.hy_protocol.specs.Collect.{collect_reply}
use Rattle.hy_trace.specs.Deeds.{Params, Deed, Joined, Began, Handed, Served, Granted, Stopped, Nothing, Start, inputs_of, start_of, start_at, reply_of, reply_after, joined, begun, is_up}
use Rattle.hy_trace.specs.Messages.{Message, Ask, Say, Request, Answer, messages_of, message_at, sent_at, IsAmong, IsSent, IsSentAt, step_of}
use Rattle.hy_protocol.specs.Swap.{swap_reply}
use Rattle.hy_protocol.specs.Operations.{key_of, suits, replied}
use Rattle.hy_trace.specs.Trace.{IsMade, IsDelivered, IsIdle, Fits, IsTrace}
use Rattle.hy_trace.specs.Schedule.{awaited, hand, is_free, client_of, delivery, deed_of, trace_of}
use Rattle.hy_trace.proofs.Growth.{or-none, or-first, or-cases, some-is, inputs-step, start-keeps}
use Rattle.hy_trace.proofs.Heard.{IsInput, inputs-heard}

-- messages that were sent

pub at-sent : (p : Params) (t : List Deed) (w : ℕ) (m : Message) → IsSentAt p t w m → IsSent p t m
unfolding IsSentAt IsSent
at-sent p [] w m sent = sent
at-sent p (d ∷ t) w m (inl now) = inl now.1
at-sent p (d ∷ t) w m (inr was) = inr (at-sent p t w m was)

-- a message at a place of a list is one of the list
got-among : (xs : List Message) (i : ℕ) (m : Message) → slice_get xs i ≡ Some m → IsAmong xs m
got-among [] i m is = absurd (none-some m is)
got-among (x ∷ xs) zero m is = inl (same_Some x m is)
got-among (x ∷ xs) (suc i) m is = inr (got-among xs i m is)

-- an element of two lists joined is in front, or behind it
got-joined : (xs ys : List Message) (i : ℕ) (m : Message) → slice_get (xs ++ ys) i ≡ Some m → ((i < length xs) × (slice_get xs i ≡ Some m)) ⊎ ((length xs ≤ i) × IsAmong ys m)
got-joined [] ys i m is = inr (omega arith, got-among ys i m is)
got-joined (x ∷ xs) ys zero m is = inl (omega arith, is)
got-joined (x ∷ xs) ys (suc i) m is = elim (got-joined xs ys i m is) [ inl front ↦ (let less = front.0 in inl (omega (arith, less), front.1)) | inr behind ↦ (let le = behind.0 in inr (omega (arith, le), behind.1)) ]

-- a message at a place of the list was sent at the step that is told for its number
got-sent : (p : Params) (t : List Deed) (i : ℕ) (m : Message) → slice_get (messages_of p t) i ≡ Some m → IsSentAt p t (step_of p (i + 1) t) m
unfolding messages_of IsSentAt step_of
got-sent p [] i m is = none-some m is
got-sent p (d ∷ t) i m is =
    elim (got-joined (messages_of p t) (sent_at p d t) i m is) [
      | inl front ↦ (let less = front.0 in let test : nat_le (i + 1) (length (messages_of p t)) ≡ true = le-leb (i + 1) (length (messages_of p t)) (omega (arith, less)) in rw test (inr (got-sent p t i m front.1)))
      | inr behind ↦ (let le = behind.0 in let test : nat_le (i + 1) (length (messages_of p t)) ≡ false = lt-leb (i + 1) (length (messages_of p t)) (omega (arith, le)) in rw test (inl (refl, behind.1)))
    ]

-- a message of this number was sent at the step that is told for it
pub message-sent : (p : Params) (t : List Deed) (number : ℕ) (m : Message) → message_at number (messages_of p t) ≡ Some m → IsSentAt p t (step_of p number t) m
message-sent p t number m is =
    elim (cases_bool (nat_lt 0 number)) [
      | inl some ↦ (let low = ltb-true 0 number some in let same : number - 1 + 1 ≡ number = omega (arith, low) in subst (λ (x : ℕ). IsSentAt p t (step_of p x t) m) same (got-sent p t (number - 1) m (rw some at is)))
      | inr none ↦ absurd (none-some m (rw none at is))
    ]

-- operations and their numbers

pub replied-keeps : (p : Params) (c o : ℕ) (a : Action) (cue : Cue) (before : List Cue) (r : Reply) → replied p.f p.k c o a before ≡ Some r → replied p.f p.k c o a (cue ∷ before) ≡ Some r
unfolding replied write_reply read_reply collect_reply swap_reply
replied-keeps p c o (asked.Swap key expected v) cue before r is = or-first _ _ r is
replied-keeps p c o (asked.Put key v) cue before r is = or-first _ _ r is
replied-keeps p c o (asked.Delete key) cue before r is = or-first _ _ r is
replied-keeps p c o (asked.Get key) cue before r is = or-first _ _ r is
replied-keeps p c o (asked.Collect key) cue before r is = or-first _ _ r is

-- an operation that replied
pub record HasReplied (p : Params) (client op : ℕ) (reply : Reply) (t : List Deed) : Type 0 where
  pub start : Start
  pub began : start_of client op t ≡ Some start
  pub replies : replied p.f p.k client op start.action (inputs_of client op t) ≡ Some reply

pub has-replied : (p : Params) (c o : ℕ) (t : List Deed) (r : Reply) → reply_of p c o t ≡ Some r → HasReplied p c o r t
unfolding reply_of
has-replied p c o t r is = by_start (start_of c o t) refl is
  where
    by_start : (s : Option Start) → start_of c o t ≡ s → reply_after p c o (inputs_of c o t) s ≡ Some r → HasReplied p c o r t
    by_start None began is = absurd (none-some r is)
    by_start (Some s) began is = record { start = s; began = began; replies = is }

pub replied-has : (p : Params) (c o : ℕ) (t : List Deed) (r : Reply) → HasReplied p c o r t → reply_of p c o t ≡ Some r
unfolding reply_of
replied-has p c o t r h = ap (reply_after p c o (inputs_of c o t)) h.began ∙ h.replies

pub has-keeps : (p : Params) (c o : ℕ) (d : Deed) (t : List Deed) (r : Reply) → Fits p t d → HasReplied p c o r t → HasReplied p c o r (d ∷ t)
has-keeps p c o d t r fits h = record {
  start = h.start;
  began = start-keeps c o d t h.start h.began;
  replies = elim (inputs-step p c o d t fits) [
    | inl same ↦ ap (replied p.f p.k c o h.start.action) same ∙ h.replies
    | inr one ↦ ap (replied p.f p.k c o h.start.action) one.2 ∙ replied-keeps p c o h.start.action one.0 (inputs_of c o t) r h.replies
  ];
}

pub reply-keeps : (p : Params) (c o : ℕ) (d : Deed) (t : List Deed) → Fits p t d → is_some (reply_of p c o t) ≡ true → is_some (reply_of p c o (d ∷ t)) ≡ true
reply-keeps p c o d t fits is =
    let r = some-is (reply_of p c o t) is in
    ap is_some (replied-has p c o (d ∷ t) r.0 (has-keeps p c o d t r.0 fits (has-replied p c o t r.0 r.1)))

-- operations are numbered from 1, and all but the last have replied
pub record AreNumbered (p : Params) (t : List Deed) : Type 0 where
  pub range : (c o : ℕ) (s : Start) → start_of c o t ≡ Some s → (1 ≤ o) × (o ≤ begun c t)
  pub past : (c o : ℕ) → is_some (start_of c o t) ≡ true → o ≢ begun c t → is_some (reply_of p c o t) ≡ true

-- a deed that begins nothing
quiet-numbered : (p : Params) (d : Deed) (t : List Deed) → Fits p t d → ((c o : ℕ) → start_of c o (d ∷ t) ≡ start_of c o t) → ((c : ℕ) → begun c (d ∷ t) ≡ begun c t) → AreNumbered p t → AreNumbered p (d ∷ t)
quiet-numbered p d t fits starts counts n = record {
  range = λ c o s is. rw (counts c) (n.range c o s (sym (starts c o) ∙ is));
  past = λ c o is apart. reply-keeps p c o d t fits (n.past c o (ap is_some (sym (starts c o)) ∙ is) (λ e. apart (e ∙ sym (counts c))));
}

began-count : (c o : ℕ) (a : Action) (t : List Deed) → begun c (Began c o a ∷ t) ≡ begun c t + 1
unfolding begun
began-count c o a t = let same : (c == c) ≡ true = eq-eqb c c refl in rw same refl

began-other : (c o b : ℕ) (a : Action) (t : List Deed) → (c == b) ≡ false → begun b (Began c o a ∷ t) ≡ begun b t
unfolding begun
began-other c o b a t apart = rw apart refl

-- an operation that began up to a beginning is that one, or began before
start-cases : (c o b n : ℕ) (a : Action) (t : List Deed) (s : Start) → start_of b n (Began c o a ∷ t) ≡ Some s → (start_of b n t ≡ Some s) ⊎ ((c ≡ b) × (o ≡ n))
unfolding start_of
start-cases c o b n a t s is =
    elim (or-cases (start_of b n t) (start_at b n (Began c o a) t) s is) [
      | inl was ↦ inl was
      | inr now ↦
          let tests = both (c == b) (o == n) (cond_some (c == b && o == n) (record { action = a; before = t }) s now.1).0 in
          inr (eqb-true c b tests.0, eqb-true o n tests.1)
    ]

began-numbered : (p : Params) (c o : ℕ) (a : Action) (t : List Deed) → Fits p t (Began c o a) → AreNumbered p t → AreNumbered p (Began c o a ∷ t)
began-numbered p c o a t fits n = record {
  range = λ b m s is. in_range b m s (start-cases c o b m a t s is);
  past = λ b m is apart. (let s = some-is (start_of b m (Began c o a ∷ t)) is in replies b m s.0 (start-cases c o b m a t s.0 s.1) apart);
}
  where
    more : (b : ℕ) → begun b t ≤ begun b (Began c o a ∷ t)
    more b = elim (cases_bool (c == b)) [
      | inl same ↦ let e : c ≡ b = eqb-true c b same in let count = began-count c o a t in subst (λ (x : ℕ). begun x t ≤ begun x (Began c o a ∷ t)) e (omega (arith, count))
      | inr apart ↦ let count = began-other c o b a t apart in omega (arith, count)
    ]

    in_range : (b m : ℕ) (s : Start) → (start_of b m t ≡ Some s) ⊎ ((c ≡ b) × (o ≡ m)) → (1 ≤ m) × (m ≤ begun b (Began c o a ∷ t))
    in_range b m s (inl was) = let r = n.range b m s was in let grows = more b in (r.0, omega (arith, r.1, grows))
    in_range b m s (inr new) =
        let number = fits.0.number in
        let count = began-count c o a t in
        let at_own : (1 ≤ o) × (o ≤ begun c (Began c o a ∷ t)) = (omega (arith, number), omega (arith, number, count)) in
        subst (λ (x : ℕ). (1 ≤ m) × (m ≤ begun x (Began c o a ∷ t))) new.0 (subst (λ (y : ℕ). (1 ≤ y) × (y ≤ begun c (Began c o a ∷ t))) new.1 at_own)

    replies : (b m : ℕ) (s : Start) → (start_of b m t ≡ Some s) ⊎ ((c ≡ b) × (o ≡ m)) → m ≢ begun b (Began c o a ∷ t) → is_some (reply_of p b m (Began c o a ∷ t)) ≡ true
    replies b m s (inr new) apart = let number = fits.0.number in let count = began-count c o a t in absurd (apart (sym new.1 ∙ (omega (arith, number, count) ∙ ap (λ (x : ℕ). begun x (Began c o a ∷ t)) new.0)))
    replies b m s (inl was) apart =
        reply-keeps p b m (Began c o a) t fits
        (elim (cases_bool (c == b)) [
          | inl same ↦
              let e : c ≡ b = eqb-true c b same in
              let here : start_of c m t ≡ Some s = ap (λ (x : ℕ). start_of x m t) e ∙ was in
              subst (λ (x : ℕ). is_some (reply_of p x m t) ≡ true) e (fits.0.settled m (λ (is : o ≡ m). none-some s (sym fits.0.fresh ∙ (ap (λ (y : ℕ). start_of c y t) is ∙ here))) (ap is_some here))
          | inr other ↦ n.past b m (ap is_some was) (λ e. apart (e ∙ sym (began-other c o b a t other)))
        ])

none-begun : (c o : ℕ) (s : Start) → start_of c o [] ≡ Some s → ⊥
unfolding start_of
none-begun c o s is = none-some s is

none-some-begun : (c o : ℕ) → is_some (start_of c o []) ≡ true → ⊥
unfolding start_of
none-some-begun c o is = false≢true is

pub trace-numbered : (p : Params) (t : List Deed) → IsTrace p t → AreNumbered p t
unfolding IsTrace start_of begun
trace-numbered p [] trace = record { range = λ c o s is. absurd (none-begun c o s is); past = λ c o is apart. absurd (none-some-begun c o is) }
trace-numbered p (Began c o a ∷ t) trace = began-numbered p c o a t trace.0 (trace-numbered p t trace.1)
trace-numbered p (Joined ∷ t) trace = quiet-numbered p Joined t trace.0 (λ c o. or-none (start_of c o t)) (λ c. refl) (trace-numbered p t trace.1)
trace-numbered p (Handed b n w cue ∷ t) trace = quiet-numbered p (Handed b n w cue) t trace.0 (λ c o. or-none (start_of c o t)) (λ c. refl) (trace-numbered p t trace.1)
trace-numbered p (Served ask ∷ t) trace = quiet-numbered p (Served ask) t trace.0 (λ c o. or-none (start_of c o t)) (λ c. refl) (trace-numbered p t trace.1)
trace-numbered p (Granted ask ∷ t) trace = quiet-numbered p (Granted ask) t trace.0 (λ c o. or-none (start_of c o t)) (λ c. refl) (trace-numbered p t trace.1)
trace-numbered p (Stopped b ∷ t) trace = quiet-numbered p (Stopped b) t trace.0 (λ c o. or-none (start_of c o t)) (λ c. refl) (trace-numbered p t trace.1)
trace-numbered p (Nothing ∷ t) trace = quiet-numbered p Nothing t trace.0 (λ c o. or-none (start_of c o t)) (λ c. refl) (trace-numbered p t trace.1)

-- an operation that did not begin has no inputs
pub no-inputs : (p : Params) (c o : ℕ) (t : List Deed) → IsTrace p t → start_of c o t ≡ None → inputs_of c o t ≡ []
no-inputs p c o t trace fresh = by_inputs (inputs_of c o t) refl
  where
    by_inputs : (inputs : List Cue) → inputs_of c o t ≡ inputs → inputs_of c o t ≡ []
    by_inputs [] is = is
    by_inputs (cue ∷ before) is =
        let h = inputs-heard p c o cue t trace (subst (λ (x : List Cue). IsInput x cue) (sym is) (inl refl)) in
        absurd (none-some h.start (sym fresh ∙ h.began))

none-is : {A : Type 0} (o : Option A) → ((x : A) → o ≡ Some x → ⊥) → o ≡ None
none-is None never = refl
none-is (Some x) never = absurd (never x refl)

either : (a b : Bool) → (a || b) ≡ true → (a ≡ true) ⊎ (b ≡ true)
either true b is = inl refl
either false b is = inr is

-- a free client can begin its next operation
pub free-idle : (p : Params) (c : ℕ) (t : List Deed) → IsTrace p t → is_free p c t ≡ true → IsIdle p c (begun c t + 1) t
unfolding is_free
free-idle p c t trace free =
    let n = trace-numbered p t trace in
    let fresh : start_of c (begun c t + 1) t ≡ None = none-is (start_of c (begun c t + 1) t) (λ s is. (let r = n.range c (begun c t + 1) s is in omega (arith, r.1))) in
    record {
      number = refl;
      fresh = fresh;
      settled = λ other apart is. (elim (cases_bool (other == begun c t)) [
        | inr past ↦ n.past c other is (eqb-false other (begun c t) past)
        | inl last ↦ elim (either (begun c t == 0) (is_some (reply_of p c (begun c t) t)) (both (is_up c t) (begun c t == 0 || is_some (reply_of p c (begun c t) t)) free).1) [
          | inl none ↦
              let s = some-is (start_of c other t) is in
              let r = n.range c other s.0 s.1 in
              let zero_ : begun c t ≡ 0 = eqb-true (begun c t) 0 none in
              absurd (omega (arith, r.0, r.1, zero_))
          | inr done ↦ subst (λ (x : ℕ). is_some (reply_of p c x t) ≡ true) (sym (eqb-true other (begun c t) last)) done
        ]
      ]);
      inputs = no-inputs p c (begun c t + 1) t trace fresh;
    }

fits-either : (p : Params) (t : List Deed) (b : Bool) (x y : Deed) → (b ≡ true → Fits p t x) → Fits p t y → Fits p t (cond b x y)
fits-either p t true x y first second = first refl
fits-either p t false x y first second = second

no-reply : (o : Option Reply) → not (is_some o) ≡ true → o ≡ None
no-reply None is = refl
no-reply (Some r) is = absurd (false≢true is)

awaited-fits : (p : Params) (c o w : ℕ) (cue : Cue) (t : List Deed) (start : Option Start) → start_of c o t ≡ start → IsDelivered p t cue → IsMade p t w cue → Fits p t (awaited p c o w cue t start)
awaited-fits p c o w cue t None began delivered made = tt
awaited-fits p c o w cue t (Some s) began delivered made =
    fits-either p t (is_up c t && not (is_some (replied p.f p.k c o s.action (inputs_of c o t))) && addresses c o (key_of s.action) cue) (Handed c o w cue) Nothing
    (λ tests. (
    let outer = both (is_up c t && not (is_some (replied p.f p.k c o s.action (inputs_of c o t)))) (addresses c o (key_of s.action) cue) tests in
    let inner = both (is_up c t) (not (is_some (replied p.f p.k c o s.action (inputs_of c o t)))) outer.0 in
    (record { start = s; began = began; unfinished = no-reply (replied p.f p.k c o s.action (inputs_of c o t)) inner.1; own = outer.1; delivered = delivered }, made)))
    tt

pub hand-fits : (p : Params) (c w : ℕ) (cue : Cue) (t : List Deed) → IsDelivered p t cue → IsMade p t w cue → Fits p t (hand p c w cue t)
unfolding hand
hand-fits p c w cue t delivered made = awaited-fits p c (begun c t) w cue t (start_of c (begun c t) t) refl delivered made

-- what a delivery does fits
pub delivery-fits : (p : Params) (t : List Deed) (w : ℕ) (o : Option Message) → ((m : Message) → o ≡ Some m → IsSentAt p t w m) → Fits p t (delivery p t w o)
delivery-fits p t w None sent = tt
delivery-fits p t w (Some (Ask ask)) sent = at-sent p t w (Ask ask) (sent (Ask ask) refl)
delivery-fits p t w (Some (Say say)) sent = hand-fits p (client_of say) w (cues.Meta say) t (at-sent p t w (Say say) (sent (Say say) refl)) (sent (Say say) refl)
delivery-fits p t w (Some (Request ask)) sent =
    elim (cases_bool (p.is_liar ask.cloud)) [
      | inl liar ↦ rw liar tt
      | inr honest ↦ rw honest (at-sent p t w (Request ask) (sent (Request ask) refl), honest)
    ]
delivery-fits p t w (Some (Answer reply)) sent = hand-fits p reply.client w (cues.Cloud reply) t (inl (at-sent p t w (Answer reply) (sent (Answer reply) refl))) tt

-- what a step does fits
pub deed-fits : (p : Params) (step : Step) (t : List Deed) → IsTrace p t → Fits p t (deed_of p step t)
unfolding deed_of
deed-fits p steps.Join t trace = fits-either p t (nat_lt (joined t) MAX_SESSIONS) Joined Nothing (λ is. tt) tt
deed-fits p (steps.Invoke client action) t trace = fits-either p t (is_free p client t && suits action) (Began client (begun client t + 1) action) Nothing (λ tests. (let parts = both (is_free p client t) (suits action) tests in (free-idle p client t trace parts.0, parts.1))) tt
deed-fits p (steps.Give number) t trace = delivery-fits p t (step_of p number t) (message_at number (messages_of p t)) (λ m is. message-sent p t number m is)
deed-fits p (steps.Lie reply) t trace = fits-either p t (p.is_liar reply.cloud) (hand p reply.client 0 (cues.Cloud reply) t) Nothing (λ liar. hand-fits p reply.client 0 (cues.Cloud reply) t (inr (inl liar)) tt) tt
deed-fits p (steps.Tick client) t trace = hand-fits p client 0 cues.Tick t tt tt
deed-fits p (steps.Stop client) t trace = fits-either p t (nat_le 1 client && nat_le client (joined t)) (Stopped client) Nothing (λ is. tt) tt

pub schedule-trace : (p : Params) (schedule : List Step) → IsTrace p (trace_of p schedule)
unfolding trace_of IsTrace
schedule-trace p [] = tt
schedule-trace p (step ∷ before) = (deed-fits p step (trace_of p before) (schedule-trace p before), schedule-trace p before)

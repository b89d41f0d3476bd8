-- How far the operations of all clients are.
use Rattle.std.proofs.Common.{◌≡◌, ℕ, ◌+◌, ◌-◌, ◌<◌, Bool, true, ◌&&◌, ◌==◌, not, List, [], ◌∷◌, ◌++◌, map, length, slice_index_or, Option, Some, None, is_some, cond, refl, sym, ap, subst, ◌∙◌, inl, inr, arith}
use Rattle.std.specs.List.{range_with_len}
use Rattle.std.specs.Option.{option_map}
use Rattle.std.proofs.Math.Nat.{zero-add}
use Rattle.std.proofs.lemmas.Bool.{cases_eq, cases_lt}
use Rattle.std.proofs.lemmas.List.FromFn.{get_or-map-range_with_len, map-range_with_len_more}
use Rattle.hy_record.specs.declared.action.Reply.{Reply}
use Rattle.hy_protocol.specs.Operations.{replied}
use Rattle.hy_protocol.specs.Progress as protocol
use Rattle.hy_protocol.specs.Session.{Session, fresh_session, session_progress, progress_by, is_running, reply_by}
use Rattle.hy_operation.specs.declared.progress.Progress.{Progress}
use Rattle.hy_client.specs.declared.client.Running.{Running}
use Rattle.hy_client.specs.Clients.{running_of}
use Rattle.hy_trace.specs.Deeds.{Params, Deed, Start, begun, joined, start_of, inputs_of, reply_of, reply_after}
use Rattle.hy_world.specs.declared.seat.Seat.{Seat}
use Rattle.hy_world.specs.declared.nodes.Nodes.{Nodes}
use Rattle.hy_world.specs.Nodes.{action_of, session_of, NodesStand}
use Rattle.hy_world.specs.Seats.{StandsForSeat}
use Rattle.hy_log.specs.History.{told_progress, AreRunning}
use Rattle.hy_world.proofs.Standing.{Standing}

-- what a client tells of its running operation
pub told-running : (s : Session) (running : Running) → Some running ≡ running_of s → Some (record { phase = running.phase; have = running.have; need = running.need }) ≡ option_map told_progress (session_progress s)
told-running s running is = by-progress (session_progress s) is
  where
    by-progress : (o : Option protocol.Progress) → Some running ≡ option_map (λ progress. record { op = s.begun; phase = progress.phase; have = progress.have; need = progress.need }) o → Some (record { phase = running.phase; have = running.have; need = running.need }) ≡ option_map told_progress o
    by-progress None e = cc
    by-progress (Some progress) e = cc

pub told-none : (s : Session) → ◌≡◌ {A = Option Running} None (running_of s) → None ≡ option_map told_progress (session_progress s)
told-none s is = by-progress (session_progress s) is
  where
    by-progress : (o : Option protocol.Progress) → ◌≡◌ {A = Option Running} None (option_map (λ progress. record { op = s.begun; phase = progress.phase; have = progress.have; need = progress.need }) o) → None ≡ option_map told_progress o
    by-progress None e = refl
    by-progress (Some progress) e = cc

-- how far the client of this place is, from 0
abbrev pub progress_at : Params → List Deed → ℕ → Option Progress
progress_at p t i = option_map told_progress (session_progress (session_of p (i + 1) t))

-- the list with one client more
pub running-more : (p : Params) (t : List Deed) (n : ℕ) (list more : List (Option Progress)) (x : Option Progress) → more ≡ list ++ x ∷ [] → x ≡ progress_at p t n → list ≡ map (progress_at p t) (range_with_len 0 n) → more ≡ map (progress_at p t) (range_with_len 0 (n + 1))
running-more p t n list more x is x_is before =
    is ∙ ap (λ (y : Option Progress). list ++ y ∷ []) x_is ∙ ap (λ (xs : List (Option Progress)). xs ++ progress_at p t n ∷ []) before ∙ sym (map-range_with_len_more (progress_at p t) 0 n n (zero-add n))

-- a client tells how far its session is
pub told-at : (p : Params) (t : List Deed) (w : Nodes) (i : ℕ) (seat : Seat) (seats : List Seat) (x : Option Progress) → NodesStand p t w → seats ≡ w.seats.items → i < length seats → seat ≡ slice_index_or seats i seat → ((s : Session) → StandsForSeat seat s → x ≡ option_map told_progress (session_progress s)) → x ≡ progress_at p t i
told-at p t w i seat seats x r is inside seat_is tells =
    let stands : (i : ℕ) (other : Seat) → i < length seats → StandsForSeat (slice_index_or seats i other) (session_of p (i + 1) t) = subst (λ (xs : List Seat). Standing p t xs) (sym is) r.standing in
    tells (session_of p (i + 1) t) (subst (λ (z : Seat). StandsForSeat z (session_of p (i + 1) t)) (sym seat_is) (stands i seat inside))

-- a client that was asked nothing began no operation
unasked : (p : Params) (c : ℕ) (t : List Deed) (start : Start) → session_of p c t ≡ fresh_session p.f p.k c → start_of c (begun c t) t ≡ Some start → ⊥
unfolding session_of
unasked p c t start fresh began =
    let none : action_of (start_of c (begun c t) t) ≡ None = ap (λ (s : Session). s.action) fresh in
    let some : action_of (start_of c (begun c t) t) ≡ Some start.action = ap action_of began in
    cc

-- the progress of a session whose last operation has no reply
running-session : (p : Params) (c : ℕ) (t : List Deed) (start : Start) → is_some (session_of p c t).action ≡ not ((session_of p c t).begun == 0) → start_of c (begun c t) t ≡ Some start → reply_of p c (begun c t) t ≡ None →
    session_progress (session_of p c t) ≡ Some (protocol.progress_of p.f p.k c (begun c t) start.action (inputs_of c (begun c t) t))
unfolding session_progress is_running session_of reply_of
running-session p c t start asked began none =
    let o = begun c t in
    let s = session_of p c t in
    let some : not (o == 0) ≡ true = sym asked ∙ ap (λ (x : Option Start). is_some (action_of x)) began in
    let quiet : replied p.f p.k c o start.action (inputs_of c o t) ≡ None = ap (reply_after p c o (inputs_of c o t)) (sym began) ∙ none in
    let runs : (not (o == 0) && not (is_some (reply_by s (inputs_of c o t) (action_of (start_of c o t))))) ≡ true =
    ap (λ (b : Bool). b && not (is_some (reply_by s (inputs_of c o t) (action_of (start_of c o t))))) some
    ∙ ap (λ (x : Option Start). not (is_some (reply_by s (inputs_of c o t) (action_of x)))) began
    ∙ ap (λ (x : Option Reply). not (is_some x)) quiet in
    ap (λ (b : Bool). cond b (progress_by s (action_of (start_of c o t))) None) runs ∙ ap (λ (x : Option Start). progress_by s (action_of x)) began

asked-at : (p : Params) (t : List Deed) (seats : List Seat) (i : ℕ) → i < length seats → Standing p t seats → is_some (session_of p (i + 1) t).action ≡ not ((session_of p (i + 1) t).begun == 0)
asked-at p t [] i inside s = absurd (omega arith)
asked-at p t (x ∷ xs) i inside s = (s i x inside).asked

pub are-running : (p : Params) (t : List Deed) (w : Nodes) (list : List (Option Progress)) → NodesStand p t w → list ≡ map (progress_at p t) (range_with_len 0 (length w.seats.items)) → AreRunning p t list
are-running p t w list r list_is = λ c start began none.
    elim (cases_eq c 0) [
      | inl zero_ ↦ absurd (unasked p c t start (subst (λ (n : ℕ). session_of p n t ≡ fresh_session p.f p.k n) (sym zero_) r.nobody) began)
      | inr low ↦ elim (cases_lt (joined t) c) [
        | inl past ↦ absurd (unasked p c t start (r.unborn c past) began)
        | inr high ↦
            let count = r.seat_count in
            let inside : c - 1 < length w.seats.items = omega arith in
            let place : (c - 1) + 1 ≡ c = omega arith in
            let asked = subst (λ (n : ℕ). is_some (session_of p n t).action ≡ not ((session_of p n t).begun == 0)) place (asked-at p t w.seats.items (c - 1) inside r.standing) in
            ap (λ (xs : List (Option Progress)). slice_index_or xs (c - 1) None) list_is
            ∙ get_or-map-range_with_len (progress_at p t) 0 (length w.seats.items) (c - 1) (c - 1) None inside (omega arith)
            ∙ ap (λ (n : ℕ). option_map told_progress (session_progress (session_of p n t))) place
            ∙ ap (option_map told_progress) (running-session p c t start asked began none)
      ]
    ]

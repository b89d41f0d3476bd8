-- Lemmas on the loop of a cloud's server.
use Rattle.std.proofs.Common.{◌≡◌, ◌+◌, ◌-◌, ◌<◌, ℕ, suc, Bool, true, false, ◌||◌, List, [], ◌∷◌, ◌++◌, Option, Some, None, Ok, Err, refl, sym, ap, subst, ◌∙◌, arith, inl, inr}
use Rattle.hy_base.specs.declared.arrival.Arrived.{Arrived}
use Rattle.hy_base.specs.Moves.{Move, Request, arrived, called, listen, send, close, to_close}
use Rattle.hy_serve.specs.declared.answer.Answer.{Answer}
use Rattle.hy_serve.specs.declared.cloud_server.CloudServer.{CloudServer}
use Rattle.hy_serve.specs.declared.fault.ServeFault.TheVariants.{NetFault, NoMemory}
use Rattle.hy_serve.specs.Answer.{Answers, requests_of, made}
use Rattle.hy_serve.specs.Course.{begins, calls, takes, goes}
use Rattle.hy_serve.specs.CloudRole.{CloudState, cloud_begun, cloud_took, IsIdle, CloudLeads, ServesCloud}
use Rattle.hy_serve.specs.CloudStanding.{StandsFor, Reacts, Settles, stays, judges}
use Rattle.hy_serve.specs.CloudWaiting.{Waits}

abbrev pub with_left : CloudState → ℕ → CloudState
with_left state left = record state { left = left }

abbrev pub with_due : CloudState → List Request → Bool → CloudState
with_due state due broken = record state { due = due; broken = broken }

-- ---- the first call

pub waits-first : (port arrivals : ℕ) (server : CloudServer) → StandsFor server (cloud_begun port arrivals) → Waits port arrivals 0 server (called (listen port true) ∷ [])
waits-first port arrivals server stands = record {
  state = with_due (cloud_begun port arrivals) [] false;
  course = calls [] (cloud_begun port arrivals) (with_due (cloud_begun port arrivals) [] false) (listen port true) begins (record { later = []; due = refl; is = refl });
  idle = record { done = refl; judged = refl; listens = refl };
  left = omega arith;
  stands = record { lines = stands.lines; cloud = stands.cloud };
}

-- ---- how it ends

pub serves-nothing : (port arrivals : ℕ) → ServesCloud port arrivals (Err NoMemory) []
serves-nothing port arrivals = record { state = cloud_begun port arrivals; course = begins; ok = tt; fault = λ never. absurd (let e : ⊥ = cc in e) }

pub serves-refused : (port arrivals : ℕ) → ServesCloud port arrivals (Err NetFault) (called (listen port false) ∷ [])
serves-refused port arrivals = record {
  state = with_due (cloud_begun port arrivals) [] true;
  course = calls [] (cloud_begun port arrivals) (with_due (cloud_begun port arrivals) [] true) (listen port false) begins (record { later = []; due = refl; is = refl });
  ok = tt;
  fault = λ is. inl refl;
}

one-more : (left taken arrivals : ℕ) → left + taken ≡ arrivals → taken < arrivals → left ≡ suc (left - 1)
one-more left taken arrivals is more = omega (arith, is, more)

pub serves-cut : (port arrivals taken : ℕ) (server : CloudServer) (moves : List Move) → Waits port arrivals taken server moves → taken < arrivals → ServesCloud port arrivals (Err NetFault) moves
serves-cut port arrivals taken server moves waits more = record {
  state = waits.state;
  course = waits.course;
  ok = tt;
  fault = λ is. inr (record { idle = waits.idle; left = waits.state.left - 1; more = one-more waits.state.left taken arrivals waits.left more });
}

pub serves-done : (port arrivals : ℕ) (server : CloudServer) (moves : List Move) → Waits port arrivals arrivals server moves → ServesCloud port arrivals (Ok tt) moves
serves-done port arrivals server moves waits = record {
  state = waits.state;
  course = waits.course;
  ok = record { idle = waits.idle; none = omega (arith, waits.left) };
  fault = λ never. absurd (let e : ⊥ = cc in e);
}

-- ---- an arrival

took : (port arrivals taken : ℕ) (server : CloudServer) (moves : List Move) (a : Arrived) → (waits : Waits port arrivals taken server moves) → taken < arrivals
    → CloudLeads port arrivals (arrived a ∷ moves) (cloud_took (with_left waits.state (waits.state.left - 1)) a)
took port arrivals taken server moves a waits more =
    takes moves waits.state (cloud_took (with_left waits.state (waits.state.left - 1)) a) a waits.course
    (record { idle = waits.idle; left = waits.state.left - 1; one = one-more waits.state.left taken arrivals waits.left more; is = refl })

pub serves-starved : (port arrivals taken : ℕ) (server : CloudServer) (moves : List Move) (a : Arrived) → Waits port arrivals taken server moves → taken < arrivals
    → ServesCloud port arrivals (Err NoMemory) (arrived a ∷ moves)
serves-starved port arrivals taken server moves a waits more = record {
  state = cloud_took (with_left waits.state (waits.state.left - 1)) a;
  course = took port arrivals taken server moves a waits more;
  ok = tt;
  fault = λ never. absurd (let e : ⊥ = cc in e);
}

settled : (port arrivals : ℕ) (moves : List Move) (mid after : CloudState) → CloudLeads port arrivals moves mid → Settles mid after → CloudLeads port arrivals moves after
settled port arrivals moves mid _ leads stays = leads
settled port arrivals moves mid _ leads (judges after went) = goes moves mid after leads went

given : (port arrivals : ℕ) (moves : List Move) (after : CloudState) (answer : Answer) (sent : Bool) → CloudLeads port arrivals moves after → after.due ≡ requests_of (Some answer)
    → CloudLeads port arrivals (called (close answer.conn) ∷ called (send answer.conn answer.bytes sent) ∷ moves) (with_due after [] ((after.broken || false) || false))
given port arrivals moves after answer sent leads due =
    let half = with_due after (to_close answer.conn ∷ []) (after.broken || false) in
    calls (called (send answer.conn answer.bytes sent) ∷ moves) half (with_due after [] ((after.broken || false) || false)) (close answer.conn)
    (calls moves after half (send answer.conn answer.bytes sent) leads (record { later = to_close answer.conn ∷ []; due = due; is = refl }))
    (record { later = []; due = refl; is = refl })

still-listens : (broken : Bool) → broken ≡ false → ((broken || false) || false) ≡ false
still-listens broken is = ap (λ (b : Bool). (b || false) || false) is

-- an arrival was taken and answered
turned : (port arrivals taken : ℕ) (new : CloudServer) (moves answers : List Move) (after : CloudState) (answer : Option Answer)
    → CloudLeads port arrivals moves after → StandsFor new after → after.judging ≡ None → after.due ≡ requests_of answer → after.left + (taken + 1) ≡ arrivals → after.broken ≡ false
    → (sent : Bool) → answers ≡ made answer sent → Waits port arrivals (taken + 1) new (answers ++ moves)
turned port arrivals taken new moves answers after None leads stands judged due left listens sent are =
    subst (λ (m : List Move). Waits port arrivals (taken + 1) new (m ++ moves)) (sym are)
    (record { state = after; course = leads; idle = record { done = due; judged = judged; listens = listens }; left = left; stands = stands })
turned port arrivals taken new moves answers after (Some answer) leads stands judged due left listens sent are =
    subst (λ (m : List Move). Waits port arrivals (taken + 1) new (m ++ moves)) (sym are)
    (record {
      state = with_due after [] ((after.broken || false) || false);
      course = given port arrivals moves after answer sent leads due;
      idle = record { done = refl; judged = judged; listens = still-listens after.broken listens };
      left = left;
      stands = record { lines = stands.lines; cloud = stands.cloud };
    })

pub waits-turned : (port arrivals taken : ℕ) (old new : CloudServer) (moves answers : List Move) (a : Arrived) (answer : Option Answer)
    → Waits port arrivals taken old moves → taken < arrivals
    → ((state : CloudState) → IsIdle state → StandsFor old state → Reacts state a new answer) → Answers answer answers
    → Waits port arrivals (taken + 1) new (answers ++ arrived a ∷ moves)
waits-turned port arrivals taken old new moves answers a answer waits more reacts gave =
    let before = with_left waits.state (waits.state.left - 1) in
    let r = reacts before (record { done = waits.idle.done; judged = waits.idle.judged; listens = waits.idle.listens }) (record { lines = waits.stands.lines; cloud = waits.stands.cloud }) in
    turned port arrivals taken new (arrived a ∷ moves) answers r.after answer
    (settled port arrivals (arrived a ∷ moves) (cloud_took before a) r.after (took port arrivals taken old moves a waits more) r.settles)
    r.stands r.judged r.due (omega (arith, r.left, one-more waits.state.left taken arrivals waits.left more, waits.left)) (r.listens ∙ waits.idle.listens) gave.sent gave.are

-- Lemmas on the loop of the metadata server.
use Rattle.std.proofs.Common.{◌≡◌, ◌+◌, ◌-◌, ◌<◌, ℕ, suc, Bool, true, false, List, [], ◌∷◌, ◌++◌, Option, Ok, Err, refl, ◌∙◌, arith, inl, inr}
use Rattle.hy_base.specs.declared.arrival.Arrived.{Arrived}
use Rattle.hy_base.specs.declared.arrival.Arrived.TheVariants.{Opened, Bytes, Closed, Quiet}
use Rattle.hy_base.specs.declared.failure.NoMemory.{NoMemory as Starved}
use Rattle.hy_base.specs.Moves.{Move, arrived, called, listen}
use Rattle.hy_serve.specs.declared.meta_server.MetaServer.{MetaServer}
use Rattle.hy_serve.specs.declared.fault.ServeFault.TheVariants.{NetFault, NoMemory}
use Rattle.hy_serve.specs.Course.{begins, calls, takes}
use Rattle.hy_serve.specs.MetaRole.{MetaState, meta_begun, meta_took, MetaLeads, ServesMeta}
use Rattle.hy_serve.specs.MetaStanding.{StandsFor, TakesIn}
use Rattle.hy_serve.specs.MetaPlaying.{ReadsAll, MetaWaits}

abbrev pub with_left : MetaState → ℕ → MetaState
with_left state left = record state { left = left }

-- behind the first call
abbrev pub listening : ℕ → ℕ → Bool → MetaState
listening port arrivals broken = record (meta_begun port arrivals) { due = []; broken = broken }

-- ---- the first call

listened : (port arrivals : ℕ) → MetaLeads port arrivals (called (listen port true) ∷ []) (listening port arrivals false)
listened port arrivals =
    calls [] (meta_begun port arrivals) (listening port arrivals false) (listen port true) begins (record { later = []; due = refl; is = refl })

refused : (port arrivals : ℕ) → MetaLeads port arrivals (called (listen port false) ∷ []) (listening port arrivals true)
refused port arrivals =
    calls [] (meta_begun port arrivals) (listening port arrivals true) (listen port false) begins (record { later = []; due = refl; is = refl })

pub waits-first : (port arrivals : ℕ) (server : MetaServer) → StandsFor server (meta_begun port arrivals) → MetaWaits port arrivals 0 server (called (listen port true) ∷ [])
waits-first port arrivals server stands = record {
  state = listening port arrivals false;
  course = listened port arrivals;
  idle = record { done = refl; read = refl; listens = refl };
  left = omega arith;
  stands = record { lines = stands.lines; homes = stands.homes; given = stands.given; serves = stands.serves };
}

-- ---- how it ends

pub serves-nothing : (port arrivals : ℕ) → ServesMeta port arrivals (Err NoMemory) []
serves-nothing port arrivals = record { state = meta_begun port arrivals; course = begins; ok = tt; fault = λ never. absurd (let e : ⊥ = cc in e) }

pub serves-refused : (port arrivals : ℕ) → ServesMeta port arrivals (Err NetFault) (called (listen port false) ∷ [])
serves-refused port arrivals = record { state = listening port arrivals true; course = refused port arrivals; ok = tt; fault = λ is. inl refl }

one-more : (left taken arrivals : ℕ) → left + taken ≡ arrivals → taken < arrivals → left ≡ suc (left - 1)
one-more left taken arrivals is more = omega (arith, is, more)

pub serves-cut : (port arrivals taken : ℕ) (server : MetaServer) (moves : List Move) → MetaWaits port arrivals taken server moves → taken < arrivals → ServesMeta port arrivals (Err NetFault) moves
serves-cut port arrivals taken server moves waits more = record {
  state = waits.state;
  course = waits.course;
  ok = tt;
  fault = λ is. inr (record { idle = waits.idle; left = waits.state.left - 1; more = one-more waits.state.left taken arrivals waits.left more });
}

pub serves-done : (port arrivals : ℕ) (server : MetaServer) (moves : List Move) → MetaWaits port arrivals arrivals server moves → ServesMeta port arrivals (Ok tt) moves
serves-done port arrivals server moves waits = record {
  state = waits.state;
  course = waits.course;
  ok = record { idle = waits.idle; none = omega (arith, waits.left) };
  fault = λ never. absurd (let e : ⊥ = cc in e);
}

-- ---- an arrival

took : (port arrivals taken : ℕ) (server : MetaServer) (moves : List Move) (a : Arrived) → (waits : MetaWaits port arrivals taken server moves) → taken < arrivals
    → MetaLeads port arrivals (arrived a ∷ moves) (meta_took (with_left waits.state (waits.state.left - 1)) a)
took port arrivals taken server moves a waits more =
    takes moves waits.state (meta_took (with_left waits.state (waits.state.left - 1)) a) a waits.course
    (record { idle = waits.idle; left = waits.state.left - 1; one = one-more waits.state.left taken arrivals waits.left more; is = refl })

pub serves-starved : (port arrivals taken : ℕ) (server : MetaServer) (moves : List Move) (a : Arrived) → MetaWaits port arrivals taken server moves → taken < arrivals
    → ServesMeta port arrivals (Err NoMemory) (arrived a ∷ moves)
serves-starved port arrivals taken server moves a waits more = record {
  state = meta_took (with_left waits.state (waits.state.left - 1)) a;
  course = took port arrivals taken server moves a waits more;
  ok = tt;
  fault = λ never. absurd (let e : ⊥ = cc in e);
}

-- what an arrival leaves as it is
record Kept (state after : MetaState) : Type 0 where
  due : after.due ≡ state.due
  left : after.left ≡ state.left
  broken : after.broken ≡ state.broken

took-kept : (state : MetaState) (a : Arrived) → Kept state (meta_took state a)
took-kept state (Opened conn) = record { due = refl; left = refl; broken = refl }
took-kept state (Bytes conn piece) = record { due = refl; left = refl; broken = refl }
took-kept state (Closed conn) = record { due = refl; left = refl; broken = refl }
took-kept state Quiet = record { due = refl; left = refl; broken = refl }

-- an arrival was taken, but memory ran out while it was read
pub serves-stuck : (port arrivals taken : ℕ) (old mid new : MetaServer) (moves reads : List Move) (a : Arrived) (reading : Option ℕ) (error : Starved)
    → MetaWaits port arrivals taken old moves → taken < arrivals → TakesIn old mid a reading → ReadsAll mid new reading (Err error) reads
    → ServesMeta port arrivals (Err NoMemory) (reads ++ arrived a ∷ moves)
serves-stuck port arrivals taken old mid new moves reads a reading error waits more taking all =
    let before = with_left waits.state (waits.state.left - 1) in
    let t = taking before waits.idle.read (record { lines = waits.stands.lines; homes = waits.stands.homes; given = waits.stands.given; serves = waits.stands.serves }) in
    let s = all port arrivals (arrived a ∷ moves) (meta_took before a) (took port arrivals taken old moves a waits more) t.stands t.is ((took-kept before a).due ∙ waits.idle.done) in
    record { state = s.after; course = s.course; ok = tt; fault = λ never. absurd (let e : ⊥ = cc in e) }

-- an arrival was taken and read
pub waits-turned : (port arrivals taken : ℕ) (old mid new : MetaServer) (moves reads : List Move) (a : Arrived) (reading : Option ℕ)
    → MetaWaits port arrivals taken old moves → taken < arrivals → TakesIn old mid a reading → ReadsAll mid new reading (Ok tt) reads
    → MetaWaits port arrivals (taken + 1) new (reads ++ arrived a ∷ moves)
waits-turned port arrivals taken old mid new moves reads a reading waits more taking all =
    let before = with_left waits.state (waits.state.left - 1) in
    let kept = took-kept before a in
    let t = taking before waits.idle.read (record { lines = waits.stands.lines; homes = waits.stands.homes; given = waits.stands.given; serves = waits.stands.serves }) in
    let s = all port arrivals (arrived a ∷ moves) (meta_took before a) (took port arrivals taken old moves a waits more) t.stands t.is (kept.due ∙ waits.idle.done) in
    let left : s.after.left ≡ waits.state.left - 1 = s.ok.left ∙ kept.left in
    record {
      state = s.after;
      course = s.course;
      idle = record { done = s.ok.done; read = s.ok.read; listens = s.ok.broken ∙ kept.broken ∙ waits.idle.listens };
      left = omega (arith, left, one-more waits.state.left taken arrivals waits.left more, waits.left);
      stands = s.ok.stands;
    }

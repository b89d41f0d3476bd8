-- Lemmas on what an arrival makes of a cloud's server.
use Rattle.std.proofs.Common.{◌≡◌, ◌==◌, ℕ, Bool, true, false, List, [], ◌++◌, Option, Some, None, refl, sym, ap, subst, ◌∙◌, cond, eq-eqb}
use Rattle.std.proofs.lemmas.Bool.{cases_Bool, cond-true, cond-false, eqb-true}
use Rattle.std.proofs.Math.Logic.{⊎_elim}
use Rattle.std.specs.Prelude.{if◌then◌else◌}
use Rattle.hy_base.specs.declared.arrival.Arrived.TheVariants.{Opened, Bytes, Closed, Quiet}
use Rattle.hy_base.specs.Moves.{Request}
use Rattle.hy_cloud.specs.declared.cloud.Cloud.{Cloud}
use Rattle.hy_record.specs.declared.cloud.Wish.{Wish}
use Rattle.hy_serve.specs.declared.answer.Answer.{Answer}
use Rattle.hy_serve.specs.declared.cloud_lines.Reading.{Reading}
use Rattle.hy_serve.specs.declared.cloud_lines.Reading.TheVariants.{Partial, Asks, Wrong}
use Rattle.hy_serve.specs.declared.cloud_server.CloudServer.{CloudServer}
use Rattle.hy_serve.specs.Answer.{requests_of}
use Rattle.hy_serve.specs.CloudRole.{Line, unopened, asking, over, opened, closed, CloudState, IsIdle, with_line, fed, cloud_judged}
use Rattle.hy_serve.specs.CloudStanding.{HeldLine, line_at, HoldsLine, StandsFor, Stocks, IsStocked, SetsLine, ReadsAt, ReadsLine, ReadsAsking, IsSmall, IsSome, Replies, outcome, line_behind, wishes_behind, replies, Reacts, Settles, stays, judges}

-- the connection has this line, and the others have theirs
lines-stand : (old new : CloudServer) (lines after : ℕ → Line) (conn : ℕ) (line : Line) → ((c : ℕ) → HoldsLine (line_at old c) (lines c))
    → HoldsLine (line_at new conn) line → ((c : ℕ) → (conn == c) ≡ false → line_at new c ≡ line_at old c)
    → ((c : ℕ) → after c ≡ (if conn == c then line else lines c)) → (c : ℕ) → HoldsLine (line_at new c) (after c)
lines-stand old new lines after conn line holds here others is c = ⊎_elim
    (λ y. subst (λ (l : Line). HoldsLine (line_at new c) l) (sym (is c ∙ cond-true (conn == c) line (lines c) y))
    (subst (λ n. HoldsLine (line_at new n) line) (eqb-true conn c y) here))
    (λ n. subst (λ (l : Line). HoldsLine (line_at new c) l) (sym (is c ∙ cond-false (conn == c) line (lines c) n))
    (subst (λ (held : HeldLine). HoldsLine held (lines c)) (sym (others c n)) (holds c)))
    (cases_Bool (conn == c))

-- ---- a connection opens or closes

pub set-stands : (old new : CloudServer) (state : CloudState) (conn : ℕ) (change : Line → Line) → StandsFor old state → SetsLine old new conn change
    → StandsFor new (with_line state conn (change (state.lines conn)))
set-stands old new state conn change stands sets = record {
  lines = lines-stand old new state.lines (λ c. if conn == c then change (state.lines conn) else state.lines c) conn (change (state.lines conn))
      stands.lines (sets.line (state.lines conn) (stands.lines conn)) sets.others (λ c. refl);
  cloud = subst (λ (cloud : Cloud). Stocks cloud state.wishes) (sym sets.cloud) stands.cloud;
}

pub reacts-opened : (old new : CloudServer) (state : CloudState) (conn : ℕ) → IsIdle state → StandsFor old state → SetsLine old new conn opened → Reacts state (Opened conn) new None
reacts-opened old new state conn idle stands sets = record {
  after = with_line state conn (opened (state.lines conn));
  settles = stays;
  stands = set-stands old new state conn opened stands sets;
  judged = idle.judged;
  due = idle.done;
  left = refl;
  listens = refl;
}

pub reacts-closed : (old new : CloudServer) (state : CloudState) (conn : ℕ) → IsIdle state → StandsFor old state → SetsLine old new conn closed → Reacts state (Closed conn) new None
reacts-closed old new state conn idle stands sets = record {
  after = with_line state conn (closed (state.lines conn));
  settles = stays;
  stands = set-stands old new state conn closed stands sets;
  judged = idle.judged;
  due = idle.done;
  left = refl;
  listens = refl;
}

pub reacts-quiet : (server : CloudServer) (state : CloudState) → IsIdle state → StandsFor server state → Reacts state Quiet server None
reacts-quiet server state idle stands = record {
  after = state;
  settles = stays;
  stands = stands;
  judged = idle.judged;
  due = idle.done;
  left = refl;
  listens = refl;
}

-- ---- bytes come

-- what the bytes of an asking connection make of a state
abbrev pub mid : CloudState → ℕ → List ℕ → List ℕ → CloudState
mid state conn bytes piece = record (with_line state conn (asking (bytes ++ piece))) { judging = Some conn }

twice : (b : Bool) (x y z : Line) → cond b x (cond b y z) ≡ cond b x z
twice true x y z = refl
twice false x y z = refl

lines-behind : (state : CloudState) (conn : ℕ) (bytes piece : List ℕ) (reading : Reading) (c : ℕ)
    → (cloud_judged (mid state conn bytes piece) conn (outcome reading)).lines c ≡ (if conn == c then line_behind (bytes ++ piece) reading else state.lines c)
lines-behind state conn bytes piece Partial c = refl
lines-behind state conn bytes piece (Asks wish) c = twice (conn == c) over (asking (bytes ++ piece)) (state.lines c)
lines-behind state conn bytes piece (Wrong wrong) c = twice (conn == c) over (asking (bytes ++ piece)) (state.lines c)

wishes-stay : (state : CloudState) (conn : ℕ) (bytes piece : List ℕ) (reading : Reading)
    → (cloud_judged (mid state conn bytes piece) conn (outcome reading)).wishes ≡ wishes_behind state.wishes (outcome reading)
wishes-stay state conn bytes piece Partial = refl
wishes-stay state conn bytes piece (Asks wish) = refl
wishes-stay state conn bytes piece (Wrong wrong) = refl

same-line : (old new : CloudServer) → new.lines ≡ old.lines → (c : ℕ) → line_at new c ≡ line_at old c
unfolding line_at
same-line old new same c = ap (λ lines. line_at (record { lines = lines; cloud = old.cloud }) c) same

-- the server behind the bytes of a connection that asks
asking-stands : (old read new : CloudServer) (state : CloudState) (conn : ℕ) (bytes piece : List ℕ) (reading : Reading) (answer : Option Answer)
    → StandsFor old state → ReadsAsking (bytes ++ piece) (line_at read conn) reading → ((c : ℕ) → (conn == c) ≡ false → line_at read c ≡ line_at old c) → read.cloud ≡ old.cloud
    → Replies read new conn reading answer → StandsFor new (cloud_judged (mid state conn bytes piece) conn (outcome reading))
asking-stands old read new state conn bytes piece reading answer stands reads others cloud answering = record {
  lines = lines-stand old new state.lines (cloud_judged (mid state conn bytes piece) conn (outcome reading)).lines conn (line_behind (bytes ++ piece) reading) stands.lines
      (subst (λ (held : HeldLine). HoldsLine held (line_behind (bytes ++ piece) reading)) (sym (same-line read new answering.lines conn)) reads.line)
      (λ c other. same-line read new answering.lines c ∙ others c other)
      (lines-behind state conn bytes piece reading);
  cloud = subst (λ (wishes : List Wish). Stocks new.cloud wishes) (sym (wishes-stay state conn bytes piece reading))
      (answering.serves state.wishes (subst (λ (c : Cloud). Stocks c state.wishes) (sym cloud) stands.cloud));
}

-- the server behind bytes that count for nothing
idle-stands : (old read new : CloudServer) (state : CloudState) (conn : ℕ) (answer : Option Answer)
    → StandsFor old state → HoldsLine (line_at read conn) (state.lines conn) → ((c : ℕ) → (conn == c) ≡ false → line_at read c ≡ line_at old c) → read.cloud ≡ old.cloud
    → Replies read new conn Partial answer → StandsFor new state
idle-stands old read new state conn answer stands holds others cloud answering = record {
  lines = lines-stand old new state.lines state.lines conn (state.lines conn) stands.lines
      (subst (λ (held : HeldLine). HoldsLine held (state.lines conn)) (sym (same-line read new answering.lines conn)) holds)
      (λ c other. same-line read new answering.lines c ∙ others c other)
      (λ c. ⊎_elim (λ y. ap state.lines (sym (eqb-true conn c y)) ∙ sym (cond-true (conn == c) _ _ y)) (λ n. sym (cond-false (conn == c) _ _ n)) (cases_Bool (conn == c)));
  cloud = answering.serves state.wishes (subst (λ (c : Cloud). Stocks c state.wishes) (sym cloud) stands.cloud);
}

due-behind : (state : CloudState) (conn : ℕ) (bytes piece : List ℕ) (reading : Reading) (requests : List Request) → state.due ≡ [] → requests ≡ replies state.wishes conn (outcome reading)
    → (cloud_judged (mid state conn bytes piece) conn (outcome reading)).due ≡ requests
due-behind state conn bytes piece Partial requests done is = done ∙ sym is
due-behind state conn bytes piece (Asks wish) requests done is = sym is
due-behind state conn bytes piece (Wrong wrong) requests done is = sym is

judged-behind : (state : CloudState) (conn : ℕ) (bytes piece : List ℕ) (reading : Reading) → (cloud_judged (mid state conn bytes piece) conn (outcome reading)).judging ≡ None
judged-behind state conn bytes piece Partial = refl
judged-behind state conn bytes piece (Asks wish) = refl
judged-behind state conn bytes piece (Wrong wrong) = refl

left-behind : (state : CloudState) (conn : ℕ) (bytes piece : List ℕ) (reading : Reading) → (cloud_judged (mid state conn bytes piece) conn (outcome reading)).left ≡ state.left
left-behind state conn bytes piece Partial = refl
left-behind state conn bytes piece (Asks wish) = refl
left-behind state conn bytes piece (Wrong wrong) = refl

broken-behind : (state : CloudState) (conn : ℕ) (bytes piece : List ℕ) (reading : Reading) → (cloud_judged (mid state conn bytes piece) conn (outcome reading)).broken ≡ state.broken
broken-behind state conn bytes piece Partial = refl
broken-behind state conn bytes piece (Asks wish) = refl
broken-behind state conn bytes piece (Wrong wrong) = refl

-- what the bytes of a connection made of the server, by the line that it had
pub record Behind (state : CloudState) (conn : ℕ) (piece : List ℕ) (new : CloudServer) (answer : Option Answer) : Type 0 where
  pub after : CloudState
  pub stands : StandsFor new after
  pub reacts : IsIdle state → Reacts state (Bytes conn piece) new answer

bytes-behind : (old read new : CloudServer) (state : CloudState) (conn : ℕ) (piece : List ℕ) (reading : Reading) (answer : Option Answer) (line : Line) → state.lines conn ≡ line
    → StandsFor old state → ReadsLine line piece (line_at read conn) reading → ((c : ℕ) → (conn == c) ≡ false → line_at read c ≡ line_at old c) → read.cloud ≡ old.cloud
    → Replies read new conn reading answer → Behind state conn piece new answer
bytes-behind old read new state conn piece reading answer unopened is stands reads others cloud answering =
    let partial = subst (λ (r : Reading). Replies read new conn r answer) reads.0 answering in
    let stay = idle-stands old read new state conn answer stands (subst (λ (l : Line). HoldsLine (line_at read conn) l) (sym is) reads.1) others cloud partial in
    let same : fed state conn piece (state.lines conn) ≡ state = ap (fed state conn piece) is in record {
      after = state;
      stands = stay;
      reacts = λ idle. record {
        after = state;
        settles = subst (λ (m : CloudState). Settles m state) (sym same) stays;
        stands = stay;
        judged = idle.judged;
        due = idle.done ∙ sym (partial.answers state.wishes (subst (λ (c : Cloud). Stocks c state.wishes) (sym cloud) stands.cloud));
        left = refl;
        listens = refl;
      };
    }
bytes-behind old read new state conn piece reading answer over is stands reads others cloud answering =
    let partial = subst (λ (r : Reading). Replies read new conn r answer) reads.0 answering in
    let stay = idle-stands old read new state conn answer stands (subst (λ (l : Line). HoldsLine (line_at read conn) l) (sym is) reads.1) others cloud partial in
    let same : fed state conn piece (state.lines conn) ≡ state = ap (fed state conn piece) is in record {
      after = state;
      stands = stay;
      reacts = λ idle. record {
        after = state;
        settles = subst (λ (m : CloudState). Settles m state) (sym same) stays;
        stands = stay;
        judged = idle.judged;
        due = idle.done ∙ sym (partial.answers state.wishes (subst (λ (c : Cloud). Stocks c state.wishes) (sym cloud) stands.cloud));
        left = refl;
        listens = refl;
      };
    }
bytes-behind old read new state conn piece reading answer (asking bytes) is stands reads others cloud answering =
    let end = cloud_judged (mid state conn bytes piece) conn (outcome reading) in
    let goes = asking-stands old read new state conn bytes piece reading answer stands reads others cloud answering in
    let same : fed state conn piece (state.lines conn) ≡ mid state conn bytes piece = ap (fed state conn piece) is in
    let due = answering.answers state.wishes (subst (λ (c : Cloud). Stocks c state.wishes) (sym cloud) stands.cloud) in record {
      after = end;
      stands = goes;
      reacts = λ idle. record {
        after = end;
        settles = subst (λ (m : CloudState). Settles m end) (sym same) (judges end (record {
          conn = conn;
          bytes = bytes ++ piece;
          outcome = outcome reading;
          judging = refl;
          line = cond-true (conn == conn) _ _ (eq-eqb conn conn refl);
          comes = reads.comes;
          is = refl;
        }));
        stands = goes;
        judged = judged-behind state conn bytes piece reading;
        due = due-behind state conn bytes piece reading (requests_of answer) idle.done due;
        left = left-behind state conn bytes piece reading;
        listens = broken-behind state conn bytes piece reading;
      };
    }

pub bytes-came : (old read new : CloudServer) (state : CloudState) (conn : ℕ) (piece : List ℕ) (reading : Reading) (answer : Option Answer)
    → StandsFor old state → ReadsAt old read conn piece reading → Replies read new conn reading answer → Behind state conn piece new answer
bytes-came old read new state conn piece reading answer stands reads answering =
    bytes-behind old read new state conn piece reading answer (state.lines conn) refl stands (reads.line (state.lines conn) (stands.lines conn)) reads.others reads.cloud answering

small-by : (line : Line) (piece : List ℕ) (held : HeldLine) (reading : Reading) → ReadsLine line piece held reading → IsSmall reading
small-by unopened piece held reading reads = subst IsSmall (sym reads.0) tt
small-by (asking bytes) piece held reading reads = reads.small
small-by over piece held reading reads = subst IsSmall (sym reads.0) tt

-- what was read can be served
pub read-small : (old read : CloudServer) (conn : ℕ) (piece : List ℕ) (reading : Reading) → IsSome old → ReadsAt old read conn piece reading → IsSmall reading
read-small old read conn piece reading some reads = small-by (some.0.lines conn) piece (line_at read conn) reading (reads.line (some.0.lines conn) (some.1.lines conn))

pub read-stocked : (old read : CloudServer) (conn : ℕ) (piece : List ℕ) (reading : Reading) → IsSome old → ReadsAt old read conn piece reading → IsStocked read.cloud
read-stocked old read conn piece reading some reads = (some.0.wishes, subst (λ (c : Cloud). Stocks c some.0.wishes) (sym reads.cloud) some.1.cloud)

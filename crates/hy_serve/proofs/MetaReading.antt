-- Lemmas on a connection of the metadata server that is read on.
use Rattle.std.proofs.Common.{◌≡◌, ◌<◌, ℕ, List, [], ◌++◌, Some, Result, Ok, Err, refl, sym, subst, ◌∙◌, append_assoc}
use Rattle.hy_base.specs.Moves.{Move}
use Rattle.hy_meta.specs.declared.meta.SessionsFull.{SessionsFull}
use Rattle.hy_meta.specs.Sessions.{next_session}
use Rattle.hy_serve.specs.declared.letter.Turn.{Turn}
use Rattle.hy_serve.specs.declared.letter.Turn.TheVariants.{Rests, Closes, Sends}
use Rattle.hy_serve.specs.declared.meta_lines.Step.{Step}
use Rattle.hy_serve.specs.declared.meta_lines.Step.TheVariants.{Waits, Ends, Joins, Asks}
use Rattle.hy_serve.specs.declared.meta_server.MetaServer.{MetaServer}
use Rattle.hy_serve.specs.Course.{goes}
use Rattle.hy_serve.specs.MetaRole.{MetaState, with_line, next_line, next_step, joined, stepped, meta_read, MetaLeads}
use Rattle.hy_serve.specs.MetaStanding.{requests_in, reading_behind, IsReading, ReadsNext, weight_at, Falls}
use Rattle.hy_serve.specs.MetaPlaying.{Makes, ReadsSome, ReadsAll}

-- ---- what a message leaves as it is

joined-left : (state : MetaState) (conn : ℕ) (session : Result ℕ SessionsFull) → (joined state conn session).left ≡ state.left
joined-left state conn (Ok client) = refl
joined-left state conn (Err full) = refl

stepped-left : (state : MetaState) (conn : ℕ) (step : Step) → (stepped state conn step).left ≡ state.left
stepped-left state conn Waits = refl
stepped-left state conn Ends = refl
stepped-left state conn Joins = joined-left state conn (next_session state.given)
stepped-left state conn (Asks ask) = refl

read-left : (state : MetaState) (conn : ℕ) → (meta_read state conn).left ≡ state.left
read-left state conn = stepped-left (with_line state conn (next_line (state.lines conn))) conn (next_step (state.lines conn))

joined-broken : (state : MetaState) (conn : ℕ) (session : Result ℕ SessionsFull) → (joined state conn session).broken ≡ state.broken
joined-broken state conn (Ok client) = refl
joined-broken state conn (Err full) = refl

stepped-broken : (state : MetaState) (conn : ℕ) (step : Step) → (stepped state conn step).broken ≡ state.broken
stepped-broken state conn Waits = refl
stepped-broken state conn Ends = refl
stepped-broken state conn Joins = joined-broken state conn (next_session state.given)
stepped-broken state conn (Asks ask) = refl

read-broken : (state : MetaState) (conn : ℕ) → (meta_read state conn).broken ≡ state.broken
read-broken state conn = stepped-broken (with_line state conn (next_line (state.lines conn))) conn (next_step (state.lines conn))

-- ---- turns

reading-on : (conn : ℕ) (turn : Turn) → (turn ≡ Rests → ⊥) → reading_behind conn turn ≡ Some conn
reading-on conn Rests acts = absurd (acts refl)
reading-on conn Closes acts = refl
reading-on conn (Sends letters) acts = refl

pub falls-on : (old new : MetaServer) (conn : ℕ) (turn : Turn) → (turn ≡ Rests → ⊥) → Falls old new conn turn → weight_at new conn < weight_at old conn
falls-on old new conn Rests acts falls = absurd (acts refl)
falls-on old new conn Closes acts falls = falls
falls-on old new conn (Sends letters) acts falls = falls

-- a message is read
read-course : (port arrivals conn : ℕ) (moves : List Move) (state : MetaState) → MetaLeads port arrivals moves state → IsReading conn state
    → MetaLeads port arrivals moves (meta_read state conn)
read-course port arrivals conn moves state course reads =
    goes moves state (meta_read state conn) course (record { conn = conn; reading = reads.reading; done = reads.done; is = refl })

pub reads-none : (server : MetaServer) (conn : ℕ) → ReadsSome server server conn []
reads-none server conn port arrivals before state course stands reads =
    record { after = state; course = course; stands = stands; reads = reads; left = refl; broken = refl }

pub reads-turn : (old mid read new : MetaServer) (conn : ℕ) (turn : Turn) (first second : List Move) → ReadsSome old mid conn first → ReadsNext mid read conn turn
    → (turn ≡ Rests → ⊥) → Makes read new (requests_in conn turn) [] second → ReadsSome old new conn (second ++ first)
reads-turn old mid read new conn turn first second some next acts makes port arrivals before state course stands reads =
    let a = some port arrivals before state course stands reads in
    let t = next a.after a.reads a.stands in
    let behind = meta_read a.after conn in
    let b = makes port arrivals (first ++ before) behind (read-course port arrivals conn (first ++ before) a.after a.course a.reads) t.stands t.due in
    record {
      after = b.after;
      course = subst (λ (moves : List Move). MetaLeads port arrivals moves b.after) (sym (append_assoc second first before)) b.course;
      stands = b.stands;
      reads = record { reading = b.continues.reading ∙ t.reading ∙ reading-on conn turn acts; done = b.due };
      left = b.continues.left ∙ read-left a.after conn ∙ a.left;
      broken = b.continues.broken ∙ read-broken a.after conn ∙ a.broken;
    }

-- ---- how it ends

pub reads-done : (old mid new : MetaServer) (conn : ℕ) (moves : List Move) → ReadsSome old mid conn moves → ReadsNext mid new conn Rests → ReadsAll old new (Some conn) (Ok tt) moves
reads-done old mid new conn moves some next port arrivals before state course stands reading done =
    let a = some port arrivals before state course stands (record { reading = reading; done = done }) in
    let t = next a.after a.reads a.stands in
    record {
      after = meta_read a.after conn;
      course = read-course port arrivals conn (moves ++ before) a.after a.course a.reads;
      ok = record {
        stands = t.stands;
        done = t.due;
        read = t.reading;
        left = read-left a.after conn ∙ a.left;
        broken = read-broken a.after conn ∙ a.broken;
      };
    }

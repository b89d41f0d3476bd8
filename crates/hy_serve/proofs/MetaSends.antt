-- Lemmas on the calls that the metadata server makes.
use Rattle.std.proofs.Common.{◌≡◌, ◌==◌, ℕ, Bool, true, false, List, [], ◌∷◌, ◌++◌, refl, sym, ap, subst, ◌∙◌, cond, filter}
use Rattle.std.proofs.lemmas.Bool.{cases_Bool, cond-true, cond-false}
use Rattle.std.proofs.Math.Logic.{⊎_elim}
use Rattle.std.specs.Prelude.{if◌then◌else◌}
use Rattle.hy_base.specs.Moves.{Move, Request, called, send, close, to_listen, to_dial, to_send, to_close}
use Rattle.hy_serve.specs.declared.letter.Letter.{Letter}
use Rattle.hy_serve.specs.declared.meta_server.MetaServer.{MetaServer}
use Rattle.hy_serve.specs.Course.{calls}
use Rattle.hy_serve.specs.MetaRole.{Line, unopened, talking, over, closed, is_talking, MetaState, with_line, is_deliverable, deliverable, cut}
use Rattle.hy_serve.specs.MetaStanding.{line_of, StandsFor, SetsLine, request_for}
use Rattle.hy_serve.specs.MetaPlaying.{Called, MakesFirst}
use Rattle.hy_serve.proofs.MetaStands.{set-stands}

abbrev pub with_due : MetaState → List Request → MetaState
with_due state due = record state { due = due }

stands-due : (server : MetaServer) (state : MetaState) (due : List Request) → StandsFor server state → StandsFor server (with_due state due)
stands-due server state due stands = record { lines = stands.lines; homes = stands.homes; given = stands.given; serves = stands.serves }

-- the calls that are due, where the first is to be sent on an open connection
first-due : (server : MetaServer) (state : MetaState) (letter : Letter) (later : List Request) → StandsFor server state → is_talking (line_of server letter.conn) ≡ true
    → state.due ≡ deliverable state.lines (request_for letter ∷ later) → state.due ≡ request_for letter ∷ deliverable state.lines later
first-due server state letter later stands talks due =
    due ∙ cond-true (is_talking (state.lines letter.conn)) _ _ (ap is_talking (sym (stands.lines letter.conn)) ∙ talks)

pub sends-done : (server : MetaServer) (letter : Letter) (piece : List ℕ) (moves : List Move) → is_talking (line_of server letter.conn) ≡ true
    → piece ≡ letter.bytes → moves ≡ called (send letter.conn piece true) ∷ [] → MakesFirst server server (request_for letter) moves
sends-done server letter piece moves talks same is later port arrivals before state course stands due =
    let made : moves ≡ called (send letter.conn letter.bytes true) ∷ [] = is ∙ ap (λ (p : List ℕ). called (send letter.conn p true) ∷ []) same in
    let after = with_due state (deliverable state.lines later) in
    subst (λ (m : List Move). Called port arrivals server state later (m ++ before)) (sym made)
    (record {
      after = after;
      course = calls before state after (send letter.conn letter.bytes true) course
          (record { later = deliverable state.lines later; due = first-due server state letter later stands talks due; is = refl });
      stands = stands-due server state (deliverable state.lines later) stands;
      due = refl;
      continues = record { left = refl; broken = refl; reading = refl };
    })

-- ---- a connection is cut

filter-twice : {X : Type 0} (p q : X → Bool) (xs : List X) → ((x : X) → p x ≡ false → q x ≡ false) → filter q (filter p xs) ≡ filter q xs
filter-twice p q [] fewer = refl
filter-twice p q (x ∷ xs) fewer = ⊎_elim
    (λ y. ap (filter q) (cond-true (p x) (x ∷ filter p xs) (filter p xs) y) ∙ ap (λ rest. cond (q x) (x ∷ rest) rest) (filter-twice p q xs fewer))
    (λ n.
    ap (filter q) (cond-false (p x) (x ∷ filter p xs) (filter p xs) n) ∙ filter-twice p q xs fewer
    ∙ sym (cond-false (q x) (x ∷ filter q xs) (filter q xs) (fewer x n)))
    (cases_Bool (p x))

fewer-talk : (here : Bool) (line : Line) → is_talking line ≡ false → is_talking (if here then over else line) ≡ false
fewer-talk true line silent = refl
fewer-talk false line silent = silent

fewer-due : (state : MetaState) (conn : ℕ) (request : Request) → is_deliverable state.lines request ≡ false → is_deliverable (with_line state conn over).lines request ≡ false
fewer-due state conn (to_listen port) silent = silent
fewer-due state conn (to_dial port) silent = silent
fewer-due state conn (to_send c piece) silent = fewer-talk (conn == c) (state.lines c) silent
fewer-due state conn (to_close c) silent = silent

talking-closed : (line : Line) → is_talking line ≡ true → closed line ≡ over
talking-closed unopened talks = absurd (let no : false ≡ true = talks in cc)
talking-closed (talking session stream) talks = refl
talking-closed over talks = refl

pub sends-failed : (old new : MetaServer) (letter : Letter) (piece : List ℕ) (moves : List Move) → is_talking (line_of old letter.conn) ≡ true
    → SetsLine old new letter.conn (closed (line_of old letter.conn)) → piece ≡ letter.bytes → moves ≡ called (send letter.conn piece false) ∷ []
    → MakesFirst old new (request_for letter) (called (close letter.conn) ∷ moves)
sends-failed old new letter piece moves talks sets same is later port arrivals before state course stands due =
    let made : moves ≡ called (send letter.conn letter.bytes false) ∷ [] = is ∙ ap (λ (p : List ℕ). called (send letter.conn p false) ∷ []) same in
    let left = deliverable state.lines later in
    let half = cut state letter.conn left in
    let after = with_due half (deliverable half.lines left) in
    let sets_over : SetsLine old new letter.conn over = subst (λ (l : Line). SetsLine old new letter.conn l) (talking-closed (line_of old letter.conn) talks) sets in
    let set = set-stands old new state letter.conn (λ (l : Line). over) stands sets_over in
    subst (λ (m : List Move). Called port arrivals new state later (called (close letter.conn) ∷ (m ++ before))) (sym made)
    (record {
      after = after;
      course = calls (called (send letter.conn letter.bytes false) ∷ before) half after (close letter.conn)
          (calls before state half (send letter.conn letter.bytes false) course
          (record { later = left; due = first-due old state letter later stands talks due; is = refl }))
          (record { later = deliverable half.lines left; due = refl; is = refl });
      stands = record { lines = set.lines; homes = set.homes; given = set.given; serves = set.serves };
      due = filter-twice (is_deliverable state.lines) (is_deliverable half.lines) later (fewer-due state letter.conn);
      continues = record { left = refl; broken = refl; reading = refl };
    })

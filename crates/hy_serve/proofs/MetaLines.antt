-- Lemmas on the connections that the metadata server keeps.
use Rattle.std.proofs.Common.{rules, ◌≡◌, ◌==◌, ℕ, Bool, true, false, Option, Some, None, refl, sym, ap, subst, ◌∙◌, cond}
use Rattle.std.proofs.lemmas.Bool.{cases_Bool, cond-true, cond-false, eqb-true}
use Rattle.std.proofs.Math.Logic.{⊎_elim}
use Rattle.std.specs.Prelude.{if◌then◌else◌}
use Rattle.std.specs.Ordering.{nat_cmp}
use Rattle.std.specs.BTreeMap as tree
use Rattle.std.specs.BTreeMap.{BTreeMap}
use Rattle.std.specs.Option.{IsSome, is_some}
use Rattle.hy_mwire.specs.Stream.{Unread, fresh_stream}
use Rattle.hy_serve.specs.declared.meta_lines.MetaLine.{MetaLine}
use Rattle.hy_serve.specs.declared.meta_lines.Session.TheVariants.{Unasked}
use Rattle.hy_serve.specs.declared.meta_server.MetaServer.{MetaServer}
use Rattle.hy_serve.specs.MetaRole.{Line, unopened, talking, opened, closed, is_talking}
use Rattle.hy_serve.specs.MetaLines.{seen}
use Rattle.hy_serve.specs.MetaStanding.{line_of, SetsLine}
use Rattle.hy_serve.proofs.Tables.{put-at}

abbrev pub Lines : Type 0
Lines = BTreeMap ℕ (Option MetaLine)

abbrev pub Held : Type 0
Held = Option (Option MetaLine)

-- the server with these connections
abbrev pub with_lines : MetaServer → Lines → MetaServer
with_lines server lines = record { lines = lines; homes = server.homes; service = server.service }

seen-choice : (b : Bool) (x y : Held) → seen (cond b x y) ≡ cond b (seen x) (seen y)
seen-choice true x y = refl
seen-choice false x y = refl

written : (old : MetaServer) (lines : Lines) (conn : ℕ) (held : Option MetaLine) → tree.UpdatesBy nat_cmp (nat_cmp conn) old.lines lines (Some held)
    → (c : ℕ) → line_of (with_lines old lines) c ≡ (if conn == c then seen (Some held) else line_of old c)
unfolding line_of
written old lines conn held updates c = ap seen (put-at old.lines lines conn held updates c) ∙ seen-choice (conn == c) (Some held) (tree.get nat_cmp old.lines c)

is-some : (held : Held) (was : Option MetaLine) → Some was ≡ held → IsSome held
is-some held was is = subst (λ (h : Held). IsSome h) is (search rules)

-- a connection that is known is changed
pub sets-known : (old : MetaServer) (lines : Lines) (conn : ℕ) (was now : Option MetaLine) (change : Line → Line) → Some was ≡ tree.get nat_cmp old.lines conn
    → (IsSome (tree.get nat_cmp old.lines conn) → tree.UpdatesBy nat_cmp (nat_cmp conn) old.lines lines (Some now))
    → seen (Some now) ≡ change (seen (Some was)) → SetsLine old (with_lines old lines) conn (change (line_of old conn))
unfolding line_of
sets-known old lines conn was now change is updates changed = record {
  lines = λ c.
      written old lines conn now (updates (is-some (tree.get nat_cmp old.lines conn) was is)) c
      ∙ ap (λ (l : Line). if conn == c then l else line_of old c) (changed ∙ ap (λ (held : Held). change (seen held)) is);
  homes = refl;
  service = refl;
}

-- a change that leaves the connection as it is
pub same-line : (lines : ℕ → Line) (conn c : ℕ) (line : Line) → line ≡ lines conn → lines c ≡ (if conn == c then line else lines c)
same-line lines conn c line is = ⊎_elim
    (λ y. ap lines (sym (eqb-true conn c y)) ∙ sym is ∙ sym (cond-true (conn == c) line (lines c) y))
    (λ n. sym (cond-false (conn == c) line (lines c) n))
    (cases_Bool (conn == c))

-- a connection that is not known stays so
pub sets-unknown : (old : MetaServer) (lines : Lines) (conn : ℕ) (change : Line → Line) → lines ≡ old.lines → None ≡ tree.get nat_cmp old.lines conn
    → change unopened ≡ unopened → SetsLine old (with_lines old lines) conn (change (line_of old conn))
unfolding line_of
sets-unknown old lines conn change same none stays = record {
  lines = λ c.
      ap (λ (m : Lines). seen (tree.get nat_cmp m c)) same
      ∙ same-line (line_of old) conn c (change (line_of old conn))
      (ap (λ (held : Held). change (seen held)) (sym none) ∙ stays ∙ ap seen none);
  homes = refl;
  service = refl;
}

-- ---- a connection opens

fresh-line : (held : Held) → is_some held ≡ false → seen held ≡ unopened
fresh-line None none = refl
fresh-line (Some was) none = absurd (let e : true ≡ false = none in cc)

known-line : (held : Held) → is_some held ≡ true → opened (seen held) ≡ seen held
known-line None some = absurd (let e : false ≡ true = some in cc)
known-line (Some None) some = refl
known-line (Some (Some line)) some = refl

pub sets-opened : (old : MetaServer) (lines : Lines) (conn : ℕ) (reader : Unread) → is_some (tree.get nat_cmp old.lines conn) ≡ false → reader ≡ fresh_stream
    → tree.UpdatesBy nat_cmp (nat_cmp conn) old.lines lines (Some (Some (record { session = Unasked; reader = reader }))) → SetsLine old (with_lines old lines) conn (opened (line_of old conn))
unfolding line_of
sets-opened old lines conn reader none fresh updates = record {
  lines = λ c.
      written old lines conn (Some (record { session = Unasked; reader = reader })) updates c
      ∙ ap (λ (l : Line). if conn == c then l else line_of old c)
      (ap (talking Unasked) fresh ∙ ap opened (sym (fresh-line (tree.get nat_cmp old.lines conn) none)));
  homes = refl;
  service = refl;
}

pub sets-again : (server : MetaServer) (conn : ℕ) → is_some (tree.get nat_cmp server.lines conn) ≡ true → SetsLine server server conn (opened (line_of server conn))
unfolding line_of
sets-again server conn some = record {
  lines = λ c. same-line (line_of server) conn c (opened (line_of server conn)) (known-line (tree.get nat_cmp server.lines conn) some);
  homes = refl;
  service = refl;
}

-- ---- a connection closes

pub closed-known : (was : Option MetaLine) → seen (Some None) ≡ closed (seen (Some was))
closed-known None = refl
closed-known (Some line) = refl

-- a connection that is held is open where there is something inside
pub talks-where-some : (was : Option MetaLine) → is_some was ≡ is_talking (seen (Some was))
talks-where-some None = refl
talks-where-some (Some line) = refl

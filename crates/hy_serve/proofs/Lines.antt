-- Lemmas on the connections that a cloud's server keeps.
use Rattle.std.proofs.Common.{rules, ◌≡◌, ◌==◌, ℕ, true, false, List, [], Option, Some, None, refl, sym, ap, subst, ◌∙◌, eq-eqb}
use Rattle.std.proofs.lemmas.Bool.{cond-true, cond-false}
use Rattle.std.specs.Prelude.{if◌then◌else◌}
use Rattle.std.specs.Ordering.{nat_cmp}
use Rattle.std.specs.BTreeMap as tree
use Rattle.std.specs.BTreeMap.{BTreeMap}
use Rattle.std.specs.Option.{IsSome, is_some}
use Rattle.hy_cwire.specs.declared.ask_head.AskHead.{AskHead}
use Rattle.hy_cwire.specs.declared.progress.Progress.{Progress}
use Rattle.hy_cwire.specs.declared.progress.Progress.TheVariants.{Head}
use Rattle.hy_cwire.specs.Readers.{IsAskAt}
use Rattle.hy_serve.specs.declared.cloud_lines.Reading.{Reading}
use Rattle.hy_serve.specs.declared.cloud_lines.Reading.TheVariants.{Partial}
use Rattle.hy_serve.specs.declared.cloud_server.CloudServer.{CloudServer}
use Rattle.hy_serve.specs.CloudRole.{Line, unopened, over, opened, closed}
use Rattle.hy_serve.specs.CloudStanding.{HeldLine, line_at, IsWaiting, HoldsLine, SetsLine, ReadsLine, ReadsOn, ReadsAt}
use Rattle.hy_serve.proofs.Tables.{put-at}

abbrev pub Lines : Type 0
Lines = BTreeMap ℕ (Option (Progress AskHead))

-- the server with these connections
abbrev pub with_lines : CloudServer → Lines → CloudServer
with_lines server lines = record { lines = lines; cloud = server.cloud }

pub written : (old : CloudServer) (lines : Lines) (conn : ℕ) (held : Option (Progress AskHead)) → tree.UpdatesBy nat_cmp (nat_cmp conn) old.lines lines (Some held)
    → (c : ℕ) → line_at (with_lines old lines) c ≡ (if conn == c then Some held else line_at old c)
unfolding line_at
written old lines conn held updates c = put-at old.lines lines conn held updates c

pub written-here : (old : CloudServer) (lines : Lines) (conn : ℕ) (held : Option (Progress AskHead)) → tree.UpdatesBy nat_cmp (nat_cmp conn) old.lines lines (Some held)
    → line_at (with_lines old lines) conn ≡ Some held
written-here old lines conn held updates = written old lines conn held updates conn ∙ cond-true (conn == conn) _ _ (eq-eqb conn conn refl)

pub written-else : (old : CloudServer) (lines : Lines) (conn : ℕ) (held : Option (Progress AskHead)) → tree.UpdatesBy nat_cmp (nat_cmp conn) old.lines lines (Some held)
    → (c : ℕ) → (conn == c) ≡ false → line_at (with_lines old lines) c ≡ line_at old c
written-else old lines conn held updates c other = written old lines conn held updates c ∙ cond-false (conn == c) _ _ other

pub unchanged : (old : CloudServer) (lines : Lines) → lines ≡ old.lines → (c : ℕ) → line_at (with_lines old lines) c ≡ line_at old c
unfolding line_at
unchanged old lines same c = ap (λ (m : Lines). tree.get nat_cmp m c) same

-- ---- a connection opens

fresh-line : (held : HeldLine) (line : Line) → is_some held ≡ false → HoldsLine held line → line ≡ unopened
fresh-line None line none holds = holds
fresh-line (Some held) line none holds = absurd (let e : true ≡ false = none in cc)

known-line : (held : HeldLine) (line : Line) → is_some held ≡ true → HoldsLine held line → HoldsLine held (opened line)
known-line None line some holds = absurd (let e : false ≡ true = some in cc)
known-line (Some None) line some holds = ap opened holds
known-line (Some (Some progress)) line some holds = record { bytes = holds.bytes; is = ap opened holds.is; at = holds.at; waiting = holds.waiting }

pub sets-opened : (old : CloudServer) (lines : Lines) (conn : ℕ) (reader : Progress AskHead) → is_some (line_at old conn) ≡ false → reader ≡ Head [] → IsAskAt [] reader
    → tree.UpdatesBy nat_cmp (nat_cmp conn) old.lines lines (Some (Some reader)) → SetsLine old (with_lines old lines) conn opened
sets-opened old lines conn reader none fresh at updates = record {
  line = λ line holds.
      subst (λ (held : HeldLine). HoldsLine held (opened line)) (sym (written-here old lines conn (Some reader) updates))
      (record { bytes = []; is = ap opened (fresh-line (line_at old conn) line none holds); at = at; waiting = subst IsWaiting (sym fresh) tt });
  others = written-else old lines conn (Some reader) updates;
  cloud = refl;
}

pub sets-known : (server : CloudServer) (conn : ℕ) → is_some (line_at server conn) ≡ true → SetsLine server server conn opened
sets-known server conn some = record { line = λ line holds. known-line (line_at server conn) line some holds; others = λ c other. refl; cloud = refl }

-- ---- a connection closes

closed-line : (was : Option (Progress AskHead)) (line : Line) → HoldsLine (Some was) line → closed line ≡ over
closed-line None line holds = ap closed holds
closed-line (Some progress) line holds = ap closed holds.is

is-some : (held : HeldLine) (was : Option (Progress AskHead)) → Some was ≡ held → IsSome held
is-some held was is = subst (λ (h : HeldLine). IsSome h) is (search rules)

pub sets-closed : (old : CloudServer) (lines : Lines) (conn : ℕ) (was : Option (Progress AskHead)) → Some was ≡ line_at old conn
    → (IsSome (line_at old conn) → tree.UpdatesBy nat_cmp (nat_cmp conn) old.lines lines (Some None)) → SetsLine old (with_lines old lines) conn closed
sets-closed old lines conn was is updates =
    let wrote = updates (is-some (line_at old conn) was is) in record {
      line = λ line holds.
          subst (λ (held : HeldLine). HoldsLine held (closed line)) (sym (written-here old lines conn None wrote))
          (closed-line was line (subst (λ (held : HeldLine). HoldsLine held line) (sym is) holds));
      others = written-else old lines conn None wrote;
      cloud = refl;
    }

pub sets-absent : (old : CloudServer) (lines : Lines) (conn : ℕ) → lines ≡ old.lines → None ≡ line_at old conn → SetsLine old (with_lines old lines) conn closed
sets-absent old lines conn same none = record {
  line = λ line holds.
      subst (λ (held : HeldLine). HoldsLine held (closed line)) (none ∙ sym (unchanged old lines same conn))
      (ap closed (subst (λ (held : HeldLine). HoldsLine held line) (sym none) holds));
  others = λ c other. unchanged old lines same c;
  cloud = refl;
}

-- ---- bytes come

pub reads-known : (old : CloudServer) (lines : Lines) (conn : ℕ) (was now : Option (Progress AskHead)) (piece : List ℕ) (reading : Reading) → Some was ≡ line_at old conn
    → (IsSome (line_at old conn) → tree.UpdatesBy nat_cmp (nat_cmp conn) old.lines lines (Some now)) → ReadsOn was now piece reading
    → ReadsAt old (with_lines old lines) conn piece reading
reads-known old lines conn was now piece reading is updates reads =
    let wrote = updates (is-some (line_at old conn) was is) in record {
      line = λ line holds.
          subst (λ (held : HeldLine). ReadsLine line piece held reading) (sym (written-here old lines conn now wrote))
          (reads line (subst (λ (held : HeldLine). HoldsLine held line) (sym is) holds));
      others = written-else old lines conn now wrote;
      cloud = refl;
    }

pub reads-absent : (old : CloudServer) (lines : Lines) (conn : ℕ) (piece : List ℕ) → lines ≡ old.lines → None ≡ line_at old conn
    → ReadsAt old (with_lines old lines) conn piece Partial
reads-absent old lines conn piece same none = record {
  line = λ line holds.
      subst (λ (held : HeldLine). ReadsLine line piece held Partial) (none ∙ sym (unchanged old lines same conn))
      (subst (λ (l : Line). ReadsLine l piece None Partial) (sym (subst (λ (held : HeldLine). HoldsLine held line) (sym none) holds)) (refl, refl));
  others = λ c other. unchanged old lines same c;
  cloud = refl;
}
